-- What the loop that looks for an equal block keeps, and each way through its turns.
use Prim.Native.Nat.{ℕ, zero, suc, ◌+◌, ◌*◌, ◌≤◌, ◌<◌}
use mathlib.Core.Path.{◌≡◌, refl, sym, ap, ◌∙◌}
use mathlib.Core.Bool.{Bool, true, false, ◌&&◌, true≢false}
use Rattle.std.specs.Prelude.{Option}
use mathlib.Core.List.{List, [], ◌∷◌}
use native.Mathlib.Omega.{arith}
use lib.ListN.{length, get_or, length-append}
use lib.Dec.{eqb}
use borrow.Author.Tests.{eqb-true, eq-eqb}
use Rattle.meaning.specs.Words.{words, eq_list}
use Rattle.meaning.specs.Packed.{together}
use Rattle.laws.specs.Stands.{Stands, front, back, moved, words_back}
use Rattle.laws.specs.Repeats.{list_same}
use Rattle.known_blocks.specs.Book.{Listed, Booked, start_of, alike, where_in, Found}
use Rattle.known_blocks.proofs.Comparing.{start_near, start_past}

words_length : (s : List ℕ) (at n : ℕ) → length (words s at n) ≡ n
unfolding words
words_length s at zero = refl
words_length s at (suc n) = ap suc (words_length s (at + 2) n)

module _ (area book : List ℕ) (first p n : ℕ) where
  abbrev b : List ℕ
  b = words area p n

  -- what is left of the blocks `ds` at the i-th one, which stands behind `before` words: the answer for them is the whole answer
  pub record Rest (left : ℕ → Option (List ℕ)) (ds : List (List ℕ)) (i : ℕ) : Type 0 where
    pub before : ℕ
    pub blocks : List (List ℕ)
    pub many : i + length blocks ≡ length ds
    pub listed : Listed left book (1 + i) before blocks
    pub laid : Stands area (first + 2 * before) (together blocks)
    pub end : p ≡ first + 2 * before + 2 * length (together blocks)
    pub whole : where_in p (first + 2 * before) blocks b ≡ where_in p first ds b

  pub record Seeking (i : ℕ) : Type 0 where
    pub rest : {left : ℕ → Option (List ℕ)} {ds : List (List ℕ)} → Booked left ds book → Stands area first (together ds) → p ≡ first + 2 * length (together ds) → Rest left ds i

  pub seeking_all : Seeking 0
  seeking_all = record {
    rest = λ {left} {ds} k l e.
        let here : first ≡ first + 2 * 0 = omega arith in
        record { before = 0; blocks = ds; many = omega arith; listed = k.listed; laid = moved (first + 2 * 0) l here; end = omega (arith, e); whole = ap (λ (at : ℕ). where_in p at ds b) (sym here) };
  }

  -- the i-th block: where it starts and ends, and that it is equal exactly if the code says so
  module _ (left : ℕ → Option (List ℕ)) (d : List ℕ) (before i : ℕ) where
    start_is : (ds : List (List ℕ)) → i < get_or book 0 0 → Listed left book (1 + i) before (d ∷ ds) → start_of book first p i ≡ first + 2 * before
    start_is ds l g = start_near book first p i l ∙ ap (λ (w : ℕ). first + 2 * w) g.0

    end_is : (ds : List (List ℕ)) → i + length (d ∷ ds) ≡ get_or book 0 0 → Listed left book (1 + i) before (d ∷ ds) → p ≡ first + 2 * before + 2 * length (together (d ∷ ds)) → start_of book first p (i + 1) ≡ first + 2 * (before + length d)
    unfolding together
    end_is [] m g e = start_past book first p (i + 1) (omega (arith, m)) ∙ omega (arith, e, length-append d [])
    end_is (x ∷ ds) m g e =
        let next : 1 + i + 1 ≡ 1 + (i + 1) = omega arith in
        start_near book first p (i + 1) (omega (arith, m)) ∙ ap (λ (w : ℕ). first + 2 * w) (rw next at g.2.0)

    pub alike_is : (ds : List (List ℕ)) → i + length (d ∷ ds) ≡ get_or book 0 0 → Listed left book (1 + i) before (d ∷ ds) → Stands area (first + 2 * before) (together (d ∷ ds)) → p ≡ first + 2 * before + 2 * length (together (d ∷ ds)) → alike area book first p n i ≡ eq_list d b
    unfolding alike together
    alike_is ds m g h e = step (eqb (start_of book first p (i + 1)) (start_of book first p i + 2 * n)) (eq_list d b) refl refl
      where
        starts : start_of book first p i ≡ first + 2 * before
        starts = start_is ds (omega (arith, m)) g

        ends : start_of book first p (i + 1) ≡ first + 2 * (before + length d)
        ends = end_is ds m g e

        step : (x z : Bool) → eqb (start_of book first p (i + 1)) (start_of book first p i + 2 * n) ≡ x → eq_list d b ≡ z → x && eq_list (words area (start_of book first p i) n) b ≡ z
        step true z u w =
            let k : n ≡ length d = omega (arith, starts, ends, eqb-true (start_of book first p (i + 1)) (start_of book first p i + 2 * n) u) in
            let m : words area (start_of book first p i) n ≡ d = ap (λ (at : ℕ). words area at n) starts ∙ ap (words area (first + 2 * before)) k ∙ words_back d (front d (together ds) h) in
            ap (λ (x : List ℕ). eq_list x b) m ∙ w
        step false true u w =
            let k : length d ≡ n = ap length (list_same d b w) ∙ words_length area p n in
            let m : start_of book first p (i + 1) ≡ start_of book first p i + 2 * n = omega (arith, starts, ends, k) in
            absurd (true≢false (sym (eq-eqb _ _ m) ∙ u))
        step false false u w = refl

  module _ {i : ℕ} (c : Seeking i) (l : i < get_or book 0 0) {r : Bool} (q : r ≡ alike area book first p n i) where
    pub seeking_found : {at : ℕ} → r ≡ true → at ≡ start_of book first p i → Found area book first p n at
    unfolding where_in
    seeking_found {at} t a = record {
      above = omega (arith, a, start_near book first p i l);
      is = λ {left} {ds} k h e. let g = c.rest k h e in step left g.before g.blocks (g.many ∙ sym k.count) g.listed g.laid g.end g.whole;
    }
      where
        step : (left : ℕ → Option (List ℕ)) {w : ℕ} (before : ℕ) (ds : List (List ℕ)) → i + length ds ≡ get_or book 0 0 → Listed left book (1 + i) before ds → Stands area (first + 2 * before) (together ds) → p ≡ first + 2 * before + 2 * length (together ds)
            → where_in p (first + 2 * before) ds b ≡ w → at ≡ w
        step left before [] m g h e v = absurd (omega (arith, m))
        step left before (d ∷ ds) m g h e v = a ∙ start_is left d before i ds l g ∙ sym (rw (sym (alike_is left d before i ds m g h e) ∙ sym q ∙ t) refl) ∙ v

    pub seeking_turn : r ≡ false → Seeking (i + 1)
    unfolding where_in together
    seeking_turn t = record { rest = λ {left} {ds} k h e. let g = c.rest k h e in step ds g.before g.blocks (g.many ∙ sym k.count) k.count g.listed g.laid g.end g.whole }
      where
        step : {left : ℕ → Option (List ℕ)} (all : List (List ℕ)) (before : ℕ) (ds : List (List ℕ)) → i + length ds ≡ get_or book 0 0 → get_or book 0 0 ≡ length all → Listed left book (1 + i) before ds → Stands area (first + 2 * before) (together ds)
            → p ≡ first + 2 * before + 2 * length (together ds) → where_in p (first + 2 * before) ds b ≡ where_in p first all b → Rest left all (i + 1)
        step all before [] m a g h e w = absurd (omega (arith, m))
        step {left} all before (d ∷ ds) m a g h e w =
            let n : eq_list d b ≡ false = sym (alike_is left d before i ds m g h e) ∙ sym q ∙ t in
            let next : 1 + i + 1 ≡ 1 + (i + 1) = omega arith in
            let past : first + 2 * before + 2 * length d ≡ first + 2 * (before + length d) = omega arith in
            record {
              before = before + length d;
              blocks = ds;
              many = omega (arith, m, a);
              listed = rw next at g.2;
              laid = moved (first + 2 * (before + length d)) (back d (together ds) h) past;
              end = omega (arith, e, length-append d (together ds));
              whole = ap (λ (at : ℕ). where_in p at ds b) (sym past) ∙ sym (rw n refl) ∙ w;
            }

  pub seeking_end : {i : ℕ} → Seeking i → first ≤ p → get_or book 0 0 ≤ i → Found area book first p n p
  unfolding where_in
  seeking_end {i} c f l = record { above = f; is = λ {left} {ds} k h e. let g = c.rest k h e in step (first + 2 * g.before) g.blocks (g.many ∙ sym k.count) g.whole }
    where
      step : {w : ℕ} (at : ℕ) (ds : List (List ℕ)) → i + length ds ≡ get_or book 0 0 → where_in p at ds b ≡ w → p ≡ w
      step at [] m v = v
      step at (d ∷ ds) m v = absurd (omega (arith, m))
