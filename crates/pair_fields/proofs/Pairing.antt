-- What the loops over the fields of a pair and over the pairs of a set keep.
use Prim.Native.Nat.{ℕ, suc, ◌+◌, ◌-◌, ◌*◌, ◌≤◌, ◌<◌}
use mathlib.Core.Path.{◌≡◌, refl, sym, ap, ◌∙◌}
use mathlib.Core.Bool.{Bool, true, false, ◌&&◌, ◌||◌, not}
use Rattle.std.specs.Prelude.{None, Some}
use mathlib.Core.List.{List, [], ◌∷◌, ◌++◌, map, append_assoc, append-nil}
use native.Mathlib.Nat.{mul-suc}
use native.Mathlib.Omega.{arith}
use lib.ListN.{length, get_or, drop, length-append, drop_of_length-le}
use lib.Seq.{sets, length-sets, drop-cons}
use lib.Dec.{eqb}
use borrow.Author.Tests.{ne_eqb}
use Rattle.meaning.specs.Words.{word, bytes2, find, is_some, bind, push}
use Rattle.meaning.specs.Cut.{unless_empty}
use Rattle.meaning.specs.Layout.{block}
use Rattle.laws.specs.Members.{words_left}
use Rattle.laws.specs.Written.{flat_one}
use Rattle.area.specs.Extends.{Extends, extends_none, extends_said, extends_more, extends_keeps, keeps_less}
use Rattle.numbers.specs.Leaves.{Leaves, leaves_full, leaves_none, leaves_words}
use Rattle.numbers.proofs.Fronts.{extends_one, extends_before}
use Rattle.pair_fields.specs.Pairs.{value_at, field_used, pairs_in, rows, pair_set_of, pairs_left, pairs_most}

-- What the loop of `write_values` keeps.
pub record Valuing (s : List ℕ) (p : ℕ) (places area₀ : List ℕ) (pos : ℕ) (area : List ℕ) (i : ℕ) : Type 0 where
  pub within : i ≤ length places
  pub room : pos + 2 * length places ≤ length area
  pub same : length area ≡ length area₀
  pub done : List ℕ
  pub left : done ++ map (value_at s p) (drop i places) ≡ map (value_at s p) places
  pub extends : Extends area₀ pos done area (pos + 2 * i)

module _ {s : List ℕ} {p : ℕ} {places area₀ : List ℕ} {pos : ℕ} where
  pub valuing_all : pos + 2 * length places ≤ length area₀ → Valuing s p places area₀ pos area₀ 0
  valuing_all h =
      let d : pos + 2 * 0 ≡ pos = omega arith in
      record { within = omega arith; room = h; same = refl; done = []; left = refl; extends = rw d (extends_none {a = area₀} {p = pos} (omega arith)) }

  pub valuing_turn : {area next : List ℕ} {i v r : ℕ} → Valuing s p places area₀ pos area i → i < length places → v ≡ value_at s p (get_or places i 0)
      → (r ≡ pos + 2 * i + 2) × (next ≡ sets area (pos + 2 * i) (bytes2 v)) → Valuing s p places area₀ pos next (i + 1)
  valuing_turn {area} {next} {i} {v} {r} c h e o =
      let x : Extends area₀ pos (c.done ++ (v ∷ [])) next r = extends_one c.extends v (omega (arith, c.room, c.same)) o in
      let d : r ≡ pos + 2 * (i + 1) = omega (arith, o.0) in
      let one : i + 1 ≡ suc i = omega arith in
      record {
        within = omega arith;
        room = omega (arith, c.room, c.same, x.same);
        same = x.same;
        done = c.done ++ (v ∷ []);
        left = append_assoc c.done (v ∷ []) (map (value_at s p) (drop (i + 1) places)) ∙ rw (one, e) (rw (drop-cons places i 0 h) at c.left);
        extends = rw d at x;
      }

  pub valuing_end : {area : List ℕ} {i : ℕ} → Valuing s p places area₀ pos area i → length places ≤ i → Extends area₀ pos (map (value_at s p) places) area (pos + 2 * length places)
  valuing_end {area} {i} c h =
      let e : pos + 2 * i ≡ pos + 2 * length places = omega (arith, c.within) in
      let d : c.done ≡ map (value_at s p) places = sym (append-nil c.done) ∙ rw (drop_of_length-le places h) at c.left in
      extends_said (rw e at c.extends) d

-- a pair: the glyph, and the values behind it
pub pair_room : (before : List ℕ) (pos new n : ℕ) {middle : List ℕ} {q : ℕ} → pos + 2 + n ≤ length before → (q ≡ pos + 2) × (middle ≡ sets before pos (bytes2 new)) → q + n ≤ length middle
pair_room before pos new n h o = omega (arith, o.0, ap length o.1, length-sets before pos (bytes2 new))

pub pair_put : {before middle after vs : List ℕ} {pos new q r : ℕ} → pos + 2 ≤ length before → (q ≡ pos + 2) × (middle ≡ sets before pos (bytes2 new)) → Extends middle q vs after r → Extends before pos (new ∷ vs) after r
pair_put {new = new} l o x = extends_more (extends_one (extends_none (omega arith)) new l o) x

-- rows put together
rows_append : (xs ys : List (List ℕ)) → rows (xs ++ ys) ≡ rows xs ++ rows ys
unfolding rows
rows_append [] ys = refl
rows_append (x ∷ xs) ys = ap (λ (l : List ℕ). x ++ l) (rows_append xs ys) ∙ sym (append_assoc x (rows xs) (rows ys))

rows_one : (w : List ℕ) → rows (w ∷ []) ≡ w
unfolding rows
rows_one w = append-nil w

-- one record less
mul_left : (size n i : ℕ) → i < n → size * (n - i) ≡ size * (n - (i + 1)) + size
mul_left size n i h =
    let e : n - i ≡ suc (n - (i + 1)) = omega arith in
    ap (λ (x : ℕ). size * x) e ∙ mul-suc size (n - (i + 1))

-- a front of pairs takes no more than what is left of the set
front_most : (all done rest : List (List ℕ)) → done ++ rest ≡ all → length (rows done) ≤ length (words_left (λ ws. ws) (block pair_set_of (unless_empty all)))
unfolding block unless_empty words_left pair_set_of rows
front_most [] [] rest e = omega arith
front_most [] (d ∷ done) rest e = absurd (omega (arith, ap length e))
front_most (a ∷ all) done rest e = omega (arith, ap (λ (l : List (List ℕ)). length (rows l)) e, ap length (rows_append done rest), length-append (rows done) (rows rest))

-- no pairs, no set; else their set
empty : (l : List (List ℕ)) → length l ≡ 0 → block pair_set_of (unless_empty l) ≡ None
unfolding block unless_empty
empty [] v = refl
empty (x ∷ l) v = absurd (omega arith)

some_left : (l : List (List ℕ)) → (length l ≡ 0 → ⊥) → block pair_set_of (unless_empty l) ≡ Some (length l ∷ rows l)
unfolding block unless_empty pair_set_of
some_left [] v = absurd (v refl)
some_left (x ∷ l) v = refl

-- What the loop of `write_pairs` keeps.
pub record Pairing (g : List (ℕ × ℕ)) (s : List ℕ) (size : ℕ) (places : List ℕ) (at n : ℕ) (area₀ : List ℕ) (pos : ℕ) (area : List ℕ) (k q p i : ℕ) : Type 0 where
  pub within : i ≤ n
  pub fewer : k ≤ i
  pub inside : p + size * (n - i) ≤ length s
  pub behind : pos + 2 ≤ q
  pub room : q ≤ length area
  pub same : length area ≡ length area₀
  pub done : List (List ℕ)
  pub count : length done ≡ k
  pub left : done ++ pairs_in g s size places p (n - i) ≡ pairs_in g s size places (at + 2) n
  pub extends : Extends area₀ (pos + 2) (rows done) area q

module _ {g : List (ℕ × ℕ)} {s : List ℕ} {size : ℕ} {places : List ℕ} {at n : ℕ} {area₀ : List ℕ} {pos : ℕ} where
  pub pairing_all : n ≡ word s at → at + 2 + size * word s at ≤ length s → pos + 2 ≤ length area₀ → Pairing g s size places at n area₀ pos area₀ 0 (pos + 2) (at + 2) 0
  unfolding rows
  pairing_all w h l =
      let e : n - 0 ≡ n = omega arith in
      record {
        within = omega arith;
        fewer = omega arith;
        inside = rw (e, w) h;
        behind = omega arith;
        room = l;
        same = refl;
        done = [];
        count = refl;
        left = rw e;
        extends = extends_none l;
      }

  module _ {area : List ℕ} {k q p i : ℕ} (c : Pairing g s size places at n area₀ pos area k q p i) where
    module _ (h : i < n) where
      -- the record lies inside
      pub pairing_inside : p + size ≤ length s
      pairing_inside = omega (arith, c.inside, mul_left size n i h)

      later : p + size + size * (n - (i + 1)) ≤ length s
      later = omega (arith, c.inside, mul_left size n i h)

      first : {x : ℕ} → x ≡ word s p → c.done ++ push (bind (find g x) (λ y. Some (y ∷ map (value_at s p) places))) (pairs_in g s size places (p + size) (n - (i + 1))) ≡ pairs_in g s size places (at + 2) n
      unfolding pairs_in
      first e =
          let d : n - i ≡ suc (n - (i + 1)) = omega arith in
          rw e (rw d at c.left)

      pub pairing_gone : {x : ℕ} → x ≡ word s p → find g x ≡ None → Pairing g s size places at n area₀ pos area k q (p + size) (i + 1)
      unfolding bind push
      pairing_gone e f = record {
        within = omega arith;
        fewer = omega (arith, c.fewer);
        inside = later;
        behind = c.behind;
        room = c.room;
        same = c.same;
        done = c.done;
        count = c.count;
        left = rw f at (first e);
        extends = c.extends;
      }

      pub pairing_one : {x y r : ℕ} {next : List ℕ} → x ≡ word s p → find g x ≡ Some y → Extends area q (y ∷ map (value_at s p) places) next r
          → Pairing g s size places at n area₀ pos next (k + 1) r (p + size) (i + 1)
      unfolding bind push
      pairing_one {x} {y} {r} {next} e f o =
          let ws = y ∷ map (value_at s p) places in
          record {
            within = omega arith;
            fewer = omega (arith, c.fewer);
            inside = later;
            behind = omega (arith, c.behind, o.place);
            room = omega (arith, o.room, o.same);
            same = o.same ∙ c.same;
            done = c.done ++ (ws ∷ []);
            count = omega (arith, length-append c.done (ws ∷ []), c.count);
            left = append_assoc c.done (ws ∷ []) (pairs_in g s size places (p + size) (n - (i + 1))) ∙ rw f at (first e);
            extends = extends_said (extends_more c.extends o) (sym (rows_append c.done (ws ∷ []) ∙ ap (λ (l : List ℕ). rows c.done ++ l) (rows_one ws)));
          }

    -- there is no room for one pair more
    pub pairing_full : {r : ℕ} → n ≡ word s at → length area < q + (2 + 2 * length places) → length area < r
        → Leaves area₀ pos (pairs_left g s size places at) (pairs_most (pairs_left g s size places at) places) area r
    unfolding pairs_left pairs_most
    pairing_full e h l =
        leaves_full c.same (omega (arith, c.same))
        (omega (arith, c.same, c.extends.place, front_most (pairs_in g s size places (at + 2) (word s at)) c.done (pairs_in g s size places p (n - i)) (c.left ∙ ap (λ (x : ℕ). pairs_in g s size places (at + 2) x) e)))

    module _ (e : n ≡ word s at) (h : n ≤ i) where
      whole : c.done ≡ pairs_in g s size places (at + 2) (word s at)
      unfolding pairs_in
      whole =
          let d : n - i ≡ 0 = omega arith in
          sym (append-nil c.done) ∙ rw d at c.left ∙ ap (λ (x : ℕ). pairs_in g s size places (at + 2) x) e

      left_is : block pair_set_of (unless_empty c.done) ≡ pairs_left g s size places at
      unfolding pairs_left
      left_is = ap (λ (l : List (List ℕ)). block pair_set_of (unless_empty l)) whole

      -- no pair is left
      pub pairing_none : {m : ℕ} → k ≡ 0 → Leaves area₀ pos (pairs_left g s size places at) m area 0
      pairing_none z = leaves_none (sym left_is ∙ empty c.done (c.count ∙ z)) (keeps_less (omega arith) (extends_keeps c.extends))

      -- the count is put before the pairs
      pub pairing_end : {m r : ℕ} {after : List ℕ} → (k ≡ 0 → ⊥) → (r ≡ pos + 2) × (after ≡ sets area pos (bytes2 k)) → Leaves area₀ pos (pairs_left g s size places at) m after q
      pairing_end {m} {r} {after} z o = leaves_words (sym left_is ∙ some_left c.done (λ v. z (sym c.count ∙ v)))
          (extends_before (length c.done ∷ []) c.extends refl (o.1 ∙ ap (sets area pos) (ap bytes2 (sym c.count) ∙ sym (flat_one (length c.done)))))

-- What the loop of `field_used` keeps: the answer for the records from the i-th on is the whole answer.
pub record Using (g : List (ℕ × ℕ)) (s : List ℕ) (size place at n i : ℕ) : Type 0 where
  pub inside : at + 2 + size * i + size * (n - i) ≤ length s
  pub rest : field_used g s size place (at + 2 + size * i) (n - i) ≡ field_used g s size place (at + 2) (word s at)

module _ {g : List (ℕ × ℕ)} {s : List ℕ} {size place at n : ℕ} where
  pub using_all : n ≡ word s at → at + 2 + size * word s at ≤ length s → Using g s size place at n 0
  using_all e h =
      let p : at + 2 + size * 0 ≡ at + 2 = omega arith in
      let d : n - 0 ≡ n = omega arith in
      record { inside = rw (p, d, e) h; rest = rw (p, d, e) }

  module _ {i : ℕ} (c : Using g s size place at n i) where
    pub using_end : n ≤ i → false ≡ field_used g s size place (at + 2) (word s at)
    unfolding field_used
    using_end h =
        let e : n - i ≡ 0 = omega arith in
        rw e at c.rest

    module _ (h : i < n) where
      pub using_inside : at + 2 + size * i + size ≤ length s
      using_inside = omega (arith, c.inside, mul_left size n i h)

      now_is : {u : Bool} → u ≡ not (eqb (value_at s (at + 2 + size * i) place) 0) && is_some (find g (word s (at + 2 + size * i)))
          → u || field_used g s size place (at + 2 + size * (i + 1)) (n - (i + 1)) ≡ field_used g s size place (at + 2) (word s at)
      unfolding field_used
      now_is e =
          let d : n - i ≡ suc (n - (i + 1)) = omega arith in
          let p : at + 2 + size * (i + 1) ≡ at + 2 + size * i + size = omega arith in
          rw (e, p) (rw d at c.rest)

      pub using_found : {u : Bool} → u ≡ not (eqb (value_at s (at + 2 + size * i) place) 0) && is_some (find g (word s (at + 2 + size * i))) → u ≡ true → true ≡ field_used g s size place (at + 2) (word s at)
      using_found e t = rw t at (now_is e)

      pub using_next : {u : Bool} → u ≡ not (eqb (value_at s (at + 2 + size * i) place) 0) && is_some (find g (word s (at + 2 + size * i))) → u ≡ false → Using g s size place at n (i + 1)
      using_next e t = record { inside = omega (arith, c.inside, mul_left size n i h); rest = rw t at (now_is e) }

-- `speaks`, where the value is not 0
pub speaks_if : (g : List (ℕ × ℕ)) (s : List ℕ) (p place : ℕ) {v : ℕ} → v ≡ value_at s p place → (v ≡ 0 → ⊥) → {x : ℕ} → x ≡ word s p → {b : Bool} → b ≡ is_some (find g x)
    → b ≡ not (eqb (value_at s p place) 0) && is_some (find g (word s p))
speaks_if g s p place e z w f = rw (ne_eqb (value_at s p place) 0 (λ q. z (e ∙ q)), ← w) f
