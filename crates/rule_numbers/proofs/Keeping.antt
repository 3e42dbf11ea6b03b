-- What the search for a number keeps, and what a new number changes.
use Prim.Native.Nat.{ℕ, zero, suc, ◌+◌, ◌*◌, ◌≤◌, ◌<◌}
use mathlib.Core.Path.{◌≡◌, refl, sym, ap, ◌∙◌}
use mathlib.Core.Bool.{Bool, true, false}
use mathlib.Core.List.{List, [], ◌∷◌}
use Rattle.std.specs.Prelude.{None, Some}
use native.Mathlib.Decide.{dec_lt}
use native.Mathlib.Omega.{arith}
use lib.ListN.{length, get_or, set, length-set}
use lib.Seq.{get_or-set_same, get_or-set_other}
use lib.Dec.{eqb}
use borrow.Author.Tests.{eqb-true, eqb-false}
use Rattle.rule_numbers.specs.Book.{filled, count, code_at, older_at, Is, Sought, Firsts, Book, Numbered, Added}

positive : (n : ℕ) → (n ≡ 0 → ⊥) → 0 < n
positive zero h = absurd (h refl)
positive (suc n) h = omega arith

module _ {A : Type 0} (says : ℕ → A) (print : A → ℕ) where
  -- what the loop of `seek` keeps: k is on the chain of the print, or 0, and no number after k is what is sought
  pub record Seeking (came : List ℕ) (c k : ℕ) : Type 0 where
    pub live : (k ≡ 0 → ⊥) → Is came k × (print (says (code_at came k)) ≡ print (says c))
    pub past : (j : ℕ) → Is came j → k < j → says (code_at came j) ≡ says c → ⊥

module _ {A : Type 0} {says : ℕ → A} {print : A → ℕ} where
  module _ {came : List ℕ} {c : ℕ} (f : Firsts says print came) where
    pub seeking_all : {k : ℕ} → print (says c) < 65536 → k ≡ get_or came (print (says c)) 0 → Seeking says print came c k
    seeking_all {k} b e = record {
      live = λ n. rw e (f.chained (print (says c)) b (λ z. n (e ∙ z)));
      past = λ j i l s. let d = rw s at (f.latest j i) in omega (arith, d);
    }

    pub seeking_turn : {k n : ℕ} → Seeking says print came c k → (k ≡ 0 → ⊥) → (says (code_at came k) ≡ says c → ⊥) → n ≡ older_at came k → Seeking says print came c n
    seeking_turn {k} {n} w z d e = record {
      live = λ y. (
        record { some = positive n y; few = omega (arith, (f.linked k (w.live z).0).0, (w.live z).0.few) },
        rw e ((f.linked k (w.live z).0).1 (λ q. y (e ∙ q)) ∙ (w.live z).1),
      );
      past = λ j i l s. after j i l s (dec_lt k j) (dec_lt j k);
    }
      where
        after : (j : ℕ) → Is came j → n < j → says (code_at came j) ≡ says c → Dec (k < j) → Dec (j < k) → ⊥
        after j i l s (yes a) b = w.past j i a s
        after j i l s (no a) (yes b) = omega (arith, f.before j k i (w.live z).0 b (ap print s ∙ sym (w.live z).1))
        after j i l s (no a) (no b) =
            let q : j ≡ k = omega arith in
            d (rw q at s)

    pub seeking_found : {k : ℕ} → Seeking says print came c k → (k ≡ 0 → ⊥) → says (code_at came k) ≡ says c → Sought says came c (Some k)
    seeking_found w z e = ((w.live z).0, e)

    pub seeking_end : {k : ℕ} → Seeking says print came c k → k ≡ 0 → Sought says came c None
    seeking_end w z = λ j i s. w.past j i (omega (arith, i.some)) s

-- a cell that was 0 is filled
filled_set : (l : List ℕ) (i v : ℕ) → i < length l → get_or l i 0 ≡ 0 → 0 < v → filled (set l i v) ≡ suc (filled l)
unfolding filled
filled_set [] i v h z w = absurd (omega arith)
filled_set (a ∷ l) zero zero h z w = absurd (omega arith)
filled_set (a ∷ l) zero (suc v) h z w = rw z
filled_set (zero ∷ l) (suc i) v h z w = filled_set l i v (omega arith) z w
filled_set (suc a ∷ l) (suc i) v h z w = ap suc (filled_set l i v (omega arith) z w)

pub filled_few : (l : List ℕ) → filled l ≤ length l
unfolding filled
filled_few [] = omega arith
filled_few (zero ∷ l) = omega (arith, filled_few l)
filled_few (suc a ∷ l) = omega (arith, filled_few l)

-- the four cells that `add` writes
pub added : {came one two three four : List ℕ} {c p k old : ℕ} → 65538 + 2 * (count came + 1) ≤ length came → p < 65536 → k ≡ count came + 1 → old ≡ get_or came p 0
    → one ≡ set came 65536 k → two ≡ set one (65536 + 2 * k) c → three ≡ set two (65537 + 2 * k) old → four ≡ set three p k → Added came four c p
added {came} {one} {two} {three} {four} {c} {p} {k} {old} room b ek eo e1 e2 e3 e4 = record {
  count_is = at 65536 (λ q. omega arith) (λ q. omega arith) (λ q. omega arith) ∙ read 65536 e1 ∙ get_or-set_same came 65536 k 0 (omega arith) ∙ ek;
  code_new = ap (λ (n : ℕ). code_at four n) (sym ek) ∙ fourth (65536 + 2 * k) (λ q. omega arith) ∙ third (65536 + 2 * k) (λ q. omega arith) ∙ read (65536 + 2 * k) e2 ∙ get_or-set_same one (65536 + 2 * k) c 0 (omega (arith, size1));
  older_new = ap (λ (n : ℕ). older_at four n) (sym ek) ∙ fourth (65537 + 2 * k) (λ q. omega arith) ∙ read (65537 + 2 * k) e3 ∙ get_or-set_same two (65537 + 2 * k) old 0 (omega (arith, size2)) ∙ eo;
  code_old = λ j i. at (65536 + 2 * j) (λ q. omega (arith, i.few)) (λ q. omega (arith, i.few)) (λ q. omega arith) ∙ first (65536 + 2 * j) (λ q. omega (arith, i.some));
  older_old = λ j i. at (65537 + 2 * j) (λ q. omega (arith, i.few)) (λ q. omega (arith, i.few)) (λ q. omega arith) ∙ first (65537 + 2 * j) (λ q. omega arith);
  print_new = read p e4 ∙ get_or-set_same three p k 0 (omega (arith, size3)) ∙ ek;
  print_old = λ q l d. at q (λ e. omega arith) (λ e. omega arith) d ∙ first q (λ e. omega arith);
}
  where
    read : {l m : List ℕ} (q : ℕ) → l ≡ m → get_or l q 0 ≡ get_or m q 0
    read q e = ap (λ (l : List ℕ). get_or l q 0) e

    size1 : length one ≡ length came
    size1 = ap length e1 ∙ length-set came 65536 k

    size2 : length two ≡ length came
    size2 = ap length e2 ∙ length-set one (65536 + 2 * k) c ∙ size1

    size3 : length three ≡ length came
    size3 = ap length e3 ∙ length-set two (65537 + 2 * k) old ∙ size2

    -- what each write leaves
    first : (q : ℕ) → (q ≡ 65536 → ⊥) → get_or one q 0 ≡ get_or came q 0
    first q d = read q e1 ∙ get_or-set_other came 65536 q k 0 d

    second : (q : ℕ) → (q ≡ 65536 + 2 * k → ⊥) → get_or two q 0 ≡ get_or one q 0
    second q d = read q e2 ∙ get_or-set_other one (65536 + 2 * k) q c 0 d

    third : (q : ℕ) → (q ≡ 65537 + 2 * k → ⊥) → get_or three q 0 ≡ get_or two q 0
    third q d = read q e3 ∙ get_or-set_other two (65537 + 2 * k) q old 0 d

    fourth : (q : ℕ) → (q ≡ p → ⊥) → get_or four q 0 ≡ get_or three q 0
    fourth q d = read q e4 ∙ get_or-set_other three p q k 0 d

    at : (q : ℕ) → (q ≡ 65536 + 2 * k → ⊥) → (q ≡ 65537 + 2 * k → ⊥) → (q ≡ p → ⊥) → get_or four q 0 ≡ get_or one q 0
    at q d e f = fourth q f ∙ third q e ∙ second q d

module _ {A : Type 0} {says : ℕ → A} {print : A → ℕ} {came after : List ℕ} {c p : ℕ} (f : Firsts says print came) (d : Added came after c p) (b : p < 65536) (e : p ≡ print (says c))
    (new : (k : ℕ) → Is came k → says (code_at came k) ≡ says c → ⊥) where
  -- a number is an old one or the new one
  old : (j : ℕ) → Is after j → j < count came + 1 → Is came j
  old j i l = record { some = i.some; few = omega arith }

  newest : (j : ℕ) → Is after j → (j < count came + 1 → ⊥) → j ≡ count came + 1
  newest j i l = omega (arith, i.few, d.count_is)

  still : (j : ℕ) → Is came j → Is after j
  still j i = record { some = i.some; few = omega (arith, i.few, d.count_is) }

  says_old : (j : ℕ) → Is came j → says (code_at after j) ≡ says (code_at came j)
  says_old j i = ap says (d.code_old j i)

  says_new : (j : ℕ) → j ≡ count came + 1 → says (code_at after j) ≡ says c
  says_new j q = ap (λ (n : ℕ). says (code_at after n)) q ∙ ap says d.code_new

  -- the latest number of the print is an old one or 0
  head_old : get_or came p 0 < count came + 1
  head_old = step (eqb (get_or came p 0) 0) refl
    where
      step : (t : Bool) → eqb (get_or came p 0) 0 ≡ t → get_or came p 0 < count came + 1
      step true q = omega (arith, eqb-true (get_or came p 0) 0 q)
      step false q = omega (arith, (f.chained p b (eqb-false (get_or came p 0) 0 q)).0.few)

  pub firsts_more : Firsts says print after
  firsts_more = record {
    apart = λ j k i n q. apart j k i n q (dec_lt j (count came + 1)) (dec_lt k (count came + 1));
    prints = λ k i. prints k i (dec_lt k (count came + 1));
    latest = λ k i. latest k i (dec_lt k (count came + 1));
    chained = λ q l n. chained q l n (eqb q p) refl;
    before = λ j k i n l q. before j k i n l q (dec_lt k (count came + 1));
    linked = λ k i. linked k i (dec_lt k (count came + 1));
  }
    where
      apart : (j k : ℕ) → Is after j → Is after k → says (code_at after j) ≡ says (code_at after k) → Dec (j < count came + 1) → Dec (k < count came + 1) → j ≡ k
      apart j k i n q (yes u) (yes v) = f.apart j k (old j i u) (old k n v) (sym (says_old j (old j i u)) ∙ q ∙ says_old k (old k n v))
      apart j k i n q (yes u) (no v) = absurd (new j (old j i u) (sym (says_old j (old j i u)) ∙ q ∙ says_new k (newest k n v)))
      apart j k i n q (no u) (yes v) = absurd (new k (old k n v) (sym (says_old k (old k n v)) ∙ sym q ∙ says_new j (newest j i u)))
      apart j k i n q (no u) (no v) = newest j i u ∙ sym (newest k n v)

      prints : (k : ℕ) → Is after k → Dec (k < count came + 1) → print (says (code_at after k)) < 65536
      prints k i (yes u) = rw (says_old k (old k i u)) (f.prints k (old k i u))
      prints k i (no u) = rw (says_new k (newest k i u), ← e) b

      latest : (k : ℕ) → Is after k → Dec (k < count came + 1) → k ≤ get_or after (print (says (code_at after k))) 0
      latest k i (yes u) =
          let o = old k i u in
          let g = print (says (code_at came k)) in
          rw (says_old k o) (step g (f.latest k o) (f.prints k o) (eqb g p) refl)
        where
          step : (g : ℕ) → k ≤ get_or came g 0 → g < 65536 → (t : Bool) → eqb g p ≡ t → k ≤ get_or after g 0
          step g h s true q = rw (eqb-true g p q, d.print_new) (omega arith)
          step g h s false q = rw (d.print_old g s (eqb-false g p q)) h
      latest k i (no u) = rw (says_new k (newest k i u), ← e, d.print_new) (omega (arith, newest k i u))

      chained : (q : ℕ) → q < 65536 → (get_or after q 0 ≡ 0 → ⊥) → (t : Bool) → eqb q p ≡ t → Is after (get_or after q 0) × (print (says (code_at after (get_or after q 0))) ≡ q)
      chained q l n true z =
          let y = eqb-true q p z in
          rw (y, d.print_new) (record { some = omega arith; few = omega (arith, d.count_is) }, ap print (says_new (count came + 1) refl) ∙ sym e)
      chained q l n false z =
          let g = d.print_old q l (eqb-false q p z) in
          let h = f.chained q l (λ y. n (g ∙ y)) in
          rw g (still (get_or came q 0) h.0, ap print (says_old (get_or came q 0) h.0) ∙ h.1)

      before : (j k : ℕ) → Is after j → Is after k → j < k → print (says (code_at after j)) ≡ print (says (code_at after k)) → Dec (k < count came + 1) → j ≤ older_at after k
      before j k i n l q (yes v) =
          let u : j < count came + 1 = omega arith in
          rw (d.older_old k (old k n v)) (f.before j k (old j i u) (old k n v) l (ap print (sym (says_old j (old j i u))) ∙ q ∙ ap print (says_old k (old k n v))))
      before j k i n l q (no v) =
          let w = newest k n v in
          let u : j < count came + 1 = omega (arith, w) in
          let g : print (says (code_at came j)) ≡ p = ap print (sym (says_old j (old j i u))) ∙ q ∙ ap print (says_new k w) ∙ sym e in
          rw (w, d.older_new) (rw g at (f.latest j (old j i u)))

      linked : (k : ℕ) → Is after k → Dec (k < count came + 1) → (older_at after k < k) × ((older_at after k ≡ 0 → ⊥) → print (says (code_at after (older_at after k))) ≡ print (says (code_at after k)))
      linked k i (yes v) =
          let o = old k i v in
          let h = f.linked k o in
          rw (d.older_old k o, says_old k o) (h.0, λ n. ap print (says_old (older_at came k) (record { some = positive (older_at came k) n; few = omega (arith, h.0, o.few) })) ∙ h.1 n)
      linked k i (no v) =
          let w = newest k i v in
          rw (w, d.older_new, says_new (count came + 1) refl)
          (head_old, λ n. let h = f.chained p b n in ap print (says_old (get_or came p 0) h.0) ∙ h.1 ∙ e)

module _ {A : Type 0} {says : ℕ → A} {print : A → ℕ} {num came : List ℕ} {c : ℕ} (b : Book says print num came) (i : c < length num) where
  -- the code has its number already
  pub numbered_already : {r : ℕ} → r ≡ get_or num c 0 → (r ≡ 0 → ⊥) → Numbered says print num c num came r
  numbered_already {r} e n =
      let h = b.own c (λ z. n (e ∙ z)) in
      record { book = b; here = e; some = positive r n; few = omega (arith, e, h.0.few, b.enough, filled_few num); stay = λ d q. refl }

  module _ (z : get_or num c 0 ≡ 0) where
    -- other codes keep theirs
    others_stay : (r d : ℕ) → (get_or num d 0 ≡ 0 → ⊥) → get_or (set num c r) d 0 ≡ get_or num d 0
    others_stay r d n = get_or-set_other num c d r 0 (λ q. n (ap (λ (k : ℕ). get_or num k 0) q ∙ z))

    -- room for one more
    room : count came + 1 ≤ length num
    room = omega (arith, b.enough, filled_few (set num c 1), filled_set num c 1 i z (omega arith), length-set num c 1)

    module _ {after next : List ℕ} {r : ℕ} (n : 0 < r) (e : next ≡ set num c r) (few : r ≤ length num) (grows : count after ≤ count came + 1) (size : length after ≡ length came) (f : Firsts says print after)
        (here : Is after r × (says (code_at after r) ≡ says c)) (others : (k : ℕ) → Is came k → Is after k × (code_at after k ≡ code_at came k)) where
      book_next : Book says print (set num c r) after
      book_next = record {
        size = omega (arith, b.size, length-set num c r, size);
        small = omega (arith, b.small, length-set num c r);
        enough = omega (arith, b.enough, filled_set num c r i z n, grows);
        firsts = f;
        own = λ d m. own d m (eqb d c) refl;
      }
        where
          own : (d : ℕ) → (get_or (set num c r) d 0 ≡ 0 → ⊥) → (t : Bool) → eqb d c ≡ t → Is after (get_or (set num c r) d 0) × (says (code_at after (get_or (set num c r) d 0)) ≡ says d)
          own d m true q = rw (eqb-true d c q, get_or-set_same num c r 0 i) here
          own d m false q =
              let g = get_or-set_other num c d r 0 (eqb-false d c q) in
              let h = b.own d (λ y. m (g ∙ y)) in
              let o = others (get_or num d 0) h.0 in
              rw g (o.0, ap says o.1 ∙ h.1)

      pub numbered_next : Numbered says print num c next after r
      numbered_next = rw e (record { book = book_next; here = sym (get_or-set_same num c r 0 i); some = n; few = omega (arith, few, length-set num c r); stay = others_stay r })

    -- a code that says what an earlier one does
    pub numbered_found : {next : List ℕ} {r : ℕ} → Sought says came c (Some r) → next ≡ set num c r → Numbered says print num c next came r
    numbered_found h e =
        numbered_next h.0.some e (omega (arith, h.0.few, b.enough, filled_few num)) (omega arith) refl b.firsts h (λ k q. (q, refl))

    -- one that is first
    pub numbered_new : {next after : List ℕ} {p r : ℕ} → Sought says came c None → p < 65536 → p ≡ print (says c) → r ≡ count came + 1 → Added came after c p → length after ≡ length came → next ≡ set num c r → Numbered says print num c next after r
    numbered_new {next} {after} {p} {r} s l g h d w e =
        numbered_next (omega (arith, h)) e (omega (arith, h, room)) (omega (arith, d.count_is)) w (firsts_more b.firsts d l g s)
        (record { some = omega (arith, h); few = omega (arith, h, d.count_is) }, ap (λ (k : ℕ). says (code_at after k)) h ∙ ap says d.code_new)
        (λ k y. (record { some = y.some; few = omega (arith, y.few, d.count_is) }, d.code_old k y))

    -- there are cells for it
    pub cells_room : 65538 + 2 * (count came + 1) ≤ length came
    cells_room = omega (arith, room, b.size)

    pub count_small : count came + 1 < 0x1_0000_0000
    count_small = omega (arith, room, b.small)
