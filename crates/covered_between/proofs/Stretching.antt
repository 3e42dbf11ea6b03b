-- The stretches of a class table say its classes, and a test of classes by stretches.
use Prim.Native.Nat.{ℕ, zero, suc, ◌+◌, ◌*◌, ◌≤◌, ◌<◌}
use mathlib.Core.Path.{◌≡◌, refl, sym, ap, ◌∙◌}
use mathlib.Core.Bool.{Bool, true, false, cond, ◌&&◌, ◌||◌, not}
use mathlib.Core.List.{List, [], ◌∷◌, ◌++◌, map}
use native.Mathlib.Omega.{arith}
use lib.ListN.{length, get_or, drop}
use lib.Dec.{leb, ltb, eqb}
use borrow.Author.Tests.{le-leb, leb-true, leb-false, lt-ltb, eqb-true, ne_eqb}
use Rattle.meaning.specs.Words.{word, words, triples, inside, every, find}
use Rattle.meaning.specs.Parts.{span, ranges_ascend, holding, array_classes, range_classes, classes, classes_sound, class_of}
use Rattle.laws.specs.Runs.{both, span_one, span_more}
use Rattle.laws.specs.Left.{words_length, words_at, triples_length, triples_at}
use Rattle.laws.specs.ClassesLeft.{class_in_lem, class_out, ranges_low, ascend_first}
use Rattle.covered_between.specs.Stretches.{ones, stretches, any_between}

-- An array as stretches.

ones_length : (g : ℕ) (cs : List ℕ) → length (ones g cs) ≡ length cs
unfolding ones
ones_length g [] = refl
ones_length g (c ∷ cs) = ap suc (ones_length (g + 1) cs)

ones_at : (g : ℕ) (cs : List ℕ) (i : ℕ) → i < length cs → get_or (ones g cs) i (0, 0, 0) ≡ (g + i, g + i, get_or cs i 0)
unfolding ones
ones_at g [] i h = absurd (omega arith)
ones_at g (c ∷ cs) zero h =
    let e : g + 0 ≡ g = omega arith in
    rw e
ones_at g (c ∷ cs) (suc i) h =
    let e : g + suc i ≡ g + 1 + i = omega arith in
    rw e (ones_at (g + 1) cs i (omega arith))

ones_ascend : (low g : ℕ) (cs : List ℕ) → low ≤ g → ranges_ascend low (ones g cs) ≡ true
unfolding ones ranges_ascend
ones_ascend low g [] h = refl
ones_ascend low g (c ∷ cs) h = rw (le-leb low g h, le-leb g g (omega arith)) (ones_ascend (g + 1) (g + 1) cs (omega arith))

ones_classes : (g : ℕ) (cs : List ℕ) → array_classes g cs ≡ range_classes (ones g cs)
unfolding ones array_classes range_classes
ones_classes g [] = refl
ones_classes g (c ∷ cs) = rw (span_one g, ones_classes (g + 1) cs)

module _ (s : List ℕ) (at : ℕ) where
  -- the stretches say the classes
  pub stretches_say : classes s at ≡ range_classes (stretches s at)
  unfolding classes stretches
  stretches_say = step (eqb (word s at) 1)
    where
      step : (t : Bool) → cond t (array_classes (word s (at + 2)) (words s (at + 6) (word s (at + 4)))) (range_classes (triples s (at + 4) (word s (at + 2))))
          ≡ range_classes (cond t (ones (word s (at + 2)) (words s (at + 6) (word s (at + 4)))) (triples s (at + 4) (word s (at + 2))))
      step true = ones_classes (word s (at + 2)) (words s (at + 6) (word s (at + 4)))
      step false = refl

  -- they ascend
  pub stretches_ascend : classes_sound s at ≡ true → ranges_ascend 0 (stretches s at) ≡ true
  unfolding classes_sound stretches
  stretches_ascend h = step (eqb (word s at) 1) (both (inside s at 4) _ h).1
    where
      array : Bool
      array = inside s at 6 && (inside s (at + 6) (2 * word s (at + 4)) && leb (word s (at + 2) + word s (at + 4)) 65536)

      ranges : Bool
      ranges = inside s (at + 4) (6 * word s (at + 2)) && ranges_ascend 0 (triples s (at + 4) (word s (at + 2)))

      step : (t : Bool) → cond t array (eqb (word s at) 2 && ranges) ≡ true
          → ranges_ascend 0 (cond t (ones (word s (at + 2)) (words s (at + 6) (word s (at + 4)))) (triples s (at + 4) (word s (at + 2)))) ≡ true
      step true q = ones_ascend 0 (word s (at + 2)) (words s (at + 6) (word s (at + 4))) (omega arith)
      step false q = (both (inside s (at + 4) (6 * word s (at + 2))) _ (both (eqb (word s at) 2) ranges q).1).1

  module _ {f : ℕ} (e : f ≡ word s at) where
    -- how many they are, and the i-th: an array's, or a range
    pub array_count : f ≡ 1 → word s (at + 4) ≡ length (stretches s at)
    unfolding stretches
    array_count h = rw (← e, h) (sym (ones_length (word s (at + 2)) (words s (at + 6) (word s (at + 4))) ∙ words_length s (at + 6) (word s (at + 4))))

    pub range_count : (f ≡ 1 → ⊥) → word s (at + 2) ≡ length (stretches s at)
    unfolding stretches
    range_count h = rw (← e, ne_eqb f 1 h) (sym (triples_length s (at + 4) (word s (at + 2))))

    module _ {i : ℕ} (l : i < length (stretches s at)) where
      pub array_stretch : f ≡ 1 → {g c : ℕ} → g ≡ word s (at + 2) → c ≡ word s (at + 6 + 2 * i) → get_or (stretches s at) i (0, 0, 0) ≡ (g + i, g + i, c)
      unfolding stretches
      array_stretch h {g} {c} p q =
          let k : i < word s (at + 4) = omega (arith, l, array_count h) in
          rw (← e, h, p, q) (ones_at (word s (at + 2)) (words s (at + 6) (word s (at + 4))) i (omega (arith, k, words_length s (at + 6) (word s (at + 4))))
          ∙ rw (words_at s (at + 6) (word s (at + 4)) i k))

      pub range_stretch : (f ≡ 1 → ⊥) → {a z c : ℕ} → a ≡ word s (at + 4 + 6 * i) → z ≡ word s (at + 4 + 6 * i + 2) → c ≡ word s (at + 4 + 6 * i + 4) → get_or (stretches s at) i (0, 0, 0) ≡ (a, z, c)
      unfolding stretches
      range_stretch h p q r = rw (← e, ne_eqb f 1 h, p, q, r) (triples_at s (at + 4) (word s (at + 2)) i (omega (arith, l, range_count h)))

-- A stretch ends where it begins or later.
pub stretch_order : (low : ℕ) (rs : List (ℕ × ℕ × ℕ)) → ranges_ascend low rs ≡ true → (i a z c : ℕ) → i < length rs → get_or rs i (0, 0, 0) ≡ (a, z, c) → a ≤ z
stretch_order low [] h i a z c l e = absurd (omega arith)
stretch_order low ((p, q, d) ∷ r) h zero a z c l e =
    let f = ascend_first low p q d r h in
    let x : p ≡ a = ap (λ (t : ℕ × ℕ × ℕ). t.0) e in
    let y : q ≡ z = ap (λ (t : ℕ × ℕ × ℕ). t.1) e in
    omega (arith, f.1)
stretch_order low ((p, q, d) ∷ r) h (suc i) a z c l e = stretch_order (q + 1) r (ascend_first low p q d r h).2 i a z c (omega arith) e

-- Tests of a list.

every_both : {A : Type 0} (p q : A → Bool) (l : List A) → every (λ a. p a && q a) l ≡ every p l && every q l
unfolding every
every_both p q [] = refl
every_both p q (a ∷ l) = rw (every_both p q l) (step (p a) (q a) (every p l) (every q l))
  where
    step : (a b c d : Bool) → (a && b) && (c && d) ≡ (a && c) && (b && d)
    step true true c d = refl
    step true false true d = refl
    step true false false d = refl
    step false b c d = refl

every_append : {A : Type 0} (p : A → Bool) (l m : List A) → every p (l ++ m) ≡ every p l && every p m
unfolding every
every_append p [] m = refl
every_append p (a ∷ l) m = rw (every_append p l m) (step (p a) (every p l) (every p m))
  where
    step : (a b c : Bool) → a && (b && c) ≡ (a && b) && c
    step true b c = refl
    step false b c = refl

every_same : {A : Type 0} (p q : A → Bool) → ((a : A) → p a ≡ q a) → (l : List A) → every p l ≡ every q l
unfolding every
every_same p q k [] = refl
every_same p q k (a ∷ l) = rw (k a, every_same p q k l)

-- the class of a stretch is below n
abbrev pub is_below : ℕ → ℕ × ℕ × ℕ → Bool
is_below n r = ltb r.2 n

-- or none of these glyphs is in the stretch
abbrev pub clear : ℕ → List ℕ → ℕ × ℕ × ℕ → Bool
clear n cov r = ltb r.2 n || not (any_between r.0 r.1 cov)

module _ (n : ℕ) (z : 0 < n) where
  -- Each class that is listed: that of each stretch.
  held_below : (c : ℕ) (gs : List ℕ) → ltb c n ≡ true → every (λ (e : ℕ × ℕ). ltb e.1 n) (map (λ g. (g, c)) gs) ≡ true
  unfolding every
  held_below c [] h = refl
  held_below c (g ∷ gs) h = rw h (held_below c gs h)

  span_below : (a y c : ℕ) → a ≤ y → every (λ (e : ℕ × ℕ). ltb e.1 n) (holding c (span a y)) ≡ ltb c n
  unfolding holding every
  span_below a y c l = step (eqb c 0) refl (ltb c n) refl
    where
      step : (t : Bool) → eqb c 0 ≡ t → (b : Bool) → ltb c n ≡ b → every (λ (e : ℕ × ℕ). ltb e.1 n) (cond t [] (map (λ g. (g, c)) (span a y))) ≡ b
      step true e b f = rw (eqb-true c 0 e, lt-ltb 0 n z) at f
      step false e true f = held_below c (span a y) f
      step false e false f = rw (span_more a y l, f)

  pub listed_are : (low : ℕ) (rs : List (ℕ × ℕ × ℕ)) → ranges_ascend low rs ≡ true → every (λ (e : ℕ × ℕ). ltb e.1 n) (range_classes rs) ≡ every (is_below n) rs
  unfolding range_classes every
  listed_are low [] h = refl
  listed_are low ((a, y, c) ∷ r) h =
      let f = ascend_first low a y c r h in
      every_append (λ (e : ℕ × ℕ). ltb e.1 n) (holding c (span a y)) (range_classes r) ∙ rw (span_below a y c f.1, listed_are (y + 1) r f.2)

  -- The class of each covered glyph.
  outside : (b : Bool) (a y : ℕ) (cov : List ℕ) → every (λ g. b || not (leb a g && leb g y)) cov ≡ b || not (any_between a y cov)
  unfolding every any_between
  outside b a y [] = step b
    where
      step : (b : Bool) → true ≡ b || true
      step true = refl
      step false = refl
  outside b a y (g ∷ gs) = rw (outside b a y gs) (step b (leb a g && leb g y) (any_between a y gs))
    where
      step : (b t u : Bool) → (b || not t) && (b || not u) ≡ b || not (t || u)
      step true t u = refl
      step false true u = refl
      step false false u = refl

  one_glyph : (low a y c : ℕ) (r : List (ℕ × ℕ × ℕ)) → ranges_ascend low ((a, y, c) ∷ r) ≡ true → (g : ℕ)
      → ltb (class_of (range_classes ((a, y, c) ∷ r)) g) n ≡ (ltb c n || not (leb a g && leb g y)) && ltb (class_of (range_classes r) g) n
  unfolding range_classes
  one_glyph low a y c r h g = step (leb a g) refl (leb g y) refl
    where
      f : (low ≤ a) × (a ≤ y) × (ranges_ascend (y + 1) r ≡ true)
      f = ascend_first low a y c r h

      whole : List (ℕ × ℕ)
      whole = holding c (span a y) ++ range_classes r

      all : (b : Bool) → b ≡ (b || false) && true
      all true = refl
      all false = refl

      rest : (b x : Bool) → x ≡ (b || true) && x
      rest true x = refl
      rest false x = refl

      out : (a ≤ g → g ≤ y → ⊥) → ltb (class_of whole g) n ≡ (ltb c n || true) && ltb (class_of (range_classes r) g) n
      out k = rw (class_out c a y g (range_classes r) k) (rest (ltb c n) (ltb (class_of (range_classes r) g) n))

      step : (t : Bool) → leb a g ≡ t → (u : Bool) → leb g y ≡ u → ltb (class_of whole g) n ≡ (ltb c n || not (t && u)) && ltb (class_of (range_classes r) g) n
      step true p true q =
          let o = ranges_low (y + 1) r g f.2 (omega (arith, leb-true g y q)) in
          rw (class_in_lem c a y g (range_classes r) (leb-true a g p) (leb-true g y q) o, o, lt-ltb 0 n z) (all (ltb c n))
      step true p false q = out (λ k l. omega (arith, leb-false g y q))
      step false p u q = out (λ k l. omega (arith, leb-false a g p))

  no_class : (g : ℕ) → class_of (range_classes []) g ≡ 0
  unfolding range_classes class_of find
  no_class g = refl

  no_stretch : (cov : List ℕ) → every (λ g. ltb (class_of (range_classes []) g) n) cov ≡ true
  unfolding every
  no_stretch [] = refl
  no_stretch (g ∷ gs) = rw (no_class g, lt-ltb 0 n z) (no_stretch gs)

  pub covered_are : (cov : List ℕ) (low : ℕ) (rs : List (ℕ × ℕ × ℕ)) → ranges_ascend low rs ≡ true → every (λ g. ltb (class_of (range_classes rs) g) n) cov ≡ every (clear n cov) rs
  unfolding every
  covered_are cov low [] h = no_stretch cov
  covered_are cov low ((a, y, c) ∷ r) h =
      every_same (λ g. ltb (class_of (range_classes ((a, y, c) ∷ r)) g) n) (λ g. (ltb c n || not (leb a g && leb g y)) && ltb (class_of (range_classes r) g) n) (one_glyph low a y c r h) cov
      ∙ every_both (λ g. ltb c n || not (leb a g && leb g y)) (λ g. ltb (class_of (range_classes r) g) n) cov
      ∙ both_are (outside (ltb c n) a y cov) (covered_are cov (y + 1) r (ascend_first low a y c r h).2)
    where
      both_are : {p q u v : Bool} → p ≡ u → q ≡ v → p && q ≡ u && v
      both_are e f = rw (e, f)

-- What a loop over a list keeps: whether the rest passes a test is whether all do.
pub record Left {A : Type 0} (test : A → Bool) (l : List A) (i : ℕ) : Type 0 where
  pub within : i ≤ length l
  pub left : every test (drop i l) ≡ every test l

module _ {A : Type 0} (test : A → Bool) (d : A) where
  turn : (l : List A) (i : ℕ) → i < length l → every test (drop i l) ≡ test (get_or l i d) && every test (drop (i + 1) l)
  unfolding every
  turn [] i h = absurd (omega arith)
  turn (a ∷ l) zero h = refl
  turn (a ∷ l) (suc i) h =
      let e : suc i + 1 ≡ suc (i + 1) = omega arith in
      rw e (turn l i (omega arith))

  none_left : (l : List A) (i : ℕ) → length l ≤ i → every test (drop i l) ≡ true
  unfolding every
  none_left [] zero h = refl
  none_left [] (suc i) h = refl
  none_left (a ∷ l) zero h = absurd (omega arith)
  none_left (a ∷ l) (suc i) h = none_left l i (omega arith)

module _ {A : Type 0} {test : A → Bool} {l : List A} where
  pub left_all : Left test l 0
  left_all = record { within = omega arith; left = refl }

  module _ {i : ℕ} (d : A) (k : Left test l i) (h : i < length l) {a : A} (e : get_or l i d ≡ a) where
    pub left_next : test a ≡ true → Left test l (i + 1)
    left_next t = record { within = omega arith; left = rw (turn test d l i h, e, t) at k.left }

    pub left_fails : test a ≡ false → false ≡ every test l
    left_fails t = rw (turn test d l i h, e, t) at k.left

  pub left_end : {i : ℕ} (d : A) → Left test l i → length l ≤ i → true ≡ every test l
  left_end d k h = sym (none_left test d l _ h) ∙ k.left
