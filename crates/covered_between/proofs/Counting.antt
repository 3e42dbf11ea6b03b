-- The ways through a check of classes against their counts, and of the header.
use Prim.Native.Nat.{ℕ, ◌+◌, ◌-◌, ◌*◌, ◌/◌, ◌≤◌, ◌<◌}
use mathlib.Core.Path.{◌≡◌, refl, sym, ap, ◌∙◌}
use mathlib.Core.Bool.{Bool, true, false, ◌&&◌, ◌||◌, not}
use Rattle.std.specs.Prelude.{None, Some}
use mathlib.Core.List.{List, [], ◌∷◌}
use native.Mathlib.Nat.{mul-le-mul_right, mul-le-mul_left}
use native.Mathlib.Omega.{arith}
use lib.ListN.{length, get_or}
use lib.Dec.{ltb, eqb}
use borrow.Author.Tests.{lt-ltb, le-ltb, ltb-true, ltb-false, eq-eqb, ne_eqb}
use Rattle.meaning.specs.Words.{word, inside, every}
use Rattle.meaning.specs.Tables.{field_count}
use Rattle.meaning.specs.Parts.{coverage, coverage_sound, classes, classes_sound, class_of}
use Rattle.meaning.specs.Fault.{part_fault, coverage_fault, classes_fault, first_below, second_below, classes_below, good_formats}
use Rattle.covered_between.specs.Stretches.{stretches, any_between}
use Rattle.covered_between.specs.Header.{good_header}
use Rattle.covered_between.proofs.Stretching.{Left, is_below, clear, left_next, left_fails, left_end, stretches_say, stretches_ascend, stretch_order, listed_are, covered_are}

-- value formats
module _ (s : List ℕ) {f1 : ℕ} (e1 : f1 ≡ word s 4) where
  high_bits : (f : ℕ) → 256 ≤ f → eqb (f / 256) 0 ≡ false
  high_bits f h = ne_eqb (f / 256) 0 (λ e. omega arith)

  low_bits : (f : ℕ) → f < 256 → eqb (f / 256) 0 ≡ true
  low_bits f h = eq-eqb (f / 256) 0 (omega arith)

  pub first_format : 256 ≤ f1 → false ≡ good_formats s
  unfolding good_formats
  first_format h = rw (← e1, high_bits f1 h)

  pub second_format : f1 < 256 → {f2 : ℕ} → f2 ≡ word s 6 → ltb f2 256 ≡ good_formats s
  unfolding good_formats
  second_format h {f2} e2 = rw (← e1, ← e2, low_bits f1 h) (step (ltb f2 256) refl)
    where
      step : (t : Bool) → ltb f2 256 ≡ t → t ≡ eqb (f2 / 256) 0
      step true q = sym (low_bits f2 (ltb-true f2 256 q))
      step false q = sym (high_bits f2 (ltb-false f2 256 q))

-- a stretch past its count
module _ (first last class : ℕ) (cov : List ℕ) {n : ℕ} where
  pub not_past : class < n → false ≡ not (ltb class n) && any_between first last cov
  not_past h = rw (lt-ltb class n h)

  pub past_here : n ≤ class → {r : Bool} → r ≡ any_between first last cov → r ≡ not (ltb class n) && any_between first last cov
  past_here h e = rw (le-ltb class n h) e

-- a loop over the stretches of a class table, whose i-th is (first, last, class)
module _ (s : List ℕ) (at n : ℕ) {i k first last class : ℕ} (e : k ≡ length (stretches s at)) (l : i < k) (g : get_or (stretches s at) i (0, 0, 0) ≡ (first, last, class)) where
  pub within_table : i < length (stretches s at)
  within_table = omega arith

  pub in_order_lem : classes_sound s at ≡ true → first ≤ last
  in_order_lem h = stretch_order 0 (stretches s at) (stretches_ascend s at h) i first last class within_table g

  pub listed_next : Left (is_below n) (stretches s at) i → class < n → Left (is_below n) (stretches s at) (i + 1)
  listed_next k h = left_next (0, 0, 0) k within_table g (lt-ltb class n h)

  pub listed_past : classes_sound s at ≡ true → 0 < n → Left (is_below n) (stretches s at) i → n ≤ class → false ≡ every (λ (e : ℕ × ℕ). ltb e.1 n) (classes s at)
  listed_past c z k h = left_fails (0, 0, 0) k within_table g (le-ltb class n h) ∙ sym (listed_are n z 0 (stretches s at) (stretches_ascend s at c)) ∙ ap (every (λ (e : ℕ × ℕ). ltb e.1 n)) (sym (stretches_say s at))

  module _ (cov : List ℕ) {r : Bool} (p : r ≡ not (ltb class n) && any_between first last cov) where
    turned : (a b : Bool) {r : Bool} → r ≡ not a && b → (t : Bool) → r ≡ t → a || not b ≡ not t
    turned true b e t f = ap not (sym e ∙ f)
    turned false b e t f = ap not (sym e ∙ f)

    pub covered_next : Left (clear n cov) (stretches s at) i → r ≡ false → Left (clear n cov) (stretches s at) (i + 1)
    covered_next k h = left_next (0, 0, 0) k within_table g (turned (ltb class n) (any_between first last cov) p false h)

    pub covered_past : classes_sound s at ≡ true → 0 < n → Left (clear n cov) (stretches s at) i → r ≡ true → false ≡ every (λ g. ltb (class_of (classes s at) g) n) cov
    covered_past c z k h =
        left_fails (0, 0, 0) k within_table g (turned (ltb class n) (any_between first last cov) p true h)
        ∙ sym (covered_are n z cov 0 (stretches s at) (stretches_ascend s at c)) ∙ ap (λ (cs : List (ℕ × ℕ)). every (λ g. ltb (class_of cs g) n) cov) (sym (stretches_say s at))

module _ (s : List ℕ) (at n : ℕ) (c : classes_sound s at ≡ true) (z : 0 < n) {i k : ℕ} (e : k ≡ length (stretches s at)) (l : k ≤ i) where
  pub listed_end : Left (is_below n) (stretches s at) i → true ≡ every (λ (e : ℕ × ℕ). ltb e.1 n) (classes s at)
  listed_end k = left_end (0, 0, 0) k (omega arith) ∙ sym (listed_are n z 0 (stretches s at) (stretches_ascend s at c)) ∙ ap (every (λ (e : ℕ × ℕ). ltb e.1 n)) (sym (stretches_say s at))

  pub covered_end : (cov : List ℕ) → Left (clear n cov) (stretches s at) i → true ≡ every (λ g. ltb (class_of (classes s at) g) n) cov
  covered_end cov k =
      left_end (0, 0, 0) k (omega arith) ∙ sym (covered_are n z cov 0 (stretches s at) (stretches_ascend s at c)) ∙ ap (λ (cs : List (ℕ × ℕ)). every (λ g. ltb (class_of cs g) n) cov) (sym (stretches_say s at))

-- nothing is below 0
pub empty_only : (f : ℕ → ℕ) (cov : List ℕ) → eqb (length cov) 0 ≡ every (λ g. ltb (f g) 0) cov
unfolding every
empty_only f [] = refl
empty_only f (g ∷ gs) = rw (le-ltb (f g) 0 (omega arith), ne_eqb (length (g ∷ gs)) 0 (λ e. omega arith))

-- how many bytes the cells take, at most
pub few_cells : (n m : ℕ) → n < 65536 → m < 65536 → n * m ≤ 65536 * 65536
few_cells n m h l =
    let a : n ≤ 65536 = omega arith in
    let b : m ≤ 65536 = omega arith in
    omega (arith, mul-le-mul_right m a, mul-le-mul_left 65536 b)

pub few_bytes : (size n m : ℕ) → size ≤ 34 → n < 65536 → m < 65536 → (size - 2) * (n * m) ≤ 32 * (65536 * 65536)
few_bytes size n m k h l =
    let a : size - 2 ≤ 32 = omega arith in
    omega (arith, mul-le-mul_right (n * m) a, mul-le-mul_left 32 (few_cells n m h l))

-- the header
module _ (s : List ℕ) where
  pub header_short : inside s 0 16 ≡ false → false ≡ good_header s
  header_short e = rw e

  module _ (e : inside s 0 16 ≡ true) {f1 f2 size n m : ℕ} (p : f1 ≡ word s 4) (q : f2 ≡ word s 6) (k : size ≡ 2 + 2 * field_count f1 + 2 * field_count f2) (c : n ≡ word s 12) (d : m ≡ word s 14) where
    cell_size : size - 2 ≡ 2 * field_count (word s 4) + 2 * field_count (word s 6)
    cell_size = rw (← p, ← q) (omega arith)

    pub cells_outside : inside s 16 ((size - 2) * (n * m)) ≡ false → false ≡ good_header s
    cells_outside h = rw (e, ← cell_size, ← c, ← d, h)

    module _ (h : inside s 16 ((size - 2) * (n * m)) ≡ true) where
      pub formats_bad : good_formats s ≡ false → false ≡ good_header s
      formats_bad b = rw (e, ← cell_size, ← c, ← d, h, b)

      pub formats_good : good_formats s ≡ true → {r : Bool} → r ≡ classes_below s → r ≡ good_header s
      formats_good b j = rw (e, ← cell_size, ← c, ← d, h, b) j
