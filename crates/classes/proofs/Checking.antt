-- The ways through the check of a class table.
use Prim.Native.Nat.{ℕ, ◌+◌, ◌-◌, ◌*◌, ◌≤◌, ◌<◌}
use mathlib.Core.Path.{◌≡◌}
use mathlib.Core.Bool.{true, false, ◌&&◌}
use mathlib.Core.List.{List}
use native.Mathlib.Omega.{arith}
use lib.Dec.{leb}
use borrow.Author.Tests.{le-leb, lt-leb, eq-eqb, ne_eqb}
use Rattle.meaning.specs.Words.{word, triples, inside}
use Rattle.meaning.specs.Parts.{ranges_ascend, classes_sound}
use Rattle.laws.specs.Left.{triples_left, triples_all, triples_none}
use Rattle.classes.specs.Formats.{array_sound}

-- bytes after others lie inside as the others do with them
pub inside_on : (s : List ℕ) (at a b : ℕ) → inside s (at + a) b ≡ inside s at (a + b)
unfolding inside
inside_on s at a b =
    let e : at + a + b ≡ at + (a + b) = omega arith in
    rw e

module _ (s : List ℕ) (at : ℕ) where
  -- the array's three tests, in order
  pub array_short : inside s at 6 ≡ false → false ≡ array_sound s at
  unfolding array_sound
  array_short h = rw h

  module _ {n : ℕ} (h : inside s at 6 ≡ true) (e : n ≡ word s (at + 4)) where
    pub array_cut : inside s at (6 + 2 * n) ≡ false → false ≡ array_sound s at
    unfolding array_sound
    array_cut i = rw (h, ← e, inside_on s at 6 (2 * n), i)

    pub array_ends : inside s at (6 + 2 * n) ≡ true → {g : ℕ} → g ≡ word s (at + 2) → leb (g + n) 65536 ≡ array_sound s at
    unfolding array_sound
    array_ends i f = rw (h, ← e, ← f, inside_on s at 6 (2 * n), i)

  -- the table's tests, in order
  pub table_short : inside s at 4 ≡ false → false ≡ classes_sound s at
  unfolding classes_sound
  table_short h = rw h

  module _ {format : ℕ} (h : inside s at 4 ≡ true) (f : format ≡ word s at) where
    pub table_array : format ≡ 1 → array_sound s at ≡ classes_sound s at
    unfolding classes_sound array_sound
    table_array e = rw (h, ← f, eq-eqb format 1 e)

    pub table_neither : (format ≡ 1 → ⊥) → (format ≡ 2 → ⊥) → false ≡ classes_sound s at
    unfolding classes_sound
    table_neither d e = rw (h, ← f, ne_eqb format 1 d, ne_eqb format 2 e)

    module _ {n : ℕ} (two : format ≡ 2) (e : n ≡ word s (at + 2)) where
      pub table_cut : inside s at (4 + 6 * n) ≡ false → false ≡ classes_sound s at
      unfolding classes_sound
      table_cut i = rw (h, ← f, two, ← e, inside_on s at 4 (6 * n), i)

      pub table_ranges : inside s at (4 + 6 * n) ≡ true → ranges_ascend 0 (triples s (at + 4) n) ≡ classes_sound s at
      unfolding classes_sound
      table_ranges i = rw (h, ← f, two, ← e, inside_on s at 4 (6 * n), i)

-- What the loop over ranges keeps: what is left, from the glyph after the last one on, gives the whole answer.
pub record Ascending (s : List ℕ) (at n low i : ℕ) : Type 0 where
  pub within : i ≤ n
  pub near : low ≤ 65536
  pub left : ranges_ascend low (triples s (at + 6 * i) (n - i)) ≡ ranges_ascend 0 (triples s at n)

module _ {s : List ℕ} {at n : ℕ} where
  pub ascending_all : Ascending s at n 0 0
  ascending_all = record { within = omega arith; near = omega arith; left = rw (triples_all s at n) }

  module _ {low i first last : ℕ} (k : Ascending s at n low i) (h : i < n) (e : first ≡ word s (at + 6 * i)) (f : (last ≡ word s (at + 6 * i + 2)) × (last < 65536)) where
    -- the range at i, and the others
    turn : ranges_ascend 0 (triples s at n) ≡ leb low first && (leb first last && ranges_ascend (last + 1) (triples s (at + 6 * (i + 1)) (n - (i + 1))))
    unfolding ranges_ascend
    turn = rw (← k.left, triples_left s at n i h, e, f.0)

    -- a range that starts too low, or ends before it starts, settles it
    pub ascending_low : first < low → false ≡ ranges_ascend 0 (triples s at n)
    ascending_low l = rw (turn, lt-leb low first l)

    pub ascending_back : low ≤ first → last < first → false ≡ ranges_ascend 0 (triples s at n)
    ascending_back l g = rw (turn, le-leb low first l, lt-leb first last g)

    pub ascending_turn : low ≤ first → first ≤ last → Ascending s at n (last + 1) (i + 1)
    ascending_turn l g = record { within = omega arith; near = omega arith; left = rw (turn, le-leb low first l, le-leb first last g) }

  pub ascending_end : {low i : ℕ} → Ascending s at n low i → n ≤ i → true ≡ ranges_ascend 0 (triples s at n)
  unfolding ranges_ascend
  ascending_end {low} {i} k h = rw (triples_none s (at + 6 * i) n i h) at k.left
