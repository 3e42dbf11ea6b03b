-- What the loops over cells and over rows keep that look for a field, and the sum of the fields.
use Prim.Native.Nat.{ℕ, zero, suc, ◌+◌, ◌-◌, ◌*◌, ◌≤◌, ◌<◌}
use mathlib.Core.Path.{◌≡◌, refl, sym, ap, ap₂, ◌∙◌}
use mathlib.Core.Bool.{Bool, true, false, ◌&&◌, ◌||◌, not}
use Rattle.std.specs.Prelude.{None, Some}
use mathlib.Core.List.{List}
use native.Mathlib.Nat.{mul-suc}
use native.Mathlib.Omega.{arith}
use lib.ListN.{length}
use lib.Dec.{eqb}
use borrow.Author.Tests.{eq-eqb, ne_eqb}
use Rattle.meaning.specs.Words.{word, find, is_some}
use Rattle.meaning.specs.Tables.{field_count}
use Rattle.meaning.specs.Cut.{keep_if, stand_in}
use Rattle.pair_fields.specs.Pairs.{value_at}
use Rattle.pair_places.specs.Formats.{field_place}
use Rattle.class_formats.specs.Cells.{row_uses, rows_use, cells_use, format_in, HasRow, HasCells}
use Rattle.class_formats.specs.Kept.{cell_size, NewFormats, first_format, second_format}

-- one less
pub mul_left : (size n i : ℕ) → i < n → size * (n - i) ≡ size * (n - (i + 1)) + size
mul_left size n i h =
    let e : n - i ≡ suc (n - (i + 1)) = omega arith in
    ap (λ (x : ℕ). size * x) e ∙ mul-suc size (n - (i + 1))

-- rows of short cells
pub mul_small : (size n : ℕ) → size ≤ 32 → size * n ≤ 32 * n
mul_small size zero h = omega arith
mul_small size (suc n) h = omega (arith, mul-suc size n, mul_small size n h)

-- The two ways through `speaks`.
module _ (m2 : List (ℕ × ℕ)) (s : List ℕ) (p place c : ℕ) {v : ℕ} (e : v ≡ value_at s p place) where
  pub speaks_silent : v ≡ 0 → false ≡ not (eqb (value_at s p place) 0) && is_some (find m2 c)
  speaks_silent z = rw (eq-eqb (value_at s p place) 0 (sym e ∙ z))

  pub speaks_if : (v ≡ 0 → ⊥) → {b : Bool} → b ≡ is_some (find m2 c) → b ≡ not (eqb (value_at s p place) 0) && is_some (find m2 c)
  speaks_if z f = rw (ne_eqb (value_at s p place) 0 (λ q. z (e ∙ q))) f

-- What the loop of `row_uses` keeps: the answer for what is left is the whole answer.
pub record UsingCells (m2 : List (ℕ × ℕ)) (s : List ℕ) (size place p n cell c : ℕ) : Type 0 where
  pub within : c ≤ n
  pub inside : cell + 2 + size * (n - c) ≤ length s
  pub rest : row_uses m2 s size place c cell (n - c) ≡ row_uses m2 s size place 0 p (word s 14)

module _ {m2 : List (ℕ × ℕ)} {s : List ℕ} {size place p n : ℕ} where
  pub cells_all : n ≡ word s 14 → HasRow s size p → UsingCells m2 s size place p n p 0
  cells_all e h =
      let z : n - 0 ≡ word s 14 = omega arith in
      record { within = omega arith; inside = rw z h.cells; rest = rw z }

  module _ {cell c : ℕ} (k : UsingCells m2 s size place p n cell c) where
    pub cells_end : n ≤ c → false ≡ row_uses m2 s size place 0 p (word s 14)
    unfolding row_uses
    cells_end h =
        let e : n - c ≡ 0 = omega arith in
        rw e at k.rest

    module _ (h : c < n) where
      pub cells_inside : cell + 2 + size ≤ length s
      cells_inside = omega (arith, k.inside, mul_left size n c h)

      now_is : {u : Bool} → u ≡ not (eqb (value_at s cell place) 0) && is_some (find m2 c) → u || row_uses m2 s size place (c + 1) (cell + size) (n - (c + 1)) ≡ row_uses m2 s size place 0 p (word s 14)
      unfolding row_uses
      now_is e =
          let d : n - c ≡ suc (n - (c + 1)) = omega arith in
          rw e (rw d at k.rest)

      pub cells_found : {u : Bool} → u ≡ not (eqb (value_at s cell place) 0) && is_some (find m2 c) → u ≡ true → true ≡ row_uses m2 s size place 0 p (word s 14)
      cells_found e t = rw t at (now_is e)

      pub cells_next : {u : Bool} → u ≡ not (eqb (value_at s cell place) 0) && is_some (find m2 c) → u ≡ false → UsingCells m2 s size place p n (cell + size) (c + 1)
      cells_next e t = record { within = omega arith; inside = omega (arith, k.inside, mul_left size n c h); rest = rw t at (now_is e) }

-- What the loop of `uses` keeps.
pub record UsingRows (m1 m2 : List (ℕ × ℕ)) (s : List ℕ) (size place n row p c : ℕ) : Type 0 where
  pub within : c ≤ n
  pub step : row ≡ size * word s 14
  pub inside : p + 2 + row * (n - c) ≤ length s
  pub rest : rows_use m1 m2 s size place (word s 14) c p (n - c) ≡ cells_use m1 m2 s size place

module _ {m1 m2 : List (ℕ × ℕ)} {s : List ℕ} {size place n row : ℕ} where
  pub rows_all : n ≡ word s 12 → row ≡ size * word s 14 → HasCells s size → UsingRows m1 m2 s size place n row 14 0
  unfolding cells_use
  rows_all e f h =
      let z : n - 0 ≡ word s 12 = omega arith in
      record { within = omega arith; step = f; inside = rw (z, f) h.cells; rest = rw z }

  module _ {p c : ℕ} (k : UsingRows m1 m2 s size place n row p c) where
    pub rows_end : n ≤ c → false ≡ cells_use m1 m2 s size place
    unfolding rows_use
    rows_end h =
        let e : n - c ≡ 0 = omega arith in
        rw e at k.rest

    module _ (h : c < n) where
      pub rows_row : p + 2 + row ≤ length s
      rows_row = omega (arith, k.inside, mul_left row n c h)

      pub rows_inside : 16 ≤ length s → HasRow s size p
      rows_inside l = record { header = l; cells = rw k.step at rows_row }

      now_row : {u : Bool} → u ≡ is_some (find m1 c) && row_uses m2 s size place 0 p (word s 14) → u || rows_use m1 m2 s size place (word s 14) (c + 1) (p + row) (n - (c + 1)) ≡ cells_use m1 m2 s size place
      unfolding rows_use
      now_row e =
          let d : n - c ≡ suc (n - (c + 1)) = omega arith in
          rw (e, k.step) (rw d at k.rest)

      pub rows_found : {u : Bool} → u ≡ is_some (find m1 c) && row_uses m2 s size place 0 p (word s 14) → u ≡ true → true ≡ cells_use m1 m2 s size place
      rows_found e t = rw t at (now_row e)

      pub rows_next : {u : Bool} → u ≡ is_some (find m1 c) && row_uses m2 s size place 0 p (word s 14) → u ≡ false → UsingRows m1 m2 s size place n row (p + row) (c + 1)
      rows_next e t = record { within = omega arith; step = k.step; inside = omega (arith, k.inside, mul_left row n c h); rest = rw t at (now_row e) }

-- at the place 0 there is no field
module _ (m1 m2 : List (ℕ × ℕ)) (s : List ℕ) (size : ℕ) where
  absent : (n c p : ℕ) → row_uses m2 s size 0 c p n ≡ false
  unfolding row_uses value_at
  absent zero c p = refl
  absent (suc n) c p = absent n (c + 1) (p + size)

  absent_rows : (m n c p : ℕ) → rows_use m1 m2 s size 0 m c p n ≡ false
  unfolding rows_use
  absent_rows m zero c p = refl
  absent_rows m (suc n) c p = rw (absent m 0 p, absent_rows m n (c + 1) (p + size * m)) (step (is_some (find m1 c)))
    where
      step : (b : Bool) → (b && false) || false ≡ false
      step true = refl
      step false = refl

  pub unused : {place : ℕ} → place ≡ 0 → false ≡ cells_use m1 m2 s size place
  unfolding cells_use
  unused e = rw e (sym (absent_rows (word s 14) (word s 12) 0 14))

-- the sum of the fields that stay
pub format_sum : (m1 m2 : List (ℕ × ℕ)) (s : List ℕ) (size start f : ℕ) {p q u v a b c d : ℕ}
    → p ≡ field_place start f 1 → q ≡ field_place start f 2 → u ≡ field_place start f 4 → v ≡ field_place start f 8
    → a ≡ keep_if (cells_use m1 m2 s size p) 1 → b ≡ keep_if (cells_use m1 m2 s size q) 2 → c ≡ keep_if (cells_use m1 m2 s size u) 4 → d ≡ keep_if (cells_use m1 m2 s size v) 8
    → a + b + c + d ≡ format_in m1 m2 s size start f
unfolding format_in
format_sum m1 m2 s size start f e i j k w x y z = rw (w, x, y, z, e, i, j, k)

-- the formats of a source, put together
module _ (s : List ℕ) {f1 f2 a b : ℕ} (e : f1 ≡ word s 4) (f : f2 ≡ word s 6) (x : a ≡ field_count f1) (y : b ≡ field_count f2) where
  pub size_is : 2 * a + 2 * b ≡ cell_size (word s 4) (word s 6)
  size_is = rw (x, y, e, f)

  pub has_sized : HasCells s (cell_size (word s 4) (word s 6)) → HasCells s (2 * a + 2 * b)
  has_sized h = rw size_is h

  pub formats_new : (m1 m2 : List (ℕ × ℕ)) {n1 m n2 : ℕ} → n1 ≡ format_in m1 m2 s (2 * a + 2 * b) 2 f1 → m ≡ format_in m1 m2 s (2 * a + 2 * b) (2 * a + 2) f2 → n2 ≡ stand_in f2 m
      → NewFormats m1 m2 s (record { f1 = f1; f2 = f2; n1 = n1; n2 = n2; size = 2 * a + 2 * b })
  formats_new m1 m2 h k l =
      let start : 2 * a + 2 ≡ 2 * field_count (word s 4) + 2 = ap (λ (n : ℕ). 2 * n + 2) (x ∙ ap field_count e) in
      record {
        old = record { f1 = e; f2 = f; size = size_is };
        n1 = h ∙ ap₂ (λ (n i : ℕ). format_in m1 m2 s n 2 i) size_is e ∙ first_format m1 m2 s;
        n2 = l ∙ ap₂ stand_in f (k ∙ ap₂ (λ (n i : ℕ). format_in m1 m2 s n i f2) size_is start ∙ ap (format_in m1 m2 s (cell_size (word s 4) (word s 6)) (2 * field_count (word s 4) + 2)) f) ∙ second_format m1 m2 s;
      }
