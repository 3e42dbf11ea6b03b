-- The new value formats and the words of the kept cells, as the definitions say them.
use Prim.Native.Nat.{ℕ, zero, suc, ◌+◌, ◌*◌, ◌≤◌, ◌<◌}
use Rattle.std.specs.Prelude.{◌≡◌, Bool, ◌&&◌, ◌||◌, length, eqb, Option, None, Some}
use Rattle.std.proofs.Math.Path.{refl, sym, ap, ap₂}
use Rattle.std.proofs.Common.{◌∙◌}
use Rattle.std.proofs.Math.Bool.{true, false, not}
use mathlib.Core.List.{List, [], ◌∷◌, ◌++◌, map, append_assoc}
use native.Mathlib.Omega.{arith}
use Rattle.meaning.specs.Words.{word, words, find, is_some, bind, push, map_some}
use Rattle.meaning.specs.Tables.{Pair, bit, field_count, field, cells, cell_rows}
use Rattle.meaning.specs.Cut.{cut_pair, used, new_format, stand_in, new_second, pick_fields, thin_pair, thin, kept_rows, rows_of}
use Rattle.meaning.specs.Layout.{cell_words, row_words}
use Rattle.cell_maps.specs.Cells.{Inside}
use Rattle.cell_maps.specs.declared.Map.{Map}
use Rattle.numbers.specs.Alike.{Alike}
use Rattle.pair_fields.specs.Pairs.{value_at}
use Rattle.pair_places.specs.Formats.{fields, field_place, kept_places, places_of, Below, below, value_is, pick_is, map_append}
use Rattle.pair_sets.specs.declared.Formats.{Formats}
use Rattle.class_formats.specs.Cells.{row_uses, rows_use, cells_use, format_in, if_kept, row_left, rows_left, cells_left, HasCells}

-- how long a cell with these formats is
abbrev pub cell_size : ℕ → ℕ → ℕ
cell_size f1 f2 = 2 * field_count f1 + 2 * field_count f2

-- the kept rows of a source under the maps of first and of second classes
abbrev pub kept_of : List (ℕ × ℕ) → List (ℕ × ℕ) → List ℕ → List (ℕ × List Pair)
kept_of m1 m2 s = kept_rows m1 m2 0 (cell_rows s (field_count (word s 4)) (field_count (word s 6)) (word s 14) 16 (word s 12))

-- their words, with the fields of the new formats
abbrev pub kept_cells : List (ℕ × ℕ) → List (ℕ × ℕ) → List ℕ → ℕ → ℕ → List ℕ
kept_cells m1 m2 s n1 n2 = row_words (rows_of (thin (word s 4) (word s 6) n1 n2 (kept_of m1 m2 s)))

few_fields : (f : ℕ) → field_count f ≤ 8
unfolding field_count bit
few_fields f = omega arith

-- cells that lie inside
pub has_cells : (s : List ℕ) (f1 f2 : ℕ) → 16 ≤ length s → 16 + cell_size f1 f2 * word s 14 * word s 12 ≤ length s → HasCells s (cell_size f1 f2)
has_cells s f1 f2 h k = record { header = h; small = omega (arith, few_fields f1, few_fields f2); cells = k }

-- what is asked of a source and of the maps of its classes: the header, the cells and the maps lie inside
pub record AsksCells (s t : List ℕ) (firsts seconds : Map) : Type 0 where
  pub has : HasCells s (cell_size (word s 4) (word s 6))
  pub first_map : Inside t firsts
  pub second_map_lem : Inside t seconds

-- f has the formats of the source, and how long its cells are
pub record AsksRows (s : List ℕ) (f : Formats) : Type 0 where
  pub f1 : f.f1 ≡ word s 4
  pub f2 : f.f2 ≡ word s 6
  pub size : f.size ≡ cell_size (word s 4) (word s 6)

-- r has besides the new formats that the kept rows ask for
pub record NewFormats (m1 m2 : List (ℕ × ℕ)) (s : List ℕ) (r : Formats) : Type 0 where
  pub old : AsksRows s r
  pub n1 : r.n1 ≡ new_format (λ p. p.first_values) (word s 4) (kept_of m1 m2 s)
  pub n2 : r.n2 ≡ new_second (word s 6) (kept_of m1 m2 s)

-- Maps that answer alike keep the same rows.
module _ {m1 k1 m2 k2 : List (ℕ × ℕ)} (e1 : Alike m1 k1) (e2 : Alike m2 k2) where
  cells_alike : (row : List Pair) → map_some (cut_pair m2) row ≡ map_some (cut_pair k2) row
  unfolding map_some cut_pair
  cells_alike [] = refl
  cells_alike (p ∷ row) = rw (e2.same p.second, cells_alike row)

  pub kept_alike : (c : ℕ) (rows : List (List Pair)) → kept_rows m1 m2 c rows ≡ kept_rows k1 k2 c rows
  unfolding kept_rows
  kept_alike c [] = refl
  kept_alike c (row ∷ rows) = rw (e1.same c, cells_alike row, kept_alike (c + 1) rows)

-- The fields that the kept rows use.
module _ (f1 f2 : ℕ) (m1 m2 : List (ℕ × ℕ)) (s : List ℕ) where
  -- the cell at p of the second class y
  abbrev cell_at : ℕ → ℕ → Pair
  cell_at p y = record { second = y; first_values = words s (p + 2) (field_count f1); second_values = words s (p + 2 + 2 * field_count f1) (field_count f2) }

  -- the next cell
  next : (p : ℕ) → p + 2 + 2 * field_count f1 + 2 * field_count f2 ≡ p + cell_size f1 f2 + 2
  next p = omega arith

  next_row : (p m : ℕ) → p + 2 + (2 * field_count f1 + 2 * field_count f2) * m ≡ p + cell_size f1 f2 * m + 2
  next_row p m = omega arith

  module _ (get : Pair → List ℕ) (f start k : ℕ) (z : 0 < start) (b : Below f k) (there : (p y : ℕ) → get (cell_at p y) ≡ words s (p + start) (field_count f)) where
    cells_used : (i : ℕ) (r : List (ℕ × List Pair)) (n c p : ℕ) → used get f k ((i, map_some (cut_pair m2) (cells s (field_count f1) (field_count f2) c (p + 2) n)) ∷ r)
        ≡ row_uses m2 s (cell_size f1 f2) (field_place start f k) c p n || used get f k r
    unfolding used row_uses cells map_some cut_pair push bind is_some
    cells_used i r zero c p = refl
    cells_used i r (suc n) c p =
        step (find m2 c) (not (eqb (value_at s p (field_place start f k)) 0)) (λ y. ap (λ (x : ℕ). not (eqb x 0)) (ap (λ (vs : List ℕ). field f vs k) (there p y) ∙ value_is start f k z b s p))
        _ _ (rw (next p) (cells_used i r n (c + 1) (p + cell_size f1 f2)))
      where
        step : (o : Option ℕ) (u : Bool) → ((y : ℕ) → not (eqb (field f (get (cell_at p y)) k) 0) ≡ u) → (ps : List Pair) (v : Bool) → used get f k ((i, ps) ∷ r) ≡ v || used get f k r
            → used get f k ((i, push (bind o (λ y. Some (cell_at p y))) ps) ∷ r) ≡ ((u && is_some o) || v) || used get f k r
        step None true h ps v e = e
        step None false h ps v e = e
        step (Some y) true h ps v e = rw (h y)
        step (Some y) false h ps v e = rw (h y) e

    rows_used : (m n c p : ℕ) → used get f k (kept_rows m1 m2 c (cell_rows s (field_count f1) (field_count f2) m (p + 2) n)) ≡ rows_use m1 m2 s (cell_size f1 f2) (field_place start f k) m c p n
    unfolding used rows_use kept_rows cell_rows push bind is_some
    rows_used m zero c p = refl
    rows_used m (suc n) c p = step (find m1 c) _ _ (rw (next_row p m) (rows_used m n (c + 1) (p + cell_size f1 f2 * m)))
      where
        step : (o : Option ℕ) (r : List (ℕ × List Pair)) (v : Bool) → used get f k r ≡ v
            → used get f k (push (bind o (λ i. Some (i, map_some (cut_pair m2) (cells s (field_count f1) (field_count f2) 0 (p + 2) m)))) r) ≡ (is_some o && row_uses m2 s (cell_size f1 f2) (field_place start f k) 0 p m) || v
        step None r v e = e
        step (Some i) r v e = cells_used i r m 0 p ∙ ap (λ (w : Bool). row_uses m2 s (cell_size f1 f2) (field_place start f k) 0 p m || w) e

    cells_use_lem : cells_use m1 m2 s (cell_size f1 f2) (field_place start f k) ≡ used get f k (kept_rows m1 m2 0 (cell_rows s (field_count f1) (field_count f2) (word s 14) 16 (word s 12)))
    unfolding cells_use
    cells_use_lem = sym (rows_used (word s 14) (word s 12) 0 14)

  module _ (get : Pair → List ℕ) (f start : ℕ) (z : 0 < start) (there : (p y : ℕ) → get (cell_at p y) ≡ words s (p + start) (field_count f)) where
    format_is : format_in m1 m2 s (cell_size f1 f2) start f ≡ new_format get f (kept_rows m1 m2 0 (cell_rows s (field_count f1) (field_count f2) (word s 14) 16 (word s 12)))
    unfolding format_in new_format
    format_is =
        let b = below f in
        rw (cells_use_lem get f start 1 z b.0 there, cells_use_lem get f start 2 z b.1.0 there, cells_use_lem get f start 4 z b.1.1.0 there, cells_use_lem get f start 8 z b.1.1.1.0 there)

-- the new formats
module _ (m1 m2 : List (ℕ × ℕ)) (s : List ℕ) where
  pub first_format : format_in m1 m2 s (cell_size (word s 4) (word s 6)) 2 (word s 4) ≡ new_format (λ p. p.first_values) (word s 4) (kept_of m1 m2 s)
  first_format = format_is (word s 4) (word s 6) m1 m2 s (λ p. p.first_values) (word s 4) 2 (omega arith) (λ p y. refl)

  pub second_format : stand_in (word s 6) (format_in m1 m2 s (cell_size (word s 4) (word s 6)) (2 * field_count (word s 4) + 2) (word s 6)) ≡ new_second (word s 6) (kept_of m1 m2 s)
  unfolding new_second
  second_format = ap (stand_in (word s 6)) (format_is (word s 4) (word s 6) m1 m2 s (λ p. p.second_values) (word s 6) (2 * field_count (word s 4) + 2) (omega arith) (λ p y. ap (λ (i : ℕ). words s i (field_count (word s 6))) (omega arith)))

-- The words of the kept cells.
module _ (f1 f2 n1 n2 : ℕ) (m1 m2 : List (ℕ × ℕ)) (s : List ℕ) where
  -- one cell, and others behind it
  one_cell : (p y : ℕ) (r : List Pair) → map (value_at s p) (places_of f1 f2 n1 n2) ++ cell_words r
      ≡ cell_words (thin_pair f1 f2 n1 n2 (record { second = y; first_values = words s (p + 2) (field_count f1); second_values = words s (p + 2 + 2 * field_count f1) (field_count f2) }) ∷ r)
  unfolding places_of thin_pair cell_words
  one_cell p y r =
      let q : p + (2 + 2 * field_count f1) ≡ p + 2 + 2 * field_count f1 = omega arith in
      let second = pick_is (2 + 2 * field_count f1) f2 n2 (omega arith) s p fields (below f2) ∙ ap (λ (i : ℕ). pick_fields f2 n2 (words s i (field_count f2)) fields) q in
      let both = map_append (value_at s p) (kept_places 2 f1 n1 fields) (kept_places (2 + 2 * field_count f1) f2 n2 fields) ∙ ap₂ (λ (a b : List ℕ). a ++ b) (pick_is 2 f1 n1 (omega arith) s p fields (below f1)) second in
      ap (λ (l : List ℕ). l ++ cell_words r) both ∙ append_assoc (pick_fields f1 n1 (words s (p + 2) (field_count f1)) fields) (pick_fields f2 n2 (words s (p + 2 + 2 * field_count f1) (field_count f2)) fields) (cell_words r)

  row_words_lem : (n c p : ℕ) → row_left m2 s (cell_size f1 f2) (places_of f1 f2 n1 n2) c p n ≡ cell_words (map (thin_pair f1 f2 n1 n2) (map_some (cut_pair m2) (cells s (field_count f1) (field_count f2) c (p + 2) n)))
  unfolding row_left cells map_some cut_pair push bind cell_words
  row_words_lem zero c p = refl
  row_words_lem (suc n) c p = step (find m2 c) _ _ (rw (next f1 f2 m1 m2 s p) (row_words_lem n (c + 1) (p + cell_size f1 f2)))
    where
      step : (o : Option ℕ) (r : List ℕ) (ps : List Pair) → r ≡ cell_words (map (thin_pair f1 f2 n1 n2) ps)
          → if_kept o (map (value_at s p) (places_of f1 f2 n1 n2)) ++ r
          ≡ cell_words (map (thin_pair f1 f2 n1 n2) (push (bind o (λ y. Some (record { second = y; first_values = words s (p + 2) (field_count f1); second_values = words s (p + 2 + 2 * field_count f1) (field_count f2) }))) ps))
      step None r ps e = e
      step (Some y) r ps e = ap (λ (l : List ℕ). map (value_at s p) (places_of f1 f2 n1 n2) ++ l) e ∙ one_cell p y (map (thin_pair f1 f2 n1 n2) ps)

  rows_words : (m n c p : ℕ) → rows_left m1 m2 s (cell_size f1 f2) (places_of f1 f2 n1 n2) m c p n ≡ row_words (rows_of (thin f1 f2 n1 n2 (kept_rows m1 m2 c (cell_rows s (field_count f1) (field_count f2) m (p + 2) n))))
  unfolding rows_left kept_rows cell_rows push bind row_words rows_of thin
  rows_words m zero c p = refl
  rows_words m (suc n) c p = step (find m1 c) _ _ (rw (next_row f1 f2 m1 m2 s p m) (rows_words m n (c + 1) (p + cell_size f1 f2 * m)))
    where
      step : (o : Option ℕ) (w : List ℕ) (r : List (ℕ × List Pair)) → w ≡ row_words (rows_of (thin f1 f2 n1 n2 r))
          → if_kept o (row_left m2 s (cell_size f1 f2) (places_of f1 f2 n1 n2) 0 p m) ++ w
          ≡ row_words (rows_of (thin f1 f2 n1 n2 (push (bind o (λ i. Some (i, map_some (cut_pair m2) (cells s (field_count f1) (field_count f2) 0 (p + 2) m)))) r)))
      step None w r e = e
      step (Some i) w r e = ap₂ (λ (a b : List ℕ). a ++ b) (row_words_lem m 0 p) e

pub cells_left_lem : (m1 m2 : List (ℕ × ℕ)) (s : List ℕ) (n1 n2 : ℕ) → cells_left m1 m2 s (cell_size (word s 4) (word s 6)) (places_of (word s 4) (word s 6) n1 n2) ≡ kept_cells m1 m2 s n1 n2
unfolding cells_left
cells_left_lem m1 m2 s n1 n2 = rows_words (word s 4) (word s 6) n1 n2 m1 m2 s (word s 14) (word s 12) 0 14
