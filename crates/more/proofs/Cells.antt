-- Value fields of pairs by class: which stay, said without `cut`, and that `cut` keeps just these.
use Rattle.std.specs.Prelude.{ℕ, ◌+◌, ◌≡◌, Bool, false, cond, ◌&&◌, eqb, Option, None, Some}
use Rattle.std.proofs.Math.Path.{refl, sym, ap₂}
use Rattle.std.proofs.Common.{◌∙◌, ap}
use Rattle.std.proofs.Math.Bool.{◌||◌}
use mathlib.Core.List.{List, [], ◌∷◌}
use Rattle.meaning.specs.Words.{keys, find, is_some, bind, push, map_some, member}
use Rattle.meaning.specs.Parts.{class_of, listed, class_in}
use Rattle.meaning.specs.Tables.{Pair}
use Rattle.meaning.specs.Cut.{held_by, class_map, retained, insert_up, cut_pair, used, covered_map, second_map, kept_rows}
use Rattle.promises.specs.Covers.{keys_same}
use Rattle.promises.specs.Classes.{numbered_member, insert_member}
use Rattle.promises.specs.Survives.{some_of, not_null_and, is_retained, class_survives}
use Rattle.promises.specs.CutSurvives.{some_same, some_retained, some_held, member_some}
use Rattle.more.specs.Wider.{Also, Wider, first_class_kept, second_class_kept, cell_survives}
use Rattle.more.proofs.Wider.{and_then, or_then, some_also, cell_also}
use Rattle.more.specs.Fields.{nonzero}
use Rattle.more.proofs.Fields.{used_some, cut_some, push_some}
use Rattle.more.specs.Cells.{some_cell, cell_field_survives}

cells_also : (p q : ℕ → Pair → Bool) → ((c : ℕ) → Also (p c) (q c)) → (c : ℕ) → Also (some_cell p c) (some_cell q c)
unfolding some_cell
cells_also p q h c [] e = e
cells_also p q h c (row ∷ rows) e = or_then (some_of (p c) row) (some_cell p (c + 1) rows) (some_of (q c) row) (some_cell q (c + 1) rows) (some_also (p c) (q c) (h c) row) (cells_also p q h (c + 1) rows) e

-- a field that stays under a map stays under a wider one
pub cell_field_also : (g h : List (ℕ × ℕ)) → Wider g h → (get : Pair → List ℕ) (f k : ℕ) (cov : List ℕ) (cs ds : List (ℕ × ℕ)) → Also (cell_field_survives get f k g cov cs ds) (cell_field_survives get f k h cov cs ds)
unfolding cell_field_survives
cell_field_also g h w get f k cov cs ds =
    cells_also (λ c p. cell_survives g cov cs ds c p && nonzero get f k p) (λ c p. cell_survives h cov cs ds c p && nonzero get f k p)
    (λ c p. and_then (cell_survives g cov cs ds c p) (nonzero get f k p) (cell_survives h cov cs ds c p) (nonzero get f k p) (cell_also g h w cov cs ds c p) (λ e. e)) 0

-- What `cut` keeps.

-- a class is held exactly if some glyph holds it
held_some : (cs : List (ℕ × ℕ)) (xs : List ℕ) (c : ℕ) → member c (held_by cs xs) ≡ some_of (λ x. eqb (class_of cs x) c) xs
held_some cs xs c = member_some c (held_by cs xs) ∙ some_held (λ d. eqb d c) cs xs

covered_keys : (g : List (ℕ × ℕ)) (cov : List ℕ) → keys (covered_map g cov) ≡ retained g cov
unfolding keys covered_map retained map_some bind push is_some
covered_keys g [] = refl
covered_keys g (c ∷ cov) = go (find g c) (covered_keys g cov)
  where
    go : (o : Option ℕ) → keys (covered_map g cov) ≡ retained g cov → keys (push (bind o (λ n. Some (c, n))) (covered_map g cov)) ≡ push (cond (is_some o) (Some c) None) (retained g cov)
    go None e = e
    go (Some n) e = ap (λ (r : List ℕ). c ∷ r) e

first_left : (g : List (ℕ × ℕ)) (cov : List ℕ) (cs : List (ℕ × ℕ)) (c : ℕ) → is_some (find (class_map (covered_map g cov) cs) c) ≡ first_class_kept g cov cs c
unfolding class_map first_class_kept
first_left g cov cs c =
    numbered_member 0 (held_by cs (keys (covered_map g cov))) c
    ∙ held_some cs (keys (covered_map g cov)) c
    ∙ ap (some_of (λ x. eqb (class_of cs x) c)) (covered_keys g cov)
    ∙ some_retained (λ x. eqb (class_of cs x) c) g cov

second_left : (g ds : List (ℕ × ℕ)) (c : ℕ) → is_some (find (second_map g ds) c) ≡ second_class_kept g ds c
unfolding second_map second_class_kept class_survives class_in listed
second_left g ds c = numbered_member 0 (insert_up 0 (held_by ds (keys g))) c ∙ insert_member c 0 (held_by ds (keys g)) ∙ ap (◌||◌ (eqb 0 c)) (held_some ds (keys g) c)

module _ (get : Pair → List ℕ) (f k : ℕ) (same : (p : Pair) (n : ℕ) → get (record { second = n; first_values = p.first_values; second_values = p.second_values }) ≡ get p)
    (m1 m2 : List (ℕ × ℕ)) (first second : ℕ → Bool) (h1 : (c : ℕ) → is_some (find m1 c) ≡ first c) (h2 : (c : ℕ) → is_some (find m2 c) ≡ second c) where
  abbrev in_set : ℕ × List Pair → Bool
  in_set e = some_of (nonzero get f k) e.1

  nothing : (r : List Pair) → some_of (λ p. false) r ≡ false
  unfolding some_of
  nothing [] = refl
  nothing (p ∷ r) = nothing r

  row_used : (c : ℕ) (row : List Pair) (o : Option ℕ) → is_some o ≡ first c
      → not_null_and in_set (bind o (λ n. Some (n, map_some (cut_pair m2) row))) ≡ some_of (λ p. (first c && second p.second) && nonzero get f k p) row
  unfolding not_null_and bind is_some is_retained
  row_used c row None e = sym (some_same _ (λ p. false) (λ p. rw (← e)) row ∙ nothing row)
  row_used c row (Some n) e = cut_some get f k m2 same row ∙ some_same _ _ (λ p. rw (← e, keys_same m2 p.second, h2 p.second)) row

  rows_used : (c : ℕ) (rows : List (List Pair)) → some_of in_set (kept_rows m1 m2 c rows) ≡ some_cell (λ c p. (first c && second p.second) && nonzero get f k p) c rows
  unfolding kept_rows some_cell some_of
  rows_used c [] = refl
  rows_used c (row ∷ rows) = push_some get f k (bind (find m1 c) (λ n. Some (n, map_some (cut_pair m2) row))) (kept_rows m1 m2 (c + 1) rows) ∙ ap₂ ◌||◌ (row_used c row (find m1 c) (h1 c)) (rows_used (c + 1) rows)

  cells_used : (rows : List (List Pair)) → used get f k (kept_rows m1 m2 0 rows) ≡ some_cell (λ c p. (first c && second p.second) && nonzero get f k p) 0 rows
  cells_used rows = used_some get f k (kept_rows m1 m2 0 rows) ∙ rows_used 0 rows

-- the kept rows use a field exactly if it stays
pub cells_used_exactly : (get : Pair → List ℕ) (f k : ℕ) → ((p : Pair) (n : ℕ) → get (record { second = n; first_values = p.first_values; second_values = p.second_values }) ≡ get p)
    → (g : List (ℕ × ℕ)) (cov : List ℕ) (cs ds : List (ℕ × ℕ)) (rows : List (List Pair))
    → used get f k (kept_rows (class_map (covered_map g cov) cs) (second_map g ds) 0 rows) ≡ cell_field_survives get f k g cov cs ds rows
unfolding cell_field_survives cell_survives
cells_used_exactly get f k same g cov cs ds rows =
    cells_used get f k same (class_map (covered_map g cov) cs) (second_map g ds) (first_class_kept g cov cs) (second_class_kept g ds) (first_left g cov cs) (second_left g ds) rows
