-- Value fields of pairs by class: which stay, said without `cut`, and that `cut` keeps just these.
use Rattle.std.specs.Prelude.{ℕ, ◌+◌, Bool, false, ◌&&◌}
use Rattle.std.proofs.Math.Bool.{◌||◌}
use mathlib.Core.List.{List, [], ◌∷◌}
use Rattle.meaning.specs.Tables.{Pair}
use Rattle.promises.specs.Survives.{some_of}
use Rattle.more.specs.Wider.{cell_survives}
use Rattle.more.specs.Fields.{nonzero}

-- some cell passes a test that knows its row's class; the first row is that of class c
unfoldable pub some_cell : (ℕ → Pair → Bool) → ℕ → List (List Pair) → Bool
some_cell test c [] = false
some_cell test c (row ∷ rows) = some_of (test c) row || some_cell test (c + 1) rows

-- a value field of the first or second record stays if some kept cell has it nonzero; `get` takes the record
unfoldable pub cell_field_survives : (Pair → List ℕ) → ℕ → ℕ → List (ℕ × ℕ) → List ℕ → List (ℕ × ℕ) → List (ℕ × ℕ) → List (List Pair) → Bool
cell_field_survives get f k g cov cs ds rows = some_cell (λ c p. cell_survives g cov cs ds c p && nonzero get f k p) 0 rows
