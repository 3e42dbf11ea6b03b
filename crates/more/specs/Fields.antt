-- Value fields of pair tables: which stay, said without `cut`, and that `cut` keeps just these.
use Rattle.std.specs.Prelude.{ℕ, Bool, ◌&&◌, not, eqb, Option}
use mathlib.Core.List.{List}
use Rattle.meaning.specs.Tables.{Pair, field}
use Rattle.promises.specs.Survives.{some_set_kept, pair_survives}

-- a value record has the field k of its format f nonzero
unfoldable pub nonzero : (Pair → List ℕ) → ℕ → ℕ → Pair → Bool
nonzero get f k p = not (eqb (field f (get p) k) 0)

-- a value field (0x0001, 0x0002, 0x0004, 0x0008) of the first or second record stays if some surviving pair has it nonzero; `get` takes the record
unfoldable pub field_survives : (Pair → List ℕ) → ℕ → ℕ → List (ℕ × ℕ) → List ℕ → List (Option (List Pair)) → Bool
field_survives get f k g cov sets = some_set_kept (λ c p. pair_survives g c p && nonzero get f k p) g cov sets
