-- Good lookup maps by their column.
use Prim.Native.Nat.{ℕ, ◌/◌, ◌%◌}
use mathlib.Core.Path.{◌≡◌}
use mathlib.Core.Bool.{false}
use mathlib.Core.List.{List}
use lib.ListN.{length}
use borrow.Author.Tests.{eq-eqb, ne_eqb}
use Rattle.meaning.specs.Words.{ascends}
use Rattle.meaning.specs.Maps.{map_entries, good_lookups}
use Rattle.laws.specs.Left.{column, keys_column}

module _ (m : List ℕ) where
  -- entries that are not whole settle it; else the old column does
  pub lookups_broken : (length m % 4 ≡ 0 → ⊥) → false ≡ good_lookups m
  unfolding good_lookups
  lookups_broken h = rw (ne_eqb (length m % 4) 0 h)

  pub lookups_whole : length m % 4 ≡ 0 → ascends (column m 4 0 (length m / 4)) ≡ good_lookups m
  unfolding good_lookups map_entries
  lookups_whole h = rw (eq-eqb (length m % 4) 0 h, keys_column m 0 (length m / 4))
