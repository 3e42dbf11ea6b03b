-- All cells cleared.
use Prim.Native.Nat.{ℕ, ◌≤◌, ◌<◌}
use mathlib.Core.Path.{◌≡◌}
use mathlib.Core.List.{List}
use native.Mathlib.Decide.{dec_lt}
use native.Mathlib.Omega.{arith}
use lib.ListN.{length, get_or, get_or-eq_default}
use Rattle.cells.specs.Cleared.{Cleared}

-- where all cells are cleared each reads as 0, also past the end
pub cleared_whole : {n : ℕ} {old new : List ℕ} → Cleared n old new → length new ≤ n → (i : ℕ) → get_or new i 0 ≡ 0
cleared_whole {n} {old} {new} k h i = go (dec_lt i n)
  where
    go : Dec (i < n) → get_or new i 0 ≡ 0
    go (yes l) = k.blank i l
    go (no l) = get_or-eq_default new 0 (omega arith)
