-- The ways through a tally's change.
use Prim.Native.Nat.{ℕ, ◌+◌}
use mathlib.Core.Path.{◌≡◌}
use mathlib.Core.Bool.{Bool, true, false, cond}
use lib.Dec.{eqb}
use Rattle.replaying.specs.Replay.{changed}
use Rattle.tallies.specs.Counting.{tally_of}
use Rattle.tallies.specs.declared.Tally.{Tally}

module _ (t : Tally) (b : Bool) where
  pub agreed : b ≡ true → tally_of (record { runs = t.runs + 1; agreements = t.agreements + 1; first = t.first }) ≡ changed b (tally_of t)
  unfolding changed
  agreed e = rw e

  pub differed : b ≡ false → {f : ℕ} → f ≡ cond (eqb t.first 0) (t.runs + 1) t.first → tally_of (record { runs = t.runs + 1; agreements = t.agreements; first = f }) ≡ changed b (tally_of t)
  unfolding changed
  differed e q = rw (e, q)
