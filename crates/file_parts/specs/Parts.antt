-- Where a part of a file ends.
use Rattle.std.specs.Prelude.{ℕ, ◌+◌, ◌≤◌, ◌≡◌, Bool, true, leb}
use Rattle.std.proofs.Common.{arith, le-leb, leb-true}
use Rattle.meaning.specs.Job.{Part}

-- a part ends at this place or before it; an empty one may start there
unfoldable pub ends_by : Part → ℕ → Bool
ends_by p end = leb (p.start + p.len) end

-- and then by any later place
pub ends_later : (p : Part) {end later : ℕ} → end ≤ later → ends_by p end ≡ true → ends_by p later ≡ true
unfolding ends_by
ends_later p {end} {later} h e = le-leb (p.start + p.len) later (omega (arith, leb-true (p.start + p.len) end e))
