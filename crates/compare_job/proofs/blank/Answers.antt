use Prim.Native.Nat.{ℕ}
use lib.ListN.{length-replicate}
use Rattle.compare_job.specs.Program.{text_room}
use Rattle.compare_job.proofs.blank.Goals as goal

pub returns : goal.returns
unfolding text_room
returns c = length-replicate {A = ℕ} 540800 0
