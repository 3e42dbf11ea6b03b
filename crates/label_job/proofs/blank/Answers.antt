use Prim.Native.Nat.{ℕ}
use lib.ListN.{length-replicate}
use Rattle.report_lines.specs.Lengths.{text_room}
use Rattle.label_job.proofs.blank.Goals as goal

pub returns : goal.returns
unfolding text_room
returns c = length-replicate {A = ℕ} 540700 0
