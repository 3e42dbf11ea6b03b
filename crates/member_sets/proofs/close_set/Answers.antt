use mathlib.Core.Path.{ap, ◌∙◌}
use native.Mathlib.Omega.{arith}
use lib.ListN.{length}
use lib.Seq.{length-sets}
use Rattle.member_sets.proofs.Closing.{closed_empty, closed_some}
use Rattle.member_sets.proofs.close_set.Goals as goal

pub returns-then-k-eq0 : goal.returns-then-k-eq0
returns-then-k-eq0 c = closed_empty c.if-k-eq0.true

pub returns : goal.returns
returns c =
    closed_some c.if-k-eq0.false (omega arith) c.put-at.ensures (ap length c.put-at.ensures.1 ∙ simp length-sets) c.close_up.ensures
