use Rattle.area_parts.proofs.Classes.{counting_all, counting_on, counting_ends, counting_end}
use Rattle.area_parts.proofs.class_runs.Goals as goal
use Rattle.area_parts.proofs.class_runs.Goals.{then-not-same_run, else-not-same_run}

pub loop-i-init : goal.loop-i-init
loop-i-init c = counting_all c.requires.1

pub loop-i-preserved : goal.loop-i-preserved
loop-i-preserved c =
    elim c.if-not-same_run.branch [
      | then-not-same_run w ↦ rw w.runs-is (counting_ends c.loop-i.invariant c.loop-i-test.true c.same_run.ensures w.if-not-same_run.true)
      | else-not-same_run w ↦ rw w.runs-is (counting_on c.loop-i.invariant c.loop-i-test.true c.same_run.ensures w.if-not-same_run.false)
    ]

pub returns : goal.returns
returns c = counting_end c.loop-i.invariant c.loop-i-test.false
