use Rattle.area_parts.proofs.Cover.{counting_all, counting_on, counting_ends, counting_end}
use Rattle.area_parts.proofs.count_runs.Goals as goal
use Rattle.area_parts.proofs.count_runs.Goals.{then-not-neighbours, else-not-neighbours}

pub loop-i-init : goal.loop-i-init
loop-i-init c = counting_all c.requires.1

pub loop-i-preserved : goal.loop-i-preserved
loop-i-preserved c =
    elim c.if-not-neighbours.branch [
      | then-not-neighbours w ↦ rw w.runs-is (counting_ends c.loop-i.invariant c.loop-i-test.true c.neighbours.ensures w.if-not-neighbours.true)
      | else-not-neighbours w ↦ rw w.runs-is (counting_on c.loop-i.invariant c.loop-i-test.true c.neighbours.ensures w.if-not-neighbours.false)
    ]

pub returns : goal.returns
returns c = counting_end c.loop-i.invariant c.loop-i-test.false
