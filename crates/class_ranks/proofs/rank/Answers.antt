use Rattle.ranked_maps.proofs.Marking.{ranking_all, ranking_inside, ranking_one, ranking_none, ranking_end}
use Rattle.class_ranks.proofs.rank.Goals as goal
use Rattle.class_ranks.proofs.rank.Goals.{then-t-cell, else-t-cell}

pub loop-class-init : goal.loop-class-init
loop-class-init c = ranking_all c.requires

pub bounds-t-cell : goal.bounds-t-cell
bounds-t-cell c = ranking_inside c.loop-class.invariant c.loop-class-test.true

pub bounds-t-cell-then-t-cell : goal.bounds-t-cell-then-t-cell
bounds-t-cell-then-t-cell c = ranking_inside c.loop-class.invariant c.loop-class-test.true

pub loop-class-preserved : goal.loop-class-preserved
loop-class-preserved c =
    elim c.if-t-cell.branch [
      | then-t-cell w ↦ rw (w.t-is, w.count-is) (ranking_one c.loop-class.invariant c.loop-class-test.true w.if-t-cell.true)
      | else-t-cell w ↦ rw (w.t-is, w.count-is) (ranking_none c.loop-class.invariant c.loop-class-test.true w.if-t-cell.false)
    ]

pub shape_of-t : goal.shape_of-t
shape_of-t c = c.loop-class.invariant.elsewhere.size

pub returns : goal.returns
returns c = ranking_end c.loop-class.invariant c.loop-class-test.false
