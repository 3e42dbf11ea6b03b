use Prim.Native.Nat.{◌-◌}
use borrow.Author.Rules.{rules}
use Rattle.replay_cost.proofs.Depths.{levelled_all, levelled_next, levelled_end}
use Rattle.replay_cost.proofs.levels.Goals as goal

pub loop-i-init : goal.loop-i-init
loop-i-init c =
    levelled_all c.requires.1 c.requires.2

pub level-requires : goal.level-requires
level-requires c = c.requires.0

pub level-requires-in-loop-i : goal.level-requires-in-loop-i
level-requires-in-loop-i c =
    c.requires.0

pub loop-i-preserved : goal.loop-i-preserved
loop-i-preserved c =
    levelled_next c.loop-i.invariant c.loop-i-test.true c.level.ensures (search rules) c.level-in-loop-i.ensures (search rules)

pub returns : goal.returns
returns c =
    levelled_end c.loop-i.invariant c.loop-i-test.false c.sum_steps.ensures

pub shape_of-here : goal.shape_of-here
shape_of-here c = c.loop-i.invariant.here_long

pub shape_of-there : goal.shape_of-there
shape_of-there c = c.loop-i.invariant.there_long
