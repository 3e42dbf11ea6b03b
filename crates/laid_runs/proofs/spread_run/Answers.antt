use Prim.Native.Nat.{◌-◌}
use Rattle.cell_maps.proofs.RunLaws.{spreading_none, spreading_asks, spreading_next, spreading_end}
use Rattle.laid_runs.proofs.spread_run.Goals as goal

pub loop-i-init : goal.loop-i-init
loop-i-init c =
    spreading_none c.requires.0 c.requires.1 c.requires.2 c.word_inside-old.ensures.0 c.word_inside-new.ensures.0 c.word_inside-count.ensures.0

pub add-requires : goal.add-requires
add-requires c =
    spreading_asks c.requires.0 c.requires.1 c.requires.2 c.word_inside-old.ensures.0 c.word_inside-new.ensures.0 c.word_inside-count.ensures.0 c.loop-i.invariant c.loop-i-test.true

pub loop-i-preserved : goal.loop-i-preserved
loop-i-preserved c =
    spreading_next c.requires.0 c.requires.1 c.requires.2 c.word_inside-old.ensures.0 c.word_inside-new.ensures.0 c.word_inside-count.ensures.0 c.loop-i.invariant c.loop-i-test.true c.add.ensures

pub returns : goal.returns
returns c =
    spreading_end c.requires.0 c.requires.1 c.requires.2 c.word_inside-old.ensures.0 c.word_inside-new.ensures.0 c.word_inside-count.ensures.0 c.loop-i.invariant c.loop-i-test.false
