use native.Mathlib.Omega.{arith}
use Rattle.replay.proofs.Playing.{playing_all, playing_whole, playing_deep, playing_turn, playing_end}
use Rattle.replay.proofs.play_runs.Goals as goal

pub loop-at-init : goal.loop-at-init
loop-at-init c = playing_all c.requires.1

pub replay_run-requires : goal.replay_run-requires
replay_run-requires c =
    (c.requires.0, playing_whole c.loop-at.invariant c.loop-at-test.true)

pub returns-in_default : goal.returns-in_default
returns-in_default c =
    playing_deep c.loop-at.invariant c.loop-at-test.true c.in_default.ensures

pub changed-tally-requires : goal.changed-tally-requires
changed-tally-requires c =
    (omega (arith, c.loop-at.invariant.few, c.loop-at-test.true), c.loop-at.invariant.fewer)

pub overflow_add-at-in-loop-at : goal.overflow_add-at-in-loop-at
overflow_add-at-in-loop-at c =
    let w = playing_whole c.loop-at.invariant c.loop-at-test.true in
    omega (arith, w.inside, c.word_at.ensures.0)

pub loop-at-preserved : goal.loop-at-preserved
loop-at-preserved c =
    playing_turn c.loop-at.invariant c.loop-at-test.true c.in-Ok.ensures c.changed-tally.ensures c.word_at.ensures.0

pub returns : goal.returns
returns c = playing_end c.loop-at.invariant c.loop-at-test.false
