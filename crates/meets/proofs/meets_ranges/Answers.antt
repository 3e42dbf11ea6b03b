use Prim.Native.Nat.{◌-◌}
use native.Mathlib.Omega.{arith}
use Rattle.meets.proofs.Seeking.{seeking_all, seeking_past, seeking_out, seeking_hit, seeking_turn, seeking_end}
use Rattle.meets.proofs.meets_ranges.Goals as goal

pub loop-i-init : goal.loop-i-init
loop-i-init c = seeking_all c.requires

pub reach-e-requires : goal.reach-e-requires
reach-e-requires c =
    (c.requires.map, c.loop-i.invariant.passed, seeking_past c.requires c.loop-i.invariant c.loop-i-test.true c.word_inside-first.ensures.0 c.word_inside-last.ensures.0, omega (arith, c.word_inside-first.ensures.1))

pub returns-then-count_runs-e : goal.returns-then-count_runs-e
returns-then-count_runs-e c =
    seeking_out c.requires c.loop-i.invariant c.loop-i-test.true c.word_inside-first.ensures.0 c.word_inside-last.ensures.0 c.reach-e.ensures (rw c.count_runs.ensures at c.if-count_runs-e.true)

pub run_at-requires : goal.run_at-requires
run_at-requires c =
    (c.requires.map, omega (arith, c.if-count_runs-e.false, c.count_runs.ensures))

pub returns-then-run_at-last : goal.returns-then-run_at-last
returns-then-run_at-last c =
    seeking_hit c.requires c.loop-i.invariant c.loop-i-test.true c.word_inside-first.ensures.0 c.word_inside-last.ensures.0 c.reach-e.ensures (omega (arith, c.if-count_runs-e.false, c.count_runs.ensures)) c.run_at.ensures c.if-run_at-last.true

pub loop-i-preserved : goal.loop-i-preserved
loop-i-preserved c =
    seeking_turn c.requires c.loop-i.invariant c.loop-i-test.true c.word_inside-first.ensures.0 c.word_inside-last.ensures.0 c.reach-e.ensures (omega (arith, c.if-count_runs-e.false, c.count_runs.ensures)) c.run_at.ensures c.if-run_at-last.false

pub returns : goal.returns
returns c = seeking_end c.requires c.loop-i.invariant c.loop-i-test.false
