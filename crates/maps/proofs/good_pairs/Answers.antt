use Prim.Native.Nat.{◌-◌}
use native.Mathlib.Omega.{arith}
use Rattle.maps.proofs.Pairs.{climbing_all, climbing_turn, old_falls, new_falls, climbing_end, pairs_broken}
use Rattle.maps.proofs.good_pairs.Goals as goal

pub returns-then-m-ne0 : goal.returns-then-m-ne0
returns-then-m-ne0 c = pairs_broken c.args.m.now c.if-m-ne0.true

pub loop-i-init : goal.loop-i-init
loop-i-init c = climbing_all

pub returns-then-old-low : goal.returns-then-old-low
returns-then-old-low c =
    old_falls c.loop-i.invariant c.loop-i-test.true c.word_inside-old.ensures.0 c.word_inside-new.ensures.0 c.if-m-ne0.false c.if-old-low.true

pub returns-then-new-least : goal.returns-then-new-least
returns-then-new-least c =
    new_falls c.loop-i.invariant c.loop-i-test.true c.word_inside-old.ensures.0 c.word_inside-new.ensures.0 c.if-m-ne0.false (omega (arith, c.if-old-low.false)) c.if-new-least.true

pub loop-i-preserved : goal.loop-i-preserved
loop-i-preserved c =
    climbing_turn c.loop-i.invariant c.loop-i-test.true c.word_inside-old.ensures.0 c.word_inside-new.ensures.0 (omega (arith, c.if-old-low.false)) (omega (arith, c.if-new-least.false))

pub returns : goal.returns
returns c = climbing_end c.loop-i.invariant c.loop-i-test.false c.if-m-ne0.false
