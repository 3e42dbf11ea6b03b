use native.Mathlib.Omega.{arith}
use Rattle.matching.proofs.Fitting.{choosing_all, choosing_turn, choosing_found, choosing_end}
use Rattle.matching.proofs.first_rule.Goals as goal

pub loop-i-init : goal.loop-i-init
loop-i-init c = choosing_all c.word_at-count.ensures

pub rule_fits-requires : goal.rule_fits-requires
rule_fits-requires c =
    (c.requires.0, omega arith, c.word_at-off.ensures.1, c.requires.2, c.requires.3)

pub returns-then-rule_fits : goal.returns-then-rule_fits
returns-then-rule_fits c =
    choosing_found c.loop-i.invariant c.loop-i-test.true c.word_at-off.ensures.0 c.rule_fits.ensures c.if-rule_fits.true c.rule_parts-r.ensures (omega arith) c.word_at-off.ensures.1

pub loop-i-preserved : goal.loop-i-preserved
loop-i-preserved c =
    choosing_turn c.loop-i.invariant c.loop-i-test.true c.word_at-off.ensures.0 c.rule_fits.ensures c.if-rule_fits.false

pub returns : goal.returns
returns c = choosing_end c.loop-i.invariant c.loop-i-test.false
