use native.Mathlib.Omega.{arith}
use Rattle.meaning.specs.Words.{words}
use Rattle.matching.proofs.Fitting.{rule_fine, reach_null, reach_rule}
use Rattle.matching.proofs.rule_fits.Goals as goal

pub returns-then-off-eq0 : goal.returns-then-off-eq0
returns-then-off-eq0 c =
    reach_null c.args.chained c.args.src.now c.args.how c.args.base c.args.off (words c.args.string.now 0 c.args.n) c.args.place c.if-off-eq0.true

pub parts_fit-requires : goal.parts_fit-requires
parts_fit-requires c =
    (rule_fine c.rule_parts-r.ensures c.requires.0 (omega arith), c.requires.3, c.requires.4, omega arith)

pub returns : goal.returns
returns c =
    reach_rule c.args.chained c.args.src.now c.args.how c.args.base c.args.off (words c.args.string.now 0 c.args.n) c.args.place c.if-off-eq0.false c.rule_parts-r.ensures c.parts_fit.ensures
