use Rattle.rule_differences.proofs.Ranking.{right_alone, right_paired}
use Rattle.rule_differences.proofs.put_right.Goals as goal

pub returns-then-partner-eq0 : goal.returns-then-partner-eq0
returns-then-partner-eq0 c =
    right_alone c.args.g c.args.i c.args.partner c.if-partner-eq0.true c.put_listed.ensures

pub returns : goal.returns
returns c =
    right_paired c.args.g c.args.i c.args.partner c.if-partner-eq0.false
