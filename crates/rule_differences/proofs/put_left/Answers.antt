use Rattle.rule_differences.proofs.Ranking.{left_alone, left_stays, left_moved}
use Rattle.rule_differences.proofs.put_left.Goals as goal

pub returns-then-partner-eq0 : goal.returns-then-partner-eq0
returns-then-partner-eq0 c =
    left_alone c.args.g c.args.i c.args.partner c.if-partner-eq0.true c.put_listed.ensures

pub returns-then-i-partner : goal.returns-then-i-partner
returns-then-i-partner c =
    left_stays c.args.g c.args.i c.args.partner c.if-partner-eq0.false c.if-i-partner.true

pub returns : goal.returns
returns c =
    left_moved c.args.g c.args.i c.args.partner c.if-partner-eq0.false c.if-i-partner.false c.put_listed-2.ensures
