use Rattle.compare_refusals.proofs.Refusing.{format_one, format_none, format_some}
use Rattle.compare_refusals.proofs.compared_format.Goals as goal

pub returns-then-kind-gt2 : goal.returns-then-kind-gt2
returns-then-kind-gt2 c = format_one c.args.kind c.args.format c.if-kind-gt2.true

pub returns-then-format-lt1 : goal.returns-then-format-lt1
returns-then-format-lt1 c =
    format_none c.args.kind c.args.format c.if-kind-gt2.false c.if-format-lt1.true

pub returns : goal.returns
returns c =
    format_some c.args.kind c.args.format c.if-kind-gt2.false c.if-format-lt1.false
