use Rattle.value_differences.proofs.Values.{value_same, value_differs}
use Rattle.value_differences.proofs.put_value.Goals as goal

pub returns-then-a-b : goal.returns-then-a-b
returns-then-a-b c =
    value_same c.args.g c.args.second c.args.i c.if-a-b.true

pub returns : goal.returns
returns c =
    value_differs c.args.g c.args.second c.args.i c.if-a-b.false c.put_listed.ensures
