use Rattle.tallies.proofs.Counting.{agreed, differed}
use Rattle.tallies.proofs.changed.Goals as goal

pub returns-then-agrees : goal.returns-then-agrees
returns-then-agrees c = agreed c.args.tally c.args.agrees c.if-agrees.true

pub returns : goal.returns
returns c = differed c.args.tally c.args.agrees c.if-agrees.false c.first_out.ensures
