use Rattle.member_steps.proofs.Sums.{steps_in, steps_past}
use Rattle.member_steps.proofs.steps_of.Goals as goal

pub returns-then-n-steps : goal.returns-then-n-steps
returns-then-n-steps c =
    steps_in c.args.steps.now c.args.n c.if-n-steps.true

pub returns : goal.returns
returns c =
    steps_past c.args.steps.now c.args.n c.if-n-steps.false
