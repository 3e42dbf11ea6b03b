use mathlib.Core.Path.{sym}
use lib.Seq.{set_out}
use Rattle.replay_cost.proofs.put_steps.Goals as goal

pub returns-else-at-steps : goal.returns-else-at-steps
returns-else-at-steps c =
    sym (set_out c.args.steps.now c.args.at c.args.n c.if-at-steps.false)
