use Rattle.std.proofs.Common.{arith}
use Rattle.steps.proofs.Sweeping.{onward_some}
use Rattle.steps.proofs.onward.Goals as goal

pub returns : goal.returns
returns c = onward_some c.args.took (λ e. omega arith) c.requires
