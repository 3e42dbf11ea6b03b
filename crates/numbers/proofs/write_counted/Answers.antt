use native.Mathlib.Omega.{arith}
use Rattle.area.specs.Extends.{extends_none}
use Rattle.numbers.specs.Leaves.{leaves_after}
use Rattle.numbers.proofs.Fronts.{extends_one}
use Rattle.numbers.proofs.write_counted.Goals as goal

pub returns : goal.returns
returns c =
    leaves_after (extends_one (extends_none (omega arith)) c.args.count (omega arith) c.put-p.ensures) c.renumber.ensures
