use Rattle.cover_differences.specs.Chained.{chained_sound}
use Rattle.cover_differences.proofs.Chaining.{chained_listed}
use Rattle.cover_differences.proofs.list_chained.Goals as goal

pub same_chained-requires : goal.same_chained-requires
same_chained-requires c =
    (chained_sound c.args.left.now c.requires.1 c.requires.0, chained_sound c.args.right.now c.requires.3 c.requires.2)

pub returns : goal.returns
returns c =
    chained_listed c.args.left.now c.args.right.now c.requires.1 c.requires.3 c.same_chained.ensures c.list_rules.ensures
