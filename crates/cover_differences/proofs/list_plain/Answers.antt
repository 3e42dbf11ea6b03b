use Rattle.cover_differences.specs.Contexts.{plain_sound}
use Rattle.cover_differences.proofs.Saying.{plain_listed}
use Rattle.cover_differences.proofs.list_plain.Goals as goal

pub same_plain-requires : goal.same_plain-requires
same_plain-requires c =
    (plain_sound c.args.left.now c.requires.1 c.requires.0, plain_sound c.args.right.now c.requires.3 c.requires.2)

pub returns : goal.returns
returns c =
    plain_listed c.args.left.now c.args.right.now c.requires.1 c.requires.3 c.same_plain.ensures c.list_rules.ensures
