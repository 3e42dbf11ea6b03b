use Rattle.compare_lists.proofs.Formats.{formats_listed}
use Rattle.compare_lists.proofs.list_formats.Goals as goal

pub returns : goal.returns
returns c =
    formats_listed c.args.kind c.requires.0 c.requires.1 c.args.left.now c.args.right.now c.requires.2 c.requires.3 c.requires.4 c.word_at-f.ensures.0 c.word_at-h.ensures.0 c.put_listed.ensures
