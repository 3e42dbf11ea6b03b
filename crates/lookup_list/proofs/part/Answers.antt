use Rattle.lookup_list.proofs.Parts.{part_bytes}
use Rattle.lookup_list.proofs.part.Goals as goal

pub returns : goal.returns
returns c = part_bytes c.args.buffer.now c.args.start c.args.len
