use Rattle.kept_header.proofs.Finishing.{finish_table}
use Rattle.kept_header.proofs.finish.Goals as goal

pub returns : goal.returns
returns c = finish_table c.requires c.header_size-slots.ensures.0 c.lessen.ensures c.write_cover-end.ensures c.write_header.ensures
