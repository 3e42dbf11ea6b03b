use Rattle.remade_classes.proofs.Making.{made}
use Rattle.remade_classes.proofs.make_table.Goals as goal

pub returns : goal.returns
returns c = made c.requires c.list_front-l.ensures c.new_entries-len.ensures
