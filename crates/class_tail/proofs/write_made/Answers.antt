use Rattle.remade_classes.proofs.Making.{made_asked, made_placed}
use Rattle.class_tail.proofs.write_made.Goals as goal

pub write_table-requires : goal.write_table-requires
write_table-requires c = made_asked c.make_table-table.ensures c.requires.1

pub returns : goal.returns
returns c = (made_placed c.make_table-table.ensures c.write_table.ensures, c.make_table-table.ensures.elsewhere)
