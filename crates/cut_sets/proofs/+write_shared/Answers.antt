use Rattle.placed_sets.specs.Sorts.{told_none}
use Rattle.cut_sets.proofs.+write_shared.Goals as goal

-- no member is marked at first
pub write_table-requires : goal.write_table-requires
write_table-requires t c = (c.requires.0, c.requires.1, told_none c.args.sort 4096 c.requires.2)
