use Rattle.member_sets.specs.Dead.{dead_none}
use Rattle.class_layouts.proofs.+write_crowded.Goals as goal

-- no rule is known to go at first
pub write_context-requires : goal.write_context-requires
write_context-requires t c = (c.requires, dead_none 4096)
