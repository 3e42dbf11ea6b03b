use Rattle.cover_parts.proofs.more_notes.Goals as goal

pub most-n-requires : goal.most-n-requires
most-n-requires c = (c.requires.0 c.if-cover-eq0.false, c.requires.1)
