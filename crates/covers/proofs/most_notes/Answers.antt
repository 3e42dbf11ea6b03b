use Rattle.cover_layouts.proofs.Cut.{most_of}
use Rattle.covers.proofs.most_notes.Goals as goal

pub returns : goal.returns
returns c = most_of c.most_row-back.ensures c.most_row-input.ensures c.most_row.ensures
