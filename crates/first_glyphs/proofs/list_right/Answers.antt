use Rattle.first_glyphs.proofs.Covers.{right_none}
use Rattle.first_glyphs.proofs.list_right.Goals as goal

pub returns-in_default : goal.returns-in_default
returns-in_default c = right_none c.args.g c.in_default.ensures
