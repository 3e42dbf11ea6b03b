use Rattle.report.proofs.Whole.{spelled_part}
use Rattle.report.proofs.put_decimal.Goals as goal

pub returns : goal.returns
returns c = rw (spelled_part c.spell-first.ensures) at c.put_text.ensures
