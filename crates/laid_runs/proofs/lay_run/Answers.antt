use mathlib.Core.Path.{refl}
use Rattle.laid_runs.proofs.lay_run.Goals as goal

pub returns : goal.returns
returns c = record { cells = rw (← c.word_inside-first.ensures.0, ← c.word_inside-new.ensures.0, ← c.word_inside-count.ensures.0) refl }
