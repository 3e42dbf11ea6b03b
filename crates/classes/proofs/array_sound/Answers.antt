use Rattle.classes.proofs.Checking.{array_short, array_cut, array_ends}
use mathlib.Core.Path.{sym, ◌∙◌}
use Rattle.classes.proofs.array_sound.Goals as goal

pub returns-then-not-inside : goal.returns-then-not-inside
returns-then-not-inside c =
    array_short c.args.src.now c.args.at (sym c.inside.ensures ∙ c.if-not-inside.true)

pub returns-then-not-inside-2 : goal.returns-then-not-inside-2
returns-then-not-inside-2 c =
    array_cut c.args.src.now c.args.at (sym c.inside.ensures ∙ c.if-not-inside.false) c.word_at-n.ensures.0 (sym c.inside-2.ensures ∙ c.if-not-inside-2.true)

pub returns : goal.returns
returns c =
    array_ends c.args.src.now c.args.at (sym c.inside.ensures ∙ c.if-not-inside.false) c.word_at-n.ensures.0 (sym c.inside-2.ensures ∙ c.if-not-inside-2.false) c.word_at.ensures.0
