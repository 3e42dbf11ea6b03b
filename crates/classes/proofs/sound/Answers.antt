use Rattle.classes.proofs.Checking.{table_short, table_array, table_neither, table_cut, table_ranges}
use mathlib.Core.Path.{◌≡◌, sym, ◌∙◌}
use mathlib.Core.Bool.{true}
use Rattle.meaning.specs.Words.{inside}
use Rattle.classes.proofs.sound.Goals as goal
use Rattle.classes.proofs.sound.Goals.{Else-not-inside}

-- after the first test: the head lies inside
head : (c : Else-not-inside) → inside c.args.src.now c.args.at 4 ≡ true
head c = sym c.inside.ensures ∙ c.if-not-inside.false

pub returns-then-not-inside : goal.returns-then-not-inside
returns-then-not-inside c =
    table_short c.args.src.now c.args.at (sym c.inside.ensures ∙ c.if-not-inside.true)

pub returns-then-format-eq1 : goal.returns-then-format-eq1
returns-then-format-eq1 c =
    c.array_sound.ensures ∙ table_array c.args.src.now c.args.at (head (goal.at.returns-then-format-eq1 c).Else-not-inside) c.word_at-format.ensures.0 c.if-format-eq1.true

pub returns-then-format-ne2 : goal.returns-then-format-ne2
returns-then-format-ne2 c =
    table_neither c.args.src.now c.args.at (head (goal.at.returns-then-format-ne2 c).Else-not-inside) c.word_at-format.ensures.0 c.if-format-eq1.false c.if-format-ne2.true

pub returns-then-not-inside-2 : goal.returns-then-not-inside-2
returns-then-not-inside-2 c =
    table_cut c.args.src.now c.args.at (head (goal.at.returns-then-not-inside-2 c).Else-not-inside) c.word_at-format.ensures.0 c.if-format-ne2.false c.word_at-n.ensures.0 (sym c.inside-2.ensures ∙ c.if-not-inside-2.true)

pub returns : goal.returns
returns c =
    c.ranges_ascend.ensures ∙ table_ranges c.args.src.now c.args.at (head (goal.at.returns c).Else-not-inside) c.word_at-format.ensures.0 c.if-format-ne2.false c.word_at-n.ensures.0 (sym c.inside-2.ensures ∙ c.if-not-inside-2.false)
