use mathlib.Core.Path.{◌∙◌}
use Rattle.numbers.specs.Entries.{entries_in}
use Rattle.numbers.proofs.Numbers.{found_some}
use Rattle.class_formats.proofs.Using.{speaks_silent, speaks_if}
use Rattle.class_formats.proofs.speaks.Goals as goal

pub returns-then-value-eq0 : goal.returns-then-value-eq0
returns-then-value-eq0 c =
    speaks_silent (entries_in c.args.t.now c.args.seconds) c.args.src.now c.args.p c.args.place c.args.c c.value_at-value.ensures c.if-value-eq0.true

pub find-requires : goal.find-requires
find-requires c = c.requires.1

pub returns : goal.returns
returns c =
    speaks_if (entries_in c.args.t.now c.args.seconds) c.args.src.now c.args.p c.args.place c.args.c c.value_at-value.ensures c.if-value-eq0.false (c.is_some.ensures ∙ found_some _ c.requires.1 c.find.ensures.answer)
