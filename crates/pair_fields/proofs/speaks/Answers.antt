use mathlib.Core.Path.{◌∙◌}
use Rattle.numbers.specs.Entries.{entries_in}
use Rattle.numbers.proofs.Numbers.{found_some}
use Rattle.pair_fields.proofs.Pairing.{speaks_if}
use Rattle.pair_fields.proofs.speaks.Goals as goal

pub returns : goal.returns
returns c =
    speaks_if (entries_in c.args.t.now c.args.glyphs) c.args.src.now c.args.p c.args.place c.value_at-value.ensures c.if-value-eq0.false c.word_inside.ensures.0 (c.is_some.ensures ∙ found_some _ c.requires.1 c.find.ensures.answer)
