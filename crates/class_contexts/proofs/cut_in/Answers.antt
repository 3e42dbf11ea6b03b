use Rattle.class_contexts.proofs.Entry.{may_note, none_noted, may_cut, noted_cut}
use Rattle.laws.specs.SoundGood.{bytes_all}
use Rattle.context_classes.specs.Meaning.{not_covered, not_classed}
use Rattle.meaning.specs.Maps.{map_entries, glyph_entries}
use mathlib.Core.Path.{refl, sym, ◌∙◌}
use native.Mathlib.Omega.{arith}
use Rattle.class_contexts.proofs.cut_in.Goals as goal

pub returns-then-word_at-eq0 : goal.returns-then-word_at-eq0
returns-then-word_at-eq0 c =
    not_covered c.args.chained c.args.src.now (glyph_entries c.args.marks.form c.args.glyphs.now) (map_entries c.args.lookups.now) c.args.marks.layout c.args.out.now (sym c.word_at.ensures.0 ∙ c.if-word_at-eq0.true)

pub returns-then-input_at-eq0 : goal.returns-then-input_at-eq0
returns-then-input_at-eq0 c =
    not_classed c.args.chained c.args.src.now (glyph_entries c.args.marks.form c.args.glyphs.now) (map_entries c.args.lookups.now) c.args.marks.layout c.args.out.now (sym c.input_at.ensures ∙ c.if-input_at-eq0.true)

pub note_covered-cover-requires : goal.note_covered-cover-requires
note_covered-cover-requires c = may_note c.requires.0 (bytes_all c.args.glyphs.now (λ i. omega (arith, c.type_inv.glyphs i))) c.word_at.ensures.0 c.if-word_at-eq0.false

pub returns-then-cover-eq0 : goal.returns-then-cover-eq0
returns-then-cover-eq0 c = (c.note_covered-cover.ensures.room c.if-cover-eq0.true, refl)

pub returns-then-cover-eq0-2 : goal.returns-then-cover-eq0-2
returns-then-cover-eq0-2 c =
    none_noted c.requires.0 c.note_covered-cover.ensures c.args.marks.layout c.args.out.now (bytes_all c.args.src.now (λ i. omega (arith, c.type_inv.src i))) (bytes_all c.args.glyphs.now (λ i. omega (arith, c.type_inv.glyphs i))) (bytes_all c.args.lookups.now (λ i. omega (arith, c.type_inv.lookups i)))
    c.word_at.ensures.0 c.if-word_at-eq0.false c.input_at.ensures c.if-input_at-eq0.false c.if-cover-eq0.false c.if-cover-eq0-2.true

pub cut_noted-requires : goal.cut_noted-requires
cut_noted-requires c =
    may_cut c.requires.0 c.note_covered-cover.ensures refl (bytes_all c.args.src.now (λ i. omega (arith, c.type_inv.src i))) (bytes_all c.args.glyphs.now (λ i. omega (arith, c.type_inv.glyphs i))) (bytes_all c.args.lookups.now (λ i. omega (arith, c.type_inv.lookups i)))
    c.word_at.ensures.0 c.if-word_at-eq0.false c.input_at.ensures c.if-input_at-eq0.false c.if-cover-eq0.false c.if-cover-eq0-2.false c.requires.1 c.requires.2

pub returns : goal.returns
returns c = noted_cut c.requires.0 c.note_covered-cover.ensures c.args.area.now c.cut_noted.result c.args.out.now _ _ c.cut_noted.ensures
