use mathlib.Core.Path.{refl, sym, ◌∙◌}
use native.Mathlib.Omega.{arith}
use Rattle.laws.specs.SoundGood.{bytes_all}
use Rattle.cut_sets.specs.Whole.{written_none}
use Rattle.cut_sets.specs.Asked.{rules_null, rules_cut}
use Rattle.cut_sets.proofs.Asking.{header_inside, rules_asked, no_room, glyphs_no_room, glyphs_stand, two_laid, two_answered}
use Rattle.by_glyph.proofs.Fitting.{rules_fit}
use Rattle.by_glyph.proofs.cut_contexts.Goals as goal

pub word_inside-requires : goal.word_inside-requires
word_inside-requires c = omega (arith, header_inside _ 4 _ _ c.requires.0)

pub returns-then-word_inside-eq0 : goal.returns-then-word_inside-eq0
returns-then-word_inside-eq0 c = written_none _ _ (rules_null _ _ _ _ (sym c.word_inside.ensures.0 ∙ c.if-word_inside-eq0.true))

pub returns-then-g-eq0 : goal.returns-then-g-eq0
returns-then-g-eq0 c = (omega (arith, glyphs_no_room c.lay_glyphs-g.ensures c.if-g-eq0.true), refl)

pub returns-then-l-eq0 : goal.returns-then-l-eq0
returns-then-l-eq0 c =
    (omega (arith, no_room c.lay-l.ensures c.requires.3 c.if-l-eq0.true, c.lay_glyphs-g.ensures.kept.size, c.lay_glyphs-g.ensures.few), refl)

pub cut_sets-requires : goal.cut_sets-requires
cut_sets-requires c =
    ((rules_asked _ (λ i. omega (arith, c.type_inv.src i)) c.requires.1 c.args.chained c.requires.0), two_laid c.lay_glyphs-g.ensures c.if-g-eq0.false c.requires.2 c.lay-l.ensures c.if-l-eq0.false c.requires.3, c.requires.4, (λ z. c.if-word_inside-eq0.false (c.word_inside.ensures.0 ∙ z)), refl)

pub returns : goal.returns
returns c =
    let g = glyphs_stand c.lay_glyphs-g.ensures c.if-g-eq0.false c.requires.2 c.lay-l.ensures in
    let bs = bytes_all c.args.src.now (λ i. omega (arith, c.type_inv.src i)) in
    let bl = bytes_all c.args.lookups.now (λ i. omega (arith, c.type_inv.lookups i)) in
    two_answered c.lay_glyphs-g.ensures c.args.marks.layout _ (rules_fit c.args.src.now bs c.requires.2 c.args.marks.layout c.args.chained c.args.lookups.now bl c.requires.0) (rules_cut _ _ _ g _ g g (c.lay-l.ensures.holds c.if-l-eq0.false) c.args.chained c.args.marks.layout (λ z. c.if-word_inside-eq0.false (c.word_inside.ensures.0 ∙ z)) (rules_asked _ (λ i. omega (arith, c.type_inv.src i)) c.requires.1 c.args.chained c.requires.0)) c.lay-l.ensures c.requires.3 c.cut_sets.ensures
