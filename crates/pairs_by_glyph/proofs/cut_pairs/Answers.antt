use mathlib.Core.Path.{refl, sym, ◌∙◌}
use native.Mathlib.Omega.{arith}
use Rattle.laws.specs.SoundGood.{bytes_all}
use Rattle.cut_sets.specs.Whole.{written_none}
use Rattle.cut_sets.specs.PairTables.{pairs_null}
use Rattle.cut_sets.proofs.Asking.{header_inside, pairs_asked, glyphs_no_room, one_laid, one_answered}
use Rattle.by_glyph.proofs.Fitting.{pairs_fit}
use Rattle.pairs_by_glyph.proofs.cut_pairs.Goals as goal

pub word_inside-requires : goal.word_inside-requires
word_inside-requires c = omega (arith, header_inside _ 8 _ _ c.requires.0)

pub returns-then-word_inside-eq0 : goal.returns-then-word_inside-eq0
returns-then-word_inside-eq0 c = written_none _ _ (pairs_null _ _ _ (sym c.word_inside.ensures.0 ∙ c.if-word_inside-eq0.true))

pub returns-then-g-eq0 : goal.returns-then-g-eq0
returns-then-g-eq0 c = (omega (arith, glyphs_no_room c.lay_glyphs-g.ensures c.if-g-eq0.true), refl)

pub cut_pair_sets-requires : goal.cut_pair_sets-requires
cut_pair_sets-requires c =
    ((pairs_asked _ (λ i. omega (arith, c.type_inv.src i)) c.requires.1 c.requires.0), one_laid c.lay_glyphs-g.ensures c.if-g-eq0.false c.requires.2, c.requires.3, (λ z. c.if-word_inside-eq0.false (c.word_inside.ensures.0 ∙ z)))

pub returns : goal.returns
returns c =
    let bs = bytes_all c.args.src.now (λ i. omega (arith, c.type_inv.src i)) in
    one_answered c.lay_glyphs-g.ensures c.args.marks.layout _ (pairs_fit c.args.src.now bs c.requires.2 c.args.marks.layout c.requires.0) refl c.cut_pair_sets.ensures
