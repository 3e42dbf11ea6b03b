use Rattle.matching.proofs.Rows.{context_past, context_glyphs, context_classes, context_covers, glyphs_fine, covers_fault_lem, classes_fine}
use Rattle.matching.proofs.match_context.Goals as goal

pub returns-then-n-place : goal.returns-then-n-place
returns-then-n-place c =
    context_past c.args.chained c.args.src.now c.args.string.now c.args.n c.args.place c.if-n-place.true

pub match_glyphs-requires : goal.match_glyphs-requires
match_glyphs-requires c =
    (glyphs_fine c.args.src.now c.word_at-format.ensures.0 c.args.chained c.requires.0 c.if-format-eq1.true, c.if-n-place.false, c.requires.1)

pub returns-then-format-eq1 : goal.returns-then-format-eq1
returns-then-format-eq1 c =
    context_glyphs c.args.chained c.args.src.now c.args.string.now c.args.n c.args.place c.requires.0 c.if-n-place.false c.word_at-format.ensures.0 c.if-format-eq1.true c.match_glyphs.ensures

pub match_by_class-requires : goal.match_by_class-requires
match_by_class-requires c =
    let q = classes_fine c.args.src.now c.word_at-format.ensures.0 c.args.chained c.requires.0 c.if-format-eq1.false c.if-format-eq2.true in
    (q.0, q.1, c.if-n-place.false, c.requires.1)

pub returns-then-format-eq2 : goal.returns-then-format-eq2
returns-then-format-eq2 c =
    context_classes c.args.chained c.args.src.now c.args.string.now c.args.n c.args.place c.requires.0 c.if-n-place.false c.word_at-format.ensures.0 c.if-format-eq1.false c.if-format-eq2.true c.match_by_class.ensures

pub match_covers-requires : goal.match_covers-requires
match_covers-requires c =
    (covers_fault_lem c.args.src.now c.word_at-format.ensures.0 c.args.chained c.requires.0 c.if-format-eq1.false c.if-format-eq2.false, c.if-n-place.false, c.requires.1)

pub returns : goal.returns
returns c =
    context_covers c.args.chained c.args.src.now c.args.string.now c.args.n c.args.place c.requires.0 c.if-n-place.false c.word_at-format.ensures.0 c.if-format-eq1.false c.if-format-eq2.false c.match_covers.ensures
