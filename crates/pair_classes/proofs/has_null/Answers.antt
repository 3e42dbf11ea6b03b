use Rattle.pair_classes.proofs.Cutting.{null_cover, null_first, null_second}
use Rattle.pair_classes.proofs.has_null.Goals as goal

pub returns-then-word_inside-eq0 : goal.returns-then-word_inside-eq0
returns-then-word_inside-eq0 c =
    null_cover c.args.src.now c.word_inside.ensures.0 c.if-word_inside-eq0.true

pub returns-then-word_inside-eq0-2 : goal.returns-then-word_inside-eq0-2
returns-then-word_inside-eq0-2 c =
    null_first c.args.src.now c.word_inside.ensures.0 c.if-word_inside-eq0.false c.word_inside-2.ensures.0 c.if-word_inside-eq0-2.true

pub returns : goal.returns
returns c =
    null_second c.args.src.now c.word_inside.ensures.0 c.if-word_inside-eq0.false c.word_inside-2.ensures.0 c.if-word_inside-eq0-2.false c.word_inside-3.ensures.0
