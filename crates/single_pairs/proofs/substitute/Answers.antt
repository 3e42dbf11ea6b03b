use Rattle.meaning.specs.Parts.{coverage}
use Rattle.single_pairs.proofs.Keeping.{table_good, by_delta, by_list, list_inside}
use Rattle.std.proofs.Common.{ℕ, get_or, ap, ◌∙◌, arith}
use Rattle.single_pairs.proofs.substitute.Goals as goal

pub word_inside-requires : goal.word_inside-requires
word_inside-requires c =
    omega (arith, (table_good c.requires).head)

pub word_inside-requires-then-word_inside-eq1 : goal.word_inside-requires-then-word_inside-eq1
word_inside-requires-then-word_inside-eq1 c =
    omega (arith, (table_good c.requires).head)

pub glyph_at-glyph-requires : goal.glyph_at-glyph-requires
glyph_at-glyph-requires c =
    (rw c.word_inside-then-word_inside-eq1.ensures.0 (table_good c.requires).cover, rw c.word_inside-then-word_inside-eq1.ensures.0 c.requires.index)

pub word_inside-delta-requires : goal.word_inside-delta-requires
word_inside-delta-requires c =
    omega (arith, (table_good c.requires).head)

pub returns-then-word_inside-eq1 : goal.returns-then-word_inside-eq1
returns-then-word_inside-eq1 c =
    by_delta c.requires c.word_inside.ensures.0 c.if-word_inside-eq1.true c.word_inside-delta.ensures.0 (c.glyph_at-glyph.ensures.glyph ∙ ap (λ (x : ℕ). get_or (coverage c.args.src.now x) c.args.i 0) c.word_inside-then-word_inside-eq1.ensures.0) c.wrapping_add_u16.ensures.value

pub overflow_mul-i : goal.overflow_mul-i
overflow_mul-i c =
    omega (arith, list_inside c.requires c.word_inside.ensures.0 c.if-word_inside-eq1.false)

pub overflow_add-i : goal.overflow_add-i
overflow_add-i c =
    omega (arith, list_inside c.requires c.word_inside.ensures.0 c.if-word_inside-eq1.false)

pub word_inside-requires-2 : goal.word_inside-requires-2
word_inside-requires-2 c =
    list_inside c.requires c.word_inside.ensures.0 c.if-word_inside-eq1.false

pub returns : goal.returns
returns c =
    by_list c.requires c.word_inside.ensures.0 c.if-word_inside-eq1.false c.word_inside-2.ensures.0 c.word_inside-2.ensures.1
