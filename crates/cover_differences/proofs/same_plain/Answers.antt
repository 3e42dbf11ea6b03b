use Rattle.cover_differences.proofs.Saying.{plain_count, plain_covers_lem, plain_records, left_sound, right_sound}
use native.Mathlib.Omega.{arith}
use Rattle.cover_differences.proofs.same_plain.Goals as goal

pub returns-then-n-word_at : goal.returns-then-n-word_at
returns-then-n-word_at c =
    plain_count c.args.left.now c.args.right.now c.word_at-n.ensures.0 c.word_at.ensures.0 c.if-n-word_at.true

pub same_covers-requires : goal.same_covers-requires
same_covers-requires c = (
  omega arith,
  left_sound c.args.left.now c.args.right.now c.word_at-n.ensures.0 c.word_at.ensures.0 (omega arith) 6 c.requires.0,
  right_sound c.args.left.now c.args.right.now c.word_at-n.ensures.0 c.word_at.ensures.0 (omega arith) 6 c.requires.1,
)

pub returns-then-not-same_covers : goal.returns-then-not-same_covers
returns-then-not-same_covers c =
    plain_covers_lem c.args.left.now c.args.right.now c.word_at-n.ensures.0 c.word_at.ensures.0 (omega arith) c.same_covers.ensures c.if-not-same_covers.true

pub returns : goal.returns
returns c =
    plain_records c.args.left.now c.args.right.now c.word_at-n.ensures.0 c.word_at.ensures.0 (omega arith) c.same_covers.ensures c.if-not-same_covers.false c.same_records.ensures
