use Rattle.cover_differences.proofs.Saying.{rows_differ, rows_equal, left_sound, right_sound}
use Prim.Native.Nat.{◌+◌}
use native.Mathlib.Omega.{arith}
use Rattle.cover_differences.proofs.same_row.Goals as goal

pub returns-then-n-word_at : goal.returns-then-n-word_at
returns-then-n-word_at c =
    rows_differ c.args.left.now c.args.right.now (c.args.p + 2) c.word_at-n.ensures.0 c.word_at.ensures.0 c.if-n-word_at.true

pub same_covers-requires : goal.same_covers-requires
same_covers-requires c = (
  omega arith,
  left_sound c.args.left.now c.args.right.now c.word_at-n.ensures.0 c.word_at.ensures.0 (omega arith) (c.args.p + 2) c.requires.1,
  right_sound c.args.left.now c.args.right.now c.word_at-n.ensures.0 c.word_at.ensures.0 (omega arith) (c.args.p + 2) c.requires.2,
)

pub returns : goal.returns
returns c =
    rows_equal c.args.left.now c.args.right.now c.word_at-n.ensures.0 c.word_at.ensures.0 (omega arith) (c.args.p + 2) c.same_covers.ensures
