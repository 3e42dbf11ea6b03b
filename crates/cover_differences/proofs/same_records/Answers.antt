use Rattle.cover_differences.proofs.Saying.{entries_differ, entries_equal}
use native.Mathlib.Omega.{arith}
use Rattle.cover_differences.proofs.same_records.Goals as goal

pub returns-then-n-word_at : goal.returns-then-n-word_at
returns-then-n-word_at c =
    entries_differ c.args.left.now c.args.right.now c.args.p c.word_at-n.ensures.0 c.word_at.ensures.0 c.if-n-word_at.true

pub returns : goal.returns
returns c =
    entries_equal c.args.left.now c.args.right.now c.word_at-n.ensures.0 c.word_at.ensures.0 (omega arith) c.args.p c.same_entries.ensures
