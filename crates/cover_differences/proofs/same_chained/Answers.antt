use mathlib.Core.Path.{refl}
use Rattle.cover_differences.proofs.Chaining.{chained_back, sound_left, sound_right, chained_input, ahead_sound_left, ahead_sound_right, chained_ahead, chained_records}
use mathlib.Core.Path.{refl}
use native.Mathlib.Omega.{arith}
use Rattle.cover_differences.proofs.same_chained.Goals as goal

pub returns-then-not-same_row : goal.returns-then-not-same_row
returns-then-not-same_row c =
    chained_back c.args.left.now c.args.right.now c.same_row.ensures c.if-not-same_row.true

pub same_row-requires-2 : goal.same_row-requires-2
same_row-requires-2 c =
    (omega arith, sound_left c.args.left.now c.args.right.now c.same_row.ensures c.if-not-same_row.false c.word_at.ensures.0 refl c.requires.0, sound_right c.args.left.now c.args.right.now c.same_row.ensures c.if-not-same_row.false c.word_at.ensures.0 refl c.requires.1)

pub returns-then-not-same_row-2 : goal.returns-then-not-same_row-2
returns-then-not-same_row-2 c =
    chained_input c.args.left.now c.args.right.now c.same_row.ensures c.if-not-same_row.false c.word_at.ensures.0 refl c.same_row-2.ensures c.if-not-same_row-2.true

pub same_row-requires-3 : goal.same_row-requires-3
same_row-requires-3 c = (
  omega arith,
  ahead_sound_left c.args.left.now c.args.right.now c.same_row.ensures c.if-not-same_row.false c.word_at.ensures.0 refl c.same_row-2.ensures c.if-not-same_row-2.false c.word_at-2.ensures.0 refl c.requires.0,
  ahead_sound_right c.args.left.now c.args.right.now c.same_row.ensures c.if-not-same_row.false c.word_at.ensures.0 refl c.same_row-2.ensures c.if-not-same_row-2.false c.word_at-2.ensures.0 refl c.requires.1,
)

pub returns-then-not-same_row-3 : goal.returns-then-not-same_row-3
returns-then-not-same_row-3 c =
    chained_ahead c.args.left.now c.args.right.now c.same_row.ensures c.if-not-same_row.false c.word_at.ensures.0 refl c.same_row-2.ensures c.if-not-same_row-2.false c.word_at-2.ensures.0 refl c.same_row-3.ensures c.if-not-same_row-3.true

pub returns : goal.returns
returns c =
    chained_records c.args.left.now c.args.right.now c.same_row.ensures c.if-not-same_row.false c.word_at.ensures.0 refl c.same_row-2.ensures c.if-not-same_row-2.false c.word_at-2.ensures.0 refl c.same_row-3.ensures c.if-not-same_row-3.false c.word_at-3.ensures.0 refl c.same_records.ensures
