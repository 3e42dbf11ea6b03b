use mathlib.Core.Path.{sym, ◌∙◌}
use mathlib.Core.Bool.{true≢false}
use native.Mathlib.Omega.{arith}
use Rattle.laws.specs.Repeats.{list_same}
use Rattle.value_differences.proofs.Values.{alike_values}
use Rattle.pair_differences.proofs.alike.Goals as goal

pub returns-then-f-word_at : goal.returns-then-f-word_at
returns-then-f-word_at c = λ e. absurd (true≢false (sym e))

pub returns-then-h-word_at : goal.returns-then-h-word_at
returns-then-h-word_at c = λ e. absurd (true≢false (sym e))

pub returns-then-not-same_words : goal.returns-then-not-same_words
returns-then-not-same_words c = λ e. absurd (true≢false (sym e))

pub returns : goal.returns
returns c =
    λ e.
    alike_values c.args.left.now c.args.right.now c.args.p c.args.q c.word_at-f.ensures.0 c.word_at-h.ensures.0 (omega (arith, c.word_at.ensures.0)) (omega (arith, c.word_at-2.ensures.0)) c.field_count-n.ensures.0 c.field_count.ensures.0
    (list_same _ _ (sym c.same_words.ensures ∙ c.if-not-same_words.false))
    (list_same _ _ (sym c.same_words-2.ensures ∙ e))
