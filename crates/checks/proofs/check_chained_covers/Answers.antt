use Rattle.std.proofs.Common.{sym, ◌∙◌}
use Rattle.check_parts.proofs.Laws.{chained_outside, chained_inside}
use Rattle.checks.proofs.check_chained_covers.Goals as goal

pub returns-then-not-inside : goal.returns-then-not-inside
returns-then-not-inside c =
    sym (chained_outside c.args.src.now c.word_at-b.ensures.0 c.word_at-i.ensures.0 c.word_at-a.ensures.0 c.word_at.ensures.0 (sym c.inside.ensures ∙ c.if-not-inside.true))

pub returns : goal.returns
returns c =
    let reached = chained_inside c.args.src.now c.word_at-b.ensures.0 c.word_at-i.ensures.0 c.word_at-a.ensures.0 c.word_at.ensures.0 (sym c.inside.ensures ∙ c.if-not-inside.false) in
    cc
