use Rattle.meaning.specs.Words.{words}
use Rattle.matching.proofs.Formats.{set_past, set_null, set_there}
use Rattle.matching.proofs.match_set.Goals as goal

pub returns-then-word_at-i : goal.returns-then-word_at-i
returns-then-word_at-i c =
    set_past c.args.chained c.args.src.now c.args.how c.args.slot c.args.i (words c.args.string.now 0 c.args.n) c.args.place c.word_at.ensures.0 c.if-word_at-i.true

pub returns-then-set-eq0 : goal.returns-then-set-eq0
returns-then-set-eq0 c =
    set_null c.args.chained c.args.src.now c.args.how c.args.slot c.args.i (words c.args.string.now 0 c.args.n) c.args.place c.word_at.ensures.0 c.if-word_at-i.false c.word_at-set.ensures.0 c.if-set-eq0.true

pub returns : goal.returns
returns c =
    set_there c.args.chained c.args.src.now c.args.how c.args.slot c.args.i (words c.args.string.now 0 c.args.n) c.args.place c.word_at.ensures.0 c.if-word_at-i.false c.word_at-set.ensures.0 c.if-set-eq0.false c.first_rule.ensures
