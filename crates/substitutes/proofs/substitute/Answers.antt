use Rattle.substitutes.proofs.Singles.{single_null, single_not, single_delta, single_past, single_listed}
use Rattle.substitutes.proofs.substitute.Goals as goal

pub returns-then-cover-eq0-clause-says : goal.returns-then-cover-eq0-clause-says
returns-then-cover-eq0-clause-says c =
    single_null c.args.src.now c.args.glyph c.word_at-cover.ensures.0 c.if-cover-eq0.true

pub returns-in_default-clause-says : goal.returns-in_default-clause-says
returns-in_default-clause-says c =
    single_not c.args.src.now c.args.glyph c.word_at-cover.ensures.0 c.if-cover-eq0.false c.in_default.ensures

pub returns-then-word_at-eq1-clause-says : goal.returns-then-word_at-eq1-clause-says
returns-then-word_at-eq1-clause-says c =
    single_delta c.args.src.now c.args.glyph c.word_at-cover.ensures.0 c.if-cover-eq0.false c.in-Some.ensures c.word_at-last.ensures.0 c.word_at.ensures.0 c.if-word_at-eq1.true c.wrapping_add_u16.ensures.value

pub returns-then-last-i-clause-says : goal.returns-then-last-i-clause-says
returns-then-last-i-clause-says c =
    single_past c.args.src.now c.args.glyph c.word_at-cover.ensures.0 c.if-cover-eq0.false c.in-Some.ensures c.word_at-last.ensures.0 c.word_at.ensures.0 c.if-word_at-eq1.false c.if-last-i.true

pub returns-clause-says : goal.returns-clause-says
returns-clause-says c =
    single_listed c.args.src.now c.args.glyph c.word_at-cover.ensures.0 c.if-cover-eq0.false c.in-Some.ensures c.word_at-last.ensures.0 c.word_at.ensures.0 c.if-word_at-eq1.false c.if-last-i.false c.word_at-2.ensures.0
