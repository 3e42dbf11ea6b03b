use Rattle.asking.proofs.Answering.{rule_sound_lem, cover_sound, single_nothing, single_instead, context_nothing, context_rule}
use Rattle.asking.proofs.ask_source.Goals as goal

pub substitute-requires : goal.substitute-requires
substitute-requires c =
    (cover_sound c.args.kind c.args.src.now c.requires.0 c.if-kind-eq5.true, c.word_at.ensures.1)

pub returns-in_default : goal.returns-in_default
returns-in_default c =
    single_nothing c.args.kind c.args.src.now c.requires.0 c.args.string.now c.args.n c.args.place c.requires.1 c.if-kind-eq5.true c.word_at.ensures.0 c.substitute.ensures.says c.in_default.is

pub returns-then-kind-eq5 : goal.returns-then-kind-eq5
returns-then-kind-eq5 c =
    single_instead c.args.kind c.args.src.now c.requires.0 c.args.string.now c.args.n c.args.place c.requires.1 c.if-kind-eq5.true c.word_at.ensures.0 c.substitute.ensures.says c.in-Some.is (rw c.in-Some.is at c.substitute.ensures.small)

pub match_context-requires : goal.match_context-requires
match_context-requires c =
    (rule_sound_lem c.args.kind c.args.src.now c.requires.0 c.if-kind-eq5.false, c.requires.2)

pub returns-in_default-match_context : goal.returns-in_default-match_context
returns-in_default-match_context c =
    context_nothing c.args.kind c.args.src.now c.requires.0 c.args.string.now c.args.n c.args.place c.requires.1 c.if-kind-eq5.false c.match_context.ensures c.in_default-match_context.is

pub returns : goal.returns
returns c =
    context_rule c.args.kind c.args.src.now c.requires.0 c.args.string.now c.args.n c.args.place c.requires.1 c.if-kind-eq5.false c.match_context.ensures c.in-Some-match_context.is
