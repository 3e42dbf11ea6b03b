use Rattle.traces.proofs.Tracing.{good_cut, good_long, good_rest}
use Rattle.traces.proofs.good_run.Goals as goal

pub returns-then-left-lt2 : goal.returns-then-left-lt2
returns-then-left-lt2 c =
    good_cut c.args.trace.now c.args.at c.requires c.if-left-lt2.true

pub returns-then-n-gt-RUN_LIMIT : goal.returns-then-n-gt-RUN_LIMIT
returns-then-n-gt-RUN_LIMIT c =
    good_long c.args.trace.now c.args.at c.requires c.if-left-lt2.false c.word_at-n.ensures.0 c.if-n-gt-RUN_LIMIT.true

pub returns : goal.returns
returns c =
    good_rest c.args.trace.now c.args.at c.requires c.if-left-lt2.false c.word_at-n.ensures.0 c.if-n-gt-RUN_LIMIT.false
