use mathlib.Core.Path.{refl}
use Rattle.replay.proofs.Refused.{no_list, list_good, faulty, ready, short, trace_good, unnamed, plays}
use Rattle.replay.proofs.replay_all.Goals as goal

pub returns-then-not-good_list : goal.returns-then-not-good_list
returns-then-not-good_list c =
    no_list c.args.list.now c.args.buffer.now c.args.trace.now c.good_list.ensures c.if-not-good_list.true-raw c.refusing.ensures

pub check_lookups-requires : goal.check_lookups-requires
check_lookups-requires c =
    list_good c.args.list.now c.args.buffer.now c.args.trace.now c.good_list.ensures c.if-not-good_list.false-raw

pub returns-in-Err : goal.returns-in-Err
returns-in-Err c =
    faulty c.args.list.now c.args.buffer.now c.args.trace.now c.good_list.ensures c.if-not-good_list.false-raw c.in-Err.ensures refl (rw (c.number.ensures, c.place.ensures) at c.refusing-in-Err.ensures)

pub returns-then-not-good_trace : goal.returns-then-not-good_trace
returns-then-not-good_trace c =
    short c.args.list.now c.args.buffer.now c.args.trace.now c.good_list.ensures c.if-not-good_list.false-raw c.in_default.ensures refl c.good_trace.ensures c.if-not-good_trace.true-raw c.refusing-then-not-good_trace.ensures

pub all_named-requires : goal.all_named-requires
all_named-requires c =
    list_good c.args.list.now c.args.buffer.now c.args.trace.now c.good_list.ensures c.if-not-good_list.false-raw

pub returns-then-not-all_named : goal.returns-then-not-all_named
returns-then-not-all_named c =
    unnamed c.args.list.now c.args.buffer.now c.args.trace.now c.good_list.ensures c.if-not-good_list.false-raw c.in_default.ensures refl c.good_trace.ensures c.if-not-good_trace.false-raw c.all_named.ensures c.if-not-all_named.true-raw c.refusing-then-not-all_named.ensures

pub play_runs-requires : goal.play_runs-requires
play_runs-requires c =
    (ready c.args.list.now c.args.buffer.now c.args.trace.now c.good_list.ensures c.if-not-good_list.false-raw c.in_default.ensures refl, trace_good c.args.list.now c.args.buffer.now c.args.trace.now c.good_list.ensures c.if-not-good_list.false-raw c.in_default.ensures refl c.good_trace.ensures c.if-not-good_trace.false-raw)

pub returns : goal.returns
returns c =
    plays c.args.list.now c.args.buffer.now c.args.trace.now c.good_list.ensures c.if-not-good_list.false-raw c.in_default.ensures refl c.good_trace.ensures c.if-not-good_trace.false-raw c.all_named.ensures c.if-not-all_named.false-raw c.play_runs.ensures
