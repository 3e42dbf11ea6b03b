use Prim.Native.Nat.{◌-◌}
use Rattle.lookup_list.proofs.Readying.{list_ragged, list_long, listing_all, listing_bad, listing_turn, listing_end}
use Rattle.lookup_list.proofs.good_list.Goals as goal

pub returns-then-list-ne0 : goal.returns-then-list-ne0
returns-then-list-ne0 c =
    list_ragged c.args.list.now c.args.buffer.now c.if-list-ne0.true

pub returns-then-many-gt-LIST_LIMIT : goal.returns-then-many-gt-LIST_LIMIT
returns-then-many-gt-LIST_LIMIT c =
    list_long c.args.list.now c.args.buffer.now c.if-list-ne0.false c.if-many-gt-LIST_LIMIT.true

pub loop-k-init : goal.loop-k-init
loop-k-init c =
    listing_all c.args.list.now c.args.buffer.now c.if-list-ne0.false c.if-many-gt-LIST_LIMIT.false

pub returns-then-not-good_entry : goal.returns-then-not-good_entry
returns-then-not-good_entry c =
    listing_bad c.args.list.now c.args.buffer.now c.loop-k.invariant c.loop-k-test.true c.good_entry.ensures c.if-not-good_entry.true-raw

pub loop-k-preserved : goal.loop-k-preserved
loop-k-preserved c =
    listing_turn c.args.list.now c.args.buffer.now c.loop-k.invariant c.loop-k-test.true c.good_entry.ensures c.if-not-good_entry.false-raw

pub returns : goal.returns
returns c =
    listing_end c.args.list.now c.args.buffer.now c.loop-k.invariant c.loop-k-test.false
