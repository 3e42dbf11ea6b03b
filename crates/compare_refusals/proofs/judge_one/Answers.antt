use Rattle.compare_refusals.proofs.Refusing.{refuse_long, refuse_format, refuse_fault, refuse_device, refuse_none}
use Rattle.compare_refusals.proofs.judge_one.Goals as goal

pub returns-then-src-gt-LIMIT : goal.returns-then-src-gt-LIMIT
returns-then-src-gt-LIMIT c =
    refuse_long c.args.kind c.args.src.now c.if-src-gt-LIMIT.true

pub returns-then-other_format : goal.returns-then-other_format
returns-then-other_format c =
    refuse_format c.args.kind c.args.src.now c.if-src-gt-LIMIT.false c.other_format.ensures c.if-other_format.true

pub returns-in-Some : goal.returns-in-Some
returns-in-Some c =
    refuse_fault c.args.kind c.args.src.now c.if-src-gt-LIMIT.false c.other_format.ensures c.if-other_format.false c.check.ensures c.in-Some.is

pub returns-then-pair_device : goal.returns-then-pair_device
returns-then-pair_device c =
    refuse_device c.args.kind c.args.src.now c.if-src-gt-LIMIT.false c.other_format.ensures c.if-other_format.false c.check.ensures c.in_default.is c.pair_device.ensures c.if-pair_device.true

pub returns : goal.returns
returns c =
    refuse_none c.args.kind c.args.src.now c.if-src-gt-LIMIT.false c.other_format.ensures c.if-other_format.false c.check.ensures c.in_default.is c.pair_device.ensures c.if-pair_device.false
