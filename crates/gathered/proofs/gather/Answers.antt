use Rattle.set_numbers.proofs.Slots.{rest_null, rest_there, rest_all, rest_end}
use Rattle.gathered.proofs.Gathering.{gathering_none, gathering_null, gathering_there, gathering_end, gathered_null, gather_all}
use mathlib.Core.Path.{sym, ◌∙◌}
use native.Mathlib.Omega.{arith}
use Rattle.gathered.proofs.gather.Goals as goal

pub returns-then-set-eq0 : goal.returns-then-set-eq0
returns-then-set-eq0 c =
    gathered_null c.args.num.now c.args.src.now c.args.set.side c.args.set.at c.args.from c.if-set-eq0.true

pub loop-i-init : goal.loop-i-init
loop-i-init c =
    gathering_none (gather_all c.args.num.now c.args.src.now c.args.set.side c.args.set.at c.word_at-n.result (rest_all c.args.src.now c.args.set.side c.args.set.at c.if-set-eq0.false c.word_at-n.ensures.0))

pub loop-i-preserved-then-offset-eq0 : goal.loop-i-preserved-then-offset-eq0
loop-i-preserved-then-offset-eq0 c =
    gathering_null c.loop-i.invariant c.loop-i-test.true (rest_null c.args.src.now c.args.set.side c.args.set.at c.word_at-n.result c.loop-i.i c.loop-i-test.true (sym c.word_at-offset.ensures.0 ∙ c.if-offset-eq0.true))

pub loop-i-preserved : goal.loop-i-preserved
loop-i-preserved c =
    let e = rest_there c.args.src.now c.args.set.side c.args.set.at c.word_at-n.result c.loop-i.i c.loop-i-test.true (λ z. c.if-offset-eq0.false (c.word_at-offset.ensures.0 ∙ z)) in
    gathering_there c.loop-i.invariant c.loop-i-test.true (rw (← c.word_at-offset.ensures.0) at e) c.cell-k.ensures.0 (omega (arith, c.requires.cells, c.word_at-n.ensures.1)) c.put_cell.ensures

pub shape_of-nums : goal.shape_of-nums
shape_of-nums c = c.loop-i.invariant.size

pub returns : goal.returns
returns c =
    gathering_end c.loop-i.invariant c.word_at-n.ensures.1 (rest_end c.args.src.now c.args.set.side c.args.set.at c.word_at-n.result c.loop-i.i c.loop-i-test.false)
