use Rattle.listing.specs.Listed.{Listed, through_all, listed_length}
use Rattle.rule_differences.specs.Ranked.{left_at, right_at}
use Rattle.rule_differences.proofs.Ranking.{no_left, some_left, no_right, some_right, ranks_turn, ranks_end}
use Prim.Native.Nat.{◌+◌, ◌≤◌}
use Rattle.rule_differences.proofs.list_ranks.Goals.{then-i-m, else-i-m, then-i-n, else-i-n}
use Rattle.rule_differences.proofs.list_ranks.Goals as goal

pub loop-i-init : goal.loop-i-init
loop-i-init c = through_all

pub loop-i-preserved : goal.loop-i-preserved
loop-i-preserved c =
    let left : Listed (left_at c.args.lefts.now c.args.m c.args.g c.loop-i.i) c.loop-i.out c.loop-i.at c.if-i-m.out c.if-i-m.at × (c.if-i-m.at ≤ c.loop-i.at + 12) =
    elim c.if-i-m.branch [
      | then-i-m w ↦ rw (w.out-is, w.at-is) (some_left _ _ _ _ w.if-i-m.true w.cell.ensures.0 w.put_left-at.ensures)
      | else-i-m w ↦ rw (w.out-is, w.at-is) (no_left _ _ _ _ w.if-i-m.false)
    ] in
    let right : Listed (right_at c.args.rights.now c.args.n c.args.g c.loop-i.i) c.if-i-m.out c.if-i-m.at c.if-i-n.out c.if-i-n.at × (c.if-i-n.at ≤ c.if-i-m.at + 12) =
    elim c.if-i-n.branch [
      | then-i-n w ↦ rw (w.out-is, w.at-is) (some_right _ _ _ _ w.if-i-n.true w.cell-then-i-n.ensures.0 w.put_right-at.ensures)
      | else-i-n w ↦ rw (w.out-is, w.at-is) (no_right _ _ _ _ w.if-i-n.false)
    ] in
    ranks_turn c.args.lefts.now c.args.rights.now c.args.m c.args.n c.args.g c.loop-i.invariant c.loop-i-test.true left right

pub shape_of-out : goal.shape_of-out
shape_of-out c =
    listed_length (ranks_end c.args.lefts.now c.args.rights.now c.args.m c.args.n c.args.g c.loop-i.invariant c.loop-i-test.false c.longer-end.ensures c.requires.0 c.requires.1).0

pub returns : goal.returns
returns c =
    ranks_end c.args.lefts.now c.args.rights.now c.args.m c.args.n c.args.g c.loop-i.invariant c.loop-i-test.false c.longer-end.ensures c.requires.0 c.requires.1
