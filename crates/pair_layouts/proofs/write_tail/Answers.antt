use mathlib.Core.Path.{sym, ◌∙◌}
use native.Mathlib.Omega.{arith}
use Rattle.pair_layouts.proofs.Laying.{cover_over, first_over, one_ended, all_ended, area_small}
use Rattle.pair_layouts.proofs.write_tail.Goals as goal

pub write_cover-q-requires : goal.write_cover-q-requires
write_cover-q-requires c =
    (c.requires.0.cover, c.requires.0.covered, omega (arith, c.requires.0.few, c.requires.1, area_small c.args.area.now c.requires.2))

pub returns-then-area-q : goal.returns-then-area-q
returns-then-area-q c =
    cover_over _ _ _ _ c.write_cover-q.ensures c.if-area-q.true c.one_table.ensures

pub write_classes-r-requires : goal.write_classes-r-requires
write_classes-r-requires c =
    (c.requires.0.first.inside, omega (arith, c.requires.0.first.few, c.if-area-q.false, c.write_cover-q.ensures.same, area_small c.args.area.now c.requires.2), c.requires.0.first.ascend)

pub returns-then-area-r : goal.returns-then-area-r
returns-then-area-r c =
    first_over _ _ _ _ c.write_cover-q.ensures c.if-area-q.false c.write_classes-r.ensures c.if-area-r.true c.one_table-then-area-r.ensures

pub returns-then-shares : goal.returns-then-shares
returns-then-shares c =
    one_ended _ _ _ _ c.write_cover-q.ensures c.if-area-q.false c.write_classes-r.ensures c.if-area-r.false (sym c.shares.ensures ∙ c.if-shares.true) c.one_table-then-shares.ensures

pub write_classes-end-requires : goal.write_classes-end-requires
write_classes-end-requires c =
    (c.requires.0.second.inside, omega (arith, c.requires.0.second.few, c.if-area-r.false, c.write_classes-r.ensures.same, c.write_cover-q.ensures.same, area_small c.args.area.now c.requires.2), c.requires.0.second.ascend)

pub returns : goal.returns
returns c =
    all_ended _ _ _ _ c.write_cover-q.ensures c.if-area-q.false c.write_classes-r.ensures c.if-area-r.false (sym c.shares.ensures ∙ c.if-shares.false) c.write_classes-end.ensures
