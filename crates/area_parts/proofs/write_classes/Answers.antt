use mathlib.Core.Path.{ap, ◌∙◌}
use mathlib.Core.List.{[], ◌∷◌}
use Prim.Native.Nat.{◌+◌, ◌-◌, ◌<◌}
use native.Mathlib.Omega.{arith}
use lib.ListN.{length}
use Rattle.area_parts.proofs.Classes.{ids_order, ids_counted, classes_over, classes_none, over_array, over_ranges, classes_array, classes_ranges}
use Rattle.meaning.specs.Words.{flat}
use lib.Seq.{length-sets}
use Rattle.area_parts.proofs.write_classes.Goals as goal

pub returns-then-area-p : goal.returns-then-area-p
returns-then-area-p c =
    classes_over c.args.t.now c.args.at c.args.n c.if-n-eq0.true c.if-area-p.true c.over.ensures

pub returns-then-n-eq0 : goal.returns-then-n-eq0
returns-then-n-eq0 c =
    classes_none c.args.t.now c.args.at c.args.n c.if-n-eq0.true c.if-area-p.false c.put_two.ensures

pub overflow_sub-ids : goal.overflow_sub-ids
overflow_sub-ids c =
    ids_order c.args.t.now c.args.at c.args.n (omega (arith, c.if-n-eq0.false)) c.requires.2 c.old_in-first.ensures.0 c.old_in.ensures.0

pub returns-then-area-p-2 : goal.returns-then-area-p-2
returns-then-area-p-2 c =
    let some : 0 < c.args.n = omega (arith, c.if-n-eq0.false) in
    let ids = ids_counted c.args.t.now c.args.at c.args.n some c.requires.2 c.old_in-first.ensures.0 c.old_in.ensures.0 in
    over_array c.args.t.now c.args.at c.args.n some ids c.class_runs-runs.ensures c.if-ids-runs.true c.if-area-p-2.true c.over-then-area-p-2.ensures

pub put_class_array-requires : goal.put_class_array-requires
put_class_array-requires c =
    let some : 0 < c.args.n = omega (arith, c.if-n-eq0.false) in
    let ids = ids_counted c.args.t.now c.args.at c.args.n some c.requires.2 c.old_in-first.ensures.0 c.old_in.ensures.0 in
    (c.requires.0, some, omega (arith, ids, c.put_three-q.ensures.0, c.if-area-p-2.false, ap length c.put_three-q.ensures.1 ∙ length-sets c.args.area.now c.args.p (flat (1 ∷ c.old_in-first.result ∷ (c.old_in.result + 1 - c.old_in-first.result) ∷ []))), c.requires.2)

pub returns-then-ids-runs : goal.returns-then-ids-runs
returns-then-ids-runs c =
    let some : 0 < c.args.n = omega (arith, c.if-n-eq0.false) in
    let ids = ids_counted c.args.t.now c.args.at c.args.n some c.requires.2 c.old_in-first.ensures.0 c.old_in.ensures.0 in
    classes_array c.args.t.now c.args.at c.args.n some ids c.class_runs-runs.ensures c.if-ids-runs.true c.if-area-p-2.false c.old_in-first.ensures.0 c.put_three-q.ensures c.put_class_array.ensures

pub returns-then-area-p-3 : goal.returns-then-area-p-3
returns-then-area-p-3 c =
    let some : 0 < c.args.n = omega (arith, c.if-n-eq0.false) in
    let ids = ids_counted c.args.t.now c.args.at c.args.n some c.requires.2 c.old_in-first.ensures.0 c.old_in.ensures.0 in
    over_ranges c.args.t.now c.args.at c.args.n some ids c.class_runs-runs.ensures (omega (arith, c.if-ids-runs.false)) c.if-area-p-3.true c.over-then-area-p-3.ensures

pub returns : goal.returns
returns c =
    let some : 0 < c.args.n = omega (arith, c.if-n-eq0.false) in
    let ids = ids_counted c.args.t.now c.args.at c.args.n some c.requires.2 c.old_in-first.ensures.0 c.old_in.ensures.0 in
    classes_ranges c.args.t.now c.args.at c.args.n some ids c.class_runs-runs.ensures (omega (arith, c.if-ids-runs.false)) c.if-area-p-3.false c.put_two-q.ensures c.put_class_ranges.ensures
