use mathlib.Core.Path.{◌≡◌}
use native.Mathlib.Omega.{arith}
use Rattle.compare_lists.proofs.Listing.{sound_as, listed_as}
use Rattle.compare_lists.proofs.list_covers.Goals as goal

pub list_plain-requires : goal.list_plain-requires
list_plain-requires c =
    (sound_as c.if-kind-eq1.true c.args.left.now c.args.right.now c.requires.0, c.requires.4, sound_as c.if-kind-eq1.true c.args.left.now c.args.right.now c.requires.1, c.requires.5, omega arith)

pub returns-then-kind-eq1 : goal.returns-then-kind-eq1
returns-then-kind-eq1 c =
    listed_as c.if-kind-eq1.true c.args.left.now c.args.right.now 24 (omega arith) c.list_plain.ensures

pub list_chained-requires : goal.list_chained-requires
list_chained-requires c =
    let e : c.args.kind ≡ 2 = omega (arith, c.requires.2, c.requires.3, c.if-kind-eq1.false) in
    (sound_as e c.args.left.now c.args.right.now c.requires.0, c.requires.4, sound_as e c.args.left.now c.args.right.now c.requires.1, c.requires.5, omega arith)

pub returns : goal.returns
returns c =
    let e : c.args.kind ≡ 2 = omega (arith, c.requires.2, c.requires.3, c.if-kind-eq1.false) in
    listed_as e c.args.left.now c.args.right.now 24 (omega arith) c.list_chained.ensures
