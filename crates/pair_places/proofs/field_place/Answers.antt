use native.Mathlib.Omega.{arith}
use Rattle.pair_places.specs.Puts.{place_none, place_is}
use Rattle.pair_places.proofs.field_place.Goals as goal

pub returns-then-f-k-ne1 : goal.returns-then-f-k-ne1
returns-then-f-k-ne1 c =
    (place_none c.args.start c.args.f c.args.k c.if-f-k-ne1.true, omega arith)

pub returns : goal.returns
returns c =
    (place_is c.args.start c.args.f c.args.k (omega arith) c.field_count.ensures.0, omega arith)
