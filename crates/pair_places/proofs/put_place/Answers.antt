use native.Mathlib.Omega.{arith}
use Rattle.pair_places.specs.Puts.{puts_none, puts_one, puts_said, kept_none, kept_one}
use Rattle.pair_places.proofs.put_place.Goals as goal

pub returns-then-new-k-ne1 : goal.returns-then-new-k-ne1
returns-then-new-k-ne1 c =
    (puts_said puts_none (kept_none c.args.start c.args.f c.args.k c.args.new c.if-new-k-ne1.true), omega arith)

pub returns : goal.returns
returns c =
    (puts_said (puts_one c.requires.2) (kept_one c.args.start c.args.f c.args.k c.args.new (omega arith) c.field_place.ensures.0), omega arith)
