use native.Mathlib.Omega.{arith}
use Rattle.pair_places.specs.Puts.{puts_more, puts_said, kept_all}
use Rattle.pair_places.proofs.put_places.Goals as goal

pub returns : goal.returns
returns c =
    (puts_said (puts_more c.put_place-a.ensures.0 (puts_more c.put_place-b.ensures.0 (puts_more c.put_place-c.ensures.0 c.put_place.ensures.0))) (kept_all c.args.start c.args.f c.args.new), omega arith)
