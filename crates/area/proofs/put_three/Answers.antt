use Rattle.laws.specs.Written.{wrote_none, wrote_one}
use Rattle.area.proofs.put_three.Goals as goal

pub returns : goal.returns
returns c =
    let w1 = wrote_one c.args.a wrote_none c.put-p.ensures in
    let w2 = wrote_one c.args.b w1 c.put-q.ensures in
    let w3 = wrote_one c.args.c w2 c.put.ensures in
    (w3.place, w3.bytes)
