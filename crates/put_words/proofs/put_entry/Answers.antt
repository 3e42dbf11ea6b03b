use Rattle.laws.specs.Written.{wrote_none, wrote_one}
use Rattle.put_words.proofs.put_entry.Goals as goal

pub returns : goal.returns
returns c =
    let w1 = wrote_one c.args.a wrote_none c.put-p.ensures in
    let w2 = wrote_one c.args.b w1 c.put.ensures in
    (w2.place, w2.bytes)
