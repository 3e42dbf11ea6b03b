use native.Mathlib.Omega.{arith}
use Rattle.single_tables.proofs.Laying.{subs_length, list_stands}
use Rattle.single_tables.proofs.write_list.Goals as goal

pub write_cover-requires : goal.write_cover-requires
write_cover-requires c =
    (c.requires.0.inside, c.requires.0.some, omega (arith, c.requires.0.few, c.put_substitutes-q.ensures.place, c.put_three-p.ensures.0, subs_length c.args.t.now c.args.at c.args.n))

pub returns : goal.returns
returns c =
    list_stands _ _ _ c.requires.1 c.put_three-p.ensures c.put_substitutes-q.ensures c.write_cover.ensures
