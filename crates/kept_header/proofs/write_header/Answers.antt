use native.Mathlib.Omega.{arith}
use Rattle.kept_header.proofs.Finishing.{header_rules, header_ligatures, header_pairs, pairs_ten}
use Rattle.kept_header.proofs.write_header.Goals as goal

pub put_two-requires : goal.put_two-requires
put_two-requires c =
    omega (arith, pairs_ten c.in-Pairs.is c.requires)

pub returns-in-Rules : goal.returns-in-Rules
returns-in-Rules c =
    header_rules c.args.sort c.args.cover c.args.k c.in-Rules.is c.put_three.ensures

pub returns-in-Ligatures : goal.returns-in-Ligatures
returns-in-Ligatures c =
    header_ligatures c.args.sort c.args.cover c.args.k c.in-Ligatures.is c.put_three-in-Ligatures.ensures

pub returns-in-Pairs : goal.returns-in-Pairs
returns-in-Pairs c =
    header_pairs c.args.sort c.args.cover c.args.k c.in-Pairs.is c.put_three-p.ensures c.put_two.ensures
