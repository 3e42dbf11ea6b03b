use Prim.Native.Nat.{◌*◌}
use lib.ListN.{length}
use native.Mathlib.Omega.{arith}
use Rattle.pair_fields.specs.Pairs.{reads_record}
use Rattle.pair_fields.proofs.Pairing.{pair_room, pair_put}
use Rattle.pair_sets.proofs.write_pair.Goals as goal

pub write_values-requires : goal.write_values-requires
write_values-requires c =
    (reads_record c.requires.0 c.requires.1, pair_room c.args.area.now c.args.pos c.args.new (2 * length c.args.places.now) c.requires.2 c.put-q.ensures)

pub returns : goal.returns
returns c = pair_put (omega (arith, c.requires.2)) c.put-q.ensures c.write_values.ensures
