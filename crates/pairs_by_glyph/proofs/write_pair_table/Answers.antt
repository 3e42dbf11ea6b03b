use native.Mathlib.Omega.{arith}
use Rattle.laws.specs.SoundGood.{bytes_all}
use Rattle.placed_sets.specs.declared.Sort.TheVariants.{Pairs}
use Rattle.cut_sets.specs.PairTables.{one_map, ready_pairs}
use Rattle.cut_sets.proofs.Smallness.{small_left}
use Rattle.cut_sets.proofs.Asking.{asks_formats, puts_length, told_new}
use Rattle.pairs_by_glyph.proofs.write_pair_table.Goals as goal

pub new_formats-f-requires : goal.new_formats-f-requires
new_formats-f-requires c = asks_formats c.requires.0

pub slice_bounds-write_table-end : goal.slice_bounds-write_table-end
slice_bounds-write_table-end c = puts_length c.kept_places-k.ensures.0

pub write_table-requires : goal.write_table-requires
write_table-requires c =
    let b = bytes_all c.args.src.now (λ i. omega (arith, c.type_inv.src i)) in
    (ready_pairs c.args.src.now c.new_formats-f.result c.new_formats-f.ensures.f1 c.new_formats-f.ensures.f2 (small_left (Pairs c.new_formats-f.result) c.args.src.now b c.args.t.now (one_map c.args.g)) c.requires.0, c.requires.1, told_new c.new_formats-f.ensures c.kept_places-k.ensures.0)

pub returns : goal.returns
returns c =
    record { formats = c.new_formats-f.result; new = c.new_formats-f.ensures; answered = c.write_table.ensures }
