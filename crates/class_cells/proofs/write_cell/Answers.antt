use mathlib.Core.List.{map}
use native.Mathlib.Omega.{arith}
use lib.ListN.{length-map}
use Rattle.numbers.specs.Entries.{entries_in}
use Rattle.numbers.proofs.Numbers.{found_in}
use Rattle.pair_fields.specs.Pairs.{value_at}
use Rattle.class_cells.proofs.Writing as writing
use Rattle.class_cells.proofs.write_cell.Goals as goal

pub returns-in_default : goal.returns-in_default
returns-in_default c =
    writing.cell_gone (entries_in c.args.t.now c.args.seconds) c.args.c (map (value_at c.args.src.now c.args.p) c.args.places.now) (found_in _ c.requires.1 c.in_default.ensures.answer) c.requires.2

pub overflow_add-pos : goal.overflow_add-pos
overflow_add-pos c = omega (arith, c.requires.0.few, c.requires.2)

pub returns-then-area-pos : goal.returns-then-area-pos
returns-then-area-pos c =
    let ws = map (value_at c.args.src.now c.args.p) c.args.places.now in
    writing.cell_full (entries_in c.args.t.now c.args.seconds) c.args.c ws (found_in _ c.requires.1 c.in-Some.ensures.answer) (omega (arith, c.if-area-pos.true, length-map c.args.places.now (value_at c.args.src.now c.args.p))) c.over.ensures

pub write_values-requires : goal.write_values-requires
write_values-requires c = (c.requires.0, c.if-area-pos.false)

pub returns : goal.returns
returns c =
    writing.cell_fits (entries_in c.args.t.now c.args.seconds) c.args.c (map (value_at c.args.src.now c.args.p) c.args.places.now) (found_in _ c.requires.1 c.in-Some.ensures.answer) c.write_values.ensures
