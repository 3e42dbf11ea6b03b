use Rattle.numbers.specs.Entries.{entries_in}
use Rattle.class_cells.proofs.Writing.{puts_length, has_said, places_said, rows_said}
use Rattle.class_cells.proofs.write_cells.Goals as goal

pub slice_bounds-write_rows-end : goal.slice_bounds-write_rows-end
slice_bounds-write_rows-end c = puts_length c.kept_places-k.ensures.0

pub write_rows-requires : goal.write_rows-requires
write_rows-requires c =
    (has_said c.requires.1 c.kept_places-k.ensures.0 c.requires.0.has, places_said c.requires.1 c.kept_places-k.ensures.0, c.requires.0.first_map, c.requires.0.second_map_lem, c.requires.2)

pub returns : goal.returns
returns c =
    rows_said c.requires.1 c.kept_places-k.ensures.0 (entries_in c.args.t.now c.args.firsts) (entries_in c.args.t.now c.args.seconds) c.write_rows.ensures
