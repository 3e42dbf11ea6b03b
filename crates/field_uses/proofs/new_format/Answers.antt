use Rattle.area.specs.Part.{notes}
use Rattle.numbers.specs.Entries.{entries_in}
use Rattle.pair_places.specs.Formats.{below}
use Rattle.field_uses.proofs.Using.{place_fits, format_sum}
use Rattle.field_uses.proofs.new_format.Goals as goal

pub bit_kept-a-requires : goal.bit_kept-a-requires
bit_kept-a-requires c =
    (c.requires.0, place_fits c.args.start c.args.f 1 c.args.size c.field_place.ensures.0 (below c.args.f).0 c.requires.2 c.requires.3, c.requires.4)

pub bit_kept-b-requires : goal.bit_kept-b-requires
bit_kept-b-requires c =
    (c.requires.0, place_fits c.args.start c.args.f 2 c.args.size c.field_place-2.ensures.0 (below c.args.f).1.0 c.requires.2 c.requires.3, c.requires.4)

pub bit_kept-c-requires : goal.bit_kept-c-requires
bit_kept-c-requires c =
    (c.requires.0, place_fits c.args.start c.args.f 4 c.args.size c.field_place-3.ensures.0 (below c.args.f).1.1.0 c.requires.2 c.requires.3, c.requires.4)

pub bit_kept-d-requires : goal.bit_kept-d-requires
bit_kept-d-requires c =
    (c.requires.0, place_fits c.args.start c.args.f 8 c.args.size c.field_place-4.ensures.0 (below c.args.f).1.1.1.0 c.requires.2 c.requires.3, c.requires.4)

pub returns : goal.returns
returns c =
    format_sum (entries_in c.args.t.now c.args.glyphs) c.args.src.now c.args.size c.args.start c.args.f (notes c.args.t.now c.args.at c.args.n)
    c.field_place.ensures.0 c.field_place-2.ensures.0 c.field_place-3.ensures.0 c.field_place-4.ensures.0
    c.bit_kept-a.ensures.0 c.bit_kept-b.ensures.0 c.bit_kept-c.ensures.0 c.bit_kept-d.ensures.0
