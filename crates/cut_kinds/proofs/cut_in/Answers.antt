use native.Mathlib.Omega.{arith}
use lib.ListN.{length}
use Rattle.meaning.specs.Maps.{map_entries, glyph_entries}
use Rattle.cut_kinds.proofs.Says.{asks_plain, asks_chained, asks_ligatures, asks_pairs, asks_singles, tries_plain, tries_chained, tries_ligatures, tries_pairs, tries_singles}
use Rattle.cut_kinds.proofs.cut_in.Goals as goal

pub context_in-requires : goal.context_in-requires
context_in-requires c =
    asks_plain c.args.marks.kind c.args.src.now c.requires (omega arith)

pub context_in-requires-in-2 : goal.context_in-requires-in-2
context_in-requires-in-2 c =
    asks_chained c.args.marks.kind c.args.src.now c.requires (omega arith)

pub ligatures-requires : goal.ligatures-requires
ligatures-requires c =
    asks_ligatures c.args.marks.kind c.args.src.now c.requires (omega arith)

pub pairs_in-requires : goal.pairs_in-requires
pairs_in-requires c =
    asks_pairs c.args.marks.kind c.args.src.now c.requires (omega arith)

pub singles-requires : goal.singles-requires
singles-requires c =
    asks_singles c.args.marks.kind c.args.src.now c.requires (omega arith) (omega arith) (omega arith) (omega arith)

pub returns-in-1 : goal.returns-in-1
returns-in-1 c =
    tries_plain c.args.marks.kind c.args.src.now c.args.marks.layout (glyph_entries c.args.marks.form c.args.glyphs.now) (map_entries c.args.lookups.now) (length c.args.t.now) (length c.args.area.now) c.context_in.result c.args.out.now c.context_in.new.out (omega arith) c.context_in.ensures

pub returns-in-2 : goal.returns-in-2
returns-in-2 c =
    tries_chained c.args.marks.kind c.args.src.now c.args.marks.layout (glyph_entries c.args.marks.form c.args.glyphs.now) (map_entries c.args.lookups.now) (length c.args.t.now) (length c.args.area.now) c.context_in-in-2.result c.args.out.now c.context_in-in-2.new.out (omega arith) c.context_in-in-2.ensures

pub returns-in-3 : goal.returns-in-3
returns-in-3 c =
    tries_ligatures c.args.marks.kind c.args.src.now c.args.marks.layout (glyph_entries c.args.marks.form c.args.glyphs.now) (map_entries c.args.lookups.now) (length c.args.t.now) (length c.args.area.now) c.ligatures.result c.args.out.now c.ligatures.new.out (omega arith) c.ligatures.ensures

pub returns-in-4 : goal.returns-in-4
returns-in-4 c =
    tries_pairs c.args.marks.kind c.args.src.now c.args.marks.layout (glyph_entries c.args.marks.form c.args.glyphs.now) (map_entries c.args.lookups.now) (length c.args.t.now) (length c.args.area.now) c.pairs_in.result c.args.out.now c.pairs_in.new.out (omega arith) c.pairs_in.ensures

pub returns-in_default : goal.returns-in_default
returns-in_default c =
    tries_singles c.args.marks.kind c.args.src.now c.args.marks.layout (glyph_entries c.args.marks.form c.args.glyphs.now) (map_entries c.args.lookups.now) (length c.args.t.now) (length c.args.area.now) c.singles.result c.args.out.now c.singles.new.out (omega arith) (omega arith) (omega arith) (omega arith) c.singles.ensures
