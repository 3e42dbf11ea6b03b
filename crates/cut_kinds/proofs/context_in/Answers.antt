use native.Mathlib.Omega.{arith}
use lib.ListN.{length}
use Rattle.meaning.specs.Maps.{map_entries, glyph_entries}
use Rattle.cut_kinds.proofs.Says.{asks_1, asks_2, asks_3, tries_1, tries_2, tries_3}
use Rattle.cut_kinds.proofs.context_in.Goals as goal

pub contexts-requires : goal.contexts-requires
contexts-requires c =
    asks_1 c.args.chained c.args.src.now c.word_at-format.ensures.0 c.requires (omega arith)

pub by_class-requires : goal.by_class-requires
by_class-requires c =
    asks_2 c.args.chained c.args.src.now c.word_at-format.ensures.0 c.requires (omega arith)

pub by_cover-requires : goal.by_cover-requires
by_cover-requires c =
    asks_3 c.args.chained c.args.src.now c.word_at-format.ensures.0 c.requires (omega arith) (omega arith)

pub returns-in-1 : goal.returns-in-1
returns-in-1 c =
    tries_1 c.args.chained c.args.src.now c.word_at-format.ensures.0 c.args.marks.layout (glyph_entries c.args.marks.form c.args.glyphs.now) (map_entries c.args.lookups.now) (length c.args.t.now) (length c.args.area.now) c.contexts.result c.args.out.now c.contexts.new.out (omega arith) c.contexts.ensures

pub returns-in-2 : goal.returns-in-2
returns-in-2 c =
    tries_2 c.args.chained c.args.src.now c.word_at-format.ensures.0 c.args.marks.layout (glyph_entries c.args.marks.form c.args.glyphs.now) (map_entries c.args.lookups.now) (length c.args.t.now) (length c.args.area.now) c.by_class.result c.args.out.now c.by_class.new.out (omega arith) c.by_class.ensures

pub returns-in_default : goal.returns-in_default
returns-in_default c =
    tries_3 c.args.chained c.args.src.now c.word_at-format.ensures.0 c.args.marks.layout (glyph_entries c.args.marks.form c.args.glyphs.now) (map_entries c.args.lookups.now) (length c.args.t.now) (length c.args.area.now) c.by_cover.result c.args.out.now c.by_cover.new.out (omega arith) (omega arith) c.by_cover.ensures
