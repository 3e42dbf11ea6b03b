use native.Mathlib.Omega.{arith}
use lib.ListN.{length}
use Rattle.meaning.specs.Maps.{glyph_entries}
use Rattle.cut_kinds.proofs.Says.{asks_glyph_pairs, asks_class_pairs, tries_glyph_pairs, tries_class_pairs}
use Rattle.cut_kinds.proofs.pairs_in.Goals as goal

pub pairs-requires : goal.pairs-requires
pairs-requires c =
    asks_glyph_pairs c.args.src.now c.word_at-format.ensures.0 c.requires (omega arith)

pub class_pairs-requires : goal.class_pairs-requires
class_pairs-requires c =
    asks_class_pairs c.args.src.now c.word_at-format.ensures.0 c.requires (omega arith)

pub returns-in-1 : goal.returns-in-1
returns-in-1 c =
    tries_glyph_pairs c.args.src.now c.word_at-format.ensures.0 c.args.marks.layout (glyph_entries c.args.marks.form c.args.glyphs.now) (length c.args.t.now) (length c.args.area.now) c.pairs.result c.args.out.now c.pairs.new.out (omega arith) c.pairs.ensures

pub returns-in_default : goal.returns-in_default
returns-in_default c =
    tries_class_pairs c.args.src.now c.word_at-format.ensures.0 c.args.marks.layout (glyph_entries c.args.marks.form c.args.glyphs.now) (length c.args.t.now) (length c.args.area.now) c.class_pairs.result c.args.out.now c.class_pairs.new.out (omega arith) c.class_pairs.ensures
