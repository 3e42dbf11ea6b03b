use Prim.Native.Nat.{ℕ, ◌<◌}
use mathlib.Core.Path.{ap, ◌∙◌}
use mathlib.Core.List.{List}
use lib.ListN.{length}
use Rattle.meaning.specs.Maps.{map_entries, glyph_entries}
use Rattle.meaning.specs.Tables.{table}
use Rattle.meaning.specs.Cut.{cut}
use Rattle.meaning.specs.Subset.{written_in}
use Rattle.cut_sizes.specs.Cutting.{cells_for, bytes_for}
use Rattle.tried.specs.Tries.{tries_answered, tries_short}
use Rattle.cut.proofs.cut_lent.Goals as goal

pub returns-in-Some : goal.returns-in-Some
returns-in-Some c =
    tries_answered (length c.args.t.now < cells_for c.args.marks.kind c.args.src.now) (length c.args.area.now < bytes_for c.args.marks.kind c.args.src.now) c.cut_in.result c.args.out.now c.cut_in.new.out (written_in c.args.marks.layout c.args.out.now (cut (glyph_entries c.args.marks.form c.args.glyphs.now) (map_entries c.args.lookups.now) (table c.args.marks.kind c.args.src.now))) c.in-Some.ensures c.cut_in.ensures

pub returns : goal.returns
returns c =
    c.cut_own.ensures ∙ ap (λ (o : List ℕ). written_in c.args.marks.layout o (cut (glyph_entries c.args.marks.form c.args.glyphs.now) (map_entries c.args.lookups.now) (table c.args.marks.kind c.args.src.now))) (tries_short (length c.args.t.now < cells_for c.args.marks.kind c.args.src.now) (length c.args.area.now < bytes_for c.args.marks.kind c.args.src.now) c.cut_in.result c.args.out.now c.cut_in.new.out (written_in c.args.marks.layout c.args.out.now (cut (glyph_entries c.args.marks.form c.args.glyphs.now) (map_entries c.args.lookups.now) (table c.args.marks.kind c.args.src.now))) c.in_default.ensures c.cut_in.ensures)
