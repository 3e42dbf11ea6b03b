use Prim.Native.Nat.{ℕ}
use mathlib.Core.Path.{sym, ap, ◌∙◌}
use mathlib.Core.List.{List}
use Rattle.meaning.specs.Maps.{map_entries, glyph_entries}
use Rattle.meaning.specs.Tables.{table}
use Rattle.meaning.specs.Cut.{cut}
use Rattle.meaning.specs.Subset.{written_in}
use Rattle.cut.proofs.Sizes.{small_answered, small_untouched, large_answered, never_untouched}
use Rattle.cut.proofs.cut_own.Goals as goal

pub returns-in-Some : goal.returns-in-Some
returns-in-Some c =
    small_answered c.in_size.ensures c.in-Some.ensures ∙ ap (λ (o : List ℕ). written_in c.args.marks.layout o (cut (glyph_entries c.args.marks.form c.args.glyphs.now) (map_entries c.args.lookups.now) (table c.args.marks.kind c.args.src.now))) c.loop-size.invariant

pub loop-size-preserved : goal.loop-size-preserved
loop-size-preserved c =
    small_untouched c.in_size.ensures c.in_default.ensures ∙ c.loop-size.invariant

pub unwrap-requires : goal.unwrap-requires
unwrap-requires c = rw c.answered-2.ensures (never_untouched c.in_most.ensures)

pub returns : goal.returns
returns c =
    large_answered c.in_most.ensures (sym c.unwrap.ensures ∙ c.answered-2.ensures) ∙ ap (λ (o : List ℕ). written_in c.args.marks.layout o (cut (glyph_entries c.args.marks.form c.args.glyphs.now) (map_entries c.args.lookups.now) (table c.args.marks.kind c.args.src.now))) c.loop-size.invariant
