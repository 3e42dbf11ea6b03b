-- What a cut with lent cells and a lent area answers.
use Rattle.std.specs.Prelude.{ℕ, ◌≡◌, refl, Bool, List, Option, None}
use Rattle.meaning.specs.Words.{word}
use Rattle.meaning.specs.Parts.{coverage}
use Rattle.meaning.specs.Tables.{Table, reach, reaches, rule_set, ligature_set}
use Rattle.meaning.specs.Subset.{refused, written_in}

-- how many cells are enough for any source: those of two maps, and a note for each glyph and one more
abbrev pub cells_most : ℕ
cells_most = 196609

-- nothing is left
pub written_none : (packing : ℕ) (out : List ℕ) {o : Option Table} → o ≡ None → refused out 8 ≡ written_in packing out o
unfolding written_in
written_none packing out e = rw e refl

-- a context by glyph, and the table of a ligature source, as the source says them
abbrev pub glyph_context : Bool → List ℕ → Table
glyph_context chained s = Table.by_glyph chained (reach (coverage s) s 0 2) (reaches (rule_set chained s) s 0 6 (word s 4))

abbrev pub ligature_table : List ℕ → Table
ligature_table s = Table.ligatures (reach (coverage s) s 0 2) (reaches (ligature_set s) s 0 6 (word s 4))
