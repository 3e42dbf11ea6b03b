-- Contexts by their format.
use Rattle.std.specs.Prelude.{ℕ, suc, ◌+◌, ◌≡◌, Bool, true, List, ◌⊎◌, get_or, drop, Option, None}
use Rattle.meaning.specs.Words.{word, bind}
use Rattle.meaning.specs.Parts.{coverage, coverage_sound}
use Rattle.meaning.specs.Tables.{Table, reach, reaches, rule_set}
use Rattle.meaning.specs.Matching.{match, first_fit}
use Rattle.replay_laws.specs.Places.{backward}
use Rattle.class_stretches.specs.Tables.{table_at, NullOrSound}
use Rattle.matching.specs.Fitting.{held_by}
use Rattle.holding.specs.declared.How.{How}

-- what a table answers at a place of a string that has it
abbrev pub match_at : Table → List ℕ → ℕ → Option (ℕ × List (ℕ × ℕ))
match_at t text place = match t (backward text place) (get_or text place 0) (drop (suc place) text)

-- the coverage whose offset stands at 2 is sound, where it is not null
abbrev pub SoundCover : List ℕ → Type 0
SoundCover s = (word s 2 ≡ 0 → ⊥) → coverage_sound s (word s 2) ≡ true

-- the first rule that fits in the set number i of those whose count stands at `slot`
unfoldable pub set_fit : Bool → List ℕ → How → ℕ → ℕ → List ℕ → ℕ → Option (ℕ × List (ℕ × ℕ))
set_fit chained s h slot i text place =
    bind (get_or (reaches (rule_set chained s) s 0 (slot + 2) (word s slot)) i None) (λ rs. first_fit (held_by s h) rs (backward text place) (drop (suc place) text))

-- format 1
abbrev pub glyph_context : Bool → List ℕ → Table
glyph_context chained s = Table.by_glyph chained (reach (coverage s) s 0 2) (reaches (rule_set chained s) s 0 6 (word s 4))

-- format 2, with the class tables at these places and the count of sets at `slot`
abbrev pub classes_at : Bool → List ℕ → How → ℕ → Table
classes_at chained s h slot =
    Table.by_class chained (reach (coverage s) s 0 2) (table_at s h.back) (table_at s h.input) (table_at s h.ahead) (reaches (rule_set chained s) s 0 (slot + 2) (word s slot))

-- the class tables of a plain or a chained context are sound, where they are not null
abbrev pub SoundClasses : Bool → List ℕ → Type 0
SoundClasses chained s = (at : ℕ) → at ≡ 4 ⊎ (chained ≡ true) × (at ≡ 6 ⊎ at ≡ 8) → NullOrSound s (word s at)
