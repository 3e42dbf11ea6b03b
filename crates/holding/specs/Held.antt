-- How the numbers of sequences are held against glyphs, and what a sequence asks of its source.
use Rattle.std.specs.Prelude.{ℕ, ◌+◌, ◌*◌, ◌<◌, ◌≡◌, Bool, true, cond, List, eqb, Option, None, Some}
use Rattle.meaning.specs.Words.{word, words}
use Rattle.meaning.specs.Parts.{coverage, coverage_sound}
use Rattle.meaning.specs.Matching.{fits, covers?, in_class}
use Rattle.class_stretches.specs.Tables.{table_at, NullOrSound}
use Rattle.holding.specs.declared.Sequence.{Sequence}

-- the coverage at an offset; there is none where it is null
abbrev pub cover_at : List ℕ → ℕ → Option (List ℕ)
cover_at s at = cond (eqb at 0) None (Some (coverage s at))

-- a number holds for a glyph: it is the glyph, its class, or the offset of a coverage that has it
unfoldable pub held : List ℕ → ℕ → ℕ → ℕ → ℕ → Bool
held s sort table w g = cond (eqb sort 0) (eqb w g) (cond (eqb sort 1) (in_class (table_at s table) w g) (covers? (cover_at s w) g))

-- what is read to hold a number is sound
pub record SoundNumber (s : List ℕ) (sort table w : ℕ) : Type 0 where
  pub by_class : sort ≡ 1 → NullOrSound s table
  pub by_cover : (sort ≡ 0 → ⊥) → (sort ≡ 1 → ⊥) → (w ≡ 0 → ⊥) → coverage_sound s w ≡ true

-- so for each number of a sequence
pub record Fine (s : List ℕ) (q : Sequence) : Type 0 where
  pub near : q.at + 2 * q.len < 0x1_0000_0000_0000
  pub sound : (i : ℕ) → i < q.len → SoundNumber s q.sort q.table (word s (q.at + 2 * i))

-- the numbers of a sequence hold for the first of these glyphs, one each
unfoldable pub runs_on : List ℕ → Sequence → List ℕ → Bool
runs_on s q gs = fits (held s q.sort q.table) (words s q.at q.len) gs
