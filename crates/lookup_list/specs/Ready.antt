-- When the lookups of a list can be asked.
use Rattle.std.specs.Prelude.{ℕ, ◌+◌, ◌*◌, ◌/◌, ◌≤◌, ◌<◌, ◌≡◌, List, length, None}
use Rattle.meaning.specs.Words.{word}
use Rattle.meaning.specs.Fault.{fault}
use Rattle.meaning.specs.Job.{long, part_at, bytes_of}

-- a sound lookup of a kind that can be listed
pub record Lookup (kind : ℕ) (s : List ℕ) : Type 0 where
  pub known : (kind ≡ 5 → ⊥) → (kind ≡ 2 → ⊥) → kind ≡ 1
  pub sound : fault kind s ≡ None

-- the bytes of a lookup of the list
unfoldable pub source_at : List ℕ → List ℕ → ℕ → List ℕ
source_at list buffer k = bytes_of buffer (part_at list (10 * k + 2))

-- the list can be asked: it is short, and each of its lookups lies inside the buffer and is sound
pub record Ready (list buffer : List ℕ) : Type 0 where
  pub short : length list ≤ 160
  pub inside : (k : ℕ) → k < length list / 10 → long list (10 * k + 2) + long list (10 * k + 2 + 4) ≤ length buffer
  pub lookup : (k : ℕ) → k < length list / 10 → Lookup (word list (10 * k)) (source_at list buffer k)
