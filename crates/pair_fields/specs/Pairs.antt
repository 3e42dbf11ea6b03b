-- What is left of a pair set, by the places of the fields that stay.
use Rattle.std.specs.Prelude.{ℕ, zero, suc, ◌+◌, ◌*◌, ◌≤◌, Bool, false, cond, ◌&&◌, ◌||◌, not, List, [], ◌∷◌, ◌++◌, map, length, get_or, eqb, Option, Some}
use Rattle.std.proofs.Common.{arith}
use Rattle.meaning.specs.Words.{word, find, is_some, bind, push}
use Rattle.meaning.specs.Cut.{unless_empty}
use Rattle.meaning.specs.Layout.{block}
use Rattle.laws.specs.Members.{words_left}

-- the value that stands `place` bytes into the pair record at p; the place 0 is that of a field that the record has not, which reads as 0
unfoldable pub value_at : List ℕ → ℕ → ℕ → ℕ
value_at s p place = cond (eqb place 0) 0 (word s (p + place))

-- some surviving pair of n records from p on has a value at `place` that is not 0
unfoldable pub field_used : List (ℕ × ℕ) → List ℕ → ℕ → ℕ → ℕ → ℕ → Bool
field_used g s size place p zero = false
field_used g s size place p (suc n) = (not (eqb (value_at s p place) 0) && is_some (find g (word s p))) || field_used g s size place (p + size) n

-- places of eight fields at most, each inside a record of this size
pub record Places (places : List ℕ) (size : ℕ) : Type 0 where
  pub few : length places ≤ 8
  pub within : (i : ℕ) → get_or places i 0 + 2 ≤ size

-- places of eight fields at most, each of them inside for the record at p
pub record Reads (s : List ℕ) (p : ℕ) (places : List ℕ) : Type 0 where
  pub few : length places ≤ 8
  pub within : (i : ℕ) → p + get_or places i 0 + 2 ≤ length s

pub reads_record : {s places : List ℕ} {p size : ℕ} → p + size ≤ length s → Places places size → Reads s p places
reads_record h k = record { few = k.few; within = λ i. omega (arith, k.within i) }

-- the words of the pairs that survive of n records from p on: the new second glyph and the values that stay
unfoldable pub pairs_in : List (ℕ × ℕ) → List ℕ → ℕ → List ℕ → ℕ → ℕ → List (List ℕ)
pairs_in g s size places p zero = []
pairs_in g s size places p (suc n) = push (bind (find g (word s p)) (λ y. Some (y ∷ map (value_at s p) places))) (pairs_in g s size places (p + size) n)

-- words of pairs, one after the other
unfoldable pub rows : List (List ℕ) → List ℕ
rows [] = []
rows (w ∷ r) = w ++ rows r

-- a pair set: its count and its pairs
unfoldable pub pair_set_of : List (List ℕ) → List ℕ
pair_set_of ps = length ps ∷ rows ps

-- the words of what is left of the pair set at `at`, if a pair of it survives
unfoldable pub pairs_left : List (ℕ × ℕ) → List ℕ → ℕ → List ℕ → ℕ → Option (List ℕ)
pairs_left g s size places at = block pair_set_of (unless_empty (pairs_in g s size places (at + 2) (word s at)))

-- more than any area has room for, where a pair set has no room: what is left of it, the place for its count, and one pair more
unfoldable pub pairs_most : Option (List ℕ) → List ℕ → ℕ
pairs_most o places = 2 * length (words_left (λ ws. ws) o) + 2 + (2 + 2 * length places)
