-- What the call for other languages gives back.
use Rattle.std.specs.Prelude.{ℕ, ◌+◌, ◌*◌, ◌/◌, ◌<◌, ◌≡◌, List, [], ◌∷◌, ◌++◌}
use Rattle.std.proofs.lemmas.List.Edits.{sets}
use Rattle.meaning.specs.Words.{flat}
use Rattle.replaying.specs.Replay.{Tally, Replayed}
use Rattle.replaying.specs.Cost.{Cost}

-- a number in eight bytes, the highest first
unfoldable pub bytes8 : ℕ → List ℕ
bytes8 n = flat (n / 0x1_0000_0000_0000 ∷ n / 0x1_0000_0000 ∷ n / 0x1_0000 ∷ n ∷ [])

-- a tally: runs, agreements and first disagreeing run
unfoldable pub tally_bytes : Tally → List ℕ
tally_bytes t = bytes8 t.runs ++ (bytes8 t.agreements ++ bytes8 t.first)

-- the answer is number times 2⁵⁶ plus place, which is below 2⁵⁶, and the tally stands at the front of the lent bytes, as far as they reach
pub record Gives (a : Replayed) (before : List ℕ) (r : ℕ) (after : List ℕ) : Type 0 where
  pub answer : r ≡ a.number * 0x100_0000_0000_0000 + a.place
  pub fits : a.place < 0x100_0000_0000_0000
  pub tally : after ≡ sets before 0 (tally_bytes a.tally)

-- the same answer of a cost, and its steps at the front of the lent bytes, as far as they reach
pub record Costs (a : Cost) (before : List ℕ) (r : ℕ) (after : List ℕ) : Type 0 where
  pub answer : r ≡ a.number * 0x100_0000_0000_0000 + a.place
  pub fits : a.place < 0x100_0000_0000_0000
  pub steps : after ≡ sets before 0 (bytes8 a.steps)
