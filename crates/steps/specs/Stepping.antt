-- What the steps of a replay tell of the definition.
use Rattle.std.specs.Prelude.{ℕ, ◌*◌, ◌≤◌, ◌<◌, ◌≡◌, List, length, Option, None, Some, Result, Ok, IsOk, IsErr}
use Rattle.meaning.specs.Words.{words}
use Rattle.replaying.specs.Applying.{Step}
use Rattle.steps.specs.declared.TooDeep.{TooDeep}

-- a slice has room for n glyphs
pub record Room (n : ℕ) (string : List ℕ) : Type 0 where
  pub fits : 2 * n ≤ length string
  pub small : n < 0x1_0000_0000

-- too deep, or the input length and the string as it is left
abbrev pub Stepped : Option Step → ℕ → Result ℕ TooDeep → List ℕ → Type 0
Stepped None n r string = IsErr r
Stepped (Some t) n r string = (r ≡ Ok t.took) × (words string 0 n ≡ t.string) × (t.took ≤ 65536)

-- the same of a rule's records
abbrev pub Ruled : Option (List ℕ) → ℕ → Result (Unit {0}) TooDeep → List ℕ → Type 0
Ruled None n r string = IsErr r
Ruled (Some t) n r string = IsOk r × (words string 0 n ≡ t)
