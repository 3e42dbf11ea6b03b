-- What is known of a subtable that is not refused.
use Rattle.std.specs.Prelude.{ℕ, ◌≤◌, ◌≡◌, Bool, true, ◌&&◌, not, List, length, eqb, None}
use Rattle.meaning.specs.Words.{word}
use Rattle.meaning.specs.Fault.{fault}
use Rattle.differences.specs.Compare.{compared_format}
use Rattle.gathered.specs.Gathered.{Scratch}

pub record Passes (kind : ℕ) (s : List ℕ) : Type 0 where
  pub short : length s ≤ 262144
  pub format : compared_format kind (word s 0) ≡ true
  pub sound : fault kind s ≡ None

-- whether rules are to be paired, by the kind and the two formats: contexts of one format, 1 or 2, and ligatures
unfoldable pub by_rules : ℕ → ℕ → ℕ → Bool
by_rules kind f h = not (eqb kind 4) && (eqb f h && not (eqb f 3))

-- cells of these lengths, if they are said to be enough, are so for any two subtables
pub record Enough (num nums heads links : ℕ) (b : Bool) : Type 0 where
  pub codes : b ≡ true → 262144 ≤ num
  pub rest : b ≡ true → Scratch 262144 nums heads links
