-- Tables at the limit, by computation.
use Rattle.std.specs.Prelude.{◌≡◌, refl, [], ◌∷◌, replicate}
use Rattle.meaning.specs.Words.{flat}
use Rattle.differences.specs.Compare.{compare}

-- a table of 262,145 bytes is refused as 4
pub long_table : (compare 1 (replicate 262145 0) (0 ∷ []) []).number ≡ 4
unfolding flat compare
long_table = refl

-- so is a right one, and one of 262,144 bytes is not
pub longest_table : ((compare 1 (flat (3 ∷ 0 ∷ 0 ∷ [])) (replicate 262145 0) []).number ≡ 4) × ((compare 1 (replicate 262144 0) (0 ∷ []) []).number ≡ 5)
unfolding flat compare
longest_table = (refl, refl)
