-- The second glyphs of a pair set.
use Prim.Native.Nat.{ℕ, zero, suc, ◌+◌, ◌*◌}
use mathlib.Core.Path.{◌≡◌, refl, ap}
use mathlib.Core.List.{List, ◌∷◌, map}
use native.Mathlib.Omega.{arith}
use Rattle.meaning.specs.Words.{word}
use Rattle.meaning.specs.Tables.{Pair, pair_records}
use Rattle.laws.specs.Left.{column}

-- the second glyphs of pair records are a column of words
pub seconds_column : (s : List ℕ) (a b at n : ℕ) → map (λ (p : Pair). p.second) (pair_records s a b at n) ≡ column s (2 + 2 * a + 2 * b) at n
unfolding pair_records column
seconds_column s a b at zero = refl
seconds_column s a b at (suc n) =
    let e : at + 2 + 2 * a + 2 * b ≡ at + (2 + 2 * a + 2 * b) = omega arith in
    rw e (ap (λ (l : List ℕ). word s at ∷ l) (seconds_column s a b (at + (2 + 2 * a + 2 * b)) n))
