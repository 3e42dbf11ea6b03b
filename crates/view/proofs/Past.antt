-- Words past the end of a list of bytes. Assumes nothing.
use mathlib.Core.Path.{◌≡◌}
use mathlib.Core.List.{List}
use Prim.Native.Nat.{ℕ, ◌+◌, ◌≤◌}
use native.Mathlib.Omega.{arith}
use lib.ListN.{length, get_or-eq_default}
use Rattle.meaning.specs.Words.{word}

-- a word that starts past the end reads as 0
pub word_past : (s : List ℕ) (at : ℕ) → length s ≤ at → word s at ≡ 0
unfolding word
word_past s at h =
    let k : length s ≤ at + 1 = omega arith in
    rw (get_or-eq_default s 0 h, get_or-eq_default s 0 k)
