-- Words that stand a step apart and ascend, and the first of them that is not below a value.
use Rattle.std.specs.Prelude.{ℕ, ◌+◌, ◌*◌, ◌≤◌, ◌<◌, List, length}
use Rattle.meaning.specs.Words.{word}

-- n words from `at` on, `step` bytes apart, lie inside the source and ascend
pub record Rising (s : List ℕ) (at step n : ℕ) : Type 0 where
  pub few : n ≤ length s
  pub inside : (k : ℕ) → k < n → at + step * k + 1 < length s
  pub rise : (p q : ℕ) → p < q → q < n → word s (at + step * p) < word s (at + step * q)

-- r is the first of them, from the `from`-th on, that is v or more; it is n if none is
pub record Reached (s : List ℕ) (at step n from v r : ℕ) : Type 0 where
  pub least : from ≤ r
  pub most : r ≤ n
  pub below : (k : ℕ) → from ≤ k → k < r → word s (at + step * k) < v
  pub above : r < n → v ≤ word s (at + step * r)
