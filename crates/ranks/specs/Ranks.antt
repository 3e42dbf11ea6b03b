-- Ranks of marked numbers, by counts of the marks before each cell of marks.
use Rattle.std.specs.Prelude.{ℕ, zero, suc, ◌+◌, ◌*◌, ◌/◌, ◌%◌, ◌^◌, ◌≤◌, ◌<◌, ◌≡◌, refl, List, Bool, true, false, cond, ◌⊎◌, length, get_or, eqb}
use Rattle.std.proofs.Common.{sym, ap, ◌∙◌, add-zero, mod-lt, arith, pow_pos}
use Rattle.std.proofs.Math.Nat.{mod-one}
use Rattle.std.specs.Int.Count.{ones}
use Rattle.std.proofs.lemmas.Nat.{ones_cat, mod-pow-add}
use Rattle.bits.specs.Bits.{marked}

-- how many cells the marks take, and as many the counts behind them
abbrev pub mark_cells : ℕ
mark_cells = 2048

-- how many marked numbers are below x
unfoldable pub marks_below : List ℕ → ℕ → ℕ → ℕ
marks_below t at zero = 0
marks_below t at (suc x) = cond (marked t at x) 1 0 + marks_below t at x

-- what the cells say of that: the count of x's cell, and how many bits below its own are set there
unfoldable pub rank_in : List ℕ → ℕ → ℕ → ℕ
rank_in t at x = get_or t (at + x / 32 + mark_cells) 0 + ones (get_or t (at + x / 32) 0 % 2 ^ (x % 32))

-- the counts are right: each says how many marked numbers are below those of its cell
pub record Counts (t : List ℕ) (at : ℕ) : Type 0 where
  pub each : (i : ℕ) → i < mark_cells → get_or t (at + i + mark_cells) 0 ≡ marks_below t at (32 * i)

-- What `count_marks` answers: the counts are right, r is how many numbers are marked, and the other cells are as before.
pub record Counted (t₀ t : List ℕ) (at r : ℕ) : Type 0 where
  pub size : length t ≡ length t₀
  pub cells : (i : ℕ) → (i < at + mark_cells) ⊎ (at + 2 * mark_cells ≤ i) → get_or t i 0 ≡ get_or t₀ i 0
  pub counts : Counts t at
  pub all : r ≡ marks_below t at 65536

-- there are no more marked numbers below x than numbers
one_most : (b : Bool) → cond b 1 0 ≤ 1
one_most true = omega arith
one_most false = omega arith

pub marks_few : (t : List ℕ) (at x : ℕ) → marks_below t at x ≤ x
unfolding marks_below
marks_few t at zero = omega arith
marks_few t at (suc x) = omega (arith, one_most (marked t at x), marks_few t at x)

-- where the marks are the same, so are the ranks
pub marks_same : (t u : List ℕ) (at x : ℕ) → ((y : ℕ) → y < x → marked u at y ≡ marked t at y) → marks_below u at x ≡ marks_below t at x
unfolding marks_below
marks_same t u at zero h = refl
marks_same t u at (suc x) h = rw (h x (omega arith), marks_same t u at x (λ y l. h y (omega arith)))

-- the marks below the k-th number of a cell: those before the cell, and the lowest k of the cell
bit_ones : (b : ℕ) → b < 2 → cond (eqb b 1) 1 0 ≡ ones b
unfolding ones
bit_ones zero h = refl
bit_ones (suc zero) h = refl
bit_ones (suc (suc b)) h = absurd (omega arith)

pub marks_in_cell : (t : List ℕ) (at i k : ℕ) → k ≤ 32 → marks_below t at (32 * i + k) ≡ marks_below t at (32 * i) + ones (get_or t (at + i) 0 % 2 ^ k)
unfolding marks_below marked ones
marks_in_cell t at i zero h = rw (add-zero (32 * i), mod-one (get_or t (at + i) 0)) (sym (add-zero (marks_below t at (32 * i))))
marks_in_cell t at i (suc k) h =
    let c = get_or t (at + i) 0 in
    let d : (32 * i + k) / 32 ≡ i = omega arith in
    let m : (32 * i + k) % 32 ≡ k = omega arith in
    let e : 32 * i + suc k ≡ suc (32 * i + k) = omega arith in
    let b : cond (eqb (c / 2 ^ k % 2) 1) 1 0 ≡ ones (c / 2 ^ k % 2) = bit_ones (c / 2 ^ k % 2) (mod-lt (c / 2 ^ k) (omega arith)) in
    let n : 1 + k ≡ suc k = omega arith in
    let s : c % 2 ^ suc k ≡ c / 2 ^ k % 2 * 2 ^ k + c % 2 ^ k = rw n at (mod-pow-add c 1 k) in
    let o : ones (c / 2 ^ k % 2 * 2 ^ k + c % 2 ^ k) ≡ ones (c / 2 ^ k % 2) + ones (c % 2 ^ k) = ones_cat k (c / 2 ^ k % 2) (c % 2 ^ k) (mod-lt c (pow_pos k)) in
    rw (e, s, o, d, m) (omega (arith, b, marks_in_cell t at i k (omega arith)))

-- so where the counts are right the cells say the rank
pub rank_is : {t : List ℕ} {at : ℕ} → Counts t at → (x : ℕ) → x < 65536 → rank_in t at x ≡ marks_below t at x
unfolding rank_in
rank_is {t} {at} c x h =
    let e : 32 * (x / 32) + x % 32 ≡ x = omega arith in
    ap (λ (n : ℕ). n + ones (get_or t (at + x / 32) 0 % 2 ^ (x % 32))) (c.each (x / 32) (omega arith))
    ∙ sym (marks_in_cell t at (x / 32) (x % 32) (omega arith)) ∙ ap (marks_below t at) e
