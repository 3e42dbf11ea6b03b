-- Laws of marks.
use Prim.Native.Nat.{ℕ, suc, ◌+◌, ◌-◌, ◌*◌, ◌/◌, ◌%◌, ◌^◌, ◌≤◌, ◌<◌, max}
use native.Mathlib.Nat.{max-zero, max-eq_right, div-eq_of_lt}
use mathlib.Core.Path.{◌≡◌, refl, ap, ◌∙◌}
use mathlib.Core.List.{List}
use mathlib.Core.Bool.{true}
use mathlib.Core.Logic.{⊎_elim}
use native.Mathlib.Decide.{dec_lt}
use native.Mathlib.Omega.{arith}
use lib.Arith.{digits_mod}
use lib.Bits.{bit_or, or_step, or_shr, or_lt, shifted_even}
use lib.Pow.{pow-lt, pow-add, shl-shr, shl_exact}
use lib.Dec.{eqb}
use lib.ListN.{length, get_or, set, length-set}
use lib.Seq.{set_out, get_or-set_same, get_or-set_other}
use borrow.Author.Tests.{eq-eqb}
use Rattle.cells.specs.Filled.{Filled}
use Rattle.bits.specs.Bits.{marked, Put, Cleared}
use Rattle.bits.specs.Reading.{blank_unmarked, same_cell}

-- the lowest bit of two numbers together
lowest_own : (a : ℕ) → bit_or a 1 % 2 ≡ 1
lowest_own a =
    let e : bit_or a 1 ≡ bit_or (a / 2) 0 * 2 + max (a % 2) 1 = or_step a 1 in
    let m : max (a % 2) 1 ≡ 1 = max-eq_right (omega arith) in
    ap (λ (k : ℕ). k % 2) (e ∙ ap (λ (k : ℕ). bit_or (a / 2) 0 * 2 + k) m) ∙ digits_mod (bit_or (a / 2) 0) (omega arith)

lowest_other : (a b : ℕ) → b % 2 ≡ 0 → bit_or a b % 2 ≡ a % 2
lowest_other a b h =
    let m : max (a % 2) (b % 2) ≡ a % 2 = ap (max (a % 2)) h ∙ max-zero (a % 2) in
    ap (λ (k : ℕ). k % 2) (or_step a b ∙ ap (λ (k : ℕ). bit_or (a / 2) (b / 2) * 2 + k) m) ∙ digits_mod (bit_or (a / 2) (b / 2)) (omega arith)

-- another bit of a number that has one bit alone
alone_other : (j k : ℕ) → (j ≡ k → ⊥) → 2 ^ k / 2 ^ j % 2 ≡ 0
alone_other j k h = go (dec_lt j k)
  where
    go : Dec (j < k) → 2 ^ k / 2 ^ j % 2 ≡ 0
    go (yes l) =
        let d : k ≡ suc (k - j - 1) + j = omega arith in
        let e : 2 ^ k / 2 ^ j ≡ 2 ^ suc (k - j - 1) = ap (λ (n : ℕ). 2 ^ n / 2 ^ j) d ∙ ap (λ (n : ℕ). n / 2 ^ j) (pow-add 2 (suc (k - j - 1)) j) ∙ shl-shr (2 ^ suc (k - j - 1)) j in
        let f : 1 * 2 ^ suc (k - j - 1) % 2 ≡ 0 = shifted_even 1 (k - j - 1) in
        ap (λ (n : ℕ). n % 2) e ∙ omega (arith, f)
    go (no l) =
        let p : 2 ^ k < 2 ^ j = pow-lt (omega arith) in
        ap (λ (n : ℕ). n % 2) (div-eq_of_lt p)

pub bit_own : (v k : ℕ) → bit_or v (2 ^ k) / 2 ^ k % 2 ≡ 1
bit_own v k =
    let e : 2 ^ k / 2 ^ k ≡ 1 = ap (λ (n : ℕ). n / 2 ^ k) (omega arith) ∙ shl-shr 1 k in
    ap (λ (n : ℕ). n % 2) (or_shr v (2 ^ k) k ∙ ap (bit_or (v / 2 ^ k)) e) ∙ lowest_own (v / 2 ^ k)

pub bit_other : (v j k : ℕ) → (j ≡ k → ⊥) → bit_or v (2 ^ k) / 2 ^ j % 2 ≡ v / 2 ^ j % 2
bit_other v j k h = ap (λ (n : ℕ). n % 2) (or_shr v (2 ^ k) j) ∙ lowest_other (v / 2 ^ j) (2 ^ k / 2 ^ j) (alone_other j k h)

-- one bit alone, as it is shifted
pub shifted : (x : ℕ) → 1 * 2 ^ (x % 32) % 0x1_0000_0000_0000_0000 ≡ 2 ^ (x % 32)
shifted x =
    let e : 1 * 2 ^ (x % 32) % 2 ^ 64 ≡ 1 * 2 ^ (x % 32) = shl_exact 1 (x % 32) 64 (omega arith) (omega arith) in
    e ∙ omega arith

-- a cell with one bit more is a cell
pub bit_fits : (v x : ℕ) → v < 0x1_0000_0000 → bit_or v (1 * 2 ^ (x % 32) % 0x1_0000_0000_0000_0000) < 0x1_0000_0000
bit_fits v x h = rw (shifted x) (or_lt 32 v (2 ^ (x % 32)) h (pow-lt {j = 32} (omega arith)))

-- a bit more in the cell of x: the mark of x is put, and no other
module _ (at x : ℕ) (t : List ℕ) where
  abbrev next : List ℕ
  next = set t (at + x / 32) (bit_or (get_or t (at + x / 32) 0) (2 ^ (x % 32)))

  put_own : at + x / 32 < length t → marked next at x ≡ true
  unfolding marked
  put_own l =
      let v = bit_or (get_or t (at + x / 32) 0) (2 ^ (x % 32)) in
      let e = ap (λ (n : ℕ). n / 2 ^ (x % 32) % 2) (get_or-set_same t (at + x / 32) v 0 l) ∙ bit_own (get_or t (at + x / 32) 0) (x % 32) in
      eq-eqb _ _ e

  put_beside : (y : ℕ) → (y ≡ x → ⊥) → y / 32 ≡ x / 32 → at + x / 32 < length t → marked next at y ≡ marked t at y
  unfolding marked
  put_beside y n d l =
      let v = bit_or (get_or t (at + x / 32) 0) (2 ^ (x % 32)) in
      let e = ap (λ (k : ℕ). k / 2 ^ (y % 32) % 2) (get_or-set_same t (at + x / 32) v 0 l) ∙ bit_other (get_or t (at + x / 32) 0) (y % 32) (x % 32) (λ z. n (omega arith)) in
      rw d (ap (λ (k : ℕ). eqb k 1) e)

  put_others : (y : ℕ) → (y ≡ x → ⊥) → marked next at y ≡ marked t at y
  put_others y n = go (dec_lt (y / 32) (x / 32)) (dec_lt (x / 32) (y / 32)) (dec_lt (at + x / 32) (length t))
    where
      v : ℕ
      v = bit_or (get_or t (at + x / 32) 0) (2 ^ (x % 32))

      away : (y / 32 ≡ x / 32 → ⊥) → marked next at y ≡ marked t at y
      away m = same_cell t next at y (get_or-set_other t (at + x / 32) (at + y / 32) v 0 (λ z. m (omega arith)))

      go : Dec (y / 32 < x / 32) → Dec (x / 32 < y / 32) → Dec (at + x / 32 < length t) → marked next at y ≡ marked t at y
      go (yes l) q b = away (λ z. omega arith)
      go (no m) (yes l) b = away (λ z. omega arith)
      go (no m) (no k) (yes l) = put_beside y n (omega arith) l
      go (no m) (no k) (no l) = same_cell t next at y (ap (λ (s : List ℕ). get_or s (at + y / 32) 0) (set_out t (at + x / 32) v (omega arith)))

  pub put_mark : {u : List ℕ} {v : ℕ} → v ≡ get_or t (at + x / 32) 0 → u ≡ set t (at + x / 32) (bit_or v (1 * 2 ^ (x % 32) % 0x1_0000_0000_0000_0000)) → Put at x t u
  put_mark d h = rw (h, shifted x, d) (record {
    size = length-set t (at + x / 32) _;
    cells = λ i n. get_or-set_other t (at + x / 32) i _ 0 n;
    own = put_own;
    others = put_others;
  })

-- where there is no cell, nothing is put
pub put_none : (at x : ℕ) (t : List ℕ) → length t ≤ at + x / 32 → Put at x t t
put_none at x t h = record { size = refl; cells = λ i n. refl; own = λ l. absurd (omega arith); others = λ y n. refl }

-- cells that are filled with 0 have no mark
pub cleared : {at n : ℕ} {old t : List ℕ} → Filled at (at + n) old t → Cleared at n old t
cleared {at} {n} {old} {t} f = record {
  size = f.size;
  cells = λ i. ⊎_elim (f.before i) (f.behind i);
  none = λ x l. blank_unmarked t at x (f.blank (at + x / 32) (omega arith) (omega arith));
}
