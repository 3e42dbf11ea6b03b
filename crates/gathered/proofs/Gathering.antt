-- What the walk that gathers the numbers of a set keeps.
use Prim.Native.Nat.{ℕ, zero, suc, ◌+◌, ◌≤◌, ◌<◌}
use mathlib.Core.Path.{◌≡◌, refl, sym, ap, ap₂, ◌∙◌}
use mathlib.Core.List.{List, [], ◌∷◌, ◌++◌, map, append-nil, append_assoc}
use native.Mathlib.Numerals.{add-one}
use native.Mathlib.Omega.{arith}
use lib.ListN.{length, get_or, set, length-set}
use lib.Seq.{get_or-set_same, get_or-set_other}
use Rattle.partners.specs.Chains.{numbers_from, Kept}
use Rattle.set_numbers.specs.Sets.{codes_of}
use Rattle.set_numbers.proofs.Slots.{rest}
use Rattle.gathered.specs.Gathered.{number_in, numbers_at, Gathered}

-- one number more at the end
numbers_last : (t : List ℕ) (i n v : ℕ) → i + n < length t → numbers_from (set t (i + n) v) i (suc n) ≡ numbers_from t i n ++ (v ∷ [])
unfolding numbers_from
numbers_last t i zero v h =
    let e : i + 0 ≡ i = omega arith in
    rw e (ap (λ (x : ℕ). x ∷ []) (get_or-set_same t i v 0 (omega arith)))
numbers_last t i (suc n) v h =
    let e : i + suc n ≡ i + 1 + n = omega arith in
    ap₂ (λ (x : ℕ) (l : List ℕ). x ∷ l) (get_or-set_other t (i + suc n) i v 0 (λ q. omega arith)) (ap (λ (x : ℕ). numbers_from (set t x v) (i + 1) (suc n)) e ∙ numbers_last t (i + 1) n v (omega arith))

-- the numbers that stand, and those of the codes that are left, are all
pub record Gathering (num all : List ℕ) (from n : ℕ) (old left new : List ℕ) (m i : ℕ) : Type 0 where
  pub within : i ≤ n
  pub few : m ≤ i
  pub size : length new ≡ length old
  pub stand : numbers_from new from m ++ map (number_in num) left ≡ all
  pub kept : Kept from old new

module _ {num all : List ℕ} {from n : ℕ} {old : List ℕ} where
  pub gathering_none : {left : List ℕ} → map (number_in num) left ≡ all → Gathering num all from n old left old 0 0
  unfolding numbers_from
  gathering_none e = record { within = omega arith; few = omega arith; size = refl; stand = e; kept = record { same = λ j h. refl } }

  module _ {left new : List ℕ} {m i : ℕ} (k : Gathering num all from n old left new m i) (h : i < n) where
    pub gathering_null : {more : List ℕ} → left ≡ more → Gathering num all from n old more new m (i + 1)
    gathering_null e = record { within = omega arith; few = omega (arith, k.few); size = k.size; stand = rw e at k.stand; kept = k.kept }

    pub gathering_there : {more next : List ℕ} {c v : ℕ} → left ≡ c ∷ more → v ≡ get_or num c 0 → from + n ≤ length old → next ≡ set new (from + m) v → Gathering num all from n old more next (m + 1) (i + 1)
    gathering_there {more} {next} {c} {v} e f l g = record {
      within = omega arith;
      few = omega (arith, k.few);
      size = ap length g ∙ length-set new (from + m) v ∙ k.size;
      stand =
          rw (g, add-one, numbers_last new from m v (omega (arith, k.few, k.size)), f)
          (append_assoc (numbers_from new from m) (get_or num c 0 ∷ []) (map (number_in num) more) ∙ (rw e at k.stand));
      kept = record { same = λ j q. ap (λ (t : List ℕ). get_or t j 0) g ∙ get_or-set_other new (from + m) j v 0 (λ z. omega arith) ∙ k.kept.same j q };
    }

  pub gathering_end : {left new : List ℕ} {m i : ℕ} → Gathering num all from n old left new m i → n < 65536 → left ≡ [] → Gathered all from old new m
  gathering_end {left} {new} {m} {i} k h e = record {
    stand = sym (append-nil (numbers_from new from m)) ∙ (rw e at k.stand);
    few = omega (arith, k.few, k.within);
    kept = k.kept;
  }

-- a null set
pub gathered_null : (num s : List ℕ) (side at from : ℕ) {old : List ℕ} → at ≡ 0 → Gathered (numbers_at num s side at) from old old 0
unfolding numbers_at codes_of numbers_from
gathered_null num s side at from e = record { stand = rw e; few = omega arith; kept = record { same = λ j h. refl } }

-- all slots are left
pub gather_all : (num s : List ℕ) (side at n : ℕ) → rest s side at n 0 ≡ codes_of s side at → map (number_in num) (rest s side at n 0) ≡ numbers_at num s side at
unfolding numbers_at
gather_all num s side at n e = rw e
