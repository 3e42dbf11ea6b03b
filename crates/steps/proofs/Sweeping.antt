-- The ways through a lookup at every place, and through the lookups of a list.
use Prim.Native.Nat.{ℕ, zero, suc, ◌+◌, ◌-◌, ◌/◌, ◌≤◌, ◌<◌}
use mathlib.Core.Path.{◌≡◌, refl, sym, ap, ◌∙◌}
use Rattle.std.specs.Prelude.{Option, None, Some, Result, Ok, Err, IsErr}
use mathlib.Core.List.{List, map}
use native.Mathlib.Omega.{arith}
use lib.ListN.{length}
use Rattle.meaning.specs.Words.{words, bind, up_from}
use Rattle.meaning.specs.Tables.{Table}
use Rattle.laws.specs.Left.{words_length}
use Rattle.replaying.specs.Listed.{entries_from, listed, lookup_of, lookups_of}
use Rattle.replaying.specs.Applying.{Step, apply, depth_limit, sweep_all, in_order, run}
use Rattle.replay_laws.specs.Turns.{sweep_left, onward, sweep_turn, sweep_end, order_turn, order_end}
use Rattle.steps.specs.Stepping.{Stepped, Ruled}
use Rattle.steps.specs.declared.TooDeep.{TooDeep}

-- how far the next place is
pub onward_some : (took : ℕ) → (took ≡ 0 → ⊥) → took ≤ 65536 → (took ≡ onward took) × (0 < took) × (took ≤ 65536)
onward_some zero h l = absurd (h refl)
onward_some (suc k) h l = (refl, omega arith, l)

-- What the loop over the places keeps: the places that are left give, on the string as it stands, what all give on the string as it was.
pub record Sweeping (ts : List Table) (lookup n : ℕ) (string₀ string : List ℕ) (place : ℕ) : Type 0 where
  pub near : place ≤ n + 65536
  pub long : length string ≡ length string₀
  pub left : sweep_left (apply 8 ts lookup) n (words string 0 n) place ≡ sweep_all ts lookup (words string₀ 0 n)

module _ {ts : List Table} {lookup n : ℕ} {string₀ : List ℕ} where
  pub sweeping_all : Sweeping ts lookup n string₀ string₀ 0
  unfolding sweep_all depth_limit
  sweeping_all =
      let e : n - 0 ≡ n = omega arith in
      record { near = omega arith; long = refl; left = rw (e, words_length string₀ 0 n) }

  module _ {string : List ℕ} {place : ℕ} (c : Sweeping ts lookup n string₀ string place) (h : place < n) where
    on : bind (apply 8 ts lookup (words string 0 n) place) (λ step. sweep_left (apply 8 ts lookup) n step.string (place + onward step.took)) ≡ sweep_all ts lookup (words string₀ 0 n)
    on = sym (sweep_turn (apply 8 ts lookup) n (words string 0 n) place h) ∙ c.left

    pub sweeping_turn : {t : List ℕ} (k : ℕ) {r : ℕ} → Stepped (apply 8 ts lookup (words string 0 n) place) n (Ok k) t → length t ≡ length string → (r ≡ onward k) × (0 < r) × (r ≤ 65536)
        → Sweeping ts lookup n string₀ t (place + r)
    unfolding bind
    sweeping_turn {t} k {r} g m w = go (apply 8 ts lookup (words string 0 n) place) g on
      where
        go : (o : Option Step) → Stepped o n (Ok k) t → bind o (λ step. sweep_left (apply 8 ts lookup) n step.string (place + onward step.took)) ≡ sweep_all ts lookup (words string₀ 0 n)
            → Sweeping ts lookup n string₀ t (place + r)
        go None p z = absurd (cc)
        go (Some u) p z =
            let x : k ≡ u.took = cc in
            record { near = omega arith; long = m ∙ c.long; left = rw (w.0, x, p.1) z }

    pub sweeping_deep : {x : TooDeep} (t : List ℕ) (r : Result (Unit {0}) TooDeep) → Stepped (apply 8 ts lookup (words string 0 n) place) n (Err x) t → IsErr r → Ruled (sweep_all ts lookup (words string₀ 0 n)) n r t
    unfolding bind
    sweeping_deep {x} t r g y = go (apply 8 ts lookup (words string 0 n) place) g on
      where
        go : (o : Option Step) → Stepped o n (Err x) t → bind o (λ step. sweep_left (apply 8 ts lookup) n step.string (place + onward step.took)) ≡ sweep_all ts lookup (words string₀ 0 n)
            → Ruled (sweep_all ts lookup (words string₀ 0 n)) n r t
        go None p z = rw (← z) y
        go (Some u) p z = absurd (cc)

  pub sweeping_end : {string : List ℕ} {place : ℕ} → Sweeping ts lookup n string₀ string place → n ≤ place → {u : Unit {0}} → Ruled (sweep_all ts lookup (words string₀ 0 n)) n (Ok u) string
  sweeping_end {string} {place} c h = rw (← c.left, sweep_end (apply 8 ts lookup) n (words string 0 n) place h) (refl, refl)

-- as many lookups as entries
entries_length : (buffer list : List ℕ) (at n : ℕ) → length (map (lookup_of buffer) (entries_from list at n)) ≡ n
unfolding entries_from
entries_length buffer list at zero = refl
entries_length buffer list at (suc n) = ap suc (entries_length buffer list (at + 10) n)

-- The same for the lookups that are left.
pub record Ordering (ts : List Table) (many n : ℕ) (string₀ string : List ℕ) (k : ℕ) : Type 0 where
  pub within : k ≤ many
  pub long : length string ≡ length string₀
  pub left : in_order ts (up_from k (many - k)) (words string 0 n) ≡ run ts (words string₀ 0 n)

pub ordering_all : (list buffer : List ℕ) {n : ℕ} {string₀ : List ℕ} → Ordering (lookups_of list buffer) (length list / 10) n string₀ string₀ 0
unfolding run lookups_of listed
ordering_all list buffer =
    let e : length list / 10 - 0 ≡ length list / 10 = omega arith in
    record { within = omega arith; long = refl; left = rw (e, entries_length buffer list 0 (length list / 10)) }

module _ {ts : List Table} {many n : ℕ} {string₀ : List ℕ} where
  module _ {string : List ℕ} {k : ℕ} (c : Ordering ts many n string₀ string k) (h : k < many) where
    over : bind (sweep_all ts k (words string 0 n)) (in_order ts (up_from (k + 1) (many - (k + 1)))) ≡ run ts (words string₀ 0 n)
    over = sym (order_turn ts many k (words string 0 n) h) ∙ c.left

    pub ordering_turn : {u : Unit {0}} (t : List ℕ) → Ruled (sweep_all ts k (words string 0 n)) n (Ok u) t → length t ≡ length string → Ordering ts many n string₀ t (k + 1)
    unfolding bind
    ordering_turn {u} t g m = go (sweep_all ts k (words string 0 n)) g over
      where
        go : (o : Option (List ℕ)) → Ruled o n (Ok u) t → bind o (in_order ts (up_from (k + 1) (many - (k + 1)))) ≡ run ts (words string₀ 0 n) → Ordering ts many n string₀ t (k + 1)
        go None p z = absurd (cc)
        go (Some s) p z = record { within = omega arith; long = m ∙ c.long; left = rw p.1 z }

    pub ordering_deep : {x : TooDeep} (t : List ℕ) (r : Result (Unit {0}) TooDeep) → Ruled (sweep_all ts k (words string 0 n)) n (Err x) t → IsErr r → Ruled (run ts (words string₀ 0 n)) n r t
    unfolding bind
    ordering_deep {x} t r g y = go (sweep_all ts k (words string 0 n)) g over
      where
        go : (o : Option (List ℕ)) → Ruled o n (Err x) t → bind o (in_order ts (up_from (k + 1) (many - (k + 1)))) ≡ run ts (words string₀ 0 n) → Ruled (run ts (words string₀ 0 n)) n r t
        go None p z = rw (← z) y
        go (Some s) p z = absurd (cc)

  pub ordering_end : {string : List ℕ} {k : ℕ} → Ordering ts many n string₀ string k → many ≤ k → {u : Unit {0}} → Ruled (run ts (words string₀ 0 n)) n (Ok u) string
  ordering_end {string} {k} c h = rw (← c.left, order_end ts many k (words string 0 n) h) (refl, refl)
