-- Records that name a listed lookup take no step where the listed ones take none; and the loop over the list.
use Prim.Native.Nat.{ℕ, zero, suc, ◌+◌, ◌-◌, ◌*◌, ◌/◌, ◌≤◌, ◌<◌}
use mathlib.Core.Path.{◌≡◌, refl, sym, ap, ap₂, ◌∙◌}
use mathlib.Core.Bool.{Bool, true, false, cond, ◌&&◌}
use Rattle.std.specs.Prelude.{Option}
use mathlib.Core.List.{List, [], ◌∷◌, map}
use native.Mathlib.Omega.{arith}
use native.Mathlib.Decide.{dec_lt}
use lib.ListN.{length, get_or, drop, take, replicate, length-replicate, get_or-replicate, get_or-eq_default}
use lib.Dec.{ltb, eqb}
use borrow.Author.Tests.{lt-ltb, le-ltb, eq-eqb, ne_eqb}
use Rattle.meaning.specs.Words.{word, every}
use Rattle.meaning.specs.Tables.{Rule, Table, drop_null, table}
use Rattle.replaying.specs.Listed.{entry_at, entries_from, listed, source_of, lookup_of, lookups_of, names_below, rule_names, sets_name, records_name, all_named}
use Rattle.replaying.specs.Cost.{step_limit, cut_off, larger, largest, steps_of, record_steps, rule_steps, sets_steps, table_steps}
use Rattle.member_steps.proofs.Sums.{cut_under, cut_over, record_small}
use Rattle.member_steps.proofs.Most.{larger_above, larger_first}
use Rattle.lookup_list.specs.Ready.{source_at}

-- as many lookups that take no steps
abbrev pub zeros : ℕ → List ℕ
zeros n = replicate n 0

-- a listed lookup takes none, another one
zeros_steps : (many n : ℕ) → steps_of (zeros many) n ≡ cond (ltb n many) 0 1
unfolding steps_of
zeros_steps many n = step (dec_lt n many)
  where
    step : Dec (n < many) → get_or (zeros many) n 1 ≡ cond (ltb n many) 0 1
    step (yes l) = rw (lt-ltb n many l) (get_or-replicate many n 0 1 l)
    step (no l) =
        let e : many ≤ n = omega arith in
        rw (le-ltb n many e) (get_or-eq_default (zeros many) 1 (omega (arith, length-replicate {A = ℕ} many 0)))

-- one and more is not cut off to none
cut_some : (n : ℕ) → cut_off (1 + n) ≡ 0 → ⊥
unfolding step_limit
cut_some n h = step (dec_lt (1 + n) step_limit)
  where
    step : Dec (1 + n < step_limit) → ⊥
    step (yes l) = omega (arith, cut_under (1 + n) (omega arith))
    step (no l) = omega (arith, cut_over (1 + n) (omega arith))

records_named : (many : ℕ) (rs : List (ℕ × ℕ)) → names_below many rs ≡ eqb (record_steps (zeros many) rs) 0
unfolding names_below every record_steps
records_named many [] = refl
records_named many (r ∷ rs) = rw (zeros_steps many r.1) (step (ltb r.1 many) (records_named many rs))
  where
    rest : ℕ
    rest = record_steps (zeros many) rs

    step : (b : Bool) → every (λ e. ltb e.1 many) rs ≡ eqb rest 0 → b && every (λ e. ltb e.1 many) rs ≡ eqb (cut_off (cond b 0 1 + rest)) 0
    step true h =
        let z : 0 + rest ≡ rest = omega arith in
        h ∙ ap (λ (n : ℕ). eqb n 0) (sym (ap cut_off z ∙ cut_under rest (record_small (zeros many) rs)))
    step false h = sym (ne_eqb (cut_off (1 + rest)) 0 (cut_some rest))

-- the larger of two is none where both are
larger_none : (a b : ℕ) → eqb a 0 && eqb b 0 ≡ eqb (larger a b) 0
larger_none zero zero = sym (eq-eqb (larger 0 0) 0 (sym (larger_first 0 0 (omega arith))))
larger_none zero (suc b) =
    let x = larger_above 0 (suc b) in
    let y : larger 0 (suc b) ≡ 0 → ⊥ = λ q. omega (arith, x.1) in
    ne_eqb (suc b) 0 (λ q. omega arith) ∙ sym (ne_eqb (larger 0 (suc b)) 0 y)
larger_none (suc a) b =
    let x = larger_above (suc a) b in
    let y : larger (suc a) b ≡ 0 → ⊥ = λ q. omega (arith, x.0) in
    let z : eqb (suc a) 0 ≡ false = ne_eqb (suc a) 0 (λ q. omega arith) in
    ap (λ (c : Bool). c && eqb b 0) z ∙ sym (ne_eqb (larger (suc a) b) 0 y)

largest_none : {A : Type 0} (test : A → Bool) (f : A → ℕ) → ((a : A) → test a ≡ eqb (f a) 0) → (l : List A) → every test l ≡ eqb (largest f l) 0
unfolding every largest
largest_none test f k [] = refl
largest_none test f k (a ∷ l) = ap₂ ◌&&◌ (k a) (largest_none test f k l) ∙ larger_none (f a) (largest f l)

-- so in sets
sets_named : (many : ℕ) (sets : List (Option (List Rule))) → sets_name many sets ≡ eqb (sets_steps (zeros many) sets) 0
unfolding sets_name sets_steps rule_names rule_steps
sets_named many sets =
    largest_none (every (rule_names many)) (largest (rule_steps (zeros many))) (largest_none (rule_names many) (rule_steps (zeros many)) (λ r. records_named many r.records)) (drop_null sets)

-- so in a table
pub table_named : (many : ℕ) (t : Table) → records_name many t ≡ eqb (table_steps (zeros many) t) 0
unfolding records_name table_steps
table_named many (Table.by_glyph chained cover sets) = sets_named many sets
table_named many (Table.by_class chained cover b i a sets) = sets_named many sets
table_named many (Table.by_cover chained b i a records) = records_named many records
table_named many (Table.ligatures cover sets) = refl
table_named many (Table.pairs_of cover f1 f2 sets) = refl
table_named many (Table.class_pairs cover first second f1 f2 m rows) = refl
table_named many (Table.single_delta cover d) = refl
table_named many (Table.single_list cover subs) = refl

-- a 0 for each listed lookup
pub zeros_part : (many : ℕ) → many ≤ 16 → take (many - 0) (drop 0 (zeros 16)) ≡ zeros many
zeros_part many h =
    let e : many - 0 ≡ many = omega arith in
    rw e (first many 16 h)
  where
    first : (m n : ℕ) → m ≤ n → take m (zeros n) ≡ zeros m
    first zero n l = refl
    first (suc m) zero l = absurd (omega arith)
    first (suc m) (suc n) l = ap (λ (x : List ℕ). 0 ∷ x) (first m n (omega arith))

-- as many lookups as entries
pub many_listed : (list buffer : List ℕ) (at n : ℕ) → length (map (lookup_of buffer) (entries_from list at n)) ≡ n
unfolding entries_from
many_listed list buffer at zero = refl
many_listed list buffer at (suc n) = ap suc (many_listed list buffer (at + 10) n)

-- What the loop over the lookups keeps: whether those that are left name listed lookups is whether all do.
pub record Naming (list buffer : List ℕ) (many k : ℕ) : Type 0 where
  pub within : k ≤ many
  pub left : every (records_name many) (map (lookup_of buffer) (entries_from list (10 * k) (many - k))) ≡ all_named (lookups_of list buffer)

module _ {list buffer : List ℕ} where
  pub naming_all : Naming list buffer (length list / 10) 0
  unfolding all_named lookups_of listed
  naming_all =
      let d : length list / 10 - 0 ≡ length list / 10 = omega arith in
      record { within = omega arith; left = rw (many_listed list buffer 0 (length list / 10), d) }

  module _ {many k : ℕ} (c : Naming list buffer many k) (h : k < many) {None : List ℕ} (z : None ≡ zeros many) {n : ℕ} (e : n ≡ table_steps None (table (word list (10 * k)) (source_at list buffer k))) where
    next : eqb n 0 && every (records_name many) (map (lookup_of buffer) (entries_from list (10 * (k + 1)) (many - (k + 1)))) ≡ all_named (lookups_of list buffer)
    unfolding every entries_from entry_at lookup_of source_of source_at
    next =
        let a : many - k ≡ suc (many - (k + 1)) = omega arith in
        let d : 10 * (k + 1) ≡ 10 * k + 10 = omega arith in
        rw (e, z, ← table_named many (table (word list (10 * k)) (source_at list buffer k)), d) (rw a at c.left)

    pub naming_none : (n ≡ 0 → ⊥) → false ≡ all_named (lookups_of list buffer)
    naming_none q = rw (ne_eqb n 0 q) at next

    pub naming_turn : n ≡ 0 → Naming list buffer many (k + 1)
    naming_turn q = record { within = omega arith; left = rw (eq-eqb n 0 q) at next }

  pub naming_end : {many k : ℕ} → Naming list buffer many k → many ≤ k → true ≡ all_named (lookups_of list buffer)
  unfolding every entries_from
  naming_end {many} {k} c h =
      let a : many - k ≡ 0 = omega arith in
      rw a at c.left
