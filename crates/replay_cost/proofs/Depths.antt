-- The ways through the levels of a list, and what the call gives.
use Prim.Native.Nat.{ℕ, zero, suc, ◌+◌, ◌-◌, ◌*◌, ◌/◌, ◌≤◌, ◌<◌}
use mathlib.Core.Path.{◌≡◌, refl, sym, ap, ◌∙◌}
use mathlib.Core.Bool.{Bool, true, false, cond}
use Rattle.std.specs.Prelude.{Option, None, Some}
use mathlib.Core.List.{List, [], ◌∷◌, ◌++◌, map, append-nil}
use native.Mathlib.Omega.{arith}
use lib.ListN.{length, get_or, set, drop, take, length-replicate}
use lib.Seq.{sets}
use borrow.Author.Tests.{ne_eqb}
use Rattle.meaning.specs.Words.{word, is_some}
use Rattle.meaning.specs.Tables.{Table, table}
use Rattle.laws.specs.Written.{sets_front}
use Rattle.replaying.specs.Listed.{or_else, entry_at, entries_from, listed, source_of, lookup_of, lookups_of, good_list, first_refusal, all_named}
use Rattle.replaying.specs.Trace.{runs_of}
use Rattle.replaying.specs.Applying.{depth_limit}
use Rattle.replaying.specs.Replay.{Replayed, refusal, replay}
use Rattle.replay_laws.specs.Answers.{done_exactly}
use Rattle.replaying.specs.Cost.{step_limit, cut_off, lookup_steps, table_steps, level_steps, sum_steps, list_steps, replay_cost}
use Rattle.member_steps.proofs.Sums.{cut_under, cut_left, cut_right, cut_small}
use Rattle.names.proofs.Naming.{zeros, many_listed, zeros_part}
use Rattle.lookup_list.specs.Ready.{source_at}

-- What the loop over the lookups keeps: what is left to be written, over what stands there, is all over what stood there.
pub record Filling (list buffer steps first : List ℕ) (next : List ℕ) (many k : ℕ) : Type 0 where
  pub within : k ≤ many
  pub long : length next ≡ length first
  pub left : sets next k (map (lookup_steps steps) (map (lookup_of buffer) (entries_from list (10 * k) (many - k)))) ≡ sets first 0 (map (lookup_steps steps) (lookups_of list buffer))

module _ {list buffer steps first : List ℕ} where
  pub filling_all : Filling list buffer steps first first (length list / 10) 0
  unfolding lookups_of listed
  filling_all =
      let d : length list / 10 - 0 ≡ length list / 10 = omega arith in
      record { within = omega arith; long = refl; left = rw d }

  pub filling_next : {next now : List ℕ} {many k rule one : ℕ} → Filling list buffer steps first next many k → k < many
      → rule ≡ table_steps steps (table (word list (10 * k)) (source_at list buffer k)) → one ≡ cut_off (1 + rule) → now ≡ set next k one → length now ≡ length next
      → Filling list buffer steps first now many (k + 1)
  unfolding entries_from entry_at lookup_of source_of source_at lookup_steps
  filling_next {next} {now} {many} {k} {rule} {one} c h e f g l =
      let a : many - k ≡ suc (many - suc k) = omega arith in
      let d : 10 * (k + 1) ≡ 10 * k + 10 = omega arith in
      let s : k + 1 ≡ suc k = omega arith in
      record { within = omega arith; long = l ∙ c.long; left = rw (d, s, g, f, e) (rw a at c.left) }

  pub filling_end : {next : List ℕ} {many k : ℕ} → Filling list buffer steps first next many k → many ≤ k → next ≡ sets first 0 (map (lookup_steps steps) (lookups_of list buffer))
  unfolding entries_from
  filling_end {next} {many} {k} c h =
      let a : many - k ≡ 0 = omega arith in
      rw a at c.left

-- What the loop over numbers of steps keeps.
pub record Summing (steps : List ℕ) (sum i : ℕ) : Type 0 where
  pub within : i ≤ length steps
  pub small : sum ≤ step_limit
  pub left : cut_off (sum + sum_steps (drop i steps)) ≡ sum_steps steps

sums_small : (l : List ℕ) → sum_steps l ≤ step_limit
unfolding sum_steps
sums_small [] = omega arith
sums_small (n ∷ l) = cut_small (n + sum_steps l)

drop_at : (l : List ℕ) (i : ℕ) → i < length l → drop i l ≡ get_or l i 0 ∷ drop (i + 1) l
drop_at [] i h = absurd (omega arith)
drop_at (x ∷ l) zero h = refl
drop_at (x ∷ l) (suc i) h =
    let e : suc i + 1 ≡ suc (i + 1) = omega arith in
    rw e (drop_at l i (omega arith))

drop_past : (l : List ℕ) (i : ℕ) → length l ≤ i → drop i l ≡ []
drop_past [] zero h = refl
drop_past [] (suc i) h = refl
drop_past (x ∷ l) zero h = absurd (omega arith)
drop_past (x ∷ l) (suc i) h = drop_past l i (omega arith)

module _ {steps : List ℕ} where
  pub summing_all : Summing steps 0 0
  summing_all =
      let e : 0 + sum_steps steps ≡ sum_steps steps = omega arith in
      record { within = omega arith; small = omega arith; left = ap cut_off e ∙ cut_under (sum_steps steps) (sums_small steps) }

  pub summing_next : {sum i next : ℕ} → Summing steps sum i → i < length steps → (next ≡ cut_off (sum + get_or steps i 0)) × (next ≤ step_limit) → Summing steps next (i + 1)
  unfolding sum_steps
  summing_next {sum} {i} {next} k h g =
      let x = get_or steps i 0 in
      let rest = sum_steps (drop (i + 1) steps) in
      let l : cut_off (sum + cut_off (x + rest)) ≡ sum_steps steps = rw (drop_at steps i h) at k.left in
      let m : sum + (x + rest) ≡ sum + x + rest = omega arith in
      record { within = omega arith; small = g.1; left = ap (λ (y : ℕ). cut_off (y + rest)) g.0 ∙ cut_left (sum + x) rest ∙ sym (cut_right sum (x + rest) ∙ ap cut_off m) ∙ l }

  pub summing_end : {sum i : ℕ} → Summing steps sum i → length steps ≤ i → sum ≡ sum_steps steps
  unfolding sum_steps
  summing_end {sum} {i} k h =
      let e : cut_off (sum + 0) ≡ sum_steps steps = rw (drop_past steps i h) at k.left in
      let z : sum + 0 ≡ sum = omega arith in
      sym (ap cut_off z ∙ cut_under sum k.small) ∙ e

-- Levels, there and back.

mapped : (f : Table → ℕ) (l : List Table) → length (map f l) ≡ length l
mapped f [] = refl
mapped f (t ∷ l) = ap suc (mapped f l)

-- all that stood there is written over
whole : (first xs : List ℕ) → length xs ≡ length first → sets first 0 xs ≡ xs
whole first xs e =
    let h : length xs ≤ length first = omega arith in
    sets_front first xs h ∙ ap (λ (l : List ℕ). xs ++ l) (drop_past first (length xs) (omega arith)) ∙ append-nil xs

module _ (list buffer : List ℕ) where
  abbrev ts : List Table
  ts = lookups_of list buffer

  many : length ts ≡ length list / 10
  unfolding lookups_of listed
  many = many_listed list buffer 0 (length list / 10)

  level_up : (depth : ℕ) (first : List ℕ) {steps next : List ℕ} → steps ≡ level_steps depth ts → length first ≡ length list / 10 → next ≡ sets first 0 (map (lookup_steps steps) ts) → next ≡ level_steps (suc depth) ts
  unfolding level_steps
  level_up depth first {steps} e h f = f ∙ whole first (map (lookup_steps steps) ts) (mapped (lookup_steps steps) ts ∙ many ∙ sym h) ∙ ap (λ (l : List ℕ). map (lookup_steps l) ts) e

  level_long : (depth : ℕ) → length (level_steps depth ts) ≡ length list / 10
  unfolding level_steps
  level_long zero = mapped (λ t. 0) ts ∙ many
  level_long (suc depth) = mapped (lookup_steps (level_steps depth ts)) ts ∙ many

-- What the loop over levels keeps.
pub record Levelled (list buffer here₀ there₀ here there : List ℕ) (i : ℕ) : Type 0 where
  pub within : i ≤ 4
  pub is : here ≡ level_steps (2 * i) (lookups_of list buffer)
  pub here_long : length here ≡ length here₀
  pub there_long : length there ≡ length there₀
  pub there_many : length there ≡ length list / 10

module _ {list buffer here₀ there₀ : List ℕ} where
  pub levelled_all : here₀ ≡ level_steps 0 (lookups_of list buffer) → length there₀ ≡ length list / 10 → Levelled list buffer here₀ there₀ here₀ there₀ 0
  levelled_all e h = record { within = omega arith; is = e; here_long = refl; there_long = refl; there_many = h }

  pub levelled_next : {here there here' there' : List ℕ} {i : ℕ} → Levelled list buffer here₀ there₀ here there i → i < 4
      → there' ≡ sets there 0 (map (lookup_steps here) (lookups_of list buffer)) → length there' ≡ length there
      → here' ≡ sets here 0 (map (lookup_steps there') (lookups_of list buffer)) → length here' ≡ length here
      → Levelled list buffer here₀ there₀ here' there' (i + 1)
  levelled_next {here} {there} {here'} {there'} {i} k h e l f m =
      let a : length here ≡ length list / 10 = ap length k.is ∙ level_long list buffer (2 * i) in
      let b = level_up list buffer (2 * i) there k.is k.there_many e in
      let c = level_up list buffer (suc (2 * i)) here b a f in
      let d : suc (suc (2 * i)) ≡ 2 * (i + 1) = omega arith in
      record { within = omega arith; is = c ∙ ap (λ (n : ℕ). level_steps n (lookups_of list buffer)) d; here_long = m ∙ k.here_long; there_long = l ∙ k.there_long; there_many = l ∙ k.there_many }

  pub levelled_end : {here there : List ℕ} {i sum : ℕ} → Levelled list buffer here₀ there₀ here there i → 4 ≤ i → sum ≡ sum_steps here → sum ≡ list_steps (lookups_of list buffer)
  unfolding list_steps depth_limit
  levelled_end {here} {there} {i} k h e =
      let d : 2 * i ≡ 8 = omega (arith, k.within) in
      e ∙ ap sum_steps (k.is ∙ ap (λ (n : ℕ). level_steps n (lookups_of list buffer)) d)

-- a 0 for each listed lookup is the level that takes nothing
pub zero_level : (list buffer : List ℕ) {m : ℕ} → m ≡ length list / 10 → m ≤ 16 → take (m - 0) (drop 0 (zeros 16)) ≡ level_steps 0 (lookups_of list buffer)
unfolding level_steps
zero_level list buffer {m} e h = zeros_part m h ∙ ap zeros (e ∙ sym (many list buffer)) ∙ none_taken (lookups_of list buffer)
  where
    none_taken : (l : List Table) → zeros (length l) ≡ map (λ t. 0) l
    none_taken [] = refl
    none_taken (t ∷ l) = ap (λ (x : List ℕ). 0 ∷ x) (none_taken l)

-- there are as many
pub zeros_long : (m : ℕ) → m ≤ 16 → length (take (m - 0) (drop 0 (zeros 16))) ≡ m
zeros_long m h = ap length (zeros_part m h) ∙ length-replicate {A = ℕ} m 0

-- The call.
module _ (list buffer : List ℕ) where
  -- a list that is not refused is good
  pub list_good : (r : Replayed) → r ≡ replay list buffer [] → r.number ≡ 0 → good_list list buffer ≡ true
  unfolding refusal or_else
  list_good r e h = step (good_list list buffer) ((done_exactly list buffer []).0 (ap (λ (a : Replayed). a.number) (sym e) ∙ h)).0
    where
      is_none : Option (ℕ × ℕ) → ℕ
      is_none None = 0
      is_none (Some a) = 1

      step : (b : Bool) → or_else (cond b None (Some (15, 0))) (or_else (first_refusal buffer (listed list)) (or_else (cond (is_some (runs_of [])) None (Some (16, 0))) (cond (all_named (lookups_of list buffer)) None (Some (17, 0))))) ≡ None → b ≡ true
      step true q = refl
      step false q = absurd (omega (arith, ap is_none q))

  pub cost_refused : (r : Replayed) → r ≡ replay list buffer [] → (r.number ≡ 0 → ⊥) → record { number = r.number; place = r.place; steps = 0 } ≡ replay_cost list buffer
  unfolding replay_cost
  cost_refused r e z = rw (← e, ne_eqb r.number 0 z)

  pub cost_told : (r : Replayed) → r ≡ replay list buffer [] → r.number ≡ 0 → {n : ℕ} → n ≡ list_steps (lookups_of list buffer) → record { number = 0; place = r.place; steps = n } ≡ replay_cost list buffer
  unfolding replay_cost
  cost_told r e z f = rw (← e, z, f)
