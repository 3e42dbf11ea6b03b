-- The cost of a list is a bound: a replay asks at most that many lookups for each glyph of its trace, where the cost is below 2⁶³.
use Prim.Native.Nat.{ℕ, zero, suc, ◌+◌, ◌-◌, ◌*◌, ◌≤◌, ◌<◌}
use Rattle.std.specs.Prelude.{◌≡◌, refl, Bool, ◌&&◌, get_or, drop, ltb, eqb, Option, None, Some}
use Rattle.std.proofs.Common.{sym, ◌∙◌, ltb-true, ltb-false}
use Rattle.std.proofs.Math.Path.{ap, subst}
use Rattle.std.proofs.Math.Bool.{true, false, cond}
use mathlib.Core.List.{List, [], ◌∷◌, map}
use native.Mathlib.Omega.{arith}
use Rattle.std.proofs.Math.ListN.{length}
use Rattle.meaning.specs.Words.{bind, member, up_from}
use Rattle.meaning.specs.Parts.{class_of}
use Rattle.meaning.specs.Tables.{Rule, Table, drop_null}
use Rattle.meaning.specs.Matching.{Holds, at_place, fits, covers?, set_at, same_glyph, same_class, rule_fits, first_fit, match, substitute}
use Rattle.laws.specs.Through.{Opt}
use Rattle.laws.specs.CutGood.{opt_bind}
use Rattle.replaying.specs.Asking.{Answer, answer_of, ask}
use Rattle.replaying.specs.Listed.{if_some, lookups_of}
use Rattle.replaying.specs.Trace.{Run}
use Rattle.replaying.specs.Applying.{Step, lookup_at, apply, sweep, depth_limit, sweep_all, run}
use Rattle.replaying.specs.Replay.{replay}
use Rattle.replay_laws.specs.Turns.{AsLong, apply_long}
use Rattle.replaying.specs.Cost.{step_limit, cut_off, larger, largest, steps_of, record_steps, rule_steps, sets_steps, table_steps, lookup_steps, level_steps, sum_steps, list_steps, replay_cost}

-- How many lookups are asked, beside what Applying does: as far as a run goes, and no further once it is too deep.

-- by a rule's records
unfoldable pub records_ask : (ℕ → List ℕ → ℕ → Option Step) → (ℕ → List ℕ → ℕ → ℕ) → List (ℕ × ℕ) → List ℕ → ℕ → ℕ
records_ask once asks [] string place = 0
records_ask once asks (r ∷ rs) string place =
    asks r.1 string (place + r.0) + if_some (once r.1 string (place + r.0)) 0 (λ step. records_ask once asks rs step.string place)

-- by what an answer does
unfoldable pub act_asks : (ℕ → List ℕ → ℕ → Option Step) → (ℕ → List ℕ → ℕ → ℕ) → Answer → List ℕ → ℕ → ℕ
act_asks once asks Answer.nothing string place = 0
act_asks once asks (Answer.instead g) string place = 0
act_asks once asks (Answer.matched n rs) string place = records_ask once asks rs string place

-- by a lookup, applied once at a place: itself, and what its rule runs; one that is too deep is not asked
unfoldable pub apply_asks : ℕ → List Table → ℕ → List ℕ → ℕ → ℕ
apply_asks zero ts n string place = 0
apply_asks (suc depth) ts n string place = 1 + act_asks (apply depth ts) (apply_asks depth ts) (ask (lookup_at ts n) string place) string place

-- by a lookup at every place
unfoldable pub sweep_asks : (List ℕ → ℕ → Option Step) → (List ℕ → ℕ → ℕ) → ℕ → ℕ → List ℕ → ℕ → ℕ
sweep_asks once asks zero skip string place = 0
sweep_asks once asks (suc left) (suc skip) string place = sweep_asks once asks left skip string (place + 1)
sweep_asks once asks (suc left) zero string place = asks string place + if_some (once string place) 0 (λ step. sweep_asks once asks left (step.took - 1) step.string (place + 1))

-- by these lookups in order
unfoldable pub order_asks : List Table → List ℕ → List ℕ → ℕ
order_asks ts [] string = 0
order_asks ts (n ∷ ns) string = sweep_asks (apply depth_limit ts n) (apply_asks depth_limit ts n) (length string) 0 string 0 + if_some (sweep_all ts n string) 0 (order_asks ts ns)

-- by a run, and by runs up to the first that goes too deep
unfoldable pub run_asks : List Table → List ℕ → ℕ
run_asks ts string = order_asks ts (up_from 0 (length ts)) string

unfoldable pub runs_ask : List Table → List Run → ℕ
runs_ask ts [] = 0
runs_ask ts (r ∷ rs) = run_asks ts r.given + if_some (run ts r.given) 0 (λ s. runs_ask ts rs)

-- how many glyphs went into the runs
unfoldable pub glyphs_in : List Run → ℕ
glyphs_in [] = 0
glyphs_in (r ∷ rs) = length r.given + glyphs_in rs

-- What is cut off is at the limit; below it a number is what it was.

pub below_limit : (n : ℕ) → cut_off n < step_limit → (cut_off n ≡ n) × (n < step_limit)
unfolding cut_off
below_limit n h = step (ltb n step_limit) refl h
  where
    step : (b : Bool) → ltb n step_limit ≡ b → cond b n step_limit < step_limit → (cond b n step_limit ≡ n) × (n < step_limit)
    step true e k = (refl, k)
    step false e k = absurd (omega arith)

larger_left : (a b : ℕ) → a ≤ larger a b
unfolding larger
larger_left a b = step (ltb a b) refl
  where
    step : (d : Bool) → ltb a b ≡ d → a ≤ cond d b a
    step true e = let l : a < b = ltb-true a b e in omega arith
    step false e = omega arith

larger_right : (a b : ℕ) → b ≤ larger a b
unfolding larger
larger_right a b = step (ltb a b) refl
  where
    step : (d : Bool) → ltb a b ≡ d → b ≤ cond d b a
    step true e = omega arith
    step false e = let l : b ≤ a = ltb-false a b e in omega arith

up : {a b c : ℕ} → a ≤ b → b ≤ c → a ≤ c
up h k = omega arith

-- The rule that matches is one of the table's.
module _ (steps : List ℕ) where
  abbrev Under : ℕ → ℕ × List (ℕ × ℕ) → Type 0
  Under m rule = record_steps steps rule.1 ≤ m

  fit_under : (h : Holds) (rs : List Rule) (m : ℕ) → largest (rule_steps steps) rs ≤ m → (before after : List ℕ) → Opt (Under m) (first_fit h rs before after)
  unfolding first_fit largest rule_steps
  fit_under h [] m l before after = tt
  fit_under h (r ∷ rs) m l before after = step (rule_fits h r before after) (fit_under h rs m (up (larger_right (record_steps steps r.records) (largest (rule_steps steps) rs)) l) before after)
    where
      step : (b : Bool) → Opt (Under m) (first_fit h rs before after) → Opt (Under m) (cond b (Some (r.count, r.records)) (first_fit h rs before after))
      step true k = up (larger_left (record_steps steps r.records) (largest (rule_steps steps) rs)) l
      step false k = k

  -- each set of a table's is under its most
  abbrev SetUnder : ℕ → List Rule → Type 0
  SetUnder m rs = largest (rule_steps steps) rs ≤ m

  set_first : (o : Option (List Rule)) (sets : List (Option (List Rule))) (m : ℕ) → sets_steps steps (o ∷ sets) ≤ m → Opt (SetUnder m) o × (sets_steps steps sets ≤ m)
  unfolding sets_steps drop_null largest
  set_first None sets m l = (tt, l)
  set_first (Some rs) sets m l =
      let a = largest (rule_steps steps) rs in
      let b = largest (largest (rule_steps steps)) (drop_null sets) in
      (up (larger_left a b) l, up (larger_right a b) l)

  set_under : (cov : List ℕ) (sets : List (Option (List Rule))) (g m : ℕ) → sets_steps steps sets ≤ m → Opt (SetUnder m) (set_at cov sets g)
  unfolding set_at
  set_under [] sets g m l = tt
  set_under (c ∷ cov) [] g m l = tt
  set_under (c ∷ cov) (o ∷ sets) g m l = step (eqb c g) (set_first o sets m l).0 (set_under cov sets g m (set_first o sets m l).1)
    where
      step : (b : Bool) → Opt (SetUnder m) o → Opt (SetUnder m) (set_at cov sets g) → Opt (SetUnder m) (cond b o (set_at cov sets g))
      step true h k = h
      step false h k = k

  class_under : (sets : List (Option (List Rule))) (i m : ℕ) → sets_steps steps sets ≤ m → Opt (SetUnder m) (get_or sets i None)
  class_under [] i m l = tt
  class_under (o ∷ sets) zero m l = (set_first o sets m l).0
  class_under (o ∷ sets) (suc i) m l = class_under sets i m (set_first o sets m l).1

  any : {A : Type 0} (o : Option A) → Opt (λ a. Unit {0}) o
  any None = tt
  any (Some a) = tt

  match_under : (t : Table) (before : List ℕ) (g : ℕ) (after : List ℕ) → Opt (Under (table_steps steps t)) (match t before g after)
  unfolding match table_steps
  match_under (Table.by_glyph chained cover sets) before g after =
      let m = sets_steps steps sets in
      opt_bind (λ c. Unit {0}) (Under m) cover (λ cov. bind (set_at cov sets g) (λ rs. first_fit same_glyph rs before after)) (any cover) (λ cov u.
      opt_bind (SetUnder m) (Under m) (set_at cov sets g) (λ rs. first_fit same_glyph rs before after) (set_under cov sets g m (omega arith)) (λ rs l. fit_under same_glyph rs m l before after))
  match_under (Table.by_class chained cover b i a sets) before g after =
      let m = sets_steps steps sets in
      let fit : List Rule → Option (ℕ × List (ℕ × ℕ)) = λ rs. first_fit (same_class b i a) rs before after in
      opt_bind (λ c. Unit {0}) (Under m) cover (λ cov. bind i (λ cs. cond (member g cov) (bind (get_or sets (class_of cs g) None) fit) None)) (any cover) (λ cov u.
      opt_bind (λ c. Unit {0}) (Under m) i (λ cs. cond (member g cov) (bind (get_or sets (class_of cs g) None) fit) None) (any i) (λ cs u.
      step (member g cov) (get_or sets (class_of cs g) None) (class_under sets (class_of cs g) m (omega arith))))
    where
      step : (d : Bool) (o : Option (List Rule)) → Opt (SetUnder (sets_steps steps sets)) o
          → Opt (Under (sets_steps steps sets)) (cond d (bind o (λ rs. first_fit (same_class b i a) rs before after)) None)
      step true o h = opt_bind (SetUnder (sets_steps steps sets)) (Under (sets_steps steps sets)) o (λ rs. first_fit (same_class b i a) rs before after) h (λ rs l. fit_under (same_class b i a) rs (sets_steps steps sets) l before after)
      step false o h = tt
  match_under (Table.by_cover chained b i a rs) before g after = step (ltb 0 (length i) && (fits covers? i (g ∷ after) && (fits covers? a (drop (length i) (g ∷ after)) && fits covers? b before)))
    where
      step : (d : Bool) → Opt (Under (record_steps steps rs)) (cond d (Some (length i, rs)) None)
      step true = omega arith
      step false = tt
  match_under (Table.ligatures cover sets) before g after = tt
  match_under (Table.pairs_of cover f1 f2 sets) before g after = tt
  match_under (Table.class_pairs cover first second f1 f2 m rows) before g after = tt
  match_under (Table.single_delta cover d) before g after = tt
  match_under (Table.single_list cover subs) before g after = tt

  place_under : (t : Table) (before string : List ℕ) (i : ℕ) → Opt (Under (table_steps steps t)) (at_place (match t) before string i)
  unfolding at_place
  place_under t before [] i = tt
  place_under t before (g ∷ after) zero = match_under t before g after
  place_under t before (g ∷ after) (suc i) = place_under t (g ∷ before) after i

  -- so is what a lookup answers
  abbrev AnswerUnder : ℕ → Answer → Type 0
  AnswerUnder m Answer.nothing = Unit {0}
  AnswerUnder m (Answer.instead g) = Unit {0}
  AnswerUnder m (Answer.matched n rs) = record_steps steps rs ≤ m

  ask_under : (t : Table) (string : List ℕ) (place : ℕ) → AnswerUnder (table_steps steps t) (ask t string place)
  unfolding ask answer_of
  ask_under t string place = step (at_place (match t) [] string place) (at_place (λ before g after. substitute t g) [] string place) (place_under t [] string place)
    where
      step : (o : Option (ℕ × List (ℕ × ℕ))) (q : Option ℕ) → Opt (Under (table_steps steps t)) o → AnswerUnder (table_steps steps t) (answer_of o q)
      step (Some rule) q h = h
      step None (Some g) h = tt
      step None None h = tt

-- A lookup at a place asks no more than its level's steps.

-- what is no more than a number of steps, where that is below the limit
abbrev Within : ℕ → ℕ → Type 0
Within asked steps = steps < step_limit → asked ≤ steps

steps_at : (f : Table → ℕ) (ts : List Table) (n : ℕ) → f (Table.by_cover false [] [] [] []) ≡ 1 → steps_of (map f ts) n ≡ f (lookup_at ts n)
unfolding steps_of lookup_at
steps_at f [] n e = sym e
steps_at f (t ∷ ts) zero e = refl
steps_at f (t ∷ ts) (suc n) e = steps_at f ts n e

module _ (once : ℕ → List ℕ → ℕ → Option Step) (asks : ℕ → List ℕ → ℕ → ℕ) (steps : List ℕ) (k : (n : ℕ) (string : List ℕ) (place : ℕ) → Within (asks n string place) (steps_of steps n)) where
  records_within : (rs : List (ℕ × ℕ)) (string : List ℕ) (place : ℕ) → Within (records_ask once asks rs string place) (record_steps steps rs)
  unfolding records_ask record_steps if_some
  records_within [] string place h = omega arith
  records_within (r ∷ rs) string place h =
      let e = below_limit (steps_of steps r.1 + record_steps steps rs) h in
      step (once r.1 string (place + r.0)) (k r.1 string (place + r.0) (omega (arith, e.1))) (λ s. records_within rs s place (omega (arith, e.1)))
    where
      step : (o : Option Step) → asks r.1 string (place + r.0) ≤ steps_of steps r.1 → ((s : List ℕ) → records_ask once asks rs s place ≤ record_steps steps rs)
          → asks r.1 string (place + r.0) + if_some o 0 (λ step. records_ask once asks rs step.string place) ≤ cut_off (steps_of steps r.1 + record_steps steps rs)
      step None a b = let e = below_limit (steps_of steps r.1 + record_steps steps rs) h in omega (arith, e.0)
      step (Some s) a b =
          let e = below_limit (steps_of steps r.1 + record_steps steps rs) h in
          let c = b s.string in
          omega (arith, e.0)

  act_within : (a : Answer) (m : ℕ) → m < step_limit → AnswerUnder steps m a → (string : List ℕ) (place : ℕ) → act_asks once asks a string place ≤ m
  unfolding act_asks
  act_within Answer.nothing m h u string place = omega arith
  act_within (Answer.instead g) m h u string place = omega arith
  act_within (Answer.matched n rs) m h u string place = up (records_within rs string place (omega arith)) u

-- one past the list is asked, and that is all
past : (steps : List ℕ) → lookup_steps steps (Table.by_cover false [] [] [] []) ≡ 1
unfolding lookup_steps table_steps record_steps cut_off step_limit
past steps = refl

taken : (steps : List ℕ) (t : Table) → lookup_steps steps t ≡ cut_off (1 + table_steps steps t)
unfolding lookup_steps
taken steps t = refl

pub apply_within : (depth : ℕ) (ts : List Table) (n : ℕ) (string : List ℕ) (place : ℕ) → Within (apply_asks depth ts n string place) (steps_of (level_steps depth ts) n)
unfolding apply_asks level_steps
apply_within zero ts n string place h = omega arith
apply_within (suc depth) ts n string place h =
    let steps = level_steps depth ts in
    let t = lookup_at ts n in
    let e = steps_at (lookup_steps steps) ts n (past steps) in
    let c = below_limit (1 + table_steps steps t) (subst (λ (m : ℕ). m < step_limit) (e ∙ taken steps t) h) in
    let l = act_within (apply depth ts) (apply_asks depth ts) steps (λ m s p. apply_within depth ts m s p) (ask t string place) (table_steps steps t) (omega (arith, c.1)) (ask_under steps t string place) string place in
    subst (λ (m : ℕ). 1 + act_asks (apply depth ts) (apply_asks depth ts) (ask t string place) string place ≤ m) (sym (e ∙ taken steps t ∙ c.0)) (omega arith)

-- Over the places of a string.

module _ (once : List ℕ → ℕ → Option Step) (asks : List ℕ → ℕ → ℕ) (m : ℕ) (k : (string : List ℕ) (place : ℕ) → asks string place ≤ m) where
  sweep_within : (left skip : ℕ) (string : List ℕ) (place : ℕ) → sweep_asks once asks left skip string place ≤ left * m
  unfolding sweep_asks if_some
  sweep_within zero skip string place = omega arith
  sweep_within (suc left) (suc skip) string place = let h = sweep_within left skip string (place + 1) in omega arith
  sweep_within (suc left) zero string place = step (once string place) (λ skip s. sweep_within left skip s (place + 1))
    where
      step : (o : Option Step) → ((skip : ℕ) (s : List ℕ) → sweep_asks once asks left skip s (place + 1) ≤ left * m)
          → asks string place + if_some o 0 (λ step. sweep_asks once asks left (step.took - 1) step.string (place + 1)) ≤ suc left * m
      step None h = let a = k string place in omega arith
      step (Some s) h =
          let a = k string place in
          let b = h (s.took - 1) s.string in
          omega arith

-- a sweep leaves a string as long as it was
sweep_long : (once : List ℕ → ℕ → Option Step) → ((string : List ℕ) (place : ℕ) → AsLong string (once string place)) → (left skip : ℕ) (string : List ℕ) (place : ℕ)
    → Opt (λ s. length s ≡ length string) (sweep once left skip string place)
unfolding sweep
sweep_long once k zero skip string place = refl
sweep_long once k (suc left) (suc skip) string place = sweep_long once k left skip string (place + 1)
sweep_long once k (suc left) zero string place =
    opt_bind (λ s. length s.string ≡ length string) (λ s. length s ≡ length string) (once string place) (λ step. sweep once left (step.took - 1) step.string (place + 1)) (k string place)
    (λ s e. subst (λ (m : ℕ). Opt (λ q. length q ≡ m) (sweep once left (s.took - 1) s.string (place + 1))) e (sweep_long once k left (s.took - 1) s.string (place + 1)))

-- Over the list, in order.

module _ (ts : List Table) where
  first : (x n : ℕ) (l : List ℕ) → steps_of (level_steps depth_limit ts) (n + 0) ≡ steps_of (x ∷ l) 0 → steps_of (level_steps depth_limit ts) n ≡ x
  unfolding steps_of
  first x n l e = let z : n ≡ n + 0 = omega arith in ap (λ (i : ℕ). steps_of (level_steps depth_limit ts) i) z ∙ e

  next : (x n : ℕ) (l : List ℕ) (j : ℕ) → steps_of (level_steps depth_limit ts) (n + suc j) ≡ steps_of (x ∷ l) (suc j) → steps_of (level_steps depth_limit ts) (n + 1 + j) ≡ steps_of l j
  unfolding steps_of
  next x n l j e = let z : n + 1 + j ≡ n + suc j = omega arith in ap (λ (i : ℕ). steps_of (level_steps depth_limit ts) i) z ∙ e

  long : (n : ℕ) (string : List ℕ) → Opt (λ s. length s ≡ length string) (sweep_all ts n string)
  unfolding sweep_all
  long n string = sweep_long (apply depth_limit ts n) (λ s p. apply_long depth_limit ts n s p) (length string) 0 string 0

  order_within : (l : List ℕ) (n : ℕ) → ((j : ℕ) → steps_of (level_steps depth_limit ts) (n + j) ≡ steps_of l j) → sum_steps l < step_limit
      → (string : List ℕ) → order_asks ts (up_from n (length l)) string ≤ length string * sum_steps l
  unfolding order_asks up_from sum_steps if_some
  order_within [] n k h string = omega arith
  order_within (x ∷ l) n k h string =
      let e = below_limit (x + sum_steps l) h in
      let f : x < step_limit = omega (arith, e.1) in
      let g = first x n l (k 0) in
      let one : (s : List ℕ) (p : ℕ) → apply_asks depth_limit ts n s p ≤ x = λ s p. subst (λ (m : ℕ). Within (apply_asks depth_limit ts n s p) m) g (apply_within depth_limit ts n s p) f in
      rw e.0 (step (sweep_all ts n string) (long n string) (sweep_within (apply depth_limit ts n) (apply_asks depth_limit ts n) x one (length string) 0 string 0)
      (λ s. order_within l (n + 1) (λ j. next x n l j (k (suc j))) (omega (arith, e.1)) s))
    where
      step : (o : Option (List ℕ)) → Opt (λ s. length s ≡ length string) o → {a : ℕ} → a ≤ length string * x
          → ((s : List ℕ) → order_asks ts (up_from (n + 1) (length l)) s ≤ length s * sum_steps l)
          → a + if_some o 0 (order_asks ts (up_from (n + 1) (length l))) ≤ length string * (x + sum_steps l)
      step None e h q = omega arith
      step (Some s) e h q = let b = rw e at (q s) in omega arith

  mapped : (f : Table → ℕ) (l : List Table) → length (map f l) ≡ length l
  mapped f [] = refl
  mapped f (t ∷ l) = ap suc (mapped f l)

  as_many : (depth : ℕ) → length (level_steps depth ts) ≡ length ts
  unfolding level_steps
  as_many zero = mapped (λ t. 0) ts
  as_many (suc depth) = mapped (lookup_steps (level_steps depth ts)) ts

  -- `run_within`: a run asks at most the list's steps for each of its glyphs.
  pub run_within : list_steps ts < step_limit → (string : List ℕ) → run_asks ts string ≤ length string * list_steps ts
  unfolding run_asks list_steps
  run_within h string = subst (λ (m : ℕ). order_asks ts (up_from 0 m) string ≤ length string * sum_steps (level_steps depth_limit ts)) (as_many depth_limit) (order_within (level_steps depth_limit ts) 0 (λ j. same j) h string)
    where
      same : (j : ℕ) → steps_of (level_steps depth_limit ts) (0 + j) ≡ steps_of (level_steps depth_limit ts) j
      same j = let z : 0 + j ≡ j = omega arith in ap (λ (i : ℕ). steps_of (level_steps depth_limit ts) i) z

  pub runs_within : list_steps ts < step_limit → (rs : List Run) → runs_ask ts rs ≤ glyphs_in rs * list_steps ts
  unfolding runs_ask glyphs_in if_some
  runs_within h [] = omega arith
  runs_within h (r ∷ rs) = step (run ts r.given) (run_within h r.given) (runs_within h rs)
    where
      step : (o : Option (List ℕ)) → run_asks ts r.given ≤ length r.given * list_steps ts → runs_ask ts rs ≤ glyphs_in rs * list_steps ts
          → run_asks ts r.given + if_some o 0 (λ s. runs_ask ts rs) ≤ (length r.given + glyphs_in rs) * list_steps ts
      step None a b = omega arith
      step (Some s) a b = omega arith

-- `cost_bounds`: where the call gives 0 and fewer than 2⁶³ steps, the runs of any trace ask at most that many lookups for each glyph that went in.
pub cost_bounds : (list buffer : List ℕ) (runs : List Run) → (replay_cost list buffer).number ≡ 0 → (replay_cost list buffer).steps < step_limit
    → runs_ask (lookups_of list buffer) runs ≤ glyphs_in runs * (replay_cost list buffer).steps
unfolding replay_cost
cost_bounds list buffer runs e = step (replay list buffer []).number e
  where
    step : (n : ℕ) → n ≡ 0 → cond (eqb n 0) (list_steps (lookups_of list buffer)) 0 < step_limit
        → runs_ask (lookups_of list buffer) runs ≤ glyphs_in runs * cond (eqb n 0) (list_steps (lookups_of list buffer)) 0
    step zero e h = runs_within (lookups_of list buffer) h runs
    step (suc n) e h = absurd (omega arith)
