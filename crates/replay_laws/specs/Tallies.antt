-- Facts about the tally: it is one state that each run changes, equal to what is counted over the trace so far.
use Rattle.std.specs.Prelude.{ℕ, zero, suc, ◌+◌, ◌≤◌, ◌<◌, ◌≡◌, refl, Bool, true, false, cond, ◌&&◌, List, [], ◌∷◌, ◌++◌, length, get_or, eqb, Option, None, Some}
use Rattle.std.proofs.Common.{sym, ap, ◌∙◌, true≢false, append-nil, append_assoc, arith, length-append, ne_eqb}
use Rattle.meaning.specs.Words.{eq_list, is_some}
use Rattle.meaning.specs.Tables.{Table}
use Rattle.replaying.specs.Trace.{Run, runs_of}
use Rattle.replaying.specs.Listed.{if_some, lookups_of}
use Rattle.replaying.specs.Applying.{run}
use Rattle.replaying.specs.Replay.{Tally, Replayed, agreeing, first_out, counted, changed, verdicts, shallow, played, refusing, refusal, runs_in, replay}

not_none : (f : ℕ) → cond (eqb (suc f) 0) 0 (suc f + 1) ≡ suc f + 1
not_none f =
    let y : eqb (suc f) 0 ≡ false = ne_eqb (suc f) 0 (λ q. omega arith) in
    rw y

-- one more verdict at the end
agreeing_end : (vs : List Bool) (v : Bool) → agreeing (vs ++ (v ∷ [])) ≡ agreeing vs + agreeing (v ∷ [])
unfolding agreeing
agreeing_end [] v = sym (zero_left (agreeing (v ∷ [])))
  where
    zero_left : (n : ℕ) → 0 + n ≡ n
    zero_left n = omega arith
agreeing_end (true ∷ vs) v = let e = agreeing_end vs v in omega arith
agreeing_end (false ∷ vs) v = agreeing_end vs v

-- the first that did not agree, as one more verdict changes it
abbrev next : ℕ → ℕ → Bool → ℕ
next n first true = first
next n first false = cond (eqb first 0) (n + 1) first

out_end : (vs : List Bool) (v : Bool) → first_out (vs ++ (v ∷ [])) ≡ next (length vs) (first_out vs) v
unfolding first_out
out_end [] true = refl
out_end [] false = refl
out_end (false ∷ vs) true = refl
out_end (false ∷ vs) false = refl
out_end (true ∷ vs) v = ap (λ (n : ℕ). cond (eqb n 0) 0 (n + 1)) (out_end vs v) ∙ step (first_out vs) (length vs) v
  where
    step : (f n : ℕ) (v : Bool) → cond (eqb (next n f v) 0) 0 (next n f v + 1) ≡ next (suc n) (cond (eqb f 0) 0 (f + 1)) v
    step f n true = refl
    step zero n false =
        let z : eqb (n + 1) 0 ≡ false = ne_eqb (n + 1) 0 (λ q. omega arith) in
        rw z (omega arith)
    step (suc f) n false =
        let y : eqb (suc f) 0 ≡ false = ne_eqb (suc f) 0 (λ q. omega arith) in
        let z : eqb (suc f + 1) 0 ≡ false = ne_eqb (suc f + 1) 0 (λ q. omega arith) in
        let e : cond (eqb (suc f) 0) (n + 1) (suc f) ≡ suc f = rw y in
        let k : cond (eqb (suc f + 1) 0) (suc n + 1) (suc f + 1) ≡ suc f + 1 = rw z in
        ap (λ (m : ℕ). cond (eqb m 0) 0 (m + 1)) e ∙ not_none f ∙ sym (ap (λ (m : ℕ). cond (eqb m 0) (suc n + 1) m) (not_none f) ∙ k)

-- `one_more`: a run changes the tally in place to what is counted with it.
pub one_more : (vs : List Bool) (v : Bool) → counted (vs ++ (v ∷ [])) ≡ changed v (counted vs)
unfolding counted changed agreeing
one_more vs true =
    let l : length (vs ++ (true ∷ [])) ≡ length vs + 1 = length-append vs (true ∷ []) in
    λ i. record { runs = l i; agreements = agreeing_end vs true i; first = out_end vs true i }
one_more vs false =
    let l : length (vs ++ (false ∷ [])) ≡ length vs + 1 = length-append vs (false ∷ []) in
    let a : agreeing (vs ++ (false ∷ [])) ≡ agreeing vs = let e = agreeing_end vs false in omega arith in
    λ i. record { runs = l i; agreements = a i; first = out_end vs false i }

-- Its invariants.

-- no more agree than there are
pub agreements_within : (vs : List Bool) → (counted vs).agreements ≤ (counted vs).runs
unfolding counted agreeing
agreements_within [] = omega arith
agreements_within (true ∷ vs) = let h : agreeing vs ≤ length vs = agreements_within vs in omega arith
agreements_within (false ∷ vs) = let h : agreeing vs ≤ length vs = agreements_within vs in omega arith

-- the first that did not agree is one of the runs
pub first_within : (vs : List Bool) → (counted vs).first ≤ (counted vs).runs
unfolding counted first_out
first_within [] = omega arith
first_within (false ∷ vs) = omega arith
first_within (true ∷ vs) = step (first_out vs) (first_within vs)
  where
    step : (f : ℕ) → f ≤ length vs → cond (eqb f 0) 0 (f + 1) ≤ suc (length vs)
    step zero h = omega arith
    step (suc f) h = omega (arith, not_none f)

-- there is none exactly if all agree
pub none_out : (vs : List Bool) → ((counted vs).first ≡ 0 → (counted vs).agreements ≡ (counted vs).runs) × ((counted vs).agreements ≡ (counted vs).runs → (counted vs).first ≡ 0)
unfolding counted first_out agreeing
none_out [] = (λ e. refl, λ e. refl)
none_out (false ∷ vs) = (λ e. absurd (omega arith), λ e. absurd (let h : agreeing vs ≤ length vs = agreements_within vs in omega arith))
none_out (true ∷ vs) = step (first_out vs) (agreeing vs) (none_out vs).0 (none_out vs).1
  where
    step : (f a : ℕ) → (f ≡ 0 → a ≡ length vs) → (a ≡ length vs → f ≡ 0)
        → (cond (eqb f 0) 0 (f + 1) ≡ 0 → a + 1 ≡ suc (length vs)) × (a + 1 ≡ suc (length vs) → cond (eqb f 0) 0 (f + 1) ≡ 0)
    step zero a h k = (λ e. let q = h refl in omega arith, λ e. refl)
    step (suc f) a h k = (λ e. absurd (omega (arith, not_none f)), λ e. absurd (let n : a ≡ length vs = omega arith in let q = k n in omega arith))

-- it is the least: the run of that number did not agree, and each before it did
pub least_out : (vs : List Bool) (k : ℕ) → (counted vs).first ≡ k + 1 → (get_or vs k true ≡ false) × ((j : ℕ) → j < k → get_or vs j false ≡ true)
unfolding counted first_out
least_out [] k e = absurd (omega arith)
least_out (false ∷ vs) k e =
    let z : k ≡ 0 = omega arith in
    rw z (refl, λ j h. absurd (omega arith))
least_out (true ∷ vs) k e = step k (first_out vs) (least_out vs) e
  where
    step : (k f : ℕ) → ((m : ℕ) → f ≡ m + 1 → (get_or vs m true ≡ false) × ((j : ℕ) → j < m → get_or vs j false ≡ true)) → cond (eqb f 0) 0 (f + 1) ≡ k + 1
        → (get_or (true ∷ vs) k true ≡ false) × ((j : ℕ) → j < k → get_or (true ∷ vs) j false ≡ true)
    step k zero h e = absurd (omega arith)
    step zero (suc f) h e = absurd (omega (arith, not_none f))
    step (suc k) (suc f) h e =
        let q : suc f ≡ k + 1 = omega (arith, not_none f) in
        ((h k q).0, before)
      where
        before : (j : ℕ) → j < suc k → get_or (true ∷ vs) j false ≡ true
        before zero l = refl
        before (suc j) l = (h k (let q : suc f ≡ k + 1 = omega (arith, not_none f) in q)).1 j (omega arith)

-- The trace, run after run.

-- the runs from a tally on, each changing it in place: what a loop over the trace does
unfoldable pub play : List Table → Tally → List Run → Replayed
play ts t [] = record { number = 0; place = 0; tally = t }
play ts t (r ∷ rs) = if_some (run ts r.given) (record { number = 18; place = 0; tally = t }) (λ s. play ts (changed (eq_list s r.came) t) rs)

-- the loop ends with what is counted over all
pub play_counts : (ts : List Table) (vs : List Bool) (rs : List Run)
    → play ts (counted vs) rs ≡ record { number = cond (shallow ts rs) 0 18; place = 0; tally = counted (vs ++ verdicts ts rs) }
unfolding play shallow verdicts is_some if_some
play_counts ts vs [] = rw (append-nil vs)
play_counts ts vs (r ∷ rs) = step (run ts r.given) (λ ws. play_counts ts ws rs)
  where
    step : (o : Option (List ℕ)) → ((ws : List Bool) → play ts (counted ws) rs ≡ record { number = cond (shallow ts rs) 0 18; place = 0; tally = counted (ws ++ verdicts ts rs) })
        → if_some o (record { number = 18; place = 0; tally = counted vs }) (λ s. play ts (changed (eq_list s r.came) (counted vs)) rs)
        ≡ record { number = cond (is_some o && shallow ts rs) 0 18; place = 0; tally = counted (vs ++ if_some o [] (λ s. eq_list s r.came ∷ verdicts ts rs)) }
    step None h = rw (append-nil vs)
    step (Some s) h =
        let v = eq_list s r.came in
        ap (λ (t : Tally). play ts t rs) (sym (one_more vs v))
        ∙ h (vs ++ (v ∷ []))
        ∙ ap (λ (l : List Bool). record { number = cond (shallow ts rs) 0 18; place = 0; tally = counted l }) (append_assoc vs (v ∷ []) (verdicts ts rs))

-- `in_place`: the replay's runs are one tally, at 0, 0, 0 first, that each run changes
pub in_place : (ts : List Table) (rs : List Run) → played ts rs ≡ play ts (counted []) rs
unfolding played
in_place ts rs = sym (play_counts ts [] rs)

shallow_both : (ts : List Table) (before after : List Run) → shallow ts before ≡ true → shallow ts (before ++ after) ≡ shallow ts after
unfolding shallow
shallow_both ts [] after h = refl
shallow_both ts (r ∷ before) after h = step (is_some (run ts r.given)) h (shallow_both ts before after)
  where
    step : (b : Bool) → b && shallow ts before ≡ true → (shallow ts before ≡ true → shallow ts (before ++ after) ≡ shallow ts after) → b && shallow ts (before ++ after) ≡ shallow ts after
    step true h k = k h
    step false h k = absurd (true≢false (sym h))

verdicts_both : (ts : List Table) (before after : List Run) → shallow ts before ≡ true → verdicts ts (before ++ after) ≡ verdicts ts before ++ verdicts ts after
unfolding shallow verdicts is_some if_some
verdicts_both ts [] after h = refl
verdicts_both ts (r ∷ before) after h = step (run ts r.given) h (verdicts_both ts before after)
  where
    step : (o : Option (List ℕ)) → is_some o && shallow ts before ≡ true → (shallow ts before ≡ true → verdicts ts (before ++ after) ≡ verdicts ts before ++ verdicts ts after)
        → if_some o [] (λ s. eq_list s r.came ∷ verdicts ts (before ++ after)) ≡ if_some o [] (λ s. eq_list s r.came ∷ verdicts ts before) ++ verdicts ts after
    step None h k = absurd (true≢false (sym h))
    step (Some s) h k = ap (λ (l : List Bool). eq_list s r.came ∷ l) (k h)

-- `so_far`: where none of the first runs goes too deep, the loop stands after them at the tally that the definition counts over them, and goes on from there
pub so_far : (ts : List Table) (before after : List Run) → shallow ts before ≡ true → play ts (played ts before).tally after ≡ played ts (before ++ after)
unfolding played
so_far ts before after h = rw (shallow_both ts before after h, verdicts_both ts before after h) (play_counts ts (verdicts ts before) after)

-- The whole answer.

-- a refusal before any run: its number, its place, and a tally of 0, 0, 0
pub refused_first : (list buffer trace : List ℕ) (r : ℕ × ℕ) → refusal list buffer trace ≡ Some r → replay list buffer trace ≡ refusing r
unfolding replay
refused_first list buffer trace r e = ap (λ (o : Option (ℕ × ℕ)). if_some o (played (lookups_of list buffer) (runs_in (runs_of trace))) refusing) e

-- otherwise the runs, over what the list and the trace say
pub replays : (list buffer trace : List ℕ) → refusal list buffer trace ≡ None → replay list buffer trace ≡ played (lookups_of list buffer) (runs_in (runs_of trace))
unfolding replay
replays list buffer trace e = ap (λ (o : Option (ℕ × ℕ)). if_some o (played (lookups_of list buffer) (runs_in (runs_of trace))) refusing) e
