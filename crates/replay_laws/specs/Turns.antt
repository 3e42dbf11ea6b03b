-- What loops over the trace, the places of a string, a rule's records and the list need: each turn is one unfolding, with no bound that is counted down.
use Prim.Native.Nat.{ℕ, zero, suc, ◌+◌, ◌-◌, ◌*◌, ◌≤◌, ◌<◌}
use Rattle.std.specs.Prelude.{◌≡◌, Bool, true, false, ltb, Option, None, Some}
use Rattle.std.proofs.Math.Path.{refl, ap, subst}
use Rattle.std.proofs.Common.{◌∙◌, add-zero, lt-ltb, le-ltb}
use Rattle.std.proofs.Math.Bool.{cond}
use mathlib.Core.List.{List, [], ◌∷◌}
use native.Mathlib.Omega.{arith}
use Rattle.std.proofs.Math.ListN.{length, length-set}
use Rattle.meaning.specs.Words.{word, entries, up_from, bind}
use Rattle.meaning.specs.Tables.{Table}
use Rattle.laws.specs.Through.{Opt}
use Rattle.laws.specs.CutGood.{opt_bind}
use Rattle.replaying.specs.Asking.{Answer, ask}
use Rattle.replaying.specs.Trace.{Run, run_at, run_length, good_run, runs_from, runs_of}
use Rattle.replaying.specs.Applying.{Step, lookup_at, run_records, act, apply, sweep, sweep_all, in_order}

-- The trace.

-- how many runs may be read at most does not matter, if there are not more of them than bytes
runs_enough : (a b : ℕ) (t : List ℕ) (at : ℕ) → length t ≤ at + a → length t ≤ at + b → runs_from a t at ≡ runs_from b t at
unfolding runs_from run_length
runs_enough zero zero t at h k = refl
runs_enough zero (suc b) t at h k = rw (le-ltb at (length t) (omega arith))
runs_enough (suc a) zero t at h k = rw (le-ltb at (length t) (omega arith))
runs_enough (suc a) (suc b) t at h k =
    ap (λ (o : Option (List Run)). cond (ltb at (length t)) (cond (good_run t at) (bind o (λ rs. Some (run_at t at ∷ rs))) None) (Some []))
    (runs_enough a b t (at + (2 + 4 * word t at)) (omega arith) (omega arith))

-- the runs from `at` on
abbrev pub runs_left : List ℕ → ℕ → Option (List Run)
runs_left t at = runs_from (length t) t at

pub runs_all : (t : List ℕ) → runs_left t 0 ≡ runs_of t
unfolding runs_of
runs_all t = refl

module _ (t : List ℕ) (at : ℕ) where
  -- a place in the trace has bytes before its end
  runs_one : at < length t → runs_left t at ≡ cond (good_run t at) (bind (runs_left t (at + run_length t at)) (λ rs. Some (run_at t at ∷ rs))) None
  unfolding runs_from run_length
  runs_one h =
      let m : ℕ = length t - 1 in
      runs_enough (length t) (suc m) t at (omega arith) (omega arith)
      ∙ ap (λ (b : Bool). cond b (cond (good_run t at) (bind (runs_from m t (at + run_length t at)) (λ rs. Some (run_at t at ∷ rs))) None) (Some [])) (lt-ltb at (length t) h)
      ∙ ap (λ (o : Option (List Run)). cond (good_run t at) (bind o (λ rs. Some (run_at t at ∷ rs))) None) (runs_enough m (length t) t (at + run_length t at) (more h) (omega arith))
    where
      more : at < length t → length t ≤ at + run_length t at + (length t - 1)
      more h = omega arith

  pub runs_turn : at < length t → good_run t at ≡ true → runs_left t at ≡ bind (runs_left t (at + run_length t at)) (λ rs. Some (run_at t at ∷ rs))
  runs_turn h e = runs_one h ∙ rw e

  pub runs_short : at < length t → good_run t at ≡ false → runs_left t at ≡ None
  runs_short h e = runs_one h ∙ rw e

  pub runs_end : length t ≤ at → runs_left t at ≡ Some []
  unfolding runs_from
  runs_end h = runs_enough (length t) 0 t at (omega arith) (omega arith)

-- The places of a string.

sweep_skip : (once : List ℕ → ℕ → Option Step) (left skip : ℕ) (string : List ℕ) (place : ℕ) → sweep once left skip string place ≡ sweep once (left - skip) 0 string (place + skip)
unfolding sweep
sweep_skip once zero skip string place =
    let e : 0 - skip ≡ 0 = omega arith in
    rw e
sweep_skip once (suc left) zero string place =
    let e : suc left - 0 ≡ suc left = omega arith in
    rw (e, add-zero)
sweep_skip once (suc left) (suc skip) string place =
    let e : suc left - suc skip ≡ left - skip = omega arith in
    let f : place + suc skip ≡ place + 1 + skip = omega arith in
    rw (e, f) (sweep_skip once left skip string (place + 1))

-- a lookup at every place from this one on, in a string of n glyphs
abbrev pub sweep_left : (List ℕ → ℕ → Option Step) → ℕ → List ℕ → ℕ → Option (List ℕ)
sweep_left once n string place = sweep once (n - place) 0 string place

-- how far the next place is: past the input, or one on where nothing matched
abbrev pub onward : ℕ → ℕ
onward zero = 1
onward (suc k) = suc k

pub sweep_turn : (once : List ℕ → ℕ → Option Step) (n : ℕ) (string : List ℕ) (place : ℕ) → place < n
    → sweep_left once n string place ≡ bind (once string place) (λ step. sweep_left once n step.string (place + onward step.took))
unfolding sweep bind
sweep_turn once n string place h =
    let e : n - place ≡ suc (n - (place + 1)) = omega arith in
    rw e (step (once string place))
  where
    at_both : (a b c d : ℕ) (s : List ℕ) → a ≡ b → c ≡ d → sweep once a 0 s c ≡ sweep once b 0 s d
    at_both a b c d s p q = rw (p, q)

    on : (took : ℕ) (s : List ℕ) → sweep once (n - (place + 1)) (took - 1) s (place + 1) ≡ sweep_left once n s (place + onward took)
    on zero s = sweep_skip once (n - (place + 1)) (0 - 1) s (place + 1) ∙ at_both (n - (place + 1) - (0 - 1)) (n - (place + 1)) (place + 1 + (0 - 1)) (place + 1) s (omega arith) (omega arith)
    on (suc k) s =
        sweep_skip once (n - (place + 1)) (suc k - 1) s (place + 1) ∙ at_both (n - (place + 1) - (suc k - 1)) (n - (place + suc k)) (place + 1 + (suc k - 1)) (place + suc k) s (omega arith) (omega arith)

    step : (o : Option Step) → bind o (λ step. sweep once (n - (place + 1)) (step.took - 1) step.string (place + 1)) ≡ bind o (λ step. sweep_left once n step.string (place + onward step.took))
    step None = refl
    step (Some s) = on s.took s.string

pub sweep_end : (once : List ℕ → ℕ → Option Step) (n : ℕ) (string : List ℕ) (place : ℕ) → n ≤ place → sweep_left once n string place ≡ Some string
unfolding sweep
sweep_end once n string place h =
    let e : n - place ≡ 0 = omega arith in
    rw e

-- A rule's records, as they stand in a source.

pub records_turn : (once : ℕ → List ℕ → ℕ → Option Step) (s : List ℕ) (at n i : ℕ) (string : List ℕ) (place : ℕ) → i < n
    → run_records once (entries s (at + 4 * i) (n - i)) string place
    ≡ bind (once (word s (at + 4 * i + 2)) string (place + word s (at + 4 * i))) (λ step. run_records once (entries s (at + 4 * (i + 1)) (n - (i + 1))) step.string place)
unfolding entries run_records
records_turn once s at n i string place h =
    let e : n - i ≡ suc (n - (i + 1)) = omega arith in
    let f : at + 4 * (i + 1) ≡ at + 4 * i + 4 = omega arith in
    rw (e, f)

pub records_end : (once : ℕ → List ℕ → ℕ → Option Step) (s : List ℕ) (at n i : ℕ) (string : List ℕ) (place : ℕ) → n ≤ i → run_records once (entries s (at + 4 * i) (n - i)) string place ≡ Some string
unfolding entries run_records
records_end once s at n i string place h =
    let e : n - i ≡ 0 = omega arith in
    rw e

-- The list.

pub order_turn : (ts : List Table) (k n : ℕ) (string : List ℕ) → n < k → in_order ts (up_from n (k - n)) string ≡ bind (sweep_all ts n string) (in_order ts (up_from (n + 1) (k - (n + 1))))
unfolding in_order up_from
order_turn ts k n string h =
    let e : k - n ≡ suc (k - (n + 1)) = omega arith in
    rw e

pub order_end : (ts : List Table) (k n : ℕ) (string : List ℕ) → k ≤ n → in_order ts (up_from n (k - n)) string ≡ Some string
unfolding in_order up_from
order_end ts k n string h =
    let e : k - n ≡ 0 = omega arith in
    rw e

-- No lookup changes how long a string is.

abbrev pub AsLong : List ℕ → Option Step → Type 0
AsLong string o = Opt (λ s. length s.string ≡ length string) o

module _ (once : ℕ → List ℕ → ℕ → Option Step) (k : (n : ℕ) (string : List ℕ) (place : ℕ) → AsLong string (once n string place)) where
  records_long : (rs : List (ℕ × ℕ)) (string : List ℕ) (place : ℕ) → Opt (λ s. length s ≡ length string) (run_records once rs string place)
  unfolding run_records
  records_long [] string place = refl
  records_long (r ∷ rs) string place =
      opt_bind (λ s. length s.string ≡ length string) (λ s. length s ≡ length string) (once r.1 string (place + r.0)) (λ step. run_records once rs step.string place) (k r.1 string (place + r.0))
      (λ s e. subst (λ (m : ℕ). Opt (λ q. length q ≡ m) (run_records once rs s.string place)) e (records_long rs s.string place))

  act_long : (a : Answer) (string : List ℕ) (place : ℕ) → AsLong string (act once a string place)
  unfolding act
  act_long Answer.nothing string place = refl
  act_long (Answer.instead x) string place = length-set string place x
  act_long (Answer.matched n rs) string place =
      opt_bind (λ s. length s ≡ length string) (λ s. length s.string ≡ length string) (run_records once rs string place) (λ s. Some (record { string = s; took = n })) (records_long rs string place) (λ s e. e)

pub apply_long : (depth : ℕ) (ts : List Table) (n : ℕ) (string : List ℕ) (place : ℕ) → AsLong string (apply depth ts n string place)
unfolding apply
apply_long zero ts n string place = tt
apply_long (suc depth) ts n string place = act_long (apply depth ts) (λ m s p. apply_long depth ts m s p) (ask (lookup_at ts n) string place) string place
