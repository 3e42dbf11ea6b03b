-- The ways through a run.
use Prim.Native.Nat.{ℕ, ◌+◌, ◌*◌}
use mathlib.Core.Path.{◌≡◌, refl}
use mathlib.Core.Bool.{Bool}
use Rattle.std.specs.Prelude.{Option, None, Some, option_map, Result, Ok, Err, IsErr}
use Rattle.std.specs.Result.{result_ok}
use mathlib.Core.List.{List}
use Rattle.meaning.specs.Words.{word, words}
use Rattle.meaning.specs.Job.{eq_list}
use Rattle.meaning.specs.Tables.{Table}
use Rattle.replaying.specs.Applying.{run}
use Rattle.replaying.specs.Trace.{run_at}
use Rattle.steps.specs.Stepping.{Ruled}
use Rattle.steps.specs.declared.TooDeep.{TooDeep}

module _ (ts : List Table) (trace : List ℕ) (at : ℕ) {n : ℕ} (e : n ≡ word trace at) (s : List ℕ) (f : words s 0 n ≡ words trace (at + 2) n) (t : List ℕ) where
  abbrev answer : Option Bool
  answer = option_map (λ u. eq_list u (run_at trace at).came) (run ts (run_at trace at).given)

  given : words s 0 n ≡ (run_at trace at).given
  unfolding run_at
  given = rw (← e) f

  came : words trace (at + 2 + 2 * n) n ≡ (run_at trace at).came
  unfolding run_at
  came = rw e

  pub run_deep : {x : TooDeep} (r : Result Bool TooDeep) → Ruled (run ts (words s 0 n)) n (Err x) t → IsErr r → result_ok r ≡ answer
  run_deep {x} r g z = go r z (run ts (run_at trace at).given) (rw given at g)
    where
      go : (r : Result Bool TooDeep) → IsErr r → (o : Option (List ℕ)) → Ruled o n (Err x) t → result_ok r ≡ option_map (λ u. eq_list u (run_at trace at).came) o
      go (Ok b) z o h = absurd (cc)
      go (Err y) z None h = refl
      go (Err y) z (Some u) h = absurd (cc)

  pub run_done : {u : Unit {0}} → Ruled (run ts (words s 0 n)) n (Ok u) t → {r : Bool} → r ≡ eq_list (words t 0 n) (words trace (at + 2 + 2 * n) n) → Some r ≡ answer
  run_done {u} g {r} k = go (run ts (run_at trace at).given) (rw given at g)
    where
      go : (o : Option (List ℕ)) → Ruled o n (Ok u) t → Some r ≡ option_map (λ u. eq_list u (run_at trace at).came) o
      go None h = absurd (cc)
      go (Some v) h = rw (k, h.1, came)
