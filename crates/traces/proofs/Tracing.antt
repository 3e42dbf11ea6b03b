-- The ways through the runs of a trace.
use Prim.Native.Nat.{ℕ, ◌+◌, ◌-◌, ◌*◌, ◌≤◌, ◌<◌}
use mathlib.Core.Path.{◌≡◌, refl, sym, ap, ◌∙◌}
use mathlib.Core.Bool.{Bool, true, false, not}
use Rattle.std.specs.Prelude.{Option, None, Some}
use mathlib.Core.List.{List, ◌∷◌}
use native.Mathlib.Decide.{dec_lt}
use native.Mathlib.Omega.{arith}
use lib.ListN.{length}
use lib.Dec.{leb}
use borrow.Author.Tests.{not-true, not-false, le-leb, lt-leb, leb-true}
use Rattle.meaning.specs.Words.{word, inside, is_some, bind}
use Rattle.replaying.specs.Applying.{run}
use Rattle.replaying.specs.Trace.{Run, run_at, run_limit, run_length, good_run, runs_of}
use Rattle.replay_laws.specs.Turns.{runs_left, runs_all, runs_turn, runs_short, runs_end}
use Rattle.laws.specs.Runs.{both}
use Rattle.traces.specs.Whole.{Whole}

-- A run of the trace.
module _ (t : List ℕ) (at : ℕ) where
  -- a good run is whole
  pub good_whole : good_run t at ≡ true → Whole t at
  unfolding good_run run_limit run_length inside
  good_whole h =
      let p = both (leb (at + 2) (length t)) _ h in
      let q = both (leb (word t at) 64) _ p.1 in
      record { short = leb-true (word t at) 64 q.0; inside = leb-true (at + (2 + 4 * word t at)) (length t) q.1 }

  module _ (h : at < length t) where
    pub good_cut : length t - at < 2 → false ≡ good_run t at
    unfolding good_run inside
    good_cut l =
        let m : length t < at + 2 = omega arith in
        rw (lt-leb (at + 2) (length t) m)

    module _ (l : 2 ≤ length t - at) {n : ℕ} (e : n ≡ word t at) where
      head : leb (at + 2) (length t) ≡ true
      head =
          let m : at + 2 ≤ length t = omega arith in
          le-leb (at + 2) (length t) m

      pub good_long : 64 < n → false ≡ good_run t at
      unfolding good_run run_limit inside
      good_long m = rw (head, ← e, lt-leb n 64 m)

      pub good_rest : n ≤ 64 → leb (2 + 4 * n) (length t - at) ≡ good_run t at
      unfolding good_run run_limit run_length inside
      good_rest m = rw (head, ← e, le-leb n 64 m) (same (dec_lt (length t - at) (2 + 4 * n)))
        where
          same : Dec (length t - at < 2 + 4 * n) → leb (2 + 4 * n) (length t - at) ≡ leb (at + (2 + 4 * n)) (length t)
          same (yes q) =
              let z : length t < at + (2 + 4 * n) = omega arith in
              rw (lt-leb (2 + 4 * n) (length t - at) q, lt-leb (at + (2 + 4 * n)) (length t) z)
          same (no q) =
              let y : 2 + 4 * n ≤ length t - at = omega arith in
              let z : at + (2 + 4 * n) ≤ length t = omega arith in
              rw (le-leb (2 + 4 * n) (length t - at) y, le-leb (at + (2 + 4 * n)) (length t) z)

-- What the loop of `good_trace` keeps: the runs that are left are good exactly if all are.
pub record Tracing (t : List ℕ) (at : ℕ) : Type 0 where
  pub within : at ≤ length t
  pub left : is_some (runs_left t at) ≡ is_some (runs_of t)

module _ {t : List ℕ} where
  pub tracing_all : Tracing t 0
  tracing_all = record { within = omega arith; left = ap (λ (o : Option (List Run)). is_some o) (runs_all t) }

  module _ {at : ℕ} (k : Tracing t at) (h : at < length t) {b : Bool} (e : b ≡ good_run t at) where
    pub tracing_bad : not b ≡ true → false ≡ is_some (runs_of t)
    unfolding is_some
    tracing_bad z = sym (ap (λ (o : Option (List Run)). is_some o) (runs_short t at h (sym e ∙ not-true b z))) ∙ k.left

    pub tracing_turn : not b ≡ false → {n : ℕ} → n ≡ word t at → Tracing t (at + (2 + 4 * n))
    unfolding is_some bind run_length
    tracing_turn z {n} f =
        let g = sym e ∙ not-false b z in
        record { within = omega (arith, f, (good_whole t at g).inside); left = rw f (sym (more (runs_left t (at + (2 + 4 * word t at)))) ∙ ap (λ (o : Option (List Run)). is_some o) (sym (next g)) ∙ k.left) }
      where
        more : (o : Option (List Run)) → is_some (bind o (λ rs. Some (run_at t at ∷ rs))) ≡ is_some o
        more None = refl
        more (Some rs) = refl

        next : good_run t at ≡ true → runs_left t at ≡ bind (runs_left t (at + (2 + 4 * word t at))) (λ rs. Some (run_at t at ∷ rs))
        next g = runs_turn t at h g

  pub tracing_end : {at : ℕ} → Tracing t at → length t ≤ at → true ≡ is_some (runs_of t)
  unfolding is_some
  tracing_end {at} k h = sym (ap (λ (o : Option (List Run)). is_some o) (runs_end t at h)) ∙ k.left
