-- The ways through the runs of a trace.
use Prim.Native.Nat.{ℕ, ◌+◌, ◌*◌, ◌≤◌, ◌<◌}
use mathlib.Core.Path.{◌≡◌, refl, sym, ap, ◌∙◌}
use mathlib.Core.Bool.{Bool, true, false, true≢false}
use Rattle.std.specs.Prelude.{Option, None, Some, option_map}
use mathlib.Core.List.{List, ◌∷◌}
use native.Mathlib.Omega.{arith}
use lib.ListN.{length}
use Rattle.meaning.specs.Words.{word, is_some, bind}
use Rattle.meaning.specs.Job.{eq_list}
use Rattle.meaning.specs.Tables.{Table}
use Rattle.replaying.specs.Listed.{if_some}
use Rattle.replaying.specs.Applying.{run}
use Rattle.replaying.specs.Trace.{Run, run_at, run_length, good_run, runs_of}
use Rattle.replaying.specs.Replay.{Tally as TallyOf, agreeing, first_out, counted, changed, played, runs_in}
use Rattle.replay_laws.specs.Tallies.{play, in_place}
use Rattle.replay_laws.specs.Turns.{runs_left, runs_all, runs_turn, runs_short, runs_end}
use Rattle.traces.specs.Whole.{Whole}
use Rattle.tallies.specs.Counting.{tally_of, replayed_of}
use Rattle.tallies.specs.declared.Tally.{Tally}
use Rattle.traces.proofs.Tracing.{good_whole}

-- what a change does to the counts
changed_runs : (a : Bool) (t : TallyOf) → (changed a t).runs ≡ t.runs + 1
unfolding changed
changed_runs true t = refl
changed_runs false t = refl

changed_agreements : (a : Bool) (t : TallyOf) → (changed a t).agreements ≤ t.agreements + 1
unfolding changed
changed_agreements true t = omega arith
changed_agreements false t = omega arith

-- one run before others
more_some : (r : Run) (o : Option (List Run)) → is_some (bind o (λ rs. Some (r ∷ rs))) ≡ true → is_some o ≡ true
unfolding is_some bind
more_some r None h = h
more_some r (Some rs) h = refl

more_play : (ts : List Table) (t : TallyOf) (r : Run) (o : Option (List Run)) → is_some (bind o (λ rs. Some (r ∷ rs))) ≡ true
    → play ts t (runs_in (bind o (λ rs. Some (r ∷ rs)))) ≡ if_some (run ts r.given) (record { number = 18; place = 0; tally = t }) (λ s. play ts (changed (eq_list s r.came) t) (runs_in o))
unfolding is_some bind runs_in play
more_play ts t r None h = absurd (true≢false (sym h))
more_play ts t r (Some rs) h = refl

-- What the loop over the trace keeps: the runs that are left change the tally to what all runs give.
pub record Playing (ts : List Table) (trace : List ℕ) (tally : Tally) (at : ℕ) : Type 0 where
  pub few : tally.runs ≤ at
  pub fewer : tally.agreements ≤ tally.runs
  pub within : at ≤ length trace
  pub good : is_some (runs_left trace at) ≡ true
  pub left : play ts (tally_of tally) (runs_in (runs_left trace at)) ≡ played ts (runs_in (runs_of trace))

module _ {ts : List Table} {trace : List ℕ} where
  pub playing_all : is_some (runs_of trace) ≡ true → Playing ts trace (record { runs = 0; agreements = 0; first = 0 }) 0
  unfolding counted agreeing first_out
  playing_all h = record {
    few = omega arith;
    fewer = omega arith;
    within = omega arith;
    good = ap (λ (o : Option (List Run)). is_some o) (runs_all trace) ∙ h;
    left = rw (runs_all trace) (sym (in_place ts (runs_in (runs_of trace))));
  }

  module _ {tally : Tally} {at : ℕ} (k : Playing ts trace tally at) (h : at < length trace) where
    playing_good : good_run trace at ≡ true
    unfolding is_some
    playing_good = go (good_run trace at) refl
      where
        go : (b : Bool) → good_run trace at ≡ b → b ≡ true
        go true e = refl
        go false e = absurd (true≢false (sym k.good ∙ ap (λ (o : Option (List Run)). is_some o) (runs_short trace at h e)))

    pub playing_whole : Whole trace at
    playing_whole = good_whole trace at playing_good

    abbrev rest : Option (List Run)
    rest = runs_left trace (at + (2 + 4 * word trace at))

    first : runs_left trace at ≡ bind rest (λ rs. Some (run_at trace at ∷ rs))
    unfolding run_length
    first = runs_turn trace at h playing_good

    found : is_some (bind rest (λ rs. Some (run_at trace at ∷ rs))) ≡ true
    found = ap (λ (o : Option (List Run)). is_some o) (sym first) ∙ k.good

    whole : if_some (run ts (run_at trace at).given) (record { number = 18; place = 0; tally = tally_of tally }) (λ s. play ts (changed (eq_list s (run_at trace at).came) (tally_of tally)) (runs_in rest)) ≡ played ts (runs_in (runs_of trace))
    whole = sym (more_play ts (tally_of tally) (run_at trace at) rest found) ∙ ap (λ (o : Option (List Run)). play ts (tally_of tally) (runs_in o)) (sym first) ∙ k.left

    -- a run as the trace says it comes out
    abbrev came : List ℕ → Bool
    came s = eq_list s (run_at trace at).came

    -- a lookup goes too deep
    pub playing_deep : None ≡ option_map came (run ts (run_at trace at).given) → replayed_of (record { number = 18; place = 0; tally = tally }) ≡ played ts (runs_in (runs_of trace))
    unfolding if_some
    playing_deep e = go (run ts (run_at trace at).given) e whole
      where
        go : (o : Option (List ℕ)) → None ≡ option_map came o → if_some o (record { number = 18; place = 0; tally = tally_of tally }) (λ s. play ts (changed (came s) (tally_of tally)) (runs_in rest)) ≡ played ts (runs_in (runs_of trace))
            → replayed_of (record { number = 18; place = 0; tally = tally }) ≡ played ts (runs_in (runs_of trace))
        go None p w = w
        go (Some s) p w = absurd (cc)

    -- it does not
    pub playing_turn : {a : Bool} {next : Tally} {n : ℕ} → Some a ≡ option_map came (run ts (run_at trace at).given) → tally_of next ≡ changed a (tally_of tally) → n ≡ word trace at → Playing ts trace next (at + (2 + 4 * n))
    unfolding if_some
    playing_turn {a} {next} {n} e j m =
        let r = ap (λ (x : TallyOf). x.runs) j ∙ changed_runs a (tally_of tally) in
        let s = changed_agreements a (tally_of tally) in
        let u = ap (λ (x : TallyOf). x.agreements) j in
        record {
          few = omega (arith, r, k.few);
          fewer = omega (arith, r, s, u, k.fewer);
          within = omega (arith, m, playing_whole.inside);
          good = rw m (more_some (run_at trace at) rest found);
          left = rw (m, j) (go (run ts (run_at trace at).given) e whole);
        }
      where
        go : (o : Option (List ℕ)) → Some a ≡ option_map came o → if_some o (record { number = 18; place = 0; tally = tally_of tally }) (λ s. play ts (changed (came s) (tally_of tally)) (runs_in rest)) ≡ played ts (runs_in (runs_of trace))
            → play ts (changed a (tally_of tally)) (runs_in rest) ≡ played ts (runs_in (runs_of trace))
        go None p w = absurd (cc)
        go (Some s) p w =
            let y : a ≡ came s = cc in
            rw y w

  pub playing_end : {tally : Tally} {at : ℕ} → Playing ts trace tally at → length trace ≤ at → replayed_of (record { number = 0; place = 0; tally = tally }) ≡ played ts (runs_in (runs_of trace))
  unfolding play runs_in
  playing_end {tally} {at} k h = rw (runs_end trace at h) at k.left
