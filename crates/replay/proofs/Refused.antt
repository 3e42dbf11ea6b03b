-- The ways through the refusals before any run.
use Prim.Native.Nat.{ℕ}
use mathlib.Core.Path.{◌≡◌, sym, ◌∙◌}
use Rattle.std.specs.Prelude.{Option, None, Some}
use mathlib.Core.Bool.{Bool, true, false, not}
use mathlib.Core.List.{List}
use borrow.Author.Tests.{not-true, not-false}
use Rattle.meaning.specs.Words.{is_some}
use Rattle.replaying.specs.Listed.{or_else, listed, good_list, lookups_of, first_refusal, all_named}
use Rattle.replaying.specs.Trace.{runs_of}
use Rattle.replaying.specs.Replay.{Replayed, refusing, refusal, replay, played, runs_in}
use Rattle.replay_laws.specs.Tallies.{refused_first, replays}
use Rattle.lookup_list.specs.Ready.{Ready}
use Rattle.lookup_list.proofs.Readying.{list_ready}

module _ (list buffer trace : List ℕ) {g : Bool} (e : g ≡ good_list list buffer) where
  pub no_list : not g ≡ true → {r : Replayed} → r ≡ refusing (15, 0) → r ≡ replay list buffer trace
  unfolding refusal or_else
  no_list z q = q ∙ sym (refused_first list buffer trace (15, 0) (rw (← e, not-true g z)))

  pub list_good : not g ≡ false → good_list list buffer ≡ true
  list_good z = sym e ∙ not-false g z

  module _ (z : not g ≡ false) {k : Option (ℕ × ℕ)} (f : k ≡ first_refusal buffer (listed list)) where
    pub faulty : {n p : ℕ} → k ≡ Some (n, p) → {r : Replayed} → r ≡ refusing (n, p) → r ≡ replay list buffer trace
    unfolding refusal or_else
    faulty {n} {p} h q = q ∙ sym (refused_first list buffer trace (n, p) (rw (← e, not-false g z, ← f, h)))

    pub ready : k ≡ None → Ready list buffer
    ready h = list_ready list buffer (list_good z) (sym f ∙ rw h)

    module _ (h : k ≡ None) {t : Bool} (i : t ≡ is_some (runs_of trace)) where
      pub short : not t ≡ true → {r : Replayed} → r ≡ refusing (16, 0) → r ≡ replay list buffer trace
      unfolding refusal or_else
      short y q = q ∙ sym (refused_first list buffer trace (16, 0) (rw (← e, not-false g z, ← f, h, ← i, not-true t y)))

      pub trace_good : not t ≡ false → is_some (runs_of trace) ≡ true
      trace_good y = sym i ∙ not-false t y

      module _ (y : not t ≡ false) {a : Bool} (j : a ≡ all_named (lookups_of list buffer)) where
        pub unnamed : not a ≡ true → {r : Replayed} → r ≡ refusing (17, 0) → r ≡ replay list buffer trace
        unfolding refusal or_else
        unnamed x q = q ∙ sym (refused_first list buffer trace (17, 0) (rw (← e, not-false g z, ← f, h, ← i, not-false t y, ← j, not-true a x)))

        pub plays : not a ≡ false → {r : Replayed} → r ≡ played (lookups_of list buffer) (runs_in (runs_of trace)) → r ≡ replay list buffer trace
        unfolding refusal or_else
        plays x q = q ∙ sym (replays list buffer trace (rw (← e, not-false g z, ← f, h, ← i, not-false t y, ← j, not-false a x)))
