-- Which answer is given exactly when, and what a refusal leaves.
use Rattle.std.specs.Prelude.{ℕ, ◌≡◌, Bool, ◌&&◌, not, List, [], ◌∷◌, length, ltb, Option, None, Some}
use Rattle.std.proofs.Math.Path.{refl, ap}
use Rattle.std.proofs.Common.{sym, ◌∙◌, true≢false, arith}
use Rattle.std.proofs.Math.Bool.{true, false, cond}
use Rattle.laws.specs.Through.{Opt}
use Rattle.meaning.specs.Words.{inside, word, is_some}
use Rattle.meaning.specs.Fault.{fault}
use Rattle.meaning.specs.Tables.{Table, table}
use Rattle.meaning.specs.Records.{records_within}
use Rattle.meaning.specs.Subset.{limit, has_format}
use Rattle.replaying.specs.Listed.{or_else, malformed, lookup_refusal, first_refusal, good_list, listed, source_of, Entry, lookups_of, all_named}
use Rattle.replaying.specs.Trace.{Run, runs_of}
use Rattle.replaying.specs.Replay.{Tally, Replayed, counted, shallow, played, refusing, refusal, runs_in, replay}
use Rattle.replay_laws.specs.Tallies.{refused_first, replays}

-- a refusal before any run has a number that is neither 0 nor 18, and a place of 0 save with 6
pub record Early (r : ℕ × ℕ) : Type 0 where
  pub not_0 : r.0 ≡ 0 → ⊥
  pub not_18 : r.0 ≡ 18 → ⊥
  pub no_place : (r.0 ≡ 6 → ⊥) → r.1 ≡ 0

or_early : (o q : Option (ℕ × ℕ)) → Opt Early o → Opt Early q → Opt Early (or_else o q)
unfolding or_else
or_early None q h k = k
or_early (Some r) q h k = h

-- 15, 16, 17, 4, 5 and 12, each where a test says so
test_early : (b : Bool) (n : ℕ) → (n ≡ 0 → ⊥) → (n ≡ 18 → ⊥) → Opt Early (cond b None (Some (n, 0)))
test_early true n h k = tt
test_early false n h k = record { not_0 = h; not_18 = k; no_place = λ q. refl }

first_early : (b : Bool) (n : ℕ) (o : Option (ℕ × ℕ)) → (n ≡ 0 → ⊥) → (n ≡ 18 → ⊥) → Opt Early o → Opt Early (cond b (Some (n, 0)) o)
first_early true n o h k e = record { not_0 = h; not_18 = k; no_place = λ q. refl }
first_early false n o h k e = e

malformed_early : (o : Option ℕ) → Opt Early (malformed o)
unfolding malformed
malformed_early None = tt
malformed_early (Some at) = record { not_0 = λ q. omega arith; not_18 = λ q. omega arith; no_place = λ q. absurd (q refl) }

lookup_early : (kind : ℕ) (s : List ℕ) → Opt Early (lookup_refusal kind s)
unfolding lookup_refusal
lookup_early kind s =
    let last : Option (ℕ × ℕ) = cond (records_within (table kind s)) None (Some (12, 0)) in
    let rest : Option (ℕ × ℕ) = or_else (malformed (fault kind s)) last in
    let other = inside s 0 2 && not (has_format kind (word s 0)) in
    first_early (ltb limit (length s)) 4 (cond other (Some (5, 0)) rest) (λ q. omega arith) (λ q. omega arith)
    (first_early other 5 rest (λ q. omega arith) (λ q. omega arith)
    (or_early (malformed (fault kind s)) last (malformed_early (fault kind s)) (test_early (records_within (table kind s)) 12 (λ q. omega arith) (λ q. omega arith))))

lookups_early : (buffer : List ℕ) (es : List Entry) → Opt Early (first_refusal buffer es)
unfolding first_refusal
lookups_early buffer [] = tt
lookups_early buffer (e ∷ es) = or_early (lookup_refusal e.kind (source_of buffer e)) (first_refusal buffer es) (lookup_early e.kind (source_of buffer e)) (lookups_early buffer es)

module _ (list buffer trace : List ℕ) where
  pub refusal_early : Opt Early (refusal list buffer trace)
  unfolding refusal
  refusal_early =
      let named : Option (ℕ × ℕ) = cond (all_named (lookups_of list buffer)) None (Some (17, 0)) in
      let short : Option (ℕ × ℕ) = or_else (cond (is_some (runs_of trace)) None (Some (16, 0))) named in
      let faulty : Option (ℕ × ℕ) = or_else (first_refusal buffer (listed list)) short in
      or_early (cond (good_list list buffer) None (Some (15, 0))) faulty (test_early (good_list list buffer) 15 (λ q. omega arith) (λ q. omega arith))
      (or_early (first_refusal buffer (listed list)) short (lookups_early buffer (listed list))
      (or_early (cond (is_some (runs_of trace)) None (Some (16, 0))) named (test_early (is_some (runs_of trace)) 16 (λ q. omega arith) (λ q. omega arith))
      (test_early (all_named (lookups_of list buffer)) 17 (λ q. omega arith) (λ q. omega arith))))

  -- the lookups and the runs
  abbrev ts : List Table
  ts = lookups_of list buffer

  abbrev rs : List Run
  rs = runs_in (runs_of trace)

  -- what is told of an answer by the refusal before any run, and by whether a run goes too deep
  told : (P : Replayed → Type 0) → ((r : ℕ × ℕ) → refusal list buffer trace ≡ Some r → Early r → P (refusing r)) → (refusal list buffer trace ≡ None → P (played ts rs)) → P (replay list buffer trace)
  told P f k = go (refusal list buffer trace) refl refusal_early
    where
      go : (o : Option (ℕ × ℕ)) → refusal list buffer trace ≡ o → Opt Early o → P (replay list buffer trace)
      go None e h = rw (replays list buffer trace e) (k e)
      go (Some r) e h = rw (refused_first list buffer trace r e) (f r e h)

  -- `done_exactly`: 0 is given exactly if nothing is refused before any run and no run goes too deep, and 18 exactly if nothing is and one does.
  pub done_exactly : ((replay list buffer trace).number ≡ 0 → (refusal list buffer trace ≡ None) × (shallow ts rs ≡ true))
      × ((refusal list buffer trace ≡ None) × (shallow ts rs ≡ true) → (replay list buffer trace).number ≡ 0)
  unfolding refusing played
  done_exactly = (
    told (λ a. a.number ≡ 0 → (refusal list buffer trace ≡ None) × (shallow ts rs ≡ true)) (λ r e h q. absurd (h.not_0 q)) (λ e q. (e, zero_shallow (shallow ts rs) q)),
    λ h. ap (λ (a : Replayed). a.number) (replays list buffer trace h.0) ∙ ap (λ (b : Bool). cond b 0 18) h.1,
  )
    where
      zero_shallow : (b : Bool) → cond {A = ℕ} b 0 18 ≡ 0 → b ≡ true
      zero_shallow true q = refl
      zero_shallow false q = absurd (omega arith)

  pub deep_exactly : ((replay list buffer trace).number ≡ 18 → (refusal list buffer trace ≡ None) × (shallow ts rs ≡ false))
      × ((refusal list buffer trace ≡ None) × (shallow ts rs ≡ false) → (replay list buffer trace).number ≡ 18)
  unfolding refusing played
  deep_exactly = (
    told (λ a. a.number ≡ 18 → (refusal list buffer trace ≡ None) × (shallow ts rs ≡ false)) (λ r e h q. absurd (h.not_18 q)) (λ e q. (e, deep (shallow ts rs) q)),
    λ h. ap (λ (a : Replayed). a.number) (replays list buffer trace h.0) ∙ ap (λ (b : Bool). cond b 0 18) h.1,
  )
    where
      deep : (b : Bool) → cond {A = ℕ} b 0 18 ≡ 18 → b ≡ false
      deep true q = absurd (omega arith)
      deep false q = refl

  -- any other number is that of a refusal before any run, with a tally of 0, 0, 0
  pub refused_tally : ((replay list buffer trace).number ≡ 0 → ⊥) → ((replay list buffer trace).number ≡ 18 → ⊥)
      → (refusal list buffer trace ≡ Some ((replay list buffer trace).number, (replay list buffer trace).place)) × ((replay list buffer trace).tally ≡ counted [])
  unfolding refusing played
  refused_tally =
      told (λ a. (a.number ≡ 0 → ⊥) → (a.number ≡ 18 → ⊥) → (refusal list buffer trace ≡ Some (a.number, a.place)) × (a.tally ≡ counted [])) (λ r e h p q. (e, refl)) (λ e p q. absurd (neither (shallow ts rs) p q))
    where
      neither : (b : Bool) → (cond {A = ℕ} b 0 18 ≡ 0 → ⊥) → (cond {A = ℕ} b 0 18 ≡ 18 → ⊥) → ⊥
      neither true p q = p refl
      neither false p q = q refl

  -- the place is 0, save with 6
  pub no_place : ((replay list buffer trace).number ≡ 6 → ⊥) → (replay list buffer trace).place ≡ 0
  unfolding refusing played
  no_place = told (λ a. (a.number ≡ 6 → ⊥) → a.place ≡ 0) (λ r e h p. h.no_place p) (λ e p. refl)
