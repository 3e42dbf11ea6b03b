-- How large the number and the place of an answer can be.
use Prim.Native.Nat.{ℕ, zero, suc, ◌≤◌, ◌<◌}
use mathlib.Core.Path.{◌≡◌, refl}
use mathlib.Core.Bool.{Bool, true, false, cond, ◌&&◌, not}
use Rattle.std.specs.Prelude.{Option, None, Some, unwrap_or}
use mathlib.Core.List.{List, [], ◌∷◌}
use native.Mathlib.Omega.{arith}
use lib.ListN.{length, get_or, take, drop}
use lib.Dec.{ltb}
use Rattle.meaning.specs.Words.{word, inside, is_some}
use Rattle.meaning.specs.Tables.{table}
use Rattle.meaning.specs.Fault.{fault}
use Rattle.meaning.specs.Records.{records_within}
use Rattle.meaning.specs.Subset.{limit, has_format}
use Rattle.meaning.specs.Job.{bytes_of}
use Rattle.replaying.specs.Listed.{or_else, Entry, listed, good_list, source_of, lookups_of, malformed, lookup_refusal, first_refusal, all_named}
use Rattle.replaying.specs.Trace.{runs_of}
use Rattle.replaying.specs.Replay.{shallow, played, refusing, refusal, runs_in, replay}
use Rattle.replay_laws.specs.Tallies.{refused_first, replays}
use Rattle.checks.specs.Near.{place_near}

-- the bytes of a part
take_bytes : (n : ℕ) (s : List ℕ) → ((i : ℕ) → get_or s i 0 < 256) → (i : ℕ) → get_or (take n s) i 0 < 256
take_bytes zero s h i = omega arith
take_bytes (suc n) [] h i = omega arith
take_bytes (suc n) (b ∷ s) h zero = h 0
take_bytes (suc n) (b ∷ s) h (suc i) = take_bytes n s (λ k. h (suc k)) i

drop_bytes : (n : ℕ) (s : List ℕ) → ((i : ℕ) → get_or s i 0 < 256) → (i : ℕ) → get_or (drop n s) i 0 < 256
drop_bytes zero s h i = h i
drop_bytes (suc n) [] h i = omega arith
drop_bytes (suc n) (b ∷ s) h i = drop_bytes n s (λ k. h (suc k)) i

source_bytes : (buffer : List ℕ) (e : Entry) → ((i : ℕ) → get_or buffer i 0 < 256) → (i : ℕ) → get_or (source_of buffer e) i 0 < 256
unfolding source_of bytes_of
source_bytes buffer e h = take_bytes e.part.len (drop e.part.start buffer) (drop_bytes e.part.start buffer h)

-- a refusal's number and place are small
abbrev Small : Option (ℕ × ℕ) → Type 0
Small None = Unit {0}
Small (Some r) = (r.0 ≤ 18) × (r.1 ≤ 131070)

or_small : (o q : Option (ℕ × ℕ)) → Small o → Small q → Small (or_else o q)
unfolding or_else
or_small None q h k = k
or_small (Some r) q h k = h

test_small : (b : Bool) (n : ℕ) → n ≤ 18 → Small (cond b None (Some (n, 0)))
test_small true n h = tt
test_small false n h = (h, omega arith)

first_small : (b : Bool) (n : ℕ) (o : Option (ℕ × ℕ)) → n ≤ 18 → Small o → Small (cond b (Some (n, 0)) o)
first_small true n o h k = (h, omega arith)
first_small false n o h k = k

malformed_small : (o : Option ℕ) → unwrap_or o 0 ≤ 131070 → Small (malformed o)
unfolding malformed
malformed_small None h = tt
malformed_small (Some at) h = (omega arith, h)

lookup_small : (kind : ℕ) (s : List ℕ) → ((i : ℕ) → get_or s i 0 < 256) → Small (lookup_refusal kind s)
unfolding lookup_refusal
lookup_small kind s h =
    let last : Option (ℕ × ℕ) = cond (records_within (table kind s)) None (Some (12, 0)) in
    let rest : Option (ℕ × ℕ) = or_else (malformed (fault kind s)) last in
    let other = inside s 0 2 && not (has_format kind (word s 0)) in
    first_small (ltb limit (length s)) 4 (cond other (Some (5, 0)) rest) (omega arith)
    (first_small other 5 rest (omega arith) (or_small (malformed (fault kind s)) last (malformed_small (fault kind s) (place_near s h kind)) (test_small (records_within (table kind s)) 12 (omega arith))))

lookups_small : (buffer : List ℕ) → ((i : ℕ) → get_or buffer i 0 < 256) → (es : List Entry) → Small (first_refusal buffer es)
unfolding first_refusal
lookups_small buffer h [] = tt
lookups_small buffer h (e ∷ es) = or_small (lookup_refusal e.kind (source_of buffer e)) (first_refusal buffer es) (lookup_small e.kind (source_of buffer e) (source_bytes buffer e h)) (lookups_small buffer h es)

module _ (list buffer trace : List ℕ) (h : (i : ℕ) → get_or buffer i 0 < 256) where
  refusal_small : Small (refusal list buffer trace)
  unfolding refusal
  refusal_small =
      let named : Option (ℕ × ℕ) = cond (all_named (lookups_of list buffer)) None (Some (17, 0)) in
      let short : Option (ℕ × ℕ) = or_else (cond (is_some (runs_of trace)) None (Some (16, 0))) named in
      let faulty : Option (ℕ × ℕ) = or_else (first_refusal buffer (listed list)) short in
      or_small (cond (good_list list buffer) None (Some (15, 0))) faulty (test_small (good_list list buffer) 15 (omega arith))
      (or_small (first_refusal buffer (listed list)) short (lookups_small buffer h (listed list))
      (or_small (cond (is_some (runs_of trace)) None (Some (16, 0))) named (test_small (is_some (runs_of trace)) 16 (omega arith)) (test_small (all_named (lookups_of list buffer)) 17 (omega arith))))

  pub answer_small : ((replay list buffer trace).number ≤ 18) × ((replay list buffer trace).place ≤ 131070)
  unfolding refusing played
  answer_small = go (refusal list buffer trace) refl refusal_small
    where
      deep : (b : Bool) → cond b 0 18 ≤ 18
      deep true = omega arith
      deep false = omega arith

      go : (o : Option (ℕ × ℕ)) → refusal list buffer trace ≡ o → Small o → ((replay list buffer trace).number ≤ 18) × ((replay list buffer trace).place ≤ 131070)
      go None e s = rw (replays list buffer trace e) (deep (shallow (lookups_of list buffer) (runs_in (runs_of trace))), omega arith)
      go (Some r) e s = rw (refused_first list buffer trace r e) s
