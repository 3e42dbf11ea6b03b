-- The replay: the refusals before any run, the runs, and the tally.
use Rattle.std.specs.Prelude.{ℕ, ◌+◌, Bool, true, false, cond, ◌&&◌, List, [], ◌∷◌, length, eqb, Option, None, Some}
use Rattle.meaning.specs.Words.{word, inside, every, is_some, eq_list}
use Rattle.meaning.specs.Tables.{Table, drop_null, table}
use Rattle.meaning.specs.Fault.{fault}
use Rattle.meaning.specs.Records.{records_within}
use Rattle.meaning.specs.Subset.{limit, last_format, has_format}
use Rattle.meaning.specs.Job.{long, part_at, bytes_of}
use Rattle.replaying.specs.Listed.{or_else, if_some, entry_at, entries_from, listed, list_limit, good_entry, good_list, source_of, lookup_of, lookups_of, malformed, lookup_refusal, first_refusal, names_below, rule_names, sets_name, records_name, all_named}
use Rattle.replaying.specs.Trace.{Run, runs_of}
use Rattle.replaying.specs.Applying.{run}

-- the tally: how many runs, how many agreed, and the first that did not, from 1; 0 if none
pub record Tally : Type 0 where
  pub runs : ℕ
  pub agreements : ℕ
  pub first : ℕ

-- what a replay gives back
pub record Replayed : Type 0 where
  pub number : ℕ
  pub place : ℕ
  pub tally : Tally

-- how many agreed
unfoldable pub agreeing : List Bool → ℕ
agreeing [] = 0
agreeing (true ∷ vs) = agreeing vs + 1
agreeing (false ∷ vs) = agreeing vs

-- the first that did not agree, from 1; 0 if none
unfoldable pub first_out : List Bool → ℕ
first_out [] = 0
first_out (false ∷ vs) = 1
first_out (true ∷ vs) = cond (eqb (first_out vs) 0) 0 (first_out vs + 1)

-- what is counted over runs that agreed or not
unfoldable pub counted : List Bool → Tally
counted vs = record { runs = length vs; agreements = agreeing vs; first = first_out vs }

-- the tally as one more run changes it, in place: that it agreed, or not
unfoldable pub changed : Bool → Tally → Tally
changed true t = record { runs = t.runs + 1; agreements = t.agreements + 1; first = t.first }
changed false t = record { runs = t.runs + 1; agreements = t.agreements; first = cond (eqb t.first 0) (t.runs + 1) t.first }

-- the runs up to the first that goes too deep: whether each agreed with what came out
unfoldable pub verdicts : List Table → List Run → List Bool
verdicts ts [] = []
verdicts ts (r ∷ rs) = if_some (run ts r.given) [] (λ s. eq_list s r.came ∷ verdicts ts rs)

-- none goes too deep
unfoldable pub shallow : List Table → List Run → Bool
shallow ts [] = true
shallow ts (r ∷ rs) = is_some (run ts r.given) && shallow ts rs

-- all runs; 18 if one goes too deep, with the tally as before that run
unfoldable pub played : List Table → List Run → Replayed
played ts rs = record { number = cond (shallow ts rs) 0 18; place = 0; tally = counted (verdicts ts rs) }

-- a refusal before any run: the tally is at 0, 0, 0
unfoldable pub refusing : ℕ × ℕ → Replayed
refusing r = record { number = r.0; place = r.1; tally = counted [] }

-- the refusals in order: 15; then 4, 5, 6 or 12 for the first faulty lookup; 16; 17
unfoldable pub refusal : List ℕ → List ℕ → List ℕ → Option (ℕ × ℕ)
refusal list buffer trace =
    or_else (cond (good_list list buffer) None (Some (15, 0)))
    (or_else (first_refusal buffer (listed list))
    (or_else (cond (is_some (runs_of trace)) None (Some (16, 0)))
    (cond (all_named (lookups_of list buffer)) None (Some (17, 0)))))

-- the runs that there are
unfoldable pub runs_in : Option (List Run) → List Run
runs_in None = []
runs_in (Some rs) = rs

-- the replay of a trace over a list of lookups in a buffer
unfoldable pub replay : List ℕ → List ℕ → List ℕ → Replayed
unfolding word inside every is_some drop_null table fault records_within limit last_format has_format long part_at bytes_of eq_list or_else if_some entry_at entries_from listed list_limit good_entry good_list source_of lookup_of lookups_of malformed lookup_refusal first_refusal names_below rule_names sets_name records_name all_named runs_of run agreeing first_out counted verdicts shallow played refusing refusal runs_in
replay list buffer trace = if_some (refusal list buffer trace) (played (lookups_of list buffer) (runs_in (runs_of trace))) refusing
