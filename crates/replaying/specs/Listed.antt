-- The list of lookups: kind, start and length in the lent buffer, 10 bytes each, as in a job's trailer. What is wrong with it, and with the lookups themselves.
use Rattle.std.specs.Prelude.{ℕ, zero, suc, ◌+◌, ◌/◌, ◌%◌, Bool, true, cond, ◌&&◌, ◌||◌, not, List, [], ◌∷◌, map, length, leb, ltb, eqb, Option, None, Some}
use Rattle.meaning.specs.Words.{word, inside, every}
use Rattle.meaning.specs.Tables.{Rule, Table, drop_null, table}
use Rattle.meaning.specs.Fault.{fault}
use Rattle.meaning.specs.Records.{records_within}
use Rattle.meaning.specs.Subset.{limit, has_format}
use Rattle.meaning.specs.Job.{Part, part_at, bytes_of}

-- the first of two answers
unfoldable pub or_else : {A : Type 0} → Option A → Option A → Option A
or_else None q = q
or_else (Some a) q = Some a

-- what an answer gives, where there is one, and otherwise this
unfoldable pub if_some : {A B : Type 0} → Option A → B → (A → B) → B
if_some None b f = b
if_some (Some a) b f = f a

-- an entry: a lookup's kind, and where its subtable stands in the buffer
pub record Entry : Type 0 where
  pub kind : ℕ
  pub part : Part

-- the entry whose first byte stands at `at`
unfoldable pub entry_at : List ℕ → ℕ → Entry
entry_at list at = record { kind = word list at; part = part_at list (at + 2) }

-- n entries from `at` on
unfoldable pub entries_from : List ℕ → ℕ → ℕ → List Entry
entries_from list at zero = []
entries_from list at (suc n) = entry_at list at ∷ entries_from list (at + 10) n

-- the entries of a list
unfoldable pub listed : List ℕ → List Entry
listed list = entries_from list 0 (length list / 10)

-- the most lookups of a list
unfoldable pub list_limit : ℕ
list_limit = 16

-- a lookup of kind 1, 2 or 5 whose part lies inside the buffer; an empty part may start at its end
unfoldable pub good_entry : List ℕ → Entry → Bool
good_entry buffer e = (eqb e.kind 1 || (eqb e.kind 2 || eqb e.kind 5)) && leb (e.part.start + e.part.len) (length buffer)

-- a whole number of entries, at most 16 of them, each good; otherwise 15
unfoldable pub good_list : List ℕ → List ℕ → Bool
good_list list buffer = eqb (length list % 10) 0 && (leb (length list / 10) list_limit && every (good_entry buffer) (listed list))

-- the bytes of a listed lookup, and what they say
unfoldable pub source_of : List ℕ → Entry → List ℕ
source_of buffer e = bytes_of buffer e.part

unfoldable pub lookup_of : List ℕ → Entry → Table
lookup_of buffer e = table e.kind (source_of buffer e)

-- the lookups of a list, in order
unfoldable pub lookups_of : List ℕ → List ℕ → List Table
lookups_of list buffer = map (lookup_of buffer) (listed list)

-- A refusal is its number and a place, which is 0 save for 6.

-- malformed, with the place of the lowest faulty part
unfoldable pub malformed : Option ℕ → Option (ℕ × ℕ)
malformed None = None
malformed (Some at) = Some (6, at)

-- what is wrong with a lookup: over the limit, a format that its kind has not, malformed, a record past its rule
unfoldable pub lookup_refusal : ℕ → List ℕ → Option (ℕ × ℕ)
lookup_refusal kind s =
    cond (ltb limit (length s)) (Some (4, 0))
    (cond (inside s 0 2 && not (has_format kind (word s 0))) (Some (5, 0))
    (or_else (malformed (fault kind s)) (cond (records_within (table kind s)) None (Some (12, 0)))))

-- what is wrong with the first faulty lookup
unfoldable pub first_refusal : List ℕ → List Entry → Option (ℕ × ℕ)
first_refusal buffer [] = None
first_refusal buffer (e ∷ es) = or_else (lookup_refusal e.kind (source_of buffer e)) (first_refusal buffer es)

-- each record names one of n lookups; otherwise 17
unfoldable pub names_below : ℕ → List (ℕ × ℕ) → Bool
names_below n records = every (λ e. ltb e.1 n) records

-- so in a rule
unfoldable pub rule_names : ℕ → Rule → Bool
rule_names n r = names_below n r.records

-- so in each rule of each set that is not null
unfoldable pub sets_name : ℕ → List (Option (List Rule)) → Bool
sets_name n sets = every (every (rule_names n)) (drop_null sets)

-- so in a table; a context of format 3 is one rule
unfoldable pub records_name : ℕ → Table → Bool
records_name n (Table.by_glyph chained cover sets) = sets_name n sets
records_name n (Table.by_class chained cover b i a sets) = sets_name n sets
records_name n (Table.by_cover chained b i a records) = names_below n records
records_name n (Table.ligatures cover sets) = true
records_name n (Table.pairs_of cover f1 f2 sets) = true
records_name n (Table.class_pairs cover first second f1 f2 m rows) = true
records_name n (Table.single_delta cover d) = true
records_name n (Table.single_list cover subs) = true

-- each record of each lookup names one of the list
unfoldable pub all_named : List Table → Bool
all_named ts = every (records_name (length ts)) ts
