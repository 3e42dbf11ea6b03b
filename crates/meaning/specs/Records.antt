-- Records that point past their rule: the source is refused as 12 if a rule or a context of format 3 has one, retained or not.
-- (`unfolding records_within` opens all that it is made of, so that it computes; the definitions before it open nothing but themselves.)
use Rattle.std.specs.Prelude.{ℕ, Bool, true, ◌&&◌, List, length, ltb, Option}
use Rattle.meaning.specs.Words.{every}
use Rattle.meaning.specs.Tables.{Rule, Table, drop_null}

-- each record's sequence index is below the input count
unfoldable pub indexes_below : ℕ → List (ℕ × ℕ) → Bool
indexes_below count records = every (λ e. ltb e.0 count) records

-- so in a rule; with input count 0 it may have no record
unfoldable pub rule_within : Rule → Bool
rule_within r = indexes_below r.count r.records

-- so in each rule of each set that is not null
unfoldable pub sets_within : List (Option (List Rule)) → Bool
sets_within sets = every (every rule_within) (drop_null sets)

-- no record of a table points past its rule; a context of format 3 is one rule, whose input has a coverage for each glyph
unfoldable pub records_within : Table → Bool
unfolding every drop_null indexes_below rule_within sets_within
records_within (Table.by_glyph chained cover sets) = sets_within sets
records_within (Table.by_class chained cover b i a sets) = sets_within sets
records_within (Table.by_cover chained b i a records) = indexes_below (length i) records
records_within (Table.ligatures cover sets) = true
records_within (Table.pairs_of cover f1 f2 sets) = true
records_within (Table.class_pairs cover first second f1 f2 n rows) = true
records_within (Table.single_delta cover d) = true
records_within (Table.single_list cover subs) = true
