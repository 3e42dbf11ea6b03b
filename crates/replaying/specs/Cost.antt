-- How many steps a replay may take at most, reckoned from the list before any run. A step is one lookup, asked at one place.
use Rattle.std.specs.Prelude.{ℕ, zero, suc, ◌+◌, cond, List, [], ◌∷◌, map, get_or, ltb, eqb, Option}
use Rattle.meaning.specs.Tables.{Rule, Table, drop_null}
use Rattle.replaying.specs.Listed.{lookups_of}
use Rattle.replaying.specs.Applying.{depth_limit}
use Rattle.replaying.specs.Replay.{replay}

-- steps are counted up to 2⁶³, which stands for itself and for any number above it
unfoldable pub step_limit : ℕ
step_limit = 0x8000_0000_0000_0000

-- a number of steps, cut off there
unfoldable pub cut_off : ℕ → ℕ
cut_off n = cond (ltb n step_limit) n step_limit

-- the larger of two
unfoldable pub larger : ℕ → ℕ → ℕ
larger a b = cond (ltb a b) b a

-- the largest that the members of a list give; 0 where there is none
unfoldable pub largest : {A : Type 0} → (A → ℕ) → List A → ℕ
largest f [] = 0
largest f (a ∷ rest) = larger (f a) (largest f rest)

-- what a lookup takes by its place in the list, where the listed ones take these; one past the list is asked and matches nowhere
unfoldable pub steps_of : List ℕ → ℕ → ℕ
steps_of steps n = get_or steps n 1

-- what the records of a rule take together: each runs the lookup that it names
unfoldable pub record_steps : List ℕ → List (ℕ × ℕ) → ℕ
record_steps steps [] = 0
record_steps steps (r ∷ rs) = cut_off (steps_of steps r.1 + record_steps steps rs)

-- so of a rule
unfoldable pub rule_steps : List ℕ → Rule → ℕ
rule_steps steps r = record_steps steps r.records

-- the most that a rule of these sets takes
unfoldable pub sets_steps : List ℕ → List (Option (List Rule)) → ℕ
sets_steps steps sets = largest (largest (rule_steps steps)) (drop_null sets)

-- the most that a rule of a table takes: at a place one rule runs, or none
unfoldable pub table_steps : List ℕ → Table → ℕ
table_steps steps (Table.by_glyph chained cover sets) = sets_steps steps sets
table_steps steps (Table.by_class chained cover b i a sets) = sets_steps steps sets
table_steps steps (Table.by_cover chained b i a records) = record_steps steps records
table_steps steps (Table.ligatures cover sets) = 0
table_steps steps (Table.pairs_of cover f1 f2 sets) = 0
table_steps steps (Table.class_pairs cover first second f1 f2 m rows) = 0
table_steps steps (Table.single_delta cover d) = 0
table_steps steps (Table.single_list cover subs) = 0

-- asking a lookup, and what its rule takes
unfoldable pub lookup_steps : List ℕ → Table → ℕ
lookup_steps steps t = cut_off (1 + table_steps steps t)

-- what each listed lookup takes at a place, where this many levels may be run, its own counted
unfoldable pub level_steps : ℕ → List Table → List ℕ
level_steps zero ts = map (λ t. 0) ts
level_steps (suc depth) ts = map (lookup_steps (level_steps depth ts)) ts

-- numbers of steps together
unfoldable pub sum_steps : List ℕ → ℕ
sum_steps [] = 0
sum_steps (n ∷ ns) = cut_off (n + sum_steps ns)

-- the most steps that a run takes for each of its glyphs: every listed lookup once
unfoldable pub list_steps : List Table → ℕ
list_steps ts = sum_steps (level_steps depth_limit ts)

-- what the call gives: number and place as the replay of a trace without runs has them, and the steps; 0 with a refusal
pub record Cost : Type 0 where
  pub number : ℕ
  pub place : ℕ
  pub steps : ℕ

unfoldable pub replay_cost : List ℕ → List ℕ → Cost
unfolding drop_null lookups_of depth_limit replay step_limit cut_off larger largest steps_of record_steps rule_steps sets_steps table_steps lookup_steps level_steps sum_steps list_steps
replay_cost list buffer =
    let r = replay list buffer [] in
    record { number = r.number; place = r.place; steps = cond (eqb r.number 0) (list_steps (lookups_of list buffer)) 0 }
