-- The ways through the pass over sets and rules for a record past its rule.
use Prim.Native.Nat.{ℕ, ◌+◌, ◌*◌, ◌≤◌, ◌<◌}
use mathlib.Core.Path.{◌≡◌, refl, ◌∙◌}
use mathlib.Core.Bool.{Bool, true, false, cond}
use mathlib.Core.List.{List}
use native.Mathlib.Nat.{zero-add}
use lib.ListN.{length}
use lib.Dec.{eqb}
use Rattle.meaning.specs.Words.{word, every}
use Rattle.meaning.specs.Tables.{rule, rule_set, reaches, drop_null}
use Rattle.meaning.specs.Records.{rule_within, sets_within}
use Rattle.laws.specs.EachLeft.{passes, all_pass, Each, each_all, each_next, each_fails, each_end}
use Rattle.gsubgpos.specs.Marks.{Marked}
use Rattle.gsubgpos.specs.Members.{good_rule}

-- What the loop over sets keeps, and what the loop over the rules of the set at `set` keeps besides. `marks₀` is what the loop begins with.
pub record InSets (chained : Bool) (s : List ℕ) (slot n : ℕ) (marks₀ marks : List ℕ) (within : Bool) (i : ℕ) : Type 0 where
  pub good : within ≡ true
  pub each : Each (every rule_within) (rule_set chained s) s 0 slot n i
  pub marked : Marked (good_rule chained s) true marks
  pub long : length marks ≡ length marks₀

pub record InRules (chained : Bool) (s : List ℕ) (slot n : ℕ) (marks₀ marks : List ℕ) (within : Bool) (i set rules k : ℕ) : Type 0 where
  pub sets : InSets chained s slot n marks₀ marks within i
  pub more : i < n
  pub place : set ≡ word s (slot + 2 * i)
  pub near : set < 65536
  pub count : rules ≡ cond (eqb set 0) 0 (word s set)
  pub few : rules < 65536
  pub each : Each rule_within (rule chained s) s set (set + 2) rules k

module _ {chained : Bool} {s : List ℕ} {slot n : ℕ} {marks₀ : List ℕ} where
  pub sets_start : Marked (good_rule chained s) true marks₀ → InSets chained s slot n marks₀ marks₀ true 0
  sets_start m = record { good = refl; each = each_all; marked = m; long = refl }

  pub sets_end : {marks : List ℕ} {within : Bool} {i : ℕ} → InSets chained s slot n marks₀ marks within i → n ≤ i → within ≡ sets_within (reaches (rule_set chained s) s 0 slot n)
  unfolding sets_within
  sets_end k h = k.good ∙ each_end k.each h

  module _ {within : Bool} {i set rules : ℕ} where
    pub rules_start : {first : List ℕ} → InSets chained s slot n first marks₀ within i → i < n → (set ≡ word s (slot + 2 * i)) × (set < 65536) → (rules ≡ cond (eqb set 0) 0 (word s set)) × (rules < 65536)
        → InRules chained s slot n marks₀ marks₀ within i set rules 0
    rules_start k h e f = record { sets = record { good = k.good; each = k.each; marked = k.marked; long = refl }; more = h; place = e.0; near = e.1; count = f.0; few = f.1; each = each_all }

    -- whether the set passes is whether its rules do
    set_passes : {marks : List ℕ} {k : ℕ} → InRules chained s slot n marks₀ marks within i set rules k
        → all_pass rule_within (rule chained s) s set (set + 2) rules ≡ passes (every rule_within) (rule_set chained s) s 0 (slot + 2 * i)
    unfolding rule_set every drop_null reaches
    set_passes c = rw (← c.place, zero-add set, c.count) (step (eqb set 0))
      where
        step : (b : Bool) → all_pass rule_within (rule chained s) s set (set + 2) (cond b 0 (word s set)) ≡ cond b true (all_pass rule_within (rule chained s) s set (set + 2) (word s set))
        step true = refl
        step false = refl

    module _ {marks : List ℕ} {k : ℕ} (c : InRules chained s slot n marks₀ marks within i set rules k) where
      pub rules_next : k < rules → {b : Bool} {next : List ℕ} → (b ≡ passes rule_within (rule chained s) s set (set + 2 + 2 * k)) × Marked (good_rule chained s) true next → b ≡ true → length next ≡ length marks
          → InRules chained s slot n marks₀ next within i set rules (k + 1)
      rules_next h e t l = record {
        sets = record { good = c.sets.good; each = c.sets.each; marked = e.1; long = l ∙ c.sets.long };
        more = c.more;
        place = c.place;
        near = c.near;
        count = c.count;
        few = c.few;
        each = each_next c.each h e.0 t;
      }

      -- a rule with such a record settles it
      pub rules_past : k < rules → {b : Bool} → b ≡ passes rule_within (rule chained s) s set (set + 2 + 2 * k) → b ≡ false → false ≡ sets_within (reaches (rule_set chained s) s 0 slot n)
      unfolding sets_within
      rules_past h e t = each_fails c.sets.each c.more (each_fails c.each h e t ∙ set_passes c) refl

      pub sets_next : rules ≤ k → {first : List ℕ} → length marks₀ ≡ length first → InSets chained s slot n first marks within (i + 1)
      sets_next h l = record { good = c.sets.good; each = each_next c.sets.each c.more (each_end c.each h ∙ set_passes c) refl; marked = c.sets.marked; long = c.sets.long ∙ l }
