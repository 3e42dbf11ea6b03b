-- The ways through the formats of contexts, the kinds of lookups and the list.
use Prim.Native.Nat.{ℕ, ◌*◌}
use mathlib.Core.Path.{◌≡◌, refl}
use mathlib.Core.Bool.{Bool, true, false, cond}
use mathlib.Core.List.{List}
use lib.Dec.{eqb}
use borrow.Author.Tests.{ne_eqb}
use Rattle.meaning.specs.Words.{word, words, entries}
use Rattle.meaning.specs.Parts.{coverage, classes}
use Rattle.meaning.specs.Tables.{Table, field_count, reach, reaches, rule, rule_set, ligature_set, pair_set, cell_rows, pair_table, single, class_context, cover_context, context, table}
use Rattle.rules.specs.Parts.{IsRule}
use Rattle.rules.specs.declared.RuleParts.{RuleParts}
use Rattle.matching.specs.Rows.{IsCovers}
use Rattle.replaying.specs.Cost.{record_steps, rule_steps, sets_steps, table_steps}
use Rattle.lookup_list.specs.Ready.{source_at}

module _ (steps s : List ℕ) {t : ℕ} where
  pub rule_taken : (chained : Bool) (at : ℕ) {r : RuleParts} → IsRule chained s at r → t ≡ record_steps steps (entries s r.records.at r.records.len) → t ≡ rule_steps steps (rule chained s at)
  unfolding rule_steps
  rule_taken chained at k h = rw k.records at h

  pub covers_taken : (chained : Bool) {r : RuleParts} → IsCovers chained s r → t ≡ record_steps steps (entries s r.records.at r.records.len) → t ≡ table_steps steps (cover_context chained s)
  unfolding table_steps
  covers_taken chained k h = rw k.is h

  pub classes_plain : {n : ℕ} → n ≡ word s 6 → t ≡ sets_steps steps (reaches (rule_set false s) s 0 8 n) → t ≡ table_steps steps (class_context false s)
  unfolding class_context table_steps
  classes_plain e h = rw e at h

  pub classes_chained : {n : ℕ} → n ≡ word s 10 → t ≡ sets_steps steps (reaches (rule_set true s) s 0 12 n) → t ≡ table_steps steps (class_context true s)
  unfolding class_context table_steps
  classes_chained e h = rw e at h

  -- a context by its format
  module _ (chained : Bool) {format : ℕ} (e : format ≡ word s 0) where
    pub format_1 : format ≡ 1 → {n : ℕ} → n ≡ word s 4 → t ≡ sets_steps steps (reaches (rule_set chained s) s 0 6 n) → t ≡ table_steps steps (context chained s)
    unfolding context table_steps
    format_1 f g h = rw (← e, f) (rw g at h)

    pub format_2 : format ≡ 2 → t ≡ table_steps steps (class_context chained s) → t ≡ table_steps steps (context chained s)
    unfolding context
    format_2 f h = rw (← e, f) h

    pub format_3 : (format ≡ 1 → ⊥) → (format ≡ 2 → ⊥) → t ≡ table_steps steps (cover_context chained s) → t ≡ table_steps steps (context chained s)
    unfolding context
    format_3 f g h = rw (← e, ne_eqb format 1 f, ne_eqb format 2 g) h

-- pairs and single substitutions take no steps
pairs_taken : (steps s : List ℕ) → 0 ≡ table_steps steps (pair_table s)
unfolding pair_table table_steps
pairs_taken steps s = step (eqb (word s 0) 1)
  where
    step : (b : Bool) → 0 ≡ table_steps steps (cond b (Table.pairs_of (reach (coverage s) s 0 2) (word s 4) (word s 6) (reaches (pair_set (field_count (word s 4)) (field_count (word s 6)) s) s 0 10 (word s 8)))
        (Table.class_pairs (reach (coverage s) s 0 2) (reach (classes s) s 0 8) (reach (classes s) s 0 10) (word s 4) (word s 6) (word s 14) (cell_rows s (field_count (word s 4)) (field_count (word s 6)) (word s 14) 16 (word s 12))))
    step true = refl
    step false = refl

singles_taken : (steps s : List ℕ) → 0 ≡ table_steps steps (single s)
unfolding single table_steps
singles_taken steps s = step (eqb (word s 0) 1)
  where
    step : (b : Bool) → 0 ≡ table_steps steps (cond b (Table.single_delta (reach (coverage s) s 0 2) (word s 4)) (Table.single_list (reach (coverage s) s 0 2) (words s 6 (word s 4))))
    step true = refl
    step false = refl

-- a lookup by its kind
module _ (steps : List ℕ) (kind : ℕ) (s : List ℕ) where
  pub kind_plain : kind ≡ 1 → {t : ℕ} → t ≡ table_steps steps (context false s) → t ≡ table_steps steps (table kind s)
  unfolding table
  kind_plain e h = rw e h

  pub kind_chained : kind ≡ 2 → {t : ℕ} → t ≡ table_steps steps (context true s) → t ≡ table_steps steps (table kind s)
  unfolding table
  kind_chained e h = rw e h

  pub kind_other : (kind ≡ 1 → ⊥) → (kind ≡ 2 → ⊥) → 0 ≡ table_steps steps (table kind s)
  unfolding table table_steps
  kind_other a b = rw (ne_eqb kind 1 a, ne_eqb kind 2 b) (step (eqb kind 3) (eqb kind 4))
    where
      step : (b d : Bool) → 0 ≡ table_steps steps (cond b (Table.ligatures (reach (coverage s) s 0 2) (reaches (ligature_set s) s 0 6 (word s 4))) (cond d (pair_table s) (single s)))
      step true d = refl
      step false true = pairs_taken steps s
      step false false = singles_taken steps s

-- a lookup of the list, by its bytes as they were read
pub source_taken : (steps list buffer : List ℕ) (k : ℕ) {src : List ℕ} {kind t : ℕ} → src ≡ source_at list buffer k → kind ≡ word list (10 * k) → t ≡ table_steps steps (table kind src)
    → t ≡ table_steps steps (table (word list (10 * k)) (source_at list buffer k))
source_taken steps list buffer k e f h = rw (← e, ← f) h
