-- The ways through the pass for records past their rule, by the kind and the format.
use Prim.Native.Nat.{ℕ, ◌+◌, ◌*◌}
use mathlib.Core.Path.{◌≡◌, refl}
use mathlib.Core.Bool.{Bool, true, false, cond}
use mathlib.Core.List.{List}
use lib.Dec.{eqb}
use borrow.Author.Tests.{ne_eqb}
use Rattle.meaning.specs.Words.{word, entries}
use Rattle.meaning.specs.Parts.{coverage}
use Rattle.meaning.specs.Tables.{Table, reaches, rule_set, pair_table, class_context, cover_context, context, single, table}
use Rattle.meaning.specs.Records.{indexes_below, sets_within, records_within}
use Rattle.laws.specs.SoundGood.{reaches_length}

-- format 3: one rule, whose records follow its coverages
module _ (s : List ℕ) {t : Bool} where
  pub covers_plain : {n k : ℕ} → n ≡ word s 2 → k ≡ word s 4 → t ≡ indexes_below n (entries s (6 + 2 * n) k) → t ≡ records_within (cover_context false s)
  unfolding cover_context records_within
  covers_plain e f h = rw (reaches_length (coverage s) s 0 6 (word s 2)) (rw (f, e) at h)

  pub covers_chained : {b i a k : ℕ} → b ≡ word s 2 → i ≡ word s (4 + 2 * b) → a ≡ word s (4 + 2 * b + 2 + 2 * i) → k ≡ word s (4 + 2 * b + 2 + 2 * i + 2 + 2 * a)
      → t ≡ indexes_below i (entries s (4 + 2 * b + 2 + 2 * i + 2 + 2 * a + 2) k) → t ≡ records_within (cover_context true s)
  unfolding cover_context records_within
  covers_chained e f g j h = rw (reaches_length (coverage s) s 0 (4 + 2 * word s 2 + 2) (word s (4 + 2 * word s 2))) (rw (j, g, f, e) at h)

  -- format 2: a plain context has one class table, a chained one has three
  pub classes_plain : {n : ℕ} → n ≡ word s 6 → t ≡ sets_within (reaches (rule_set false s) s 0 8 n) → t ≡ records_within (class_context false s)
  unfolding class_context records_within
  classes_plain e h = rw e at h

  pub classes_chained : {n : ℕ} → n ≡ word s 10 → t ≡ sets_within (reaches (rule_set true s) s 0 12 n) → t ≡ records_within (class_context true s)
  unfolding class_context records_within
  classes_chained e h = rw e at h

-- a context by its format
module _ (chained : Bool) (s : List ℕ) {t : Bool} {format : ℕ} (e : format ≡ word s 0) where
  pub within_1 : format ≡ 1 → {n : ℕ} → n ≡ word s 4 → t ≡ sets_within (reaches (rule_set chained s) s 0 6 n) → t ≡ records_within (context chained s)
  unfolding context records_within
  within_1 f g h = rw (← e, f) (rw g at h)

  pub within_2 : format ≡ 2 → t ≡ records_within (class_context chained s) → t ≡ records_within (context chained s)
  unfolding context
  within_2 f h = rw (← e, f) h

  pub within_3 : (format ≡ 1 → ⊥) → (format ≡ 2 → ⊥) → t ≡ records_within (cover_context chained s) → t ≡ records_within (context chained s)
  unfolding context
  within_3 f g h = rw (← e, ne_eqb format 1 f, ne_eqb format 2 g) h

-- a source by its kind: ligatures, pairs and single substitutions have no records
module _ (kind : ℕ) (s : List ℕ) where
  pub within_plain : kind ≡ 1 → {t : Bool} → t ≡ records_within (context false s) → t ≡ records_within (table kind s)
  unfolding table
  within_plain e h = rw e h

  pub within_chain : kind ≡ 2 → {t : Bool} → t ≡ records_within (context true s) → t ≡ records_within (table kind s)
  unfolding table
  within_chain e h = rw e h

  either : (t : Bool) (a b : Table) → true ≡ records_within a → true ≡ records_within b → true ≡ records_within (cond t a b)
  either true a b h k = h
  either false a b h k = k

  pairs_within : true ≡ records_within (pair_table s)
  unfolding pair_table records_within
  pairs_within = either (eqb (word s 0) 1) _ _ refl refl

  singles_within : true ≡ records_within (single s)
  unfolding single records_within
  singles_within = either (eqb (word s 0) 1) _ _ refl refl

  pub within_other : (kind ≡ 1 → ⊥) → (kind ≡ 2 → ⊥) → true ≡ records_within (table kind s)
  unfolding table records_within
  within_other a b = rw (ne_eqb kind 1 a, ne_eqb kind 2 b) (either (eqb kind 3) _ _ refl (either (eqb kind 4) (pair_table s) (single s) pairs_within singles_within))
