-- The content of a source without a fault is of words, and so is a list of differences.
use Rattle.std.specs.Prelude.{ℕ, zero, suc, ◌+◌, ◌≤◌, ◌≡◌, Bool, length, Option, None, Some}
use Rattle.std.proofs.Math.Path.{refl}
use Rattle.std.proofs.Math.Bool.{true, false, cond}
use Rattle.std.proofs.lemmas.Option.{same_Some, none-some}
use mathlib.Core.List.{List, [], ◌∷◌, ◌++◌, map}
use Rattle.std.proofs.Common.{arith}
use Rattle.std.proofs.Math.ListN.{get_or}
use Rattle.std.proofs.lemmas.List.{length-map}
use Rattle.std.proofs.Math.Dec.{eqb}
use borrow.Author.Tests.{eqb-true}
use Rattle.meaning.specs.Words.{word, words, entries, bind}
use Rattle.meaning.specs.Parts.{class_of}
use Rattle.meaning.specs.Tables.{Pair, Table, bit, fields_below, field, reach, reaches, drop_null, rule, rule_set, ligature, ligature_set, pair_table, class_context, cover_context, context, single, table}
use Rattle.meaning.specs.Fault.{fault}
use Rattle.meaning.specs.Subset.{good_kind}
use Rattle.laws.specs.Stands.{All, Word}
use Rattle.laws.specs.Through.{Opt}
use Rattle.laws.specs.PartsBack.{Glyphs}
use Rattle.laws.specs.SetsBack.{GoodPair, GoodPairs}
use Rattle.laws.specs.ReadsBack.{Good}
use Rattle.laws.specs.SoundGood.{Bytes, entries_small, sound_good}
use Rattle.differences.specs.Content.{ligature_says, four_values, pair_says, set_holds, by_index, by_each_class, covered, content}
use Rattle.differences.specs.Entries.{beside}
use Rattle.difference_laws.specs.Small.{SmallBeside, Few, Small}

-- what a set holds, where it holds something good or nothing
held : {A B : Type 0} (say : A → B) (P : List B → Type 0) (Q : List A → Type 0) → P [] → ((xs : List A) → Q xs → P (map say xs)) → (s : Option (List A)) → Opt Q s → P (map say (set_holds s))
unfolding set_holds
held say P Q p f None q = p
held say P Q p f (Some xs) q = f xs q

module _ {A B : Type 0} (say : A → B) (P : List B → Type 0) (Q : List A → Type 0) (p : P []) (f : (xs : List A) → Q xs → P (map say xs)) where
  index_small : (cov : List ℕ) (sets : List (Option (List A))) → All Word cov → All (Opt Q) sets → SmallBeside P (by_index say cov sets)
  unfolding by_index beside
  index_small [] sets w h k a e = absurd (none-some _ e)
  index_small (g ∷ cov) [] w h k a e = step (eqb g k) refl e (index_small cov [] w.1 h k a)
    where
      step : (b : Bool) → eqb g k ≡ b → cond b (Some []) (beside (by_index say cov []) k) ≡ Some a → (beside (by_index say cov []) k ≡ Some a → Word k × P a) → Word k × P a
      step true z q r = (rw (← eqb-true g k z) w.0, rw (← same_Some [] a q) p)
      step false z q r = r q
  index_small (g ∷ cov) (s ∷ sets) w h k a e = step (eqb g k) refl e (index_small cov sets w.1 h.1 k a)
    where
      step : (b : Bool) → eqb g k ≡ b → cond b (Some (map say (set_holds s))) (beside (by_index say cov sets) k) ≡ Some a → (beside (by_index say cov sets) k ≡ Some a → Word k × P a) → Word k × P a
      step true z q r = (rw (← eqb-true g k z) w.0, rw (← same_Some (map say (set_holds s)) a q) (held say P Q p f s h.0))
      step false z q r = r q

  -- the set at any place
  at_place_lem : (sets : List (Option (List A))) → All (Opt Q) sets → (i : ℕ) → Opt Q (get_or sets i None)
  at_place_lem [] h i = tt
  at_place_lem (s ∷ sets) h zero = h.0
  at_place_lem (s ∷ sets) h (suc i) = at_place_lem sets h.1 i

  class_small : (cs : Option (List (ℕ × ℕ))) (cov : List ℕ) (sets : List (Option (List A))) → All Word cov → All (Opt Q) sets → SmallBeside P (by_each_class say cs cov sets)
  unfolding by_each_class beside bind
  class_small cs [] sets w h k a e = absurd (none-some _ e)
  class_small cs (g ∷ cov) sets w h k a e = step (eqb g k) refl e (class_small cs cov sets w.1 h k a)
    where
      chosen : (o : Option (List (ℕ × ℕ))) → Opt Q (bind o (λ t. get_or sets (class_of t g) None))
      chosen None = tt
      chosen (Some t) = at_place_lem sets h (class_of t g)

      step : (b : Bool) → eqb g k ≡ b → cond b (Some (map say (set_holds (bind cs (λ t. get_or sets (class_of t g) None))))) (beside (by_each_class say cs cov sets) k) ≡ Some a
          → (beside (by_each_class say cs cov sets) k ≡ Some a → Word k × P a) → Word k × P a
      step true z q r = (
        rw (← eqb-true g k z) w.0,
        rw (← same_Some (map say (set_holds (bind cs (λ t. get_or sets (class_of t g) None)))) a q) (held say P Q p f (bind cs (λ t. get_or sets (class_of t g) None)) (chosen cs)),
      )
      step false z q r = r q

covered_words : (cover : Option (List ℕ)) → Opt Glyphs cover → All Word (covered cover)
unfolding covered
covered_words None h = tt
covered_words (Some cov) h = h.1

-- said members are as many
few_said : {A B : Type 0} (say : A → B) (xs : List A) → Few xs → Few (map say xs)
few_said say xs h = omega (arith, length-map xs say)

-- Values.

field_small : (f : ℕ) (vs : List ℕ) → All Word vs → (k : ℕ) → Word (field f vs k)
unfolding field
field_small f vs h k = step (eqb (bit f k) 1)
  where
    value : (vs : List ℕ) → All Word vs → (i : ℕ) → Word (get_or vs i 0)
    value [] h i = omega arith
    value (v ∷ vs) h zero = h.0
    value (v ∷ vs) h (suc i) = value vs h.1 i

    step : (b : Bool) → Word (cond b (get_or vs (fields_below f k) 0) 0)
    step true = value vs h (fields_below f k)
    step false = omega arith

pair_words : (f1 f2 a b : ℕ) (p : Pair) → GoodPair a b p → All Word (four_values f1 p.first_values ++ four_values f2 p.second_values)
unfolding four_values
pair_words f1 f2 a b p h =
    let one = field_small f1 p.first_values h.first_values in
    let two = field_small f2 p.second_values h.second_values in
    (one 1, (one 2, (one 4, (one 8, (two 1, (two 2, (two 4, (two 8, tt))))))))

pairs_words : (f1 f2 a b : ℕ) (ps : List Pair) → All (GoodPair a b) ps → SmallBeside (All Word) (map (pair_says f1 f2) ps)
unfolding beside pair_says
pairs_words f1 f2 a b [] h k v e = absurd (none-some _ e)
pairs_words f1 f2 a b (p ∷ ps) h k v e = step (eqb p.second k) refl e (pairs_words f1 f2 a b ps h.1 k v)
  where
    vs : List ℕ
    vs = four_values f1 p.first_values ++ four_values f2 p.second_values

    step : (t : Bool) → eqb p.second k ≡ t → cond t (Some vs) (beside (map (pair_says f1 f2) ps) k) ≡ Some v → (beside (map (pair_says f1 f2) ps) k ≡ Some v → Word k × All Word v) → Word k × All Word v
    step true z q r = (rw (← eqb-true p.second k z) h.0.second, rw (← same_Some vs v q) (pair_words f1 f2 a b p h.0))
    step false z q r = r q

-- Tables.

-- each set has few members
abbrev FewSets : Table → Type 0
FewSets (Table.by_glyph chained cover sets) = All (Opt Few) sets
FewSets (Table.by_class chained cover b i a sets) = All (Opt Few) sets
FewSets (Table.by_cover chained b i a rs) = Unit {0}
FewSets (Table.ligatures cover sets) = All (Opt Few) sets
FewSets (Table.pairs_of cover f1 f2 sets) = Unit {0}
FewSets (Table.class_pairs cover first second f1 f2 n rows) = Unit {0}
FewSets (Table.single_delta cover d) = Unit {0}
FewSets (Table.single_list cover subs) = Unit {0}

no_pairs : {A : Type 0} (P : A → Type 0) → SmallBeside P []
unfolding beside
no_pairs P k a e = absurd (none-some _ e)

table_small : (t : Table) → Good t → FewSets t → Small (content t)
unfolding content
table_small (Table.by_glyph chained cover sets) g f = (omega arith, index_small _ Few Few (omega arith) (few_said _) (covered cover) sets (covered_words cover g.0) f)
table_small (Table.by_class chained cover b i a sets) g f = (omega arith, class_small _ Few Few (omega arith) (few_said _) i (covered cover) sets (covered_words cover g.0) f)
table_small (Table.by_cover chained b i a rs) g f = tt
table_small (Table.ligatures cover sets) g f = (omega arith, index_small ligature_says Few Few (omega arith) (few_said ligature_says) (covered cover) sets (covered_words cover g.0) f)
table_small (Table.pairs_of cover f1 f2 sets) g f =
    index_small (pair_says f1 f2) (SmallBeside (All Word)) (GoodPairs _ _) (no_pairs (All Word)) (λ ps q. pairs_words f1 f2 _ _ ps q.0) (covered cover) sets (covered_words cover g.0) g.3
table_small (Table.class_pairs cover first second f1 f2 n rows) g f = no_pairs (SmallBeside (All Word))
table_small (Table.single_delta cover d) g f = no_pairs (SmallBeside (All Word))
table_small (Table.single_list cover subs) g f = no_pairs (SmallBeside (All Word))

few_cond : (b : Bool) (t u : Table) → FewSets t → FewSets u → FewSets (cond b t u)
few_cond true t u p q = p
few_cond false t u p q = q

reached_all : {A : Type 0} (P : A → Type 0) (read : ℕ → A) → ((at : ℕ) → P (read at)) → (s : List ℕ) (base slot n : ℕ) → All (Opt P) (reaches read s base slot n)
unfolding reaches reach
reached_all P read k s base slot zero = tt
reached_all P read k s base slot (suc n) = (step (eqb (word s slot) 0), reached_all P read k s base (slot + 2) n)
  where
    step : (t : Bool) → Opt P (cond t None (Some (read (base + word s slot))))
    step true = tt
    step false = k (base + word s slot)

dropped_few : {A : Type 0} (read : ℕ → A) (s : List ℕ) (base slot n : ℕ) → length (drop_null (reaches read s base slot n)) ≤ n
unfolding reaches drop_null
dropped_few read s base slot zero = omega arith
dropped_few read s base slot (suc n) = step (reach read s base slot) (dropped_few read s base (slot + 2) n)
  where
    step : (o : Option _) → length (drop_null (reaches read s base (slot + 2) n)) ≤ n → length (drop_null (o ∷ reaches read s base (slot + 2) n)) ≤ suc n
    step None h = omega arith
    step (Some a) h = omega arith

module _ (s : List ℕ) (bytes : Bytes s) where
  word_few : (at : ℕ) → word s at ≤ 65536
  unfolding entries
  word_few at = omega (arith, (entries_small s bytes at 1).0.0)

  rules_few : (chained : Bool) (at : ℕ) → Few (rule_set chained s at)
  unfolding rule_set
  rules_few chained at = omega (arith, dropped_few (rule chained s) s at (at + 2) (word s at), word_few at)

  ligatures_few : (at : ℕ) → Few (ligature_set s at)
  unfolding ligature_set
  ligatures_few at = omega (arith, dropped_few (ligature s) s at (at + 2) (word s at), word_few at)

  context_few : (chained : Bool) → FewSets (context chained s)
  unfolding context class_context cover_context
  context_few false =
      few_cond (eqb (word s 0) 1) _ _ (reached_all Few (rule_set false s) (rules_few false) s 0 6 (word s 4))
      (few_cond (eqb (word s 0) 2) _ _ (reached_all Few (rule_set false s) (rules_few false) s 0 8 (word s 6)) tt)
  context_few true =
      few_cond (eqb (word s 0) 1) _ _ (reached_all Few (rule_set true s) (rules_few true) s 0 6 (word s 4))
      (few_cond (eqb (word s 0) 2) _ _ (reached_all Few (rule_set true s) (rules_few true) s 0 12 (word s 10)) tt)

  pairs_few : FewSets (pair_table s)
  unfolding pair_table
  pairs_few = few_cond (eqb (word s 0) 1) _ _ tt tt

  single_few : FewSets (single s)
  unfolding single
  single_few = few_cond (eqb (word s 0) 1) _ _ tt tt

  table_few : (kind : ℕ) → FewSets (table kind s)
  unfolding table
  table_few kind =
      few_cond (eqb kind 1) _ _ (context_few false)
      (few_cond (eqb kind 2) _ _ (context_few true)
      (few_cond (eqb kind 3) _ _ (reached_all Few (ligature_set s) ligatures_few s 0 6 (word s 4)) (few_cond (eqb kind 4) _ _ pairs_few single_few)))

  -- The content of a source without a fault is of words.
  pub sound_small : (kind : ℕ) → good_kind kind ≡ true → fault kind s ≡ None → Small (content (table kind s))
  sound_small kind k h = table_small (table kind s) (sound_good s bytes kind k h).0 (table_few kind)
