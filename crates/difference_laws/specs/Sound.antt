-- The content of a source without a fault: its first glyphs ascend, and so do the second glyphs of its pairs.
use Rattle.std.specs.Prelude.{ℕ, zero, suc, ◌+◌, ◌*◌, ◌≡◌, Bool, length, eqb, Option, None, Some}
use Rattle.std.proofs.Math.Path.{refl, ap}
use Rattle.std.proofs.Common.{sym, ◌∙◌, arith}
use Rattle.std.proofs.Math.Bool.{true, false, cond}
use Rattle.std.proofs.lemmas.Option.{same_Some, none-some}
use mathlib.Core.List.{List, [], ◌∷◌, ◌++◌, map}
use Rattle.meaning.specs.Words.{word, words, inside}
use Rattle.meaning.specs.Parts.{coverage, coverage_sound}
use Rattle.meaning.specs.Tables.{Rule, Ligature, Pair, Table, reach, reaches, field_count, pair_set, pair_table, class_context, cover_context, context, single, table}
use Rattle.meaning.specs.Fault.{fault_through, coverage_fault, pair_set_fault, header_fault, context_fault, pair_fault, fault}
use Rattle.meaning.specs.Cut.{glyphs_of}
use Rattle.laws.specs.Runs.{Up, both}
use Rattle.laws.specs.Stands.{All}
use Rattle.laws.specs.Through.{Opt}
use Rattle.laws.specs.ReadsBack.{fault_is}
use Rattle.laws.specs.SoundGood.{ascends_up, part_sound, coverage_up, one_good, header_good}
use Rattle.differences.specs.Content.{class_runs?, rule_says, one_glyph, ligature_says, four_values, pair_says, set_holds, by_index, by_each_class, covered, content}
use Rattle.differences.specs.Entries.{beside}
use Rattle.difference_laws.specs.Empty.{Beside, Eight, SortedPairs, Sorted}

module _ {A B : Type 0} (say : A → B) where
  -- the first glyphs are the covered ones
  index_glyphs : (cov : List ℕ) (sets : List (Option (List A))) → glyphs_of (by_index say cov sets) ≡ cov
  unfolding by_index glyphs_of
  index_glyphs [] sets = refl
  index_glyphs (g ∷ cov) [] = ap (λ (l : List ℕ). g ∷ l) (index_glyphs cov [])
  index_glyphs (g ∷ cov) (s ∷ sets) = ap (λ (l : List ℕ). g ∷ l) (index_glyphs cov sets)

  -- what stands beside a first glyph is what its set holds
  index_beside : (P : List B → Type 0) (Q : List A → Type 0) → P [] → ((xs : List A) → Q xs → P (map say xs))
      → (cov : List ℕ) (sets : List (Option (List A))) → All (Opt Q) sets → Beside P (by_index say cov sets)
  unfolding by_index beside set_holds
  index_beside P Q none-good some_Good [] sets h k a e = absurd (none-some _ e)
  index_beside P Q none-good some_Good (g ∷ cov) [] h k a e = step (eqb g k) e (index_beside P Q none-good some_Good cov [] h k a)
    where
      step : (b : Bool) → cond b (Some []) (beside (by_index say cov []) k) ≡ Some a → (beside (by_index say cov []) k ≡ Some a → P a) → P a
      step true q f = rw (← same_Some [] a q) none-good
      step false q f = f q
  index_beside P Q none-good some_Good (g ∷ cov) (s ∷ sets) h k a e = step (eqb g k) e (index_beside P Q none-good some_Good cov sets h.1 k a)
    where
      held : (s : Option (List A)) → Opt Q s → P (map say (set_holds s))
      held None q = none-good
      held (Some xs) q = some_Good xs q

      step : (b : Bool) → cond b (Some (map say (set_holds s))) (beside (by_index say cov sets) k) ≡ Some a → (beside (by_index say cov sets) k ≡ Some a → P a) → P a
      step true q f = rw (← same_Some (map say (set_holds s)) a q) (held s h.0)
      step false q f = f q

  class_glyphs : (cs : Option (List (ℕ × ℕ))) (cov : List ℕ) (sets : List (Option (List A))) → glyphs_of (by_each_class say cs cov sets) ≡ cov
  unfolding by_each_class glyphs_of
  class_glyphs cs [] sets = refl
  class_glyphs cs (g ∷ cov) sets = ap (λ (l : List ℕ). g ∷ l) (class_glyphs cs cov sets)

-- pairs
said_seconds : (f1 f2 : ℕ) (ps : List Pair) → glyphs_of (map (pair_says f1 f2) ps) ≡ map (λ p. p.second) ps
unfolding glyphs_of pair_says
said_seconds f1 f2 [] = refl
said_seconds f1 f2 (p ∷ ps) = ap (λ (l : List ℕ). p.second ∷ l) (said_seconds f1 f2 ps)

said_eight : (f1 f2 : ℕ) (ps : List Pair) → Beside Eight (map (pair_says f1 f2) ps)
unfolding beside pair_says four_values
said_eight f1 f2 [] k a e = absurd (none-some _ e)
said_eight f1 f2 (p ∷ ps) k a e = step (eqb p.second k) e (said_eight f1 f2 ps k a)
  where
    vs : List ℕ
    vs = four_values f1 p.first_values ++ four_values f2 p.second_values

    step : (b : Bool) → cond b (Some vs) (beside (map (pair_says f1 f2) ps) k) ≡ Some a → (beside (map (pair_says f1 f2) ps) k ≡ Some a → length a ≡ 8) → length a ≡ 8
    step true q f = ap length (sym (same_Some vs a q))
    step false q f = f q

covered_up : (cover : Option (List ℕ)) → Opt (Up 0) cover → Up 0 (covered cover)
unfolding covered
covered_up None h = tt
covered_up (Some cov) h = h

-- a pair set without a fault: its pairs are sorted
pair_set_sorted : (f1 f2 a b : ℕ) (s : List ℕ) (at : ℕ) → pair_set_fault a b s at ≡ None → SortedPairs (map (pair_says f1 f2) (pair_set a b s at))
unfolding pair_set_fault
pair_set_sorted f1 f2 a b s at h =
    let up = (both (inside s (at + 2) ((2 + 2 * a + 2 * b) * word s at)) _ (both (inside s at 2) _ (part_sound at _ None h).0).1).1 in
    record { ascend = rw (said_seconds f1 f2 (pair_set a b s at)) (ascends_up 0 (map (λ p. p.second) (pair_set a b s at)) up (λ g r e. omega arith)); eight = said_eight f1 f2 (pair_set a b s at) }

-- what offsets reach without a fault
reached_good : {A : Type 0} (P : A → Type 0) (read : ℕ → A) (fault_at : ℕ → Option ℕ) → ((at : ℕ) → fault_at at ≡ None → P (read at)) → (s : List ℕ) (slot n : ℕ) → fault_through fault_at s 0 slot n ≡ None → All (Opt P) (reaches read s 0 slot n)
unfolding reaches fault_through
reached_good P read fault_at k s slot zero h = tt
reached_good P read fault_at k s slot (suc n) h = let q = one_good s P read fault_at k slot n h in (q.0, reached_good P read fault_at k s (slot + 2) n q.1)

-- the coverage that a header reaches without a fault
header_up : (s : List ℕ) (good : Bool) (k slot : ℕ) (fault_at : ℕ → Option ℕ) → header_fault good k slot fault_at s ≡ None → Up 0 (covered (reach (coverage s) s 0 2))
unfolding coverage_fault
header_up s good k slot fault_at h =
    covered_up (reach (coverage s) s 0 2) (one_good s (Up 0) (coverage s) (coverage_fault s) (λ at f. coverage_up s at (part_sound at (coverage_sound s at) None f).0) 2 0 (header_good s good k slot fault_at h).1).0

-- contents by their tables
by_glyph_sorted : (chained : Bool) (cover : Option (List ℕ)) (sets : List (Option (List Rule))) → Up 0 (covered cover) → Sorted (content (Table.by_glyph chained cover sets))
unfolding content
by_glyph_sorted chained cover sets h = rw (index_glyphs (rule_says one_glyph one_glyph one_glyph) (covered cover) sets) h

by_class_sorted : (chained : Bool) (cover : Option (List ℕ)) (b i a : Option (List (ℕ × ℕ))) (sets : List (Option (List Rule))) → Up 0 (covered cover) → Sorted (content (Table.by_class chained cover b i a sets))
unfolding content
by_class_sorted chained cover b i a sets h = rw (class_glyphs (rule_says (class_runs? b) (class_runs? i) (class_runs? a)) i (covered cover) sets) h

by_cover_sorted : (chained : Bool) (b i a : List (Option (List ℕ))) (rs : List (ℕ × ℕ)) → Sorted (content (Table.by_cover chained b i a rs))
unfolding content
by_cover_sorted chained b i a rs = tt

ligatures_sorted : (cover : Option (List ℕ)) (sets : List (Option (List Ligature))) → Up 0 (covered cover) → Sorted (content (Table.ligatures cover sets))
unfolding content
ligatures_sorted cover sets h = rw (index_glyphs ligature_says (covered cover) sets) h

pairs_sorted : (cover : Option (List ℕ)) (f1 f2 : ℕ) (sets : List (Option (List Pair))) → Up 0 (covered cover) → All (Opt (λ ps. SortedPairs (map (pair_says f1 f2) ps))) sets → Sorted (content (Table.pairs_of cover f1 f2 sets))
unfolding content glyphs_of
pairs_sorted cover f1 f2 sets h k = (
  rw (index_glyphs (pair_says f1 f2) (covered cover) sets) h,
  index_beside (pair_says f1 f2) SortedPairs (λ ps. SortedPairs (map (pair_says f1 f2) ps)) (record { ascend = tt; eight = said_eight f1 f2 [] }) (λ ps q. q) (covered cover) sets k,
)

no_pairs : Beside SortedPairs []
unfolding beside
no_pairs k a e = absurd (none-some _ e)

class_pairs_sorted : (cover : Option (List ℕ)) (b a : Option (List (ℕ × ℕ))) (f1 f2 n : ℕ) (rows : List (List Pair)) → Sorted (content (Table.class_pairs cover b a f1 f2 n rows))
unfolding content glyphs_of
class_pairs_sorted cover b a f1 f2 n rows = (tt, no_pairs)

choose : (b : Bool) (p q : Option ℕ) (t u : Table) → (p ≡ None → Sorted (content t)) → (q ≡ None → Sorted (content u)) → cond b p q ≡ None → Sorted (content (cond b t u))
choose true p q t u f k h = f h
choose false p q t u f k h = k h

context_sorted : (chained : Bool) (s : List ℕ) → context_fault chained s ≡ None → Sorted (content (context chained s))
unfolding context context_fault class_context cover_context
context_sorted false s h =
    choose (eqb (word s 0) 1) _ _ _ _ (λ q. by_glyph_sorted false _ _ (header_up s _ 0 4 _ q))
    (choose (eqb (word s 0) 2) _ _ _ _ (λ q. by_class_sorted false _ _ _ _ _ (header_up s _ 1 6 _ q)) (λ q. by_cover_sorted false _ _ _ _)) h
context_sorted true s h =
    choose (eqb (word s 0) 1) _ _ _ _ (λ q. by_glyph_sorted true _ _ (header_up s _ 0 4 _ q))
    (choose (eqb (word s 0) 2) _ _ _ _ (λ q. by_class_sorted true _ _ _ _ _ (header_up s _ 3 10 _ q)) (λ q. by_cover_sorted true _ _ _ _)) h

pair_table_sorted : (s : List ℕ) (good : Bool) → let a = field_count (word s 4) in let b = field_count (word s 6) in
    header_fault good 0 8 (pair_set_fault a b s) s ≡ None → Sorted (content (Table.pairs_of (reach (coverage s) s 0 2) (word s 4) (word s 6) (reaches (pair_set a b s) s 0 10 (word s 8))))
pair_table_sorted s good h =
    let a = field_count (word s 4) in
    let b = field_count (word s 6) in
    pairs_sorted (reach (coverage s) s 0 2) (word s 4) (word s 6) (reaches (pair_set a b s) s 0 10 (word s 8)) (header_up s good 0 8 (pair_set_fault a b s) h)
    (reached_good (λ ps. SortedPairs (map (pair_says (word s 4) (word s 6)) ps)) (pair_set a b s) (pair_set_fault a b s) (pair_set_sorted (word s 4) (word s 6) a b s) s 10 (word s 8)
    (header_good s good 0 8 (pair_set_fault a b s) h).3)

-- a pair table by its format: by class it has no content here
pair_sorted : (s : List ℕ) → pair_fault s ≡ None → Sorted (content (pair_table s))
unfolding pair_fault pair_table
pair_sorted s h = choose (eqb (word s 0) 1) _ _ _ _ (pair_table_sorted s _) (λ q. class_pairs_sorted _ _ _ _ _ _ _) h

single_sorted : (s : List ℕ) → Sorted (content (single s))
unfolding single content glyphs_of
single_sorted s = go (eqb (word s 0) 1)
  where
    go : (b : Bool) → Sorted (content (cond b (Table.single_delta (reach (coverage s) s 0 2) (word s 4)) (Table.single_list (reach (coverage s) s 0 2) (words s 6 (word s 4)))))
    go true = (tt, no_pairs)
    go false = (tt, no_pairs)

-- The content of a source without a fault is sorted.
pub sound_sorted : (kind : ℕ) (s : List ℕ) → fault kind s ≡ None → Sorted (content (table kind s))
unfolding table
sound_sorted kind s h =
    choose (eqb kind 1) _ _ _ _ (context_sorted false s)
    (choose (eqb kind 2) _ _ _ _ (context_sorted true s)
    (choose (eqb kind 3) _ _ _ _ (λ q. ligatures_sorted _ _ (header_up s _ 0 4 _ q))
    (choose (eqb kind 4) _ _ _ _ (pair_sorted s) (λ q. single_sorted s)))) (part_sound 0 (inside s 0 2) _ (sym (fault_is kind s) ∙ h)).1
