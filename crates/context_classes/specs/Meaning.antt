-- Format 2 as its source says it, and what the definitions say is left of it.
use Rattle.std.specs.Prelude.{ℕ, ◌+◌, ◌*◌, ◌≤◌, ◌<◌, ◌≡◌, refl, Bool, true, false, cond, List, [], ◌∷◌, map, length, get_or, eqb, Option, None, Some}
use Rattle.std.proofs.Math.Path.{sym, ap}
use Rattle.std.proofs.Common.{◌∙◌, subst, zero-add}
use borrow.Author.Tests.{eq-eqb, ne_eqb}
use Rattle.meaning.specs.Words.{word, bind, keys, member}
use Rattle.meaning.specs.Parts.{coverage, coverage_sound, classes, listed}
use Rattle.meaning.specs.Tables.{Table, Rule, reach, reaches, rule_set, class_context}
use Rattle.meaning.specs.Fault.{rule_fault, set_fault}
use Rattle.meaning.specs.Cut.{RuleMaps, cut, cut_set, held_by, class_map, class_map?, new_classes?, new_coverage, retained, slots, trim, kept_by_class}
use Rattle.meaning.specs.Layout.{block, coverage_words, class_words, rule_words, set_words}
use Rattle.meaning.specs.Subset.{refused, limit, written_in}
use Rattle.laws.specs.Through.{Opt}
use Rattle.laws.specs.ReadsBack.{Good, kind_of}
use Rattle.laws.specs.CutGood.{GoodMap, Values, GoodOf}
use Rattle.laws.specs.CutTables.{cut_good}
use Rattle.class_stretches.specs.Tables.{table_at, classes_at, NullOrSound, table_there}
use Rattle.class_spots.specs.SlotWalk.{trim_blocks}
use Rattle.class_places.specs.Places.{back_at, input_at, ahead_at, slots_at}
use Rattle.class_spots.specs.Sets.{count_at}
use Rattle.class_finish.specs.Table.{table_into}
use Rattle.context_classes.specs.Layouts.{laid_class}

-- A context by class that the check let through: it is not over the limit, its offsets lie inside, and its coverage, its class tables and its sets are sound.
pub record SoundContext (chained : Bool) (s : List ℕ) : Type 0 where
  pub short : length s ≤ limit
  pub header : slots_at chained + 2 * count_at s (slots_at chained) ≤ length s
  pub cover : (word s 2 ≡ 0 → ⊥) → coverage_sound s (word s 2) ≡ true
  pub back : NullOrSound s (back_at chained s)
  pub input : NullOrSound s (input_at chained s)
  pub ahead : NullOrSound s (ahead_at chained s)
  pub sets : (i : ℕ) → i < count_at s (slots_at chained) → (word s (slots_at chained + 2 * i) ≡ 0 → ⊥) → set_fault (rule_fault chained s) s (word s (slots_at chained + 2 * i)) ≡ None

-- the sets of the source
abbrev pub sets_of : Bool → List ℕ → List (Option (List Rule))
sets_of chained s = reaches (rule_set chained s) s 0 (slots_at chained) (count_at s (slots_at chained))

context_is : (chained : Bool) (s : List ℕ) → class_context chained s
    ≡ Table.by_class chained (reach (coverage s) s 0 2) (table_at s (back_at chained s)) (table_at s (input_at chained s)) (table_at s (ahead_at chained s)) (sets_of chained s)
unfolding class_context reach table_at
context_is false s = rw (zero-add (word s 4)) refl
context_is true s = rw (zero-add (word s 4), zero-add (word s 6), zero-add (word s 8)) refl

-- a table that is kept, as its words
kept_words : (k packing : ℕ) (chained : Bool) (out cov : List ℕ) (b i a : Option (List (ℕ × ℕ))) (l : List (Option (List Rule))) → Opt (GoodOf k) (kept_by_class chained cov b i a l)
    → written_in packing out (kept_by_class chained cov b i a l)
    ≡ table_into (eqb packing 1) out (coverage_words cov) (map (block class_words) (cond chained (b ∷ i ∷ a ∷ []) (i ∷ []))) (map (block (set_words (rule_words chained))) l)
unfolding written_in kept_by_class table_into
kept_words k packing chained out cov b i a [] g = refl
kept_words k packing chained out cov b i a (x ∷ l) g = laid_class chained cov b i a (x ∷ l) g.0 packing out

-- what is left of a context whose coverage and input classes are there
cut_class : (g l : List (ℕ × ℕ)) (chained : Bool) (cov : List ℕ) (b a : Option (List (ℕ × ℕ))) (cs : List (ℕ × ℕ)) (sets : List (Option (List Rule)))
    → cut g l (Table.by_class chained (Some cov) b (Some cs) a sets) ≡ kept_by_class chained (new_coverage g cov) (new_classes? g b) (new_classes? g (Some cs)) (new_classes? g a)
    (trim (slots (cut_set chained (record { back = class_map? g b; input = class_map g cs; ahead = class_map? g a; lookups = l })) (held_by cs (retained g cov)) sets (held_by cs (keys g))))
unfolding cut
cut_class g l chained cov b a cs sets = refl

nothing_covered : (g l : List (ℕ × ℕ)) (chained : Bool) (x y z : Option (List (ℕ × ℕ))) (sets : List (Option (List Rule))) → cut g l (Table.by_class chained None x y z sets) ≡ None
unfolding cut
nothing_covered g l chained x y z sets = refl

nothing_classed : (g l : List (ℕ × ℕ)) (chained : Bool) (o : Option (List ℕ)) (x z : Option (List (ℕ × ℕ))) (sets : List (Option (List Rule))) → cut g l (Table.by_class chained o x None z sets) ≡ None
unfolding cut
nothing_classed g l chained None x z sets = refl
nothing_classed g l chained (Some cov) x z sets = refl

-- the blocks of the new class tables
abbrev pub tables_of : Bool → List ℕ → List (ℕ × ℕ) → List (Option (List ℕ))
tables_of chained s g =
    let i = new_classes? g (table_at s (input_at chained s)) in
    map (block class_words) (cond chained (new_classes? g (table_at s (back_at chained s)) ∷ i ∷ new_classes? g (table_at s (ahead_at chained s)) ∷ []) (i ∷ []))

module _ (chained : Bool) (s : List ℕ) (g l : List (ℕ × ℕ)) where
  -- no coverage, or no class table for the input: nothing is left
  pub not_covered : (packing : ℕ) (out : List ℕ) → word s 2 ≡ 0 → refused out 8 ≡ written_in packing out (cut g l (class_context chained s))
  unfolding written_in reach
  not_covered packing out z = rw (context_is chained s, eq-eqb (word s 2) 0 z, nothing_covered g l chained (table_at s (back_at chained s)) (table_at s (input_at chained s)) (table_at s (ahead_at chained s)) (sets_of chained s))

  pub not_classed : (packing : ℕ) (out : List ℕ) → input_at chained s ≡ 0 → refused out 8 ≡ written_in packing out (cut g l (class_context chained s))
  unfolding written_in table_at
  not_classed packing out z = rw (context_is chained s, eq-eqb (input_at chained s) 0 z, nothing_classed g l chained (reach (coverage s) s 0 2) (table_at s (back_at chained s)) (table_at s (ahead_at chained s)) (sets_of chained s))

  -- the maps of the rules
  abbrev pub rules_maps : RuleMaps
  rules_maps = record { back = class_map? g (table_at s (back_at chained s)); input = class_map g (classes_at s (input_at chained s)); ahead = class_map? g (table_at s (ahead_at chained s)); lookups = l }

  -- the blocks of the slots
  abbrev pub blocks_of : List (Option (List ℕ))
  blocks_of = map (block (set_words (rule_words chained))) (slots (cut_set chained rules_maps) (held_by (classes_at s (input_at chained s)) (retained g (coverage s (word s 2)))) (sets_of chained s) (held_by (classes_at s (input_at chained s)) (keys g)))

  there : (word s 2 ≡ 0 → ⊥) → reach (coverage s) s 0 2 ≡ Some (coverage s (word s 2))
  unfolding reach
  there z = rw (ne_eqb (word s 2) 0 z, zero-add)

  -- what is left, as its words
  pub cut_words : Good (class_context chained s) → GoodMap g → Values l → (word s 2 ≡ 0 → ⊥) → (input_at chained s ≡ 0 → ⊥) → (packing : ℕ) (out : List ℕ)
      → written_in packing out (cut g l (class_context chained s)) ≡ table_into (eqb packing 1) out (coverage_words (new_coverage g (coverage s (word s 2)))) (tables_of chained s g) (trim blocks_of)
  unfolding listed
  cut_words good m v z y packing out =
      let b = table_at s (back_at chained s) in
      let a = table_at s (ahead_at chained s) in
      let cs = classes s (input_at chained s) in
      let cov = coverage s (word s 2) in
      let i : table_at s (input_at chained s) ≡ Some cs = table_there s y in
      let sl = slots (cut_set chained (record { back = class_map? g b; input = class_map g cs; ahead = class_map? g a; lookups = l })) (held_by cs (retained g cov)) (sets_of chained s) (held_by cs (keys g)) in
      let k = kind_of (class_context chained s) in
      let is : cut g l (class_context chained s) ≡ kept_by_class chained (new_coverage g cov) (new_classes? g b) (new_classes? g (Some cs)) (new_classes? g a) (trim sl) =
      ap (cut g l) (context_is chained s ∙ ap (λ (o : Option (List ℕ)). Table.by_class chained o b (table_at s (input_at chained s)) a (sets_of chained s)) (there z) ∙ ap (λ (o : Option (List (ℕ × ℕ))). Table.by_class chained (Some cov) b o a (sets_of chained s)) i)
      ∙ cut_class g l chained cov b a cs (sets_of chained s)
      in
      ap (written_in packing out) is
      ∙ kept_words k packing chained out (new_coverage g cov) (new_classes? g b) (new_classes? g (Some cs)) (new_classes? g a) (trim sl) (subst (Opt (GoodOf k)) is (cut_good g l m v (class_context chained s) good))
      ∙ ap (table_into (eqb packing 1) out (coverage_words (new_coverage g cov)) (map (block class_words) (cond chained (new_classes? g b ∷ new_classes? g (Some cs) ∷ new_classes? g a ∷ []) (new_classes? g (Some cs) ∷ [])))) (trim_blocks (set_words (rule_words chained)) sl)
      ∙ sym (rw i refl)

-- slots by a cut that leaves the same of each set
pub slots_alike : (f h : List Rule → Option (List Rule)) → ((rs : List Rule) → f rs ≡ h rs) → (covered : List ℕ) (sets : List (Option (List Rule))) (cs : List ℕ) → slots f covered sets cs ≡ slots h covered sets cs
unfolding slots bind
slots_alike f h e covered sets [] = refl
slots_alike f h e covered sets (c ∷ cs) = rw (slots_alike f h e covered sets cs) (ap (λ (o : Option (List Rule)). cond (member c covered) o None ∷ slots h covered sets cs) (one (get_or sets c None)))
  where
    one : (o : Option (List Rule)) → bind o f ≡ bind o h
    one None = refl
    one (Some rs) = e rs
