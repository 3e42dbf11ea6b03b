-- Tables, cut twice.
use Rattle.std.specs.Prelude.{ℕ, ◌≡◌, Bool, Option, None, Some}
use Rattle.std.proofs.Math.Path.{refl, sym, ap}
use Rattle.std.proofs.Common.{◌∙◌}
use mathlib.Core.List.{List, [], ◌∷◌}
use Rattle.meaning.specs.Words.{keys, find, bind}
use Rattle.meaning.specs.Tables.{Rule, Ligature, Pair, Table, delta_pairs, list_pairs}
use Rattle.meaning.specs.Cut.{RuleMaps, cut_records, cut_set, kept_sets, glyphs_of, sets_of, kept_by_glyph, held_by, class_map, class_map?, new_classes, new_classes?, new_coverage, retained, slots, trim, kept_by_class, covers_left, cut_ligatures, kept_ligatures, cut_pairs, new_format, new_second, thin, kept_pairs, covered_map, kept_class_pairs, cut}
use Rattle.laws.specs.Stands.{All, Word}
use Rattle.laws.specs.Through.{Opt}
use Rattle.twice.specs.Answers.{Then, bind_none}
use Rattle.twice.specs.Maps.{Injective, Along}
use Rattle.twice_laws.specs.Rules.{Combine, records_twice, set_twice}
use Rattle.twice_laws.specs.Sets.{kept_twice}
use Rattle.twice_laws.specs.Covers.{coverage_twice, covers_twice}
use Rattle.twice_laws.specs.Classes.{class_map_twice, class_map_twice?, classes_twice, classes_twice?, slots_twice, no_slots}
use Rattle.twice_laws.specs.Ligatures.{ligatures_twice}
use Rattle.twice_laws.specs.Pairs.{pair_table_twice}
use Rattle.twice_laws.specs.ClassPairs.{class_pairs_twice}
use Rattle.twice_laws.specs.Singles.{singles_twice}

cut_is : (g l : List (ℕ × ℕ)) (cov : List ℕ) (cs ds : List (ℕ × ℕ)) (f1 f2 n : ℕ) (rows : List (List Pair))
    → cut g l (Table.class_pairs (Some cov) (Some cs) (Some ds) f1 f2 n rows) ≡ kept_class_pairs g (covered_map g cov) cs ds f1 f2 rows
unfolding cut
cut_is g l cov cs ds f1 f2 n rows = refl

module _ (g₁ g₂ g l₁ l₂ l : List (ℕ × ℕ)) (found : All (λ p. find g₁ p.0 ≡ Some p.1) g₁) (one : Injective (find g₁)) (e : Then (find g₁) (find g₂) (find g)) (a : Along (find g₁) g g₂) (k : Then (find l₁) (find l₂) (find l)) where
  -- rules by glyph
  by_glyph_twice : (chained : Bool) (cov : List ℕ) (sets : List (Option (List Rule)))
      → bind (cut g₁ l₁ (Table.by_glyph chained (Some cov) sets)) (cut g₂ l₂) ≡ cut g l (Table.by_glyph chained (Some cov) sets)
  unfolding cut
  by_glyph_twice chained cov sets = go (kept_sets (cut_set chained m₁) g₁ cov sets) ∙ ap (kept_by_glyph chained) (kept_twice g₁ g₂ g e (cut_set chained m₁) (cut_set chained m₂) (cut_set chained m) (set_twice chained m₁ m₂ m c) cov sets)
    where
      m₁ : RuleMaps
      m₁ = record { back = g₁; input = g₁; ahead = g₁; lookups = l₁ }

      m₂ : RuleMaps
      m₂ = record { back = g₂; input = g₂; ahead = g₂; lookups = l₂ }

      m : RuleMaps
      m = record { back = g; input = g; ahead = g; lookups = l }

      c : Combine m₁ m₂ m
      c = record { back = e; input = e; ahead = e; lookups = k }

      go : (ks : List (ℕ × List Rule)) → bind (kept_by_glyph chained ks) (cut g₂ l₂) ≡ kept_by_glyph chained (kept_sets (cut_set chained m₂) g₂ (glyphs_of ks) (sets_of ks))
      go [] = refl
      go (s ∷ ks) = refl

  -- rules by class
  by_class_twice : (chained : Bool) (cov : List ℕ) (b : Option (List (ℕ × ℕ))) (cs : List (ℕ × ℕ)) (f : Option (List (ℕ × ℕ))) (sets : List (Option (List Rule)))
      → bind (cut g₁ l₁ (Table.by_class chained (Some cov) b (Some cs) f sets)) (cut g₂ l₂) ≡ cut g l (Table.by_class chained (Some cov) b (Some cs) f sets)
  unfolding cut
  by_class_twice chained cov b cs f sets =
      go left
      ∙ rw (
        slots_twice g₁ g₂ g found one e a cs (cut_set chained m₁) (cut_set chained m₂) (cut_set chained m) (set_twice chained m₁ m₂ m c) cov sets,
        coverage_twice g₁ g₂ g e cov,
        classes_twice? g₁ g₂ g found one e a b,
        classes_twice g₁ g₂ g found one e a cs,
        classes_twice? g₁ g₂ g found one e a f,
      )
    where
      cs₁ : List (ℕ × ℕ)
      cs₁ = new_classes g₁ cs

      m₁ : RuleMaps
      m₁ = record { back = class_map? g₁ b; input = class_map g₁ cs; ahead = class_map? g₁ f; lookups = l₁ }

      m₂ : RuleMaps
      m₂ = record { back = class_map? g₂ (new_classes? g₁ b); input = class_map g₂ cs₁; ahead = class_map? g₂ (new_classes? g₁ f); lookups = l₂ }

      m : RuleMaps
      m = record { back = class_map? g b; input = class_map g cs; ahead = class_map? g f; lookups = l }

      c : Combine m₁ m₂ m
      c = record { back = class_map_twice? g₁ g₂ g found one e a b; input = class_map_twice g₁ g₂ g found one e a cs; ahead = class_map_twice? g₁ g₂ g found one e a f; lookups = k }

      left : List (Option (List Rule))
      left = trim (slots (cut_set chained m₁) (held_by cs (retained g₁ cov)) sets (held_by cs (keys g₁)))

      held₂ : List ℕ
      held₂ = held_by cs₁ (retained g₂ (new_coverage g₁ cov))

      go : (ss : List (Option (List Rule))) → bind (kept_by_class chained (new_coverage g₁ cov) (new_classes? g₁ b) (Some cs₁) (new_classes? g₁ f) ss) (cut g₂ l₂)
          ≡ kept_by_class chained (new_coverage g₂ (new_coverage g₁ cov)) (new_classes? g₂ (new_classes? g₁ b)) (Some (new_classes g₂ cs₁)) (new_classes? g₂ (new_classes? g₁ f)) (trim (slots (cut_set chained m₂) held₂ ss (held_by cs₁ (keys g₂))))
      go [] = rw (no_slots (cut_set chained m₂) held₂ (held_by cs₁ (keys g₂)))
      go (s ∷ ss) = refl

  -- coverages
  by_cover_twice : (chained : Bool) (b i f : List (Option (List ℕ))) (rs : List (ℕ × ℕ))
      → bind (cut g₁ l₁ (Table.by_cover chained b i f rs)) (cut g₂ l₂) ≡ cut g l (Table.by_cover chained b i f rs)
  unfolding cut
  by_cover_twice chained b i f rs =
      go (covers_left g₁ b) (covers_left g₁ i) (covers_left g₁ f)
      ∙ rw (covers_twice g₁ g₂ g e b, covers_twice g₁ g₂ g e i, covers_twice g₁ g₂ g e f, records_twice l₁ l₂ l k rs)
    where
      go : (b i f : Option (List (Option (List ℕ))))
          → bind (bind b (λ b. bind i (λ i. bind f (λ f. Some (Table.by_cover chained b i f (cut_records l₁ rs)))))) (cut g₂ l₂)
          ≡ bind (bind b (covers_left g₂)) (λ b. bind (bind i (covers_left g₂)) (λ i. bind (bind f (covers_left g₂)) (λ f. Some (Table.by_cover chained b i f (cut_records l₂ (cut_records l₁ rs))))))
      go None i f = refl
      go (Some b) None f = sym (bind_none (covers_left g₂ b))
      go (Some b) (Some i) None = inner (covers_left g₂ b) (covers_left g₂ i)
        where
          inner : (p q : Option (List (Option (List ℕ)))) → None ≡ bind {B = Table} p (λ b. bind q (λ i. None))
          inner None q = refl
          inner (Some b) None = refl
          inner (Some b) (Some i) = refl
      go (Some b) (Some i) (Some f) = refl

  -- ligatures
  ligatures_twice_of : (cov : List ℕ) (sets : List (Option (List Ligature))) → bind (cut g₁ l₁ (Table.ligatures (Some cov) sets)) (cut g₂ l₂) ≡ cut g l (Table.ligatures (Some cov) sets)
  unfolding cut
  ligatures_twice_of cov sets =
      go (kept_sets (cut_ligatures g₁) g₁ cov sets)
      ∙ ap kept_ligatures (kept_twice g₁ g₂ g e (cut_ligatures g₁) (cut_ligatures g₂) (cut_ligatures g) (ligatures_twice g₁ g₂ g e) cov sets)
    where
      go : (ks : List (ℕ × List Ligature)) → bind (kept_ligatures ks) (cut g₂ l₂) ≡ kept_ligatures (kept_sets (cut_ligatures g₂) g₂ (glyphs_of ks) (sets_of ks))
      go [] = refl
      go (s ∷ ks) = refl

  -- pairs
  pairs_twice_of : (cov : List ℕ) (f1 f2 : ℕ) (sets : List (Option (List Pair))) → bind (cut g₁ l₁ (Table.pairs_of (Some cov) f1 f2 sets)) (cut g₂ l₂) ≡ cut g l (Table.pairs_of (Some cov) f1 f2 sets)
  unfolding cut
  pairs_twice_of cov f1 f2 sets = go (kept_sets (cut_pairs g₁) g₁ cov sets) ∙ pair_table_twice g₁ g₂ g e f1 f2 cov sets
    where
      go : (ks : List (ℕ × List Pair)) → bind (kept_pairs f1 f2 ks) (cut g₂ l₂)
          ≡ (let n1 = new_format (λ p. p.first_values) f1 ks in let n2 = new_second f2 ks in kept_pairs n1 n2 (kept_sets (cut_pairs g₂) g₂ (glyphs_of ks) (sets_of (thin f1 f2 n1 n2 ks))))
      go [] = refl
      go (s ∷ ks) = refl

  -- pairs by class
  class_pairs_twice_of : (cov : List ℕ) (cs ds : List (ℕ × ℕ)) (f1 f2 n : ℕ) (rows : List (List Pair))
      → bind (cut g₁ l₁ (Table.class_pairs (Some cov) (Some cs) (Some ds) f1 f2 n rows)) (cut g₂ l₂) ≡ cut g l (Table.class_pairs (Some cov) (Some cs) (Some ds) f1 f2 n rows)
  class_pairs_twice_of cov cs ds f1 f2 n rows = rw (is g₁ l₁, is g l) (class_pairs_twice g₁ g₂ g found one e a cov cs ds f1 f2 rows l₂)
    where
      is : (g l : List (ℕ × ℕ)) → cut g l (Table.class_pairs (Some cov) (Some cs) (Some ds) f1 f2 n rows) ≡ kept_class_pairs g (covered_map g cov) cs ds f1 f2 rows
      is g l = cut_is g l cov cs ds f1 f2 n rows

  -- every table; for single substitutions the first map's new ids are words
  pub cut_twice : ((x : ℕ) → Opt Word (find g₁ x)) → (t : Table) → bind (cut g₁ l₁ t) (cut g₂ l₂) ≡ cut g l t
  unfolding cut
  cut_twice w (Table.by_glyph chained None sets) = refl
  cut_twice w (Table.by_glyph chained (Some cov) sets) = by_glyph_twice chained cov sets
  cut_twice w (Table.by_class chained None b i f sets) = refl
  cut_twice w (Table.by_class chained (Some cov) b None f sets) = refl
  cut_twice w (Table.by_class chained (Some cov) b (Some cs) f sets) = by_class_twice chained cov b cs f sets
  cut_twice w (Table.by_cover chained b i f rs) = by_cover_twice chained b i f rs
  cut_twice w (Table.ligatures None sets) = refl
  cut_twice w (Table.ligatures (Some cov) sets) = ligatures_twice_of cov sets
  cut_twice w (Table.pairs_of None f1 f2 sets) = refl
  cut_twice w (Table.pairs_of (Some cov) f1 f2 sets) = pairs_twice_of cov f1 f2 sets
  cut_twice w (Table.class_pairs None first second f1 f2 n rows) = refl
  cut_twice w (Table.class_pairs (Some cov) None second f1 f2 n rows) = refl
  cut_twice w (Table.class_pairs (Some cov) (Some cs) None f1 f2 n rows) = refl
  cut_twice w (Table.class_pairs (Some cov) (Some cs) (Some ds) f1 f2 n rows) = class_pairs_twice_of cov cs ds f1 f2 n rows
  cut_twice w (Table.single_delta None d) = refl
  cut_twice w (Table.single_delta (Some cov) d) = singles_twice g₁ g₂ g e l₂ w (delta_pairs cov d)
  cut_twice w (Table.single_list None subs) = refl
  cut_twice w (Table.single_list (Some cov) subs) = singles_twice g₁ g₂ g e l₂ w (list_pairs cov subs)
