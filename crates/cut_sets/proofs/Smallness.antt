-- What is left of a set has at least two words, and they fit if it takes no more than 65,535 bytes.
use Prim.Native.Nat.{ℕ, zero, suc, ◌+◌, ◌*◌, ◌≤◌, ◌<◌}
use mathlib.Core.Path.{◌≡◌, refl, ap}
use mathlib.Core.Bool.{Bool, true, false, cond}
use Rattle.std.specs.Prelude.{Option, None, Some}
use mathlib.Core.List.{List, [], ◌∷◌, map}
use native.Mathlib.Omega.{arith}
use lib.ListN.{length, length-append}
use lib.Dec.{eqb}
use Rattle.meaning.specs.Words.{word, find, bind, push, map_some}
use Rattle.meaning.specs.Tables.{rule_set, ligature_set}
use Rattle.meaning.specs.Cut.{unless_empty, cut_rule, cut_set, cut_ligature, cut_ligatures}
use Rattle.meaning.specs.Layout.{offsets, block, rule_words, ligature_words, set_words}
use Rattle.laws.specs.Stands.{All, Word, all_append}
use Rattle.laws.specs.Through.{Opt}
use Rattle.laws.specs.SetsBack.{GoodRule, GoodLigature}
use Rattle.laws.specs.CutGood.{Values, find_word, cut_set_lem, cut_ligatures_lem}
use Rattle.laws.specs.SoundGood.{Bytes, word_small, rule_set_good, ligature_set_good}
use Rattle.laws.specs.FitsPacked.{rule_set_fits, ligature_set_fits}
use Rattle.numbers.specs.Entries.{entries_in}
use Rattle.numbers.specs.Leaves.{none_some}
use Rattle.pair_fields.specs.Pairs.{value_at, pairs_in, rows, pair_set_of, pairs_left}
use Rattle.pair_places.specs.Formats.{pair_size, places_of}
use Rattle.kept_rules.specs.Left.{maps_in}
use Rattle.kept_rules.specs.Good.{entries_values, maps_good}
use Rattle.kept_rules.specs.declared.Maps.{Maps}
use Rattle.placed_sets.specs.Sorts.{set_left, left_in, left_words}
use Rattle.placed_sets.specs.Kept.{Small}
use Rattle.placed_sets.specs.declared.Sort.{Sort}
use Rattle.placed_sets.specs.declared.Sort.TheVariants.{Rules, Ligatures, Pairs}

-- no words, and words
small_none : Small None
small_none = record { two = λ e. absurd (none_some refl e); fit = λ e. absurd (none_some refl e) }

small_some : (ws : List ℕ) → 2 ≤ length ws → (2 * length ws ≤ 65535 → All Word ws) → Small (Some ws)
unfolding left_words
small_some ws t f = record { two = λ e. long e; fit = λ e. words e }
  where
    long : {vs : List ℕ} → Some ws ≡ Some vs → 2 ≤ length vs
    long e = omega (arith, ap (λ (o : Option (List ℕ)). length (left_words o)) e)

    words : {vs : List ℕ} → Some ws ≡ Some vs → 2 * length vs ≤ 65535 → All Word vs
    words {vs} e =
        let s : ws ≡ vs = ap left_words e in
        rw s at f

-- a set of members has a count and an offset
set_two : {A : Type 0} (f : A → List ℕ) (x : A) (xs : List A) → 2 ≤ length (set_words f (x ∷ xs))
unfolding set_words offsets
set_two f x xs = omega arith

members_small : {A : Type 0} (P : A → Type 0) (f : A → List ℕ) → ((xs : List A) → All P xs → 2 * length (set_words f xs) ≤ 65536 → All Word (set_words f xs)) → (ys : List A) → Opt (All P) (unless_empty ys) → Small (block (set_words f) (unless_empty ys))
unfolding unless_empty block
members_small P f h [] g = small_none
members_small P f h (y ∷ ys) g = small_some (set_words f (y ∷ ys)) (set_two f y ys) (λ l. h (y ∷ ys) g (omega arith))

-- words of pairs: each has one, and they fit
module _ (s : List ℕ) (b : Bytes s) (g : List (ℕ × ℕ)) (v : Values g) where
  value_word : (p place : ℕ) → Word (value_at s p place)
  unfolding value_at
  value_word p place = step (eqb place 0)
    where
      step : (t : Bool) → Word (cond t 0 (word s (p + place)))
      step true = omega arith
      step false = word_small s b (p + place)

  values_words : (p : ℕ) (places : List ℕ) → All Word (map (value_at s p) places)
  values_words p [] = tt
  values_words p (i ∷ is) = (value_word p i, values_words p is)

  pairs_words : (size : ℕ) (places : List ℕ) (p n : ℕ) → All (λ w. All Word w × (0 < length w)) (pairs_in g s size places p n)
  unfolding pairs_in push bind
  pairs_words size places p zero = tt
  pairs_words size places p (suc n) = step (find g (word s p)) (find_word g (word s p) v) (pairs_words size places (p + size) n)
    where
      step : (o : Option ℕ) → Opt Word o → All (λ w. All Word w × (0 < length w)) (pairs_in g s size places (p + size) n)
          → All (λ w. All Word w × (0 < length w)) (push (bind o (λ y. Some (y ∷ map (value_at s p) places))) (pairs_in g s size places (p + size) n))
      step None w r = r
      step (Some y) w r = (((w, values_words p places), omega arith), r)

rows_words : (ps : List (List ℕ)) → All (λ w. All Word w × (0 < length w)) ps → All Word (rows ps)
unfolding rows
rows_words [] h = tt
rows_words (w ∷ ps) h = all_append Word w (rows ps) h.0.0 (rows_words ps h.1)

rows_many : (ps : List (List ℕ)) → All (λ w. All Word w × (0 < length w)) ps → length ps ≤ length (rows ps)
unfolding rows
rows_many [] h = omega arith
rows_many (w ∷ ps) h = omega (arith, h.0.1, rows_many ps h.1, length-append w (rows ps))

pairs_small : (ps : List (List ℕ)) → All (λ w. All Word w × (0 < length w)) ps → Small (block pair_set_of (unless_empty ps))
unfolding unless_empty block pair_set_of
pairs_small [] h = small_none
pairs_small (w ∷ ps) h =
    let many = rows_many (w ∷ ps) h in
    small_some (length (w ∷ ps) ∷ rows (w ∷ ps)) (omega (arith, many)) (λ l. (omega (arith, many), rows_words (w ∷ ps) h))

-- so it is of each sort
pub small_left : (sort : Sort) (s : List ℕ) → Bytes s → (t : List ℕ) (maps : Maps) (p : ℕ) → Small (left_in sort t maps s p)
unfolding set_left cut_set cut_ligatures pairs_left
small_left (Rules chained) s b t maps p =
    members_small (GoodRule chained) (rule_words chained) (rule_set_fits chained) (map_some (cut_rule chained (maps_in t maps)) (rule_set chained s p)) (cut_set_lem chained (maps_in t maps) (maps_good t maps) (rule_set chained s p) (rule_set_good s b chained p))
small_left Ligatures s b t maps p =
    let g = entries_in t maps.input in
    members_small GoodLigature ligature_words ligature_set_fits (map_some (cut_ligature g) (ligature_set s p)) (cut_ligatures_lem g (entries_values t maps.input) (ligature_set s p) (ligature_set_good s b p))
small_left (Pairs f) s b t maps p =
    let g = entries_in t maps.input in
    pairs_small (pairs_in g s (pair_size f.f1 f.f2) (places_of f.f1 f.f2 f.n1 f.n2) (p + 2) (word s p)) (pairs_words s b g (entries_values t maps.input) (pair_size f.f1 f.f2) (places_of f.f1 f.f2 f.n1 f.n2) (p + 2) (word s p))
