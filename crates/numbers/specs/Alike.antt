-- Maps that answer alike cut alike: so the entries that a map's cells hold may be named by any list of which they are.
use Rattle.std.specs.Prelude.{ℕ, ◌≡◌, refl, Bool, List, [], ◌∷◌, Option, Some}
use Rattle.std.proofs.Common.{sym, ◌∙◌}
use Rattle.std.proofs.Math.Path.{ap, ap₂}
use Rattle.meaning.specs.Words.{find, bind, push, map_all, map_some}
use Rattle.meaning.specs.Tables.{Rule, Ligature, Pair}
use Rattle.meaning.specs.Cut.{RuleMaps, cut_records, cut_rule, unless_empty, cut_set, cut_ligature, cut_ligatures, cut_pair, cut_pairs}
use Rattle.cell_maps.specs.Cells.{Holds}
use Rattle.cell_maps.specs.declared.Map.{Map}
use Rattle.numbers.specs.Entries.{entries_in, entries_hold}

-- two maps give each number the same answer
pub record Alike (g h : List (ℕ × ℕ)) : Type 0 where
  pub same : (x : ℕ) → find g x ≡ find h x

-- the entries that the cells hold, and those that they are said to hold
pub holds_alike : {t : List ℕ} {m : Map} {g : List (ℕ × ℕ)} → Holds t m g → Alike (entries_in t m) g
holds_alike h = record { same = λ x. sym ((entries_hold h.inside).answers x) ∙ h.answers x }

-- answers to each of a list
all_alike : {A B : Type 0} (f h : A → Option B) → ((a : A) → f a ≡ h a) → (l : List A) → map_all f l ≡ map_all h l
unfolding map_all
all_alike f h e [] = refl
all_alike {A} {B} f h e (a ∷ r) = ap₂ (λ (o : Option B) (u : Option (List B)). bind o (λ b. bind u (λ bs. Some (b ∷ bs)))) (e a) (all_alike f h e r)

some_alike : {A B : Type 0} (f h : A → Option B) → ((a : A) → f a ≡ h a) → (l : List A) → map_some f l ≡ map_some h l
unfolding map_some
some_alike f h e [] = refl
some_alike {A} {B} f h e (a ∷ r) = ap₂ (λ (o : Option B) (bs : List B). push o bs) (e a) (some_alike f h e r)

module _ {g h : List (ℕ × ℕ)} (e : Alike g h) where
  pub words_alike : (ws : List ℕ) → map_all (find g) ws ≡ map_all (find h) ws
  words_alike ws = all_alike (find g) (find h) e.same ws

  pub records_alike : (rs : List (ℕ × ℕ)) → cut_records g rs ≡ cut_records h rs
  unfolding cut_records
  records_alike rs = some_alike _ _ (λ r. ap (λ (o : Option ℕ). bind o (λ n. Some (r.0, n))) (e.same r.1)) rs

  ligature_alike : (x : Ligature) → cut_ligature g x ≡ cut_ligature h x
  unfolding cut_ligature
  ligature_alike x = ap₂ (λ (o : Option ℕ) (u : Option (List ℕ)). bind o (λ n. bind u (λ ps. Some (record { glyph = n; count = x.count; parts = ps })))) (e.same x.glyph) (words_alike x.parts)

  pub ligatures_alike : (xs : List Ligature) → cut_ligatures g xs ≡ cut_ligatures h xs
  unfolding cut_ligatures
  ligatures_alike xs = ap unless_empty (some_alike (cut_ligature g) (cut_ligature h) ligature_alike xs)

  pair_alike : (p : Pair) → cut_pair g p ≡ cut_pair h p
  unfolding cut_pair
  pair_alike p = ap (λ (o : Option ℕ). bind o (λ n. Some (record { second = n; first_values = p.first_values; second_values = p.second_values }))) (e.same p.second)

  pub pairs_alike : (ps : List Pair) → cut_pairs g ps ≡ cut_pairs h ps
  unfolding cut_pairs
  pairs_alike ps = ap unless_empty (some_alike (cut_pair g) (cut_pair h) pair_alike ps)

-- the four maps of a rule
module _ {m n : RuleMaps} (b : Alike m.back n.back) (i : Alike m.input n.input) (a : Alike m.ahead n.ahead) (l : Alike m.lookups n.lookups) (chained : Bool) where
  rule_alike : (r : Rule) → cut_rule chained m r ≡ cut_rule chained n r
  unfolding cut_rule
  rule_alike r = rw (words_alike b r.back, words_alike i r.input, words_alike a r.ahead, records_alike l r.records)

  pub set_alike : (rs : List Rule) → cut_set chained m rs ≡ cut_set chained n rs
  unfolding cut_set
  set_alike rs = ap unless_empty (some_alike (cut_rule chained m) (cut_rule chained n) rule_alike rs)
