-- Demand 3 for single substitutions, on trees: a retained glyph whose substitute is retained, or that has none, is replaced as in the source.
use Rattle.std.specs.Prelude.{ℕ, ◌-◌, ◌≡◌, Bool, true, false, cond, eqb, Option, None, Some, option_map}
use Rattle.std.proofs.Math.Path.{refl}
use Rattle.std.proofs.Common.{sym, ◌∙◌, ap, ap₂, true≢false, arith, eqb-true}
use mathlib.Core.List.{List, [], ◌∷◌}
use Rattle.meaning.specs.Words.{find, bind, map_some, push, keys, values, is_some}
use Rattle.meaning.specs.Tables.{Table, plus_delta, delta_pairs, list_pairs}
use Rattle.meaning.specs.Cut.{cut, kept_substitutes, delta_of, agree, kept_singles}
use Rattle.meaning.specs.Matching.{substitute}
use Rattle.laws.specs.Stands.{all_map}
use Rattle.laws.specs.SetsBack.{Words2}
use Rattle.laws.specs.Runs.{up_ascends}
use Rattle.laws.specs.Through.{Opt}
use Rattle.laws.specs.CutGood.{GoodMap}
use Rattle.laws.specs.CutCells.{all_every, substitutes_words}
use Rattle.promises.specs.Strings.{All, Retained, new}
use Rattle.promises.specs.Numbers.{Injective, injective}
use Rattle.promises.specs.Sequences.{held?, glyphs_carry}

-- the substitute of a glyph, if it has one, is retained
abbrev pub SubstituteRetained : List (ℕ × ℕ) → Table → ℕ → Type 0
SubstituteRetained g t x = Opt (Retained g) (substitute t x)

-- retained glyphs have retained substitutes
abbrev pub SubstitutesRetained : List (ℕ × ℕ) → Table → Type 0
SubstitutesRetained g t = (x : ℕ) → Retained g x → SubstituteRetained g t x

-- the kept pairs, written by a list or by a delta, are these pairs
pub list_is : (ks : List (ℕ × ℕ)) → list_pairs (keys ks) (values ks) ≡ ks
unfolding list_pairs keys values
list_is [] = refl
list_is (e ∷ r) = ap (λ (l : List (ℕ × ℕ)). e ∷ l) (list_is r)

delta_moves : (n m d : ℕ) → Words2 (n, m) → delta_of (n, m) ≡ d → plus_delta d n ≡ m
unfolding delta_of plus_delta
delta_moves n m d w e = omega arith

pub delta_is : (d : ℕ) (ks : List (ℕ × ℕ)) → All Words2 ks → All (λ e. delta_of e ≡ d) ks → delta_pairs (keys ks) d ≡ ks
unfolding delta_pairs keys
delta_is d [] w h = refl
delta_is d (e ∷ r) w h = ap₂ (λ (m : ℕ) (l : List (ℕ × ℕ)). (e.0, m) ∷ l) (delta_moves e.0 e.1 d w.0 h.0) (delta_is d r w.1 h.1)

kept_finds : (ks : List (ℕ × ℕ)) → All Words2 ks → (y : ℕ) → bind (kept_singles ks) (λ t. substitute t y) ≡ find ks y
unfolding bind agree kept_singles substitute find
kept_finds [] w y = refl
kept_finds (e ∷ r) w y = step (agree (e ∷ r)) refl
  where
    step : (t : Bool) → agree (e ∷ r) ≡ t → substitute (cond t (Table.single_delta (Some (keys (e ∷ r))) (delta_of e)) (Table.single_list (Some (keys (e ∷ r))) (values (e ∷ r)))) y ≡ find (e ∷ r) y
    step true q =
        let same = all_map (λ (x : ℕ × ℕ). eqb (delta_of x) (delta_of e) ≡ true) (λ x. delta_of x ≡ delta_of e) (λ x p. eqb-true (delta_of x) (delta_of e) p) r (all_every (λ x. eqb (delta_of x) (delta_of e)) r q) in
        ap (λ (l : List (ℕ × ℕ)). find l y) (delta_is (delta_of e) (e ∷ r) w (refl, same))
    step false q = ap (λ (l : List (ℕ × ℕ)). find l y) (list_is (e ∷ r))

-- a retained glyph is found among the kept pairs as it was, with its substitute renumbered
module _ (g : List (ℕ × ℕ)) (i : Injective g) (x : ℕ) (rx : Retained g x) where
  finds_same : (es : List (ℕ × ℕ)) → Opt (Retained g) (find es x) → find (kept_substitutes g es) (new g x) ≡ option_map (new g) (find es x)
  unfolding find kept_substitutes map_some bind push is_some
  finds_same [] c = refl
  finds_same (e ∷ es) c = step (find g e.0) (find g e.1) refl (eqb e.0 x) (glyphs_carry g i e.0 x rx) c (finds_same es)
    where
      rest : List (ℕ × ℕ)
      rest = map_some (λ e. bind (find g e.0) (λ n. bind (find g e.1) (λ m. Some (n, m)))) es

      step : (o p : Option ℕ) → find g e.1 ≡ p → (t : Bool) → held? eqb o (new g x) ≡ t → Opt (Retained g) (cond t (Some e.1) (find es x))
          → (Opt (Retained g) (find es x) → find rest (new g x) ≡ option_map (new g) (find es x))
          → find (push (bind o (λ n. bind p (λ m. Some (n, m)))) rest) (new g x) ≡ option_map (new g) (cond t (Some e.1) (find es x))
      step None p q true k c ih = absurd (true≢false (sym k))
      step None p q false k c ih = ih c
      step (Some n) None q true k c ih = absurd (true≢false (sym (sym (ap is_some q) ∙ c)))
      step (Some n) None q false k c ih = ih c
      step (Some n) (Some m) q true k c ih = rw (k, q)
      step (Some n) (Some m) q false k c ih = rw k (ih c)

-- A retained glyph whose substitute is retained is replaced as in the source, by a delta and by a list.
pub delta_same : (g l : List (ℕ × ℕ)) → GoodMap g → (cover : Option (List ℕ)) (d : ℕ) → (x : ℕ) → Retained g x → SubstituteRetained g (Table.single_delta cover d) x
    → bind (cut g l (Table.single_delta cover d)) (λ u. substitute u (new g x)) ≡ option_map (new g) (substitute (Table.single_delta cover d) x)
unfolding cut substitute bind
delta_same g l good None d x rx c = refl
delta_same g l good (Some cov) d x rx c =
    kept_finds (kept_substitutes g (delta_pairs cov d)) (substitutes_words g good (delta_pairs cov d)) (new g x) ∙ finds_same g (injective g (up_ascends 0 (values g) good.new)) x rx (delta_pairs cov d) c

pub list_same : (g l : List (ℕ × ℕ)) → GoodMap g → (cover : Option (List ℕ)) (subs : List ℕ) → (x : ℕ) → Retained g x → SubstituteRetained g (Table.single_list cover subs) x
    → bind (cut g l (Table.single_list cover subs)) (λ u. substitute u (new g x)) ≡ option_map (new g) (substitute (Table.single_list cover subs) x)
unfolding cut substitute bind
list_same g l good None subs x rx c = refl
list_same g l good (Some cov) subs x rx c =
    kept_finds (kept_substitutes g (list_pairs cov subs)) (substitutes_words g good (list_pairs cov subs)) (new g x) ∙ finds_same g (injective g (up_ascends 0 (values g) good.new)) x rx (list_pairs cov subs) c
