-- The coverage index of a glyph, and what is chosen by it.
use Rattle.std.specs.Prelude.{ℕ, suc, ◌+◌, ◌*◌, ◌≤◌, ◌≡◌, refl, Bool, true, false, cond, ◌||◌, List, [], ◌∷◌, length, get_or, eqb, Option, None, Some}
use Rattle.std.proofs.Common.{sym, ◌∙◌}
use Rattle.meaning.specs.Words.{words, triples, ascends, member, is_some, bind}
use Rattle.meaning.specs.Parts.{ranges_ascend, ranges_count}
use Rattle.meaning.specs.Matching.{set_at}

-- the place of a glyph among the covered ones, from 0, if it is covered
unfoldable pub index_of : List ℕ → ℕ → Option ℕ
index_of [] g = None
index_of (c ∷ cov) g = cond (eqb c g) (Some 0) (bind (index_of cov g) (λ i. Some (suc i)))

-- n glyphs that are listed from `at` on lie inside and ascend
pub record SoundList (s : List ℕ) (at n : ℕ) : Type 0 where
  pub fits : at + 2 * n ≤ length s
  pub ascend : ascends (words s at n) ≡ true

-- n ranges from `at` on lie inside, ascend without overlap, and each index is the number of glyphs before its range
pub record SoundRanges (s : List ℕ) (at n : ℕ) : Type 0 where
  pub fits : at + 6 * n ≤ length s
  pub ascend : ranges_ascend 0 (triples s at n) ≡ true
  pub count : ranges_count 0 (triples s at n) ≡ true

-- What is chosen by the index.

-- an answer by the place after, for the rest of a list
bind_suc : {A : Type 0} (o : Option ℕ) (f : ℕ → Option A) → bind (bind o (λ i. Some (suc i))) f ≡ bind o (λ i. f (suc i))
unfolding bind
bind_suc None f = refl
bind_suc (Some i) f = refl

bind_none : {A : Type 0} (o : Option ℕ) (f : ℕ → Option A) → ((i : ℕ) → f i ≡ None) → None ≡ bind o f
unfolding bind
bind_none None f h = refl
bind_none (Some i) f h = sym (h i)

-- a set of a coverage index
pub set_index : {A : Type 0} (cov : List ℕ) (sets : List (Option A)) (g : ℕ) → set_at cov sets g ≡ bind (index_of cov g) (λ i. get_or sets i None)
unfolding set_at index_of bind
set_index [] sets g = refl
set_index (c ∷ cov) [] g = bind_none (index_of (c ∷ cov) g) (λ i. get_or [] i None) (λ i. refl)
set_index (c ∷ cov) (s ∷ sets) g = step (eqb c g) (set_index cov sets g)
  where
    step : (b : Bool) → set_at cov sets g ≡ bind (index_of cov g) (λ i. get_or sets i None)
        → cond b s (set_at cov sets g) ≡ bind (cond b (Some 0) (bind (index_of cov g) (λ i. Some (suc i)))) (λ i. get_or (s ∷ sets) i None)
    step true h = refl
    step false h = h ∙ sym (bind_suc (index_of cov g) (λ i. get_or (s ∷ sets) i None))

-- a glyph is covered if it has an index
pub member_index : (cov : List ℕ) (g : ℕ) → member g cov ≡ is_some (index_of cov g)
unfolding member index_of bind is_some
member_index [] g = refl
member_index (c ∷ cov) g = step (eqb c g) (member_index cov g)
  where
    kept : (o : Option ℕ) → is_some o ≡ is_some (bind o (λ i. Some (suc i)))
    kept None = refl
    kept (Some i) = refl

    step : (b : Bool) → member g cov ≡ is_some (index_of cov g) → b || member g cov ≡ is_some (cond b (Some 0) (bind (index_of cov g) (λ i. Some (suc i))))
    step true h = refl
    step false h = h ∙ kept (index_of cov g)
