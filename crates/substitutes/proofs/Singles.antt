-- The ways through a single substitution.
use Rattle.std.proofs.Common.{◌≡◌, ℕ, zero, suc, ◌+◌, ◌*◌, ◌%◌, ◌<◌, ◌≤◌, Bool, true, false, cond, eqb, List, [], ◌∷◌, sym, refl, ap, ◌∙◌, zero-add, arith, eq-eqb, ne_eqb, eqb-true}
use Rattle.std.specs.Prelude.{Option, None, Some}
use Rattle.meaning.specs.Words.{word, words, bind, find}
use Rattle.meaning.specs.Parts.{coverage}
use Rattle.meaning.specs.Tables.{Table, reach, plus_delta, delta_pairs, list_pairs, single}
use Rattle.meaning.specs.Matching.{substitute}
use Rattle.coverage_index.specs.Index.{index_of}

-- an answer by the place after, for the rest of a list
bind_suc : (o : Option ℕ) (f : ℕ → Option ℕ) → bind (bind o (λ i. Some (suc i))) f ≡ bind o (λ i. f (suc i))
unfolding bind
bind_suc None f = refl
bind_suc (Some i) f = refl

bind_none : (o : Option ℕ) (f : ℕ → Option ℕ) → ((i : ℕ) → f i ≡ None) → None ≡ bind o f
unfolding bind
bind_none None f h = refl
bind_none (Some i) f h = sym (h i)

-- the i-th of a list, if it has so many
unfoldable nth : List ℕ → ℕ → Option ℕ
nth [] i = None
nth (x ∷ xs) zero = Some x
nth (x ∷ xs) (suc i) = nth xs i

-- a substitute of a coverage index
list_index : (cov subs : List ℕ) (g : ℕ) → find (list_pairs cov subs) g ≡ bind (index_of cov g) (nth subs)
unfolding find list_pairs index_of bind nth
list_index [] subs g = refl
list_index (c ∷ cov) [] g = bind_none (index_of (c ∷ cov) g) (nth []) (λ i. refl)
list_index (c ∷ cov) (x ∷ subs) g = step (eqb c g) (list_index cov subs g)
  where
    step : (b : Bool) → find (list_pairs cov subs) g ≡ bind (index_of cov g) (nth subs) → cond b (Some x) (find (list_pairs cov subs) g) ≡ bind (cond b (Some 0) (bind (index_of cov g) (λ i. Some (suc i)))) (nth (x ∷ subs))
    step true h = refl
    step false h = h ∙ sym (bind_suc (index_of cov g) (nth (x ∷ subs)))

-- a substitute by a delta
delta_index : (cov : List ℕ) (d g : ℕ) → find (delta_pairs cov d) g ≡ bind (index_of cov g) (λ i. Some (plus_delta d g))
unfolding find delta_pairs index_of bind
delta_index [] d g = refl
delta_index (c ∷ cov) d g = step (eqb c g) refl (delta_index cov d g)
  where
    step : (b : Bool) → eqb c g ≡ b → find (delta_pairs cov d) g ≡ bind (index_of cov g) (λ i. Some (plus_delta d g)) → cond b (Some (plus_delta d c)) (find (delta_pairs cov d) g) ≡ bind (cond b (Some 0) (bind (index_of cov g) (λ i. Some (suc i)))) (λ i. Some (plus_delta d g))
    step true e h = ap (λ (x : ℕ). Some (plus_delta d x)) (eqb-true c g e)
    step false e h = h ∙ sym (bind_suc (index_of cov g) (λ i. Some (plus_delta d g)))

-- A single substitution.
nth_words : (s : List ℕ) (at n i : ℕ) → i < n → nth (words s at n) i ≡ Some (word s (at + 2 * i))
unfolding nth words
nth_words s at zero i h = absurd (omega arith)
nth_words s at (suc n) zero h =
    let e : at + 2 * 0 ≡ at = omega arith in
    rw e
nth_words s at (suc n) (suc i) h =
    let e : at + 2 * suc i ≡ at + 2 + 2 * i = omega arith in
    rw e (nth_words s (at + 2) n i (omega arith))

nth_past : (s : List ℕ) (at n i : ℕ) → n ≤ i → nth (words s at n) i ≡ None
unfolding nth words
nth_past s at zero i h = refl
nth_past s at (suc n) zero h = absurd (omega arith)
nth_past s at (suc n) (suc i) h = nth_past s (at + 2) n i (omega arith)

null_none : (d g : ℕ) (subs : List ℕ) (b : Bool) → substitute (cond b (Table.single_delta None d) (Table.single_list None subs)) g ≡ None
unfolding substitute bind
null_none d g subs true = refl
null_none d g subs false = refl

not_there : (d g : ℕ) (subs cov : List ℕ) (b : Bool) → index_of cov g ≡ None → substitute (cond b (Table.single_delta (Some cov) d) (Table.single_list (Some cov) subs)) g ≡ None
unfolding substitute bind
not_there d g subs cov true h = delta_index cov d g ∙ rw h
not_there d g subs cov false h = list_index cov subs g ∙ rw h

module _ (s : List ℕ) (g : ℕ) {cover : ℕ} (e : cover ≡ word s 2) where
  pub single_null : cover ≡ 0 → None ≡ substitute (single s) g
  unfolding single reach
  single_null z = sym (rw (← e, eq-eqb cover 0 z) (null_none (word s 4) g (words s 6 (word s 4)) (eqb (word s 0) 1)))

  module _ (z : cover ≡ 0 → ⊥) where
    pub single_not : None ≡ index_of (coverage s cover) g → None ≡ substitute (single s) g
    unfolding single reach
    single_not q = sym (rw (← e, ne_eqb cover 0 z, zero-add cover) (not_there (word s 4) g (words s 6 (word s 4)) (coverage s cover) (eqb (word s 0) 1) (sym q)))

    module _ {i : ℕ} (q : Some i ≡ index_of (coverage s cover) g) {format last : ℕ} (f : last ≡ word s 4) (j : format ≡ word s 0) where
      pub single_delta : format ≡ 1 → {w : ℕ} → w ≡ (g + last) % 65536 → Some w ≡ substitute (single s) g
      unfolding single reach substitute bind plus_delta
      single_delta y v = sym (rw (← e, ne_eqb cover 0 z, zero-add cover, ← j, eq-eqb format 1 y, delta_index (coverage s cover) (word s 4) g, ← q, v, f))

      listed : (format ≡ 1 → ⊥) → substitute (single s) g ≡ nth (words s 6 last) i
      unfolding single reach substitute bind
      listed y = rw (← e, ne_eqb cover 0 z, zero-add cover, ← j, ne_eqb format 1 y, list_index (coverage s cover) (words s 6 (word s 4)) g, ← q, f)

      pub single_past : (format ≡ 1 → ⊥) → last ≤ i → None ≡ substitute (single s) g
      single_past y l = sym (listed y ∙ nth_past s 6 last i l)

      pub single_listed : (format ≡ 1 → ⊥) → i < last → {w : ℕ} → w ≡ word s (6 + 2 * i) → Some w ≡ substitute (single s) g
      single_listed y l v = sym (listed y ∙ nth_words s 6 last i l ∙ ap Some (sym v))
