-- The entries that the cells of a map hold, as a list: so what is written by what the cells answer is what the definitions give for this map.
use Prim.Native.Nat.{ℕ, zero, suc, ◌+◌, ◌/◌, ◌%◌, ◌≤◌, ◌<◌}
use Rattle.std.specs.Prelude.{◌≡◌, Bool, cond, Option, None, Some}
use Rattle.std.proofs.Math.Path.{refl, sym, ap}
use Rattle.std.proofs.Common.{◌∙◌, arith}
use Rattle.std.proofs.Math.Bool.{true, false}
use mathlib.Core.List.{List, []}
use Rattle.std.proofs.Math.ListN.{get_or}
use Rattle.std.specs.Int.Bits.{bit_and}
use Rattle.std.proofs.lemmas.Nat.{and_le_r}
use Rattle.std.proofs.Math.Dec.{eqb}
use borrow.Author.Tests.{ne_eqb, eqb-true, eqb-false}
use Rattle.meaning.specs.Words.{find, bind, push, map_some, up_from}
use Rattle.cell_maps.specs.Cells.{cell_at, even_mask, answer_in, folded, Inside, Holds, Kept, entry_folded, entry_kept, even_words}
use Rattle.cell_maps.specs.declared.Map.{Map}

-- the entry that the i-th cell of a folded table holds: the cell is that of its old number
unfoldable pub entry_in : List ℕ → Map → ℕ → Option (ℕ × ℕ)
entry_in t m i =
    let e = get_or t (m.at + i) 0 in
    cond (eqb (bit_and (e / 65536) m.mask) i) (Some (e / 65536, e % 65536)) None

-- the numbers from a on, n of them, that f answers, with their answers
unfoldable pub answered_from : (ℕ → Option ℕ) → ℕ → ℕ → List (ℕ × ℕ)
answered_from f a zero = []
answered_from f a (suc n) = push (bind (f a) (λ v. Some (a, v))) (answered_from f (a + 1) n)

-- the entries of all cells; with an even mask, those of all words
unfoldable pub entries_in : List ℕ → Map → List (ℕ × ℕ)
entries_in t m = cond (even_mask m) (answered_from (folded t m) 0 65536) (map_some (entry_in t m) (up_from 0 (m.mask + 1)))

-- a number in the row is found with its answer, and one past it, or below it, is not found
module _ (f : ℕ → Option ℕ) (x : ℕ) where
  below_row : (a n : ℕ) → x < a → find (answered_from f a n) x ≡ None
  unfolding answered_from find push bind
  below_row a zero h = refl
  below_row a (suc n) h = step (f a) (below_row (a + 1) n (omega arith))
    where
      step : (o : Option ℕ) → find (answered_from f (a + 1) n) x ≡ None → find (push (bind o (λ v. Some (a, v))) (answered_from f (a + 1) n)) x ≡ None
      step None e = e
      step (Some v) e = rw (ne_eqb a x (λ q. omega arith)) e

  in_row : (a n : ℕ) → (a + n ≤ x → f x ≡ None) → a ≤ x → find (answered_from f a n) x ≡ f x
  unfolding answered_from find push bind
  in_row a zero h l = sym (h (omega arith))
  in_row a (suc n) h l = step (f a) refl (below_row (a + 1) n) (in_row (a + 1) n (λ g. h (omega arith))) (eqb a x) refl
    where
      step : (o : Option ℕ) → f a ≡ o → (x < a + 1 → find (answered_from f (a + 1) n) x ≡ None) → (a + 1 ≤ x → find (answered_from f (a + 1) n) x ≡ f x) → (b : Bool) → eqb a x ≡ b
          → find (push (bind o (λ v. Some (a, v))) (answered_from f (a + 1) n)) x ≡ f x
      step None e low high true q = let s : a ≡ x = eqb-true a x q in low (omega arith) ∙ sym e ∙ ap f s
      step None e low high false q = let s : a ≡ x → ⊥ = eqb-false a x q in high (omega arith)
      step (Some v) e low high true q = let s : a ≡ x = eqb-true a x q in rw q (sym e ∙ ap f s)
      step (Some v) e low high false q = let s : a ≡ x → ⊥ = eqb-false a x q in rw q (high (omega arith))

module _ (t : List ℕ) (m : Map) (x : ℕ) where
  -- the cell of x, among the map's
  abbrev own : ℕ
  own = bit_and x m.mask

  -- another cell's entry has another number
  past_other : (i : ℕ) (r : List (ℕ × ℕ)) → (i ≡ own → ⊥) → find (push (entry_in t m i) r) x ≡ find r x
  unfolding entry_in find push
  past_other i r h = step (eqb (bit_and (get_or t (m.at + i) 0 / 65536) m.mask) i) refl
    where
      key : ℕ
      key = get_or t (m.at + i) 0 / 65536

      step : (b : Bool) → eqb (bit_and key m.mask) i ≡ b → find (push (cond b (Some (key, get_or t (m.at + i) 0 % 65536)) None) r) x ≡ find r x
      step true e = rw (ne_eqb key x (λ k. h (sym (eqb-true (bit_and key m.mask) i e) ∙ ap (λ (n : ℕ). bit_and n m.mask) k)))
      step false e = refl

  -- its own cell answers
  at_own : (r : List (ℕ × ℕ)) → find r x ≡ None → find (push (entry_in t m own) r) x ≡ answer_in (cell_at t m x) x
  unfolding entry_in find push answer_in
  at_own r h = step (eqb key x) refl (eqb (bit_and key m.mask) own) refl
    where
      key : ℕ
      key = cell_at t m x / 65536

      step : (b : Bool) → eqb key x ≡ b → (d : Bool) → eqb (bit_and key m.mask) own ≡ d
          → find (push (cond d (Some (key, cell_at t m x % 65536)) None) r) x ≡ cond b (Some (cell_at t m x % 65536)) None
      step true e true f = rw e
      step true e false f = absurd (eqb-false (bit_and key m.mask) own f (ap (λ (n : ℕ). bit_and n m.mask) (eqb-true key x e)))
      step false e true f = rw e h
      step false e false f = h

  -- cells that are not its own do not answer
  none_other : (a n : ℕ) → ((i : ℕ) → a ≤ i → i ≡ own → ⊥) → find (map_some (entry_in t m) (up_from a n)) x ≡ None
  unfolding map_some up_from find
  none_other a zero h = refl
  none_other a (suc n) h = past_other a (map_some (entry_in t m) (up_from (a + 1) n)) (h a (omega arith)) ∙ none_other (a + 1) n (λ i l. h i (omega arith))

  among : (a n : ℕ) → a ≤ own → own < a + n → find (map_some (entry_in t m) (up_from a n)) x ≡ answer_in (cell_at t m x) x
  unfolding map_some up_from
  among a zero l h = absurd (omega arith)
  among a (suc n) l h = step (map_some (entry_in t m) (up_from (a + 1) n)) (λ k. none_other (a + 1) n k) (λ k. among (a + 1) n k (omega arith)) (eqb a own) refl
    where
      step : (rest : List (ℕ × ℕ)) → (((i : ℕ) → a + 1 ≤ i → i ≡ own → ⊥) → find rest x ≡ None) → (a + 1 ≤ own → find rest x ≡ answer_in (cell_at t m x) x)
          → (b : Bool) → eqb a own ≡ b → find (push (entry_in t m a) rest) x ≡ answer_in (cell_at t m x) x
      step rest others later true e =
          let s : a ≡ own = eqb-true a own e in
          ap (λ (i : ℕ). find (push (entry_in t m i) rest) x) s ∙ at_own rest (others (λ i k j. omega arith))
      step rest others later false e =
          let s : a ≡ own → ⊥ = eqb-false a own e in
          past_other a rest s ∙ later (omega arith)

-- the cells hold these entries
pub entries_hold : {t : List ℕ} {m : Map} → Inside t m → Holds t m (entries_in t m)
unfolding entries_in
entries_hold {t} {m} k = record { inside = k; answers = λ x. sym (step x (even_mask m) refl) }
  where
    step : (x : ℕ) (b : Bool) → even_mask m ≡ b → find (cond b (answered_from (folded t m) 0 65536) (map_some (entry_in t m) (up_from 0 (m.mask + 1)))) x ≡ folded t m x
    step x true e = in_row (folded t m) x 0 65536 (λ h. even_words t m (eqb-true (m.mask % 2) 0 e) x (omega arith)) (omega arith)
    step x false e =
        among t m x 0 (m.mask + 1) (omega arith) (omega (arith, and_le_r x m.mask))
        ∙ ap (λ (v : ℕ). answer_in v x) (sym (entry_folded t m (record { odd = omega (arith, eqb-false (m.mask % 2) 0 e) }) x))

-- Where cells behind a map change, its entries stay.
row_same : (f h : ℕ → Option ℕ) → ((x : ℕ) → f x ≡ h x) → (a n : ℕ) → answered_from f a n ≡ answered_from h a n
unfolding answered_from
row_same f h e a zero = refl
row_same f h e a (suc n) = rw (e a, row_same f h e (a + 1) n)

module _ {at : ℕ} {t₀ t : List ℕ} (k : Kept at t₀ t) where
  cells_kept : (m : Map) (n i : ℕ) → m.at + i + n ≤ at → map_some (entry_in t m) (up_from i n) ≡ map_some (entry_in t₀ m) (up_from i n)
  unfolding map_some up_from entry_in
  cells_kept m zero i h = refl
  cells_kept m (suc n) i h = rw (k.same (m.at + i) (omega arith), cells_kept m n (i + 1) (omega arith))

  pub entries_kept : (m : Map) → m.at + m.mask < at → entries_in t m ≡ entries_in t₀ m
  unfolding entries_in
  entries_kept m h =
      rw (row_same (folded t m) (folded t₀ m) (λ x. ap (λ (e : ℕ). answer_in e x) (entry_kept k m h x)) 0 65536, cells_kept m (m.mask + 1) 0 (omega arith))
