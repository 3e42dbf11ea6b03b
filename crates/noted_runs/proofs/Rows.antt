-- Numbers in a row of which a map answers none, or all in step.
use Prim.Native.Nat.{ℕ, zero, suc, ◌+◌, ◌-◌, ◌*◌, ◌/◌, ◌%◌, ◌≤◌, ◌<◌}
use mathlib.Core.Path.{◌≡◌, sym, ap, ◌∙◌}
use Rattle.std.specs.Prelude.{Option, None, Some}
use mathlib.Core.List.{List, [], ◌∷◌, ◌++◌, append-nil, append_assoc}
use native.Mathlib.Nat.{add-zero, zero-add}
use native.Mathlib.Omega.{arith}
use lib.ListN.{length, set}
use Rattle.meaning.specs.Words.{bind, push, up_from}
use Rattle.meaning.specs.Maps.{steps}
use Rattle.cell_maps.specs.Cells.{Kept, kept_all, kept_more, kept_set}
use Rattle.area.specs.Part.{part, notes}
use Rattle.range_meets.specs.Met.{met}
use Rattle.range_meets.proofs.Lists.{notes_store}
use Rattle.noted_runs.specs.Walks.{NotedSteps}

module _ (f : ℕ → Option ℕ) where
  pub row_none : (j a n : ℕ) (cov : List ℕ) → ((x : ℕ) → a ≤ x → x < a + n → f x ≡ None) → met f j (up_from a n ++ cov) ≡ met f (j + n) cov
  unfolding met up_from bind push
  row_none j a zero cov h = rw (add-zero j)
  row_none j a (suc n) cov h =
      let e : j + suc n ≡ j + 1 + n = omega arith in
      rw (h a (omega arith) (omega arith), e) (row_none (j + 1) (a + 1) n cov (λ x l g. h x (omega arith) (omega arith)))

  pub row_steps : (j a w n : ℕ) (cov : List ℕ) → ((x : ℕ) → a ≤ x → x < a + n → f x ≡ Some (w + (x - a))) → met f j (up_from a n ++ cov) ≡ steps j w n ++ met f (j + n) cov
  unfolding met up_from bind push steps
  row_steps j a w zero cov h = rw (add-zero j)
  row_steps j a w (suc n) cov h =
      let e : j + suc n ≡ j + 1 + n = omega arith in
      let o : f a ≡ Some w = h a (omega arith) (omega arith) ∙ ap Some (near w a) in
      rw (o, e) (ap (λ (l : List (ℕ × ℕ)). (j, w) ∷ l) (row_steps (j + 1) (a + 1) (w + 1) n cov (λ x l g. h x (omega arith) (omega arith) ∙ ap Some (next x l))))
    where
      near : (w a : ℕ) → w + (a - a) ≡ w
      near w a = omega arith

      next : (x : ℕ) → a + 1 ≤ x → w + (x - a) ≡ w + 1 + (x - (a + 1))
      next x l = omega arith

-- numbers in a row, in two parts
pub up_split : (b m n : ℕ) → up_from b (m + n) ≡ up_from b m ++ up_from (b + m) n
unfolding up_from
up_split b zero n = rw (zero-add n, add-zero b)
up_split b (suc m) n =
    let e : suc m + n ≡ suc (m + n) = omega arith in
    let f : b + suc m ≡ b + 1 + m = omega arith in
    rw (e, f) (ap (λ (l : List ℕ). b ∷ l) (up_split (b + 1) m n))

-- pairs in step, from the front
steps_left : (a b r : ℕ) → 0 < r → steps a b r ≡ (a, b) ∷ steps (a + 1) (b + 1) (r - 1)
unfolding steps
steps_left a b zero h = absurd (omega arith)
steps_left a b (suc r) h =
    let e : suc r - 1 ≡ r = omega arith in
    rw e

steps_none : (a b r : ℕ) → r ≡ 0 → steps a b r ≡ []
unfolding steps
steps_none a b r e = rw e

-- What the loop of `note_steps` keeps: these notes, and those that are left, are all.
pub record Stepping (t₀ t : List ℕ) (to index new n i : ℕ) : Type 0 where
  pub within : i ≤ n
  pub kept : Kept to t₀ t
  pub noted : notes t to i ++ steps (index + i) (new + i) (n - i) ≡ steps index new n

module _ {t₀ : List ℕ} {to index new n : ℕ} where
  pub stepping_all : Stepping t₀ t₀ to index new n 0
  unfolding part
  stepping_all =
      let a : n - 0 ≡ n = omega arith in
      record { within = omega arith; kept = kept_all to t₀; noted = rw (add-zero index, add-zero new, a) }

  module _ {t : List ℕ} {i : ℕ} (c : Stepping t₀ t to index new n i) where
    pub stepping_next : i < n → (to + n ≤ length t₀) × (index + n ≤ 65536) × (new + n ≤ 65536) → Stepping t₀ (set t (to + i) ((index + i) * 65536 + (new + i))) to index new n (i + 1)
    stepping_next h a = record {
      within = omega arith;
      kept = kept_more c.kept (kept_set to t (to + i) ((index + i) * 65536 + (new + i)) (omega arith));
      noted = ap (λ (l : List (ℕ × ℕ)). l ++ steps (index + (i + 1)) (new + (i + 1)) (n - (i + 1))) stored
          ∙ append_assoc (notes t to i) ((index + i, new + i) ∷ []) (steps (index + (i + 1)) (new + (i + 1)) (n - (i + 1)))
          ∙ ap (λ (l : List (ℕ × ℕ)). notes t to i ++ l) (sym first)
          ∙ c.noted;
    }
      where
        stored : notes (set t (to + i) ((index + i) * 65536 + (new + i))) to (i + 1) ≡ notes t to i ++ ((index + i, new + i) ∷ [])
        stored =
            let p : ((index + i) * 65536 + (new + i)) / 65536 ≡ index + i = omega (arith, a.2) in
            let q : ((index + i) * 65536 + (new + i)) % 65536 ≡ new + i = omega (arith, a.2) in
            rw (p, q) at (notes_store t to i ((index + i) * 65536 + (new + i)) (omega (arith, a.0, c.kept.size)))

        first : steps (index + i) (new + i) (n - i) ≡ (index + i, new + i) ∷ steps (index + (i + 1)) (new + (i + 1)) (n - (i + 1))
        first =
            let e : index + i + 1 ≡ index + (i + 1) = omega arith in
            let f : new + i + 1 ≡ new + (i + 1) = omega arith in
            let g : n - i - 1 ≡ n - (i + 1) = omega arith in
            rw (e, f, g) at (steps_left (index + i) (new + i) (n - i) (omega arith))

    pub stepping_end : n ≤ i → NotedSteps t₀ t to index new n
    stepping_end h =
        let e : i ≡ n = omega (arith, c.within) in
        record { kept = c.kept; noted = ap (notes t to) (sym e) ∙ sym (append-nil (notes t to i)) ∙ rw (steps_none (index + i) (new + i) (n - i) (omega arith)) at c.noted }
