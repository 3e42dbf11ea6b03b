-- Stores that don't meet what stands: before words that were written, and behind a stretch of cells.
use Rattle.std.specs.Prelude.{ℕ, zero, suc, ◌+◌, ◌*◌, ◌≤◌, ◌<◌, ◌≡◌, refl, List, [], ◌∷◌, ◌++◌, map, length, get_or, set, take}
use Rattle.std.proofs.Common.{sym, ap, ◌∙◌, arith, add-one, length-append, length-take-le, get_or-set_same, get_or-set_other}
use Rattle.std.proofs.lemmas.List.Edits.{sets}
use Rattle.std.proofs.Math.Seq.{length-sets, take-set-lt}
use Rattle.std.proofs.lemmas.List.{set-append_left}
use Rattle.meaning.specs.Words.{flat}
use Rattle.laws.specs.Stands.{flat_length}
use Rattle.laws.specs.Written.{Wrote}
use Rattle.area.specs.Extends.{Extends, extends_more, wrote_extends}
use Rattle.area.specs.Part.{part, part_append, notes}

-- a row of stores inside a front, and inside the first of two lists
take_sets : (n : ℕ) (l : List ℕ) (i : ℕ) (xs : List ℕ) → i + length xs ≤ n → take n (sets l i xs) ≡ sets (take n l) i xs
take_sets n l i [] h = refl
take_sets n l i (x ∷ xs) h = take_sets n (set l i x) (suc i) xs (omega arith) ∙ ap (λ (k : List ℕ). sets k (suc i) xs) (take-set-lt n l i x (omega arith))

sets_append : (u v : List ℕ) (i : ℕ) (xs : List ℕ) → i + length xs ≤ length u → sets (u ++ v) i xs ≡ sets u i xs ++ v
sets_append u v i [] h = refl
sets_append u v i (x ∷ xs) h =
    ap (λ (k : List ℕ). sets k (suc i) xs) (set-append_left u v i x (omega arith)) ∙ sets_append (set u i x) v (suc i) xs (omega (arith, length-sets u i (x ∷ []), h))

module _ {a : List ℕ} where
  -- a row of stores before words that were written leaves them
  pub extends_store : {p : ℕ} {ws b : List ℕ} {q : ℕ} (at : ℕ) (xs : List ℕ) → Extends a p ws b q → at + length xs ≤ p → Extends (sets a at xs) p ws (sets b at xs) q
  extends_store {p} {ws} {b} {q} at xs h l = record {
    place = h.place;
    room = omega (arith, h.room, length-sets a at xs);
    same = length-sets b at xs ∙ h.same ∙ sym (length-sets a at xs);
    front = take_sets q b at xs (omega (arith, h.place)) ∙ ap (λ (k : List ℕ). sets k at xs) h.front
        ∙ sets_append (take p a) (flat ws) at xs (omega (arith, length-take-le p a (omega (arith, h.place, h.room))))
        ∙ ap (λ (k : List ℕ). k ++ flat ws) (sym (take_sets p a at xs l));
  }

  -- words that are written last, in the place that was left for them
  pub extends_before : {p q : ℕ} {ws b : List ℕ} {r : ℕ} (vs : List ℕ) → Extends a q ws b r → q ≡ p + 2 * length vs → Extends a p (vs ++ ws) (sets b p (flat vs)) r
  extends_before {p} {q} vs h e =
      let w : Wrote a p vs (sets a p (flat vs)) q = record { place = e; bytes = refl } in
      extends_more (wrote_extends w (omega (arith, h.place, h.room))) (extends_store p (flat vs) h (omega (arith, flat_length vs)))

-- cells that read the same are the same stretch
pub part_same : (a b : List ℕ) (at n : ℕ) → ((j : ℕ) → at ≤ j → j < at + n → get_or a j 0 ≡ get_or b j 0) → part a at n ≡ part b at n
unfolding part
part_same a b at zero h = refl
part_same a b at (suc n) h = rw (h at (omega arith) (omega arith), part_same a b (at + 1) n (λ j l g. h j (omega arith) (omega arith)))

-- a cell more: it was stored behind the stretch
pub part_store : (t : List ℕ) (at n v : ℕ) → at + n < length t → part (set t (at + n) v) at (n + 1) ≡ part t at n ++ (v ∷ [])
unfolding part
part_store t at n v h =
    part_append (set t (at + n) v) at n 1
    ∙ rw (get_or-set_same t (at + n) v 0 h, part_same (set t (at + n) v) t at n (λ j l g. get_or-set_other t (at + n) j v 0 (λ e. omega arith)))
