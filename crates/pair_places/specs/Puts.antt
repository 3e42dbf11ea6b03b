-- Numbers that are put into a row, and the places of the fields that stay as such a row.
use Rattle.std.specs.Prelude.{ℕ, suc, ◌+◌, ◌*◌, ◌/◌, ◌%◌, ◌<◌, ◌≡◌, refl, Bool, true, false, cond, List, [], ◌∷◌, ◌++◌, length, take, set, eqb, Option, None, Some}
use Rattle.std.proofs.Common.{sym, ap, ◌∙◌, append_assoc, append-nil, arith, length-set, length-append, take-suc-set, eq-eqb, ne_eqb}
use Rattle.meaning.specs.Words.{push, map_some}
use Rattle.meaning.specs.Tables.{bit, field_count, fields_below}
use Rattle.pair_places.specs.Formats.{fields, field_place, kept_places}

-- the numbers ns stand from `at` on, what stood before them is as before, and r is the place after them
pub record Puts (before : List ℕ) (at : ℕ) (ns after : List ℕ) (r : ℕ) : Type 0 where
  pub place : r ≡ at + length ns
  pub same : length after ≡ length before
  pub front : take r after ≡ take at before ++ ns

module _ {a : List ℕ} {p : ℕ} where
  pub puts_none : Puts a p [] a p
  puts_none = record { place = omega arith; same = refl; front = sym (append-nil (take p a)) }

  pub puts_one : {v : ℕ} → p < length a → Puts a p (v ∷ []) (set a p v) (p + 1)
  puts_one {v} h =
      let e : p + 1 ≡ suc p = omega arith in
      record { place = refl; same = length-set a p v; front = rw e (take-suc-set a p v h) }

  pub puts_more : {ns ms b c : List ℕ} {q r : ℕ} → Puts a p ns b q → Puts b q ms c r → Puts a p (ns ++ ms) c r
  puts_more {ns} {ms} h k = record {
    place = omega (arith, h.place, k.place, length-append ns ms);
    same = k.same ∙ h.same;
    front = k.front ∙ ap (λ (l : List ℕ). l ++ ms) h.front ∙ append_assoc (take p a) ns ms;
  }

  pub puts_said : {ns ms b : List ℕ} {q : ℕ} → Puts a p ns b q → ns ≡ ms → Puts a p ms b q
  puts_said h e = rw e at h

module _ (start f k : ℕ) where
  -- the two ways through `field_place`
  pub place_none : (f / k % 2 ≡ 1 → ⊥) → 0 ≡ field_place start f k
  unfolding bit field_place
  place_none b = rw (ne_eqb (bit f k) 1 b)

  pub place_is : f / k % 2 ≡ 1 → {n : ℕ} → n ≡ field_count (f % k) → start + 2 * n ≡ field_place start f k
  unfolding bit fields_below field_place
  place_is b e = rw (eq-eqb (bit f k) 1 b, e)

  -- and through `put_place`
  pub kept_none : (new : ℕ) → (new / k % 2 ≡ 1 → ⊥) → [] ≡ kept_places start f new (k ∷ [])
  unfolding bit kept_places map_some push
  kept_none new b = rw (ne_eqb (bit new k) 1 b)

  pub kept_one : (new : ℕ) → new / k % 2 ≡ 1 → {v : ℕ} → v ≡ field_place start f k → v ∷ [] ≡ kept_places start f new (k ∷ [])
  unfolding bit kept_places map_some push
  kept_one new b e = rw (eq-eqb (bit new k) 1 b, e)

-- one field and the others
kept_front : (start f new k : ℕ) (ks : List ℕ) → kept_places start f new (k ∷ []) ++ kept_places start f new ks ≡ kept_places start f new (k ∷ ks)
unfolding kept_places map_some push
kept_front start f new k ks = step (eqb (bit new k) 1) (map_some (λ k. cond (eqb (bit new k) 1) (Some (field_place start f k)) None) ks)
  where
    step : (b : Bool) (r : List ℕ) → push (cond b (Some (field_place start f k)) None) [] ++ r ≡ push (cond b (Some (field_place start f k)) None) r
    step true r = refl
    step false r = refl

-- the four fields one by one
pub kept_all : (start f new : ℕ) → kept_places start f new (1 ∷ []) ++ (kept_places start f new (2 ∷ []) ++ (kept_places start f new (4 ∷ []) ++ kept_places start f new (8 ∷ []))) ≡ kept_places start f new fields
kept_all start f new =
    ap (λ (l : List ℕ). kept_places start f new (1 ∷ []) ++ l) (ap (λ (l : List ℕ). kept_places start f new (2 ∷ []) ++ l) (kept_front start f new 4 (8 ∷ [])) ∙ kept_front start f new 2 (4 ∷ 8 ∷ []))
    ∙ kept_front start f new 1 (2 ∷ 4 ∷ 8 ∷ [])
