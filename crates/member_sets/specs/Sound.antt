-- What the check says of a set: it lies inside the source, and so does each of its members.
use Rattle.std.specs.Prelude.{ℕ, zero, suc, ◌+◌, ◌*◌, ◌≤◌, ◌<◌, ◌≡◌, refl, Bool, true, false, cond, ◌&&◌, List, length, leb, eqb, Option, None, Some}
use Rattle.std.proofs.Common.{sym, ap, ◌∙◌, arith, leb-true, ne_eqb}
use Rattle.meaning.specs.Words.{word, inside}
use Rattle.meaning.specs.Fault.{lowest, part_fault, fault_through, set_fault}
use Rattle.laws.specs.Runs.{both}
use Rattle.laws.specs.SoundGood.{part_sound, lowest_none}

-- bytes that lie inside
pub inside_is : (s : List ℕ) (at n : ℕ) → inside s at n ≡ true → at + n ≤ length s
unfolding inside
inside_is s at n h = leb-true (at + n) (length s) h

-- each part that offsets reach is sound, if none is faulty
pub through_sound : (fault_at : ℕ → Option ℕ) (s : List ℕ) (base slot n i : ℕ) → fault_through fault_at s base slot n ≡ None → i < n → (word s (slot + 2 * i) ≡ 0 → ⊥)
    → fault_at (base + word s (slot + 2 * i)) ≡ None
unfolding fault_through
through_sound fault_at s base slot zero i h l z = absurd (omega arith)
through_sound fault_at s base slot (suc n) zero h l z =
    let e : slot + 2 * 0 ≡ slot = omega arith in
    let o = (lowest_none _ _ h).0 in
    rw e (rw (ne_eqb (word s slot) 0 (rw e at z)) at o)
through_sound fault_at s base slot (suc n) (suc i) h l z =
    let e : slot + 2 * suc i ≡ slot + 2 + 2 * i = omega arith in
    rw e (through_sound fault_at s base (slot + 2) n i (lowest_none _ _ h).1 (omega arith) (rw e at z))

module _ (fault_at : ℕ → Option ℕ) (s : List ℕ) (at : ℕ) (h : set_fault fault_at s at ≡ None) where
  sound : (inside s at 2 && inside s (at + 2) (2 * word s at) ≡ true) × (fault_through fault_at s at (at + 2) (word s at) ≡ None)
  unfolding set_fault
  sound = part_sound at _ _ h

  -- its count and its offsets lie inside
  pub set_inside : at + 2 + 2 * word s at ≤ length s
  set_inside = inside_is s (at + 2) (2 * word s at) (both (inside s at 2) _ sound.0).1

  -- and its members are sound
  pub member_sound : {i off : ℕ} → i < word s at → off ≡ word s (at + 2 + 2 * i) → (off ≡ 0 → ⊥) → fault_at (at + off) ≡ None
  member_sound {i} {off} l e z = rw e (through_sound fault_at s at (at + 2) (word s at) i sound.1 l (λ w. z (e ∙ w)))
