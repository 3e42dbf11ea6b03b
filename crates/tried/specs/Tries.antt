-- What a cut with lent scratch answers.
use Rattle.std.specs.Prelude.{ℕ, ◌≤◌, ◌<◌, ◌≡◌, refl, List, Option, None, Some, IsSome, Result, Ok, Err}
use Rattle.std.proofs.Common.{subst}
use Rattle.meaning.specs.Subset.{Outcome, refused}
use Rattle.room.specs.Laid.{outcome_of}
use Rattle.room.specs.declared.NotLaid.{NotLaid}
use Rattle.tried.specs.declared.NotCut.{NotCut}
use Rattle.tried.specs.declared.NotCut.TheVariants.{FewCells, Short, Refused}

-- what became of a table, as a cut says it
abbrev pub became : Result ℕ NotLaid → Result ℕ NotCut
became (Ok n) = Ok n
became (Err e) = Err (Refused e)

-- what became of it, unless the scratch was too short
abbrev pub answered : Result ℕ NotCut → Option (Result ℕ NotLaid)
answered (Err FewCells) = None
answered (Err Short) = None
answered (Err (Refused e)) = Some (Err e)
answered (Ok n) = Some (Ok n)

-- the answer's outcome is `made`; or the scratch was too short, which `few` says of its cells and `short` of its area, and the buffer is untouched
abbrev pub Tries : Type 0 → Type 0 → Result ℕ NotCut → List ℕ → List ℕ → Outcome → Type 0
Tries few short (Err FewCells) before after made = few × (after ≡ before)
Tries few short (Err Short) before after made = short × (after ≡ before)
Tries few short (Err (Refused e)) before after made = outcome_of (Err e) after ≡ made
Tries few short (Ok n) before after made = outcome_of (Ok n) after ≡ made

-- where the scratch was not too short, the outcome is what became of the table
pub tries_became : (few short : Type 0) (laid : Result ℕ NotLaid) (before after : List ℕ) (made : Outcome) → outcome_of laid after ≡ made → Tries few short (became laid) before after made
tries_became few short (Ok n) before after made e = e
tries_became few short (Err x) before after made e = e

-- what says less of the scratch
pub tries_less : (few short few' short' : Type 0) (r : Result ℕ NotCut) (before after : List ℕ) (made : Outcome) → (few → few') → (short → short') → Tries few short r before after made → Tries few' short' r before after made
tries_less few short few' short' (Err FewCells) before after made f g h = (f h.0, h.1)
tries_less few short few' short' (Err Short) before after made f g h = (g h.0, h.1)
tries_less few short few' short' (Err (Refused e)) before after made f g h = h
tries_less few short few' short' (Ok n) before after made f g h = h

-- what became of the table is `made`
pub tries_answered : (few short : Type 0) (r : Result ℕ NotCut) (before after : List ℕ) (made : Outcome) {laid : Result ℕ NotLaid} → Some laid ≡ answered r → Tries few short r before after made → outcome_of laid after ≡ made
tries_answered few short (Err FewCells) before after made e h = absurd (cc)
tries_answered few short (Err Short) before after made e h = absurd (cc)
tries_answered few short (Err (Refused x)) before after made {laid} e h = let f : laid ≡ Err x = cc in rw f h
tries_answered few short (Ok n) before after made {laid} e h = let f : laid ≡ Ok n = cc in rw f h

-- where the scratch was too short, the buffer is untouched
pub tries_short : (few short : Type 0) (r : Result ℕ NotCut) (before after : List ℕ) (made : Outcome) → None ≡ answered r → Tries few short r before after made → after ≡ before
tries_short few short (Err FewCells) before after made e h = h.1
tries_short few short (Err Short) before after made e h = h.1
tries_short few short (Err (Refused x)) before after made e h = absurd (cc)
tries_short few short (Ok n) before after made e h = absurd (cc)

-- scratch that is never too short says what became of the table
pub tries_always : (r : Result ℕ NotCut) (before after : List ℕ) (made : Outcome) → Tries ⊥ ⊥ r before after made → IsSome (answered r)
tries_always (Err FewCells) before after made h = absurd h.0
tries_always (Err Short) before after made h = absurd h.0
tries_always (Err (Refused x)) before after made h = refl
tries_always (Ok n) before after made h = refl

-- What is answered where an area of n bytes has no room: it is too short; or it has what is enough, and then the answer is that the layout is too big. The buffer is untouched.
pub record NoRoom (enough n : ℕ) (r : NotCut) : Type 0 where
  pub told : {out : List ℕ} {made : Outcome} → (enough ≤ n → refused out 9 ≡ made) → Tries ⊥ (n < enough) (Err r) out out made

-- and so of an area that is as long
pub room_told : {enough n m : ℕ} {r : NotCut} {out : List ℕ} {made : Outcome} → NoRoom enough n r → n ≡ m → (enough ≤ n → refused out 9 ≡ made) → Tries ⊥ (m < enough) (Err r) out out made
room_told {enough} {r = r} {out} {made} h e k = subst (λ (i : ℕ). Tries ⊥ (i < enough) (Err r) out out made) e (h.told k)
