-- Members that are known to go: the marks of their places, one bit each.
use Rattle.std.specs.Prelude.{ℕ, ◌≡◌, refl, Bool, true, false, List, replicate, eqb, Option, None}
use Rattle.std.proofs.Common.{sym, ◌∙◌, true≢false, eqb-true}
use Rattle.std.proofs.lemmas.Bool.{eqb-false}
use Rattle.bits.specs.Bits.{marked, Put}
use Rattle.bits.specs.Reading.{none_marked}

-- nothing is left of a member whose place has a mark
pub record Dead (left : ℕ → Option (List ℕ)) (dead : List ℕ) : Type 0 where
  pub gone : (p : ℕ) → marked dead 0 p ≡ true → left p ≡ None

module _ {left : ℕ → Option (List ℕ)} {dead : List ℕ} where
  -- a member that goes gets a mark
  pub dead_more : {next : List ℕ} (at : ℕ) → Dead left dead → left at ≡ None → Put 0 at dead next → Dead left next
  dead_more {next} at d h e = record { gone = λ p m. step p (eqb p at) refl m }
    where
      step : (p : ℕ) (b : Bool) → eqb p at ≡ b → marked next 0 p ≡ true → left p ≡ None
      step p true q m = rw (eqb-true p at q) h
      step p false q m = d.gone p (sym (e.others p (eqb-false p at q)) ∙ m)

-- where there are no marks, none is known to go
pub dead_none : {left : ℕ → Option (List ℕ)} (n : ℕ) → Dead left (replicate n 0)
dead_none n = record { gone = λ p m. absurd (true≢false (sym m ∙ none_marked n 0 p)) }
