-- A front of lent scratch that is enough, or all of it.
use Rattle.std.specs.Prelude.{ℕ, ◌≤◌, ◌<◌, min, ◌≡◌, List, length, take, Result}
use Rattle.std.proofs.Common.{sym, arith, length-take-le}
use Rattle.meaning.specs.Subset.{Outcome}
use Rattle.tried.specs.Tries.{Tries, tries_less}
use Rattle.tried.specs.declared.NotCut.{NotCut}

-- r is the lesser of a and b
pub record Least (a b r : ℕ) : Type 0 where
  pub first : r ≤ a
  pub second : r ≤ b
  pub one : r < b → r ≡ a

pub least_is : {a b r : ℕ} → r ≡ min a b → Least a b r
least_is e = record { first = omega arith; second = omega arith; one = λ l. omega arith }

pub front_length : {n c : ℕ} (t : List ℕ) → Least (length t) c n → n ≡ length (take n t)
front_length {n} t h = sym (length-take-le n t h.first)

front_short : {n c : ℕ} (t : List ℕ) → Least (length t) c n → length (take n t) < c → length t < c
front_short {n} {c} t h l = omega (arith, front_length t h, h.one (omega (arith, front_length t h)))

-- what a front of the area was too short for, all of it is too short for
pub front_area : {n c : ℕ} (area : List ℕ) → Least (length area) c n → (few : Type 0) (r : Result ℕ NotCut) (out after : List ℕ) (made : Outcome)
    → Tries few (length (take n area) < c) r out after made → Tries few (length area < c) r out after made
front_area {n} {c} area h few r out after made =
    tries_less few (length (take n area) < c) few (length area < c) r out after made (λ f. f) (front_short area h)

-- and so of the cells
pub front_tries : {n k c d : ℕ} (t area : List ℕ) (r : Result ℕ NotCut) (out after : List ℕ) (made : Outcome) → Least (length t) c n → Least (length area) d k
    → Tries (length (take n t) < c) (length (take k area) < d) r out after made → Tries (length t < c) (length area < d) r out after made
front_tries {n} {k} {c} {d} t area r out after made h g =
    tries_less (length (take n t) < c) (length (take k area) < d) (length t < c) (length area < d) r out after made (front_short t h) (front_short area g)
