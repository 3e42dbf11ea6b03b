-- A gap that is closed: the offsets before it are lessened, and the members behind it moved down over it.
use Rattle.std.specs.Prelude.{ℕ, ◌+◌, ◌-◌, ◌*◌, ◌≤◌, ◌≡◌, refl, List, [], ◌∷◌, ◌++◌, map, length, Option, Some}
use Rattle.std.proofs.Common.{ap, arith}
use Rattle.meaning.specs.Words.{flat}
use Rattle.meaning.specs.Layout.{offsets}
use Rattle.laws.specs.Stands.{All}
use Rattle.area.specs.Extends.{Extends}
use Rattle.area.specs.Part.{part}

-- words less by d, as the code computes them: their bytes are those modulo 65,536
unfoldable pub lessened : ℕ → List ℕ → List ℕ
lessened d [] = []
lessened d (w ∷ ws) = (w + 262144 - d) ∷ lessened d ws

-- numbers less by d
abbrev pub less_by : ℕ → List ℕ → List ℕ
less_by d os = map (λ o. o - d) os

-- Where the bytes of the offsets `os` stand from `at` on, then a gap, and from `first` up to `end` those of the members:
-- afterwards the offsets, less by the gap, and the members stand from `at` on.
pub record Closed (before : List ℕ) (at k first end : ℕ) (after : List ℕ) (r : ℕ) : Type 0 where
  pub same : length after ≡ length before
  pub closed : (os members : List ℕ) → part before at (2 * k) ≡ flat os → part before first (end - first) ≡ flat members
      → All (λ o. first - (at + 2 * k) ≤ o) os → Extends before at (less_by (first - (at + 2 * k)) os ++ members) after r

-- the blocks of a set's members
abbrev pub members : List (List ℕ) → List (Option (List ℕ))
members bs = map (λ b. Some b) bs

-- offsets that were counted with the gap, less by it: those without it
pub offsets_less : (d p : ℕ) (bs : List (List ℕ)) → less_by d (offsets (p + d) (members bs)) ≡ offsets p (members bs)
unfolding offsets
offsets_less d p [] = refl
offsets_less d p (b ∷ bs) =
    let e : p + d - d ≡ p = omega arith in
    let f : p + d + 2 * length b ≡ p + 2 * length b + d = omega arith in
    rw (e, f) (ap (λ (l : List ℕ). p ∷ l) (offsets_less d (p + 2 * length b) bs))

-- none of them is less than the gap
pub offsets_most : (d p : ℕ) (bs : List (List ℕ)) → d ≤ p → All (λ o. d ≤ o) (offsets p (members bs))
unfolding offsets
offsets_most d p [] h = tt
offsets_most d p (b ∷ bs) h = (h, offsets_most d (p + 2 * length b) bs (omega arith))
