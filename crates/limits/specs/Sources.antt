-- Calls on a source of zeros, with a glyph map of either form.
use Rattle.std.specs.Prelude.{ℕ, suc, ◌≡◌, refl, Bool, true, false, List, [], ◌∷◌, replicate, leb, ltb}
use Rattle.std.proofs.lemmas.List.{length-replicate}
use Rattle.meaning.specs.Subset.{Outcome, limit, subset}
use Rattle.meaning.specs.Calls.{call_in, stated, refuses}

-- the mark of the glyph map's form: of runs, or of pairs
abbrev pub mark : Bool → ℕ
mark true = 6
mark false = 4

-- with a bad lookup map any source is 3
pub bad_lookups : (b : Bool) (s : List ℕ) → call_in (mark b) 0 (refuses 1 s [] (0x0001 ∷ []) 3) ≡ stated (refuses 1 s [] (0x0001 ∷ []) 3)
unfolding subset
bad_lookups true s = refl
bad_lookups false s = refl

-- n zeros are 4 where n is past the limit
pub too_long : (b : Bool) (n : ℕ) → ltb limit n ≡ true → call_in (mark b) 0 (refuses 1 (replicate n 0) [] [] 4) ≡ stated (refuses 1 (replicate n 0) [] [] 4)
unfolding subset
too_long true n h = rw (length-replicate {A = ℕ} n 0, h)
too_long false n h = rw (length-replicate {A = ℕ} n 0, h)

-- and 5 where it is not, and two of them are there to read a format
pub no_format : (b : Bool) (n : ℕ) → ltb limit (suc (suc n)) ≡ false → leb 2 (suc (suc n)) ≡ true
    → call_in (mark b) 0 (refuses 1 (replicate (suc (suc n)) 0) [] [] 5) ≡ stated (refuses 1 (replicate (suc (suc n)) 0) [] [] 5)
unfolding subset
no_format true n h g = rw (length-replicate {A = ℕ} n 0, h, g)
no_format false n h g = rw (length-replicate {A = ℕ} n 0, h, g)

-- three outcomes, one by one
pub three : {a b c x y z : Outcome} → a ≡ x → b ≡ y → c ≡ z → a ∷ b ∷ c ∷ [] ≡ x ∷ y ∷ z ∷ []
three e f g = rw (e, f, g)
