-- Notes of covered glyphs as entries of a glyph map: those of the map are the entries of its covered glyphs.
use Rattle.std.specs.Prelude.{ℕ, zero, suc, ◌+◌, ◌*◌, ◌/◌, ◌≤◌, ◌<◌, ◌≡◌, refl, true, List, [], ◌∷◌, ◌++◌, length, get_or, Option, None, Some}
use Rattle.std.proofs.Common.{sym, ap, ◌∙◌, subst, append_assoc, arith, length-append, get_or-append-add}
use Rattle.meaning.specs.Words.{find, bind, push, map_some}
use Rattle.meaning.specs.Parts.{coverage, coverage_sound}
use Rattle.meaning.specs.Cut.{covered_map}
use Rattle.laws.specs.Stands.{All}
use Rattle.area.specs.Part.{part, notes}
use Rattle.range_meets.specs.Met.{met}

-- the covered glyph that a note names by its coverage index, with the note's new number
unfoldable pub named : List ℕ → List (ℕ × ℕ) → List (ℕ × ℕ)
named cov [] = []
named cov (e ∷ r) = (get_or cov e.0 0, e.1) ∷ named cov r

-- what `put_covered` asks: the coverage is sound, each note's index is one of its glyphs, and there is room for the entries
pub record Names (s : List ℕ) (cover : ℕ) (t : List ℕ) (at n : ℕ) (area : List ℕ) : Type 0 where
  pub sound : coverage_sound s cover ≡ true
  pub indexes : (j : ℕ) → j < n → get_or t (at + j) 0 / 65536 < length (coverage s cover)
  pub cells : at + n ≤ length t
  pub room : 4 * n ≤ length area

-- the notes of the glyphs that a map has are the entries of the map of covered glyphs
named_from : (g : List (ℕ × ℕ)) (before cov : List ℕ) (i : ℕ) → i ≡ length before → named (before ++ cov) (met (find g) i cov) ≡ covered_map g cov
unfolding named met covered_map map_some push bind
named_from g before [] i e = refl
named_from g before (c ∷ cov) i e = step (find g c) (ap (λ (l : List ℕ). named l (met (find g) (i + 1) cov)) (sym (append_assoc before (c ∷ []) cov)) ∙ named_from g (before ++ (c ∷ [])) cov (i + 1) (omega (arith, length-append before (c ∷ []))))
  where
    here : get_or (before ++ (c ∷ cov)) i 0 ≡ c
    here =
        let z : i ≡ length before + 0 = omega arith in
        rw z (get_or-append-add before (c ∷ cov) 0 0)

    step : (o : Option ℕ) → named (before ++ (c ∷ cov)) (met (find g) (i + 1) cov) ≡ covered_map g cov
        → named (before ++ (c ∷ cov)) (push (bind o (λ n. Some (i, n))) (met (find g) (i + 1) cov)) ≡ push (bind o (λ n. Some (c, n))) (covered_map g cov)
    step None k = k
    step (Some n) k = rw (here, k) refl

pub named_met : (g : List (ℕ × ℕ)) (cov : List ℕ) → named cov (met (find g) 0 cov) ≡ covered_map g cov
named_met g cov = named_from g [] cov 0 refl

-- notes of the glyphs that a map answers have coverage indexes
met_below : (f : ℕ → Option ℕ) (i n : ℕ) (cov : List ℕ) → i + length cov ≤ n → All (λ e. e.0 < n) (met f i cov)
unfolding met push bind
met_below f i n [] h = tt
met_below f i n (c ∷ cov) h = step (f c) (met_below f (i + 1) n cov (omega arith))
  where
    step : (o : Option ℕ) → All (λ e. e.0 < n) (met f (i + 1) cov) → All (λ e. e.0 < n) (push (bind o (λ x. Some (i, x))) (met f (i + 1) cov))
    step None k = k
    step (Some x) k = (omega arith, k)

notes_each : (n : ℕ) (t : List ℕ) (at m : ℕ) → All (λ e. e.0 < n) (notes t at m) → (j : ℕ) → j < m → get_or t (at + j) 0 / 65536 < n
unfolding part
notes_each n t at zero h j l = absurd (omega arith)
notes_each n t at (suc m) h zero l = let e : at + 0 ≡ at = omega arith in rw e h.0
notes_each n t at (suc m) h (suc j) l = let e : at + suc j ≡ at + 1 + j = omega arith in rw e (notes_each n t (at + 1) m h.1 j (omega arith))

pub noted_indexes : (f : ℕ → Option ℕ) (cov t : List ℕ) (at m : ℕ) → notes t at m ≡ met f 0 cov → (j : ℕ) → j < m → get_or t (at + j) 0 / 65536 < length cov
noted_indexes f cov t at m e = notes_each (length cov) t at m (subst (All (λ n. n.0 < length cov)) (sym e) (met_below f 0 (length cov) cov (omega arith)))

-- as many entries as notes
pub named_length : (cov : List ℕ) (ns : List (ℕ × ℕ)) → length (named cov ns) ≡ length ns
unfolding named
named_length cov [] = refl
named_length cov (e ∷ r) = ap suc (named_length cov r)
