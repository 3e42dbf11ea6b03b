-- What the writing of a table answers, with a lent area.
use Rattle.std.specs.Prelude.{ℕ, ◌+◌, ◌*◌, ◌≤◌, ◌<◌, ◌≡◌, refl, List, length, get_or, ltb, Option, None, Some, Result}
use Rattle.std.proofs.Common.{sym, ap, ◌∙◌, arith, le-ltb}
use Rattle.meaning.specs.Words.{flat}
use Rattle.meaning.specs.Tables.{Table}
use Rattle.meaning.specs.Layout.{block, words_fit}
use Rattle.meaning.specs.Subset.{Outcome, refused, limit, words_in, written_in}
use Rattle.laws.specs.Stands.{flat_length}
use Rattle.laws.specs.Through.{Opt}
use Rattle.room.specs.Laid.{enough_area, laid_as, laid_words_lem, laid_over, laid_unfit}
use Rattle.tried.specs.Tries.{Tries, tries_less}
use Rattle.tried.specs.declared.NotCut.{NotCut}
use Rattle.placed_sets.specs.Sorts.{left_words}

-- words laid into the buffer, which fit if the second of them, the coverage's offset, does; or nothing is left
unfoldable pub laid_words : List ℕ → Option (List ℕ) → Outcome
laid_words out None = refused out 8
laid_words out (Some ws) = laid_as (ltb (get_or ws 1 0) 65536) out (flat ws)

-- the words of a table in the layout with this mark do fit exactly then
abbrev pub ByCover : ℕ → Table → Type 0
ByCover packing t = words_fit (words_in packing t) ≡ ltb (get_or (words_in packing t) 1 0) 65536

-- What a cut answers, with an area of a bytes: few cells, as `few` says; that the area is too short; or what is left, laid into the buffer.
pub record Answered (few : Type 0) (out₀ : List ℕ) (words : Option (List ℕ)) (a : ℕ) (r : Result ℕ NotCut) (out : List ℕ) : Type 0 where
  pub answer : Tries few (a < enough_area) r out₀ out (laid_words out₀ words)

-- words of a table, laid
laid_as_lem : (packing : ℕ) (out : List ℕ) (left : Option Table) → Opt (ByCover packing) left → laid_words out (block (words_in packing) left) ≡ written_in packing out left
unfolding laid_words written_in block
laid_as_lem packing out None h = refl
laid_as_lem packing out (Some t) h = laid_words_lem out (words_in packing t) h

module _ {few other : Type 0} (f : few → other) {out₀ : List ℕ} {words : Option (List ℕ)} {a : ℕ} {r : Result ℕ NotCut} {out : List ℕ} where
  -- what is answered of words is answered of their table
  pub answered_as : (packing : ℕ) (left : Option Table) → Opt (ByCover packing) left → words ≡ block (words_in packing) left → Answered few out₀ words a r out → Tries other (a < enough_area) r out₀ out (written_in packing out₀ left)
  answered_as packing left c e h =
      let m : laid_words out₀ words ≡ written_in packing out₀ left = ap (laid_words out₀) e ∙ laid_as_lem packing out₀ left c in
      tries_less few (a < enough_area) other (a < enough_area) r out₀ out (written_in packing out₀ left) f (λ l. l) (rw m at h.answer)

  -- the same, said otherwise
  pub answered_said : {others : Option (List ℕ)} → words ≡ others → Answered few out₀ words a r out → Answered other out₀ others a r out
  answered_said {others} e h = record { answer = tries_less few (a < enough_area) other (a < enough_area) r out₀ out (laid_words out₀ others) f (λ l. l) (rw e at h.answer) }

-- an area that has what is enough and is too short for the coverage means that the layout is over the limit
pub words_over : (out : List ℕ) (words : Option (List ℕ)) {n a : ℕ} → n ≤ limit → a < 2 * length (left_words words) + n → enough_area ≤ a → refused out 9 ≡ laid_words out words
unfolding laid_words left_words limit
words_over out None h e l = absurd (omega arith)
words_over out (Some ws) h e l = sym (laid_over (ltb (get_or ws 1 0) 65536) out (flat ws) (omega (arith, flat_length ws)))

-- and so does a coverage's offset that doesn't fit a word
pub words_unfit : (out : List ℕ) (words : Option (List ℕ)) → 65536 ≤ get_or (left_words words) 1 0 → refused out 9 ≡ laid_words out words
unfolding laid_words left_words
words_unfit out None l = absurd (omega arith)
words_unfit out (Some ws) l = rw (le-ltb (get_or ws 1 0) 65536 l) (sym (laid_unfit out (flat ws)))
