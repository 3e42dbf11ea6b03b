-- A table by sets, as it is written: the header in a row, the sets with their offsets, and then coverage and class tables.
use Rattle.std.specs.Prelude.{ℕ, ◌+◌, ◌*◌, ◌≡◌, refl, length, Option}
use Rattle.std.proofs.Math.Path.{sym}
use Rattle.std.proofs.Common.{ap, ◌∙◌, arith}
use mathlib.Core.List.{List, [], ◌∷◌, ◌++◌, append_assoc}
use Rattle.std.proofs.Math.ListN.{length-append}
use Rattle.std.proofs.lemmas.List.Edits.{sets}
use Rattle.meaning.specs.Words.{flat}
use Rattle.meaning.specs.Layout.{offsets, blocks, sets_layout}
use Rattle.laws.specs.Through.{offsets_length}
use Rattle.laws.specs.Written.{sets_flat}
use Rattle.laws.specs.Laid.{laid, laid_row}

module _ (format : ℕ) (tail : List (Option (List ℕ))) (more : List ℕ) (bs : List (Option (List ℕ))) where
  -- where the first set stands, and where coverage and class tables begin
  abbrev pub first_set : ℕ
  first_set = 4 + 2 * length tail + 2 * length more + 2 * length bs

  abbrev pub tail_start : ℕ
  tail_start = first_set + 2 * length (blocks bs)

  -- the words before the offsets of the sets: format, offsets of coverage and class tables, further words, the count of sets
  unfoldable pub head_words : List ℕ
  head_words = format ∷ (offsets tail_start tail ++ (more ++ (length bs ∷ [])))

  pub head_length : 2 * length head_words ≡ 4 + 2 * length tail + 2 * length more
  unfolding head_words
  head_length = omega (arith, length-append (offsets tail_start tail) (more ++ (length bs ∷ [])), length-append more (length bs ∷ []), offsets_length tail_start tail)

  -- the layout is these words, then the offsets of the sets and the sets, then coverage and class tables
  layout_is : sets_layout format tail more bs ≡ (head_words ++ (offsets first_set bs ++ blocks bs)) ++ blocks tail
  unfolding sets_layout head_words
  layout_is =
      let os = offsets first_set bs in
      sym (ap (λ (l : List ℕ). format ∷ l)
      (simp append_assoc))

  pub table_size : 2 * length (sets_layout format tail more bs) ≡ tail_start + 2 * length (blocks tail)
  table_size =
      let os = offsets first_set bs in
      omega (arith, ap length layout_is, length-append (head_words ++ (os ++ blocks bs)) (blocks tail), length-append head_words (os ++ blocks bs), length-append os (blocks bs), offsets_length first_set bs, head_length)

  -- the three writes give the layout
  pub table_written : (out : List ℕ) {one two three : List ℕ} → one ≡ sets out 0 (flat head_words) → two ≡ laid one (4 + 2 * length tail + 2 * length more) 0 first_set bs
      → three ≡ sets two tail_start (flat (blocks tail)) → three ≡ sets out 0 (flat (sets_layout format tail more bs))
  table_written out e f g =
      let os = offsets first_set bs in
      let h : 4 + 2 * length tail + 2 * length more ≡ 0 + 2 * length head_words = omega (arith, head_length) in
      let k : tail_start ≡ 0 + 2 * length (head_words ++ (os ++ blocks bs)) =
      omega (arith, head_length, length-append head_words (os ++ blocks bs), length-append os (blocks bs), offsets_length first_set bs) in
      g
      ∙ ap (λ (l : List ℕ). sets l tail_start (flat (blocks tail)))
      (f ∙ laid_row _ (4 + 2 * length tail + 2 * length more) 0 first_set bs (omega arith)
      ∙ rw e (ap (λ (n : ℕ). sets (sets out 0 (flat head_words)) n (flat (os ++ blocks bs))) h ∙ sets_flat out 0 head_words (os ++ blocks bs)))
      ∙ ap (λ (n : ℕ). sets (sets out 0 (flat (head_words ++ (os ++ blocks bs)))) n (flat (blocks tail))) k
      ∙ sets_flat out 0 (head_words ++ (os ++ blocks bs)) (blocks tail)
      ∙ ap (λ (l : List ℕ). sets out 0 (flat l)) (sym layout_is)
