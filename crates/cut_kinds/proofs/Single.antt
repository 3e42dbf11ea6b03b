-- Single substitutions: what is written of them is the same in both layouts.
use Prim.Native.Nat.{ℕ}
use mathlib.Core.Path.{◌≡◌, refl, sym, ap}
use mathlib.Core.Bool.{Bool, true, false, cond}
use Rattle.std.specs.Prelude.{Option, None, Some}
use mathlib.Core.List.{List, [], ◌∷◌}
use lib.ListN.{length}
use lib.Dec.{eqb}
use Rattle.meaning.specs.Words.{word, words, keys, values, bind}
use Rattle.meaning.specs.Parts.{coverage}
use Rattle.meaning.specs.Tables.{Table, reach, single, delta_pairs, list_pairs}
use Rattle.meaning.specs.Cut.{kept_substitutes, delta_of, agree, kept_singles, cut}
use Rattle.meaning.specs.Layout.{block, coverage_words, table_words}
use Rattle.meaning.specs.Packed.{header, packed_words}
use Rattle.meaning.specs.Subset.{laid_into, written, words_in, written_in}
use Rattle.laws.specs.PackedReading.{packed_cover}

-- a table with one block has the same words in both layouts
delta_words : (packing : ℕ) (cover : Option (List ℕ)) (d : ℕ) → words_in packing (Table.single_delta cover d) ≡ table_words (Table.single_delta cover d)
unfolding words_in packed_words header table_words
delta_words packing cover d = step (eqb packing 1)
  where
    step : (t : Bool) → cond t (packed_words (Table.single_delta cover d)) (table_words (Table.single_delta cover d)) ≡ table_words (Table.single_delta cover d)
    step true = packed_cover 1 (block coverage_words cover) (d ∷ [])
    step false = refl

list_words : (packing : ℕ) (cover : Option (List ℕ)) (subs : List ℕ) → words_in packing (Table.single_list cover subs) ≡ table_words (Table.single_list cover subs)
unfolding words_in packed_words header table_words
list_words packing cover subs = step (eqb packing 1)
  where
    step : (t : Bool) → cond t (packed_words (Table.single_list cover subs)) (table_words (Table.single_list cover subs)) ≡ table_words (Table.single_list cover subs)
    step true = packed_cover 2 (block coverage_words cover) (length subs ∷ subs)
    step false = refl

pub singles_written : (packing : ℕ) (out : List ℕ) (g l : List (ℕ × ℕ)) (s : List ℕ) → written out (cut g l (single s)) ≡ written_in packing out (cut g l (single s))
unfolding cut single bind kept_singles written written_in
singles_written packing out g l s = by_format (eqb (word s 0) 1)
  where
    agreed : (es : List (ℕ × ℕ)) → written out (kept_singles es) ≡ written_in packing out (kept_singles es)
    agreed [] = refl
    agreed (e ∷ es) = step (agree (e ∷ es))
      where
        step : (t : Bool) → written out (Some (cond t (Table.single_delta (Some (keys (e ∷ es))) (delta_of e)) (Table.single_list (Some (keys (e ∷ es))) (values (e ∷ es))))) ≡ written_in packing out (Some (cond t (Table.single_delta (Some (keys (e ∷ es))) (delta_of e)) (Table.single_list (Some (keys (e ∷ es))) (values (e ∷ es)))))
        step true = ap (laid_into out) (sym (delta_words packing (Some (keys (e ∷ es))) (delta_of e)))
        step false = ap (laid_into out) (sym (list_words packing (Some (keys (e ∷ es))) (values (e ∷ es))))

    by_cover : (c : Option (List ℕ)) (f : List ℕ → List (ℕ × ℕ)) → written out (bind c (λ cov. kept_singles (f cov))) ≡ written_in packing out (bind c (λ cov. kept_singles (f cov)))
    by_cover None f = refl
    by_cover (Some cov) f = agreed (f cov)

    by_format : (t : Bool) → written out (cut g l (cond t (Table.single_delta (reach (coverage s) s 0 2) (word s 4)) (Table.single_list (reach (coverage s) s 0 2) (words s 6 (word s 4)))))
        ≡ written_in packing out (cut g l (cond t (Table.single_delta (reach (coverage s) s 0 2) (word s 4)) (Table.single_list (reach (coverage s) s 0 2) (words s 6 (word s 4)))))
    by_format true = by_cover (reach (coverage s) s 0 2) (λ cov. kept_substitutes g (delta_pairs cov (word s 4)))
    by_format false = by_cover (reach (coverage s) s 0 2) (λ cov. kept_substitutes g (list_pairs cov (words s 6 (word s 4))))
