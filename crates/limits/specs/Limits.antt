-- Layouts, sources and jobs at their limits. A fact about a long list is proved of lists of every length, and what is computed at the limit is a number or a short list.
use Rattle.std.specs.Prelude.{ℕ, zero, suc, ◌+◌, ◌*◌, ◌≡◌, refl, Bool, true, false, List, [], ◌∷◌, ◌++◌, map, length, take, replicate, Some}
use Rattle.std.proofs.Common.{arith, ap, ◌∙◌}
use Rattle.std.proofs.lemmas.List.{length-replicate}
use Rattle.meaning.specs.Words.{every, up_from, bytes2, flat}
use Rattle.meaning.specs.Tables.{Rule, Table}
use Rattle.meaning.specs.Layout.{table_words, class_words, words_fit}
use Rattle.meaning.specs.Packed.{packed_words}
use Rattle.meaning.specs.Subset.{limit, too_big, written, words_in, written_in}
use Rattle.meaning.specs.Calls.{Row, call_in, call, stated, refuses}
use Rattle.meaning.specs.Job.{ascii, tag, runs_tag, good_job, job, program}
use Rattle.meaning.specs.Jobs.{jobs, bare}
use Rattle.limits.specs.Measured.{unfit_front, unfit_is_9, not_big, laid_short, laid_whole}
use Rattle.limits.specs.EqualCovers.{covers_length, covers_fit, packed_length, packed_fit}
use Rattle.limits.specs.LongRules.{rules_length, rules_fit}
use Rattle.limits.specs.Classes.{pairs_from, class_start}
use Rattle.limits.specs.Sources.{mark, bad_lookups, too_long, no_format, three}
use Rattle.limits.specs.Lent.{jobs_with_more}
use Rattle.limits.specs.Behind.{before_behind, good_behind, good_behind_lem}

-- Layouts. What survives is a context of format 3 with as many equal coverages, each of as many even glyphs, and as many records.
unfoldable pub repeated : ℕ → ℕ → ℕ → Table
unfolding up_from
repeated coverages glyphs records = Table.by_cover false [] (replicate coverages (Some (map (λ i. 2 * i) (up_from 0 glyphs)))) [] (replicate records (0, 1))

-- the last coverage at 65,534 is not too big: a header of 510 bytes, 127 coverages of 512 before it, and itself
pub last_offset_fits : too_big (table_words (repeated 128 254 62)) ≡ false
unfolding limit repeated
last_offset_fits = not_big (table_words (repeated 128 254 62)) 33023 (covers_length 128 254 62) refl (covers_fit 127 254 62 (omega arith) (omega arith) (omega arith))

-- the last coverage at 65,536 is: a header of 766 bytes and 127 coverages of 510 before it
pub last_offset_past : (written [] (Some (repeated 128 253 126))).number ≡ 9
unfolding written repeated
last_offset_past = unfit_is_9 [] (table_words (repeated 128 253 126)) (covers_fit 127 253 126 (omega arith) (omega arith) (omega arith))

-- 9 and 10 measure the layout that is asked for: packed, the same 128 equal coverages of 253 even glyphs are one coverage, and 1,276 bytes are needed
pub packed_is_measured : ((written_in 1 [] (Some (repeated 128 253 126))).number ≡ 10) × ((written_in 1 [] (Some (repeated 128 253 126))).len ≡ 1276)
unfolding limit words_in written_in repeated
packed_is_measured =
    let ws = packed_words (repeated 128 253 126) in
    let n : length ws ≡ 638 = packed_length 127 253 126 in
    laid_short ws 638 0 n (not_big ws 638 n refl (packed_fit 127 253 126 (omega arith) (omega arith))) refl

-- A context of format 1 with two covered glyphs, each with one rule of 8,188 records: the coverage at 65,534. It has 65,542 bytes, and they are needed.
unfoldable pub two_long : Table
two_long =
    let rule : Rule = record { back = []; count = 2; input = 3 ∷ []; ahead = []; records = replicate 8188 (0, 0) } in
    Table.by_glyph false (Some (1 ∷ 3 ∷ [])) (Some (rule ∷ []) ∷ Some (rule ∷ []) ∷ [])

pub over_65536_needed : ((written (replicate 65536 7) (Some two_long)).number ≡ 10) × ((written [] (Some two_long)).len ≡ 65542) × ((written (replicate 65542 7) (Some two_long)).number ≡ 0)
unfolding limit written two_long
over_65536_needed =
    let ws = table_words two_long in
    let n : length ws ≡ 32771 = rules_length 8188 in
    let small : too_big ws ≡ false = not_big ws 32771 n refl (rules_fit 8188) in
    ((laid_short ws 32771 65536 n small refl).0, (laid_short ws 32771 0 n small refl).1, laid_whole ws 32771 65542 n small refl)

-- the two of each entry, in order
unfoldable pub both_of : {A : Type 0} → List (A × A) → List A
both_of [] = []
both_of (e ∷ es) = e.0 ∷ e.1 ∷ both_of es

-- the glyphs 3i and 3i + 1 from i = 0 on, n of such pairs, and glyph 65,535, each in class 1
unfoldable pub two_of_three : ℕ → List (ℕ × ℕ)
unfolding up_from both_of
two_of_three n = both_of (map (λ i. ((3 * i, 1), (3 * i + 1, 1))) (up_from 0 n)) ++ ((65535, 1) ∷ [])

-- the same from any i on, pair by pair
pairs_are : (i n : ℕ) → both_of (map (λ k. ((3 * k, 1), (3 * k + 1, 1))) (up_from i n)) ++ ((65535, 1) ∷ []) ≡ pairs_from i n
unfolding up_from both_of pairs_from
pairs_are i zero = refl
pairs_are i (suc n) = rw (pairs_are (i + 1) n)

-- A class table takes the smaller form first, and then 9 measures it: format 1 over all 65,536 ids, 131,078 bytes, is the smaller of two where there are 21,846 ranges, and its count does not fit.
pub count_past : (take 3 (class_words (two_of_three 21845)) ≡ 1 ∷ 0 ∷ 65536 ∷ []) × (words_fit (class_words (two_of_three 21845)) ≡ false)
unfolding two_of_three every words_fit
count_past =
    let e : take 3 (class_words (two_of_three 21845)) ≡ 1 ∷ 0 ∷ 65536 ∷ [] = ap (λ l. take 3 (class_words l)) (pairs_are 0 21845) ∙ class_start 21844 (omega arith) refl in
    (e, unfit_front 3 (class_words (two_of_three 21845)) (1 ∷ 0 ∷ 65536 ∷ []) e refl)

-- Sources: one of 262,145 bytes is 4, after a bad lookup map and before its format; one of 262,144 is not. So it is in either form of the glyph map.
unfoldable pub sources : List Row
sources =
    refuses 1 (replicate 262145 0) [] (0x0001 ∷ []) 3
    ∷ refuses 1 (replicate 262145 0) [] [] 4
    ∷ refuses 1 (replicate 262144 0) [] [] 5
    ∷ []

-- in one of the forms, row by row
each_in : (b : Bool) → map (call_in (mark b) 0) sources ≡ map stated sources
unfolding limit sources
each_in b = three (bad_lookups b (replicate 262145 0)) (too_long b 262145 refl) (no_format b 262142 refl refl)

pub each_source : (map call sources ≡ map stated sources) × (map (call_in 6 0) sources ≡ map stated sources)
each_source = (each_in false, each_in true)

-- Jobs. Each of the table of jobs, with the bytes that the program lends.
pub each_job : map (λ r. program r.file) jobs ≡ map (λ r. ascii r.prints) jobs
unfolding program
each_job = jobs_with_more 262080

-- a file that ends in a tag, with as many zeros before a context of format 3 without coverages, whose trailer says where it starts
abbrev padded : List ℕ → ℕ → ℕ → List ℕ
padded end zeros start = replicate zeros 0 ++ (flat (bare ++ (1 ∷ 0 ∷ start ∷ 0 ∷ 6 ∷ 0 ∷ 0 ∷ 0 ∷ 0 ∷ 0 ∷ 0 ∷ 0 ∷ 0 ∷ [])) ++ end)

-- its test, by the number of zeros and the same file with none
padded_good : (end : List ℕ) (zeros start : ℕ) → good_job (padded end zeros start) ≡ good_behind zeros (padded end 0 start)
unfolding bytes2 flat
padded_good end zeros start = rw (length-replicate {A = ℕ} zeros 0) at (good_behind_lem (replicate zeros 0) (padded end 0 start) (omega arith))

-- at the limit and past it
padded_tests : (good_behind 65500 (padded tag 0 65500) ≡ true) × (good_behind 65501 (padded tag 0 65501) ≡ false) × (good_behind 65500 (padded runs_tag 0 65500) ≡ true) × (good_behind 65501 (padded runs_tag 0 65501) ≡ false)
unfolding bytes2 flat job before_behind good_behind
padded_tests = (refl, refl, refl, refl)

-- a file of 65,536 bytes is good, one of 65,537 is not, with either tag
pub longest_job : (good_job (padded tag 65500 65500) ≡ true) × (good_job (padded tag 65501 65501) ≡ false) × (good_job (padded runs_tag 65500 65500) ≡ true) × (good_job (padded runs_tag 65501 65501) ≡ false)
longest_job =
    (padded_good tag 65500 65500 ∙ padded_tests.0, padded_good tag 65501 65501 ∙ padded_tests.1, padded_good runs_tag 65500 65500 ∙ padded_tests.2, padded_good runs_tag 65501 65501 ∙ padded_tests.3)
