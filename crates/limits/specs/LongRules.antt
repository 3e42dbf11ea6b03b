-- A context of format 1 with two long rules: how many words it has, and whether each fits.
use Rattle.std.specs.Prelude.{ℕ, ◌+◌, ◌*◌, ◌≡◌, refl, false, List, [], ◌∷◌, ◌++◌, map, length, replicate, ltb, Option, Some}
use Rattle.std.proofs.Common.{arith, ap, ◌∙◌, length-append}
use Rattle.std.proofs.lemmas.List.{length-replicate}
use Rattle.meaning.specs.Words.{twos}
use Rattle.meaning.specs.Tables.{Rule, Table}
use Rattle.meaning.specs.Layout.{offsets, blocks, block, rule_words, set_words, coverage_words, sets_layout, table_words, words_fit, layout}
use Rattle.laws.specs.Stands.{twos_length}
use Rattle.laws.specs.SetsBack.{Words2, GoodRule}
use Rattle.laws.specs.ReadsBack.{Good}
use Rattle.laws.specs.FitsExactly.{by_glyph_exactly}
use Rattle.limits.specs.EqualCovers.{all_equal}

-- a rule of two glyphs and n records
abbrev long_rule : ℕ → Rule
long_rule n = record { back = []; count = 2; input = 3 ∷ []; ahead = []; records = replicate n (0, 0) }

-- two sets of one such rule each, and the table with them
abbrev two_sets : ℕ → List (Option (List Rule))
two_sets n = Some (long_rule n ∷ []) ∷ Some (long_rule n ∷ []) ∷ []

abbrev pub two_rules : ℕ → Table
two_rules n = Table.by_glyph false (Some (1 ∷ 3 ∷ [])) (two_sets n)

-- how many words one set has
set_length : (n : ℕ) → length (set_words (rule_words false) (long_rule n ∷ [])) ≡ 2 * n + 5
unfolding offsets blocks rule_words set_words
set_length n =
    let rs : List (ℕ × ℕ) = replicate n (0, 0) in
    omega (arith, length-append (twos rs) [], twos_length rs, length-replicate {A = ℕ × ℕ} n (0, 0))

-- both
sets_length : (n : ℕ) → length (blocks (map (block (set_words (rule_words false))) (two_sets n))) ≡ 4 * n + 10
unfolding blocks block
sets_length n =
    let b = set_words (rule_words false) (long_rule n ∷ []) in
    omega (arith, length-append b (b ++ []), length-append b [], set_length n)

-- the coverage
cover_length : length (coverage_words (1 ∷ 3 ∷ [])) ≡ 4
unfolding layout
cover_length = refl

-- the table
pub rules_length : (n : ℕ) → length (table_words (two_rules n)) ≡ 4 * n + 19
unfolding offsets blocks block sets_layout table_words
rules_length n =
    let sets = blocks (map (block (set_words (rule_words false))) (two_sets n)) in
    let c = coverage_words (1 ∷ 3 ∷ []) in
    omega (arith, length-append sets (c ++ []), length-append c [], sets_length n, cover_length)

-- the table can be written
rules_good : (n : ℕ) → Good (two_rules n)
rules_good n =
    let rule : GoodRule false (long_rule n) = record { back = tt; count = omega arith; listed = refl; input = (omega arith, tt); ahead = tt; records = all_equal Words2 n (0, 0) (omega arith, omega arith); plain = λ e. (refl, refl) } in
    (((omega arith, (omega arith, tt)), (omega arith, (omega arith, tt))), ((rule, tt), ((rule, tt), tt)), omega arith)

-- each word fits exactly if the coverage's offset does: the bytes of the header and of both sets
pub rules_fit : (n : ℕ) → words_fit (table_words (two_rules n)) ≡ ltb (8 * n + 30) 65536
rules_fit n =
    let e : 6 + 2 * 0 + 2 * 2 + 2 * length (blocks (map (block (set_words (rule_words false))) (two_sets n))) ≡ 8 * n + 30 = omega (arith, sets_length n) in
    by_glyph_exactly false (1 ∷ 3 ∷ []) (two_sets n) (rules_good n) ∙ ap (λ q. ltb q 65536) e
