-- A context of format 3 with equal coverages: how many words it has, plain and packed, and whether each fits.
use Rattle.std.specs.Prelude.{ℕ, zero, suc, ◌+◌, ◌*◌, ◌≤◌, ◌<◌, ◌≡◌, refl, true, false, List, [], ◌∷◌, ◌++◌, map, length, replicate, ltb, Some}
use Rattle.std.proofs.Common.{arith, suc-mul, ap, ◌∙◌, length-append, lt-ltb, le-leb, ne_eqb}
use Rattle.std.proofs.lemmas.List.{length-replicate, length-map}
use Rattle.meaning.specs.Words.{up_from, every, twos}
use Rattle.meaning.specs.Tables.{Table, drop_null}
use Rattle.meaning.specs.Layout.{offsets, blocks, block, runs, coverage_words, covers_layout, table_words, words_fit}
use Rattle.meaning.specs.Packed.{without, first_of_each, together, offset_in, packed_words}
use Rattle.laws.specs.Stands.{All, Word, twos_length}
use Rattle.laws.specs.Runs.{Up}
use Rattle.laws.specs.RunsLeft.{goes_on, runs_end_count}
use Rattle.laws.specs.PartsBack.{Glyphs}
use Rattle.laws.specs.Through.{Opt, offsets_length}
use Rattle.laws.specs.SetsBack.{Words2}
use Rattle.laws.specs.ReadsBack.{Good}
use Rattle.laws.specs.Repeats.{same_list}
use Rattle.laws.specs.PackedReading.{shared_offset, shared_offsets, shared_blocks, packed_covers}
use Rattle.laws.specs.FitsExactly.{last_offset, by_cover_exactly}
use Rattle.laws.specs.FitsPacked.{packed_by_cover_exactly}

-- Even glyphs: n of them, from 2i on.
abbrev evens : ℕ → ℕ → List ℕ
evens i n = map (λ k. 2 * k) (up_from i n)

-- how many they are
evens_length : (i n : ℕ) → length (evens i n) ≡ n
unfolding up_from
evens_length i zero = refl
evens_length i (suc n) = ap suc (evens_length (i + 1) n)

-- they ascend
evens_up : (low i n : ℕ) → low ≤ 2 * i → Up low (evens i n)
unfolding up_from
evens_up low i zero h = tt
evens_up low i (suc n) h = (h, evens_up (2 * i + 1) (i + 1) n (omega arith))

-- each is a word where the last is
evens_words : (i n : ℕ) → 2 * (i + n) ≤ 65536 → All Word (evens i n)
unfolding up_from
evens_words i zero h = tt
evens_words i (suc n) h = (omega arith, evens_words (i + 1) n (omega arith))

-- no two of them are neighbours
evens_end : (i n : ℕ) → goes_on (2 * i) 0 (map (λ g. (g, 0)) (evens (i + 1) n)) ≡ false
unfolding up_from goes_on
evens_end i zero = refl
evens_end i (suc n) = rw (ne_eqb (2 * i + 1) (2 * (i + 1)) (λ e. omega arith))

-- so each is a run
evens_runs : (i n : ℕ) → length (runs (map (λ g. (g, 0)) (evens i n))) ≡ n
unfolding up_from runs
evens_runs i zero = refl
evens_runs i (suc n) = runs_end_count (2 * i) 0 (map (λ g. (g, 0)) (evens (i + 1) n)) (evens_end i n) ∙ ap suc (evens_runs (i + 1) n)

-- and their coverage lists them
cover_length : (n : ℕ) → length (coverage_words (evens 0 n)) ≡ n + 2
unfolding coverage_words
cover_length n = rw (evens_length 0 n, evens_runs 0 n, le-leb (4 + 2 * n) (4 + 6 * n) (omega arith)) (omega (arith, evens_length 0 n))

-- The table: n coverages of g even glyphs each, and m records.
abbrev pub even_covers : ℕ → ℕ → ℕ → Table
even_covers n g m = Table.by_cover false [] (replicate n (Some (evens 0 g))) [] (replicate m (0, 1))

-- what holds of one holds of each of n equal ones
pub all_equal : {A : Type 0} (P : A → Type 0) (n : ℕ) (a : A) → P a → All P (replicate n a)
all_equal P zero a h = tt
all_equal P (suc n) a h = (h, all_equal P n a h)

-- the table can be written
covers_good : (n g m : ℕ) → 2 * g ≤ 65536 → Good (even_covers n g m)
covers_good n g m h = (tt, all_equal (Opt Glyphs) n (Some (evens 0 g)) (evens_up 0 0 g (omega arith), evens_words 0 g (omega arith)), tt, all_equal Words2 m (0, 1) (omega arith, omega arith), λ e. (refl, refl))

-- the blocks of its coverages
equal_blocks : (n : ℕ) (gs : List ℕ) → map (block coverage_words) (replicate n (Some gs)) ≡ replicate n (Some (coverage_words gs))
unfolding block
equal_blocks zero gs = refl
equal_blocks (suc n) gs = rw (equal_blocks n gs)

-- The plain layout: how many words n equal blocks have.
equal_length : (n : ℕ) (b : List ℕ) → length (blocks (replicate n (Some b))) ≡ n * length b
unfolding blocks
equal_length zero b = omega arith
equal_length (suc n) b = omega (arith, length-append b (blocks (replicate n (Some b))), equal_length n b, suc-mul n (length b))

-- those of the table
pub covers_length : (n g m : ℕ) → length (table_words (even_covers n g m)) ≡ 3 + n + 2 * m + n * (g + 2)
unfolding covers_layout table_words
covers_length n g m =
    let b = coverage_words (evens 0 g) in
    let bs = replicate n (Some b) in
    let rs : List (ℕ × ℕ) = replicate m (0, 1) in
    let p = 6 + 2 * length bs + 4 * length rs in
    rw (equal_blocks n (evens 0 g), ← cover_length g) (omega (arith, length-append (offsets p bs) (twos rs ++ blocks bs), length-append (twos rs) (blocks bs), offsets_length p bs, twos_length rs, equal_length n b, length-replicate n (Some b), length-replicate {A = ℕ × ℕ} m (0, 1)))

-- the last of n + 1 equal blocks is behind n others
equal_last : (p n : ℕ) (b : List ℕ) → 0 < p → last_offset p (replicate (suc n) (Some b)) ≡ p + n * (2 * length b)
unfolding last_offset
equal_last p zero b h = omega arith
equal_last p (suc n) b h =
    let e = equal_last (p + 2 * length b) n b (omega arith) in
    let f : p + 2 * length b + n * (2 * length b) ≡ p + suc n * (2 * length b) = omega (arith, suc-mul n (2 * length b)) in
    rw (e, ne_eqb (p + 2 * length b + n * (2 * length b)) 0 (λ z. omega arith), f)

-- each word fits exactly if the last offset does: the bytes of the header and of all coverages but one
pub covers_fit : (n g m : ℕ) → suc n < 65536 → 2 * g ≤ 65536 → m < 65536 → words_fit (table_words (even_covers (suc n) g m)) ≡ ltb (6 + 2 * suc n + 4 * m + n * (2 * (g + 2))) 65536
covers_fit n g m hn hg hm =
    let i = replicate (suc n) (Some (evens 0 g)) in
    let b = coverage_words (evens 0 g) in
    let bs = replicate (suc n) (Some b) in
    let rs : List (ℕ × ℕ) = replicate m (0, 1) in
    let records : length rs ≡ m = length-replicate {A = ℕ × ℕ} m (0, 1) in
    let p = 6 + 2 * length bs + 4 * length rs in
    let last : last_offset p bs ≡ 6 + 2 * suc n + 4 * m + n * (2 * length b) = omega (arith, equal_last p n b (omega arith), length-replicate (suc n) (Some b), records) in
    by_cover_exactly i rs (covers_good (suc n) g m hg) (omega (arith, length-replicate (suc n) (Some (evens 0 g)))) (omega (arith, records))
    ∙ ap (λ l. ltb (last_offset (6 + 2 * length l + 4 * length rs) l) 65536) (equal_blocks (suc n) (evens 0 g)) ∙ rw (last, cover_length g)

-- The packed layout: of n + 1 equal blocks one is written.
written_once : (n : ℕ) (b : List ℕ) → first_of_each (drop_null (replicate (suc n) (Some b))) ≡ b ∷ []
unfolding drop_null without first_of_each
written_once zero b = refl
written_once (suc n) b = ap (λ l. b ∷ without b l) (written_once n b) ∙ rw (same_list b)

-- how many words the table has
pub packed_length : (n g m : ℕ) → length (packed_words (even_covers (suc n) g m)) ≡ 3 + suc n + 2 * m + (g + 2)
unfolding packed_words shared_offsets shared_blocks
packed_length n g m =
    let b = coverage_words (evens 0 g) in
    let bs = replicate (suc n) (Some b) in
    let rs : List (ℕ × ℕ) = replicate m (0, 1) in
    let p = 6 + 2 * length bs + 4 * length rs in
    let os = shared_offsets p bs in
    let once : length (shared_blocks bs) ≡ length (b ++ []) = ap (λ l. length (together l)) (written_once n b) in
    ap length (packed_covers [] (map (block coverage_words) (replicate (suc n) (Some (evens 0 g)))) [] rs)
    ∙ ap (λ l. length (3 ∷ length l ∷ length rs ∷ (shared_offsets (6 + 2 * length l + 4 * length rs) l ++ (twos rs ++ shared_blocks l)))) (equal_blocks (suc n) (evens 0 g))
    ∙ omega (arith, length-append os (twos rs ++ shared_blocks bs), length-append (twos rs) (shared_blocks bs), length-map bs (shared_offset p (first_of_each (drop_null bs))), length-replicate (suc n) (Some b), twos_length rs, length-replicate {A = ℕ × ℕ} m (0, 1), once, length-append b [], cover_length g)

-- each offset is that of the one block, and fits if it does
shared_fit : (p n : ℕ) (b : List ℕ) → p < 65536 → words_fit (map (shared_offset p (b ∷ [])) (replicate n (Some b))) ≡ true
unfolding every words_fit offset_in shared_offset
shared_fit p zero b h = refl
shared_fit p (suc n) b h = rw (same_list b, lt-ltb p 65536 h) (shared_fit p n b h)

-- so each word fits where the bytes of the header do
pub packed_fit : (n g m : ℕ) → 2 * g ≤ 65536 → 6 + 2 * suc n + 4 * m < 65536 → words_fit (packed_words (even_covers (suc n) g m)) ≡ true
unfolding shared_offsets
packed_fit n g m hg h =
    let i = replicate (suc n) (Some (evens 0 g)) in
    let b = coverage_words (evens 0 g) in
    let bs = replicate (suc n) (Some b) in
    let rs : List (ℕ × ℕ) = replicate m (0, 1) in
    let records : length rs ≡ m = length-replicate {A = ℕ × ℕ} m (0, 1) in
    let p = 6 + 2 * length bs + 4 * length rs in
    packed_by_cover_exactly i rs (covers_good (suc n) g m hg) (omega (arith, length-replicate (suc n) (Some (evens 0 g)))) (omega (arith, records))
    ∙ ap (λ l. words_fit (shared_offsets (6 + 2 * length l + 4 * length rs) l)) (equal_blocks (suc n) (evens 0 g))
    ∙ ap (λ ds. words_fit (map (shared_offset p ds) bs)) (written_once n b)
    ∙ shared_fit p (suc n) b (omega (arith, length-replicate (suc n) (Some b), records))
