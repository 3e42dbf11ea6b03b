-- When each word of a plain layout fits 16 bits: where the offsets of coverages and class tables do, and no class table is over 131,076 bytes. A coverage always fits.
use Rattle.std.specs.Prelude.{ℕ, suc, ◌+◌, ◌*◌, ◌≤◌, ◌<◌, ◌≡◌, refl, Bool, true, false, cond, ◌&&◌, leb, ltb, eqb, Option, None, Some}
use Rattle.std.proofs.Common.{sym, ◌∙◌, leb-true, leb-false, lt-ltb, eqb-true}
use Rattle.std.proofs.Math.Path.{ap, subst}
use mathlib.Core.List.{List, [], ◌∷◌, ◌++◌, map}
use native.Mathlib.Omega.{arith}
use Rattle.std.proofs.Math.ListN.{length, length-append, length-map}
use Rattle.std.proofs.lemmas.Bool.{eqb-false}
use Rattle.meaning.specs.Words.{every, keys, twos, threes, flat}
use Rattle.meaning.specs.Tables.{Rule, Ligature, Pair, Table, field_count}
use Rattle.meaning.specs.Layout.{offsets, blocks, block, join, runs, indexed, coverage_words, spread, class_words, cell_words, row_words, sets_layout, covers_layout, cells_layout, cover_layout, table_words, words_fit}
use Rattle.laws.specs.Stands.{word_end, All, all_map, all_append, all_front, all_back, Word, flat_length, twos_length, threes_length}
use Rattle.laws.specs.Runs.{Up, Words3, both, runs_apart, runs_all, indexed_length, indexed_words}
use Rattle.laws.specs.PartsBack.{Glyphs, Classes, Classed, coverage_words_lem, classes_words, keys_of, words_of, threes_words, spread_ends, spread_words}
use Rattle.laws.specs.Through.{Kind, Back, Opt, all_opt, opt_map, parts_small, offsets_length, offsets_append, blocks_append}
use Rattle.laws.specs.SetsBack.{Words2, GoodRule, GoodLigature, GoodPairs, cover_kind, class_kind, pair_set_kind, cover_back, class_back, pair_set_back, twos_small}
use Rattle.laws.specs.CellsBack.{CellsFrom, GoodRow}
use Rattle.laws.specs.ReadsBack.{Good, rule_set_kind, ligature_set_kind, rule_set_back, ligature_set_back}

-- words that fit, as a fact and as a test
pub words_fit_lem : (ws : List ℕ) → All Word ws → words_fit ws ≡ true
unfolding words_fit every
words_fit_lem [] h = refl
words_fit_lem (w ∷ ws) h = rw (lt-ltb w 65536 h.0) (words_fit_lem ws h.1)

-- words of two lists
pub fit_append : (xs ys : List ℕ) → words_fit (xs ++ ys) ≡ words_fit xs && words_fit ys
unfolding words_fit every
fit_append [] ys = refl
fit_append (x ∷ xs) ys = step (ltb x 65536) (fit_append xs ys)
  where
    step : (t : Bool) → words_fit (xs ++ ys) ≡ words_fit xs && words_fit ys → t && words_fit (xs ++ ys) ≡ (t && words_fit xs) && words_fit ys
    step true e = e
    step false e = refl

-- Coverages.

-- glyphs as entries of class 0
abbrev plain : List ℕ → List (ℕ × ℕ)
plain gs = map (λ g. (g, 0)) gs

-- a glyph before a run that begins with another
join_one : (g h z : ℕ) (r : List (ℕ × ℕ × ℕ)) → length (join g 0 ((h, z, 0) ∷ r)) ≡ cond (eqb (g + 1) h) (suc (length r)) (suc (suc (length r)))
unfolding join
join_one g h z r = step (eqb (g + 1) h)
  where
    one : List (ℕ × ℕ × ℕ)
    one = (g, z, 0) ∷ r

    two : List (ℕ × ℕ × ℕ)
    two = (g, g, 0) ∷ (h, z, 0) ∷ r

    step : (t : Bool) → length (cond (t && true) one two) ≡ cond t (suc (length r)) (suc (suc (length r)))
    step true = refl
    step false = refl

join_count : (g h : ℕ) (rs : List (ℕ × ℕ × ℕ)) → length (join g 0 (join h 0 rs)) ≡ cond (eqb (g + 1) h) (length (join h 0 rs)) (suc (length (join h 0 rs)))
unfolding join
join_count g h [] = join_one g h h []
join_count g h ((a, z, d) ∷ r) = step (eqb (h + 1) a && eqb 0 d)
  where
    one : List (ℕ × ℕ × ℕ)
    one = (h, z, 0) ∷ r

    two : List (ℕ × ℕ × ℕ)
    two = (h, h, 0) ∷ (a, z, d) ∷ r

    step : (u : Bool) → length (join g 0 (cond u one two)) ≡ cond (eqb (g + 1) h) (length (cond u one two)) (suc (length (cond u one two)))
    step true = join_one g h z r
    step false = join_one g h h ((a, z, d) ∷ r)

-- between two runs of glyphs at least one is missing
gaps : (g : ℕ) (gs : List ℕ) → Up (g + 1) gs → All Word (g ∷ gs) → g + length (g ∷ gs) + length (runs (plain (g ∷ gs))) ≤ word_end + 1
unfolding runs join
gaps g [] u w = omega (arith, w.0)
gaps g (h ∷ r) u w = step (eqb (g + 1) h) refl (gaps h r u.1 w.1) (join_count g h (runs (plain r)))
  where
    n : ℕ
    n = length (join h 0 (runs (plain r)))

    step : (t : Bool) → eqb (g + 1) h ≡ t → h + suc (length r) + n ≤ word_end + 1 → length (join g 0 (join h 0 (runs (plain r)))) ≡ cond t n (suc n) → g + suc (suc (length r)) + length (join g 0 (join h 0 (runs (plain r)))) ≤ word_end + 1
    step true e i q = omega (arith, eqb-true (g + 1) h e)
    step false e i q = omega (arith, eqb-false (g + 1) h e, u.0)

few_runs : (gs : List ℕ) → Glyphs gs → length gs + length (runs (plain gs)) ≤ word_end + 1
unfolding runs
few_runs [] k = omega arith
few_runs (g ∷ gs) k = omega (arith, gaps g gs k.0.1 k.1)

-- each word of a coverage fits, however long it is
pub coverage_fits : (gs : List ℕ) → Glyphs gs → All Word (coverage_words gs)
unfolding coverage_words
coverage_fits gs g = step (leb (4 + 2 * length gs) (4 + 6 * length rs)) refl
  where
    rs : List (ℕ × ℕ × ℕ)
    rs = runs (plain gs)

    step : (t : Bool) → leb (4 + 2 * length gs) (4 + 6 * length rs) ≡ t → All Word (cond t (1 ∷ length gs ∷ gs) (2 ∷ length rs ∷ threes (indexed 0 rs)))
    step true e = (omega arith, (omega (arith, few_runs gs g, leb-true (4 + 2 * length gs) (4 + 6 * length rs) e), g.1))
    step false e =
        let u : Up 0 (keys (plain gs)) = rw (keys_of 0 gs) g.0 in
        let b = runs_all Words3 (λ g c a z d p q. (p.0, q.1, p.2)) (plain gs) (words_of gs g.1) in
        (omega arith, (omega (arith, few_runs gs g, leb-false (4 + 2 * length gs) (4 + 6 * length rs) e), threes_words (indexed 0 rs) (indexed_words 0 0 rs (omega arith) (runs_apart 0 (plain gs) u) b)))

-- Class tables: each word fits exactly if there are at most 65,538.

pub classes_fit : (es : List (ℕ × ℕ)) → Classes es → (length (class_words es) ≤ 65538 → All Word (class_words es)) × (All Word (class_words es) → length (class_words es) ≤ 65538)
unfolding class_words keys
classes_fit [] k = (λ l. (omega arith, (omega arith, tt)), λ h. omega arith)
classes_fit ((g, c) ∷ r) k = step (leb (6 + 2 * length array) (4 + 6 * length rs)) refl
  where
    es : List (ℕ × ℕ)
    es = (g, c) ∷ r

    rs : List (ℕ × ℕ × ℕ)
    rs = runs es

    array : List ℕ
    array = spread g es

    ends : g + length array ≤ word_end
    ends = spread_ends g es (omega (arith, k.1.0.0)) (omega arith, k.0.1) k.1

    step : (t : Bool) → leb (6 + 2 * length array) (4 + 6 * length rs) ≡ t → let ws = cond t (1 ∷ g ∷ length array ∷ array) (2 ∷ length rs ∷ threes rs) in (length ws ≤ 65538 → All Word ws) × (All Word ws → length ws ≤ 65538)
    step true e = (λ l. (omega arith, (k.1.0.0, (omega arith, spread_words g es k.1))), λ h. omega (arith, h.1.1.0))
    step false e =
        let b = runs_all Words3 (λ g c a z d p q. (p.0, q.1, p.2)) es (all_map Classed (λ (e : ℕ × ℕ). Words3 (e.0, e.0, e.1)) (λ e b. (b.0, b.0, b.1)) es k.1) in
        let n = leb-false (6 + 2 * length array) (4 + 6 * length rs) e in
        (λ l. (omega arith, (omega (arith, ends, n), threes_words rs b)), λ h. omega (arith, ends, n, threes_length rs))

-- Layouts.

-- blocks of parts whose words fit
blocks_fit : {A : Type 0} (f : A → List ℕ) (xs : List (Option A)) → All (Opt (λ a. All Word (f a))) xs → All Word (blocks (map (block f) xs))
unfolding blocks block
blocks_fit f [] h = tt
blocks_fit f (None ∷ xs) h = blocks_fit f xs h.1
blocks_fit f (Some a ∷ xs) h = all_append Word (f a) (blocks (map (block f) xs)) h.0 (blocks_fit f xs h.1)

pub covers_words : (xs : List (Option (List ℕ))) → All (Opt Glyphs) xs → All Word (blocks (map (block coverage_words) xs))
covers_words xs g = blocks_fit coverage_words xs (all_opt Glyphs (λ gs. All Word (coverage_words gs)) coverage_fits xs g)

-- class tables that are not too long
abbrev pub Short : List (ℕ × ℕ) → Type 0
Short es = length (class_words es) ≤ 65538

pub tables_words : (cs : List (Option (List (ℕ × ℕ)))) → All (Opt Classes) cs → All (Opt Short) cs → All Word (blocks (map (block class_words) cs))
unfolding blocks block
tables_words [] k l = tt
tables_words (None ∷ cs) k l = tables_words cs k.1 l.1
tables_words (Some es ∷ cs) k l = all_append Word (class_words es) (blocks (map (block class_words) cs)) ((classes_fit es k.0).0 l.0) (tables_words cs k.1 l.1)

-- a table by sets
module _ {A : Type 0} (K : Kind A) (format : ℕ) (cover : Option (List ℕ)) (cs : List (Option (List (ℕ × ℕ)))) (more : List ℕ) (sets : List (Option A)) where
  abbrev sb : List (Option (List ℕ))
  sb = map (block K.words) sets

  abbrev cb : List (Option (List ℕ))
  cb = map (block class_words) cs

  abbrev hb : List (Option (List ℕ))
  hb = block coverage_words cover ∷ []

  abbrev p : ℕ
  p = 4 + 2 * length (hb ++ cb) + 2 * length more + 2 * length sb

  abbrev q : ℕ
  q = p + 2 * length (blocks sb)

  abbrev r : ℕ
  r = q + 2 * length (blocks hb)

  -- each word fits, if the sets end by 65,536, the offsets of coverage and class tables fit, and no class table is too long
  pub sets_fit : (s : List ℕ) → Word format → All Word more → Opt Glyphs cover → All (Opt Classes) cs → All (Opt (Back K s)) sets
      → q ≤ word_end → All Word (offsets q (hb ++ cb)) → All (Opt Short) cs → All Word (sets_layout format (hb ++ cb) more sb)
  unfolding sets_layout
  sets_fit s f m g k bs l to short =
      let ot = offsets q (hb ++ cb) in
      let os = offsets p sb in
      let w4 = blocks sb ++ blocks (hb ++ cb) in
      let w3 = length sb ∷ (os ++ w4) in
      let c3 = parts_small K s p sets bs l in
      let tb = subst (All Word) (sym (blocks_append hb cb)) (all_append Word (blocks hb) (blocks cb) (covers_words (cover ∷ []) (g, tt)) (tables_words cs k short)) in
      (f, all_append Word ot (more ++ w3) to (all_append Word more w3 m (omega arith, all_append Word os w4 c3.0 (all_append Word (blocks sb) (blocks (hb ++ cb)) c3.1 tb))))

  -- so if the whole layout ends by 65,536
  by_sets_small : (s : List ℕ) → Word format → All Word more → Opt Glyphs cover → All (Opt Classes) cs → All (Opt (Back K s)) sets → 2 * length (sets_layout format (hb ++ cb) more sb) ≤ word_end → All Word (sets_layout format (hb ++ cb) more sb)
  unfolding sets_layout
  by_sets_small s f m g k bs l =
      let ot = offsets q (hb ++ cb) in
      let os = offsets p sb in
      let w4 = blocks sb ++ blocks (hb ++ cb) in
      let w3 = length sb ∷ (os ++ w4) in
      let l1 = length-append ot (more ++ w3) in
      let l2 = length-append more w3 in
      let l3 = length-append os w4 in
      let l4 = length-append (blocks sb) (blocks (hb ++ cb)) in
      let l5 = ap length (blocks_append hb cb) ∙ length-append (blocks hb) (blocks cb) in
      let l6 = offsets_length q (hb ++ cb) in
      let l7 = offsets_length p sb in
      let c1 = parts_small cover_kind s q (cover ∷ []) (opt_map Glyphs (Back cover_kind s) (cover_back s) cover g, tt) (omega arith) in
      let c2 = parts_small class_kind s r cs (all_opt Classes (Back class_kind s) (class_back s) cs k) (omega arith) in
      let c3 = parts_small K s p sets bs (omega arith) in
      let to = subst (All Word) (sym (offsets_append q hb cb)) (all_append Word (offsets q hb) (offsets r cb) c1.0 c2.0) in
      let tb = subst (All Word) (sym (blocks_append hb cb)) (all_append Word (blocks hb) (blocks cb) c1.1 c2.1) in
      (f, all_append Word ot (more ++ w3) to (all_append Word more w3 m (omega arith, all_append Word os w4 c3.0 (all_append Word (blocks sb) (blocks (hb ++ cb)) c3.1 tb))))

-- format 3
covers_small : (xs : List (Option (List ℕ))) (p : ℕ) → All (Opt Glyphs) xs → p + 2 * length (blocks (map (block coverage_words) xs)) ≤ word_end → All Word (offsets p (map (block coverage_words) xs)) × All Word (blocks (map (block coverage_words) xs))
covers_small xs p g l = parts_small cover_kind [] p xs (all_opt Glyphs (Back cover_kind []) (cover_back []) xs g) l

module _ (i : List (Option (List ℕ))) (rs : List (ℕ × ℕ)) (g : All (Opt Glyphs) i) where
  -- each word fits, if the counts and the offsets do
  pub covers_fit : All Words2 rs → Word (length i) → Word (length rs) → All Word (offsets (6 + 2 * length (map (block coverage_words) i) + 4 * length rs) (map (block coverage_words) i)) → All Word (covers_layout false [] (map (block coverage_words) i) [] rs)
  unfolding covers_layout
  covers_fit k n m o =
      let ib = map (block coverage_words) i in
      let os = offsets (6 + 2 * length ib + 4 * length rs) ib in
      (omega arith, (omega (arith, length-map i (block coverage_words)), (m, all_append Word os (twos rs ++ blocks ib) o (all_append Word (twos rs) (blocks ib) (twos_small rs k) (covers_words i g)))))

  by_cover_small : All Words2 rs → 2 * length (table_words (Table.by_cover false [] i [] rs)) ≤ word_end → All Word (table_words (Table.by_cover false [] i [] rs))
  unfolding table_words covers_layout
  by_cover_small k l =
      let ib = map (block coverage_words) i in
      let p = 6 + 2 * length ib + 4 * length rs in
      let os = offsets p ib in
      let w4 = twos rs ++ blocks ib in
      let l1 = length-append os w4 in
      let l2 = length-append (twos rs) (blocks ib) in
      let l3 = offsets_length p ib in
      let l4 = twos_length rs in
      let c = covers_small i p g (omega arith) in
      (omega arith, (omega arith, (omega arith, all_append Word os w4 c.0 (all_append Word (twos rs) (blocks ib) (twos_small rs k) c.1))))

module _ (b i a : List (Option (List ℕ))) (rs : List (ℕ × ℕ)) (gb : All (Opt Glyphs) b) (gi : All (Opt Glyphs) i) (ga : All (Opt Glyphs) a) where
  abbrev bb : List (Option (List ℕ))
  bb = map (block coverage_words) b

  abbrev ib : List (Option (List ℕ))
  ib = map (block coverage_words) i

  abbrev ab : List (Option (List ℕ))
  ab = map (block coverage_words) a

  abbrev p₁ : ℕ
  p₁ = 10 + 2 * length bb + 2 * length ib + 2 * length ab + 4 * length rs

  abbrev p₂ : ℕ
  p₂ = p₁ + 2 * length (blocks bb)

  abbrev p₃ : ℕ
  p₃ = p₂ + 2 * length (blocks ib)

  -- each word fits, if the counts and the offsets do
  pub chained_covers_fit : All Words2 rs → Word (length b) → Word (length i) → Word (length a) → Word (length rs) → All Word (offsets p₁ bb) → All Word (offsets p₂ ib) → All Word (offsets p₃ ab) → All Word (covers_layout true bb ib ab rs)
  unfolding covers_layout
  chained_covers_fit k nb ni na nr ob oi oa =
      let t7 = blocks ib ++ blocks ab in
      let t6 = blocks bb ++ t7 in
      let t5 = twos rs ++ t6 in
      let t4 = length rs ∷ t5 in
      let t3 = length ab ∷ (offsets p₃ ab ++ t4) in
      let t2 = length ib ∷ (offsets p₂ ib ++ t3) in
      let lb = length-map b (block coverage_words) in
      let li = length-map i (block coverage_words) in
      let la = length-map a (block coverage_words) in
      let words = all_append Word (blocks bb) t7 (covers_words b gb) (all_append Word (blocks ib) (blocks ab) (covers_words i gi) (covers_words a ga)) in
      (omega arith, (omega arith, all_append Word (offsets p₁ bb) t2 ob (omega arith, all_append Word (offsets p₂ ib) t3 oi (omega arith, all_append Word (offsets p₃ ab) t4 oa (nr, all_append Word (twos rs) t6 (twos_small rs k) words)))))

  chained_cover_small : All Words2 rs → 2 * length (table_words (Table.by_cover true b i a rs)) ≤ word_end → All Word (table_words (Table.by_cover true b i a rs))
  unfolding table_words covers_layout
  chained_cover_small k l =
      let ob = offsets p₁ bb in
      let oi = offsets p₂ ib in
      let oa = offsets p₃ ab in
      let t7 = blocks ib ++ blocks ab in
      let t6 = blocks bb ++ t7 in
      let t5 = twos rs ++ t6 in
      let t4 = length rs ∷ t5 in
      let t3 = length ab ∷ (oa ++ t4) in
      let t2 = length ib ∷ (oi ++ t3) in
      let l1 = length-append ob t2 in
      let l2 = length-append oi t3 in
      let l3 = length-append oa t4 in
      let l5 = length-append (twos rs) t6 in
      let l6 = length-append (blocks bb) t7 in
      let l7 = length-append (blocks ib) (blocks ab) in
      let m1 = offsets_length p₁ bb in
      let m2 = offsets_length p₂ ib in
      let m3 = offsets_length p₃ ab in
      let lt = twos_length rs in
      let cb = covers_small b p₁ gb (omega arith) in
      let ci = covers_small i p₂ gi (omega arith) in
      let ca = covers_small a p₃ ga (omega arith) in (
        omega arith,
        (
          omega arith,
          all_append Word ob t2 cb.0 (
            omega arith,
            all_append Word oi t3 ci.0 (
              omega arith,
              all_append Word oa t4 ca.0 (
                omega arith,
                all_append Word (twos rs) t6 (twos_small rs k) (all_append Word (blocks bb) t7 cb.1 (all_append Word (blocks ib) (blocks ab) ci.1 ca.1)),
              ),
            ),
          ),
        ),
      )

-- pairs by class
cells_words : (a b c : ℕ) (row : List Pair) → CellsFrom a b c row → All Word (cell_words row)
unfolding cell_words
cells_words a b c [] k = tt
cells_words a b c (p ∷ r) k =
    all_append Word p.first_values (p.second_values ++ cell_words r) k.1.first_values (all_append Word p.second_values (cell_words r) k.1.second_values (cells_words a b (c + 1) r k.2))

pub rows_words : (a b n : ℕ) (rows : List (List Pair)) → All (GoodRow a b n) rows → All Word (row_words rows)
unfolding row_words
rows_words a b n [] k = tt
rows_words a b n (row ∷ r) k = all_append Word (cell_words row) (row_words r) (cells_words a b 0 row k.0.0) (rows_words a b n r k.1)

module _ (cover : Option (List ℕ)) (cs : List (Option (List (ℕ × ℕ)))) (formats more : List ℕ) where
  abbrev ch : List (Option (List ℕ))
  ch = block coverage_words cover ∷ []

  abbrev ct : List (Option (List ℕ))
  ct = map (block class_words) cs

  abbrev start : ℕ
  start = 2 + 2 * length ch + 2 * length formats + 2 * length ct + 2 * length more

  -- each word fits, if the offsets and the header's further words do, and no class table is too long
  pub cells_fit : All Word formats → All Word more → Opt Glyphs cover → All (Opt Classes) cs → All Word (offsets start ch) → All Word (offsets (start + 2 * length (blocks ch)) ct) → All (Opt Short) cs → All Word (cells_layout ch formats ct more)
  unfolding cells_layout
  cells_fit f m g k oh ot short =
      let o2 = offsets (start + 2 * length (blocks ch)) ct in
      let t = more ++ (blocks ch ++ blocks ct) in
      (omega arith, all_append Word (offsets start ch) (formats ++ (o2 ++ t)) oh (all_append Word formats (o2 ++ t) f (all_append Word o2 t ot (all_append Word more (blocks ch ++ blocks ct) m (all_append Word (blocks ch) (blocks ct) (covers_words (cover ∷ []) (g, tt)) (tables_words cs k short))))))

-- single substitutions
pub single_fit : (format : ℕ) (cover : Option (List ℕ)) (more : List ℕ) → Word format → All Word more → Opt Glyphs cover
    → All Word (offsets (2 + 2 * length (block coverage_words cover ∷ []) + 2 * length more) (block coverage_words cover ∷ [])) → All Word (cover_layout format (block coverage_words cover ∷ []) more)
unfolding cover_layout
single_fit format cover more f m g o =
    let h = block coverage_words cover ∷ [] in
    (f, all_append Word (offsets (2 + 2 * length h + 2 * length more) h) (more ++ blocks h) o (all_append Word more (blocks h) m (covers_words (cover ∷ []) (g, tt))))

-- offsets of blocks that end by 65,536 fit
offsets_fit : (n : ℕ) (bs : List (Option (List ℕ))) → All (Opt (λ b. 0 < length b)) bs → n + 2 * length (blocks bs) ≤ word_end → All Word (offsets n bs)
unfolding offsets blocks
offsets_fit n [] h l = tt
offsets_fit n (None ∷ bs) h l = (omega arith, offsets_fit n bs h.1 l)
offsets_fit n (Some b ∷ bs) h l = let e = length-append b (blocks bs) in (omega (arith, h.0), offsets_fit (n + 2 * length b) bs h.1 (omega arith))

cover_some : (cover : Option (List ℕ)) → Opt Glyphs cover → Opt (λ b. 0 < length b) (block coverage_words cover)
unfolding block
cover_some None g = tt
cover_some (Some gs) g = (coverage_words_lem gs g).0

tables_some : (cs : List (Option (List (ℕ × ℕ)))) → All (Opt Classes) cs → All (Opt (λ b. 0 < length b)) (map (block class_words) cs)
unfolding block
tables_some [] k = tt
tables_some (None ∷ cs) k = (tt, tables_some cs k.1)
tables_some (Some es ∷ cs) k = ((classes_words es k.0).0, tables_some cs k.1)

-- class tables among blocks that end by 65,536 are not too long
tables_short : (n : ℕ) (cs : List (Option (List (ℕ × ℕ)))) → n + 2 * length (blocks (map (block class_words) cs)) ≤ word_end → All (Opt Short) cs
unfolding block blocks
tables_short n [] l = tt
tables_short n (None ∷ cs) l = (tt, tables_short n cs l)
tables_short n (Some es ∷ cs) l = let e = length-append (class_words es) (blocks (map (block class_words) cs)) in (omega arith, tables_short n cs (omega arith))

cover_length : (format : ℕ) (h : List (Option (List ℕ))) (more : List ℕ) → length (cover_layout format h more) ≡ 1 + length h + length more + length (blocks h)
unfolding cover_layout
cover_length format h more =
    let o = offsets (4 + 2 * length more) h in
    omega (arith, length-append o (more ++ blocks h), length-append more (blocks h), offsets_length (4 + 2 * length more) h)

single_small : (format : ℕ) (cover : Option (List ℕ)) (more : List ℕ) → Word format → All Word more → Opt Glyphs cover → 2 * length (cover_layout format (block coverage_words cover ∷ []) more) ≤ word_end → All Word (cover_layout format (block coverage_words cover ∷ []) more)
single_small format cover more f m g l =
    let h = block coverage_words cover ∷ [] in
    single_fit format cover more f m g (offsets_fit (2 + 2 * length h + 2 * length more) h (cover_some cover g, tt) (omega (arith, cover_length format h more)))

subs_few : (format : ℕ) (cover : Option (List ℕ)) (subs : List ℕ) → 2 * length (cover_layout format (block coverage_words cover ∷ []) (length subs ∷ subs)) ≤ word_end → Word (length subs)
subs_few format cover subs l = omega (arith, cover_length format (block coverage_words cover ∷ []) (length subs ∷ subs))

cells_length : (ch : List (Option (List ℕ))) (formats : List ℕ) (ct : List (Option (List ℕ))) (more : List ℕ) → length (cells_layout ch formats ct more) ≡ 1 + length ch + length formats + length ct + length more + length (blocks ch) + length (blocks ct)
unfolding cells_layout
cells_length ch formats ct more =
    let s = 4 + 2 * length formats + 2 * length ct + 2 * length more in
    let o1 = offsets s ch in
    let o2 = offsets (s + 2 * length (blocks ch)) ct in
    let t = more ++ (blocks ch ++ blocks ct) in
    omega (arith, length-append o1 (formats ++ (o2 ++ t)), length-append formats (o2 ++ t), length-append o2 t, length-append more (blocks ch ++ blocks ct), length-append (blocks ch) (blocks ct), offsets_length s ch, offsets_length (s + 2 * length (blocks ch)) ct)

class_pairs_small : (cover : Option (List ℕ)) (first second : Option (List (ℕ × ℕ))) (f1 f2 n : ℕ) (rows : List (List Pair)) → Good (Table.class_pairs cover first second f1 f2 n rows)
    → 2 * length (table_words (Table.class_pairs cover first second f1 f2 n rows)) ≤ word_end → All Word (table_words (Table.class_pairs cover first second f1 f2 n rows))
unfolding table_words
class_pairs_small cover first second f1 f2 n rows g l =
    let ch = block coverage_words cover ∷ [] in
    let cs = first ∷ second ∷ [] in
    let ct = map (block class_words) cs in
    let more = length rows ∷ n ∷ row_words rows in
    let s = 2 + 2 * length ch + 2 * 2 + 2 * length ct + 2 * length more in
    let e = cells_length ch (f1 ∷ f2 ∷ []) ct more in
    let k : All (Opt Classes) cs = (g.1, (g.2, tt)) in
    cells_fit cover cs (f1 ∷ f2 ∷ []) more (omega (arith, g.3), (omega (arith, g.4), tt)) (g.8, (g.7, rows_words (field_count f1) (field_count f2) n rows g.5)) g.0 k
    (offsets_fit s ch (cover_some cover g.0, tt) (omega arith)) (offsets_fit (s + 2 * length (blocks ch)) ct (tables_some cs k) (omega arith)) (tables_short (s + 2 * length (blocks ch)) cs (omega arith))

-- Each word of the plain layout of a good table fits, offsets and counts too, if the layout is at most 65,536 bytes.
pub words_small : (t : Table) → Good t → 2 * length (table_words t) ≤ word_end → All Word (table_words t)
unfolding table_words covers_layout rule_set_kind ligature_set_kind
words_small (Table.by_glyph chained cover sets) g l = by_sets_small (rule_set_kind chained) 1 cover [] [] sets [] (omega arith) tt g.0 tt (all_opt (All (GoodRule chained)) (Back (rule_set_kind chained) []) (rule_set_back chained []) sets g.1) l
words_small (Table.by_class false cover b i a sets) g l =
    by_sets_small (rule_set_kind false) 2 cover (i ∷ []) [] sets [] (omega arith) tt g.0 (g.2, tt) (all_opt (All (GoodRule false)) (Back (rule_set_kind false) []) (rule_set_back false []) sets g.4) l
words_small (Table.by_class true cover b i a sets) g l =
    by_sets_small (rule_set_kind true) 2 cover (b ∷ i ∷ a ∷ []) [] sets [] (omega arith) tt g.0 (g.1, (g.2, (g.3, tt))) (all_opt (All (GoodRule true)) (Back (rule_set_kind true) []) (rule_set_back true []) sets g.4) l
words_small (Table.by_cover false b i a rs) g l = by_cover_small i rs g.1 g.3 l
words_small (Table.by_cover true b i a rs) g l = chained_cover_small b i a rs g.0 g.1 g.2 g.3 l
words_small (Table.ligatures cover sets) g l = by_sets_small ligature_set_kind 1 cover [] [] sets [] (omega arith) tt g.0 tt (all_opt (All GoodLigature) (Back ligature_set_kind []) (ligature_set_back []) sets g.1) l
words_small (Table.pairs_of cover f1 f2 sets) g l =
    let a = field_count f1 in
    let b = field_count f2 in
    by_sets_small (pair_set_kind a b) 1 cover [] (f1 ∷ f2 ∷ []) sets [] (omega arith) (omega (arith, g.1), (omega (arith, g.2), tt)) g.0 tt (all_opt (GoodPairs a b) (Back (pair_set_kind a b) []) (pair_set_back a b []) sets g.3) l
words_small (Table.class_pairs cover first second f1 f2 n rows) g l = class_pairs_small cover first second f1 f2 n rows g l
words_small (Table.single_delta cover d) g l = single_small 1 cover (d ∷ []) (omega arith) (g.1, tt) g.0 l
words_small (Table.single_list cover subs) g l = single_small 2 cover (length subs ∷ subs) (omega arith) (subs_few 2 cover subs l, g.1) g.0 l
