-- When each word of a plain layout fits, as a test: the test of its header's offsets and of the sizes of its class tables. Of a row of offsets the last is the largest.
use Rattle.std.specs.Prelude.{ℕ, suc, ◌+◌, ◌*◌, ◌≤◌, ◌<◌, ◌≡◌, refl, Bool, false, cond, ◌&&◌, List, [], ◌∷◌, ◌++◌, map, leb, ltb, eqb, Option, None, Some}
use Rattle.std.proofs.Common.{sym, ap, ◌∙◌, subst, arith, length-append, leb-true, le-leb, ltb-true, lt-ltb, eqb-true}
use Rattle.std.proofs.Math.Bool.{true, and-false}
use Rattle.std.proofs.Math.ListN.{length}
use Rattle.std.proofs.lemmas.List.{length-map}
use Rattle.std.proofs.lemmas.Bool.{eqb-false}
use Rattle.meaning.specs.Words.{every, twos}
use Rattle.meaning.specs.Tables.{Rule, Ligature, Pair, Table, field_count}
use Rattle.meaning.specs.Layout.{offsets, blocks, block, rule_words, ligature_words, set_words, pair_set_words, coverage_words, class_words, row_words, sets_layout, covers_layout, cells_layout, cover_layout, table_words, words_fit}
use Rattle.laws.specs.Stands.{word_end, All, all_append, all_front, all_back, Word}
use Rattle.laws.specs.Runs.{both}
use Rattle.laws.specs.PartsBack.{Glyphs, Classes}
use Rattle.laws.specs.Through.{Kind, Back, Opt, all_opt}
use Rattle.laws.specs.SetsBack.{Words2, GoodRule, GoodLigature, GoodPairs, pair_set_kind, pair_set_back}
use Rattle.laws.specs.ReadsBack.{Good, rule_set_kind, ligature_set_kind, rule_set_back, ligature_set_back, fit_words}
use Rattle.laws.specs.Fits.{Short, rows_words, words_fit_lem, classes_fit, sets_fit, covers_fit, chained_covers_fit, cells_fit, single_fit}

-- a test that holds exactly if each word fits
pub fits_exactly : (ws : List ℕ) (b : Bool) → (All Word ws → b ≡ true) → (b ≡ true → All Word ws) → words_fit ws ≡ b
fits_exactly ws true f k = words_fit_lem ws (k refl)
fits_exactly ws false f k = step (words_fit ws) refl
  where
    step : (t : Bool) → words_fit ws ≡ t → t ≡ false
    step true e = sym (f (fit_words ws e))
    step false e = refl

pub and_true : (a b : Bool) → a ≡ true → b ≡ true → a && b ≡ true
and_true a b p q = rw (p, q)

pub and_one : (a : Bool) → a && true ≡ a
and_one true = refl
and_one false = refl

-- class tables that are not too long, as a test
unfoldable pub short_tables : List (Option (List (ℕ × ℕ))) → Bool
short_tables [] = true
short_tables (None ∷ cs) = short_tables cs
short_tables (Some es ∷ cs) = leb (length (class_words es)) 65538 && short_tables cs

pub short_tables_lem : (cs : List (Option (List (ℕ × ℕ)))) → short_tables cs ≡ true → All (Opt Short) cs
unfolding short_tables
short_tables_lem [] h = tt
short_tables_lem (None ∷ cs) h = (tt, short_tables_lem cs h)
short_tables_lem (Some es ∷ cs) h =
    let q = both (leb (length (class_words es)) 65538) (short_tables cs) h in
    (leb-true (length (class_words es)) 65538 q.0, short_tables_lem cs q.1)

pub tables_short : (cs : List (Option (List (ℕ × ℕ)))) → All (Opt Classes) cs → All Word (blocks (map (block class_words) cs)) → short_tables cs ≡ true
unfolding short_tables blocks block
tables_short [] k h = refl
tables_short (None ∷ cs) k h = tables_short cs k.1 h
tables_short (Some es ∷ cs) k h =
    let r = blocks (map (block class_words) cs) in
    and_true (leb (length (class_words es)) 65538) (short_tables cs) (le-leb (length (class_words es)) 65538 ((classes_fit es k.0).1 (all_front Word (class_words es) r h))) (tables_short cs k.1 (all_back Word (class_words es) r h))

-- the first offset of blocks, and the blocks after the first
first_small : (p : ℕ) (b : List ℕ) (bs : List (Option (List ℕ))) → All Word (offsets p (Some b ∷ bs)) → p ≤ word_end
unfolding offsets
first_small p b bs h = omega (arith, h.0)

later_words : (b : List ℕ) (bs : List (Option (List ℕ))) → All Word (blocks (Some b ∷ bs)) → All Word (blocks bs)
unfolding blocks
later_words b bs h = all_back Word b (blocks bs) h

-- a table by sets, with a coverage: it fits exactly if the offsets of coverage and class tables do and no class table is too long
module _ {A : Type 0} (K : Kind A) (format : ℕ) (cov : List ℕ) (cs : List (Option (List (ℕ × ℕ)))) (more : List ℕ) (sets : List (Option A)) where
  abbrev sb : List (Option (List ℕ))
  sb = map (block K.words) sets

  abbrev tail : List (Option (List ℕ))
  tail = Some (coverage_words cov) ∷ map (block class_words) cs

  -- the coverage's offset: where the sets end
  abbrev pub cover_at : ℕ
  cover_at = 4 + 2 * length tail + 2 * length more + 2 * length sb + 2 * length (blocks sb)

  pub sets_exactly : (s : List ℕ) → Word format → All Word more → Glyphs cov → All (Opt Classes) cs → All (Opt (Back K s)) sets
      → words_fit (sets_layout format tail more sb) ≡ words_fit (offsets cover_at tail) && short_tables cs
  unfolding sets_layout block
  sets_exactly s f m g k bs =
      let ot = offsets cover_at tail in
      let os = offsets (4 + 2 * length tail + 2 * length more + 2 * length sb) sb in
      let w4 = blocks sb ++ blocks tail in
      let w3 = length sb ∷ (os ++ w4) in
      fits_exactly (sets_layout format tail more sb) (words_fit ot && short_tables cs)
      (λ h.
      let h1 = h.1 in
      let h3 = all_back Word more w3 (all_back Word ot (more ++ w3) h1) in
      let h4 = all_back Word (blocks sb) (blocks tail) (all_back Word os w4 h3.1) in
      and_true (words_fit ot) (short_tables cs) (words_fit_lem ot (all_front Word ot (more ++ w3) h1)) (tables_short cs k (later_words (coverage_words cov) (map (block class_words) cs) h4)))
      (λ h.
      let q = both (words_fit ot) (short_tables cs) h in
      let o = fit_words ot q.0 in
      sets_fit K format (Some cov) cs more sets s f m g k bs (first_small cover_at (coverage_words cov) (map (block class_words) cs) o) o (short_tables_lem cs q.1))

-- format 3, where the counts fit: exactly if the offsets do
pub covers_exactly : (i : List (Option (List ℕ))) (rs : List (ℕ × ℕ)) → All (Opt Glyphs) i → All Words2 rs → Word (length i) → Word (length rs)
    → let ib = map (block coverage_words) i in words_fit (covers_layout false [] ib [] rs) ≡ words_fit (offsets (6 + 2 * length ib + 4 * length rs) ib)
unfolding covers_layout
covers_exactly i rs g k n m =
    let ib = map (block coverage_words) i in
    let os = offsets (6 + 2 * length ib + 4 * length rs) ib in
    fits_exactly (covers_layout false [] ib [] rs) (words_fit os) (λ h. words_fit_lem os (all_front Word os (twos rs ++ blocks ib) h.1.1.1)) (λ h. covers_fit i rs g k n m (fit_words os h))

module _ (b i a : List (Option (List ℕ))) (rs : List (ℕ × ℕ)) where
  abbrev bb : List (Option (List ℕ))
  bb = map (block coverage_words) b

  abbrev ib : List (Option (List ℕ))
  ib = map (block coverage_words) i

  abbrev ab : List (Option (List ℕ))
  ab = map (block coverage_words) a

  abbrev p₁ : ℕ
  p₁ = 10 + 2 * length bb + 2 * length ib + 2 * length ab + 4 * length rs

  abbrev p₂ : ℕ
  p₂ = p₁ + 2 * length (blocks bb)

  abbrev p₃ : ℕ
  p₃ = p₂ + 2 * length (blocks ib)

  pub chained_covers_exactly : All (Opt Glyphs) b → All (Opt Glyphs) i → All (Opt Glyphs) a → All Words2 rs → Word (length b) → Word (length i) → Word (length a) → Word (length rs)
      → words_fit (covers_layout true bb ib ab rs) ≡ words_fit (offsets p₁ bb) && (words_fit (offsets p₂ ib) && words_fit (offsets p₃ ab))
  unfolding covers_layout
  chained_covers_exactly gb gi ga k nb ni na nr =
      let ob = offsets p₁ bb in
      let oi = offsets p₂ ib in
      let oa = offsets p₃ ab in
      let t4 = length rs ∷ (twos rs ++ (blocks bb ++ (blocks ib ++ blocks ab))) in
      let t3 = length ab ∷ (oa ++ t4) in
      let t2 = length ib ∷ (oi ++ t3) in
      fits_exactly (covers_layout true bb ib ab rs) (words_fit ob && (words_fit oi && words_fit oa))
      (λ h.
      let h1 = h.1.1 in
      let h2 = (all_back Word ob t2 h1).1 in
      let h3 = (all_back Word oi t3 h2).1 in
      and_true (words_fit ob) _ (words_fit_lem ob (all_front Word ob t2 h1)) (and_true (words_fit oi) _ (words_fit_lem oi (all_front Word oi t3 h2)) (words_fit_lem oa (all_front Word oa t4 h3))))
      (λ h.
      let q = both (words_fit ob) _ h in
      let r = both (words_fit oi) (words_fit oa) q.1 in
      chained_covers_fit b i a rs gb gi ga k nb ni na nr (fit_words ob q.0) (fit_words oi r.0) (fit_words oa r.1))

-- pairs by class
module _ (cover : Option (List ℕ)) (cs : List (Option (List (ℕ × ℕ)))) (formats more : List ℕ) where
  abbrev ch : List (Option (List ℕ))
  ch = block coverage_words cover ∷ []

  abbrev ct : List (Option (List ℕ))
  ct = map (block class_words) cs

  abbrev start : ℕ
  start = 2 + 2 * length ch + 2 * length formats + 2 * length ct + 2 * length more

  pub cells_exactly : All Word formats → All Word more → Opt Glyphs cover → All (Opt Classes) cs
      → words_fit (cells_layout ch formats ct more) ≡ words_fit (offsets start ch) && (words_fit (offsets (start + 2 * length (blocks ch)) ct) && short_tables cs)
  unfolding cells_layout
  cells_exactly f m g k =
      let oh = offsets start ch in
      let ot = offsets (start + 2 * length (blocks ch)) ct in
      let t = more ++ (blocks ch ++ blocks ct) in
      fits_exactly (cells_layout ch formats ct more) (words_fit oh && (words_fit ot && short_tables cs))
      (λ h.
      let h1 = h.1 in
      let h2 = all_back Word formats (ot ++ t) (all_back Word oh (formats ++ (ot ++ t)) h1) in
      let h3 = all_back Word (blocks ch) (blocks ct) (all_back Word more (blocks ch ++ blocks ct) (all_back Word ot t h2)) in
      and_true (words_fit oh) _ (words_fit_lem oh (all_front Word oh (formats ++ (ot ++ t)) h1)) (and_true (words_fit ot) _ (words_fit_lem ot (all_front Word ot t h2)) (tables_short cs k h3)))
      (λ h.
      let q = both (words_fit oh) _ h in
      let r = both (words_fit ot) (short_tables cs) q.1 in
      cells_fit cover cs formats more f m g k (fit_words oh q.0) (fit_words ot r.0) (short_tables_lem cs r.1))

-- single substitutions
pub single_exactly : (format : ℕ) (cover : Option (List ℕ)) (more : List ℕ) → Word format → All Word more → Opt Glyphs cover
    → let h = block coverage_words cover ∷ [] in words_fit (cover_layout format h more) ≡ words_fit (offsets (2 + 2 * length h + 2 * length more) h)
unfolding cover_layout
single_exactly format cover more f m g =
    let h = block coverage_words cover ∷ [] in
    let o = offsets (2 + 2 * length h + 2 * length more) h in
    fits_exactly (cover_layout format h more) (words_fit o) (λ k. words_fit_lem o (all_front Word o (more ++ blocks h) k.1)) (λ k. single_fit format cover more f m g (fit_words o k))

-- the largest offset of blocks that stand one after the other, the last one's; 0 if there is none
unfoldable pub last_offset : ℕ → List (Option (List ℕ)) → ℕ
last_offset p [] = 0
last_offset p (None ∷ bs) = last_offset p bs
last_offset p (Some b ∷ bs) = cond (eqb (last_offset (p + 2 * length b) bs) 0) p (last_offset (p + 2 * length b) bs)

-- it is 0 or no lower than where the blocks begin
last_low : (p : ℕ) (bs : List (Option (List ℕ))) → (last_offset p bs ≡ 0 → ⊥) → p ≤ last_offset p bs
unfolding last_offset
last_low p [] z = absurd (z refl)
last_low p (None ∷ bs) z = last_low p bs z
last_low p (Some b ∷ bs) z = step (eqb (last_offset (p + 2 * length b) bs) 0) refl (last_low (p + 2 * length b) bs)
  where
    l : ℕ
    l = last_offset (p + 2 * length b) bs

    step : (t : Bool) → eqb l 0 ≡ t → ((l ≡ 0 → ⊥) → p + 2 * length b ≤ l) → p ≤ cond t p l
    step true e i = omega arith
    step false e i = omega (arith, i (eqb-false l 0 e))

-- the offsets fit exactly if the last one does
pub offsets_exactly : (p : ℕ) (bs : List (Option (List ℕ))) → words_fit (offsets p bs) ≡ ltb (last_offset p bs) 65536
unfolding offsets last_offset words_fit every
offsets_exactly p [] = refl
offsets_exactly p (None ∷ bs) = offsets_exactly p bs
offsets_exactly p (Some b ∷ bs) = step (eqb l 0) refl (offsets_exactly (p + 2 * length b) bs)
  where
    l : ℕ
    l = last_offset (p + 2 * length b) bs

    rest : Bool
    rest = words_fit (offsets (p + 2 * length b) bs)

    low : (t : Bool) → ltb l 65536 ≡ t → p ≤ l → ltb p 65536 && t ≡ t
    low true e h = rw (lt-ltb p 65536 (omega (arith, ltb-true l 65536 e)))
    low false e h = and-false (ltb p 65536)

    step : (t : Bool) → eqb l 0 ≡ t → words_fit (offsets (p + 2 * length b) bs) ≡ ltb l 65536 → ltb p 65536 && words_fit (offsets (p + 2 * length b) bs) ≡ ltb (cond t p l) 65536
    step true e i = ap (λ (t : Bool). ltb p 65536 && t) (i ∙ lt-ltb l 65536 (omega (arith, eqb-true l 0 e))) ∙ and_one (ltb p 65536)
    step false e i = ap (λ (t : Bool). ltb p 65536 && t) i ∙ low (ltb l 65536) refl (omega (arith, last_low (p + 2 * length b) bs (eqb-false l 0 e)))

-- The tables that are cut, each with its coverage: where the plain layout of a good one fits.

one_offset : (q : ℕ) (b : List ℕ) → words_fit (offsets q (Some b ∷ [])) ≡ ltb q 65536
unfolding offsets words_fit every
one_offset q b = and_one (ltb q 65536)

pub no_tables : short_tables [] ≡ true
unfolding short_tables
no_tables = refl

-- with sets and a coverage alone: exactly if the coverage's offset fits
one_exactly : {A : Type 0} (K : Kind A) (cov : List ℕ) (more : List ℕ) (sets : List (Option A)) → All Word more → Glyphs cov → All (Opt (Back K [])) sets
    → words_fit (sets_layout 1 (Some (coverage_words cov) ∷ []) more (map (block K.words) sets)) ≡ ltb (6 + 2 * length more + 2 * length sets + 2 * length (blocks (map (block K.words) sets))) 65536
one_exactly K cov more sets m g bs =
    let q = cover_at K 1 cov [] more sets in
    let e : q ≡ 6 + 2 * length more + 2 * length sets + 2 * length (blocks (map (block K.words) sets)) = omega (arith, length-map sets (block K.words)) in
    sets_exactly K 1 cov [] more sets [] (omega arith) m g tt bs ∙ rw no_tables (and_one (words_fit (offsets q (Some (coverage_words cov) ∷ []))) ∙ one_offset q (coverage_words cov) ∙ ap (λ (n : ℕ). ltb n 65536) e)

pub by_glyph_exactly : (chained : Bool) (cov : List ℕ) (sets : List (Option (List Rule))) → Good (Table.by_glyph chained (Some cov) sets)
    → words_fit (table_words (Table.by_glyph chained (Some cov) sets)) ≡ ltb (6 + 2 * 0 + 2 * length sets + 2 * length (blocks (map (block (set_words (rule_words chained))) sets))) 65536
unfolding table_words rule_set_kind block
by_glyph_exactly chained cov sets g =
    one_exactly (rule_set_kind chained) cov [] sets tt g.0 (all_opt (All (GoodRule chained)) (Back (rule_set_kind chained) []) (rule_set_back chained []) sets g.1)

pub ligatures_exactly : (cov : List ℕ) (sets : List (Option (List Ligature))) → Good (Table.ligatures (Some cov) sets)
    → words_fit (table_words (Table.ligatures (Some cov) sets)) ≡ ltb (6 + 2 * 0 + 2 * length sets + 2 * length (blocks (map (block (set_words ligature_words)) sets))) 65536
unfolding table_words ligature_set_kind block
ligatures_exactly cov sets g =
    one_exactly ligature_set_kind cov [] sets tt g.0 (all_opt (All GoodLigature) (Back ligature_set_kind []) (ligature_set_back []) sets g.1)

pub pairs_exactly : (cov : List ℕ) (f1 f2 : ℕ) (sets : List (Option (List Pair))) → Good (Table.pairs_of (Some cov) f1 f2 sets)
    → words_fit (table_words (Table.pairs_of (Some cov) f1 f2 sets)) ≡ ltb (6 + 2 * 2 + 2 * length sets + 2 * length (blocks (map (block pair_set_words) sets))) 65536
unfolding table_words block
pairs_exactly cov f1 f2 sets g =
    let a = field_count f1 in
    let b = field_count f2 in
    one_exactly (pair_set_kind a b) cov (f1 ∷ f2 ∷ []) sets (omega (arith, g.1), (omega (arith, g.2), tt)) g.0 (all_opt (GoodPairs a b) (Back (pair_set_kind a b) []) (pair_set_back a b []) sets g.3)

-- by class: exactly if the last offset among coverage and class tables fits, and no class table is too long
pub by_class_exactly : (chained : Bool) (cov : List ℕ) (b i a : Option (List (ℕ × ℕ))) (sets : List (Option (List Rule))) → Good (Table.by_class chained (Some cov) b i a sets)
    → let cs = cond chained (b ∷ i ∷ a ∷ []) (i ∷ []) in
    words_fit (table_words (Table.by_class chained (Some cov) b i a sets)) ≡ ltb (last_offset (cover_at (rule_set_kind chained) 2 cov cs [] sets) (Some (coverage_words cov) ∷ map (block class_words) cs)) 65536 && short_tables cs
unfolding table_words rule_set_kind block
by_class_exactly chained cov b i a sets g =
    let cs = cond chained (b ∷ i ∷ a ∷ []) (i ∷ []) in
    sets_exactly (rule_set_kind chained) 2 cov cs [] sets [] (omega arith) tt g.0 (tables_of chained) (all_opt (All (GoodRule chained)) (Back (rule_set_kind chained) []) (rule_set_back chained []) sets g.4)
    ∙ ap (λ (t : Bool). t && short_tables cs) (offsets_exactly (cover_at (rule_set_kind chained) 2 cov cs [] sets) (Some (coverage_words cov) ∷ map (block class_words) cs))
  where
    tables_of : (chained : Bool) → All (Opt Classes) (cond chained (b ∷ i ∷ a ∷ []) (i ∷ []))
    tables_of true = (g.1, (g.2, (g.3, tt)))
    tables_of false = (g.2, tt)

-- format 3, where the counts fit: exactly if the last offset does
pub by_cover_exactly : (i : List (Option (List ℕ))) (rs : List (ℕ × ℕ)) → Good (Table.by_cover false [] i [] rs) → Word (length i) → Word (length rs)
    → let ib = map (block coverage_words) i in words_fit (table_words (Table.by_cover false [] i [] rs)) ≡ ltb (last_offset (6 + 2 * length ib + 4 * length rs) ib) 65536
unfolding table_words
by_cover_exactly i rs g n m =
    let ib = map (block coverage_words) i in
    covers_exactly i rs g.1 g.3 n m ∙ offsets_exactly (6 + 2 * length ib + 4 * length rs) ib

pub chained_cover_exactly : (b i a : List (Option (List ℕ))) (rs : List (ℕ × ℕ)) → Good (Table.by_cover true b i a rs) → Word (length b) → Word (length i) → Word (length a) → Word (length rs)
    → words_fit (table_words (Table.by_cover true b i a rs))
    ≡ ltb (last_offset (p₁ b i a rs) (bb b i a rs)) 65536 && (ltb (last_offset (p₂ b i a rs) (ib b i a rs)) 65536 && ltb (last_offset (p₃ b i a rs) (ab b i a rs)) 65536)
unfolding table_words
chained_cover_exactly b i a rs g nb ni na nr =
    chained_covers_exactly b i a rs g.0 g.1 g.2 g.3 nb ni na nr
    ∙ rw (offsets_exactly (p₁ b i a rs) (bb b i a rs), offsets_exactly (p₂ b i a rs) (ib b i a rs), offsets_exactly (p₃ b i a rs) (ab b i a rs))

-- pairs by class: exactly if the offsets of coverage and class tables fit, and no class table is too long
pub class_pairs_exactly : (cover : Option (List ℕ)) (first second : Option (List (ℕ × ℕ))) (f1 f2 n : ℕ) (rows : List (List Pair)) → Good (Table.class_pairs cover first second f1 f2 n rows)
    → let cs = first ∷ second ∷ [] in
    let more = length rows ∷ n ∷ row_words rows in
    let at = start cover cs (f1 ∷ f2 ∷ []) more in
    words_fit (table_words (Table.class_pairs cover first second f1 f2 n rows))
    ≡ ltb (last_offset at (block coverage_words cover ∷ [])) 65536 && (ltb (last_offset (at + 2 * length (blocks (block coverage_words cover ∷ []))) (map (block class_words) cs)) 65536 && short_tables cs)
unfolding table_words
class_pairs_exactly cover first second f1 f2 n rows g =
    let cs = first ∷ second ∷ [] in
    let more = length rows ∷ n ∷ row_words rows in
    let at = start cover cs (f1 ∷ f2 ∷ []) more in
    cells_exactly cover cs (f1 ∷ f2 ∷ []) more (omega (arith, g.3), (omega (arith, g.4), tt)) (g.8, (g.7, rows_words (field_count f1) (field_count f2) n rows g.5)) g.0 (g.1, (g.2, tt))
    ∙ rw (offsets_exactly at (block coverage_words cover ∷ []), offsets_exactly (at + 2 * length (blocks (block coverage_words cover ∷ []))) (map (block class_words) cs))

-- single substitutions: by a delta they always fit; by a list exactly if the coverage's offset does
pub single_delta_fits : (cov : List ℕ) (d : ℕ) → Good (Table.single_delta (Some cov) d) → words_fit (table_words (Table.single_delta (Some cov) d)) ≡ true
unfolding table_words block
single_delta_fits cov d g = single_exactly 1 (Some cov) (d ∷ []) (omega arith) (g.1, tt) g.0 ∙ one_offset 6 (coverage_words cov)

pub single_list_exactly : (cov subs : List ℕ) → Good (Table.single_list (Some cov) subs) → Word (length subs) → words_fit (table_words (Table.single_list (Some cov) subs)) ≡ ltb (6 + 2 * length subs) 65536
unfolding table_words block
single_list_exactly cov subs g n =
    let e : 2 + 2 * 1 + 2 * suc (length subs) ≡ 6 + 2 * length subs = omega arith in
    single_exactly 2 (Some cov) (length subs ∷ subs) (omega arith) (n, g.1) g.0 ∙ one_offset (2 + 2 * 1 + 2 * suc (length subs)) (coverage_words cov) ∙ ap (λ (m : ℕ). ltb m 65536) e
