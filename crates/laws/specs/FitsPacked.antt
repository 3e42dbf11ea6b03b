-- When each word of a packed layout fits, as a test. The blocks that are written are among all blocks, and each block is among those that are written, so that the words of all fit exactly if those that are written do.
use Rattle.std.specs.Prelude.{ℕ, ◌+◌, ◌*◌, ◌≤◌, ◌<◌, ◌≡◌, Bool, cond, ◌&&◌, ◌||◌, ltb, Option, None, Some}
use Rattle.std.proofs.Math.Path.{refl, ap, subst}
use Rattle.std.proofs.Common.{sym, ◌∙◌, true≢false, length-append}
use Rattle.std.proofs.Math.Bool.{true, false}
use mathlib.Core.List.{List, [], ◌∷◌, ◌++◌, map, map-append}
use native.Mathlib.Omega.{arith}
use Rattle.std.proofs.Math.ListN.{length}
use Rattle.std.proofs.lemmas.List.{length-map}
use borrow.Author.Tests.{ltb-true, lt-ltb}
use Rattle.meaning.specs.Words.{eq_list, twos}
use Rattle.meaning.specs.Tables.{Rule, Ligature, Pair, Table, field_count, drop_null}
use Rattle.meaning.specs.Layout.{offsets, blocks, block, rule_words, ligature_words, set_words, pair_set_words, coverage_words, class_words, row_words, words_fit}
use Rattle.meaning.specs.Packed.{without, first_of_each, together, offset_in, sets_header, header, packed, packed_words}
use Rattle.laws.specs.Stands.{word_end, All, all_map, all_append, all_front, all_back, Word}
use Rattle.laws.specs.Runs.{both}
use Rattle.laws.specs.PartsBack.{Glyphs, Classes}
use Rattle.laws.specs.Through.{Kind, Back, Opt, all_opt, blocks_append}
use Rattle.laws.specs.SetsBack.{GoodRule, GoodLigature, GoodPairs, pair_set_kind, pair_set_back, twos_small}
use Rattle.laws.specs.Repeats.{list_same, has, each_has}
use Rattle.laws.specs.PackedReading.{shared_offset, shared_offsets, shared_blocks, all_covers, covers_at, packed_sets, packed_covers, packed_chained_covers, packed_cells}
use Rattle.laws.specs.ReadsBack.{Good, rule_set_kind, ligature_set_kind, rule_set_back, ligature_set_back, fit_words}
use Rattle.laws.specs.Fits.{rows_words, words_fit_lem, covers_words, tables_words}
use Rattle.laws.specs.FitsExactly.{fits_exactly, and_true, and_one, short_tables, short_tables_lem, tables_short, no_tables}

-- Blocks of which none is written twice.

-- what holds of each block holds of each that is written, and the other way round
module _ (P : List ℕ → Type 0) where
  without_all : (b : List ℕ) (ds : List (List ℕ)) → All P ds → All P (without b ds)
  unfolding without
  without_all b [] h = tt
  without_all b (d ∷ ds) h = step (eq_list b d) (without_all b ds h.1)
    where
      step : (t : Bool) → All P (without b ds) → All P (cond t (without b ds) (d ∷ without b ds))
      step true i = i
      step false i = (h.0, i)

  pub firsts_all : (ds : List (List ℕ)) → All P ds → All P (first_of_each ds)
  unfolding first_of_each
  firsts_all [] h = tt
  firsts_all (d ∷ ds) h = (h.0, without_all d (first_of_each ds) (firsts_all ds h.1))

  has_all : (b : List ℕ) (ds : List (List ℕ)) → All P ds → has b ds ≡ true → P b
  unfolding has
  has_all b [] h k = absurd (true≢false (sym k))
  has_all b (d ∷ ds) h k = step (eq_list d b) refl k (has_all b ds h.1)
    where
      step : (t : Bool) → eq_list d b ≡ t → t || has b ds ≡ true → (has b ds ≡ true → P b) → P b
      step true e q i = subst P (list_same d b e) h.0
      step false e q i = i q

  pub all_firsts : (ds : List (List ℕ)) → All P (first_of_each ds) → All P ds
  all_firsts ds h = all_map (λ b. has b (first_of_each ds) ≡ true) P (λ b k. has_all b (first_of_each ds) h k) ds (each_has ds)

-- the words of blocks one after the other
together_words : (ds : List (List ℕ)) → All (All Word) ds → All Word (together ds)
unfolding together
together_words [] h = tt
together_words (d ∷ ds) h = all_append Word d (together ds) h.0 (together_words ds h.1)

words_together : (ds : List (List ℕ)) → All Word (together ds) → All (All Word) ds
unfolding together
words_together [] h = tt
words_together (d ∷ ds) h = (all_front Word d (together ds) h, words_together ds (all_back Word d (together ds) h))

nulls_out : (bs : List (Option (List ℕ))) → blocks bs ≡ together (drop_null bs)
unfolding blocks together drop_null
nulls_out [] = refl
nulls_out (None ∷ bs) = nulls_out bs
nulls_out (Some b ∷ bs) = ap (λ (l : List ℕ). b ++ l) (nulls_out bs)

-- so the words of the blocks that are written fit exactly if those of all blocks do
module _ (bs : List (Option (List ℕ))) where
  pub shared_words : All Word (blocks bs) → All Word (shared_blocks bs)
  unfolding shared_blocks
  shared_words h = together_words (first_of_each (drop_null bs)) (firsts_all (All Word) (drop_null bs) (words_together (drop_null bs) (subst (All Word) (nulls_out bs) h)))

  pub words_shared : All Word (shared_blocks bs) → All Word (blocks bs)
  unfolding shared_blocks
  words_shared h = subst (All Word) (sym (nulls_out bs)) (together_words (drop_null bs) (all_firsts (All Word) (drop_null bs) (words_together (first_of_each (drop_null bs)) h)))

-- a block that has words, each of which fits if it is at most 65,536 bytes long
abbrev Small : List ℕ → Type 0
Small d = (0 < length d) × (2 * length d ≤ word_end → All Word d)

-- such blocks that end by 65,536: their words fit, and so do their offsets
together_small : (ds : List (List ℕ)) → All Small ds → 2 * length (together ds) ≤ word_end → All Word (together ds)
unfolding together
together_small [] h l = tt
together_small (d ∷ ds) h l =
    let n = length-append d (together ds) in
    all_append Word d (together ds) (h.0.1 (omega arith)) (together_small ds h.1 (omega arith))

offset_small : (p : ℕ) (ds : List (List ℕ)) (b : List ℕ) → All Small ds → has b ds ≡ true → p + 2 * length (together ds) ≤ word_end → Word (offset_in p ds b)
unfolding has offset_in together
offset_small p [] b h k l = absurd (true≢false (sym k))
offset_small p (d ∷ ds) b h k l =
    let n = length-append d (together ds) in
    step (eq_list d b) k (omega (arith, h.0.0)) (λ q. offset_small (p + 2 * length d) ds b h.1 q (omega arith))
  where
    step : (t : Bool) → t || has b ds ≡ true → Word p → (has b ds ≡ true → Word (offset_in (p + 2 * length d) ds b)) → Word (cond t p (offset_in (p + 2 * length d) ds b))
    step true q w i = w
    step false q w i = i q

offsets_small : (p : ℕ) (ds : List (List ℕ)) (bs : List (Option (List ℕ))) → All Small ds → All (λ b. has b ds ≡ true) (drop_null bs) → p + 2 * length (together ds) ≤ word_end → All Word (map (shared_offset p ds) bs)
unfolding shared_offset drop_null
offsets_small p ds [] h k l = tt
offsets_small p ds (None ∷ bs) h k l = (omega arith, offsets_small p ds bs h k l)
offsets_small p ds (Some b ∷ bs) h k l = (offset_small p ds b h k.0 l, offsets_small p ds bs h k.1 l)

-- offsets and blocks of parts are words, if the blocks end by 65,536
module _ {A : Type 0} (K : Kind A) where
  small_parts : (s : List ℕ) (xs : List (Option A)) → All (Opt (Back K s)) xs → All Small (drop_null (map (block K.words) xs))
  unfolding block drop_null
  small_parts s [] h = tt
  small_parts s (None ∷ xs) h = small_parts s xs h.1
  small_parts s (Some a ∷ xs) h = ((h.0.some_words, h.0.small), small_parts s xs h.1)

  pub shared_small : (s : List ℕ) (p : ℕ) (xs : List (Option A)) → All (Opt (Back K s)) xs → let bs = map (block K.words) xs in p + 2 * length (shared_blocks bs) ≤ word_end → All Word (shared_offsets p bs) × All Word (shared_blocks bs)
  unfolding shared_offsets shared_blocks
  shared_small s p xs h l =
      let bs = map (block K.words) xs in
      let ds = first_of_each (drop_null bs) in
      let small = firsts_all Small (drop_null bs) (small_parts s xs h) in
      (offsets_small p ds bs small (each_has (drop_null bs)) l, together_small ds small (omega arith))

-- One set: each of its words fits if it is at most 65,536 bytes long. (Of a coverage each word fits: `coverage_fits`; of a class table if it is not too long: `classes_fit`.)

pub rule_set_fits : (chained : Bool) (rules : List Rule) → All (GoodRule chained) rules → 2 * length (set_words (rule_words chained) rules) ≤ word_end → All Word (set_words (rule_words chained) rules)
unfolding rule_set_kind
rule_set_fits chained rules g l = (rule_set_back chained [] rules g).small l

pub ligature_set_fits : (ligatures : List Ligature) → All GoodLigature ligatures → 2 * length (set_words ligature_words ligatures) ≤ word_end → All Word (set_words ligature_words ligatures)
unfolding ligature_set_kind
ligature_set_fits ligatures g l = (ligature_set_back [] ligatures g).small l

pub pair_set_fits : (a b : ℕ) (pairs : List Pair) → GoodPairs a b pairs → 2 * length (pair_set_words pairs) ≤ word_end → All Word (pair_set_words pairs)
pair_set_fits a b pairs g l = (pair_set_back a b [] pairs g).small l

-- Layouts.

packed_is : (t : Table) → packed_words t ≡ packed (header t)
unfolding packed_words
packed_is t = refl

one_offset : (q : ℕ) (b : List ℕ) → offsets q (Some b ∷ []) ≡ q ∷ []
unfolding offsets
one_offset q b = refl

-- a table by sets, with a coverage
module _ {A : Type 0} (K : Kind A) (format : ℕ) (cov : List ℕ) (cs : List (Option (List (ℕ × ℕ)))) (more : List ℕ) (sets : List (Option A)) where
  abbrev sb : List (Option (List ℕ))
  sb = map (block K.words) sets

  abbrev cb : List (Option (List ℕ))
  cb = map (block class_words) cs

  abbrev hb : List (Option (List ℕ))
  hb = Some (coverage_words cov) ∷ []

  abbrev sets_at : ℕ
  sets_at = 6 + 2 * length cb + 2 * length more + 2 * length sb

  -- where the coverage stands: behind the sets that are written; and where the class tables do
  abbrev pub packed_cover_at : ℕ
  packed_cover_at = sets_at + 2 * length (shared_blocks sb)

  abbrev pub packed_tables_at : ℕ
  packed_tables_at = packed_cover_at + 2 * length (blocks hb)

  -- it fits exactly if the offsets of coverage and class tables do and no class table is too long
  pub packed_sets_exactly : (s : List ℕ) → Word format → All Word more → Glyphs cov → All (Opt Classes) cs → All (Opt (Back K s)) sets
      → words_fit (packed (sets_header format (Some (coverage_words cov)) cb more sb)) ≡ ltb packed_cover_at 65536 && (words_fit (shared_offsets packed_tables_at cb) && short_tables cs)
  unfolding block
  packed_sets_exactly s f m g k bs =
      let oc = offsets packed_cover_at hb in
      let ot = shared_offsets packed_tables_at cb in
      let os = shared_offsets sets_at sb in
      let w5 = blocks hb ++ shared_blocks cb in
      let w4 = shared_blocks sb ++ w5 in
      let w3 = length sb ∷ (os ++ w4) in
      let w2 = ot ++ (more ++ w3) in
      ap words_fit (packed_sets format (Some (coverage_words cov)) cb more sb)
      ∙ fits_exactly (format ∷ (oc ++ w2)) (ltb packed_cover_at 65536 && (words_fit ot && short_tables cs))
      (λ h.
      let c = subst (All Word) (one_offset packed_cover_at (coverage_words cov)) (all_front Word oc w2 h.1) in
      let h2 = all_back Word oc w2 h.1 in
      let h3 = all_back Word more w3 (all_back Word ot (more ++ w3) h2) in
      let tb = all_back Word (blocks hb) (shared_blocks cb) (all_back Word (shared_blocks sb) w5 (all_back Word os w4 h3.1)) in
      and_true (ltb packed_cover_at 65536) _ (lt-ltb packed_cover_at 65536 c.0) (and_true (words_fit ot) (short_tables cs) (words_fit_lem ot (all_front Word ot (more ++ w3) h2)) (tables_short cs k (words_shared cb tb))))
      (λ h.
      let q = both (ltb packed_cover_at 65536) _ h in
      let r = both (words_fit ot) (short_tables cs) q.1 in
      let l : packed_cover_at < 65536 = ltb-true packed_cover_at 65536 q.0 in
      let c3 = shared_small K s sets_at sets bs (omega arith) in
      let c = subst (All Word) (sym (one_offset packed_cover_at (coverage_words cov))) (l, tt) in
      let wb = all_append Word (blocks hb) (shared_blocks cb) (covers_words (Some cov ∷ []) (g, tt)) (shared_words cb (tables_words cs k (short_tables_lem cs r.1))) in
      (f, all_append Word oc w2 c (all_append Word ot (more ++ w3) (fit_words ot r.0) (all_append Word more w3 m (omega arith, all_append Word os w4 c3.0 (all_append Word (shared_blocks sb) w5 c3.1 wb))))))

no_offsets : (p : ℕ) → words_fit (shared_offsets p []) ≡ true
unfolding shared_offsets
no_offsets p = words_fit_lem [] tt

-- with sets and a coverage alone: exactly if the coverage's offset fits
one_exactly : {A : Type 0} (K : Kind A) (cov : List ℕ) (more : List ℕ) (sets : List (Option A)) → All Word more → Glyphs cov → All (Opt (Back K [])) sets
    → words_fit (packed (sets_header 1 (Some (coverage_words cov)) [] more (map (block K.words) sets))) ≡ ltb (6 + 2 * length more + 2 * length sets + 2 * length (shared_blocks (map (block K.words) sets))) 65536
one_exactly K cov more sets m g bs =
    let q = packed_cover_at K 1 cov [] more sets in
    let e : q ≡ 6 + 2 * length more + 2 * length sets + 2 * length (shared_blocks (map (block K.words) sets)) = omega (arith, length-map sets (block K.words)) in
    packed_sets_exactly K 1 cov [] more sets [] (omega arith) m g tt bs ∙ rw (no_tables, no_offsets (packed_tables_at K 1 cov [] more sets)) (and_one (ltb q 65536) ∙ ap (λ (n : ℕ). ltb n 65536) e)

pub packed_by_glyph_exactly : (chained : Bool) (cov : List ℕ) (sets : List (Option (List Rule))) → Good (Table.by_glyph chained (Some cov) sets)
    → words_fit (packed_words (Table.by_glyph chained (Some cov) sets)) ≡ ltb (6 + 2 * 0 + 2 * length sets + 2 * length (shared_blocks (map (block (set_words (rule_words chained))) sets))) 65536
unfolding header rule_set_kind block
packed_by_glyph_exactly chained cov sets g =
    ap words_fit (packed_is (Table.by_glyph chained (Some cov) sets))
    ∙ one_exactly (rule_set_kind chained) cov [] sets tt g.0 (all_opt (All (GoodRule chained)) (Back (rule_set_kind chained) []) (rule_set_back chained []) sets g.1)

pub packed_ligatures_exactly : (cov : List ℕ) (sets : List (Option (List Ligature))) → Good (Table.ligatures (Some cov) sets)
    → words_fit (packed_words (Table.ligatures (Some cov) sets)) ≡ ltb (6 + 2 * 0 + 2 * length sets + 2 * length (shared_blocks (map (block (set_words ligature_words)) sets))) 65536
unfolding header ligature_set_kind block
packed_ligatures_exactly cov sets g =
    ap words_fit (packed_is (Table.ligatures (Some cov) sets))
    ∙ one_exactly ligature_set_kind cov [] sets tt g.0 (all_opt (All GoodLigature) (Back ligature_set_kind []) (ligature_set_back []) sets g.1)

pub packed_pairs_exactly : (cov : List ℕ) (f1 f2 : ℕ) (sets : List (Option (List Pair))) → Good (Table.pairs_of (Some cov) f1 f2 sets)
    → words_fit (packed_words (Table.pairs_of (Some cov) f1 f2 sets)) ≡ ltb (6 + 2 * 2 + 2 * length sets + 2 * length (shared_blocks (map (block pair_set_words) sets))) 65536
unfolding header block
packed_pairs_exactly cov f1 f2 sets g =
    let a = field_count f1 in
    let b = field_count f2 in
    ap words_fit (packed_is (Table.pairs_of (Some cov) f1 f2 sets))
    ∙ one_exactly (pair_set_kind a b) cov (f1 ∷ f2 ∷ []) sets (omega (arith, g.1), (omega (arith, g.2), tt)) g.0 (all_opt (GoodPairs a b) (Back (pair_set_kind a b) []) (pair_set_back a b []) sets g.3)

-- by class: exactly if the offsets of coverage and class tables fit, and no class table is too long
pub packed_by_class_exactly : (chained : Bool) (cov : List ℕ) (b i a : Option (List (ℕ × ℕ))) (sets : List (Option (List Rule))) → Good (Table.by_class chained (Some cov) b i a sets)
    → let cs = cond chained (b ∷ i ∷ a ∷ []) (i ∷ []) in
    words_fit (packed_words (Table.by_class chained (Some cov) b i a sets))
    ≡ ltb (packed_cover_at (rule_set_kind chained) 2 cov cs [] sets) 65536 && (words_fit (shared_offsets (packed_tables_at (rule_set_kind chained) 2 cov cs [] sets) (map (block class_words) cs)) && short_tables cs)
unfolding header rule_set_kind block
packed_by_class_exactly chained cov b i a sets g =
    let cs = cond chained (b ∷ i ∷ a ∷ []) (i ∷ []) in
    ap words_fit (packed_is (Table.by_class chained (Some cov) b i a sets))
    ∙ packed_sets_exactly (rule_set_kind chained) 2 cov cs [] sets [] (omega arith) tt g.0 (tables_of chained) (all_opt (All (GoodRule chained)) (Back (rule_set_kind chained) []) (rule_set_back chained []) sets g.4)
  where
    tables_of : (chained : Bool) → All (Opt Classes) (cond chained (b ∷ i ∷ a ∷ []) (i ∷ []))
    tables_of true = (g.1, (g.2, (g.3, tt)))
    tables_of false = (g.2, tt)

-- format 3, where the counts fit: exactly if the offsets do
pub packed_by_cover_exactly : (i : List (Option (List ℕ))) (rs : List (ℕ × ℕ)) → Good (Table.by_cover false [] i [] rs) → Word (length i) → Word (length rs)
    → let ib = map (block coverage_words) i in words_fit (packed_words (Table.by_cover false [] i [] rs)) ≡ words_fit (shared_offsets (6 + 2 * length ib + 4 * length rs) ib)
unfolding header
packed_by_cover_exactly i rs g n m =
    let ib = map (block coverage_words) i in
    let os = shared_offsets (6 + 2 * length ib + 4 * length rs) ib in
    let w = twos rs ++ shared_blocks ib in
    ap words_fit (packed_is (Table.by_cover false [] i [] rs) ∙ packed_covers [] ib [] rs)
    ∙ fits_exactly (3 ∷ length ib ∷ length rs ∷ (os ++ w)) (words_fit os) (λ h. words_fit_lem os (all_front Word os w h.1.1.1))
    (λ h. (omega arith, (omega (arith, length-map i (block coverage_words)), (m, all_append Word os w (fit_words os h) (all_append Word (twos rs) (shared_blocks ib) (twos_small rs g.3) (shared_words ib (covers_words i g.1)))))))

drop_append : (xs ys : List (Option (List ℕ))) → drop_null (xs ++ ys) ≡ drop_null xs ++ drop_null ys
unfolding drop_null
drop_append [] ys = refl
drop_append (None ∷ xs) ys = drop_append xs ys
drop_append (Some b ∷ xs) ys = ap (λ (l : List (List ℕ)). b ∷ l) (drop_append xs ys)

-- chained: the coverages of all three arrays, of which none is written twice
module _ (b i a : List (Option (List ℕ))) (rs : List (ℕ × ℕ)) where
  abbrev all : List (List ℕ)
  all = all_covers b i a rs

  abbrev p : ℕ
  p = covers_at b i a rs

  all_covers_lem : first_of_each (drop_null (b ++ (i ++ a))) ≡ all
  all_covers_lem = ap first_of_each (drop_append b (i ++ a) ∙ ap (λ (l : List (List ℕ)). drop_null b ++ l) (drop_append i a))

  -- the offsets of the three arrays, and the blocks, are those of one array
  pub rows_offsets : shared_offsets p (b ++ (i ++ a)) ≡ map (shared_offset p all) b ++ (map (shared_offset p all) i ++ map (shared_offset p all) a)
  unfolding shared_offsets
  rows_offsets =
      ap (λ (ds : List (List ℕ)). map (shared_offset p ds) (b ++ (i ++ a))) all_covers_lem
      ∙ map-append (shared_offset p all) b (i ++ a) ∙ ap (λ (l : List ℕ). map (shared_offset p all) b ++ l) (map-append (shared_offset p all) i a)

  pub rows_blocks : shared_blocks (b ++ (i ++ a)) ≡ together all
  unfolding shared_blocks
  rows_blocks = ap together all_covers_lem

pub packed_chained_cover_exactly : (b i a : List (Option (List ℕ))) (rs : List (ℕ × ℕ)) → Good (Table.by_cover true b i a rs) → Word (length b) → Word (length i) → Word (length a) → Word (length rs)
    → let bb = map (block coverage_words) b in
    let ib = map (block coverage_words) i in
    let ab = map (block coverage_words) a in
    words_fit (packed_words (Table.by_cover true b i a rs)) ≡ words_fit (shared_offsets (covers_at bb ib ab rs) (bb ++ (ib ++ ab)))
unfolding header
packed_chained_cover_exactly b i a rs g nb ni na nr =
    let bb = map (block coverage_words) b in
    let ib = map (block coverage_words) i in
    let ab = map (block coverage_words) a in
    let p = covers_at bb ib ab rs in
    let all = all_covers bb ib ab rs in
    let at = map (shared_offset p all) in
    let t4 = length rs ∷ (twos rs ++ together all) in
    let t3 = length ab ∷ (at ab ++ t4) in
    let t2 = length ib ∷ (at ib ++ t3) in
    let os = at bb ++ (at ib ++ at ab) in
    let words : All Word (shared_blocks (bb ++ (ib ++ ab))) = shared_words (bb ++ (ib ++ ab)) (subst (All Word) (sym (blocks_append bb (ib ++ ab) ∙ ap (λ (l : List ℕ). blocks bb ++ l) (blocks_append ib ab))) (all_append Word (blocks bb) (blocks ib ++ blocks ab) (covers_words b g.0) (all_append Word (blocks ib) (blocks ab) (covers_words i g.1) (covers_words a g.2)))) in
    let lb = length-map b (block coverage_words) in
    let li = length-map i (block coverage_words) in
    let la = length-map a (block coverage_words) in
    ap words_fit (packed_is (Table.by_cover true b i a rs) ∙ packed_chained_covers bb ib ab rs)
    ∙ fits_exactly (3 ∷ length bb ∷ (at bb ++ t2)) (words_fit os)
    (λ h.
    let h1 = h.1.1 in
    let h2 = (all_back Word (at bb) t2 h1).1 in
    let h3 = (all_back Word (at ib) t3 h2).1 in
    words_fit_lem os (all_append Word (at bb) (at ib ++ at ab) (all_front Word (at bb) t2 h1) (all_append Word (at ib) (at ab) (all_front Word (at ib) t3 h2) (all_front Word (at ab) t4 h3))))
    (λ h.
    let o = fit_words os h in
    let o2 = all_back Word (at bb) (at ib ++ at ab) o in
    (omega arith, (omega arith, all_append Word (at bb) t2 (all_front Word (at bb) (at ib ++ at ab) o) (omega arith, all_append Word (at ib) t3 (all_front Word (at ib) (at ab) o2) (omega arith, all_append Word (at ab) t4 (all_back Word (at ib) (at ab) o2) (nr, all_append Word (twos rs) (together all) (twos_small rs g.3) (subst (All Word) (rows_blocks bb ib ab rs) words)))))))
    ∙ ap words_fit (sym (rows_offsets bb ib ab rs))

-- pairs by class: exactly if the offsets of coverage and class tables fit, and no class table is too long
pub packed_class_pairs_exactly : (cover : Option (List ℕ)) (first second : Option (List (ℕ × ℕ))) (f1 f2 n : ℕ) (rows : List (List Pair)) → Good (Table.class_pairs cover first second f1 f2 n rows)
    → let hb = block coverage_words cover ∷ [] in
    let cs = first ∷ second ∷ [] in
    let cb = map (block class_words) cs in
    let at = 4 + 2 * 2 + 2 * length cb + 2 * length (length rows ∷ n ∷ row_words rows) in
    words_fit (packed_words (Table.class_pairs cover first second f1 f2 n rows)) ≡ words_fit (offsets at hb) && (words_fit (shared_offsets (at + 2 * length (blocks hb)) cb) && short_tables cs)
unfolding header
packed_class_pairs_exactly cover first second f1 f2 n rows g =
    let hb = block coverage_words cover ∷ [] in
    let cs = first ∷ second ∷ [] in
    let cb = map (block class_words) cs in
    let more = length rows ∷ n ∷ row_words rows in
    let at = 4 + 2 * 2 + 2 * length cb + 2 * length more in
    let oh = offsets at hb in
    let ot = shared_offsets (at + 2 * length (blocks hb)) cb in
    let formats = f1 ∷ f2 ∷ [] in
    let wb = blocks hb ++ shared_blocks cb in
    let k : All (Opt Classes) cs = (g.1, (g.2, tt)) in
    ap words_fit (packed_is (Table.class_pairs cover first second f1 f2 n rows) ∙ packed_cells (block coverage_words cover) formats cb more)
    ∙ fits_exactly (2 ∷ (oh ++ (formats ++ (ot ++ (more ++ wb))))) (words_fit oh && (words_fit ot && short_tables cs))
    (λ h.
    let h2 = all_back Word formats (ot ++ (more ++ wb)) (all_back Word oh (formats ++ (ot ++ (more ++ wb))) h.1) in
    let h3 = all_back Word (blocks hb) (shared_blocks cb) (all_back Word more wb (all_back Word ot (more ++ wb) h2)) in
    and_true (words_fit oh) _ (words_fit_lem oh (all_front Word oh (formats ++ (ot ++ (more ++ wb))) h.1)) (and_true (words_fit ot) (short_tables cs) (words_fit_lem ot (all_front Word ot (more ++ wb) h2)) (tables_short cs k (words_shared cb h3))))
    (λ h.
    let q = both (words_fit oh) _ h in
    let r = both (words_fit ot) (short_tables cs) q.1 in
    let m : All Word more = (g.8, (g.7, rows_words (field_count f1) (field_count f2) n rows g.5)) in
    let f : All Word formats = (omega (arith, g.3), (omega (arith, g.4), tt)) in
    (omega arith, all_append Word oh (formats ++ (ot ++ (more ++ wb))) (fit_words oh q.0) (all_append Word formats (ot ++ (more ++ wb)) f (all_append Word ot (more ++ wb) (fit_words ot r.0) (all_append Word more wb m (all_append Word (blocks hb) (shared_blocks cb) (covers_words (cover ∷ []) (g.0, tt)) (shared_words cb (tables_words cs k (short_tables_lem cs r.1)))))))))
