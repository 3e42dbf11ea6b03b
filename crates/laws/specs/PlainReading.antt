-- The plain layout of a table is the plain reading of its header.
use Rattle.std.specs.Prelude.{ℕ, ◌+◌, ◌*◌, ◌<◌, ◌≡◌, true, cond, Option, None, Some}
use Rattle.std.proofs.Math.Path.{refl, sym, ap, ap₂}
use Rattle.std.proofs.Common.{◌∙◌, arith, eq-eqb}
use Rattle.std.proofs.Math.Bool.{false}
use mathlib.Core.List.{List, [], ◌∷◌, ◌++◌, map, append-nil, append_assoc}
use Rattle.std.proofs.Math.ListN.{length, length-append, length-map}
use Rattle.std.proofs.Math.Dec.{eqb}
use Rattle.meaning.specs.Words.{push, twos}
use Rattle.meaning.specs.Tables.{Table}
use Rattle.meaning.specs.Layout.{offsets, blocks, block, coverage_words, class_words, rule_words, ligature_words, set_words, pair_set_words, row_words, sets_layout, covers_layout, cells_layout, cover_layout, table_words}
use Rattle.meaning.specs.Packed.{BlockKind, set, coverage, class_table, rank, HeaderWord, number, offset, sets_header, covers_header, cells_header, cover_header, header, blocks_of, together}
use Rattle.laws.specs.Stands.{twos_length}
use Rattle.laws.specs.Through.{offsets_append, blocks_append}
use Rattle.laws.specs.Headers.{blocks_of_append, together_append, plain_start, plain_word, plain_from, plain}

-- The blocks of a row of offsets, of offsets of another kind, and of numbers.
same_kind : (k : BlockKind) (bs : List (Option (List ℕ))) → together (blocks_of k (map (offset k) bs)) ≡ blocks bs
unfolding blocks_of push together blocks
same_kind k [] = refl
same_kind k (None ∷ bs) = rw (eq-eqb (rank k) (rank k) refl) (same_kind k bs)
same_kind k (Some b ∷ bs) = rw (eq-eqb (rank k) (rank k) refl) (ap (λ (l : List ℕ). b ++ l) (same_kind k bs))

pub other_kind : (k j : BlockKind) (bs : List (Option (List ℕ))) → eqb (rank k) (rank j) ≡ false → blocks_of k (map (offset j) bs) ≡ []
unfolding blocks_of
other_kind k j [] e = refl
other_kind k j (b ∷ bs) e = rw e (other_kind k j bs e)

pub no_blocks : (k : BlockKind) (ns : List ℕ) → blocks_of k (map number ns) ≡ []
unfolding blocks_of
no_blocks k [] = refl
no_blocks k (n ∷ ns) = no_blocks k ns

-- the same at the front of a header
pub past_other : (k j : BlockKind) (bs : List (Option (List ℕ))) (g : List HeaderWord) → eqb (rank k) (rank j) ≡ false → blocks_of k (map (offset j) bs ++ g) ≡ blocks_of k g
past_other k j bs g e = blocks_of_append k (map (offset j) bs) g ∙ ap (λ (l : List (List ℕ)). l ++ blocks_of k g) (other_kind k j bs e)

pub past_numbers : (k : BlockKind) (ns : List ℕ) (g : List HeaderWord) → blocks_of k (map number ns ++ g) ≡ blocks_of k g
past_numbers k ns g = blocks_of_append k (map number ns) g ∙ ap (λ (l : List (List ℕ)). l ++ blocks_of k g) (no_blocks k ns)

first_blocks : (k : BlockKind) (bs : List (Option (List ℕ))) (g : List HeaderWord) → together (blocks_of k (map (offset k) bs ++ g)) ≡ blocks bs ++ together (blocks_of k g)
first_blocks k bs g = ap together (blocks_of_append k (map (offset k) bs) g) ∙ together_append (blocks_of k (map (offset k) bs)) (blocks_of k g) ∙ ap (λ (l : List ℕ). l ++ together (blocks_of k g)) (same_kind k bs)

-- how far the blocks of a kind reach that a part of a header refers to
abbrev reach : BlockKind → List HeaderWord → ℕ
reach k g = 2 * length (together (blocks_of k g))

reach_append : (k : BlockKind) (f g : List HeaderWord) → reach k (f ++ g) ≡ reach k f + reach k g
reach_append k f g = omega (arith, ap (λ (l : List (List ℕ)). length (together l)) (blocks_of_append k f g), ap length (together_append (blocks_of k f) (blocks_of k g)), length-append (together (blocks_of k f)) (together (blocks_of k g)))

reach_numbers : (k : BlockKind) (ns : List ℕ) → reach k (map number ns) ≡ 0
unfolding together
reach_numbers k ns = ap (λ (l : List (List ℕ)). 2 * length (together l)) (no_blocks k ns)

reach_other : (k j : BlockKind) (bs : List (Option (List ℕ))) → eqb (rank k) (rank j) ≡ false → reach k (map (offset j) bs) ≡ 0
unfolding together
reach_other k j bs e = ap (λ (l : List (List ℕ)). 2 * length (together l)) (other_kind k j bs e)

reach_same : (k : BlockKind) (bs : List (Option (List ℕ))) → reach k (map (offset k) bs) ≡ 2 * length (blocks bs)
reach_same k bs = ap (λ (l : List ℕ). 2 * length l) (same_kind k bs)

module _ (h : List HeaderWord) where
  from_numbers : (before : List HeaderWord) (ns : List ℕ) (g : List HeaderWord) → plain_from h before (map number ns ++ g) ≡ ns ++ plain_from h (before ++ map number ns) g
  unfolding plain_from plain_word
  from_numbers before [] g = ap (λ (f : List HeaderWord). plain_from h f g) (sym (append-nil before))
  from_numbers before (n ∷ ns) g =
      ap (λ (l : List ℕ). n ∷ l) (from_numbers (before ++ (number n ∷ [])) ns g ∙ ap (λ (f : List HeaderWord). ns ++ plain_from h f g) (append_assoc before (number n ∷ []) (map number ns)))

  from_offsets : (k : BlockKind) (p : ℕ) (before : List HeaderWord) (bs : List (Option (List ℕ))) (g : List HeaderWord) → p ≡ plain_start h k + reach k before
      → plain_from h before (map (offset k) bs ++ g) ≡ offsets p bs ++ plain_from h (before ++ map (offset k) bs) g
  unfolding plain_from plain_word offsets blocks
  from_offsets k p before [] g e = ap (λ (f : List HeaderWord). plain_from h f g) (sym (append-nil before))
  from_offsets k p before (None ∷ bs) g e =
      let n : reach k (offset k None ∷ []) ≡ 0 = ap (λ (l : List ℕ). 2 * length l) (same_kind k (None ∷ [])) in
      ap (λ (l : List ℕ). 0 ∷ l) (from_offsets k p (before ++ (offset k None ∷ [])) bs g (omega (arith, e, n, reach_append k before (offset k None ∷ [])))
      ∙ ap (λ (f : List HeaderWord). offsets p bs ++ plain_from h f g) (append_assoc before (offset k None ∷ []) (map (offset k) bs)))
  from_offsets k p before (Some b ∷ bs) g e =
      let n : reach k (offset k (Some b) ∷ []) ≡ 2 * length (b ++ []) = ap (λ (l : List ℕ). 2 * length l) (same_kind k (Some b ∷ [])) in
      ap₂ (λ (o : ℕ) (l : List ℕ). o ∷ l) (sym e) (from_offsets k (p + 2 * length b) (before ++ (offset k (Some b) ∷ [])) bs g (omega (arith, e, n, length-append b [], reach_append k before (offset k (Some b) ∷ [])))
      ∙ ap (λ (f : List HeaderWord). offsets (p + 2 * length b) bs ++ plain_from h f g) (append_assoc before (offset k (Some b) ∷ []) (map (offset k) bs)))

  -- where a header ends in them
  last_numbers : (before : List HeaderWord) (ns : List ℕ) → plain_from h before (map number ns) ≡ ns
  unfolding plain_from
  last_numbers before ns = ap (plain_from h before) (sym (append-nil (map number ns))) ∙ from_numbers before ns [] ∙ append-nil ns

  last_offsets : (k : BlockKind) (p : ℕ) (before : List HeaderWord) (bs : List (Option (List ℕ))) → p ≡ plain_start h k + reach k before → plain_from h before (map (offset k) bs) ≡ offsets p bs
  unfolding plain_from
  last_offsets k p before bs e = ap (plain_from h before) (sym (append-nil (map (offset k) bs))) ∙ from_offsets k p before bs [] e ∙ append-nil (offsets p bs)

-- the reading, from what it is made of
plain_by : (h : List HeaderWord) {top sets covers tables : List ℕ} → plain_from h [] h ≡ top → together (blocks_of set h) ≡ sets → together (blocks_of coverage h) ≡ covers → together (blocks_of class_table h) ≡ tables
    → plain h ≡ top ++ (sets ++ (covers ++ tables))
unfolding plain
plain_by h e f g k = λ i. e i ++ (f i ++ (g i ++ k i))

-- Each form of header.
module _ (format : ℕ) (cover : Option (List ℕ)) (tables : List (Option (List ℕ))) (more : List ℕ) (sets : List (Option (List ℕ))) where
  abbrev sh : List HeaderWord
  sh = sets_header format cover tables more sets

  abbrev classed : List HeaderWord
  classed = map (offset class_table) tables

  pub sets_long : 2 * length sh ≡ 6 + 2 * length tables + 2 * length more + 2 * length sets
  unfolding sets_header
  sets_long =
      let last = number (length sets) ∷ map (offset set) sets in
      omega (arith, length-append classed (map number more ++ last), length-append (map number more) last, length-map tables (offset class_table), length-map more number, length-map sets (offset set))

  sets_sets : together (blocks_of set sh) ≡ blocks sets
  unfolding sets_header blocks_of rank
  sets_sets =
      let last = number (length sets) ∷ map (offset set) sets in
      ap together (past_other set class_table tables (map number more ++ last) refl ∙ past_numbers set more last) ∙ same_kind set sets

  sets_covers : together (blocks_of coverage sh) ≡ blocks (cover ∷ [])
  unfolding sets_header blocks_of rank
  sets_covers =
      let last = number (length sets) ∷ map (offset set) sets in
      let e : blocks_of coverage (classed ++ (map number more ++ last)) ≡ [] = past_other coverage class_table tables (map number more ++ last) refl ∙ past_numbers coverage more last ∙ other_kind coverage set sets refl in
      ap (λ (l : List (List ℕ)). together (push cover l)) e ∙ same_kind coverage (cover ∷ [])

  sets_tables : together (blocks_of class_table sh) ≡ blocks tables
  unfolding sets_header blocks_of together rank
  sets_tables =
      let last = number (length sets) ∷ map (offset set) sets in
      let e : blocks_of class_table (map number more ++ last) ≡ [] = past_numbers class_table more last ∙ other_kind class_table set sets refl in
      first_blocks class_table tables (map number more ++ last) ∙ ap (λ (l : List (List ℕ)). blocks tables ++ together l) e ∙ append-nil (blocks tables)

  plain_sets : sets_layout format (cover ∷ tables) more sets ≡ plain sh
  unfolding sets_layout sets_header plain_from plain_word plain_start rank
  plain_sets =
      let n = length sets in
      let first = 4 + 2 * length (cover ∷ tables) + 2 * length more + 2 * length sets in
      let second = first + 2 * length (blocks sets) in
      let third = second + 2 * length (blocks (cover ∷ [])) in
      let last = number n ∷ map (offset set) sets in
      let b1 = number format ∷ [] in
      let b2 = b1 ++ map (offset coverage) (cover ∷ []) in
      let b3 = b2 ++ classed in
      let b4 = b3 ++ map number more in
      let b5 = b4 ++ (number n ∷ []) in
      let ls = ap length sets_sets in
      let lc = ap length sets_covers in
      let c : plain_from sh b1 (map (offset coverage) (cover ∷ []) ++ (classed ++ (map number more ++ last))) ≡ offsets second (cover ∷ []) ++ plain_from sh b2 (classed ++ (map number more ++ last)) =
      from_offsets sh coverage second b1 (cover ∷ []) (classed ++ (map number more ++ last)) (omega (arith, sets_long, ls, reach_numbers coverage (format ∷ []))) in
      let t : plain_from sh b2 (classed ++ (map number more ++ last)) ≡ offsets third tables ++ plain_from sh b3 (map number more ++ last) =
      from_offsets sh class_table third b2 tables (map number more ++ last) (omega (arith, sets_long, ls, lc, reach_append class_table b1 (map (offset coverage) (cover ∷ [])), reach_numbers class_table (format ∷ []), reach_other class_table coverage (cover ∷ []) refl)) in
      let m : plain_from sh b3 (map number more ++ last) ≡ more ++ (n ∷ plain_from sh b5 (map (offset set) sets)) = from_numbers sh b3 more last in
      let o : plain_from sh b5 (map (offset set) sets) ≡ offsets first sets =
      last_offsets sh set first b5 sets (omega (arith, sets_long, reach_append set b4 (number n ∷ []), reach_numbers set (n ∷ []), reach_append set b3 (map number more), reach_numbers set more, reach_append set b2 classed, reach_other set class_table tables refl, reach_append set b1 (map (offset coverage) (cover ∷ [])), reach_numbers set (format ∷ []), reach_other set coverage (cover ∷ []) refl)) in
      let top : plain_from sh [] sh ≡ format ∷ (offsets second (cover ∷ []) ++ (offsets third tables ++ (more ++ (n ∷ offsets first sets)))) =
      ap (λ (l : List ℕ). format ∷ l) (c ∙ ap (λ (l : List ℕ). offsets second (cover ∷ []) ++ l) (t ∙ ap (λ (l : List ℕ). offsets third tables ++ l) (m ∙ ap (λ (l : List ℕ). more ++ (n ∷ l)) o))) in
      ap₂ (λ (os bs : List ℕ). format ∷ (os ++ (more ++ (n ∷ (offsets first sets ++ (blocks sets ++ bs)))))) (offsets_append second (cover ∷ []) tables) (blocks_append (cover ∷ []) tables)
      ∙ sym (plain_by sh top sets_sets sets_covers sets_tables ∙ regroup (offsets second (cover ∷ [])) (offsets third tables) more (offsets first sets) (blocks sets ++ (blocks (cover ∷ []) ++ blocks tables)))
    where
      regroup : (co to mo so bs : List ℕ) → (format ∷ (co ++ (to ++ (mo ++ (length sets ∷ so))))) ++ bs ≡ format ∷ ((co ++ to) ++ (mo ++ (length sets ∷ (so ++ bs))))
      regroup co to mo so bs = simp append_assoc

-- format 3, plain and chained
module _ (b i a : List (Option (List ℕ))) (rs : List (ℕ × ℕ)) where
  abbrev ph : List HeaderWord
  ph = covers_header false b i a rs

  plain_covers_lem : covers_layout false b i a rs ≡ plain ph
  unfolding covers_layout covers_header plain_from plain_word plain_start blocks_of together rank
  plain_covers_lem =
      let first = 6 + 2 * length i + 4 * length rs in
      let b1 = number 3 ∷ number (length i) ∷ number (length rs) ∷ [] in
      let other : (k : BlockKind) → eqb (rank k) (rank coverage) ≡ false → together (blocks_of k ph) ≡ [] = λ k e. ap together (past_other k coverage i (map number (twos rs)) e ∙ no_blocks k (twos rs)) in
      let own : together (blocks_of coverage ph) ≡ blocks i = first_blocks coverage i (map number (twos rs)) ∙ ap (λ (l : List (List ℕ)). blocks i ++ together l) (no_blocks coverage (twos rs)) ∙ append-nil (blocks i) in
      let long : 2 * length ph ≡ first = omega (arith, length-append (map (offset coverage) i) (map number (twos rs)), length-map i (offset coverage), length-map (twos rs) number, twos_length rs) in
      let o : plain_from ph b1 (map (offset coverage) i ++ map number (twos rs)) ≡ offsets first i ++ twos rs =
      from_offsets ph coverage first b1 i (map number (twos rs)) (omega (arith, long, ap length (other set refl), reach_numbers coverage (3 ∷ length i ∷ length rs ∷ []))) ∙ ap (λ (l : List ℕ). offsets first i ++ l) (last_numbers ph (b1 ++ map (offset coverage) i) (twos rs)) in
      sym (plain_by ph (ap (λ (l : List ℕ). 3 ∷ length i ∷ length rs ∷ l) o) (other set refl) own (other class_table refl)
      ∙ ap (λ (l : List ℕ). 3 ∷ length i ∷ length rs ∷ l) (append_assoc (offsets first i) (twos rs) (blocks i ++ []) ∙ ap (λ (l : List ℕ). offsets first i ++ (twos rs ++ l)) (append-nil (blocks i))))

  abbrev ch : List HeaderWord
  ch = covers_header true b i a rs

  plain_chained_covers : covers_layout true b i a rs ≡ plain ch
  unfolding covers_layout covers_header plain_from plain_word plain_start blocks_of together rank
  plain_chained_covers =
      let first = 10 + 2 * length b + 2 * length i + 2 * length a + 4 * length rs in
      let second = first + 2 * length (blocks b) in
      let third = second + 2 * length (blocks i) in
      let oc = map (offset coverage) in
      let g4 = number (length rs) ∷ map number (twos rs) in
      let g3 = number (length a) ∷ (oc a ++ g4) in
      let g2 = number (length i) ∷ (oc i ++ g3) in
      let b1 = number 3 ∷ number (length b) ∷ [] in
      let b2 = b1 ++ oc b in
      let b3 = b2 ++ (number (length i) ∷ []) in
      let b4 = b3 ++ oc i in
      let b5 = b4 ++ (number (length a) ∷ []) in
      let b6 = b5 ++ oc a in
      let other : (k : BlockKind) → eqb (rank k) (rank coverage) ≡ false → together (blocks_of k ch) ≡ [] = λ k e. ap together (past_other k coverage b g2 e ∙ past_other k coverage i g3 e ∙ past_other k coverage a g4 e ∙ no_blocks k (twos rs)) in
      let own : together (blocks_of coverage ch) ≡ blocks b ++ (blocks i ++ blocks a) =
      first_blocks coverage b g2 ∙ ap (λ (l : List ℕ). blocks b ++ l) (first_blocks coverage i g3 ∙ ap (λ (l : List ℕ). blocks i ++ l) (first_blocks coverage a g4 ∙ ap (λ (l : List (List ℕ)). blocks a ++ together l) (no_blocks coverage (twos rs)) ∙ append-nil (blocks a))) in
      let long : 2 * length ch ≡ first =
      omega (arith, length-append (oc b) g2, length-append (oc i) g3, length-append (oc a) g4, length-map b (offset coverage), length-map i (offset coverage), length-map a (offset coverage), length-map (twos rs) number, twos_length rs) in
      let none_before = ap length (other set refl) in
      let z1 = reach_numbers coverage (3 ∷ length b ∷ []) in
      let z2 = reach_append coverage b1 (oc b) in
      let z3 = reach_append coverage b2 (number (length i) ∷ []) in
      let z4 = reach_append coverage b3 (oc i) in
      let z5 = reach_append coverage b4 (number (length a) ∷ []) in
      let ob : plain_from ch b1 (oc b ++ g2) ≡ offsets first b ++ plain_from ch b2 g2 = from_offsets ch coverage first b1 b g2 (omega (arith, long, none_before, z1)) in
      let oi : plain_from ch b3 (oc i ++ g3) ≡ offsets second i ++ plain_from ch b4 g3 = from_offsets ch coverage second b3 i g3 (omega (arith, long, none_before, z1, z2, z3, reach_same coverage b, reach_numbers coverage (length i ∷ []))) in
      let oa : plain_from ch b5 (oc a ++ g4) ≡ offsets third a ++ plain_from ch b6 g4 =
      from_offsets ch coverage third b5 a g4 (omega (arith, long, none_before, z1, z2, z3, z4, z5, reach_same coverage b, reach_same coverage i, reach_numbers coverage (length i ∷ []), reach_numbers coverage (length a ∷ []))) in
      let or : plain_from ch b6 g4 ≡ length rs ∷ twos rs = ap (λ (l : List ℕ). length rs ∷ l) (last_numbers ch (b6 ++ (number (length rs) ∷ [])) (twos rs)) in
      let top : plain_from ch [] ch ≡ 3 ∷ length b ∷ (offsets first b ++ (length i ∷ (offsets second i ++ (length a ∷ (offsets third a ++ (length rs ∷ twos rs)))))) =
      ap (λ (l : List ℕ). 3 ∷ length b ∷ l) (ob ∙ ap (λ (l : List ℕ). offsets first b ++ (length i ∷ l)) (oi ∙ ap (λ (l : List ℕ). offsets second i ++ (length a ∷ l)) (oa ∙ ap (λ (l : List ℕ). offsets third a ++ l) or))) in
      sym (plain_by ch top (other set refl) own (other class_table refl)
      ∙ ap (λ (l : List ℕ). (3 ∷ length b ∷ (offsets first b ++ (length i ∷ (offsets second i ++ (length a ∷ (offsets third a ++ (length rs ∷ twos rs))))))) ++ l) (append-nil (blocks b ++ (blocks i ++ blocks a)))
      ∙ regroup (offsets first b) (offsets second i) (offsets third a) (twos rs) (blocks b ++ (blocks i ++ blocks a)))
    where
      regroup : (x y z t w : List ℕ) → (3 ∷ length b ∷ (x ++ (length i ∷ (y ++ (length a ∷ (z ++ (length rs ∷ t))))))) ++ w ≡ 3 ∷ length b ∷ (x ++ (length i ∷ (y ++ (length a ∷ (z ++ (length rs ∷ (t ++ w)))))))
      regroup x y z t w = simp append_assoc

-- pairs by class
module _ (cover : Option (List ℕ)) (formats : List ℕ) (tables : List (Option (List ℕ))) (more : List ℕ) where
  abbrev kh : List HeaderWord
  kh = cells_header cover formats tables more

  plain_cells : cells_layout (cover ∷ []) formats tables more ≡ plain kh
  unfolding cells_layout cells_header plain_from plain_word plain_start blocks_of together rank
  plain_cells =
      let first = 4 + 2 * length formats + 2 * length tables + 2 * length more in
      let second = first + 2 * length (blocks (cover ∷ [])) in
      let classed = map (offset class_table) tables in
      let g2 = classed ++ map number more in
      let g1 = map number formats ++ g2 in
      let b1 = number 2 ∷ [] in
      let b2 = b1 ++ map (offset coverage) (cover ∷ []) in
      let b3 = b2 ++ map number formats in
      let others : blocks_of coverage g1 ≡ [] = past_numbers coverage formats g2 ∙ past_other coverage class_table tables (map number more) refl ∙ no_blocks coverage more in
      let no-sets : together (blocks_of set kh) ≡ [] = ap together (past_numbers set formats g2 ∙ past_other set class_table tables (map number more) refl ∙ no_blocks set more) in
      let covers : together (blocks_of coverage kh) ≡ blocks (cover ∷ []) = ap (λ (l : List (List ℕ)). together (push cover l)) others ∙ same_kind coverage (cover ∷ []) in
      let own : together (blocks_of class_table kh) ≡ blocks tables =
      ap together (past_numbers class_table formats g2) ∙ first_blocks class_table tables (map number more) ∙ ap (λ (l : List (List ℕ)). blocks tables ++ together l) (no_blocks class_table more) ∙ append-nil (blocks tables) in
      let long : 2 * length kh ≡ first = omega (arith, length-append (map number formats) g2, length-append classed (map number more), length-map formats number, length-map tables (offset class_table), length-map more number) in
      let ls = ap length no-sets in
      let lc = ap length covers in
      let oc : plain_from kh b1 (map (offset coverage) (cover ∷ []) ++ g1) ≡ offsets first (cover ∷ []) ++ plain_from kh b2 g1 = from_offsets kh coverage first b1 (cover ∷ []) g1 (omega (arith, long, ls, reach_numbers coverage (2 ∷ []))) in
      let ot : plain_from kh b3 g2 ≡ offsets second tables ++ more =
      from_offsets kh class_table second b3 tables (map number more) (omega (arith, long, ls, lc, reach_append class_table b2 (map number formats), reach_numbers class_table formats, reach_append class_table b1 (map (offset coverage) (cover ∷ [])), reach_numbers class_table (2 ∷ []), reach_other class_table coverage (cover ∷ []) refl))
      ∙ ap (λ (l : List ℕ). offsets second tables ++ l) (last_numbers kh (b3 ++ classed) more) in
      let top : plain_from kh [] kh ≡ 2 ∷ (offsets first (cover ∷ []) ++ (formats ++ (offsets second tables ++ more))) =
      ap (λ (l : List ℕ). 2 ∷ l) (oc ∙ ap (λ (l : List ℕ). offsets first (cover ∷ []) ++ l) (from_numbers kh b2 formats g2 ∙ ap (λ (l : List ℕ). formats ++ l) ot)) in
      sym (plain_by kh top no-sets covers own ∙ regroup (offsets first (cover ∷ [])) (offsets second tables) (blocks (cover ∷ []) ++ blocks tables))
    where
      regroup : (x y w : List ℕ) → (2 ∷ (x ++ (formats ++ (y ++ more)))) ++ w ≡ 2 ∷ (x ++ (formats ++ (y ++ (more ++ w))))
      regroup x y w = simp append_assoc

-- a table with no sets
module _ (format : ℕ) (cover : Option (List ℕ)) (more : List ℕ) where
  abbrev oh : List HeaderWord
  oh = cover_header format cover more

  plain_cover : cover_layout format (cover ∷ []) more ≡ plain oh
  unfolding cover_layout cover_header plain_from plain_word plain_start blocks_of together rank
  plain_cover =
      let first = 4 + 2 * length more in
      let b1 = number format ∷ [] in
      let other : (k : BlockKind) → eqb (rank k) (rank coverage) ≡ false → together (blocks_of k oh) ≡ [] = λ k e. ap together (past_other k coverage (cover ∷ []) (map number more) e ∙ no_blocks k more) in
      let own : together (blocks_of coverage oh) ≡ blocks (cover ∷ []) = ap (λ (l : List (List ℕ)). together (push cover l)) (no_blocks coverage more) ∙ same_kind coverage (cover ∷ []) in
      let long : 2 * length oh ≡ first = omega (arith, length-map more number) in
      let o : plain_from oh b1 (map (offset coverage) (cover ∷ []) ++ map number more) ≡ offsets first (cover ∷ []) ++ more =
      from_offsets oh coverage first b1 (cover ∷ []) (map number more) (omega (arith, long, ap length (other set refl), reach_numbers coverage (format ∷ []))) ∙ ap (λ (l : List ℕ). offsets first (cover ∷ []) ++ l) (last_numbers oh (b1 ++ map (offset coverage) (cover ∷ [])) more) in
      sym (plain_by oh (ap (λ (l : List ℕ). format ∷ l) o) (other set refl) own (other class_table refl)
      ∙ ap (λ (l : List ℕ). format ∷ l) (append_assoc (offsets first (cover ∷ [])) more (blocks (cover ∷ []) ++ []) ∙ ap (λ (l : List ℕ). offsets first (cover ∷ []) ++ (more ++ l)) (append-nil (blocks (cover ∷ [])))))

-- The plain layout of a table is the plain reading of its header.
pub plain_reading : (t : Table) → table_words t ≡ plain (header t)
unfolding table_words header
plain_reading (Table.by_glyph chained cover sets) = plain_sets 1 (block coverage_words cover) [] [] (map (block (set_words (rule_words chained))) sets)
plain_reading (Table.by_class chained cover b i a sets) = plain_sets 2 (block coverage_words cover) (map (block class_words) (cond chained (b ∷ i ∷ a ∷ []) (i ∷ []))) [] (map (block (set_words (rule_words chained))) sets)
plain_reading (Table.by_cover false b i a rs) = plain_covers_lem (map (block coverage_words) b) (map (block coverage_words) i) (map (block coverage_words) a) rs
plain_reading (Table.by_cover true b i a rs) = plain_chained_covers (map (block coverage_words) b) (map (block coverage_words) i) (map (block coverage_words) a) rs
plain_reading (Table.ligatures cover sets) = plain_sets 1 (block coverage_words cover) [] [] (map (block (set_words ligature_words)) sets)
plain_reading (Table.pairs_of cover f1 f2 sets) = plain_sets 1 (block coverage_words cover) [] (f1 ∷ f2 ∷ []) (map (block pair_set_words) sets)
plain_reading (Table.class_pairs cover first second f1 f2 n rows) = plain_cells (block coverage_words cover) (f1 ∷ f2 ∷ []) (block class_words first ∷ block class_words second ∷ []) (length rows ∷ n ∷ row_words rows)
plain_reading (Table.single_delta cover d) = plain_cover 1 (block coverage_words cover) (d ∷ [])
plain_reading (Table.single_list cover subs) = plain_cover 2 (block coverage_words cover) (length subs ∷ subs)

-- a header has words
pub header_long : (t : Table) → 0 < length (header t)
unfolding header sets_header covers_header cells_header cover_header
header_long (Table.by_glyph chained cover sets) = omega arith
header_long (Table.by_class chained cover b i a sets) = omega arith
header_long (Table.by_cover false b i a rs) = omega arith
header_long (Table.by_cover true b i a rs) = omega arith
header_long (Table.ligatures cover sets) = omega arith
header_long (Table.pairs_of cover f1 f2 sets) = omega arith
header_long (Table.class_pairs cover first second f1 f2 n rows) = omega arith
header_long (Table.single_delta cover d) = omega arith
header_long (Table.single_list cover subs) = omega arith
