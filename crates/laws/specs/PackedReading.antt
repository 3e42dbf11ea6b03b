-- The packed layout of each form of table, written out, as the plain ones are in `Layout`.
use Rattle.std.specs.Prelude.{ℕ, ◌+◌, ◌*◌, ◌≡◌, true, Option, None, Some}
use Rattle.std.proofs.Math.Path.{refl, ap, ap₂}
use Rattle.std.proofs.Common.{◌∙◌, arith, eq-eqb}
use Rattle.std.proofs.Math.Bool.{false}
use mathlib.Core.List.{List, [], ◌∷◌, ◌++◌, map, map-append, append-nil, append_assoc}
use Rattle.std.proofs.Math.ListN.{length, length-append, length-map}
use Rattle.std.proofs.Math.Dec.{eqb}
use Rattle.meaning.specs.Words.{push, twos}
use Rattle.meaning.specs.Tables.{drop_null}
use Rattle.meaning.specs.Layout.{offsets, blocks, cover_layout}
use Rattle.meaning.specs.Packed.{without, first_of_each, together, offset_in, BlockKind, set, coverage, class_table, rank, HeaderWord, number, offset, sets_header, covers_header, cells_header, cover_header, blocks_of, packed_blocks, packed_start, packed_word, packed}
use Rattle.laws.specs.Stands.{twos_length}
use Rattle.laws.specs.Repeats.{same_list}
use Rattle.laws.specs.Headers.{blocks_of_append}
use Rattle.laws.specs.PlainReading.{other_kind, no_blocks, past_other, past_numbers, sets_long}

-- the offset of a block that there may be, among others that stand from p on
unfoldable pub shared_offset : ℕ → List (List ℕ) → Option (List ℕ) → ℕ
shared_offset p ds None = 0
shared_offset p ds (Some b) = offset_in p ds b

-- the offsets of blocks of one kind, and those of them that are written, from p on
unfoldable pub shared_offsets : ℕ → List (Option (List ℕ)) → List ℕ
shared_offsets p bs = map (shared_offset p (first_of_each (drop_null bs))) bs

unfoldable pub shared_blocks : List (Option (List ℕ)) → List ℕ
shared_blocks bs = together (first_of_each (drop_null bs))

own_kind : (k : BlockKind) (bs : List (Option (List ℕ))) → blocks_of k (map (offset k) bs) ≡ drop_null bs
unfolding blocks_of push drop_null
own_kind k [] = refl
own_kind k (None ∷ bs) = rw (eq-eqb (rank k) (rank k) refl) (own_kind k bs)
own_kind k (Some b ∷ bs) = rw (eq-eqb (rank k) (rank k) refl) (ap (λ (l : List (List ℕ)). b ∷ l) (own_kind k bs))

first_own : (k : BlockKind) (bs : List (Option (List ℕ))) (g : List HeaderWord) → blocks_of k g ≡ [] → blocks_of k (map (offset k) bs ++ g) ≡ drop_null bs
first_own k bs g e = blocks_of_append k (map (offset k) bs) g ∙ ap₂ ◌++◌ (own_kind k bs) e ∙ append-nil (drop_null bs)

-- one block: its offset and its words are those of the plain layout
one_offset : (p : ℕ) (b : Option (List ℕ)) → shared_offsets p (b ∷ []) ≡ offsets p (b ∷ [])
unfolding shared_offsets shared_offset drop_null first_of_each without offset_in offsets
one_offset p None = refl
one_offset p (Some b) = rw (same_list b) refl

one_block : (b : Option (List ℕ)) → shared_blocks (b ∷ []) ≡ blocks (b ∷ [])
unfolding shared_blocks drop_null first_of_each without together blocks
one_block None = refl
one_block (Some b) = refl

module _ (h : List HeaderWord) where
  number_words : (ns : List ℕ) → map (packed_word h) (map number ns) ≡ ns
  unfolding packed_word
  number_words [] = refl
  number_words (n ∷ ns) = ap (λ (l : List ℕ). n ∷ l) (number_words ns)

  offset_words : (k : BlockKind) (p : ℕ) (ds : List (List ℕ)) (bs : List (Option (List ℕ))) → packed_start h k ≡ p → packed_blocks h k ≡ ds → map (packed_word h) (map (offset k) bs) ≡ map (shared_offset p ds) bs
  unfolding packed_word shared_offset
  offset_words k p ds [] e f = refl
  offset_words k p ds (None ∷ bs) e f = ap (λ (l : List ℕ). 0 ∷ l) (offset_words k p ds bs e f)
  offset_words k p ds (Some b ∷ bs) e f = ap₂ ◌∷◌ (ap₂ (λ (q : ℕ) (l : List (List ℕ)). offset_in q l b) e f) (offset_words k p ds bs e f)

-- the reading, from what it is made of
packed_by : (h : List HeaderWord) {top sets covers tables : List ℕ} → map (packed_word h) h ≡ top → together (packed_blocks h set) ≡ sets → together (packed_blocks h coverage) ≡ covers → together (packed_blocks h class_table) ≡ tables
    → packed h ≡ top ++ (sets ++ (covers ++ tables))
unfolding packed
packed_by h e f g k = λ i. e i ++ (f i ++ (g i ++ k i))

-- a table by sets
module _ (format : ℕ) (cover : Option (List ℕ)) (tables : List (Option (List ℕ))) (more : List ℕ) (sets : List (Option (List ℕ))) where
  abbrev sh : List HeaderWord
  sh = sets_header format cover tables more sets

  abbrev last : List HeaderWord
  last = number (length sets) ∷ map (offset set) sets

  abbrev first : ℕ
  first = 6 + 2 * length tables + 2 * length more + 2 * length sets

  abbrev second : ℕ
  second = first + 2 * length (shared_blocks sets)

  abbrev third : ℕ
  third = second + 2 * length (blocks (cover ∷ []))

  sets_own : packed_blocks sh set ≡ first_of_each (drop_null sets)
  unfolding packed_blocks sets_header blocks_of rank
  sets_own = ap first_of_each (past_other set class_table tables (map number more ++ last) refl ∙ past_numbers set more last ∙ own_kind set sets)

  covers_own : packed_blocks sh coverage ≡ first_of_each (drop_null (cover ∷ []))
  unfolding packed_blocks sets_header blocks_of rank
  covers_own =
      let e : blocks_of coverage (map (offset class_table) tables ++ (map number more ++ last)) ≡ [] = past_other coverage class_table tables (map number more ++ last) refl ∙ past_numbers coverage more last ∙ other_kind coverage set sets refl in
      ap first_of_each (first_own coverage (cover ∷ []) (map (offset class_table) tables ++ (map number more ++ last)) e)

  tables_own : packed_blocks sh class_table ≡ first_of_each (drop_null tables)
  unfolding packed_blocks sets_header blocks_of rank
  tables_own = ap first_of_each (first_own class_table tables (map number more ++ last) (past_numbers class_table more last ∙ other_kind class_table set sets refl))

  pub packed_sets : packed sh ≡ format ∷ (offsets second (cover ∷ []) ++ (shared_offsets third tables ++ (more ++ (length sets ∷ (shared_offsets first sets ++ (shared_blocks sets ++ (blocks (cover ∷ []) ++ shared_blocks tables)))))))
  unfolding sets_header packed_word packed_start shared_offsets shared_blocks
  packed_sets =
      let f = packed_word sh in
      let ls = ap (λ (l : List (List ℕ)). length (together l)) sets_own in
      let cb : together (packed_blocks sh coverage) ≡ blocks (cover ∷ []) = ap together covers_own ∙ one_block cover in
      let lc = ap length cb in
      let long = sets_long format cover tables more sets in
      let so : map f (map (offset set) sets) ≡ shared_offsets first sets = offset_words sh set first (first_of_each (drop_null sets)) sets long sets_own in
      let co : map f (map (offset coverage) (cover ∷ [])) ≡ offsets second (cover ∷ []) = offset_words sh coverage second (first_of_each (drop_null (cover ∷ []))) (cover ∷ []) (omega (arith, long, ls)) covers_own ∙ one_offset second cover in
      let to : map f (map (offset class_table) tables) ≡ shared_offsets third tables = offset_words sh class_table third (first_of_each (drop_null tables)) tables (omega (arith, long, ls, lc)) tables_own in
      let rest : map f (map (offset class_table) tables ++ (map number more ++ last)) ≡ shared_offsets third tables ++ (more ++ (length sets ∷ shared_offsets first sets)) =
      map-append f (map (offset class_table) tables) (map number more ++ last) ∙ ap₂ ◌++◌ to (map-append f (map number more) last ∙ ap₂ (λ (x y : List ℕ). x ++ (length sets ∷ y)) (number_words sh more) so) in
      packed_by sh (ap₂ (λ (x y : List ℕ). format ∷ (x ++ y)) co rest) (ap together sets_own) cb (ap together tables_own)
      ∙ regroup (offsets second (cover ∷ [])) (shared_offsets third tables) (shared_offsets first sets) (shared_blocks sets ++ (blocks (cover ∷ []) ++ shared_blocks tables))
    where
      regroup : (co to so bs : List ℕ) → (format ∷ (co ++ (to ++ (more ++ (length sets ∷ so))))) ++ bs ≡ format ∷ (co ++ (to ++ (more ++ (length sets ∷ (so ++ bs)))))
      regroup co to so bs = simp append_assoc

-- format 3, plain and chained; a coverage is shared by all three arrays
module _ (b i a : List (Option (List ℕ))) (rs : List (ℕ × ℕ)) where
  abbrev ph : List HeaderWord
  ph = covers_header false b i a rs

  pub packed_covers : packed ph ≡ 3 ∷ length i ∷ length rs ∷ (shared_offsets (6 + 2 * length i + 4 * length rs) i ++ (twos rs ++ shared_blocks i))
  unfolding covers_header packed_word packed_start packed_blocks shared_offsets shared_blocks blocks_of together first_of_each rank
  packed_covers =
      let f = packed_word ph in
      let first = 6 + 2 * length i + 4 * length rs in
      let other : (k : BlockKind) → eqb (rank k) (rank coverage) ≡ false → packed_blocks ph k ≡ [] = λ k e. ap first_of_each (past_other k coverage i (map number (twos rs)) e ∙ no_blocks k (twos rs)) in
      let own : packed_blocks ph coverage ≡ first_of_each (drop_null i) = ap first_of_each (first_own coverage i (map number (twos rs)) (no_blocks coverage (twos rs))) in
      let long : 2 * length ph ≡ first = omega (arith, length-append (map (offset coverage) i) (map number (twos rs)), length-map i (offset coverage), length-map (twos rs) number, twos_length rs) in
      let ls = ap (λ (l : List (List ℕ)). length (together l)) (other set refl) in
      let o : map f (map (offset coverage) i ++ map number (twos rs)) ≡ shared_offsets first i ++ twos rs =
      map-append f (map (offset coverage) i) (map number (twos rs)) ∙ ap₂ ◌++◌ (offset_words ph coverage first (first_of_each (drop_null i)) i (omega (arith, long, ls)) own) (number_words ph (twos rs)) in
      packed_by ph (ap (λ (l : List ℕ). 3 ∷ length i ∷ length rs ∷ l) o) (ap together (other set refl)) (ap together own) (ap together (other class_table refl))
      ∙ ap (λ (l : List ℕ). 3 ∷ length i ∷ length rs ∷ l) (append_assoc (shared_offsets first i) (twos rs) (shared_blocks i ++ []) ∙ ap (λ (l : List ℕ). shared_offsets first i ++ (twos rs ++ l)) (append-nil (shared_blocks i)))

  abbrev ch : List HeaderWord
  ch = covers_header true b i a rs

  -- the coverages that are written
  abbrev pub all_covers : List (List ℕ)
  all_covers = first_of_each (drop_null b ++ (drop_null i ++ drop_null a))

  abbrev pub covers_at : ℕ
  covers_at = 10 + 2 * length b + 2 * length i + 2 * length a + 4 * length rs

  pub packed_chained_covers : packed ch ≡ 3 ∷ length b ∷ (map (shared_offset covers_at all_covers) b ++ (length i ∷ (map (shared_offset covers_at all_covers) i ++ (length a ∷ (map (shared_offset covers_at all_covers) a ++ (length rs ∷ (twos rs ++ together all_covers)))))))
  unfolding covers_header packed_word packed_start packed_blocks blocks_of together first_of_each rank
  packed_chained_covers =
      let f = packed_word ch in
      let oc = map (offset coverage) in
      let g4 = number (length rs) ∷ map number (twos rs) in
      let g3 = number (length a) ∷ (oc a ++ g4) in
      let g2 = number (length i) ∷ (oc i ++ g3) in
      let other : (k : BlockKind) → eqb (rank k) (rank coverage) ≡ false → packed_blocks ch k ≡ [] = λ k e. ap first_of_each (past_other k coverage b g2 e ∙ past_other k coverage i g3 e ∙ past_other k coverage a g4 e ∙ no_blocks k (twos rs)) in
      let own : packed_blocks ch coverage ≡ all_covers =
      ap first_of_each (blocks_of_append coverage (oc b) g2 ∙ ap₂ ◌++◌ (own_kind coverage b) (blocks_of_append coverage (oc i) g3 ∙ ap₂ ◌++◌ (own_kind coverage i) (first_own coverage a g4 (no_blocks coverage (twos rs))))) in
      let long : 2 * length ch ≡ covers_at =
      omega (arith, length-append (oc b) g2, length-append (oc i) g3, length-append (oc a) g4, length-map b (offset coverage), length-map i (offset coverage), length-map a (offset coverage), length-map (twos rs) number, twos_length rs) in
      let ls = ap (λ (l : List (List ℕ)). length (together l)) (other set refl) in
      let at : (bs : List (Option (List ℕ))) → map f (oc bs) ≡ map (shared_offset covers_at all_covers) bs = λ bs. offset_words ch coverage covers_at all_covers bs (omega (arith, long, ls)) own in
      let ra : map f (oc a ++ g4) ≡ map (shared_offset covers_at all_covers) a ++ (length rs ∷ twos rs) = map-append f (oc a) g4 ∙ ap₂ (λ (x y : List ℕ). x ++ (length rs ∷ y)) (at a) (number_words ch (twos rs)) in
      let ri : map f (oc i ++ g3) ≡ map (shared_offset covers_at all_covers) i ++ (length a ∷ (map (shared_offset covers_at all_covers) a ++ (length rs ∷ twos rs))) = map-append f (oc i) g3 ∙ ap₂ (λ (x y : List ℕ). x ++ (length a ∷ y)) (at i) ra in
      let rb : map f (oc b ++ g2) ≡ map (shared_offset covers_at all_covers) b ++ (length i ∷ (map (shared_offset covers_at all_covers) i ++ (length a ∷ (map (shared_offset covers_at all_covers) a ++ (length rs ∷ twos rs))))) =
      map-append f (oc b) g2 ∙ ap₂ (λ (x y : List ℕ). x ++ (length i ∷ y)) (at b) ri in
      packed_by ch (ap (λ (l : List ℕ). 3 ∷ length b ∷ l) rb) (ap together (other set refl)) (ap together own) (ap together (other class_table refl))
      ∙ regroup (map (shared_offset covers_at all_covers) b) (map (shared_offset covers_at all_covers) i) (map (shared_offset covers_at all_covers) a) (together all_covers)
    where
      regroup : (x y z w : List ℕ) → (3 ∷ length b ∷ (x ++ (length i ∷ (y ++ (length a ∷ (z ++ (length rs ∷ twos rs))))))) ++ (w ++ []) ≡ 3 ∷ length b ∷ (x ++ (length i ∷ (y ++ (length a ∷ (z ++ (length rs ∷ (twos rs ++ w)))))))
      regroup x y z w = simp (append_assoc, append-nil)

-- pairs by class
module _ (cover : Option (List ℕ)) (formats : List ℕ) (tables : List (Option (List ℕ))) (more : List ℕ) where
  abbrev kh : List HeaderWord
  kh = cells_header cover formats tables more

  abbrev cover_at : ℕ
  cover_at = 4 + 2 * length formats + 2 * length tables + 2 * length more

  abbrev tables_at : ℕ
  tables_at = cover_at + 2 * length (blocks (cover ∷ []))

  pub packed_cells : packed kh ≡ 2 ∷ (offsets cover_at (cover ∷ []) ++ (formats ++ (shared_offsets tables_at tables ++ (more ++ (blocks (cover ∷ []) ++ shared_blocks tables)))))
  unfolding cells_header packed_word packed_start packed_blocks shared_offsets shared_blocks blocks_of together first_of_each rank
  packed_cells =
      let f = packed_word kh in
      let classed = map (offset class_table) tables in
      let g2 = classed ++ map number more in
      let g1 = map number formats ++ g2 in
      let no-sets : packed_blocks kh set ≡ [] = ap first_of_each (past_numbers set formats g2 ∙ past_other set class_table tables (map number more) refl ∙ no_blocks set more) in
      let covers : packed_blocks kh coverage ≡ first_of_each (drop_null (cover ∷ [])) =
      ap first_of_each (first_own coverage (cover ∷ []) g1 (past_numbers coverage formats g2 ∙ past_other coverage class_table tables (map number more) refl ∙ no_blocks coverage more)) in
      let own : packed_blocks kh class_table ≡ first_of_each (drop_null tables) = ap first_of_each (past_numbers class_table formats g2 ∙ first_own class_table tables (map number more) (no_blocks class_table more)) in
      let long : 2 * length kh ≡ cover_at = omega (arith, length-append (map number formats) g2, length-append classed (map number more), length-map formats number, length-map tables (offset class_table), length-map more number) in
      let ls = ap (λ (l : List (List ℕ)). length (together l)) no-sets in
      let cb : together (packed_blocks kh coverage) ≡ blocks (cover ∷ []) = ap together covers ∙ one_block cover in
      let lc = ap length cb in
      let co : map f (map (offset coverage) (cover ∷ [])) ≡ offsets cover_at (cover ∷ []) = offset_words kh coverage cover_at (first_of_each (drop_null (cover ∷ []))) (cover ∷ []) (omega (arith, long, ls)) covers ∙ one_offset cover_at cover in
      let to : map f g2 ≡ shared_offsets tables_at tables ++ more =
      map-append f classed (map number more) ∙ ap₂ ◌++◌ (offset_words kh class_table tables_at (first_of_each (drop_null tables)) tables (omega (arith, long, ls, lc)) own) (number_words kh more) in
      let fo : map f g1 ≡ formats ++ (shared_offsets tables_at tables ++ more) = map-append f (map number formats) g2 ∙ ap₂ ◌++◌ (number_words kh formats) to in
      packed_by kh (ap₂ (λ (x y : List ℕ). 2 ∷ (x ++ y)) co fo) (ap together no-sets) cb (ap together own)
      ∙ regroup (offsets cover_at (cover ∷ [])) (shared_offsets tables_at tables) (blocks (cover ∷ []) ++ shared_blocks tables)
    where
      regroup : (x y w : List ℕ) → (2 ∷ (x ++ (formats ++ (y ++ more)))) ++ w ≡ 2 ∷ (x ++ (formats ++ (y ++ (more ++ w))))
      regroup x y w = simp append_assoc

-- a table with no sets has one block: both layouts are the same
module _ (format : ℕ) (cover : Option (List ℕ)) (more : List ℕ) where
  abbrev oh : List HeaderWord
  oh = cover_header format cover more

  pub packed_cover : packed oh ≡ cover_layout format (cover ∷ []) more
  unfolding cover_layout cover_header packed_word packed_start packed_blocks blocks_of together first_of_each rank shared_offsets shared_blocks
  packed_cover =
      let f = packed_word oh in
      let first = 4 + 2 * length more in
      let other : (k : BlockKind) → eqb (rank k) (rank coverage) ≡ false → packed_blocks oh k ≡ [] = λ k e. ap first_of_each (past_other k coverage (cover ∷ []) (map number more) e ∙ no_blocks k more) in
      let own : packed_blocks oh coverage ≡ first_of_each (drop_null (cover ∷ [])) = ap first_of_each (first_own coverage (cover ∷ []) (map number more) (no_blocks coverage more)) in
      let long : 2 * length oh ≡ first = omega (arith, length-map more number) in
      let ls = ap (λ (l : List (List ℕ)). length (together l)) (other set refl) in
      let o : map f (map (offset coverage) (cover ∷ []) ++ map number more) ≡ offsets first (cover ∷ []) ++ more =
      map-append f (map (offset coverage) (cover ∷ [])) (map number more)
      ∙ ap₂ ◌++◌ (offset_words oh coverage first (first_of_each (drop_null (cover ∷ []))) (cover ∷ []) (omega (arith, long, ls)) own ∙ one_offset first cover) (number_words oh more) in
      packed_by oh (ap (λ (l : List ℕ). format ∷ l) o) (ap together (other set refl)) (ap together own ∙ one_block cover) (ap together (other class_table refl))
      ∙ ap (λ (l : List ℕ). format ∷ l) (append_assoc (offsets first (cover ∷ [])) more (blocks (cover ∷ []) ++ []) ∙ ap (λ (l : List ℕ). offsets first (cover ∷ []) ++ (more ++ l)) (append-nil (blocks (cover ∷ []))))
