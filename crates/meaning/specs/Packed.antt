-- The packed layout: a block that is equal in bytes and kind to an earlier one is not written again, and the header points to the earlier one. Otherwise the order is the plain one.
-- (`unfolding packed_words` opens all that it is made of, so that it computes; the definitions before it open nothing but themselves.)
use Rattle.std.specs.Prelude.{ℕ, ◌+◌, ◌*◌, Bool, true, false, cond, List, [], ◌∷◌, ◌++◌, map, length, eqb, Option, None, Some}
use Rattle.meaning.specs.Words.{eq_list, twos, push}
use Rattle.meaning.specs.Tables.{Table}
use Rattle.meaning.specs.Layout.{block, rule_words, ligature_words, set_words, pair_set_words, coverage_words, class_words, row_words, layout}

-- Blocks of one kind. They are compared word by word, which is byte by byte: a layout with a word that two bytes cannot hold is refused as 9.

-- the blocks that are not equal to b
unfoldable pub without : List ℕ → List (List ℕ) → List (List ℕ)
without b [] = []
without b (d ∷ r) = cond (eq_list b d) (without b r) (d ∷ without b r)

-- the blocks that are not equal to an earlier one
unfoldable pub first_of_each : List (List ℕ) → List (List ℕ)
first_of_each [] = []
first_of_each (b ∷ r) = b ∷ without b (first_of_each r)

-- blocks one after the other
unfoldable pub together : List (List ℕ) → List ℕ
together [] = []
together (b ∷ r) = b ++ together r

-- the offset of b among blocks that stand one after the other from p on: that of the one that is equal. A header's blocks are all among them, so the first line answers none of its words
unfoldable pub offset_in : ℕ → List (List ℕ) → List ℕ → ℕ
offset_in p [] b = 0
offset_in p (d ∷ r) b = cond (eq_list d b) p (offset_in (p + 2 * length d) r b)

-- Headers.

-- a kind of block: a set with its rules (or ligatures, or pairs), a coverage, a class table
pub data BlockKind : Type 0 where
  set : BlockKind
  coverage : BlockKind
  class_table : BlockKind

-- the place of a kind in the order in which they stand; by it two kinds are told apart
unfoldable pub rank : BlockKind → ℕ
rank set = 1
rank coverage = 2
rank class_table = 3

-- a word of a table's header: a number, or the offset of a block of a kind, null where there is no block
pub data HeaderWord : Type 0 where
  number : ℕ → HeaderWord
  offset : BlockKind → Option (List ℕ) → HeaderWord

-- a table by sets: the format, the offsets of coverage and class tables, further words, the count and the offsets of the sets
unfoldable pub sets_header : ℕ → Option (List ℕ) → List (Option (List ℕ)) → List ℕ → List (Option (List ℕ)) → List HeaderWord
sets_header format cover tables more sets =
    number format ∷ offset coverage cover ∷ (map (offset class_table) tables ++ (map number more ++ (number (length sets) ∷ map (offset set) sets)))

-- format 3: the format, the arrays of coverages, the records, counts where the format has them
unfoldable pub covers_header : Bool → List (Option (List ℕ)) → List (Option (List ℕ)) → List (Option (List ℕ)) → List (ℕ × ℕ) → List HeaderWord
covers_header false b i a rs = number 3 ∷ number (length i) ∷ number (length rs) ∷ (map (offset coverage) i ++ map number (twos rs))
covers_header true b i a rs =
    number 3 ∷ number (length b) ∷ (map (offset coverage) b ++ (number (length i) ∷ (map (offset coverage) i ++ (number (length a) ∷ (map (offset coverage) a ++ (number (length rs) ∷ map number (twos rs)))))))

-- pairs by class: the format, the coverage's offset, the value formats, the class tables' offsets, their counts, the cells row by row
unfoldable pub cells_header : Option (List ℕ) → List ℕ → List (Option (List ℕ)) → List ℕ → List HeaderWord
cells_header cover formats tables more = number 2 ∷ offset coverage cover ∷ (map number formats ++ (map (offset class_table) tables ++ map number more))

-- a table with no sets: the format, the coverage's offset, further words
unfoldable pub cover_header : ℕ → Option (List ℕ) → List ℕ → List HeaderWord
cover_header format cover more = number format ∷ offset coverage cover ∷ map number more

-- the header of a table
unfoldable pub header : Table → List HeaderWord
header (Table.by_glyph chained cover sets) = sets_header 1 (block coverage_words cover) [] [] (map (block (set_words (rule_words chained))) sets)
header (Table.by_class chained cover b i a sets) =
    sets_header 2 (block coverage_words cover) (map (block class_words) (cond chained (b ∷ i ∷ a ∷ []) (i ∷ []))) [] (map (block (set_words (rule_words chained))) sets)
header (Table.by_cover chained b i a rs) = covers_header chained (map (block coverage_words) b) (map (block coverage_words) i) (map (block coverage_words) a) rs
header (Table.ligatures cover sets) = sets_header 1 (block coverage_words cover) [] [] (map (block (set_words ligature_words)) sets)
header (Table.pairs_of cover f1 f2 sets) = sets_header 1 (block coverage_words cover) [] (f1 ∷ f2 ∷ []) (map (block pair_set_words) sets)
header (Table.class_pairs cover first second f1 f2 n rows) =
    cells_header (block coverage_words cover) (f1 ∷ f2 ∷ []) (block class_words first ∷ block class_words second ∷ []) (length rows ∷ n ∷ row_words rows)
header (Table.single_delta cover d) = cover_header 1 (block coverage_words cover) (d ∷ [])
header (Table.single_list cover subs) = cover_header 2 (block coverage_words cover) (length subs ∷ subs)

-- The packed reading of a header.

-- the blocks of a kind that a header refers to, in its order
unfoldable pub blocks_of : BlockKind → List HeaderWord → List (List ℕ)
blocks_of k [] = []
blocks_of k (number n ∷ h) = blocks_of k h
blocks_of k (offset j b ∷ h) = cond (eqb (rank k) (rank j)) (push b (blocks_of k h)) (blocks_of k h)

-- those of them that are written, none twice
unfoldable pub packed_blocks : List HeaderWord → BlockKind → List (List ℕ)
packed_blocks h k = first_of_each (blocks_of k h)

-- where they start: after the header the sets, then the coverages, then the class tables
unfoldable pub packed_start : List HeaderWord → BlockKind → ℕ
packed_start h set = 2 * length h
packed_start h coverage = 2 * length h + 2 * length (together (packed_blocks h set))
packed_start h class_table = 2 * length h + 2 * length (together (packed_blocks h set)) + 2 * length (together (packed_blocks h coverage))

-- a word of the header as it is written
unfoldable pub packed_word : List HeaderWord → HeaderWord → ℕ
packed_word h (number n) = n
packed_word h (offset k None) = 0
packed_word h (offset k (Some b)) = offset_in (packed_start h k) (packed_blocks h k) b

-- the header, then its blocks
unfoldable pub packed : List HeaderWord → List ℕ
packed h = map (packed_word h) h ++ (together (packed_blocks h set) ++ (together (packed_blocks h coverage) ++ together (packed_blocks h class_table)))

-- the words of a table in the packed layout
unfoldable pub packed_words : Table → List ℕ
unfolding layout push eq_list sets_header covers_header cells_header cover_header header without first_of_each together offset_in rank blocks_of packed_blocks packed_start packed_word packed
packed_words t = packed (header t)
