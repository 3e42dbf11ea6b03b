-- A context by coverages: what is asked of it, and the words of what is left of it.
use Rattle.std.specs.Prelude.{ℕ, ◌+◌, ◌*◌, ◌≤◌, ◌<◌, ◌≡◌, Bool, true, false, ◌&&◌, List, [], ◌∷◌, ◌++◌, length, Option, None, Some, unwrap_or}
use Rattle.meaning.specs.Words.{bind, twos}
use Rattle.meaning.specs.Maps.{glyph_entries}
use Rattle.meaning.specs.Cut.{cut_records}
use Rattle.meaning.specs.Layout.{words_fit}
use Rattle.meaning.specs.Subset.{limit}
use Rattle.laws.specs.SoundGood.{Bytes}
use Rattle.room.specs.Laid.{enough_area}
use Rattle.cell_maps.specs.Cells.{Inside}
use Rattle.cell_maps.specs.declared.Map.{Map}
use Rattle.area.specs.Extends.{Extends}
use Rattle.numbers.specs.Entries.{entries_in}
use Rattle.known_blocks.specs.Book.{book_cells, packs, in_book, Booked}
use Rattle.cover_parts.specs.Behind.{offsets_behind, blocks_behind}
use Rattle.cover_parts.specs.Rows.{row_left, Ready, Bounds}
use Rattle.cover_parts.specs.Parts.{records_at, IsContext}
use Rattle.cover_parts.specs.declared.CoverParts.{CoverParts}
use Rattle.cover_parts.specs.declared.Held.{Held}

-- where the coverages of format 3 begin: behind the header, with its counts, its offsets and its records
unfoldable pub covers_from : Bool → List (Option (List ℕ)) → List (Option (List ℕ)) → List (Option (List ℕ)) → List (ℕ × ℕ) → ℕ
covers_from false b i a rs = 6 + 2 * length i + 4 * length rs
covers_from true b i a rs = 10 + 2 * length b + 2 * length i + 2 * length a + 4 * length rs

-- the words of format 3 in either layout: a coverage is shared by all three arrays
unfoldable pub covers_words : Bool → Bool → List (Option (List ℕ)) → List (Option (List ℕ)) → List (Option (List ℕ)) → List (ℕ × ℕ) → List ℕ
covers_words packed false b i a rs = 3 ∷ length i ∷ length rs ∷ (offsets_behind packed (covers_from false b i a rs) [] i ++ (twos rs ++ blocks_behind packed [] i))
covers_words packed true b i a rs =
    let first = covers_from true b i a rs in
    3 ∷ length b ∷ (offsets_behind packed first [] b ++ (length i ∷ (offsets_behind packed first b i ++ (length a ∷ (offsets_behind packed first (b ++ i) a ++ (length rs ∷ (twos rs ++ (blocks_behind packed [] b ++ (blocks_behind packed b i ++ blocks_behind packed (b ++ i) a)))))))))

-- the words of what is left of the context; none if a coverage is null or left with no glyph
unfoldable pub context_left : Bool → Bool → List (ℕ × ℕ) → List (ℕ × ℕ) → List ℕ → CoverParts → Option (List ℕ)
context_left packed chained g l s r =
    bind (row_left g s r.back) (λ b. bind (row_left g s r.input) (λ i. bind (row_left g s r.ahead) (λ a.
    Some (covers_words packed chained b i a (cut_records l (records_at s r.records))))))

-- the offsets of blocks that are laid as format 3 lays them fit words
unfoldable pub offsets_fit : Bool → Bool → List (Option (List ℕ)) → List (Option (List ℕ)) → List (Option (List ℕ)) → List (ℕ × ℕ) → Bool
offsets_fit packed false b i a rs = words_fit (offsets_behind packed (covers_from false b i a rs) [] i)
offsets_fit packed true b i a rs =
    let first = covers_from true b i a rs in
    words_fit (offsets_behind packed first [] b) && (words_fit (offsets_behind packed first b i) && words_fit (offsets_behind packed first (b ++ i) a))

-- those of what is left of the context do; so it is said too where nothing is left
unfoldable pub context_fit : Bool → Bool → List (ℕ × ℕ) → List (ℕ × ℕ) → List ℕ → CoverParts → Bool
context_fit packed chained g l s r =
    unwrap_or
    (bind (row_left g s r.back) (λ b. bind (row_left g s r.input) (λ i. bind (row_left g s r.ahead) (λ a.
    Some (offsets_fit packed chained b i a (cut_records l (records_at s r.records)))))))
    true

-- What is left stands from the area's start on, and its offsets fit words, as `fit` says; r is the place after it, or past the area: then the area has not enough bytes, or not all its offsets fit. r is 0 if nothing is left.
pub record Settles (left : Option (List ℕ)) (fit : Bool) (before after : List ℕ) (r : ℕ) : Type 0 where
  pub gone : left ≡ None → r ≡ 0
  pub kept : {ws : List ℕ} → left ≡ Some ws → 0 < r
  pub fits : {ws : List ℕ} → left ≡ Some ws → r ≤ length before → Extends before 0 ws after r
  pub near : {ws : List ℕ} → left ≡ Some ws → r ≤ length before → fit ≡ true
  pub full : {ws : List ℕ} → left ≡ Some ws → length before < r → fit ≡ true → length before < enough_area

-- n is a bound for the glyphs that can be noted of any coverage of the context, and at most 65,536
pub record MostNotes (form : ℕ) (glyphs s : List ℕ) (r : CoverParts) (n : ℕ) : Type 0 where
  pub back : Bounds form glyphs s r.back n
  pub input : Bounds form glyphs s r.input n
  pub ahead : Bounds form glyphs s r.ahead n
  pub small : n ≤ 65536

-- what the functions that write a context ask: it is not over the limit, its parts are sound, the cells of l lie inside, h holds the glyph map, behind its cells there is one cell more than glyphs that can be noted, and the area has room for the header with all records
pub record Asks (chained : Bool) (s : List ℕ) (r : CoverParts) (glyphs : List ℕ) (h : Held) (l : Map) (t area : List ℕ) : Type 0 where
  pub bytes : Bytes s
  pub source : length s ≤ limit
  pub parts : IsContext chained s r
  pub ready : Ready glyphs h t
  pub most : ℕ
  pub notes : MostNotes h.form glyphs s r most
  pub room : h.map.at + h.map.mask + 1 + most < length t
  pub lookups : Inside t l
  pub header : r.records.at + 4 * r.records.len ≤ length area
  pub short : length area ≤ 0x1_0000_0000
  pub cells : length t ≤ 0x1_0000_0000

-- the book has no coverage yet; if it is for packed ones, then it has room for as many as can be kept
pub record Begins (book : List ℕ) : Type 0 where
  pub empty : (left : ℕ → Option (List ℕ)) → Booked left (in_book (packs book) []) book
  pub room : packs book ≡ true → book_cells ≤ length book

-- the context is written, under the lookup map that the cells of l hold
pub record Writes (packed chained : Bool) (s : List ℕ) (r : CoverParts) (glyphs : List ℕ) (h : Held) (l : Map) (t before after : List ℕ) (end : ℕ) : Type 0 where
  pub same : length after ≡ length before
  pub settled : Settles (context_left packed chained (glyph_entries h.form glyphs) (entries_in t l) s r) (context_fit packed chained (glyph_entries h.form glyphs) (entries_in t l) s r) before after end
