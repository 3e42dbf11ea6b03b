-- A book of the blocks that are written, and what is found by it.
use Rattle.std.specs.Prelude.{ℕ, ◌+◌, ◌-◌, ◌*◌, ◌/◌, ◌%◌, ◌≤◌, ◌<◌, ◌≡◌, Bool, true, false, cond, ◌&&◌, ◌⊎◌, List, [], ◌∷◌, ◌++◌, length, get_or, set, eqb, ltb, Option, Some}
use Rattle.meaning.specs.Words.{words, eq_list}
use Rattle.meaning.specs.Tables.{drop_null}
use Rattle.meaning.specs.Packed.{first_of_each, together}
use Rattle.laws.specs.Stands.{Stands}
use Rattle.laws.specs.Repeats.{has}
use Rattle.known_blocks.specs.Shared.{blocks_in, known, place_in}
use Rattle.known_blocks.specs.declared.Spot.{Spot}

-- the cells of a book that is enough for blocks of two words or more of which none starts more than 65,535 bytes behind the first: these are 16,384 at most, with a cell before them and one behind
abbrev pub book_cells : ℕ
book_cells = 16386

-- a book of more than one cell is for blocks that are packed
abbrev pub packs : List ℕ → Bool
packs book = ltb 1 (length book)

-- the blocks that are in the book: those that are written, if none is written twice
abbrev pub in_book : Bool → List (Option (List ℕ)) → List (List ℕ)
in_book false bs = []
in_book true bs = first_of_each (drop_null bs)

-- the blocks `ds`, which stand behind `before` words, have the cells from i on: how many words stand before each, and a place of which it is what is left
abbrev pub Listed : (ℕ → Option (List ℕ)) → List ℕ → ℕ → ℕ → List (List ℕ) → Type 0
Listed left book i before [] = Unit {0}
Listed left book i before (d ∷ ds) = (get_or book i 0 / 65536 ≡ before) × (left (get_or book i 0 % 65536) ≡ Some d) × Listed left book (i + 1) (before + length d) ds

-- how many words stand before the block b
unfoldable pub words_before : List (List ℕ) → List ℕ → ℕ
words_before [] b = 0
words_before (d ∷ ds) b = cond (eq_list d b) 0 (length d + words_before ds b)

-- a cell leads to a block: what is left of its place is one of the blocks, which stands behind as many words as the cell says
pub record Leads (left : ℕ → Option (List ℕ)) (ds : List (List ℕ)) (c : ℕ) : Type 0 where
  pub words : List ℕ
  pub is : left (c % 65536) ≡ Some words
  pub among : has words ds ≡ true
  pub before : c / 65536 ≡ words_before ds words

-- how many further places there are
abbrev pub further_in : List ℕ → ℕ
further_in book = get_or book (length book - 1) 0

-- the blocks `ds` are in the book, `left` being what is left of the source at a place
pub record Booked (left : ℕ → Option (List ℕ)) (ds : List (List ℕ)) (book : List ℕ) : Type 0 where
  pub count : get_or book 0 0 ≡ length ds
  pub few : length ds < 65536
  pub listed : Listed left book 1 0 ds
  pub further : (i : ℕ) → i < further_in book → 3 + length ds + i ≤ length book → Leads left ds (get_or book (length book - 2 - i) 0)

-- there is none in it
pub record Begun (before after : List ℕ) : Type 0 where
  pub same : length after ≡ length before
  pub empty : (left : ℕ → Option (List ℕ)) → Booked left (in_book (packs after) []) after

-- one more is in it, if it is not too far behind the first
pub record Noted (offset source : ℕ) (before after : List ℕ) : Type 0 where
  pub is : offset ≤ 65535 → after ≡ set (set before (1 + get_or before 0 0) (offset / 2 * 65536 + source)) 0 (get_or before 0 0 + 1)

-- one further place more, if there was room for it; the cells of the blocks are as before
pub record NotedPlace (offset source : ℕ) (before after : List ℕ) : Type 0 where
  pub same : length after ≡ length before
  pub kept : (j : ℕ) → j < 1 + get_or before 0 0 → get_or after j 0 ≡ get_or before j 0
  pub cells : (i : ℕ) → i < further_in after → 3 + get_or before 0 0 + i ≤ length before
      → (get_or after (length before - 2 - i) 0 ≡ offset / 2 * 65536 + source) ⊎ ((i < further_in before) × (get_or after (length before - 2 - i) 0 ≡ get_or before (length before - 2 - i) 0))

-- where the i-th block starts; p, where all of them end, if there is none
unfoldable pub start_of : List ℕ → ℕ → ℕ → ℕ → ℕ
start_of book first p i = cond (ltb i (get_or book 0 0)) (first + 2 * (get_or book (1 + i) 0 / 65536)) p

-- whether the i-th block has n words, and those at p
unfoldable pub alike : List ℕ → List ℕ → ℕ → ℕ → ℕ → ℕ → Bool
alike area book first p n i = eqb (start_of book first p (i + 1)) (start_of book first p i + 2 * n) && eq_list (words area (start_of book first p i) n) (words area p n)

-- the place of the first of blocks from `at` on that is equal to b; p if none is
unfoldable pub where_in : ℕ → ℕ → List (List ℕ) → List ℕ → ℕ
where_in p at [] b = p
where_in p at (d ∷ ds) b = cond (eq_list d b) at (where_in p (at + 2 * length d) ds b)

-- r is that place, for the n words at p, and not before the first block
pub record Found (area book : List ℕ) (first p n r : ℕ) : Type 0 where
  pub above : first ≤ r
  pub is : {left : ℕ → Option (List ℕ)} {ds : List (List ℕ)} → Booked left ds book → Stands area first (together ds) → p ≡ first + 2 * length (together ds) → r ≡ where_in p first ds (words area p n)

-- a new block stands at p, up to q, unless that is too far behind the first
pub record Fresh (first p q : ℕ) (r : Spot) : Type 0 where
  pub end : r.end ≡ q
  pub far : r.at ≡ 0 → 0 < first → first + 65535 < p
  pub near : (r.at ≡ 0 → ⊥) → (r.at ≡ p) × (p ≤ first + 65535)

-- What was left of this place of the source is in the book, and stands at r, if r is not 0: it is not written again.
pub record Repeated (left : ℕ → Option (List ℕ)) (bs : List (Option (List ℕ))) (book : List ℕ) (first source r : ℕ) : Type 0 where
  pub words : List ℕ
  pub is : left source ≡ Some words
  pub at : r ≡ place_in (packs book) first bs words
  pub again : known (packs book) bs words ≡ true
  pub booked : Booked left (in_book (packs book) (bs ++ (Some words ∷ []))) book

pub record Again (book : List ℕ) (first source r : ℕ) : Type 0 where
  pub found : {left : ℕ → Option (List ℕ)} (bs : List (Option (List ℕ))) → Booked left (in_book (packs book) bs) book → (r ≡ 0 → ⊥) → Repeated left bs book first source r

-- what is asked where the block b was written behind the blocks `bs`, from this place of the source: if they are packed then their words fit, and there is room in the book for one more
pub record Behind (left : ℕ → Option (List ℕ)) (bs : List (Option (List ℕ))) (b area : List ℕ) (first p q source : ℕ) (book : List ℕ) : Type 0 where
  pub booked : Booked left (in_book (packs book) bs) book
  pub place : p ≡ first + 2 * length (blocks_in (packs book) bs)
  pub end : q ≡ p + 2 * length b
  pub some_word : 0 < length b
  pub laid : packs book ≡ true → Stands area first (blocks_in true bs)
  pub last : packs book ≡ true → Stands area p b
  pub from : left source ≡ Some b
  pub room : packs book ≡ true → p ≤ first + 65535 → 3 + length (in_book true bs) ≤ length book
  pub few : packs book ≡ true → p ≤ first + 65535 → length (in_book true bs) < 65535

-- the block stands at r's place, or it is new and that is too far behind the first
pub record Settled (area : List ℕ) (first p q source : ℕ) (before after : List ℕ) (r : Spot) : Type 0 where
  pub same : length after ≡ length before
  pub far : r.at ≡ 0 → 0 < first → first + 65535 < p
  pub near : {left : ℕ → Option (List ℕ)} (bs : List (Option (List ℕ))) (b : List ℕ) → Behind left bs b area first p q source before → (r.at ≡ 0 → ⊥)
      → (r.at ≡ place_in (packs after) first bs b) × (r.end ≡ first + 2 * length (blocks_in (packs after) (bs ++ (Some b ∷ [])))) × Booked left (in_book (packs after) (bs ++ (Some b ∷ []))) after
  pub new : {left : ℕ → Option (List ℕ)} (bs : List (Option (List ℕ))) (b : List ℕ) → Behind left bs b area first p q source before → first + 65535 < p → (r.at ≡ 0 → ⊥) → known (packs after) bs b ≡ true
  pub unknown : {left : ℕ → Option (List ℕ)} (bs : List (Option (List ℕ))) (b : List ℕ) → Behind left bs b area first p q source before → r.at ≡ 0 → 0 < first → known (packs after) bs b ≡ false
