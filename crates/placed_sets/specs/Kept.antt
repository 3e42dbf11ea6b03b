-- Sets by coverage index: which are kept, and what stands in the area where they are written.
use Rattle.std.specs.Prelude.{ℕ, ◌+◌, ◌*◌, ◌≤◌, ◌<◌, ◌≡◌, Bool, true, cond, List, [], ◌∷◌, ◌++◌, map, length, get_or, eqb, Option, None, Some}
use Rattle.meaning.specs.Words.{word, flat, bind, push}
use Rattle.meaning.specs.Cut.{glyphs_of}
use Rattle.meaning.specs.Subset.{limit}
use Rattle.laws.specs.Stands.{All, Word}
use Rattle.room.specs.Laid.{enough_area}
use Rattle.area.specs.Extends.{Extends}
use Rattle.area.specs.Part.{part, news, notes, old_at}
use Rattle.handing.specs.Closed.{members}
use Rattle.known_blocks.specs.Shared.{offsets_in, blocks_in}
use Rattle.known_blocks.specs.Book.{book_cells, packs, in_book, Booked}
use Rattle.placed_sets.specs.Sorts.{header_size, set_fault_of, left_in, AllBefore}
use Rattle.placed_sets.specs.declared.Sort.{Sort}
use Rattle.kept_rules.specs.Left.{AllInside}
use Rattle.kept_rules.specs.declared.Maps.{Maps}
use Rattle.placed_sets.specs.declared.Sets.{Sets}
use Rattle.placed_sets.specs.declared.Turn.{Turn}

module _ (left : ℕ → Option (List ℕ)) (s : List ℕ) (slots : ℕ) where
  -- what is left of the set that the i-th offset reaches; nothing where it is null
  unfoldable pub set_at : ℕ → Option (List ℕ)
  set_at i = cond (eqb (word s (slots + 2 * i)) 0) None (left (word s (slots + 2 * i)))

  -- of notes, a coverage index and a new glyph each, those whose set leaves something: the glyph, and the words of what is left
  unfoldable pub kept_of : List (ℕ × ℕ) → List (ℕ × List ℕ)
  kept_of [] = []
  kept_of (e ∷ es) = push (bind (set_at e.0) (λ ws. Some (e.1, ws))) (kept_of es)

-- the words of their sets
abbrev pub words_of : List (ℕ × List ℕ) → List (List ℕ)
words_of ks = map (λ e. e.1) ks

-- The words `bs` of sets stand from `first` up to `end`, each that is equal to an earlier one only there if they are packed, and from `slots` on the places where they stand.
pub record Placed (packed : Bool) (slots first : ℕ) (bs : List (List ℕ)) (area : List ℕ) (end : ℕ) : Type 0 where
  pub place : end ≡ first + 2 * length (blocks_in packed (members bs))
  pub room : end ≤ length area
  pub reached : part area slots (2 * length bs) ≡ flat (offsets_in packed first (members bs))
  pub laid : part area first (2 * length (blocks_in packed (members bs))) ≡ flat (blocks_in packed (members bs))

-- a book for packed sets has room for as many as can start up to 65,535 bytes behind the first
abbrev pub Roomy : List ℕ → Type 0
Roomy book = packs book ≡ true → book_cells ≤ length book

-- They stand, and they are in the book, if they are packed: then their words fit, and none has less than two.
pub record Standing (left : ℕ → Option (List ℕ)) (slots first : ℕ) (bs : List (List ℕ)) (area book : List ℕ) (end : ℕ) : Type 0 where
  pub placed : Placed (packs book) slots first bs area end
  pub booked : Booked left (in_book (packs book) (members bs)) book
  pub small : packs book ≡ true → All Word (blocks_in true (members bs))
  pub two : packs book ≡ true → 2 * length (in_book true (members bs)) ≤ length (blocks_in true (members bs))
  pub roomy : Roomy book

-- what may be left of a set has at least two words, and they fit if it takes no more than 65,535 bytes
pub record Small (left : Option (List ℕ)) : Type 0 where
  pub two : {ws : List ℕ} → left ≡ Some ws → 2 ≤ length ws
  pub fit : {ws : List ℕ} → left ≡ Some ws → 2 * length ws ≤ 65535 → All Word ws

-- what is asked of a set's places: they lie inside, the offset before the sets
pub record TurnInside (area book : List ℕ) (turn : Turn) : Type 0 where
  pub counted : get_or book 0 0 < 65536
  pub from : turn.at < 65536
  pub slot : turn.slot + 2 ≤ turn.first
  pub behind : turn.first ≤ turn.pos
  pub room : turn.pos ≤ length area
  pub short : length area ≤ enough_area

-- The sets `bs` stand, and the turn is the next one's.
pub record Next (left : ℕ → Option (List ℕ)) (slots : ℕ) (bs : List (List ℕ)) (area book : List ℕ) (turn : Turn) : Type 0 where
  pub standing : Standing left slots turn.first bs area book turn.pos
  pub slot : turn.slot ≡ slots + 2 * length bs
  pub apart : turn.slot + 2 ≤ turn.first
  pub small : Small (left turn.at)

-- One that is written behind them, up to q, stands with them; or there is no room, and then the sets are too long.
pub record KeptSet (turn : Turn) (q : ℕ) (area₀ book₀ area book : List ℕ) (r : ℕ) : Type 0 where
  pub same : length area ≡ length area₀
  pub size : length book ≡ length book₀
  pub next : {left : ℕ → Option (List ℕ)} {slots : ℕ} {bs : List (List ℕ)} → Next left slots bs area₀ book₀ turn → (b : List ℕ) → left turn.at ≡ Some b → Extends area₀ turn.pos b area₀ q
      → r ≤ length area₀ → Standing left slots turn.first (bs ++ (b ∷ [])) area book r
  pub full : {left : ℕ → Option (List ℕ)} {slots : ℕ} {bs : List (List ℕ)} → Next left slots bs area₀ book₀ turn → (b : List ℕ) → left turn.at ≡ Some b → Extends area₀ turn.pos b area₀ q
      → length area₀ < r → 65528 ≤ 2 * length (blocks_in (packs book₀) (members (bs ++ (b ∷ []))))

-- the next set is left, and stands with the others
pub record Stood (left : ℕ → Option (List ℕ)) (slots : ℕ) (bs : List (List ℕ)) (turn : Turn) (area book : List ℕ) (r : ℕ) : Type 0 where
  pub words : List ℕ
  pub is : left turn.at ≡ Some words
  pub standing : Standing left slots turn.first (bs ++ (words ∷ [])) area book r

-- What became of the next set: it is gone, it stands, or there is no room; then the sets are too long, if the area has what is enough for any source.
pub record PlacedSet (left : ℕ → Option (List ℕ)) (turn : Turn) (area₀ book₀ area book : List ℕ) (r : ℕ) : Type 0 where
  pub same : length area ≡ length area₀
  pub size : length book ≡ length book₀
  pub gone : {slots : ℕ} {bs : List (List ℕ)} → Next left slots bs area₀ book₀ turn → r ≡ 0 → (left turn.at ≡ None) × Standing left slots turn.first bs area book turn.pos
  pub next : {slots : ℕ} {bs : List (List ℕ)} → Next left slots bs area₀ book₀ turn → (r ≡ 0 → ⊥) → r ≤ length area₀ → Stood left slots bs turn area book r
  pub full : {slots : ℕ} {bs : List (List ℕ)} → Next left slots bs area₀ book₀ turn → turn.first ≤ 131080 → length area₀ < r → enough_area ≤ length area₀
      → 65528 ≤ 2 * length (blocks_in (packs book₀) (members (bs ++ push (left turn.at) [])))

-- the i-th offset lies inside the source, and the set that it reaches, if it is not null, is sound
pub record Reaches (sort : Sort) (s : List ℕ) (i : ℕ) : Type 0 where
  pub inside : header_size sort + 2 * i + 2 ≤ length s
  pub sound : (word s (header_size sort + 2 * i) ≡ 0 → ⊥) → set_fault_of sort s (word s (header_size sort + 2 * i)) ≡ None

-- What is asked of m notes from `at` on: the source is not over the limit and has an offset for each, there are fewer than 65,536, those that they name reach sound sets, what is left of a sound set is small, and the maps lie before them.
pub record Ready (sort : Sort) (s t : List ℕ) (maps : Maps) (at m : ℕ) : Type 0 where
  pub short : length s ≤ limit
  pub few : header_size sort + 2 * m ≤ length s
  pub counted : m < 65536
  pub fits : at + m ≤ length t
  pub reaches : (i : ℕ) → i < m → Reaches sort s (old_at t (at + i))
  pub small : (p : ℕ) → set_fault_of sort s p ≡ None → Small (left_in sort t maps s p)
  pub inside : AllInside t maps
  pub before : AllBefore maps at

module _ (sort : Sort) (s t₀ : List ℕ) (maps : Maps) (at m : ℕ) where
  -- the kept sets
  abbrev pub kept_in : List (ℕ × List ℕ)
  kept_in = kept_of (left_in sort t₀ maps s) s (header_size sort) (notes t₀ at m)

  module _ (packed : Bool) where
    -- k of the sets are kept: their glyphs are noted from `at` on, and their words stand up to p
    pub record Done (t area : List ℕ) (k p : ℕ) : Type 0 where
      pub few : k ≤ m
      pub count : length kept_in ≡ k
      pub glyphs : news t at k ≡ glyphs_of kept_in
      pub placed : Placed packed (header_size sort) (header_size sort + 2 * m) (words_of kept_in) area p

    -- What the notes and the area hold afterwards; where there is no room in an area that is enough for any source, the sets are too long for the coverage's offset, even behind the shortest header.
    pub record WroteKept (area₀ t area : List ℕ) (r : Sets) : Type 0 where
      pub same : length area ≡ length area₀
      pub size : length t ≡ length t₀
      pub done : r.end ≤ length area₀ → Done t area r.count r.end
      pub full : length area₀ < r.end → enough_area ≤ length area₀ → 65528 ≤ 2 * length (blocks_in packed (members (words_of kept_in)))
