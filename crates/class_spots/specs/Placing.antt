-- One set more, behind the sets so far.
use Rattle.std.specs.Prelude.{ℕ, ◌+◌, ◌-◌, ◌*◌, ◌/◌, ◌≤◌, ◌<◌, ◌≡◌, Bool, true, false, List, [], ◌∷◌, ◌++◌, length, get_or, Option, None, Some}
use Rattle.std.proofs.lemmas.List.Edits.{sets}
use Rattle.meaning.specs.Words.{bytes2}
use Rattle.meaning.specs.Subset.{limit}
use Rattle.laws.specs.Stands.{All, Word}
use Rattle.room.specs.Laid.{enough_area}
use Rattle.known_blocks.specs.Shared.{blocks_in, known}
use Rattle.known_blocks.specs.Book.{book_cells, packs, in_book, Booked, Behind, Settled}
use Rattle.known_blocks.specs.declared.Spot.{Spot}
use Rattle.kept_rules.specs.Left.{AllInside, maps_in}
use Rattle.kept_rules.specs.declared.Maps.{Maps}
use Rattle.class_spots.specs.Sets.{set_left, words_in, SetSound}
use Rattle.class_spots.specs.Slots.{Noted, sets_full}
use Rattle.class_spots.specs.declared.Turn.{Turn}

-- The blocks so far, sets or class tables: their slots are noted, and those that are written are in the book, if it is for packed ones; then their words fit, and each has two.
-- None starts more than 65,535 bytes behind the first, and none has more than 131,076 bytes.
pub record Gathered (packed : Bool) (left : ℕ → Option (List ℕ)) (slots first : ℕ) (bs : List (Option (List ℕ))) (area : List ℕ) (end : ℕ) (book : List ℕ) : Type 0 where
  pub mode : packs book ≡ packed
  pub noted : Noted packed slots first bs area end
  pub near : end ≤ first + 196611
  pub booked : Booked left (in_book packed bs) book
  pub small : packed ≡ true → All Word (blocks_in true bs)
  pub two : packed ≡ true → 2 * length (in_book true bs) ≤ length (blocks_in true bs)
  pub enough : packed ≡ true → book_cells ≤ length book

-- what is asked of the places of a turn
pub record TurnIn (turn : Turn) (area book : List ℕ) : Type 0 where
  pub source : turn.at < 65536
  pub slot : turn.slot + 2 ≤ turn.first
  pub start : turn.first ≤ turn.pos
  pub near : turn.pos ≤ turn.first + 196611
  pub low : turn.first ≤ 0x1000_0000
  pub room : turn.pos ≤ length area
  pub count : get_or book 0 0 < 65536

-- what is asked where a block was written, from the turn's place up to q: it stands behind the blocks so far
pub record SpotAsked (turn : Turn) (q : ℕ) (area book : List ℕ) : Type 0 where
  pub turn_in : TurnIn turn area book
  pub near : q ≤ turn.pos + 131076
  pub left : ℕ → Option (List ℕ)
  pub done : List (Option (List ℕ))
  pub block : List ℕ
  pub behind : Behind left done block area turn.first turn.pos q turn.at book

-- the block stands at the spot, and its slot is noted
pub record AtSpot (turn : Turn) (q : ℕ) (area₀ book₀ area book : List ℕ) (r : ℕ) : Type 0 where
  pub spot : Spot
  pub there : spot.at ≡ 0 → ⊥
  pub settled : Settled area₀ turn.first turn.pos q turn.at book₀ book spot
  pub put : area ≡ sets area₀ turn.slot (bytes2 ((spot.at - turn.first) / 2 + 1))
  pub end : r ≡ spot.end

-- it does, or it is new and starts too far behind the first
pub record PlacedSpot (turn : Turn) (q : ℕ) (area₀ book₀ area book : List ℕ) (r : ℕ) : Type 0 where
  pub same : length area ≡ length area₀
  pub alike : length book ≡ length book₀
  pub near : r ≤ length area₀ → AtSpot turn q area₀ book₀ area book r
  pub far : {left : ℕ → Option (List ℕ)} (bs : List (Option (List ℕ))) (b : List ℕ) → Behind left bs b area₀ turn.first turn.pos q turn.at book₀ → q ≤ length area₀ → length area₀ < r
      → (turn.first + 65535 < turn.pos) × (known (packs book₀) bs b ≡ false)

module _ (chained : Bool) (s t : List ℕ) (maps : Maps) (turn : Turn) where
  -- what is asked of a set and of its turn: the sets so far are gathered; the set is sound, and the words of what is left fit, if they are not over 65,535 bytes
  pub record SetAsked (area book : List ℕ) : Type 0 where
    pub turn_in : TurnIn turn area book
    pub low : turn.first ≤ 131084
    pub packed : Bool
    pub slots : ℕ
    pub sets : List (Option (List ℕ))
    pub gathered : Gathered packed (set_left chained (maps_in t maps) s) slots turn.first sets area turn.pos book
    pub sound : SetSound chained s turn.at
    pub short : length s ≤ limit
    pub inside : AllInside t maps
    pub words : {ws : List ℕ} → set_left chained (maps_in t maps) s turn.at ≡ Some ws → 2 * length ws ≤ 65535 → All Word ws

  -- something is left of the set, and it is among the sets
  pub record SetThere (packed : Bool) (slots : ℕ) (bs : List (Option (List ℕ))) (area book : List ℕ) (r : ℕ) : Type 0 where
    pub words : List ℕ
    pub is : set_left chained (maps_in t maps) s turn.at ≡ Some words
    pub gathered : Gathered packed (set_left chained (maps_in t maps) s) slots turn.first (bs ++ (Some words ∷ [])) area r book

  -- Whatever sets there are so far: nothing is left, or something is, or there is no room, or the set is too long or too far behind the first.
  pub record PlacedSet (area₀ book₀ area book : List ℕ) (r : ℕ) : Type 0 where
    pub same : length area ≡ length area₀
    pub alike : length book ≡ length book₀
    pub null : {packed : Bool} {slots : ℕ} {bs : List (Option (List ℕ))} → Gathered packed (set_left chained (maps_in t maps) s) slots turn.first bs area₀ turn.pos book₀ → turn.slot ≡ slots + 2 * length bs → r ≡ 0
        → (set_left chained (maps_in t maps) s turn.at ≡ None) × Gathered packed (set_left chained (maps_in t maps) s) slots turn.first (bs ++ (None ∷ [])) area turn.pos book
    pub there : {packed : Bool} {slots : ℕ} {bs : List (Option (List ℕ))} → Gathered packed (set_left chained (maps_in t maps) s) slots turn.first bs area₀ turn.pos book₀ → turn.slot ≡ slots + 2 * length bs → (r ≡ 0 → ⊥) → r ≤ length area₀
        → SetThere packed slots bs area book r
    pub full : {packed : Bool} {slots : ℕ} {bs : List (Option (List ℕ))} → Gathered packed (set_left chained (maps_in t maps) s) slots turn.first bs area₀ turn.pos book₀ → length area₀ < r → enough_area ≤ length area₀
        → (most : ℕ) → turn.pos ≤ turn.first + most → 2 * length (words_in (set_left chained (maps_in t maps) s turn.at)) ≤ most → sets_full ≤ most
