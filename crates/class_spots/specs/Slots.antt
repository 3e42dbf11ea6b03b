-- The slots of format 2, as they stand in the area while it is not known where their sets will stand.
use Rattle.std.specs.Prelude.{ℕ, zero, suc, ◌+◌, ◌-◌, ◌*◌, ◌/◌, ◌≤◌, ◌<◌, ◌≡◌, refl, Bool, true, false, cond, ◌&&◌, ◌||◌, List, [], ◌∷◌, map, length, take, eqb, Option, None, Some}
use Rattle.std.proofs.Common.{sym, ap, ◌∙◌, true≢false, arith, eq-eqb, eqb-true}
use Rattle.std.proofs.Math.Decide.{dec_lt}
use Rattle.std.proofs.lemmas.List.{length-map}
use Rattle.meaning.specs.Words.{word, flat, is_some, member}
use Rattle.meaning.specs.Tables.{Rule, reaches, rule_set}
use Rattle.meaning.specs.Fault.{rule_fault, set_fault}
use Rattle.meaning.specs.Cut.{cut_set, slots, trim}
use Rattle.meaning.specs.Layout.{block, rule_words, set_words}
use Rattle.meaning.specs.Subset.{limit}
use Rattle.laws.specs.Stands.{All, Word}
use Rattle.room.specs.Laid.{enough_area}
use Rattle.known_blocks.specs.Shared.{offsets_in, blocks_in}
use Rattle.bits.specs.Bits.{marked}
use Rattle.cell_maps.specs.Cells.{folded}
use Rattle.cell_maps.specs.declared.Map.{Map}
use Rattle.area.specs.Part.{part}
use Rattle.kept_rules.specs.Left.{AllInside, maps_in}
use Rattle.kept_rules.specs.declared.Maps.{Maps}
use Rattle.ranked_maps.specs.Present.{top_of, present_from, present, present_out}
use Rattle.class_places.specs.Places.{slots_at}
use Rattle.class_spots.specs.Sets.{count_at, set_left, SetSound}
use Rattle.class_spots.specs.declared.Classes.{Classes}
use Rattle.class_spots.specs.declared.Slots.{Slots}

-- the slots as they are noted: half of the offset that each would have if the first block stood at 2, which is one more than half its block's distance from the first, and 0 if it is null
abbrev pub halves_in : Bool → List (Option (List ℕ)) → List ℕ
halves_in packed bs = map (λ w. w / 2) (offsets_in packed 2 bs)

-- a noted slot as an offset: p is where the first set stands
unfoldable pub settled : ℕ → ℕ → ℕ
settled p w = cond (eqb w 0) 0 (p + 2 * (w - 1))

-- The slots `bs` stand from `slots` on, as they are noted, and their blocks from `first` up to `end`.
pub record Noted (packed : Bool) (slots first : ℕ) (bs : List (Option (List ℕ))) (area : List ℕ) (end : ℕ) : Type 0 where
  pub place : end ≡ first + 2 * length (blocks_in packed bs)
  pub room : end ≤ length area
  pub noted : part area slots (2 * length bs) ≡ flat (halves_in packed bs)
  pub laid : part area first (2 * length (blocks_in packed bs)) ≡ flat (blocks_in packed bs)

-- where the sets take so many bytes, the coverage that stands behind them has an offset that doesn't fit a word
abbrev pub sets_full : ℕ
sets_full = 65526

-- What is asked of a source and of cells: the source is not over the limit, its offsets lie inside, and the sets that they reach are sound;
-- the cells of the maps lie inside, and the marks do not begin too far; and the words of what is left of a set fit, if they are not over 65,535 bytes.
pub record Ready (chained : Bool) (s t : List ℕ) (maps : Maps) (classes : Classes) : Type 0 where
  pub short : length s ≤ limit
  pub header : slots_at chained + 2 * count_at s (slots_at chained) ≤ length s
  pub sets : (i : ℕ) → i < count_at s (slots_at chained) → (word s (slots_at chained + 2 * i) ≡ 0 → ⊥) → set_fault (rule_fault chained s) s (word s (slots_at chained + 2 * i)) ≡ None
  pub inside : AllInside t maps
  pub near : classes.marks < 0x1_0000_0000_0000
  pub few : maps.input.mask < 65536
  pub number : classes.count ≡ length (present t maps.input)
  pub words : (at : ℕ) → SetSound chained s at → {ws : List ℕ} → set_left chained (maps_in t maps) s at ≡ Some ws → 2 * length ws ≤ 65535 → All Word ws

-- those of the classes that are marked in the cells from `at` on
unfoldable pub marked_of : List ℕ → ℕ → List ℕ → List ℕ
marked_of t at [] = []
marked_of t at (c ∷ cs) = cond (marked t at c) (c ∷ marked_of t at cs) (marked_of t at cs)

module _ (chained : Bool) (s t : List ℕ) (maps : Maps) (marks : ℕ) where
  -- the sets of the source
  abbrev pub sets_in : List (Option (List Rule))
  sets_in = reaches (rule_set chained s) s 0 (slots_at chained) (count_at s (slots_at chained))

  -- the blocks of the slots of the surviving classes
  abbrev pub slot_blocks : List (Option (List ℕ))
  slot_blocks = map (block (set_words (rule_words chained))) (slots (cut_set chained (maps_in t maps)) (marked_of t marks (present t maps.input)) sets_in (present t maps.input))

  -- What the area holds afterwards, where there is room: all slots, of which the first `count` are those up to the last that is not null, and their sets.
  pub record Filled (packed : Bool) (area : List ℕ) (r : Slots) : Type 0 where
    pub noted : Noted packed (slots_at chained) (slots_at chained + 2 * length slot_blocks) slot_blocks area r.end
    pub few : r.count ≤ length slot_blocks
    pub head : trim slot_blocks ≡ take r.count slot_blocks

-- Where there is none, in an area that is enough for any table that is not too big, the sets take too many bytes.
pub record WroteSlots (packed chained : Bool) (s t : List ℕ) (maps : Maps) (marks : ℕ) (area₀ area : List ℕ) (r : Slots) : Type 0 where
  pub same : length area ≡ length area₀
  pub done : r.end ≤ length area₀ → Filled chained s t maps marks packed area r
  pub full : length area₀ < r.end → enough_area ≤ length area₀ → sets_full ≤ 2 * length (blocks_in packed (slot_blocks chained s t maps marks))

-- there are no more classes than numbers that can have an entry
pub present_few : (t : List ℕ) (m : Map) (c n : ℕ) → length (present_from t m c n) ≤ n
unfolding present_from
present_few t m c zero = omega arith
present_few t m c (suc n) = step (is_some (folded t m c)) (present_few t m (c + 1) n)
  where
    step : (b : Bool) → length (present_from t m (c + 1) n) ≤ n → length (cond b (c ∷ present_from t m (c + 1) n) (present_from t m (c + 1) n)) ≤ suc n
    step true h = omega arith
    step false h = omega arith

-- and a slot for each class
slots_many : (cutOne : List Rule → Option (List Rule)) (covered : List ℕ) (sets : List (Option (List Rule))) (cs : List ℕ) → length (slots cutOne covered sets cs) ≡ length cs
unfolding slots
slots_many cutOne covered sets [] = refl
slots_many cutOne covered sets (c ∷ cs) = ap suc (slots_many cutOne covered sets cs)

pub blocks_many : (chained : Bool) (s t : List ℕ) (maps : Maps) (marks : ℕ) → length (slot_blocks chained s t maps marks) ≡ length (present t maps.input)
blocks_many chained s t maps marks =
    let covered = marked_of t marks (present t maps.input) in
    length-map (slots (cut_set chained (maps_in t maps)) covered (sets_in chained s t maps marks) (present t maps.input)) (block (set_words (rule_words chained)))
    ∙ slots_many (cut_set chained (maps_in t maps)) covered (sets_in chained s t maps marks) (present t maps.input)

-- a class is among those that are marked just if it is among the classes and marked
marked_both : (t : List ℕ) (at c : ℕ) (cs : List ℕ) → member c (marked_of t at cs) ≡ member c cs && marked t at c
unfolding marked_of member
marked_both t at c [] = refl
marked_both t at c (y ∷ cs) = step (marked t at y) refl (eqb y c) refl (marked_both t at c cs)
  where
    and_none : (b : Bool) → b && false ≡ false
    and_none true = refl
    and_none false = refl

    step : (b : Bool) → marked t at y ≡ b → (e : Bool) → eqb y c ≡ e → member c (marked_of t at cs) ≡ member c cs && marked t at c
        → member c (cond b (y ∷ marked_of t at cs) (marked_of t at cs)) ≡ (e || member c cs) && marked t at c
    step true m true q k = rw (q, ← (eqb-true y c q), m)
    step true m false q k = rw q k
    step false m true q k =
        let n : marked t at c ≡ false = ap (marked t at) (sym (eqb-true y c q)) ∙ m in
        k ∙ rw n (and_none (member c cs))
    step false m false q k = k

pub marked_member : (t : List ℕ) (at c : ℕ) (cs : List ℕ) → member c cs ≡ true → member c (marked_of t at cs) ≡ marked t at c
marked_member t at c cs h = marked_both t at c cs ∙ rw h

-- the slots by two lists that have the same of these classes
slots_same : (cutOne : List Rule → Option (List Rule)) (one two : List ℕ) (sets : List (Option (List Rule))) (cs : List ℕ) → ((c : ℕ) → member c cs ≡ true → member c one ≡ member c two) → slots cutOne one sets cs ≡ slots cutOne two sets cs
unfolding slots member
slots_same cutOne one two sets [] h = refl
slots_same cutOne one two sets (c ∷ cs) h = rw (h c (rw (eq-eqb c c refl)), slots_same cutOne one two sets cs (λ x e. h x (rw e (or_true (eqb c x)))))
  where
    or_true : (b : Bool) → b || true ≡ true
    or_true true = refl
    or_true false = refl

-- the slots by marks are those by any list of which each class that can have an entry is marked just if it is there
pub slots_marked : (cutOne : List Rule → Option (List Rule)) (t : List ℕ) (marks : ℕ) (m : Map) (held : List ℕ) (sets : List (Option (List Rule))) → ((c : ℕ) → c ≤ top_of m → marked t marks c ≡ member c held)
    → slots cutOne (marked_of t marks (present t m)) sets (present t m) ≡ slots cutOne held sets (present t m)
slots_marked cutOne t marks m held sets h = slots_same cutOne (marked_of t marks (present t m)) held sets (present t m) (λ c e. marked_member t marks c (present t m) e ∙ h c (low c e (dec_lt (top_of m) c)))
  where
    low : (c : ℕ) → member c (present t m) ≡ true → Dec (top_of m < c) → c ≤ top_of m
    low c e (yes d) = absurd (true≢false (sym e ∙ present_out t m 0 (top_of m + 1) c (omega arith)))
    low c e (no d) = omega arith
