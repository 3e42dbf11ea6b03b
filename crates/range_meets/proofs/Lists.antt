-- What the loop over listed glyphs keeps, and each way through its turn.
use Prim.Native.Nat.{ℕ, ◌+◌, ◌-◌, ◌*◌, ◌/◌, ◌%◌, ◌≤◌, ◌<◌}
use mathlib.Core.Path.{◌≡◌, sym, ap, ◌∙◌}
use Rattle.std.specs.Prelude.{None, Some}
use mathlib.Core.List.{List, [], ◌∷◌, ◌++◌, map, append-nil, append_assoc, map-append}
use native.Mathlib.Omega.{arith}
use lib.ListN.{length, set, length-append, length-map}
use Rattle.meaning.specs.Words.{word, words, bind, push}
use Rattle.laws.specs.Left.{words_left_lem, words_all, words_none}
use Rattle.cell_maps.specs.Cells.{cell_entry, folded, answer_in, Kept, kept_all, kept_more, kept_set, entry_kept, answer_own, answer_other}
use Rattle.cell_maps.specs.declared.Map.{Map}
use Rattle.area.specs.Part.{part, part_length, notes}
use Rattle.area.specs.Stored.{part_same, part_store}
use Rattle.range_meets.specs.Met.{met, Met}
use Rattle.range_meets.specs.Walks.{MeetsList}

-- what a cell notes
abbrev pub note_of : ℕ → ℕ × ℕ
note_of c = (c / 65536, c % 65536)

-- a note more
pub notes_store : (t : List ℕ) (to k v : ℕ) → to + k < length t → notes (set t (to + k) v) to (k + 1) ≡ notes t to k ++ ((v / 65536, v % 65536) ∷ [])
notes_store t to k v h = ap (map note_of) (part_store t to k v h) ∙ map-append note_of (part t to k) (v ∷ [])

-- what is stored behind the notes leaves them
pub notes_kept : {t next : List ℕ} (to k : ℕ) → Kept (to + k) t next → notes next to k ≡ notes t to k
notes_kept {t} {next} to k h = ap (map note_of) (part_same next t to k (λ j l g. h.same j g))

pub notes_length : (t : List ℕ) (to k : ℕ) → length (notes t to k) ≡ k
notes_length t to k = length-map (part t to k) note_of ∙ part_length t to k

module _ (s : List ℕ) (at n : ℕ) (m : Map) (t₀ : List ℕ) (to : ℕ) where
  -- what is met from the i-th glyph on, and in all
  abbrev from : ℕ → List (ℕ × ℕ)
  from i = met (folded t₀ m) i (words s (at + 2 * i) (n - i))

  abbrev all : List (ℕ × ℕ)
  all = met (folded t₀ m) 0 (words s at n)

  -- What the loop keeps: k glyphs are noted so far; they and those that are left to meet are all.
  pub record Listing (t : List ℕ) (k i : ℕ) : Type 0 where
    pub within : i ≤ n
    pub kept : Kept to t₀ t
    pub few : k ≤ length all
    pub noted : notes t to k ++ from i ≡ all

module _ {s : List ℕ} {at n : ℕ} {m : Map} {t₀ : List ℕ} {to : ℕ} where
  pub listing_all : Listing s at n m t₀ to t₀ 0 0
  unfolding part
  listing_all = record { within = omega arith; kept = kept_all to t₀; few = omega arith; noted = rw (words_all s at n) }

  module _ {t : List ℕ} {k i glyph e : ℕ} (a : MeetsList s at n m t₀ to) (c : Listing s at n m t₀ to t k i) (h : i < n) (w : glyph ≡ word s (at + 2 * i)) (f : e ≡ cell_entry t m glyph) where
    -- the cell is as it was at the start
    same_cell : e ≡ cell_entry t₀ m glyph
    same_cell = f ∙ entry_kept c.kept m a.behind glyph

    -- there is a cell for one note more
    pub listing_room : to + k < length t
    listing_room = omega (arith, a.room, c.few, c.kept.size)

    stored : (v : ℕ) → Kept to t₀ (set t (to + k) v)
    stored v = kept_more c.kept (kept_set to t (to + k) v (omega arith))

    -- the map has the glyph
    pub listing_one : e / 65536 ≡ glyph → Listing s at n m t₀ to (set t (to + k) (i * 65536 + e % 65536)) (k + 1) (i + 1)
    unfolding met bind push
    listing_one g =
        let v = i * 65536 + e % 65536 in
        let o : folded t₀ m glyph ≡ Some (e % 65536) = ap (λ (x : ℕ). answer_in x glyph) (sym same_cell) ∙ answer_own e glyph g in
        let d : from s at n m t₀ to i ≡ (i, e % 65536) ∷ from s at n m t₀ to (i + 1) = rw (words_left_lem s at n i h, ← w, o) in
        let q : v / 65536 ≡ i = omega arith in
        let r : v % 65536 ≡ e % 65536 = omega arith in
        let p : notes (set t (to + k) v) to (k + 1) ≡ notes t to k ++ ((i, e % 65536) ∷ []) = notes_store t to k v listing_room ∙ ap (λ (x : ℕ × ℕ). notes t to k ++ (x ∷ [])) (λ j. (q j, r j)) in
        let b : notes (set t (to + k) v) to (k + 1) ++ from s at n m t₀ to (i + 1) ≡ all s at n m t₀ to =
        ap (λ (l : List (ℕ × ℕ)). l ++ from s at n m t₀ to (i + 1)) p ∙ append_assoc (notes t to k) ((i, e % 65536) ∷ []) (from s at n m t₀ to (i + 1)) ∙ rw d at c.noted
        in
        record {
          within = omega arith;
          kept = stored v;
          few = omega (arith, ap length b, length-append (notes (set t (to + k) v) to (k + 1)) (from s at n m t₀ to (i + 1)), notes_length (set t (to + k) v) to (k + 1));
          noted = b;
        }

    -- it has not
    pub listing_none : (v : ℕ) → (e / 65536 ≡ glyph → ⊥) → Listing s at n m t₀ to (set t (to + k) v) k (i + 1)
    unfolding met bind push
    listing_none v g =
        let o : folded t₀ m glyph ≡ None = ap (λ (x : ℕ). answer_in x glyph) (sym same_cell) ∙ answer_other e glyph g in
        let d : from s at n m t₀ to i ≡ from s at n m t₀ to (i + 1) = rw (words_left_lem s at n i h, ← w, o) in
        record {
          within = omega arith;
          kept = stored v;
          few = c.few;
          noted = ap (λ (l : List (ℕ × ℕ)). l ++ from s at n m t₀ to (i + 1)) (notes_kept to k (kept_set (to + k) t (to + k) v (omega arith))) ∙ rw d at c.noted;
        }

  pub listing_end : {t : List ℕ} {k i : ℕ} → MeetsList s at n m t₀ to → Listing s at n m t₀ to t k i → n ≤ i → Met (folded t₀ m) (words s at n) t₀ to t k
  unfolding met
  listing_end {t} {k} {i} a c h = record {
    kept = c.kept;
    fits = omega (arith, a.room, c.few);
    noted = sym (append-nil (notes t to k)) ∙ rw (words_none s (at + 2 * i) n i h) at c.noted;
  }
