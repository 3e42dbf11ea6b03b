-- Blocks that are laid down one after the other, and what is left of them.
use Prim.Native.Nat.{ℕ, ◌+◌, ◌*◌, ◌≤◌, ◌<◌}
use mathlib.Core.Path.{◌≡◌, refl, sym, ap, ◌∙◌, subst}
use mathlib.Core.Bool.{Bool, true, ◌&&◌, true≢false}
use Rattle.std.specs.Prelude.{Option, None, Some, unwrap_or}
use mathlib.Core.List.{List, [], ◌∷◌, ◌++◌, append-nil, append_assoc}
use native.Mathlib.Decide.{dec_lt}
use native.Mathlib.Omega.{arith}
use lib.ListN.{length}
use lib.Seq.{sets, length-sets}
use lib.Dec.{ltb}
use borrow.Author.Tests.{lt-ltb, ltb-true}
use Rattle.meaning.specs.Words.{bytes2, flat, is_some, every}
use Rattle.meaning.specs.Layout.{words_fit}
use Rattle.laws.specs.Runs.{both}
use Rattle.laws.specs.Stands.{All, Word, all_append, flat_length}
use Rattle.laws.specs.ReadsBack.{fit_words}
use Rattle.laws.specs.Written.{sets_flat, flat_one}
use Rattle.room.specs.Laid.{enough_area}
use Rattle.cell_maps.specs.Cells.{Kept}
use Rattle.cell_maps.specs.declared.Map.{Map}
use Rattle.area.specs.Extends.{Extends, extends_none, extends_more, extends_said}
use Rattle.area.specs.Stored.{extends_store}
use Rattle.known_blocks.specs.Shared.{offsets_in, blocks_in, place_in}
use Rattle.known_blocks.specs.Book.{packs, in_book, Booked}
use Rattle.cover_parts.specs.Behind.{added_by, offsets_behind, blocks_behind, behind_length, offsets_after, offsets_split, split_fit, blocks_after, blocks_split}
use Rattle.cover_parts.specs.Rows.{highest_end, Stood, Lays, LaysLeft}
use Rattle.cover_parts.specs.declared.Places.{Places}

-- what is there is not gone, and is one
pub some_none : {A : Type 0} {a : A} → Some a ≡ None → ⊥
unfolding is_some
some_none h = true≢false (ap is_some h)

pub some_same : {A : Type 0} {a b : A} → Some a ≡ Some b → a ≡ b
some_same {A} {a} h = ap (λ o. unwrap_or o a) h

-- both of two
pub and_true : (a b : Bool) → a ≡ true → b ≡ true → a && b ≡ true
and_true a b h k = rw (h, k) refl

-- the offset of one block fits if its place is a word
one_fits : (packed : Bool) (first : ℕ) (pre : List (Option (List ℕ))) (b : List ℕ) → place_in packed first pre b ≤ 65535 → words_fit (offsets_behind packed first pre (Some b ∷ [])) ≡ true
unfolding offsets_behind words_fit every
one_fits packed first pre b h = rw (lt-ltb (place_in packed first pre b) 65536 (omega arith)) refl

pub fits_one : (packed : Bool) (first : ℕ) (pre : List (Option (List ℕ))) (b : List ℕ) → words_fit (offsets_behind packed first pre (Some b ∷ [])) ≡ true → place_in packed first pre b ≤ 65535
unfolding offsets_behind words_fit every
fits_one packed first pre b h = omega (arith, ltb-true (place_in packed first pre b) 65536 (both (ltb (place_in packed first pre b) 65536) true h).0)

module _ {packed : Bool} {left : ℕ → Option (List ℕ)} {first : ℕ} {pre : List (Option (List ℕ))} where
  -- a row of stores before the blocks leaves them
  pub stood_store : {area : List ℕ} {p : ℕ} {book : List ℕ} (at : ℕ) (xs : List ℕ) → at + length xs ≤ first → Stood packed left first pre area p book → Stood packed left first pre (sets area at xs) p book
  stood_store at xs l h = record { from = sets h.from at xs; laid = extends_store at xs h.laid l; small = h.small; near = h.near; low = h.low; booked = h.booked }

  module _ {before : List ℕ} {slot p : ℕ} where
    -- no block
    pub lays_none : {book : List ℕ} → (p ≤ length before → Stood packed left first pre before p book) → Lays packed left first pre before slot p [] before p book
    unfolding offsets_behind blocks_behind flat words_fit every
    lays_none {book} st = record {
      fits = λ h. extends_none h;
      small = λ h. tt;
      near = λ h. refl;
      low = λ h. (st h).low;
      booked = λ h. subst (λ (l : List (Option (List ℕ))). Booked left (in_book packed l) book) (sym (append-nil pre)) (st h).booked;
      full = λ h k f. absurd (omega arith);
    }

    -- one block: what it adds, and its offset
    pub lays_one : (b : List ℕ) {mid after : List ℕ} {r : ℕ} {book : List ℕ} → slot + 2 ≤ p → Extends before p (added_by packed pre (Some b)) mid r → after ≡ sets mid slot (bytes2 (place_in packed first pre b))
        → place_in packed first pre b ≤ 65535 → All Word (added_by packed pre (Some b)) → r ≤ highest_end → Booked left (in_book packed (pre ++ (Some b ∷ []))) book → Lays packed left first pre before slot p (Some b ∷ []) after r book
    unfolding offsets_behind blocks_behind bytes2
    lays_one b {mid} {after} {r} l x e n w h k = record {
      fits = λ g. subst (λ (a : List ℕ). Extends a p (added_by packed pre (Some b) ++ []) after r) (ap (sets before slot) (sym (flat_one at)))
          (extends_said (subst (λ (a : List ℕ). Extends (sets before slot (bytes2 at)) p (added_by packed pre (Some b)) a r) (sym e) (extends_store slot (bytes2 at) x l)) (sym (append-nil (added_by packed pre (Some b)))));
      small = λ g. subst (All Word) (sym (append-nil (added_by packed pre (Some b)))) w;
      near = λ g. one_fits packed first pre b n;
      low = λ g. h;
      booked = λ g. k;
      full = λ g f d. absurd (omega (arith, x.room));
    }
      where
        at : ℕ
        at = place_in packed first pre b

    module _ {after : List ℕ} {r : ℕ} {book : List ℕ} (l : length before < r) where
      -- past the area nothing is written
      pub lays_over : (bs : List (Option (List ℕ))) → length before < p → Lays packed left first pre before slot p bs after r book
      lays_over bs h = record { fits = λ g. absurd (omega arith); small = λ g. absurd (omega arith); near = λ g. absurd (omega arith); low = λ g. absurd (omega arith); booked = λ g. absurd (omega arith); full = λ g k f. absurd (omega arith) }

      -- nor where not all offsets fit, or there are not enough bytes
      pub lays_past : (bs : List (Option (List ℕ))) → (words_fit (offsets_behind packed first pre bs) ≡ true → length before < enough_area) → Lays packed left first pre before slot p bs after r book
      lays_past bs h = record { fits = λ g. absurd (omega arith); small = λ g. absurd (omega arith); near = λ g. absurd (omega arith); low = λ g. absurd (omega arith); booked = λ g. absurd (omega arith); full = λ g k f. h f }

  module _ {before : List ℕ} {slot p r : ℕ} {bs : List (Option (List ℕ))} {after book₀ book : List ℕ} (st : p ≤ length before → Stood packed left first pre before p book₀) (e : length after ≡ length before) (l : slot + 2 * length bs ≤ first) (h : Lays packed left first pre before slot p bs after r book) where
    -- the blocks stand, and these behind them
    pub stood_more : r ≤ length after → Stood packed left first (pre ++ bs) after r book
    stood_more g =
        let os = offsets_behind packed first pre bs in
        let x = h.fits (omega arith) in
        let y = st (omega (arith, x.place, x.room, length-sets before slot (flat os))) in
        record {
          from = sets y.from slot (flat os);
          laid = extends_said (extends_more (extends_store slot (flat os) y.laid (omega (arith, flat_length os, behind_length packed first pre bs))) x) (sym (blocks_after packed pre bs));
          small = subst (All Word) (sym (blocks_after packed pre bs)) (all_append Word (blocks_in packed pre) (blocks_behind packed pre bs) y.small (h.small (omega arith)));
          near = subst (All Word) (sym (offsets_after packed first pre bs)) (all_append Word (offsets_in packed first pre) os y.near (fit_words os (h.near (omega arith))));
          low = h.low (omega arith);
          booked = h.booked (omega arith);
        }

  module _ {before : List ℕ} {slot p q r : ℕ} {xs ys : List (Option (List ℕ))} {mid after book₁ book : List ℕ} (next : ℕ) (e : next ≡ slot + 2 * length xs) (l : p ≤ length before → next + 2 * length ys ≤ p) (s : length mid ≡ length before) (h : Lays packed left first pre before slot p xs mid q book₁) (k : Lays packed left first (pre ++ xs) mid next q ys after r book) where
    abbrev ox : List ℕ
    ox = offsets_behind packed first pre xs

    abbrev oy : List ℕ
    oy = offsets_behind packed first (pre ++ xs) ys

    joined : Extends (sets mid next (flat oy)) q (blocks_behind packed (pre ++ xs) ys) after r → Extends (sets before slot (flat ox)) p (blocks_behind packed pre xs) mid q
        → Extends (sets before slot (flat (offsets_behind packed first pre (xs ++ ys)))) p (blocks_behind packed pre (xs ++ ys)) after r
    joined y x =
        let m : next + 2 * length ys ≤ p = l (omega (arith, x.place, x.room, length-sets before slot (flat ox))) in
        let z = extends_more (extends_store next (flat oy) x (omega (arith, flat_length oy, behind_length packed first (pre ++ xs) ys))) y in
        let n : next ≡ slot + 2 * length ox = omega (arith, behind_length packed first pre xs) in
        let f : sets (sets before slot (flat ox)) next (flat oy) ≡ sets before slot (flat (offsets_behind packed first pre (xs ++ ys))) =
        ap (λ (n : ℕ). sets (sets before slot (flat ox)) n (flat oy)) n ∙ sets_flat before slot ox oy ∙ ap (λ (w : List ℕ). sets before slot (flat w)) (sym (offsets_split packed first pre xs ys))
        in
        subst (λ (a : List ℕ). Extends a p (blocks_behind packed pre (xs ++ ys)) after r) f (extends_said z (sym (blocks_split packed pre xs ys)))

    -- what was laid first lies inside if all does
    lies : r ≤ length before → q ≤ length before
    lies g =
        let y = k.fits (omega arith) in
        omega (arith, y.place, y.room, length-sets mid next (flat oy))

    -- blocks after blocks
    pub lays_more : Lays packed left first pre before slot p (xs ++ ys) after r book
    lays_more = record {
      fits = λ g. joined (k.fits (omega arith)) (h.fits (lies g));
      small = λ g. subst (All Word) (sym (blocks_split packed pre xs ys)) (all_append Word (blocks_behind packed pre xs) (blocks_behind packed (pre ++ xs) ys) (h.small (lies g)) (k.small (omega arith)));
      near = λ g. split_fit packed first pre xs ys ∙ and_true (words_fit ox) (words_fit oy) (h.near (lies g)) (k.near (omega arith));
      low = λ g. k.low (omega arith);
      booked = λ g. subst (λ (b : List (Option (List ℕ))). Booked left (in_book packed b) book) (append_assoc pre xs ys) (k.booked (omega arith));
      full = λ g d f. over g d (both (words_fit ox) (words_fit oy) (sym (split_fit packed first pre xs ys) ∙ f)) (dec_lt (length before) q);
    }
      where
        over : length before < r → p ≤ length before → (words_fit ox ≡ true) × (words_fit oy ≡ true) → Dec (length before < q) → length before < enough_area
        over g d f (yes b) = h.full b d f.0
        over g d f (no b) = omega (arith, k.full (omega arith) (omega arith) f.1)

-- What is left.
module _ {source : ℕ → Option (List ℕ)} {left : Option (List (Option (List ℕ)))} {m : Map} {t₀ t before : List ℕ} {slot : ℕ} {at : Places} {after book₀ book : List ℕ} (c : Kept (m.at + m.mask + 1) t₀ t) (s : length after ≡ length before) (p : length book ≡ length book₀) where
  -- it was laid down, or nothing is left
  pub laid_some : {bs : List (Option (List ℕ))} {r : ℕ} → left ≡ Some bs
      → ((pre : List (Option (List ℕ))) → (at.pos ≤ length before → Stood (packs book₀) source at.first pre before at.pos book₀) → Lays (packs book₀) source at.first pre before slot at.pos bs after r book)
      → LaysLeft source left m t₀ t before slot at after r book₀ book
  laid_some {bs} {r} e h = record {
    cells = c;
    same = s;
    pages = p;
    gone = λ g. absurd (some_none (sym e ∙ g));
    stays = λ {bs = cs} g pre st. subst (λ (x : List (Option (List ℕ))). Lays (packs book₀) source at.first pre before slot at.pos x after r book) (some_same (sym e ∙ g)) (h pre st);
  }

  pub laid_none : left ≡ None → LaysLeft source left m t₀ t before slot at after 0 book₀ book
  laid_none e = record { cells = c; same = s; pages = p; gone = λ g. refl; stays = λ {bs = cs} g pre st. absurd (some_none (sym g ∙ e)) }

module _ {source : ℕ → Option (List ℕ)} {m : Map} {t₀ t before : List ℕ} {slot : ℕ} {at : Places} {after : List ℕ} {r : ℕ} {book₀ book : List ℕ} where
  -- the area before, said otherwise
  pub laid_said : {left : Option (List (Option (List ℕ)))} {mid : List ℕ} → mid ≡ before → LaysLeft source left m t₀ t mid slot at after r book₀ book → LaysLeft source left m t₀ t before slot at after r book₀ book
  laid_said e h = rw e at h

  -- the place is 0 if nothing is left
  pub laid_zero : (left : Option (List (Option (List ℕ)))) → LaysLeft source left m t₀ t before slot at after r book₀ book → (pre : List (Option (List ℕ))) → (at.pos ≤ length before → Stood (packs book₀) source at.first pre before at.pos book₀) → 0 < at.pos → r ≡ 0 → left ≡ None
  laid_zero None h pre st l z = refl
  laid_zero (Some bs) h pre st l z = absurd (omega (arith, ((h.stays refl pre st).fits (omega arith)).place))
