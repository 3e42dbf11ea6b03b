-- What the loops over entries of classes and their runs keep, and what a class table is made of by its format.
use Prim.Native.Nat.{ℕ, zero, suc, ◌+◌, ◌-◌, ◌*◌, ◌/◌, ◌%◌, ◌≤◌, ◌<◌}
use mathlib.Core.Path.{◌≡◌, refl, sym, ap, ◌∙◌}
use mathlib.Core.Bool.{Bool, true, false, cond, ◌&&◌}
use mathlib.Core.List.{List, [], ◌∷◌, ◌++◌, map}
use native.Mathlib.Decide.{dec_lt}
use native.Mathlib.Omega.{arith}
use lib.ListN.{length, get_or, replicate, take, drop, length-append, length-drop, length-replicate, length-map}
use Rattle.std.proofs.lemmas.List.{length-take-le}
use borrow.Rule.Slice.PartMut.{put_mid}
use lib.Seq.{sets, length-sets}
use lib.Dec.{leb, eqb}
use borrow.Author.Tests.{le-leb, lt-leb, eq-eqb, ne_eqb, eqb-true, eqb-false}
use Rattle.meaning.specs.Words.{bytes2, flat, threes, keys, ascends}
use Rattle.meaning.specs.Layout.{join, runs, spread, class_words}
use Rattle.laws.specs.Stands.{threes_length}
use Rattle.laws.specs.Runs.{Up}
use Rattle.laws.specs.SoundGood.{ascends_up}
use Rattle.laws.specs.RunsLeft.{goes_on, from, runs_begin, runs_on_lem, runs_end, runs_on_count, runs_end_count}
use Rattle.laws.specs.Written.{Wrote, wrote_none, wrote_two, wrote_three, wrote_more, wrote_said, wrote_length, sets_flat}
use Rattle.laws.specs.ToWrite.{ToWrite, write_all, write_said, write_one, write_three, write_end}
use Rattle.area.specs.Extends.{Tried, tried_wrote, tried_over}
use Rattle.area.specs.AtOnce.{at_once}
use Rattle.area.specs.Part.{part, part_length, part_all, part_left, part_none, notes, new_at, old_at, CountsClasses}
use Rattle.area_parts.proofs.Cover.{to_write_length}

-- Entries from the front.

-- a cell as an entry
abbrev note : ℕ → ℕ × ℕ
note c = (c / 65536, c % 65536)

module _ (t : List ℕ) (at n : ℕ) where
  -- those from the i-th on
  abbrev pub notes_from : ℕ → List (ℕ × ℕ)
  notes_from i = notes t (at + i) (n - i)

  -- the run that holds the i-th entry goes on with the next one
  abbrev pub onward : ℕ → Bool
  onward i = goes_on (old_at t (at + i)) (new_at t (at + i)) (notes_from (i + 1))

  notes_length : length (notes t at n) ≡ n
  notes_length = length-map (part t at n) note ∙ part_length t at n

  notes_all : notes_from 0 ≡ notes t at n
  notes_all = ap (map note) (part_all t at n)

  notes_left : (i : ℕ) → i < n → notes_from i ≡ (old_at t (at + i), new_at t (at + i)) ∷ notes_from (i + 1)
  notes_left i h = ap (map note) (part_left t at n i h)

  notes_none : (i : ℕ) → n ≤ i → notes_from i ≡ []
  notes_none i h = ap (map note) (part_none t at n i h)

  -- the runs from the i-th entry on begin with it
  runs_first : (i : ℕ) → from (old_at t (at + i)) (runs (notes_from i)) ≡ runs (notes_from i)
  unfolding runs from
  runs_first i = step (dec_lt i n)
    where
      step : Dec (i < n) → from (old_at t (at + i)) (runs (notes_from i)) ≡ runs (notes_from i)
      step (yes h) = rw (notes_left i h) (runs_begin (old_at t (at + i)) (new_at t (at + i)) (notes_from (i + 1)))
      step (no h) = rw (notes_none i (omega arith))

-- one more glyph of the same class, as one sum
one_sum : (c e : ℕ) → eqb (c + 65536) e ≡ eqb (c / 65536 + 1) (e / 65536) && eqb (c % 65536) (e % 65536)
one_sum c e = step (eqb (c / 65536 + 1) (e / 65536)) (eqb (c % 65536) (e % 65536)) refl refl
  where
    step : (u v : Bool) → eqb (c / 65536 + 1) (e / 65536) ≡ u → eqb (c % 65536) (e % 65536) ≡ v → eqb (c + 65536) e ≡ u && v
    step true true h k = eq-eqb (c + 65536) e (omega (arith, eqb-true (c / 65536 + 1) (e / 65536) h, eqb-true (c % 65536) (e % 65536) k))
    step true false h k = ne_eqb (c + 65536) e (λ m. eqb-false (c % 65536) (e % 65536) k (omega (arith, m)))
    step false v h k = ne_eqb (c + 65536) e (λ m. eqb-false (c / 65536 + 1) (e / 65536) h (omega (arith, m)))

module _ (t : List ℕ) (at n i : ℕ) where
  pub onward_last : n ≤ i + 1 → false ≡ onward t at n i
  unfolding goes_on
  onward_last h = rw (notes_none t at n (i + 1) h)

  pub onward_next : {b : Bool} → i + 1 < n → b ≡ eqb (get_or t (at + i) 0 + 65536) (get_or t (at + i + 1) 0) → b ≡ onward t at n i
  unfolding goes_on
  onward_next h e =
      let f : at + i + 1 ≡ at + (i + 1) = omega arith in
      rw (notes_left t at n (i + 1) h) (rw f at e ∙ one_sum (get_or t (at + i) 0) (get_or t (at + (i + 1)) 0))

-- What the loop of `class_runs` keeps: the runs that have ended, the open one, and those that are left are all.
pub record Counting (t : List ℕ) (at n count i : ℕ) : Type 0 where
  pub within : i < n
  pub near : count ≤ i + 1
  pub left : count + length (runs (notes_from t at n i)) ≡ 1 + length (runs (notes t at n))

module _ {t : List ℕ} {at n : ℕ} where
  pub counting_all : 0 < n → Counting t at n 1 0
  counting_all h = record { within = h; near = omega arith; left = rw (notes_all t at n) }

  module _ {count i : ℕ} {b : Bool} (k : Counting t at n count i) (h : i < n - 1) (e : b ≡ eqb (get_or t (at + i) 0 + 65536) (get_or t (at + i + 1) 0)) where
    pub counting_on : b ≡ true → Counting t at n count (i + 1)
    counting_on f =
        let goes = sym (onward_next t at n i (omega arith) e) ∙ f in
        let d = ap (λ (es : List (ℕ × ℕ)). length (runs es)) (notes_left t at n i (omega arith)) ∙ runs_on_count (old_at t (at + i)) (new_at t (at + i)) (notes_from t at n (i + 1)) goes in
        record { within = omega arith; near = omega (arith, k.near); left = rw d at k.left }

    pub counting_ends : b ≡ false → Counting t at n (count + 1) (i + 1)
    counting_ends f =
        let goes = sym (onward_next t at n i (omega arith) e) ∙ f in
        let d = ap (λ (es : List (ℕ × ℕ)). length (runs es)) (notes_left t at n i (omega arith)) ∙ runs_end_count (old_at t (at + i)) (new_at t (at + i)) (notes_from t at n (i + 1)) goes in
        record { within = omega arith; near = omega (arith, k.near); left = omega (arith, d, k.left) }

  pub counting_end : {count i : ℕ} → Counting t at n count i → n - 1 ≤ i → CountsClasses t at n count
  unfolding runs join
  counting_end {count} {i} k h =
      let last : i < n = k.within in
      let d = rw (notes_left t at n i last, notes_none t at n (i + 1) (omega arith)) at k.left in
      record { number = omega (arith, d); most = omega (arith, k.near) }

-- What the loop of `put_class_ranges` keeps: the runs of what is left, the first of which began at the entry `first`, are to be written, and have room.
pub record Ranging (t : List ℕ) (at n : ℕ) (out₀ : List ℕ) (to : ℕ) (out : List ℕ) (p first i : ℕ) : Type 0 where
  pub within : i ≤ n
  pub order : first ≤ i
  pub room : to + 6 * length (runs (notes t at n)) ≤ length out₀
  pub left : ToWrite out₀ to (threes (runs (notes t at n))) out p (threes (from (old_at t (at + first)) (runs (notes_from t at n i))))

module _ {t : List ℕ} {at n : ℕ} {out₀ : List ℕ} {to : ℕ} where
  pub ranging_all : to + 6 * length (runs (notes t at n)) ≤ length out₀ → Ranging t at n out₀ to out₀ to 0 0
  ranging_all h = record {
    within = omega arith;
    order = omega arith;
    room = h;
    left = write_said write_all (ap threes (ap runs (sym (notes_all t at n)) ∙ sym (runs_first t at n 0)));
  }

  module _ {out : List ℕ} {p first i : ℕ} {b : Bool} (k : Ranging t at n out₀ to out p first i) (h : i < n) (e : b ≡ onward t at n i) where
    -- the run stays open
    pub ranging_on : b ≡ true → Ranging t at n out₀ to out p first (i + 1)
    ranging_on f = record {
      within = omega arith;
      order = omega (arith, k.order);
      room = k.room;
      left = write_said k.left (ap threes (ap (λ (es : List (ℕ × ℕ)). from (old_at t (at + first)) (runs es)) (notes_left t at n i h) ∙ runs_on_lem (old_at t (at + first)) (old_at t (at + i)) (new_at t (at + i)) _ (sym e ∙ f)));
    }

    -- what is left begins with the run that ends
    closed : b ≡ false → ToWrite out₀ to (threes (runs (notes t at n))) out p (old_at t (at + first) ∷ old_at t (at + i) ∷ new_at t (at + i) ∷ threes (runs (notes_from t at n (i + 1))))
    unfolding threes
    closed f = write_said k.left (ap threes (ap (λ (es : List (ℕ × ℕ)). from (old_at t (at + first)) (runs es)) (notes_left t at n i h) ∙ runs_end (old_at t (at + first)) (old_at t (at + i)) (new_at t (at + i)) _ (sym e ∙ f)))

    -- it has room
    pub ranging_room : b ≡ false → p + 5 < length out
    ranging_room f = omega (arith, k.room, (closed f).place, to_write_length k.left, threes_length (runs (notes t at n)))

    -- it is written
    pub ranging_ends : {next : List ℕ} {q x y z : ℕ} → b ≡ false → x ≡ old_at t (at + first) → y ≡ old_at t (at + i) → z ≡ new_at t (at + i)
        → (q ≡ p + 6) × (next ≡ sets out p (flat (x ∷ y ∷ z ∷ []))) → Ranging t at n out₀ to next q (i + 1) (i + 1)
    ranging_ends f ex ey ez w = record {
      within = omega arith;
      order = omega arith;
      room = k.room;
      left = rw (runs_first t at n (i + 1)) (write_three (rw (← ex, ← ey, ← ez) at (closed f)) w);
    }

  pub ranging_end : {out : List ℕ} {p first i : ℕ} → Ranging t at n out₀ to out p first i → n ≤ i → Wrote out₀ to (threes (runs (notes t at n))) out p
  unfolding threes runs from
  ranging_end {i = i} k h = write_end (rw (notes_none t at n i h) at k.left)

-- The class array.

-- as many bytes 0 as n words 0 have
flat_zeros : (n : ℕ) → replicate (2 * n) 0 ≡ flat (replicate n 0)
unfolding flat bytes2
flat_zeros zero = refl
flat_zeros (suc n) =
    let e : 2 * suc n ≡ suc (suc (2 * n)) = omega arith in
    rw e (ap (λ (l : List ℕ). 0 ∷ 0 ∷ l) (flat_zeros n))

-- bytes that are filled with 0 are words 0
pub zeroed : (out : List ℕ) {ys : List ℕ} (to n : ℕ) → to + 2 * n ≤ length out → ys ≡ replicate (length (take (to + 2 * n - to) (drop to out))) 0 → Wrote out to (replicate n 0) (put_mid to (to + 2 * n - to) out ys) (to + 2 * n)
zeroed out {ys} to n h e =
    let b : to + 2 * n - to ≡ 2 * n = omega arith in
    let k : length (take (2 * n) (drop to out)) ≡ 2 * n = length-take-le (2 * n) (drop to out) (omega (arith, length-drop to out)) in
    let p : ys ≡ flat (replicate n 0) = rw (b, k) at e ∙ flat_zeros n in
    let l : length (flat (replicate n 0)) ≡ 2 * n = ap length (sym (flat_zeros n)) ∙ length-replicate (2 * n) 0 in
    record { place = omega (arith, length-replicate {A = ℕ} n 0); bytes = rw (b, p) (at_once to (2 * n) out (flat (replicate n 0)) l h) }

-- a row of words was written, of what is left to write
write_row : {out₀ : List ℕ} {at : ℕ} {all out next rest : List ℕ} {p q : ℕ} (vs : List ℕ) → ToWrite out₀ at all out p (vs ++ rest) → Wrote out p vs next q → ToWrite out₀ at all next q rest
write_row {out = out} {rest = rest} {p} vs k w = record {
  place = omega (arith, k.place, w.place, length-append vs rest);
  bytes = rw (w.bytes, w.place) (sets_flat out p vs rest ∙ k.bytes);
}

-- the ids from g on end with the last glyph
spread_length : (g : ℕ) (es : List (ℕ × ℕ)) (k : ℕ) → Up g (keys es) → length es ≡ suc k → g + length (spread g es) ≡ get_or (keys es) k 0 + 1
unfolding spread keys
spread_length g [] k u e = absurd (omega arith)
spread_length g ((h, c) ∷ []) zero u e = omega (arith, length-append (replicate (h - g) 0) (c ∷ []), length-replicate {A = ℕ} (h - g) 0)
spread_length g ((h, c) ∷ []) (suc k) u e = absurd (omega arith)
spread_length g ((h, c) ∷ (e₁ ∷ r)) zero u e = absurd (omega arith)
spread_length g ((h, c) ∷ (e₁ ∷ r)) (suc k) u e =
    omega (arith, length-append (replicate (h - g) 0) (c ∷ spread (h + 1) (e₁ ∷ r)), length-replicate {A = ℕ} (h - g) 0, spread_length (h + 1) (e₁ ∷ r) k u.1 (omega arith))

-- the glyph of the k-th entry
key_at : (t : List ℕ) (at n k : ℕ) → k < n → get_or (keys (notes t at n)) k 0 ≡ old_at t (at + k)
unfolding part keys
key_at t at zero k h = absurd (omega arith)
key_at t at (suc n) zero h =
    let e : at + 0 ≡ at = omega arith in
    rw e
key_at t at (suc n) (suc k) h =
    let e : at + suc k ≡ at + 1 + k = omega arith in
    rw e (key_at t (at + 1) n k (omega arith))

module _ (t : List ℕ) (at n : ℕ) (l : 0 < n) (h : ascends (keys (notes t at n)) ≡ true) where
  -- the entries ascend from the first one's glyph on
  notes_up : Up (old_at t at) (keys (notes t at n))
  notes_up = ascends_up (old_at t at) (keys (notes t at n)) h (λ g r e.
      let z : at + 0 ≡ at = omega arith in
      let f : g ≡ old_at t (at + 0) = ap (λ (ks : List ℕ). get_or ks 0 0) (sym e) ∙ key_at t at n 0 l in
      let k : g ≡ old_at t at = rw z at f in
      omega (arith, k))

  all_ids : old_at t at + length (spread (old_at t at) (notes t at n)) ≡ old_at t (at + n - 1) + 1
  all_ids =
      let e : at + (n - 1) ≡ at + n - 1 = omega arith in
      let k : get_or (keys (notes t at n)) (n - 1) 0 ≡ old_at t (at + n - 1) = rw e at (key_at t at n (n - 1) (omega arith)) in
      omega (arith, k, spread_length (old_at t at) (notes t at n) (n - 1) notes_up (omega (arith, notes_length t at n)))

  module _ {first last : ℕ} (e : first ≡ old_at t at) (f : last ≡ old_at t (at + n - 1)) where
    -- the first glyph is at most the last
    pub ids_order : first ≤ last + 1
    ids_order = omega (arith, all_ids, e, f)

    -- how many glyphs there are from the first to the last
    pub ids_counted : last + 1 - first ≡ length (spread (old_at t at) (notes t at n))
    ids_counted = omega (arith, all_ids, e, f)

-- What the loop of `put_class_array` keeps: the classes of the glyphs from g on are to be written, and have room, and no glyph that is left is below g.
pub record Spreading (t : List ℕ) (at n : ℕ) (out₀ : List ℕ) (to : ℕ) (out : List ℕ) (p g i : ℕ) : Type 0 where
  pub within : i ≤ n
  pub room : to + 2 * length (spread (old_at t at) (notes t at n)) ≤ length out₀
  pub rise : Up g (keys (notes_from t at n i))
  pub left : ToWrite out₀ to (spread (old_at t at) (notes t at n)) out p (spread g (notes_from t at n i))

module _ {t : List ℕ} {at n : ℕ} {out₀ : List ℕ} {to : ℕ} where
  pub spreading_all : {g : ℕ} → 0 < n → to + 2 * length (spread (old_at t at) (notes t at n)) ≤ length out₀ → ascends (keys (notes t at n)) ≡ true → g ≡ old_at t at → Spreading t at n out₀ to out₀ to g 0
  spreading_all {g} l r h e = record {
    within = omega arith;
    room = r;
    rise = rw (notes_all t at n, e) (notes_up t at n l h);
    left = write_said write_all (rw (e, notes_all t at n));
  }

  module _ {out : List ℕ} {p g i x : ℕ} (h : Spreading t at n out₀ to out p g i) (l : i < n) (e : x ≡ old_at t (at + i)) where
    -- the next glyph is not below g
    pub spreading_up : g ≤ x
    unfolding keys
    spreading_up = rw e (rw (notes_left t at n i l) at h.rise).0

    -- the glyphs after it
    next_up : Up (x + 1) (keys (notes_from t at n (i + 1)))
    unfolding keys
    next_up = rw e (rw (notes_left t at n i l) at h.rise).1

    -- what is left: a gap, the class, and the others
    now : spread g (notes_from t at n i) ≡ replicate (x - g) 0 ++ (new_at t (at + i) ∷ spread (x + 1) (notes_from t at n (i + 1)))
    unfolding spread
    now = rw (notes_left t at n i l, e)

    -- there is room for the gap and the class
    pub spreading_room : p + 2 * (x - g) + 2 ≤ length out
    spreading_room =
        omega (arith, h.room, h.left.place, to_write_length h.left, ap length now, length-append (replicate (x - g) 0) (new_at t (at + i) ∷ spread (x + 1) (notes_from t at n (i + 1))), length-replicate {A = ℕ} (x - g) 0)

    -- and still for the class after the gap is written
    pub spreading_class : {q : ℕ} {one : List ℕ} → Wrote out p (replicate (x - g) 0) one q → q + 1 < length one
    spreading_class w = omega (arith, spreading_room, w.place, wrote_length w, length-replicate {A = ℕ} (x - g) 0)

    pub spreading_turn : {q r c : ℕ} {one two : List ℕ} → Wrote out p (replicate (x - g) 0) one q → c ≡ new_at t (at + i)
        → (r ≡ q + 2) × (two ≡ sets one q (bytes2 c)) → Spreading t at n out₀ to two r (x + 1) (i + 1)
    spreading_turn w f v = record {
      within = omega arith;
      room = h.room;
      rise = next_up;
      left = write_one (rw (← f) at (write_row (replicate (x - g) 0) (write_said h.left now) w)) v;
    }

  pub spreading_end : {out : List ℕ} {p g i : ℕ} → Spreading t at n out₀ to out p g i → n ≤ i → Wrote out₀ to (spread (old_at t at) (notes t at n)) out p
  unfolding spread
  spreading_end {i = i} h l = write_end (write_said h.left (rw (notes_none t at n i l)))

-- The smaller format.

words_by : (t : List ℕ) (at n : ℕ) → 0 < n → class_words (notes t at n)
    ≡ cond (leb (6 + 2 * length (spread (old_at t at) (notes t at n))) (4 + 6 * length (runs (notes t at n))))
    (1 ∷ old_at t at ∷ length (spread (old_at t at) (notes t at n)) ∷ spread (old_at t at) (notes t at n))
    (2 ∷ length (runs (notes t at n)) ∷ threes (runs (notes t at n)))
unfolding class_words part
words_by t at zero h = absurd (omega arith)
words_by t at (suc n) h = refl

module _ (t : List ℕ) (at n : ℕ) where
  -- nothing is listed
  none_words : n ≡ 0 → class_words (notes t at n) ≡ 2 ∷ 0 ∷ []
  unfolding class_words part
  none_words e = rw e

  pub classes_over : {a : List ℕ} {p r : ℕ} → n ≡ 0 → length a < p + 4 → length a < r → Tried a p (class_words (notes t at n)) a r
  classes_over e l m = tried_over m (omega (arith, ap length (none_words e)))

  pub classes_none : {a b : List ℕ} {p q : ℕ} → n ≡ 0 → p + 4 ≤ length a → (q ≡ p + 4) × (b ≡ sets a p (flat (2 ∷ 0 ∷ []))) → Tried a p (class_words (notes t at n)) b q
  classes_none e l w = tried_wrote (wrote_said (wrote_two 2 0 wrote_none w) (sym (none_words e))) (omega (arith, ap length (none_words e)))

  module _ (h : 0 < n) {ids k : ℕ} (e : ids ≡ length (spread (old_at t at) (notes t at n))) (f : CountsClasses t at n k) where
    words_array : 6 + 2 * ids ≤ 4 + 6 * k → class_words (notes t at n) ≡ 1 ∷ old_at t at ∷ ids ∷ spread (old_at t at) (notes t at n)
    words_array l = rw (words_by t at n h, ← e, ← f.number, le-leb (6 + 2 * ids) (4 + 6 * k) l)

    words_ranges : 4 + 6 * k < 6 + 2 * ids → class_words (notes t at n) ≡ 2 ∷ k ∷ threes (runs (notes t at n))
    words_ranges l = rw (words_by t at n h, ← e, ← f.number, lt-leb (6 + 2 * ids) (4 + 6 * k) l)

    size_array : 6 + 2 * ids ≤ 4 + 6 * k → 6 + 2 * ids ≡ 2 * length (class_words (notes t at n))
    size_array l = omega (arith, e, ap length (words_array l))

    size_ranges : 4 + 6 * k < 6 + 2 * ids → 4 + 6 * k ≡ 2 * length (class_words (notes t at n))
    size_ranges l = omega (arith, f.number, ap length (words_ranges l), threes_length (runs (notes t at n)))

    pub over_array : {a : List ℕ} {p r : ℕ} → 6 + 2 * ids ≤ 4 + 6 * k → length a < p + 6 + 2 * ids → length a < r → Tried a p (class_words (notes t at n)) a r
    over_array l m o = tried_over o (omega (arith, size_array l))

    pub over_ranges : {a : List ℕ} {p r : ℕ} → 4 + 6 * k < 6 + 2 * ids → length a < p + 4 + 6 * k → length a < r → Tried a p (class_words (notes t at n)) a r
    over_ranges l m o = tried_over o (omega (arith, size_ranges l))

    pub classes_array : {a b c : List ℕ} {p q z g : ℕ} → 6 + 2 * ids ≤ 4 + 6 * k → p + 6 + 2 * ids ≤ length a → g ≡ old_at t at → (q ≡ p + 6) × (b ≡ sets a p (flat (1 ∷ g ∷ ids ∷ [])))
        → Wrote b q (spread (old_at t at) (notes t at n)) c z → Tried a p (class_words (notes t at n)) c z
    classes_array {g = g} l m d v w =
        tried_wrote (wrote_said (wrote_more (spread (old_at t at) (notes t at n)) (wrote_three 1 g ids wrote_none v) w.place w.bytes) (rw (words_array l, d))) (omega (arith, size_array l))

    pub classes_ranges : {a b c : List ℕ} {p q z : ℕ} → 4 + 6 * k < 6 + 2 * ids → p + 4 + 6 * k ≤ length a → (q ≡ p + 4) × (b ≡ sets a p (flat (2 ∷ k ∷ [])))
        → Wrote b q (threes (runs (notes t at n))) c z → Tried a p (class_words (notes t at n)) c z
    classes_ranges l m v w =
        tried_wrote (wrote_said (wrote_more (threes (runs (notes t at n))) (wrote_two 2 k wrote_none v) w.place w.bytes) (rw (words_ranges l))) (omega (arith, size_ranges l))
