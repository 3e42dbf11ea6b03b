-- What the loops over glyphs and their runs keep, and what a coverage is made of by its format.
use Prim.Native.Nat.{ℕ, ◌+◌, ◌-◌, ◌*◌, ◌%◌, ◌≤◌, ◌<◌}
use mathlib.Core.Path.{◌≡◌, refl, sym, ap, ◌∙◌}
use mathlib.Core.Bool.{Bool, true, false, ◌&&◌}
use mathlib.Core.List.{List, [], ◌∷◌, map}
use native.Mathlib.Decide.{dec_lt}
use native.Mathlib.Omega.{arith}
use lib.ListN.{length, length-map}
use lib.Seq.{sets, length-sets}
use lib.Dec.{eqb}
use borrow.Author.Tests.{le-leb, lt-leb}
use Rattle.meaning.specs.Words.{bytes2, flat, threes}
use Rattle.meaning.specs.Layout.{join, runs, indexed, coverage_words}
use Rattle.laws.specs.Stands.{threes_length}
use Rattle.laws.specs.Runs.{indexed_length}
use Rattle.laws.specs.RunsLeft.{goes_on, from, runs_begin, runs_on_lem, runs_end, runs_on_count, runs_end_count, on_next}
use Rattle.laws.specs.Written.{Wrote, wrote_none, wrote_two, wrote_more}
use Rattle.laws.specs.ToWrite.{ToWrite, write_all, write_said, write_one, write_three, write_end}
use Rattle.area.specs.Extends.{Tried, tried_wrote, tried_over}
use Rattle.area.specs.Part.{part, part_length, part_all, part_left, part_none, news, new_at, classless, glyph_runs, CountsRuns}

-- a row that is being written leaves the length alone
pub to_write_length : {out₀ all out rest : List ℕ} {at p : ℕ} → ToWrite out₀ at all out p rest → length out ≡ length out₀
to_write_length {out₀} {all} {out} {rest} {at} {p} k = sym (length-sets out p (flat rest)) ∙ ap length k.bytes ∙ length-sets out₀ at (flat all)

-- Glyphs from the front.

module _ (t : List ℕ) (at n : ℕ) where
  -- those from the i-th on
  abbrev pub news_from : ℕ → List ℕ
  news_from i = news t (at + i) (n - i)

  -- the run that holds the i-th glyph goes on with the next one
  abbrev pub onward : ℕ → Bool
  onward i = goes_on (new_at t (at + i)) 0 (classless (news_from (i + 1)))

  news_length : length (news t at n) ≡ n
  news_length = length-map (part t at n) (λ c. c % 65536) ∙ part_length t at n

  news_all : news_from 0 ≡ news t at n
  news_all = ap (map (λ c. c % 65536)) (part_all t at n)

  news_left : (i : ℕ) → i < n → news_from i ≡ new_at t (at + i) ∷ news_from (i + 1)
  news_left i h = ap (map (λ c. c % 65536)) (part_left t at n i h)

  news_none : (i : ℕ) → n ≤ i → news_from i ≡ []
  news_none i h = ap (map (λ c. c % 65536)) (part_none t at n i h)

  -- the runs from the i-th glyph on begin with it
  runs_first : (i : ℕ) → from (new_at t (at + i)) (glyph_runs (news_from i)) ≡ glyph_runs (news_from i)
  unfolding runs from
  runs_first i = step (dec_lt i n)
    where
      step : Dec (i < n) → from (new_at t (at + i)) (glyph_runs (news_from i)) ≡ glyph_runs (news_from i)
      step (yes h) = rw (news_left i h) (runs_begin (new_at t (at + i)) 0 (classless (news_from (i + 1))))
      step (no h) = rw (news_none i (omega arith))

and_true : (b : Bool) → b ≡ b && true
and_true true = refl
and_true false = refl

module _ (t : List ℕ) (at n i : ℕ) where
  -- the last glyph ends its run; another does where the next glyph is no neighbour
  pub onward_last : n ≤ i + 1 → false ≡ onward t at n i
  unfolding goes_on
  onward_last h = rw (news_none t at n (i + 1) h)

  pub onward_next : {b : Bool} → i + 1 < n → b ≡ eqb (new_at t (at + i) + 1) (new_at t (at + i + 1)) → b ≡ onward t at n i
  unfolding goes_on
  onward_next h e =
      let f : at + i + 1 ≡ at + (i + 1) = omega arith in
      rw (news_left t at n (i + 1) h) (rw f at e ∙ and_true _)

-- What the loop of `count_runs` keeps: the runs that have ended, the open one, and those that are left are all.
pub record Counting (t : List ℕ) (at n count i : ℕ) : Type 0 where
  pub within : i < n
  pub near : count ≤ i + 1
  pub left : count + length (glyph_runs (news_from t at n i)) ≡ 1 + length (glyph_runs (news t at n))

module _ {t : List ℕ} {at n : ℕ} where
  pub counting_all : 0 < n → Counting t at n 1 0
  counting_all h = record { within = h; near = omega arith; left = rw (news_all t at n) }

  module _ {count i : ℕ} {b : Bool} (k : Counting t at n count i) (h : i < n - 1) (e : b ≡ eqb (new_at t (at + i) + 1) (new_at t (at + i + 1))) where
    pub counting_on : b ≡ true → Counting t at n count (i + 1)
    counting_on f =
        let goes = sym (onward_next t at n i (omega arith) e) ∙ f in
        let d = ap (λ (gs : List ℕ). length (glyph_runs gs)) (news_left t at n i (omega arith)) ∙ runs_on_count (new_at t (at + i)) 0 (classless (news_from t at n (i + 1))) goes in
        record { within = omega arith; near = omega (arith, k.near); left = rw d at k.left }

    pub counting_ends : b ≡ false → Counting t at n (count + 1) (i + 1)
    counting_ends f =
        let goes = sym (onward_next t at n i (omega arith) e) ∙ f in
        let d = ap (λ (gs : List ℕ). length (glyph_runs gs)) (news_left t at n i (omega arith)) ∙ runs_end_count (new_at t (at + i)) 0 (classless (news_from t at n (i + 1))) goes in
        record { within = omega arith; near = omega (arith, k.near); left = omega (arith, d, k.left) }

  pub counting_end : {count i : ℕ} → Counting t at n count i → n - 1 ≤ i → CountsRuns t at n count
  unfolding runs join
  counting_end {count} {i} k h =
      let last : i < n = k.within in
      let d = rw (news_left t at n i last, news_none t at n (i + 1) (omega arith)) at k.left in
      record { number = omega (arith, d); most = omega (arith, k.near, news_length t at n) }

-- What the loop of `put_glyphs` keeps: the glyphs that are left, written from p on, end the row.
pub record Listing (t : List ℕ) (at n : ℕ) (out₀ : List ℕ) (to : ℕ) (out : List ℕ) (p i : ℕ) : Type 0 where
  pub within : i ≤ n
  pub near : p ≡ to + 2 * i
  pub same : length out ≡ length out₀
  pub left : ToWrite out₀ to (news t at n) out p (news_from t at n i)

module _ {t : List ℕ} {at n : ℕ} {out₀ : List ℕ} {to : ℕ} where
  pub listing_all : Listing t at n out₀ to out₀ to 0
  listing_all = record { within = omega arith; near = omega arith; same = refl; left = write_said write_all (sym (news_all t at n)) }

  pub listing_turn : {out next : List ℕ} {p q i x : ℕ} → Listing t at n out₀ to out p i → i < n
      → x ≡ new_at t (at + i) → (q ≡ p + 2) × (next ≡ sets out p (bytes2 x)) → Listing t at n out₀ to next q (i + 1)
  listing_turn {out} {p = p} {i = i} {x} k h e f = record {
    within = omega arith;
    near = omega (arith, k.near);
    same = ap length f.1 ∙ length-sets out p (bytes2 x) ∙ k.same;
    left = write_one (write_said k.left (rw e (news_left t at n i h))) f;
  }

  pub listing_end : {out : List ℕ} {p i : ℕ} → Listing t at n out₀ to out p i → n ≤ i → Wrote out₀ to (news t at n) out p
  listing_end {i = i} k h = write_end (write_said k.left (news_none t at n i h))

-- What the loop of `put_ranges` keeps: a run is open since the glyph at `first`, and each glyph of it is one more than the one before;
-- this run and those that are left, written from p on with the glyphs before each counted, end the row, which has room.
pub record Ranging (t : List ℕ) (at n : ℕ) (out₀ : List ℕ) (to : ℕ) (out : List ℕ) (p first i : ℕ) : Type 0 where
  pub within : i ≤ n
  pub order : first ≤ i
  pub room : to + 6 * length (glyph_runs (news t at n)) ≤ length out₀
  pub steps : i < n → new_at t (at + i) + first ≡ new_at t (at + first) + i
  pub left : ToWrite out₀ to (threes (indexed 0 (glyph_runs (news t at n)))) out p (threes (indexed first (from (new_at t (at + first)) (glyph_runs (news_from t at n i)))))

module _ {t : List ℕ} {at n : ℕ} {out₀ : List ℕ} {to : ℕ} where
  pub ranging_all : to + 6 * length (glyph_runs (news t at n)) ≤ length out₀ → Ranging t at n out₀ to out₀ to 0 0
  ranging_all h = record {
    within = omega arith;
    order = omega arith;
    room = h;
    steps = λ l. refl;
    left = write_said write_all (ap (λ (rs : List (ℕ × ℕ × ℕ)). threes (indexed 0 rs)) (ap glyph_runs (sym (news_all t at n)) ∙ sym (runs_first t at n 0)));
  }

  module _ {out : List ℕ} {p first i : ℕ} {b : Bool} (k : Ranging t at n out₀ to out p first i) (h : i < n) (e : b ≡ onward t at n i) where
    -- the glyph's run stays open
    pub ranging_on : b ≡ true → Ranging t at n out₀ to out p first (i + 1)
    ranging_on f =
        let goes = sym e ∙ f in
        record {
          within = omega arith;
          order = omega (arith, k.order);
          room = k.room;
          steps = λ l. omega (arith, k.steps h, on_next (new_at t (at + i)) 0 _ _ (rw (news_left t at n (i + 1) l) at goes));
          left = write_said k.left (ap (λ (rs : List (ℕ × ℕ × ℕ)). threes (indexed first rs))
              (ap (λ (gs : List ℕ). from (new_at t (at + first)) (glyph_runs gs)) (news_left t at n i h) ∙ runs_on_lem (new_at t (at + first)) (new_at t (at + i)) 0 _ goes));
        }

    -- what is left begins with the run that the glyph ends
    closed : b ≡ false → ToWrite out₀ to (threes (indexed 0 (glyph_runs (news t at n)))) out p (new_at t (at + first) ∷ new_at t (at + i) ∷ first ∷ threes (indexed (i + 1) (glyph_runs (news_from t at n (i + 1)))))
    unfolding threes indexed
    closed f =
        let before : first + (new_at t (at + i) + 1 - new_at t (at + first)) ≡ i + 1 = omega (arith, k.steps h, k.order) in
        let rs = ap (λ (gs : List ℕ). from (new_at t (at + first)) (glyph_runs gs)) (news_left t at n i h) ∙ runs_end (new_at t (at + first)) (new_at t (at + i)) 0 _ (sym e ∙ f) in
        rw before at (write_said k.left (ap (λ (rs : List (ℕ × ℕ × ℕ)). threes (indexed first rs)) rs))

    -- it has room
    pub ranging_room : b ≡ false → p + 5 < length out
    ranging_room f =
        let rs = glyph_runs (news t at n) in
        omega (arith, k.room, (closed f).place, to_write_length k.left, threes_length (indexed 0 rs), indexed_length 0 rs)

    -- the glyph ends its run, and the run is written
    pub ranging_ends : {next : List ℕ} {q x y : ℕ} → b ≡ false → x ≡ new_at t (at + first) → y ≡ new_at t (at + i)
        → (q ≡ p + 6) × (next ≡ sets out p (flat (x ∷ y ∷ first ∷ []))) → Ranging t at n out₀ to next q (i + 1) (i + 1)
    ranging_ends f ex ey w = record {
      within = omega arith;
      order = omega arith;
      room = k.room;
      steps = λ l. refl;
      left = rw (runs_first t at n (i + 1)) (write_three (rw (← ex, ← ey) at (closed f)) w);
    }

  pub ranging_end : {out : List ℕ} {p first i : ℕ} → Ranging t at n out₀ to out p first i → n ≤ i → Wrote out₀ to (threes (indexed 0 (glyph_runs (news t at n)))) out p
  unfolding threes indexed runs from
  ranging_end {i = i} k h = write_end (rw (news_none t at n i h) at k.left)

-- The smaller format.

module _ {t : List ℕ} {at n r : ℕ} (k : CountsRuns t at n r) where
  words_listed : n ≤ 3 * r → coverage_words (news t at n) ≡ 1 ∷ n ∷ news t at n
  unfolding coverage_words
  words_listed h = rw (news_length t at n, ← k.number, le-leb (4 + 2 * n) (4 + 6 * r) (omega arith))

  words_ranged : 3 * r < n → coverage_words (news t at n) ≡ 2 ∷ r ∷ threes (indexed 0 (glyph_runs (news t at n)))
  unfolding coverage_words
  words_ranged h = rw (news_length t at n, ← k.number, lt-leb (4 + 2 * n) (4 + 6 * r) (omega arith))

  length_listed : n ≤ 3 * r → 2 * length (coverage_words (news t at n)) ≡ 4 + 2 * n
  length_listed h = rw (words_listed h) (omega (arith, news_length t at n))

  length_ranged : 3 * r < n → 2 * length (coverage_words (news t at n)) ≡ 4 + 6 * r
  length_ranged h = rw (words_ranged h) (omega (arith, k.number, threes_length (indexed 0 (glyph_runs (news t at n))), indexed_length 0 (glyph_runs (news t at n))))

  -- no room
  pub over_listed : {a : List ℕ} {p q : ℕ} → n ≤ 3 * r → length a < p + 4 + 2 * n → length a < q → Tried a p (coverage_words (news t at n)) a q
  over_listed h l m = tried_over m (omega (arith, length_listed h))

  pub over_ranged : {a : List ℕ} {p q : ℕ} → 3 * r < n → length a < p + 4 + 6 * r → length a < q → Tried a p (coverage_words (news t at n)) a q
  over_ranged h l m = tried_over m (omega (arith, length_ranged h))

  -- the format and the count, and what follows them
  pub cover_listed : {a b c : List ℕ} {p q z : ℕ} → n ≤ 3 * r → p + 4 + 2 * n ≤ length a → (q ≡ p + 4) × (b ≡ sets a p (flat (1 ∷ n ∷ [])))
      → Wrote b q (news t at n) c z → Tried a p (coverage_words (news t at n)) c z
  cover_listed h l w v = tried_wrote (rw (words_listed h) (wrote_more (news t at n) (wrote_two 1 n wrote_none w) v.place v.bytes)) (omega (arith, length_listed h))

  pub cover_ranged : {a b c : List ℕ} {p q z : ℕ} → 3 * r < n → p + 4 + 6 * r ≤ length a → (q ≡ p + 4) × (b ≡ sets a p (flat (2 ∷ r ∷ [])))
      → Wrote b q (threes (indexed 0 (glyph_runs (news t at n)))) c z → Tried a p (coverage_words (news t at n)) c z
  cover_ranged h l w v =
      tried_wrote (rw (words_ranged h) (wrote_more (threes (indexed 0 (glyph_runs (news t at n)))) (wrote_two 2 r wrote_none w) v.place v.bytes)) (omega (arith, length_ranged h))
