-- Two coverages walked by stretches.
use Prim.Native.Nat.{ℕ, zero, suc, ◌+◌, ◌-◌, ◌*◌, ◌≤◌, ◌<◌, max}
use mathlib.Core.Path.{◌≡◌, refl, sym, ap, ◌∙◌}
use mathlib.Core.Bool.{Bool, true, false, cond, ◌&&◌, ◌||◌}
use mathlib.Core.List.{List, [], ◌∷◌, ◌++◌, append_assoc}
use native.Mathlib.Decide.{dec_lt}
use native.Mathlib.Omega.{arith}
use lib.Dec.{leb, eqb}
use borrow.Author.Tests.{eq-eqb, ne_eqb, le-leb, lt-leb, leb-true, eqb-true, eqb-false}
use Rattle.meaning.specs.Words.{word, words, triples, inside, up_from}
use Rattle.meaning.specs.Parts.{span, range_glyphs, ranges_ascend, coverage, coverage_sound}
use Rattle.laws.specs.Runs.{both}
use Rattle.laws.specs.Stands.{All}
use Rattle.differences.specs.Entries.{same_list}
use Rattle.cover_differences.specs.Stretches.{first_at, last_at, stretches, glyphs_in, glyphs_past, count_at, cover_at, sound_at}

-- Spans.

-- the first glyph of a span, and the others
pub span_front : (a z : ℕ) → a ≤ z → span a z ≡ a ∷ span (a + 1) z
unfolding span up_from
span_front a z h =
    let e : z + 1 - a ≡ suc (z + 1 - (a + 1)) = omega arith in
    rw e

pub span_one : (a : ℕ) → span a a ≡ a ∷ []
unfolding span up_from
span_one a =
    let e : a + 1 - a ≡ suc 0 = omega arith in
    rw e

up_split : (a m n : ℕ) → up_from a (m + n) ≡ up_from a m ++ up_from (a + m) n
unfolding up_from
up_split a zero n =
    let e : a + 0 ≡ a = omega arith in
    let f : 0 + n ≡ n = omega arith in
    rw (e, f)
up_split a (suc m) n =
    let e : a + suc m ≡ a + 1 + m = omega arith in
    let f : suc m + n ≡ suc (m + n) = omega arith in
    rw (e, f) (ap (λ (l : List ℕ). a ∷ l) (up_split (a + 1) m n))

-- a span in two
span_split : (a z w : ℕ) → a ≤ z → z < w → span a w ≡ span a z ++ span (z + 1) w
unfolding span
span_split a z w h k =
    let e : w + 1 - a ≡ (z + 1 - a) + (w + 1 - (z + 1)) = omega arith in
    let f : a + (z + 1 - a) ≡ z + 1 = omega arith in
    rw e (rw f at (up_split a (z + 1 - a) (w + 1 - (z + 1))))

-- Equal lists.

-- what both begin with is passed
eq_after : (p l r : List ℕ) → same_list eqb (p ++ l) (p ++ r) ≡ same_list eqb l r
unfolding same_list
eq_after [] l r = refl
eq_after (x ∷ p) l r = rw (eq-eqb x x refl) (eq_after p l r)

eq_swap : (l r : List ℕ) → same_list eqb l r ≡ same_list eqb r l
unfolding same_list
eq_swap [] [] = refl
eq_swap [] (b ∷ r) = refl
eq_swap (a ∷ l) [] = refl
eq_swap (a ∷ l) (b ∷ r) = step (eqb a b) refl (eqb b a) refl (eq_swap l r)
  where
    step : (t : Bool) → eqb a b ≡ t → (u : Bool) → eqb b a ≡ u → same_list eqb l r ≡ same_list eqb r l → t && same_list eqb l r ≡ u && same_list eqb r l
    step true e true f h = h
    step false e false f h = refl
    step true e false f h = absurd (eqb-false b a f (sym (eqb-true a b e)))
    step false e true f h = absurd (eqb-false a b e (sym (eqb-true b a f)))

-- spans that begin differently, that begin alike and end alike, and that begin alike, the first ending lower
module _ (p z q w : ℕ) (l r : List ℕ) (a : p ≤ z) (b : q ≤ w) where
  spans_differ : (p ≡ q → ⊥) → same_list eqb (span p z ++ l) (span q w ++ r) ≡ false
  unfolding same_list
  spans_differ h = rw (span_front p z a, span_front q w b, ne_eqb p q h)

  spans_same : p ≡ q → z ≡ w → same_list eqb (span p z ++ l) (span q w ++ r) ≡ same_list eqb l r
  spans_same h k = rw (← h, ← k) (eq_after (span p z) l r)

  spans_lower : p ≡ q → z < w → same_list eqb (span p z ++ l) (span q w ++ r) ≡ same_list eqb l (span (z + 1) w ++ r)
  spans_lower h k = rw (← h, span_split p z w a k, append_assoc (span p z) (span (z + 1) w) r) (eq_after (span p z) l (span (z + 1) w ++ r))

-- Stretches.

-- the glyphs from 0 on are all
past_all : (l : List (ℕ × ℕ)) → glyphs_past 0 l ≡ glyphs_in l
unfolding glyphs_past glyphs_in
past_all [] = refl
past_all ((a, z) ∷ l) =
    let e : max a 0 ≡ a = omega arith in
    rw e

-- stretches of glyphs that are listed, and of ranges, are the coverage
listed_in : (s : List ℕ) (at i k : ℕ) → eqb (word s at) 1 ≡ true → glyphs_in (stretches s at i k) ≡ words s (at + 4 + 2 * i) k
unfolding glyphs_in stretches words
listed_in s at i zero h = refl
listed_in s at i (suc k) h =
    let e : at + 4 + 2 * (i + 1) ≡ at + 4 + 2 * i + 2 = omega arith in
    rw (h, span_one (word s (at + 4 + 2 * i)), listed_in s at (i + 1) k h, e)

ranges_in : (s : List ℕ) (at i k : ℕ) → eqb (word s at) 1 ≡ false → glyphs_in (stretches s at i k) ≡ range_glyphs (triples s (at + 4 + 6 * i) k)
unfolding glyphs_in stretches triples range_glyphs
ranges_in s at i zero h = refl
ranges_in s at i (suc k) h =
    let e : at + 4 + 6 * (i + 1) ≡ at + 4 + 6 * i + 6 = omega arith in
    rw (h, ranges_in s at (i + 1) k h, e)

cover_in : (s : List ℕ) (at : ℕ) → glyphs_in (stretches s at 0 (count_at s at)) ≡ cover_at s at
unfolding coverage glyphs_in stretches
cover_in s at = step (eqb at 0) (eqb (word s at) 1) refl
  where
    e : at + 4 + 2 * 0 ≡ at + 4
    e = omega arith

    f : at + 4 + 6 * 0 ≡ at + 4
    f = omega arith

    step : (b c : Bool) → eqb (word s at) 1 ≡ c → glyphs_in (stretches s at 0 (cond b 0 (word s (at + 2))))
        ≡ cond b [] (cond c (words s (at + 4) (word s (at + 2))) (range_glyphs (triples s (at + 4) (word s (at + 2)))))
    step true c h = refl
    step false true h = listed_in s at 0 (word s (at + 2)) h ∙ rw e
    step false false h = ranges_in s at 0 (word s (at + 2)) h ∙ rw f

-- a stretch ends where it starts or later
abbrev pub Long : ℕ × ℕ → Type 0
Long e = e.0 ≤ e.1

listed_long : (s : List ℕ) (at i k : ℕ) → eqb (word s at) 1 ≡ true → All Long (stretches s at i k)
unfolding stretches
listed_long s at i zero h = tt
listed_long s at i (suc k) h = (rw h (omega arith), listed_long s at (i + 1) k h)

ranges_long : (s : List ℕ) (at i k low : ℕ) → eqb (word s at) 1 ≡ false → ranges_ascend low (triples s (at + 4 + 6 * i) k) ≡ true → All Long (stretches s at i k)
unfolding stretches triples ranges_ascend
ranges_long s at i zero low h r = tt
ranges_long s at i (suc k) low h r =
    let e : at + 4 + 6 * i + 6 ≡ at + 4 + 6 * (i + 1) = omega arith in
    let p = both (leb low (word s (at + 4 + 6 * i))) _ r in
    let q = both (leb (word s (at + 4 + 6 * i)) (word s (at + 4 + 6 * i + 2))) _ p.1 in
    (rw h (leb-true (word s (at + 4 + 6 * i)) (word s (at + 4 + 6 * i + 2)) q.0), ranges_long s at (i + 1) k (word s (at + 4 + 6 * i + 2) + 1) h (rw e at q.1))

sound_long : (s : List ℕ) (at : ℕ) → sound_at s at ≡ true → All Long (stretches s at 0 (count_at s at))
unfolding coverage_sound stretches
sound_long s at h = step (eqb at 0) h (eqb (word s at) 1) refl
  where
    e : at + 4 + 6 * 0 ≡ at + 4
    e = omega arith

    step : (b : Bool) → b || coverage_sound s at ≡ true → (c : Bool) → eqb (word s at) 1 ≡ c → All Long (stretches s at 0 (cond b 0 (word s (at + 2))))
    step true h c k = tt
    step false h true k = listed_long s at 0 (word s (at + 2)) k
    step false h false k =
        let q = rw k at (both (inside s at 4) _ h).1 in
        let r = (both (inside s (at + 4) (6 * word s (at + 2))) _ (both (eqb (word s at) 2) _ q).1).1 in
        ranges_long s at 0 (word s (at + 2)) 0 k (rw e (both (ranges_ascend 0 (triples s (at + 4) (word s (at + 2)))) _ r).0)

-- the first stretch ends at `low` or later
abbrev pub Reaching : ℕ → List (ℕ × ℕ) → Type 0
Reaching low [] = Unit {0}
Reaching low (e ∷ l) = low ≤ e.1

reaching_all : (l : List (ℕ × ℕ)) → Reaching 0 l
reaching_all [] = tt
reaching_all (e ∷ l) = omega arith

-- One of the two coverages, from the i-th of its n stretches on, and there from `low` on.
pub record Side (s : List ℕ) (at n i low : ℕ) : Type 0 where
  pub within : i ≤ n
  pub short : n < 65536
  pub long : All Long (stretches s at i (n - i))
  pub reaching : Reaching low (stretches s at i (n - i))

pub side_all : {s : List ℕ} {at n : ℕ} → (n ≡ count_at s at) × (n < 65536) → sound_at s at ≡ true → Side s at n 0 0
side_all {s} {at} {n} e h =
    let d : n - 0 ≡ count_at s at = omega (arith, e.0) in
    record { within = omega arith; short = e.1; long = rw d (sound_long s at h); reaching = reaching_all (stretches s at 0 (n - 0)) }

module _ {s : List ℕ} {at n i low : ℕ} (k : Side s at n i low) (h : i < n) where
  -- the current stretch and the others
  side_front : stretches s at i (n - i) ≡ (first_at s at i, last_at s at i) ∷ stretches s at (i + 1) (n - (i + 1))
  unfolding stretches
  side_front =
      let d : n - i ≡ suc (n - (i + 1)) = omega arith in
      rw d

  side_ends : max (first_at s at i) low ≤ last_at s at i
  side_ends =
      let first : first_at s at i ≤ last_at s at i = (rw side_front at k.long).0 in
      let past : low ≤ last_at s at i = rw side_front at k.reaching in
      omega arith

  -- the next stretch, from its first glyph on
  side_next : Side s at n (i + 1) 0
  side_next = record { within = omega arith; short = k.short; long = (rw side_front at k.long).1; reaching = reaching_all (stretches s at (i + 1) (n - (i + 1))) }

  -- the same stretch, from a later glyph on
  side_stay : (e : ℕ) → e < last_at s at i → Side s at n i (e + 1)
  side_stay e q =
      let reach : e + 1 ≤ last_at s at i = omega arith in
      record { within = k.within; short = k.short; long = k.long; reaching = rw side_front reach }

  -- what is left of the glyphs
  side_glyphs : glyphs_past low (stretches s at i (n - i)) ≡ span (max (first_at s at i) low) (last_at s at i) ++ glyphs_past 0 (stretches s at (i + 1) (n - (i + 1)))
  unfolding glyphs_past
  side_glyphs = rw (side_front, past_all (stretches s at (i + 1) (n - (i + 1))))

  side_later : (e : ℕ) → max (first_at s at i) low ≤ e
      → glyphs_past (e + 1) (stretches s at i (n - i)) ≡ span (e + 1) (last_at s at i) ++ glyphs_past 0 (stretches s at (i + 1) (n - (i + 1)))
  unfolding glyphs_past
  side_later e q =
      let f : max (first_at s at i) (e + 1) ≡ e + 1 = omega arith in
      rw (side_front, past_all (stretches s at (i + 1) (n - (i + 1))), f)

-- past the last stretch no glyph is left
side_none : (s : List ℕ) (at n i low : ℕ) → n ≤ i → glyphs_past low (stretches s at i (n - i)) ≡ []
unfolding glyphs_past stretches
side_none s at n i low h =
    let d : n - i ≡ 0 = omega arith in
    rw d

-- What the loop of `same_glyphs` keeps: whether the glyphs that are left are the same decides.
pub record Walking (s t : List ℕ) (l r m n i j a b : ℕ) : Type 0 where
  pub left : Side s l m i a
  pub right : Side t r n j b
  pub rest : same_list eqb (glyphs_past a (stretches s l i (m - i))) (glyphs_past b (stretches t r j (n - j))) ≡ same_list eqb (cover_at s l) (cover_at t r)

module _ {s t : List ℕ} {l r m n : ℕ} where
  pub walking_all : (m ≡ count_at s l) × (m < 65536) → sound_at s l ≡ true → (n ≡ count_at t r) × (n < 65536) → sound_at t r ≡ true → Walking s t l r m n 0 0 0 0
  walking_all e f g h =
      let d : m - 0 ≡ count_at s l = omega (arith, e.0) in
      let c : n - 0 ≡ count_at t r = omega (arith, g.0) in
      record {
        left = side_all e f;
        right = side_all g h;
        rest = rw (d, c, past_all (stretches s l 0 (count_at s l)), past_all (stretches t r 0 (count_at t r)), cover_in s l, cover_in t r);
      }

  module _ {i j a b : ℕ} (k : Walking s t l r m n i j a b) where
    -- the left is past its last stretch
    pub walking_end : m ≤ i → leb n j ≡ same_list eqb (cover_at s l) (cover_at t r)
    unfolding same_list
    walking_end h = step (dec_lt j n)
      where
        step : Dec (j < n) → leb n j ≡ same_list eqb (cover_at s l) (cover_at t r)
        step (yes q) = rw (lt-leb n j q) (rw (side_none s l m i a h, side_glyphs k.right q, span_front (max (first_at t r j) b) (last_at t r j) (side_ends k.right q)) at k.rest)
        step (no q) = rw (le-leb n j (omega arith)) (rw (side_none s l m i a h, side_none t r n j b (omega arith)) at k.rest)

    module _ (h : i < m) where
      -- the right has no stretch left
      pub walking_more : n ≤ j → false ≡ same_list eqb (cover_at s l) (cover_at t r)
      unfolding same_list
      walking_more g = rw (side_glyphs k.left h, side_none t r n j b g, span_front (max (first_at s l i) a) (last_at s l i) (side_ends k.left h)) at k.rest

      module _ (g : j < n) {x y p q : ℕ} (ex : (x ≡ first_at s l i) × (x < 65536)) (ep : p ≡ max x a) (ey : (y ≡ first_at t r j) × (y < 65536)) (eq : q ≡ max y b) where
        lefts : p ≡ max (first_at s l i) a
        lefts = ep ∙ rw ex.0

        rights : q ≡ max (first_at t r j) b
        rights = eq ∙ rw ey.0

        both_left : same_list eqb (span p (last_at s l i) ++ glyphs_past 0 (stretches s l (i + 1) (m - (i + 1)))) (span q (last_at t r j) ++ glyphs_past 0 (stretches t r (j + 1) (n - (j + 1)))) ≡ same_list eqb (cover_at s l) (cover_at t r)
        both_left = rw (lefts, rights) (rw (side_glyphs k.left h, side_glyphs k.right g) at k.rest)

        ends_left : p ≤ last_at s l i
        ends_left = rw lefts (side_ends k.left h)

        ends_right : q ≤ last_at t r j
        ends_right = rw rights (side_ends k.right g)

        -- the next glyphs differ
        pub walking_differ : (p ≡ q → ⊥) → false ≡ same_list eqb (cover_at s l) (cover_at t r)
        walking_differ d =
            sym (spans_differ p (last_at s l i) q (last_at t r j) (glyphs_past 0 (stretches s l (i + 1) (m - (i + 1)))) (glyphs_past 0 (stretches t r (j + 1) (n - (j + 1)))) ends_left ends_right d) ∙ both_left

        module _ (same : p ≡ q) {z w : ℕ} (ez : (z ≡ last_at s l i) × (z < 65536)) (ew : (w ≡ last_at t r j) × (w < 65536)) where
          -- the left stretch ends first
          pub walking_left : z < w → Walking s t l r m n (i + 1) j 0 (z + 1)
          walking_left d =
              let c : last_at s l i < last_at t r j = omega (arith, ez.0, ew.0) in
              let e : last_at s l i + 1 ≡ z + 1 = omega (arith, ez.0) in
              let v = spans_lower p (last_at s l i) q (last_at t r j) (glyphs_past 0 (stretches s l (i + 1) (m - (i + 1)))) (glyphs_past 0 (stretches t r (j + 1) (n - (j + 1)))) ends_left ends_right same c in
              record {
                left = side_next k.left h;
                right = side_stay k.right g z (omega (arith, ez.0));
                rest = rw (side_later k.right g z (omega (arith, rights, same, ends_left, ez.0))) (sym (rw e at v) ∙ both_left);
              }

          -- the right stretch ends first
          pub walking_right : w < z → Walking s t l r m n i (j + 1) (w + 1) 0
          walking_right d =
              let c : last_at t r j < last_at s l i = omega (arith, ez.0, ew.0) in
              let e : last_at t r j + 1 ≡ w + 1 = omega (arith, ew.0) in
              let tl = glyphs_past 0 (stretches s l (i + 1) (m - (i + 1))) in
              let tr = glyphs_past 0 (stretches t r (j + 1) (n - (j + 1))) in
              let v = spans_lower q (last_at t r j) p (last_at s l i) tr tl ends_right ends_left (sym same) c in
              record {
                left = side_stay k.left h w (omega (arith, ew.0));
                right = side_next k.right g;
                rest = rw (side_later k.left h w (omega (arith, lefts, same, ends_right, ew.0)))
                    (eq_swap (span (w + 1) (last_at s l i) ++ tl) tr ∙ sym (rw e at v) ∙ eq_swap (span q (last_at t r j) ++ tr) (span p (last_at s l i) ++ tl) ∙ both_left);
              }

          -- both end alike
          pub walking_both : z ≡ w → Walking s t l r m n (i + 1) (j + 1) 0 0
          walking_both d =
              let c : last_at s l i ≡ last_at t r j = sym ez.0 ∙ d ∙ ew.0 in
              record {
                left = side_next k.left h;
                right = side_next k.right g;
                rest = sym (spans_same p (last_at s l i) q (last_at t r j) (glyphs_past 0 (stretches s l (i + 1) (m - (i + 1)))) (glyphs_past 0 (stretches t r (j + 1) (n - (j + 1)))) ends_left ends_right same c) ∙ both_left;
              }
