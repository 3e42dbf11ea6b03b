-- Two rows of coverages, one by one, and two rows of entries.
use Prim.Native.Nat.{ℕ, suc, ◌+◌, ◌-◌, ◌*◌, ◌≤◌, ◌<◌}
use mathlib.Core.Path.{◌≡◌, refl, sym, ap, ap₂, ◌∙◌}
use mathlib.Core.Bool.{Bool, true, false, cond, ◌&&◌, ◌||◌, true≢false}
use Rattle.std.specs.Prelude.{None, Some}
use mathlib.Core.List.{List, [], ◌∷◌, ◌++◌}
use native.Mathlib.Nat.{zero-add}
use native.Mathlib.Omega.{arith}
use lib.Dec.{eqb}
use borrow.Author.Tests.{eq-eqb, ne_eqb, eqb-true}
use Rattle.meaning.specs.Words.{word, entries}
use Rattle.meaning.specs.Parts.{span, coverage, coverage_sound}
use Rattle.meaning.specs.Tables.{reach, reaches}
use Rattle.meaning.specs.Fault.{coverage_fault}
use Rattle.laws.specs.Left.{entries_left, entries_all, entries_none}
use Rattle.laws.specs.Stands.{All}
use Rattle.laws.specs.Through.{Opt}
use Rattle.laws.specs.SoundGood.{part_sound, one_good}
use Rattle.differences.specs.Content.{join_run, glyph_runs, cover_runs}
use Rattle.differences.specs.Entries.{same_list, same_two}
use Rattle.difference_laws.specs.Equal.{tells_two, tells_list}
use Rattle.cover_differences.specs.Stretches.{glyphs_in, cover_at, sound_at}
use Rattle.cover_differences.specs.Rows.{SoundRow, row_runs, same_row}
use Rattle.cover_differences.proofs.Stretching.{Long, span_front, span_one}

-- Runs have the glyphs that they are made of.

join_long : (g : ℕ) (r : List (ℕ × ℕ)) → All Long r → All Long (join_run g r)
unfolding join_run
join_long g [] h = (omega arith, tt)
join_long g ((a, z) ∷ r) h = step (eqb (g + 1) a) refl
  where
    step : (b : Bool) → eqb (g + 1) a ≡ b → All Long (cond b ((g, z) ∷ r) ((g, g) ∷ (a, z) ∷ r))
    step true e = (omega (arith, eqb-true (g + 1) a e, h.0), h.1)
    step false e = (omega arith, h)

runs_long : (gs : List ℕ) → All Long (glyph_runs gs)
unfolding glyph_runs
runs_long [] = tt
runs_long (g ∷ gs) = join_long g (glyph_runs gs) (runs_long gs)

join_glyphs : (g : ℕ) (r : List (ℕ × ℕ)) → All Long r → glyphs_in (join_run g r) ≡ g ∷ glyphs_in r
unfolding join_run glyphs_in
join_glyphs g [] h = rw (span_one g)
join_glyphs g ((a, z) ∷ r) h = step (eqb (g + 1) a) refl
  where
    step : (b : Bool) → eqb (g + 1) a ≡ b → glyphs_in (cond b ((g, z) ∷ r) ((g, g) ∷ (a, z) ∷ r)) ≡ g ∷ (span a z ++ glyphs_in r)
    step true e =
        let q = eqb-true (g + 1) a e in
        rw (span_front g z (omega (arith, h.0)), q)
    step false e = rw (span_one g)

runs_glyphs : (gs : List ℕ) → glyphs_in (glyph_runs gs) ≡ gs
unfolding glyph_runs glyphs_in
runs_glyphs [] = refl
runs_glyphs (g ∷ gs) = join_glyphs g (glyph_runs gs) (runs_long gs) ∙ ap (λ (l : List ℕ). g ∷ l) (runs_glyphs gs)

-- two tests that are true together are the same
agree : (b c : Bool) → (b ≡ true → c ≡ true) → (c ≡ true → b ≡ true) → b ≡ c
agree true true f h = refl
agree false false f h = refl
agree true false f h = absurd (true≢false (sym (f refl)))
agree false true f h = absurd (true≢false (sym (h refl)))

list_equal : (l r : List ℕ) → same_list eqb l r ≡ true → l ≡ r
unfolding same_list
list_equal [] [] h = refl
list_equal [] (b ∷ r) h = absurd (true≢false (sym h))
list_equal (a ∷ l) [] h = absurd (true≢false (sym h))
list_equal (a ∷ l) (b ∷ r) h = step (eqb a b) refl h (list_equal l r)
  where
    step : (t : Bool) → eqb a b ≡ t → t && same_list eqb l r ≡ true → (same_list eqb l r ≡ true → l ≡ r) → a ∷ l ≡ b ∷ r
    step true e h f = ap₂ (λ (x : ℕ) (y : List ℕ). x ∷ y) (eqb-true a b e) (f h)
    step false e h f = absurd (true≢false (sym h))

list_itself : (l : List ℕ) → same_list eqb l l ≡ true
unfolding same_list
list_itself [] = refl
list_itself (a ∷ l) = rw (eq-eqb a a refl) (list_itself l)

runs_same : (l r : List ℕ) → same_list same_two (glyph_runs l) (glyph_runs r) ≡ same_list eqb l r
runs_same l r =
    agree (same_list same_two (glyph_runs l) (glyph_runs r)) (same_list eqb l r)
    (λ h. let e = (tells_list tells_two).equal (glyph_runs l) (glyph_runs r) h in
    let f : l ≡ r = sym (runs_glyphs l) ∙ ap glyphs_in e ∙ runs_glyphs r in
    rw (← f) (list_itself l))
    (λ h. rw (← (list_equal l r h)) ((tells_list tells_two).itself (glyph_runs l)))

-- the coverage of a slot
slot_runs : (s : List ℕ) (slot : ℕ) → cover_runs (reach (coverage s) s 0 slot) ≡ glyph_runs (cover_at s (word s slot))
unfolding reach cover_runs glyph_runs
slot_runs s slot = rw (zero-add (word s slot)) (step (eqb (word s slot) 0))
  where
    step : (b : Bool) → cover_runs (cond b None (Some (coverage s (word s slot)))) ≡ glyph_runs (cond b [] (coverage s (word s slot)))
    step true = refl
    step false = refl

slots_same : (s t : List ℕ) (p q : ℕ) → same_list same_two (cover_runs (reach (coverage s) s 0 p)) (cover_runs (reach (coverage t) t 0 q)) ≡ same_list eqb (cover_at s (word s p)) (cover_at t (word t q))
slots_same s t p q = rw (slot_runs s p, slot_runs t q) (runs_same (cover_at s (word s p)) (cover_at t (word t q)))

-- a row's first coverage is sound, and so are the others
row_sound : (s : List ℕ) (p n : ℕ) → SoundRow s p (suc n) → (sound_at s (word s p) ≡ true) × SoundRow s (p + 2) n
unfolding coverage_fault reach
row_sound s p n h =
    let q = one_good s (λ at. coverage_sound s at ≡ true) (λ at. at) (coverage_fault s) (λ at f. (part_sound at (coverage_sound s at) None f).0) p n h in
    (step (eqb (word s p) 0) (rw (zero-add (word s p)) at q.0), q.1)
  where
    step : (b : Bool) → Opt (λ at. coverage_sound s at ≡ true) (cond b None (Some (word s p))) → b || coverage_sound s (word s p) ≡ true
    step true q = refl
    step false q = q

row_front : (s : List ℕ) (p n : ℕ) → row_runs s p (suc n) ≡ cover_runs (reach (coverage s) s 0 p) ∷ row_runs s (p + 2) n
unfolding row_runs reaches
row_front s p n = refl

row_none : (s : List ℕ) (p : ℕ) → row_runs s p 0 ≡ []
unfolding row_runs reaches
row_none s p = refl

-- What the loop of `same_covers` keeps: the coverages that are left decide.
pub record Rowing (s t : List ℕ) (p n i : ℕ) : Type 0 where
  pub within : i ≤ n
  pub left : SoundRow s (p + 2 * i) (n - i)
  pub right : SoundRow t (p + 2 * i) (n - i)
  pub rest : same_row (row_runs s (p + 2 * i) (n - i)) (row_runs t (p + 2 * i) (n - i)) ≡ same_row (row_runs s p n) (row_runs t p n)

module _ {s t : List ℕ} {p n : ℕ} where
  pub rowing_all : SoundRow s p n → SoundRow t p n → Rowing s t p n 0
  rowing_all h k =
      let d : n - 0 ≡ n = omega arith in
      let e : p + 2 * 0 ≡ p = omega arith in
      record { within = omega arith; left = rw (d, e) h; right = rw (d, e) k; rest = rw (d, e) }

  module _ {i : ℕ} (k : Rowing s t p n i) where
    pub rowing_end : n ≤ i → true ≡ same_row (row_runs s p n) (row_runs t p n)
    unfolding same_list
    rowing_end h =
        let d : n - i ≡ 0 = omega arith in
        rw (d, row_none s (p + 2 * i), row_none t (p + 2 * i)) at k.rest

    module _ (h : i < n) where
      d : n - i ≡ suc (n - (i + 1))
      d = omega arith

      step : p + 2 * i + 2 ≡ p + 2 * (i + 1)
      step = omega arith

      sounds : (u : List ℕ) → SoundRow u (p + 2 * i) (n - i) → (sound_at u (word u (p + 2 * i)) ≡ true) × SoundRow u (p + 2 * (i + 1)) (n - (i + 1))
      sounds u x = rw step at (row_sound u (p + 2 * i) (n - (i + 1)) (rw d at x))

      pub rowing_left : {l : ℕ} → l ≡ word s (p + 2 * i) → sound_at s l ≡ true
      rowing_left e = rw e (sounds s k.left).0

      pub rowing_right : {r : ℕ} → r ≡ word t (p + 2 * i) → sound_at t r ≡ true
      rowing_right e = rw e (sounds t k.right).0

      module _ {l r : ℕ} (x : l ≡ word s (p + 2 * i)) (y : r ≡ word t (p + 2 * i)) {b : Bool} (e : b ≡ same_list eqb (cover_at s l) (cover_at t r)) where
        next : b && same_row (row_runs s (p + 2 * (i + 1)) (n - (i + 1))) (row_runs t (p + 2 * (i + 1)) (n - (i + 1))) ≡ same_row (row_runs s p n) (row_runs t p n)
        unfolding same_list
        next = rw (e, x, y, ← (slots_same s t (p + 2 * i) (p + 2 * i))) (rw (d, row_front s (p + 2 * i) (n - (i + 1)), row_front t (p + 2 * i) (n - (i + 1)), step) at k.rest)

        pub rowing_turn : b ≡ true → Rowing s t p n (i + 1)
        rowing_turn f = record { within = omega arith; left = (sounds s k.left).1; right = (sounds t k.right).1; rest = rw f at next }

        pub rowing_differ : b ≡ false → false ≡ same_row (row_runs s p n) (row_runs t p n)
        rowing_differ f = rw f at next

-- What the loop of `same_entries` keeps.
pub record Entering (s t : List ℕ) (p n i : ℕ) : Type 0 where
  pub within : i ≤ n
  pub rest : same_list same_two (entries s (p + 4 * i) (n - i)) (entries t (p + 4 * i) (n - i)) ≡ same_list same_two (entries s p n) (entries t p n)

module _ {s t : List ℕ} {p n : ℕ} where
  pub entering_all : Entering s t p n 0
  entering_all = record { within = omega arith; rest = rw (entries_all s p n, entries_all t p n) }

  module _ {i : ℕ} (k : Entering s t p n i) where
    pub entering_end : n ≤ i → true ≡ same_list same_two (entries s p n) (entries t p n)
    unfolding same_list
    entering_end h = rw (entries_none s (p + 4 * i) n i h, entries_none t (p + 4 * i) n i h) at k.rest

    module _ (h : i < n) where
      entered : (eqb (word s (p + 4 * i)) (word t (p + 4 * i)) && eqb (word s (p + 4 * i + 2)) (word t (p + 4 * i + 2)))
          && same_list same_two (entries s (p + 4 * (i + 1)) (n - (i + 1))) (entries t (p + 4 * (i + 1)) (n - (i + 1))) ≡ same_list same_two (entries s p n) (entries t p n)
      unfolding same_list same_two
      entered = rw (entries_left s p n i h, entries_left t p n i h) at k.rest

      module _ {a b : ℕ} (x : a ≡ word s (p + 4 * i)) (y : b ≡ word t (p + 4 * i)) where
        pub entering_first : (a ≡ b → ⊥) → false ≡ same_list same_two (entries s p n) (entries t p n)
        entering_first f = rw (← x, ← y, ne_eqb a b f) at entered

        module _ (f : a ≡ b) {c e : ℕ} (z : c ≡ word s (p + 4 * i + 2)) (w : e ≡ word t (p + 4 * i + 2)) where
          pub entering_second : (c ≡ e → ⊥) → false ≡ same_list same_two (entries s p n) (entries t p n)
          entering_second g = rw (← x, ← y, eq-eqb a b f, ← z, ← w, ne_eqb c e g) at entered

          pub entering_turn : c ≡ e → Entering s t p n (i + 1)
          entering_turn g = record { within = omega arith; rest = rw (← x, ← y, eq-eqb a b f, ← z, ← w, eq-eqb c e g) at entered }
