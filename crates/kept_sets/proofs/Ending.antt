-- What is asked, in each turn of the loop over the notes, and what it leaves.
use Prim.Native.Nat.{ℕ, ◌+◌, ◌*◌, ◌/◌, ◌≤◌, ◌<◌}
use mathlib.Core.Path.{◌≡◌, refl, sym, ap, ◌∙◌, subst}
use Rattle.std.specs.Prelude.{None}
use mathlib.Core.List.{List}
use native.Mathlib.Omega.{arith}
use lib.ListN.{length, get_or}
use Rattle.meaning.specs.Words.{word}
use Rattle.meaning.specs.Cut.{RuleMaps, glyphs_of}
use Rattle.room.specs.Laid.{enough_area}
use Rattle.cell_maps.specs.Cells.{Kept}
use Rattle.handing.specs.Closed.{members}
use Rattle.numbers.specs.Entries.{entries_kept}
use Rattle.known_blocks.specs.Shared.{blocks_in}
use Rattle.known_blocks.specs.Book.{packs}
use Rattle.placed_sets.specs.Sorts.{header_size, set_fault_of, set_left, left_in, AllBefore}
use Rattle.placed_sets.specs.Kept.{words_of, PlacedSet, Reaches, Ready, WroteKept, kept_in}
use Rattle.placed_sets.specs.declared.Sort.{Sort}
use Rattle.placed_sets.specs.declared.Turn.{Turn}
use Rattle.kept_rules.specs.Left.{maps_in}
use Rattle.kept_rules.specs.declared.Maps.{Maps}
use Rattle.placed_sets.proofs.Settling.{packs_same}
use Rattle.kept_sets.proofs.Keeping.{Keeping, keeping_whole}

-- cells behind the maps may change: what became of a set stays the same
module _ {at : ℕ} {t₀ t : List ℕ} (k : Kept at t₀ t) {m : Maps} (b : AllBefore m at) where
  same_maps : maps_in t m ≡ maps_in t₀ m
  same_maps = rw (entries_kept k m.back b.back, entries_kept k m.input b.input, entries_kept k m.ahead b.ahead, entries_kept k m.lookups b.lookups) refl

  pub placed_as : (sort : Sort) (s : List ℕ) {turn : Turn} {a₀ b₀ a₁ b₁ : List ℕ} {r : ℕ} → PlacedSet (left_in sort t m s) turn a₀ b₀ a₁ b₁ r → PlacedSet (left_in sort t₀ m s) turn a₀ b₀ a₁ b₁ r
  placed_as sort s {turn} {a₀} {b₀} {a₁} {b₁} {r} h = subst (λ (f : RuleMaps). PlacedSet (λ p. set_left sort f s p) turn a₀ b₀ a₁ b₁ r) same_maps h

module _ {sort : Sort} {s t₀ : List ℕ} {maps : Maps} {at m : ℕ} (a : Ready sort s t₀ maps at m) {slots : ℕ} (e : slots ≡ header_size sort) {area₀ : List ℕ} where
  -- there is no room for the offsets
  pub wrote_short : (book₀ : List ℕ) {end : ℕ} → slots ≤ 10 → length area₀ < slots + 2 * m → length area₀ < end → WroteKept sort s t₀ maps at m (packs book₀) area₀ t₀ area₀ (record { count = 0; end = end })
  wrote_short book₀ b h l = record { same = refl; size = refl; done = λ k. absurd (omega arith); full = λ k y. absurd (omega (arith, a.counted)) }

  module _ {book₀ t area book : List ℕ} {k p i : ℕ} (c : Keeping (left_in sort t₀ maps s) s slots t₀ at m area₀ book₀ t area book k p i) where
    module _ (h : i < m) {note : ℕ} (n : note ≡ get_or t (at + i) 0) where
      -- the set's offset lies inside, and the set is sound
      reaches : Reaches sort s (note / 65536)
      reaches =
          let v : get_or t₀ (at + i) 0 ≡ note = sym (n ∙ c.ahead (at + i) (omega arith)) in
          rw v at (a.reaches i h)

      pub offset_inside : slots + 2 * (note / 65536) + 1 < length s
      offset_inside = omega (arith, e, reaches.inside)

      pub set_sound : {off : ℕ} → off ≡ word s (slots + 2 * (note / 65536)) → (off ≡ 0 → ⊥) → set_fault_of sort s off ≡ None
      set_sound {off} w z =
          let f : word s (header_size sort + 2 * (note / 65536)) ≡ off = sym (w ∙ ap (λ (i : ℕ). word s (i + 2 * (note / 65536))) e) in
          rw f at (reaches.sound (λ q. z (sym f ∙ q)))

    -- the book had the same length before
    module _ (before : List ℕ) (b : length book₀ ≡ length before) where
      -- there is no room for a set
      pub wrote_full : {one : List ℕ} {q : ℕ} → length one ≡ length area → length one < q → (enough_area ≤ length area₀ → 65528 ≤ 2 * length (blocks_in (packs book₀) (members (words_of (kept_in sort s t₀ maps at m)))))
          → WroteKept sort s t₀ maps at m (packs before) area₀ t one (record { count = 0; end = q })
      wrote_full f l g = record { same = f ∙ c.same; size = c.cells.size; done = λ k. absurd (omega (arith, f, c.same)); full = λ k. rw (packs_same before book₀ b) g }

      -- all are written
      pub wrote_all : m ≤ i → WroteKept sort s t₀ maps at m (packs before) area₀ t area (record { count = k; end = p })
      wrote_all h =
          let w = keeping_whole (left_in sort t₀ maps s) s slots t₀ at m c h in
          let o : kept_in sort s t₀ maps at m ≡ c.kept = rw e at (sym w) in
          record {
            same = c.same;
            size = c.cells.size;
            done = λ k. record {
              few = omega (arith, c.fewer, c.within);
              count = ap length o ∙ c.count;
              glyphs = c.glyphs ∙ ap glyphs_of (sym o);
              placed = rw (o, ← e, packs_same before book (c.size ∙ b)) c.standing.placed;
            };
            full = λ k. absurd (omega (arith, c.standing.placed.room, c.same));
          }
