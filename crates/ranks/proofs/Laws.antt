-- Laws of ranks: bits below one in a cell, and what the loop that counts keeps.
use Prim.Native.Nat.{ℕ, ◌+◌, ◌-◌, ◌*◌, ◌/◌, ◌%◌, ◌^◌, ◌≤◌, ◌<◌}
use mathlib.Core.Path.{◌≡◌, refl, sym, ap, ◌∙◌}
use mathlib.Core.List.{List}
use mathlib.Core.Logic.{◌⊎◌, inl, ⊎_elim}
use native.Mathlib.Decide.{dec_lt}
use native.Mathlib.Nat.{mod-eq_of_lt}
use native.Mathlib.Omega.{arith}
use lib.Bits.{bit_and, and_mask, and_le_l}
use lib.Count.{ones, ones-le}
use lib.ListN.{length, get_or, set, length-set}
use lib.Seq.{get_or-set_same, get_or-set_other}
use Rattle.bits.proofs.Laws.{shifted}
use Rattle.bits.specs.Reading.{same_cell}
use Rattle.ranks.specs.Ranks.{mark_cells, marks_below, rank_in, Counted, marks_few, marks_same, marks_in_cell}

-- the bits of a cell below that of x
abbrev pub lowest : ℕ → ℕ → ℕ
lowest v x = bit_and v (1 * 2 ^ (x % 32) % 0x1_0000_0000_0000_0000 - 1)

module _ (t : List ℕ) (at x : ℕ) (s : get_or t (at + x / 32) 0 < 0x1_0000_0000) where
  pub lowest_small : lowest (get_or t (at + x / 32) 0) x < 0x1_0000_0000
  lowest_small = omega (arith, and_le_l (get_or t (at + x / 32) 0) (1 * 2 ^ (x % 32) % 0x1_0000_0000_0000_0000 - 1))

  pub lowest_few : ones (lowest (get_or t (at + x / 32) 0) x) ≤ 32
  lowest_few = ones-le 32 (lowest (get_or t (at + x / 32) 0) x) lowest_small

pub rank_read : (t : List ℕ) (at x : ℕ) → get_or t (at + x / 32 + mark_cells) 0 + ones (lowest (get_or t (at + x / 32) 0) x) ≡ rank_in t at x
unfolding rank_in
rank_read t at x =
    let v = get_or t (at + x / 32) 0 in
    ap (λ (n : ℕ). get_or t (at + x / 32 + mark_cells) 0 + ones n) (rw (shifted x) (and_mask v (x % 32)))

-- the counts of the first i cells of marks are right, and the count goes on with those of the next
pub record Counting (at : ℕ) (old t : List ℕ) (count i : ℕ) : Type 0 where
  pub within : i ≤ mark_cells
  pub room : at + 2 * mark_cells ≤ length old
  pub size : length t ≡ length old
  pub cells : (j : ℕ) → (j < at + mark_cells) ⊎ (at + 2 * mark_cells ≤ j) → get_or t j 0 ≡ get_or old j 0
  pub counts : (j : ℕ) → j < i → get_or t (at + j + mark_cells) 0 ≡ marks_below old at (32 * j)
  pub next : count ≡ marks_below old at (32 * i)

module _ {at : ℕ} {old : List ℕ} where
  pub counting_none : at + 2 * mark_cells ≤ length old → Counting at old old 0 0
  unfolding marks_below
  counting_none h = record { within = omega arith; room = h; size = refl; cells = λ j l. refl; counts = λ j l. absurd (omega arith); next = refl }

  module _ {t : List ℕ} {count i : ℕ} (k : Counting at old t count i) where
    pub counting_few : count ≤ 32 * i
    counting_few = omega (arith, k.next, marks_few old at (32 * i))

    module _ (h : i < mark_cells) where
      abbrev after : List ℕ
      after = set t (at + i + mark_cells) count

      pub counting_inside : at + i < length after
      counting_inside = omega (arith, length-set t (at + i + mark_cells) count, k.room, k.size)

      pub counting_ones : get_or after (at + i) 0 < 0x1_0000_0000 → ones (get_or after (at + i) 0) ≤ 32
      counting_ones s = ones-le 32 (get_or after (at + i) 0) s

      -- the marks that are counted next are as before
      pub counting_turn : get_or after (at + i) 0 < 0x1_0000_0000 → Counting at old after (count + ones (get_or after (at + i) 0)) (i + 1)
      counting_turn s = record {
        within = omega arith;
        room = k.room;
        size = length-set t (at + i + mark_cells) count ∙ k.size;
        cells = cell;
        counts = λ j l. step j l (dec_lt j i);
        next = goes_on_lem;
      }
        where
          cell : (j : ℕ) → (j < at + mark_cells) ⊎ (at + 2 * mark_cells ≤ j) → get_or after j 0 ≡ get_or old j 0
          cell j o = get_or-set_other t (at + i + mark_cells) j count 0 (λ z. ⊎_elim (λ l. omega arith) (λ l. omega arith) o) ∙ k.cells j o

          step : (j : ℕ) → j < i + 1 → Dec (j < i) → get_or after (at + j + mark_cells) 0 ≡ marks_below old at (32 * j)
          step j l (yes q) = get_or-set_other t (at + i + mark_cells) (at + j + mark_cells) count 0 (λ z. omega arith) ∙ k.counts j q
          step j l (no q) =
              let d : j ≡ i = omega arith in
              rw d (get_or-set_same t (at + i + mark_cells) count 0 (omega (arith, k.room, k.size)) ∙ k.next)

          goes_on_lem : count + ones (get_or after (at + i) 0) ≡ marks_below old at (32 * (i + 1))
          goes_on_lem =
              let e : 32 * (i + 1) ≡ 32 * i + 32 = omega arith in
              let v : get_or after (at + i) 0 ≡ get_or old (at + i) 0 = cell (at + i) (inl (omega arith)) in
              let m : get_or after (at + i) 0 % 2 ^ 32 ≡ get_or after (at + i) 0 = mod-eq_of_lt s in
              rw e (omega (arith, k.next, ap ones (sym m ∙ ap (λ (n : ℕ). n % 2 ^ 32) v), marks_in_cell old at i 32 (omega arith)))

    pub counting_end : mark_cells ≤ i → Counted old t at count
    counting_end h =
        let e : i ≡ mark_cells = omega (arith, k.within) in record {
          size = k.size;
          cells = k.cells;
          counts = record { each = λ j l. k.counts j (omega arith) ∙ same (32 * j) (omega arith) };
          all = k.next ∙ ap (λ (n : ℕ). marks_below old at (32 * n)) e ∙ same 65536 (omega arith);
        }
      where
        same : (x : ℕ) → x ≤ 65536 → marks_below old at x ≡ marks_below t at x
        same x l = sym (marks_same old t at x (λ y q. same_cell old t at y (k.cells (at + y / 32) (inl (omega arith)))))
