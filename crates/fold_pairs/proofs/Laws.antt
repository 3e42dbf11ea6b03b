-- The ways through the loops that lay a map.
use Prim.Native.Nat.{ℕ, zero, suc, ◌+◌, ◌-◌, ◌*◌, ◌/◌, ◌^◌, ◌≤◌, ◌<◌, max}
use mathlib.Core.Path.{◌≡◌, refl, sym, ap, ◌∙◌}
use mathlib.Core.Bool.{Bool, true, false, not, true≢false}
use Rattle.std.specs.Prelude.{None}
use mathlib.Core.List.{List, [], ◌∷◌, ◌++◌}
use native.Mathlib.Decide.{dec_lt}
use native.Mathlib.Nat.{zero-add}
use native.Mathlib.Numerals.{add-one}
use native.Mathlib.Omega.{arith}
use lib.ListN.{length, get_or, set, take, length-set}
use lib.Seq.{get_or-set_same, get_or-set_other, take-suc, take_all, get_or-take, length-take-le}
use lib.Bits.{bit_and}
use borrow.Author.Tests.{eq-eqb, ne_eqb}
use Rattle.std.proofs.Common.{pow-suc}
use Rattle.meaning.specs.Words.{find, word, ascends, keys}
use Rattle.meaning.specs.Maps.{map_entries}
use Rattle.laws.specs.Left.{entries_length, entries_at}
use Rattle.laws.specs.Ascends.{ascends_rise, find_none, map_length, map_key}
use Rattle.cells.specs.Filled.{Filled}
use Rattle.cell_maps.specs.Cells.{cell_of, cell_at, Inside, Odd, Holds, Kept, kept_all, kept_more, kept_set, holds_none}
use Rattle.cell_maps.specs.Laid.{Power, power_twice, power_near, power_even, Next, taken, Added, added_kept, added_holds, added_clash, LaidIn, Laid}
use Rattle.cell_maps.specs.declared.Map.{Map}

-- What `clear` leaves: the cells are filled with 0, and then the first one names a number that is not its own.
pub cleared : {t₀ t : List ℕ} {m : Map} → Inside t₀ m × Odd m → Filled m.at (m.at + m.mask + 1) t₀ t → Holds (set t m.at 65536) m [] × Kept m.at t₀ (set t m.at 65536)
cleared {t₀} {t} {m} k f = (
  holds_none
      (record { within = omega (arith, length-set t m.at 65536, f.size, k.0.within) })
      k.1
      (get_or-set_same t m.at 65536 0 (omega (arith, f.size, k.0.within)))
      (λ j a b. get_or-set_other t m.at j 65536 0 (λ e. omega arith) ∙ f.blank j (omega arith) (omega arith)),
  kept_more (record { size = f.size; same = f.before }) (kept_set m.at t m.at 65536 (omega arith)),
)

-- One entry more or none: what `add` answers.
module _ {t : List ℕ} {m : Map} {old new : ℕ} (s : cell_at t m old < 4294967296) where
  pub adds_none : bit_and (cell_at t m old / 65536) m.mask ≡ bit_and old m.mask → Added t t m old new false
  unfolding taken
  adds_none h = record { free = sym (ap not (eq-eqb _ _ h)); cells = refl; small = s }

  pub adds_one : (bit_and (cell_at t m old / 65536) m.mask ≡ bit_and old m.mask → ⊥) → Added t (set t (cell_of m old) (old * 65536 + new)) m old new true
  unfolding taken
  adds_one h = record { free = sym (ap not (ne_eqb _ _ h)); cells = refl; small = s }

-- the least power of two that is the greater of n and 2, or more
pub power_of : (n r k : ℕ) → r ≡ 2 ^ k → n ≤ r → 2 ≤ r → r / 2 < max n 2 → Next n r
power_of n r zero e h g l = absurd (omega arith)
power_of n r (suc zero) e h g l = record { two = record { exponent = 0; power = e }; enough = h; least = λ b. absurd (omega arith); few = λ b. omega arith }
power_of n r (suc (suc k)) e h g l =
    let w : Power (2 ^ suc k) = record { exponent = k; power = refl } in
    let d : r ≡ 2 ^ suc k * 2 = e ∙ pow-suc 2 (suc k) in
    record {
      two = record { exponent = suc k; power = e };
      enough = h;
      least = λ b. omega (arith, d, power_even w);
      few = λ b. omega (arith, d, power_near w (omega (arith, d)));
    }

-- A listed map's entries, as many as there are and one of them.
entry_count : (m : List ℕ) → length (map_entries m) ≡ length m / 4
unfolding map_entries
entry_count m = entries_length m 0 (length m / 4)

entry_at : (m : List ℕ) (i : ℕ) → i < length m / 4 → get_or (map_entries m) i (0, 0) ≡ (word m (4 * i), word m (4 * i + 2))
unfolding map_entries
entry_at m i h = rw zero-add at (entries_at m 0 (length m / 4) i h)

-- the first i entries and the next
entry_more : (m : List ℕ) (i : ℕ) {old new : ℕ} → i < length m / 4 → old ≡ word m (4 * i) → new ≡ word m (4 * i + 2)
    → take i (map_entries m) ++ ((old, new) ∷ []) ≡ take (i + 1) (map_entries m)
entry_more m i {old} {new} h eo en =
    let e : (old, new) ≡ get_or (map_entries m) i (0, 0) = rw (eo, en) (sym (entry_at m i h)) in
    ap (λ (x : ℕ × ℕ). take i (map_entries m) ++ (x ∷ [])) e ∙ sym (take-suc (map_entries m) i (0, 0) (rw (entry_count m) h)) ∙ ap (λ (k : ℕ). take k (map_entries m)) (sym (add-one i))

-- the first i keys; the next is none of them if they ascend
keys_take : (i : ℕ) (es : List (ℕ × ℕ)) → keys (take i es) ≡ take i (keys es)
unfolding keys
keys_take zero es = refl
keys_take (suc i) [] = refl
keys_take (suc i) (e ∷ es) = ap (λ (ks : List ℕ). e.0 ∷ ks) (keys_take i es)

next_none : (m : List ℕ) (i : ℕ) {old : ℕ} → i < length m / 4 → old ≡ word m (4 * i) → ascends (keys (map_entries m)) ≡ true → find (take i (map_entries m)) old ≡ None
next_none m i {old} h e up = find_none (take i (map_entries m)) old (λ k l. other k (omega (arith, long, ap length (keys_take i (map_entries m)))))
  where
    long : length (take i (keys (map_entries m))) ≡ i
    long = length-take-le i (keys (map_entries m)) (omega (arith, map_length m))

    other : (k : ℕ) → k < i → get_or (keys (take i (map_entries m))) k 0 ≡ old → ⊥
    other k l q =
        let a : get_or (keys (take i (map_entries m))) k 0 ≡ get_or (keys (map_entries m)) k 0 = ap (λ (ks : List ℕ). get_or ks k 0) (keys_take i (map_entries m)) ∙ get_or-take i (keys (map_entries m)) k 0 l in
        let b : get_or (keys (map_entries m)) i 0 ≡ old = map_key m i h ∙ sym e in
        omega (arith, ascends_rise (keys (map_entries m)) up k i l (omega (arith, map_length m)))

-- What the loop of `lay_in` keeps: the cells hold the first i entries.
pub record Laying (list t₀ t : List ℕ) (m : Map) (i : ℕ) : Type 0 where
  pub odd : Odd m
  pub within : i ≤ length list / 4
  pub kept : Kept m.at t₀ t
  pub holds : Holds t m (take i (map_entries list))

module _ {list t₀ : List ℕ} {m : Map} where
  pub laying_all : Odd m → Holds t₀ m [] → Laying list t₀ t₀ m 0
  laying_all d h = record { odd = d; within = omega arith; kept = kept_all m.at t₀; holds = h }

  module _ {t next : List ℕ} {i old new : ℕ} {r : Bool} (c : Laying list t₀ t m i) (h : i < length list / 4)
      (eo : (old ≡ word list (4 * i)) × (old < 65536)) (en : (new ≡ word list (4 * i + 2)) × (new < 65536)) (a : Added t next m old new r) where
    pub laying_next : r ≡ true → Laying list t₀ next m (i + 1)
    laying_next e = record {
      odd = c.odd;
      within = omega arith;
      kept = kept_more c.kept (added_kept a);
      holds = rw (sym (entry_more list i h eo.0 en.0)) (added_holds a c.odd c.holds e en.1);
    }

    pub laying_clash : {first : List ℕ} → Kept m.at first t₀ → r ≡ false → LaidIn list first next m false
    laying_clash k₀ e = record {
      kept = kept_more k₀ (kept_more c.kept (added_kept a));
      holds = λ q. absurd (true≢false (sym q));
      clash = λ q k up. added_clash a c.odd c.holds e k eo.1 (next_none list i h eo.0 up);
    }

  pub laying_end : {first t : List ℕ} {i : ℕ} → Kept m.at first t₀ → Laying list t₀ t m i → length list / 4 ≤ i → LaidIn list first t m true
  laying_end {first} {t} {i} k₀ c h = record {
    kept = kept_more k₀ c.kept;
    holds = λ q. rw (take_all i (map_entries list) (omega (arith, entry_count list))) at c.holds;
    clash = λ q. absurd (true≢false q);
  }

-- What the loop of `lay` keeps: n is a power of two, which is small if the old numbers ascend, since then 65,536 cells are enough.
pub record Trying (list t₀ t : List ℕ) (at n : ℕ) : Type 0 where
  pub two : Power n
  pub near : n ≤ 65536 + 2 * length t₀
  pub few : ascends (keys (map_entries list)) ≡ true → n ≤ 65536
  pub kept : Kept at t₀ t

-- the n cells from `at` on
abbrev pub cells_from : ℕ → ℕ → Map
cells_from at n = record { at = at; mask = n - 1 }

module _ {list t₀ : List ℕ} {at : ℕ} where
  pub trying_all : {n : ℕ} → Power n × (n ≤ 65536) → Trying list t₀ t₀ at n
  trying_all k = record { two = k.0; near = omega (arith, k.1); few = λ h. k.1; kept = kept_all at t₀ }

  module _ {t : List ℕ} {n : ℕ} (c : Trying list t₀ t at n) where
    -- the loop tries more cells each time
    trying_more : 2 ≤ n
    trying_more = (power_even c.two).1

    module _ (h : at + n ≤ length t) where
      pub trying_ready : Inside t (cells_from at n) × Odd (cells_from at n)
      trying_ready =
          let e = power_even c.two in
          (record { within = omega (arith, e.1) }, record { odd = omega (arith, e.0, e.1) })

      module _ {next : List ℕ} {r : Bool} (l : LaidIn list t next (cells_from at n) r) where
        pub trying_next : r ≡ false → Trying list t₀ next at (2 * n)
        trying_next e = record {
          two = power_twice c.two;
          near = omega (arith, c.kept.size);
          few = λ up. step up (dec_lt n 65536);
          kept = kept_more c.kept l.kept;
        }
          where
            step : ascends (keys (map_entries list)) ≡ true → Dec (n < 65536) → 2 * n ≤ 65536
            step up (yes g) = power_near c.two g
            step up (no g) = absurd (l.clash e (omega (arith, c.few up)) up)

        pub trying_laid : r ≡ true → Laid list t₀ next at (cells_from at n)
        trying_laid e = record {
          place = refl;
          kept = kept_more c.kept l.kept;
          odd = λ z. trying_ready.1;
          holds = λ z. l.holds e;
          few = λ up. omega (arith, trying_more, c.few up);
          room = λ g up z. omega (arith, trying_more);
        }

    pub trying_end : length t < at + n → Laid list t₀ t at (cells_from at 1)
    trying_end h = record {
      place = refl;
      kept = c.kept;
      odd = λ z. absurd (z refl);
      holds = λ z. absurd (z refl);
      few = λ up. omega arith;
      room = λ g up z. omega (arith, c.few up, c.kept.size);
    }
