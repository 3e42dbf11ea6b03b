-- The parts of plain and of chained contexts, from what was read of them.
use Prim.Native.Nat.{ℕ, ◌+◌, ◌*◌, ◌≤◌, ◌<◌}
use mathlib.Core.Path.{◌≡◌, refl, sym}
use mathlib.Core.Bool.{true, false, ◌&&◌, true≢false}
use Rattle.std.specs.Prelude.{None}
use mathlib.Core.List.{List}
use native.Mathlib.Omega.{arith}
use lib.ListN.{length}
use borrow.Author.Tests.{leb-true}
use Rattle.meaning.specs.Words.{word, inside}
use Rattle.meaning.specs.Tables.{reaches, cover_context}
use Rattle.meaning.specs.Fault.{fault_through, coverage_fault, covers_fault}
use Rattle.laws.specs.Runs.{both}
use Rattle.laws.specs.SoundGood.{part_sound, lowest_none}
use Rattle.cover_parts.specs.Rows.{SoundRow}
use Rattle.cover_parts.specs.Parts.{IsContext}

inside_fits : (s : List ℕ) (at n : ℕ) → inside s at n ≡ true → at + n ≤ length s
unfolding inside
inside_fits s at n h = leb-true (at + n) (length s) h

module _ (s : List ℕ) where
  -- a row that reaches nothing
  no_row : SoundRow s (record { at = 0; len = 0 })
  unfolding fault_through
  no_row = record { inside = omega arith; sound = refl }

  -- a plain context: counts, offsets, records
  pub plain_is : {n k : ℕ} → covers_fault false s ≡ None → (n ≡ word s 2) × (n < 65536) → (k ≡ word s 4) × (k < 65536)
      → IsContext false s (record { back = record { at = 0; len = 0 }; input = record { at = 6; len = n }; ahead = record { at = 0; len = 0 }; records = record { at = 6 + 2 * n; len = k } })
  unfolding cover_context reaches covers_fault
  plain_is {n} {k} h e f =
      let p = part_sound 0 (inside s 0 6 && inside s 6 (2 * word s 2 + 4 * word s 4)) _ h in
      let l : 6 + (2 * word s 2 + 4 * word s 4) ≤ length s = inside_fits s 6 (2 * word s 2 + 4 * word s 4) (both (inside s 0 6) _ p.0).1 in
      record {
        table = rw (e.0, f.0);
        back = no_row;
        input = record { inside = omega arith; sound = rw e.0 p.1 };
        ahead = no_row;
        records = omega arith;
        few = record { back = omega arith; input = e.1; ahead = omega arith; records = f.1 };
        plain = λ q. record { back = refl; input = refl; ahead = refl; records = refl };
        chain = λ q. absurd (true≢false (sym q));
      }

  -- a chained context: three arrays and the records, each with its count before it
  pub chained_is : {b n a k : ℕ} → covers_fault true s ≡ None → (b ≡ word s 2) × (b < 65536) → (n ≡ word s (4 + 2 * b)) × (n < 65536)
      → (a ≡ word s (4 + 2 * b + 2 + 2 * n)) × (a < 65536) → (k ≡ word s (4 + 2 * b + 2 + 2 * n + 2 + 2 * a)) × (k < 65536)
      → IsContext true s
      (record {
        back = record { at = 4; len = b };
        input = record { at = 4 + 2 * b + 2; len = n };
        ahead = record { at = 4 + 2 * b + 2 + 2 * n + 2; len = a };
        records = record { at = 4 + 2 * b + 2 + 2 * n + 2 + 2 * a + 2; len = k };
      })
  unfolding cover_context covers_fault
  chained_is {b} {n} {a} {k} h e f g r =
      let i = 4 + 2 * b in
      let j = i + 2 + 2 * n in
      let z = j + 2 + 2 * a in
      let p = part_sound 0 (inside s 0 4 && (inside s i 2 && (inside s j 2 && (inside s z 2 && inside s (z + 2) (4 * k))))) _ (rw (← e.0, ← f.0, ← g.0, ← r.0) at h) in
      let q = lowest_none (fault_through (coverage_fault s) s 0 4 b) _ p.1 in
      let t = lowest_none (fault_through (coverage_fault s) s 0 (i + 2) n) (fault_through (coverage_fault s) s 0 (j + 2) a) q.1 in
      let l : z + 2 + 4 * k ≤ length s = inside_fits s (z + 2) (4 * k) (both (inside s z 2) _ (both (inside s j 2) _ (both (inside s i 2) _ (both (inside s 0 4) _ p.0).1).1).1).1 in
      record {
        table = rw (← e.0, ← f.0, ← g.0, ← r.0);
        back = record { inside = omega arith; sound = q.0 };
        input = record { inside = omega arith; sound = t.0 };
        ahead = record { inside = omega arith; sound = t.1 };
        records = omega arith;
        few = record { back = e.1; input = f.1; ahead = g.1; records = r.1 };
        plain = λ x. absurd (true≢false x);
        chain = λ x. record { back = refl; input = omega arith; ahead = omega arith; records = omega arith };
      }
