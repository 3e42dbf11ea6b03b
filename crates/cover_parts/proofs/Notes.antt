-- How many glyphs can be noted of the coverages of a row.
use Prim.Native.Nat.{ℕ, ◌+◌, ◌*◌, ◌≤◌, ◌<◌}
use mathlib.Core.Path.{◌≡◌}
use mathlib.Core.List.{List}
use native.Mathlib.Decide.{dec_lt}
use native.Mathlib.Omega.{arith}
use Rattle.meaning.specs.Words.{word}
use Rattle.meets.specs.Either.{most_notes}
use Rattle.cover_parts.specs.Rows.{MoreNotes, MostRow}
use Rattle.cover_parts.specs.declared.Row.{Row}

-- What the loop over a row keeps: r is a bound for its first i coverages.
pub record Counting (form : ℕ) (glyphs s : List ℕ) (row : Row) (least r i : ℕ) : Type 0 where
  pub within : i ≤ row.len
  pub above : least ≤ r
  pub bounds : (j : ℕ) → j < i → (word s (row.at + 2 * j) ≡ 0 → ⊥) → most_notes form glyphs s (word s (row.at + 2 * j)) ≤ r
  pub small : least ≤ 65536 → r ≤ 65536

module _ {form : ℕ} {glyphs s : List ℕ} {row : Row} {least : ℕ} where
  pub counting_all : Counting form glyphs s row least least 0
  counting_all = record { within = omega arith; above = omega arith; bounds = λ j l z. absurd (omega arith); small = λ h. h }

  pub counting_turn : {r i cover n : ℕ} → Counting form glyphs s row least r i → i < row.len → cover ≡ word s (row.at + 2 * i) → MoreNotes form glyphs s cover r n → Counting form glyphs s row least n (i + 1)
  counting_turn {r} {i} {cover} {n} c h e m = record {
    within = omega arith;
    above = omega (arith, c.above, m.above);
    bounds = λ j l z. step j l z (dec_lt j i);
    small = λ l. m.small (c.small l);
  }
    where
      step : (j : ℕ) → j < i + 1 → (word s (row.at + 2 * j) ≡ 0 → ⊥) → Dec (j < i) → most_notes form glyphs s (word s (row.at + 2 * j)) ≤ n
      step j l z (yes g) = omega (arith, c.bounds j g z, m.above)
      step j l z (no g) =
          let q : j ≡ i = omega arith in
          rw (q, ← e) (m.enough (rw (q, ← e) at z))

  pub counting_end : {r i : ℕ} → Counting form glyphs s row least r i → row.len ≤ i → MostRow form glyphs s row least r
  counting_end c h = record { above = c.above; bounds = λ j l z. c.bounds j (omega arith) z; small = c.small }
