-- A list that is laid whole or not at all.
use Rattle.std.specs.Prelude.{ℕ, ◌+◌, ◌*◌, ◌≤◌, ◌<◌, ◌≡◌, refl, List, length}
use Rattle.std.proofs.Common.{arith}
use Rattle.std.proofs.lemmas.List.Edits.{sets}
use Rattle.meaning.specs.Words.{flat}
use Rattle.differences.specs.Entries.{Entry}
use Rattle.differences.specs.Compare.{entry_words}
use Rattle.listing.specs.Listed.{Listed}

-- r is the length of the list of es in bytes. The list stands in the buffer if there is room for all of it; if not, the buffer is as it was.
pub record LaidList (es : List Entry) (out₀ out : List ℕ) (r : ℕ) : Type 0 where
  pub size : r ≡ 12 * length es
  pub short : length out₀ < r → out ≡ out₀
  pub bytes : r ≤ length out₀ → out ≡ sets out₀ 0 (flat (entry_words es))

module _ {es : List Entry} {out : List ℕ} {before during : List ℕ} {n : ℕ} (k : Listed es before 0 during n) where
  -- the length is known, and there is no room
  pub laid_short : length out < n → LaidList es out out n
  laid_short h = record { size = omega (arith, k.place); short = λ l. refl; bytes = λ l. absurd (omega arith) }

  -- there is, and the list is written
  pub laid_listed : n ≤ length out → {after : List ℕ} {m : ℕ} → Listed es out 0 after m → LaidList es out after m
  laid_listed h {after} {m} l = record { size = omega (arith, l.place); short = λ s. absurd (omega (arith, k.place, l.place)); bytes = λ s. l.bytes }

-- the same entries, said otherwise
pub laid_said : {es fs : List Entry} {out₀ out : List ℕ} {r : ℕ} → LaidList es out₀ out r → es ≡ fs → LaidList fs out₀ out r
laid_said k e = rw e at k
