-- What a trailer says of a part.
use Prim.Native.Nat.{ℕ, ◌+◌, ◌≤◌, ◌<◌}
use mathlib.Core.Path.{◌≡◌, ◌∙◌}
use mathlib.Core.Bool.{true}
use mathlib.Core.List.{List}
use lib.ListN.{length}
use lib.Dec.{leb}
use borrow.Author.Tests.{leb-true}
use Rattle.meaning.specs.Job.{long, part_at, bytes_of}
use Rattle.file_parts.specs.Parts.{ends_by}

-- x is the number of four bytes
abbrev Long : List ℕ → ℕ → ℕ → Type 0
Long f at x = (x ≡ long f at) × (x < 0x1_0000_0000)

module _ (f : List ℕ) (at : ℕ) {start len : ℕ} (s : Long f at start) (l : Long f (at + 4) len) where
  -- the test of where it ends
  pub ends_says : (end : ℕ) → leb (start + len) end ≡ ends_by (part_at f at) end
  unfolding ends_by part_at
  ends_says end = rw (s.0, l.0)

  -- one that ends by the file's end lies in the file
  pub part_ends : ends_by (part_at f at) (length f) ≡ true → start + len ≤ length f
  part_ends h = leb-true (start + len) (length f) (ends_says (length f) ∙ h)

  -- its bytes
  pub part_is : {source : List ℕ} → source ≡ bytes_of f (record { start = start; len = len }) → source ≡ bytes_of f (part_at f at)
  unfolding part_at
  part_is g = rw (g, s.0, l.0)
