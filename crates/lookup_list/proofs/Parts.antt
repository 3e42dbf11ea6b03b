-- The number of four bytes, and a part of the buffer.
use Prim.Native.Nat.{ℕ, ◌+◌, ◌-◌, ◌*◌, ◌<◌}
use mathlib.Core.Path.{◌≡◌}
use mathlib.Core.List.{List}
use native.Mathlib.Omega.{arith}
use lib.ListN.{drop, take}
use Rattle.meaning.specs.Words.{word}
use Rattle.meaning.specs.Job.{long, part_at, bytes_of}
use Rattle.lookup_list.specs.Ready.{source_at}

pub is_long : (f : List ℕ) (at : ℕ) {a b : ℕ} → (a ≡ word f at) × (a < 65536) → (b ≡ word f (at + 2)) × (b < 65536) → (a * 65536 + b ≡ long f at) × (a * 65536 + b < 0x1_0000_0000)
unfolding long
is_long f at e g = (rw (e.0, g.0), omega arith)

pub part_bytes : (f : List ℕ) (start len : ℕ) → take (start + len - start) (drop start f) ≡ bytes_of f (record { start = start; len = len })
unfolding bytes_of
part_bytes f start len =
    let e : start + len - start ≡ len = omega arith in
    rw e

-- the bytes of a lookup, by its start and its length as they stand in the list
pub listed_source : (list buffer : List ℕ) (k : ℕ) {start len : ℕ} {src : List ℕ} → start ≡ long list (10 * k + 2) → len ≡ long list (10 * k + 6)
    → src ≡ bytes_of buffer (record { start = start; len = len }) → src ≡ source_at list buffer k
unfolding source_at part_at
listed_source list buffer k e f g =
    let d : 10 * k + 2 + 4 ≡ 10 * k + 6 = omega arith in
    rw (g, d, e, f)
