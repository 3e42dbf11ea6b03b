-- How long pair records are.
use Prim.Native.Nat.{ℕ, ◌*◌, ◌≤◌, ◌<◌}
use native.Mathlib.Nat.{mul-le-mul_right}
use native.Mathlib.Omega.{arith}

-- records that are 34 bytes long at most, and as many as a word counts, take a number of bytes that is far from wrapping
pub records_small : (size n : ℕ) → size ≤ 34 → n < 65536 → size * n < 0x100_0000
records_small size n h l = omega (arith, mul-le-mul_right n h)
