-- Cells of our own are enough.
use Prim.Native.Nat.{ℕ, ◌≤◌}
use native.Mathlib.Omega.{arith}
use lib.ListN.{length, replicate, length-replicate}
use Rattle.gathered.specs.Gathered.{Scratch}

-- for any number, so that no cells are written out
own_enough : (n : ℕ) → n ≤ length (replicate {A = ℕ} n 0)
own_enough n = rw (length-replicate {A = ℕ} n 0) (omega arith)

pub own_scratch : Scratch (length (replicate {A = ℕ} 262144 0)) (length (replicate {A = ℕ} 131075 0)) (length (replicate {A = ℕ} 589828 0)) (length (replicate {A = ℕ} 458752 0))
own_scratch = record { codes = length-replicate {A = ℕ} 262144 0; rows = own_enough 131075; comes = own_enough 589828; linked = own_enough 458752 }
