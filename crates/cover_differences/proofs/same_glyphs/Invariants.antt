use Rattle.cover_differences.proofs.Stretching.{Walking}
use Prim.Native.Nat.{◌+◌, ◌-◌}
use Rattle.cover_differences.proofs.same_glyphs.Given as goal

abbrev pub invariant-stretches : goal.invariant-stretches
invariant-stretches l = Walking l.left l.right l.l l.r l.m l.n l.i l.j l.a l.b

abbrev pub decreases-stretches : goal.decreases-stretches
decreases-stretches l = (l.m - l.i) + (l.n - l.j)
