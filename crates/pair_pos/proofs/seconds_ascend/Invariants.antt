use mathlib.Core.Path.{◌≡◌}
use Prim.Native.Nat.{◌+◌, ◌-◌, ◌*◌}
use Rattle.meaning.specs.Words.{word}
use Rattle.laws.specs.Ascends.{Ascending}
use Rattle.pair_pos.proofs.seconds_ascend.Given as goal

-- the last glyph that was read is the one before the i-th
abbrev pub invariant-loop-i : goal.invariant-loop-i
invariant-loop-i l = Ascending l.src l.size l.at l.n (l.at + l.size * (l.i - 1)) (l.n - (l.i - 1)) × (l.last ≡ word l.src (l.at + l.size * (l.i - 1)))
