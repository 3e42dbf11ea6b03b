use mathlib.Core.Path.{◌≡◌}
use Prim.Native.Nat.{◌+◌, ◌-◌, ◌*◌}
use Rattle.meaning.specs.Words.{word}
use Rattle.laws.specs.Ascends.{Ascending}
use Rattle.wire.proofs.ascending.Given as goal

-- the last word that was read is the one before the i-th
abbrev pub invariant-loop-i : goal.invariant-loop-i
invariant-loop-i l = Ascending l.s l.step l.at l.n (l.at + l.step * (l.i - 1)) (l.n - (l.i - 1)) × (l.last ≡ word l.s (l.at + l.step * (l.i - 1)))
