use Rattle.meaning.specs.Parts.{coverage}
use Rattle.covered_map.proofs.Naming.{Naming}
use Prim.Native.Nat.{◌-◌}
use Rattle.covered_map.proofs.put_covered.Given as goal

abbrev pub invariant-loop-i : goal.invariant-loop-i
invariant-loop-i l = Naming (coverage l.src l.cover) l.t l.at l.n l.initial.area l.area l.p l.i
