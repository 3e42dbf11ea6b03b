use Rattle.class_entries.proofs.Entering.{Entering}
use Prim.Native.Nat.{◌-◌}
use Rattle.class_entries.proofs.new_entries.Given as goal

abbrev pub invariant-loop-e : goal.invariant-loop-e
invariant-loop-e l = Entering l.initial.t l.t l.list l.n l.m l.k l.e
