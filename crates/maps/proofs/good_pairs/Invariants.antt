use Prim.Native.Nat.{◌-◌, ◌/◌}
use lib.ListN.{length}
use Rattle.maps.proofs.Pairs.{Climbing}
use Rattle.maps.proofs.good_pairs.Given as goal

abbrev pub invariant-loop-i : goal.invariant-loop-i
invariant-loop-i l = Climbing l.m l.low l.least l.i
