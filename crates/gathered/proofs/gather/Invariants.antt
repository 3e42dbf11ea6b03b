use Rattle.set_numbers.proofs.Slots.{rest}
use Rattle.gathered.specs.Gathered.{numbers_at}
use Rattle.gathered.proofs.Gathering.{Gathering}
use Rattle.gathered.proofs.gather.Given as goal

abbrev pub invariant-loop-i : goal.invariant-loop-i
invariant-loop-i l = Gathering l.num (numbers_at l.num l.src l.set.side l.set.at) l.from l.n l.initial.nums (rest l.src l.set.side l.set.at l.n l.i) l.nums l.m l.i
