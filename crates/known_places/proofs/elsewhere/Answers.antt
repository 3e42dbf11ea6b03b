use Rattle.known_blocks.proofs.Coming.{found_none}
use Rattle.known_blocks.proofs.Further.{found_elsewhere}
use Prim.Native.Nat.{◌-◌}
use native.Mathlib.Omega.{arith}
use Rattle.known_places.proofs.elsewhere.Goals as goal

pub returns-then-book-blocks : goal.returns-then-book-blocks
returns-then-book-blocks c = found_none

pub returns-then-further-source : goal.returns-then-further-source
returns-then-further-source c = found_elsewhere c.loop-i.i (rw (c.cell-count.ensures.0, c.last.ensures) at c.loop-i-test.true) (omega (arith, c.cell-blocks.ensures.0)) c.cell-further.ensures.0 c.if-further-source.true

pub returns : goal.returns
returns c = found_none
