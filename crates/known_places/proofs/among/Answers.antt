use Rattle.known_blocks.proofs.Coming.{found_among, found_none}
use Prim.Native.Nat.{◌-◌}
use native.Mathlib.Omega.{arith}
use Rattle.known_places.proofs.among.Goals as goal

pub returns-then-block-source : goal.returns-then-block-source
returns-then-block-source c = found_among c.loop-i.i (omega (arith, c.cell-count.ensures.0)) c.cell-block.ensures.0 c.if-block-source.true

pub returns : goal.returns
returns c = found_none
