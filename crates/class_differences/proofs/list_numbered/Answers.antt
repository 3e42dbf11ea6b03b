use Rattle.listing.specs.Listed.{listed_length}
use Rattle.set_differences.proofs.Going.{going_none, going_fit, going_turn, going_end}
use native.Mathlib.Omega.{arith}
use Rattle.class_differences.proofs.list_numbered.Goals as goal

pub loop-g-init : goal.loop-g-init
loop-g-init c = going_none c.remember.ensures

pub list_glyph-at-requires : goal.list_glyph-at-requires
list_glyph-at-requires c =
    (c.requires.0, c.requires.1, c.loop-g-test.true, omega (arith, c.loop-g.invariant.through.near, c.loop-g-test.true), going_fit c.loop-g.invariant c.requires.2 (omega arith), c.loop-g.invariant.remembered)

pub loop-g-preserved : goal.loop-g-preserved
loop-g-preserved c =
    going_turn c.loop-g.invariant c.loop-g-test.true c.list_glyph-at.ensures (omega arith) (omega arith) (omega arith)

pub shape_of-nums : goal.shape_of-nums
shape_of-nums c = omega (arith, c.loop-g.invariant.nums_size)

pub shape_of-heads : goal.shape_of-heads
shape_of-heads c = c.loop-g.invariant.heads_size

pub shape_of-links : goal.shape_of-links
shape_of-links c = c.loop-g.invariant.links_size

pub shape_of-out : goal.shape_of-out
shape_of-out c = listed_length (going_end c.loop-g.invariant c.loop-g-test.false).0

pub returns : goal.returns
returns c = going_end c.loop-g.invariant c.loop-g-test.false
