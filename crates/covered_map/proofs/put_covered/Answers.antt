use Rattle.covered_map.proofs.Naming.{naming_all, naming_turn, naming_end}
use mathlib.Core.Path.{refl}
use Prim.Native.Nat.{◌+◌, ◌-◌}
use native.Mathlib.Omega.{arith}
use Rattle.covered_map.proofs.put_covered.Goals as goal

pub loop-i-init : goal.loop-i-init
loop-i-init c = naming_all

pub overflow_cast-note : goal.overflow_cast-note
overflow_cast-note c =
    omega (arith, c.type_inv.t (c.args.at + c.loop-i.i))

pub glyph_at-old-requires : goal.glyph_at-old-requires
glyph_at-old-requires c =
    (c.requires.sound, c.requires.indexes c.loop-i.i c.loop-i-test.true)

pub put_two-p-requires : goal.put_two-p-requires
put_two-p-requires c =
    omega (arith, c.loop-i.invariant.place, c.loop-i.invariant.size, c.requires.room, c.loop-i-test.true)

pub loop-i-preserved : goal.loop-i-preserved
loop-i-preserved c =
    naming_turn c.loop-i.invariant c.loop-i-test.true refl c.glyph_at-old.ensures.glyph c.put_two-p.ensures

pub shape_of-area : goal.shape_of-area
shape_of-area c = c.loop-i.invariant.size

pub returns : goal.returns
returns c = naming_end c.loop-i.invariant c.loop-i-test.false
