use native.Mathlib.Omega.{arith}
use Rattle.area_parts.proofs.Classes.{spreading_all, spreading_up, spreading_room, spreading_class, spreading_turn, spreading_end}
use Rattle.laws.specs.Written.{wrote_length}
use Rattle.area_parts.proofs.put_class_array.Goals as goal

pub loop-i-init : goal.loop-i-init
loop-i-init c =
    spreading_all c.requires.1 c.requires.2 c.requires.3 c.old_in-id.ensures.0

pub overflow_sub-glyph : goal.overflow_sub-glyph
overflow_sub-glyph c =
    spreading_up c.loop-i.invariant c.loop-i-test.true c.old_in-glyph.ensures.0

pub put_zeros-q-requires : goal.put_zeros-q-requires
put_zeros-q-requires c =
    let room = spreading_room c.loop-i.invariant c.loop-i-test.true c.old_in-glyph.ensures.0 in
    omega (arith, room)

pub put-p-requires : goal.put-p-requires
put-p-requires c =
    spreading_class c.loop-i.invariant c.loop-i-test.true c.old_in-glyph.ensures.0 c.put_zeros-q.ensures

pub loop-i-preserved : goal.loop-i-preserved
loop-i-preserved c =
    spreading_turn c.loop-i.invariant c.loop-i-test.true c.old_in-glyph.ensures.0 c.put_zeros-q.ensures c.new_in.ensures.0 c.put-p.ensures

pub shape_of-area : goal.shape_of-area
shape_of-area c = wrote_length (spreading_end c.loop-i.invariant c.loop-i-test.false)

pub returns : goal.returns
returns c = spreading_end c.loop-i.invariant c.loop-i-test.false
