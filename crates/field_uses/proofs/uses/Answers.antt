use mathlib.Core.Path.{refl}
use Prim.Native.Nat.{◌+◌, ◌-◌}
use native.Mathlib.Omega.{arith}
use Rattle.field_uses.proofs.Using.{using_all, using_found, using_next, using_end, unused, names_inside}
use Rattle.field_uses.proofs.uses.Goals as goal

pub returns-then-place-eq0 : goal.returns-then-place-eq0
returns-then-place-eq0 c = unused _ _ _ _ c.if-place-eq0.true

pub notes-init : goal.notes-init
notes-init c = using_all

pub overflow_cast-note : goal.overflow_cast-note
overflow_cast-note c = omega (arith, c.type_inv.t (c.args.at + c.notes.i))

pub overflow_mul-note : goal.overflow_mul-note
overflow_mul-note c = omega (arith, c.type_inv.t (c.args.at + c.notes.i))

pub overflow_add-note-in-notes : goal.overflow_add-note-in-notes
overflow_add-note-in-notes c = omega (arith, c.type_inv.t (c.args.at + c.notes.i))

pub word_inside-off-requires : goal.word_inside-off-requires
word_inside-off-requires c = omega (arith, c.requires.0.offset c.notes.i c.notes-test.true)

pub set_uses-requires : goal.set_uses-requires
set_uses-requires c =
    (names_inside c.requires.0 c.notes-test.true c.word_inside-off.ensures.0, c.requires.1, c.requires.2)

pub returns-then-set_uses : goal.returns-then-set_uses
returns-then-set_uses c = using_found c.notes.invariant c.notes-test.true refl c.word_inside-off.ensures.0 c.set_uses.ensures c.if-set_uses.true

pub notes-preserved : goal.notes-preserved
notes-preserved c = using_next c.notes.invariant c.notes-test.true refl c.word_inside-off.ensures.0 c.set_uses.ensures c.if-set_uses.false

pub returns : goal.returns
returns c = using_end c.notes.invariant c.notes-test.false
