use mathlib.Core.Path.{refl, sym, ap, ◌∙◌}
use native.Mathlib.Omega.{arith}
use lib.Dec.{ltb}
use Rattle.ranked_maps.specs.Present.{top_small}
use Rattle.class_places.specs.Places.{slots_near}
use Rattle.class_slots.proofs.Filling.{filling_null, filling_set, filling_full}
use Rattle.class_slots.proofs.Turns.{is_found, not_found, few_classes, turning_all, wrote_short, wrote_said, asked, turning_skip, turning_here, turn_asked, turned, wrote_full, wrote_all}
use Rattle.class_slots.proofs.write_slots.Goals as goal

pub overflow_mul-first : goal.overflow_mul-first
overflow_mul-first c = omega (arith, few_classes c.requires.0 c.slots_at-slots.ensures refl)

pub overflow_add-first : goal.overflow_add-first
overflow_add-first c = omega (arith, few_classes c.requires.0 c.slots_at-slots.ensures refl, c.slots_at-slots.ensures, slots_near c.args.chained)

pub returns-then-area-first : goal.returns-then-area-first
returns-then-area-first c = (wrote_short c.requires.0 c.slots_at-slots.ensures refl (omega arith) c.over.ensures, c.requires.2)

pub loop-class-init : goal.loop-class-init
loop-class-init c =
    (turning_all c.requires.0 c.slots_at-slots.ensures refl (omega arith) (sym (ap (ltb 1) c.begin.ensures.same)) c.begin.ensures (λ t. c.requires.3 (sym (ap (ltb 1) c.begin.ensures.same) ∙ t)), c.requires.2, refl, refl)

pub overflow_add-class-end : goal.overflow_add-class-end
overflow_add-class-end c = omega (arith, top_small c.args.maps.input c.requires.0.few)

pub loop-class-preserved-in_default : goal.loop-class-preserved-in_default
loop-class-preserved-in_default c =
    (turning_skip c.requires.0 c.slots_at-slots.ensures refl c.loop-class.invariant.0 (omega arith) (not_found c.in_default.ensures.answer), c.loop-class.invariant.1, c.loop-class.invariant.2, c.loop-class.invariant.3)

pub set_place-requires : goal.set_place-requires
set_place-requires c = asked c.requires.0 c.slots_at-slots.ensures refl (omega arith)

pub place_set-q-requires : goal.place_set-q-requires
place_set-q-requires c =
    (turn_asked c.requires.0 c.slots_at-slots.ensures refl c.loop-class.invariant.0 (omega arith) (is_found c.in-Some.ensures.answer) c.set_place.ensures, c.loop-class.invariant.1)

pub returns-then-area-q : goal.returns-then-area-q
returns-then-area-q c =
    let h = turning_here c.requires.0 c.slots_at-slots.ensures refl c.loop-class.invariant.0 (omega arith) (is_found c.in-Some.ensures.answer) c.set_place.ensures in
    (wrote_said (ap (ltb 1) c.begin.ensures.same) (wrote_full c.requires.0 c.slots_at-slots.ensures refl c.loop-class.invariant.0 c.place_set-q.ensures.0.same (omega arith) (λ m. filling_full _ _ _ _ _ _ _ _ c.set_place.result h c.place_set-q.ensures.0 c.if-area-q.true m)), c.place_set-q.ensures.1)

pub loop-class-preserved-then-q-eq0 : goal.loop-class-preserved-then-q-eq0
loop-class-preserved-then-q-eq0 c =
    let h = turning_here c.requires.0 c.slots_at-slots.ensures refl c.loop-class.invariant.0 (omega arith) (is_found c.in-Some.ensures.answer) c.set_place.ensures in
    (turned c.requires.0 c.slots_at-slots.ensures refl c.loop-class.invariant.0 (omega arith) (filling_null _ _ _ _ _ _ _ _ c.set_place.result h c.place_set-q.ensures.0 c.if-q-eq0.true), c.place_set-q.ensures.1, c.dead-1.given ∙ c.loop-class.invariant.2, c.book-in-loop-class-1.given ∙ c.loop-class.invariant.3)

pub loop-class-preserved : goal.loop-class-preserved
loop-class-preserved c =
    let h = turning_here c.requires.0 c.slots_at-slots.ensures refl c.loop-class.invariant.0 (omega arith) (is_found c.in-Some.ensures.answer) c.set_place.ensures in
    (turned c.requires.0 c.slots_at-slots.ensures refl c.loop-class.invariant.0 (omega arith) (filling_set _ _ _ _ _ _ _ _ c.set_place.result h c.place_set-q.ensures.0 c.if-q-eq0.false c.if-area-q.false), c.place_set-q.ensures.1, c.dead-1.given ∙ c.loop-class.invariant.2, c.book-in-loop-class-1.given ∙ c.loop-class.invariant.3)

pub shape_of-area : goal.shape_of-area
shape_of-area c = c.loop-class.invariant.0.filling.same

pub shape_of-book : goal.shape_of-book
shape_of-book c = c.loop-class.invariant.3 ∙ c.begin.ensures.same

pub returns : goal.returns
returns c = (wrote_said (ap (ltb 1) c.begin.ensures.same) (wrote_all c.requires.0 c.slots_at-slots.ensures refl c.loop-class.invariant.0 (omega arith)), c.loop-class.invariant.1)
