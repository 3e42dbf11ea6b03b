use mathlib.Core.Path.{refl, ◌∙◌}
use native.Mathlib.Omega.{arith}
use Rattle.placed_sets.specs.Sorts.{inside_kept, told_kept, told_still}
use Rattle.kept_sets.proofs.Keeping.{keeping_all, keeping_null, turn_inside, keeping_gone, keeping_one, keeping_full}
use Rattle.kept_sets.proofs.Ending.{placed_as, wrote_short, offset_inside, set_sound, wrote_full, wrote_all}
use Rattle.kept_sets.proofs.write_kept.Goals as goal

pub returns-then-area-first : goal.returns-then-area-first
returns-then-area-first c =
    wrote_short c.requires.0 c.header_size-slots.ensures.0 c.args.book.now c.header_size-slots.ensures.1 (omega arith) c.over.ensures

pub loop-i-init : goal.loop-i-init
loop-i-init c =
    (keeping_all _ _ _ _ _ _ c.requires.0.fits (omega arith) c.begin.ensures c.requires.3, c.requires.1, refl, omega (arith, c.requires.0.fits))

pub word_inside-at-requires : goal.word_inside-at-requires
word_inside-at-requires c = offset_inside c.requires.0 c.header_size-slots.ensures.0 c.loop-i.invariant.0 c.loop-i-test.true refl

pub loop-i-preserved-then-at-eq0 : goal.loop-i-preserved-then-at-eq0
loop-i-preserved-then-at-eq0 c =
    (keeping_null _ _ _ _ _ _ c.loop-i.invariant.0 c.loop-i-test.true refl c.word_inside-at.ensures.0 c.if-at-eq0.true, c.loop-i.invariant.1, c.loop-i.invariant.2, c.loop-i.invariant.3)

pub place_set-q-requires : goal.place_set-q-requires
place_set-q-requires c =
    let sound = set_sound c.requires.0 c.header_size-slots.ensures.0 c.loop-i.invariant.0 c.loop-i-test.true refl c.word_inside-at.ensures.0 c.if-at-eq0.false in
    (sound, c.requires.0.short, inside_kept c.loop-i.invariant.0.cells c.requires.0.inside, turn_inside _ _ _ _ _ _ c.loop-i.invariant.0 c.loop-i-test.true refl c.word_inside-at.ensures.0 c.word_inside-at.ensures.1 c.requires.2, told_still c.loop-i.invariant.0.cells c.args.sort c.requires.0.before c.loop-i.invariant.1)

pub returns-then-area-q : goal.returns-then-area-q
returns-then-area-q c =
    let sound = set_sound c.requires.0 c.header_size-slots.ensures.0 c.loop-i.invariant.0 c.loop-i-test.true refl c.word_inside-at.ensures.0 c.if-at-eq0.false in
    let w = placed_as c.loop-i.invariant.0.cells c.requires.0.before c.args.sort c.args.src.now c.place_set-q.ensures.0 in
    wrote_full c.requires.0 c.header_size-slots.ensures.0 c.loop-i.invariant.0 c.args.book.now c.begin.ensures.same w.same c.if-area-q.true (λ b. rw c.header_size-slots.ensures.0 at (keeping_full _ _ _ _ _ _ c.loop-i.invariant.0 c.loop-i-test.true refl c.word_inside-at.ensures.0 c.if-at-eq0.false (c.requires.0.small _ sound) w (omega (arith, c.requires.0.counted, c.header_size-slots.ensures.1)) c.if-area-q.true b))

pub loop-i-preserved : goal.loop-i-preserved
loop-i-preserved c =
    let sound = set_sound c.requires.0 c.header_size-slots.ensures.0 c.loop-i.invariant.0 c.loop-i-test.true refl c.word_inside-at.ensures.0 c.if-at-eq0.false in
    let w = placed_as c.loop-i.invariant.0.cells c.requires.0.before c.args.sort c.args.src.now c.place_set-q.ensures.0 in
    (keeping_one _ _ _ _ _ _ c.loop-i.invariant.0 c.loop-i-test.true refl c.word_inside-at.ensures.0 c.if-at-eq0.false (c.requires.0.small _ sound) w c.if-q-eq0.false c.if-area-q.false refl, told_kept c.loop-i.invariant.0.cells c.args.sort c.requires.0.before c.place_set-q.ensures.1, c.told-1.given ∙ c.loop-i.invariant.2, c.loop-i.invariant.3)

pub loop-i-preserved-then-q-eq0 : goal.loop-i-preserved-then-q-eq0
loop-i-preserved-then-q-eq0 c =
    let sound = set_sound c.requires.0 c.header_size-slots.ensures.0 c.loop-i.invariant.0 c.loop-i-test.true refl c.word_inside-at.ensures.0 c.if-at-eq0.false in
    let w = placed_as c.loop-i.invariant.0.cells c.requires.0.before c.args.sort c.args.src.now c.place_set-q.ensures.0 in
    (keeping_gone _ _ _ _ _ _ c.loop-i.invariant.0 c.loop-i-test.true refl c.word_inside-at.ensures.0 c.if-at-eq0.false (c.requires.0.small _ sound) w (omega arith), told_kept c.loop-i.invariant.0.cells c.args.sort c.requires.0.before c.place_set-q.ensures.1, c.told-1.given ∙ c.loop-i.invariant.2, c.loop-i.invariant.3)

pub returns : goal.returns
returns c =
    wrote_all c.requires.0 c.header_size-slots.ensures.0 c.loop-i.invariant.0 c.args.book.now c.begin.ensures.same c.loop-i-test.false
