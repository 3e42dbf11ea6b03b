use mathlib.Core.Path.{refl, sym, ◌∙◌}
use native.Mathlib.Omega.{arith}
use Rattle.numbers.specs.Leaves.{went_on}
use Rattle.kept_rules.specs.Left.{maps_in, chained_inside, chained_ended, chained_next}
use Rattle.kept_rules.proofs.write_chained.Goals as goal

pub word_inside-n-requires : goal.word_inside-n-requires
word_inside-n-requires c =
    omega (arith, chained_inside c.args.src.now c.args.at c.requires.0 refl)

pub overflow_add-at : goal.overflow_add-at
overflow_add-at c =
    omega (arith, chained_inside c.args.src.now c.args.at c.requires.0 refl)

pub write_counted-p-requires : goal.write_counted-p-requires
write_counted-p-requires c =
    (omega (arith, chained_inside c.args.src.now c.args.at c.requires.0 c.word_inside-n.ensures.0), c.requires.1.back, c.requires.3)

pub returns-then-ended : goal.returns-then-ended
returns-then-ended c =
    chained_ended (maps_in c.args.t.now c.args.maps) c.args.src.now c.args.at c.word_inside-n.ensures.0 c.write_counted-p.ensures c.requires.2 (sym c.ended.ensures ∙ c.if-ended.true)

pub overflow_add-at-2 : goal.overflow_add-at-2
overflow_add-at-2 c =
    omega (arith, chained_inside c.args.src.now c.args.at c.requires.0 c.word_inside-n.ensures.0)

pub overflow_add-at-3 : goal.overflow_add-at-3
overflow_add-at-3 c =
    omega (arith, chained_inside c.args.src.now c.args.at c.requires.0 c.word_inside-n.ensures.0)

pub write_input-requires : goal.write_input-requires
write_input-requires c =
    let t = went_on _ _ (sym c.ended.ensures ∙ c.if-ended.false) in
    (chained_inside c.args.src.now c.args.at c.requires.0 c.word_inside-n.ensures.0, c.requires.1, t.0, t.1)

pub returns : goal.returns
returns c =
    chained_next (maps_in c.args.t.now c.args.maps) c.args.src.now c.args.at c.word_inside-n.ensures.0 c.write_counted-p.ensures (sym c.ended.ensures ∙ c.if-ended.false) c.write_input.ensures
