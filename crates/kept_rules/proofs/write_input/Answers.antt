use mathlib.Core.Path.{refl, sym, ◌∙◌}
use native.Mathlib.Omega.{arith}
use Rattle.numbers.specs.Leaves.{went_on}
use Rattle.kept_rules.specs.Left.{maps_in, input_inside, input_ended, input_next}
use Rattle.kept_rules.proofs.write_input.Goals as goal

pub word_inside-count-requires : goal.word_inside-count-requires
word_inside-count-requires c =
    omega (arith, input_inside c.args.src.now c.args.at c.requires.0 refl refl)

pub write_counted-p-requires : goal.write_counted-p-requires
write_counted-p-requires c =
    (omega (arith, input_inside c.args.src.now c.args.at c.requires.0 c.word_inside-count.ensures.0 c.saturating_sub-n.ensures), c.requires.1.input, c.requires.3)

pub returns-then-ended : goal.returns-then-ended
returns-then-ended c =
    input_ended (maps_in c.args.t.now c.args.maps) c.args.src.now c.args.at c.word_inside-count.ensures.0 c.saturating_sub-n.ensures c.write_counted-p.ensures c.requires.2 (sym c.ended.ensures ∙ c.if-ended.true)

pub write_ahead-requires : goal.write_ahead-requires
write_ahead-requires c =
    let t = went_on _ _ (sym c.ended.ensures ∙ c.if-ended.false) in
    (input_inside c.args.src.now c.args.at c.requires.0 c.word_inside-count.ensures.0 c.saturating_sub-n.ensures, c.requires.1, t.0, t.1)

pub returns : goal.returns
returns c =
    input_next (maps_in c.args.t.now c.args.maps) c.args.src.now c.args.at c.word_inside-count.ensures.0 c.saturating_sub-n.ensures c.write_counted-p.ensures (sym c.ended.ensures ∙ c.if-ended.false) c.write_ahead.ensures
