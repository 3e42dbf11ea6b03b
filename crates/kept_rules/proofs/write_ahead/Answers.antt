use mathlib.Core.Path.{refl, sym, ◌∙◌}
use native.Mathlib.Omega.{arith}
use Rattle.numbers.specs.Leaves.{went_on}
use Rattle.kept_rules.specs.Left.{maps_in, ahead_inside, ahead_ended, ahead_next}
use Rattle.kept_rules.proofs.write_ahead.Goals as goal

pub word_inside-n-requires : goal.word_inside-n-requires
word_inside-n-requires c =
    omega (arith, ahead_inside c.args.src.now c.args.at c.requires.0 refl refl)

pub write_counted-p-requires : goal.write_counted-p-requires
write_counted-p-requires c =
    (omega (arith, ahead_inside c.args.src.now c.args.at c.requires.0 c.word_inside-n.ensures.0 refl), c.requires.1.ahead, c.requires.3)

pub returns-then-ended : goal.returns-then-ended
returns-then-ended c =
    ahead_ended (maps_in c.args.t.now c.args.maps) c.args.src.now c.args.at c.word_inside-n.ensures.0 c.write_counted-p.ensures c.requires.2 (sym c.ended.ensures ∙ c.if-ended.true)

pub word_inside-records-requires : goal.word_inside-records-requires
word_inside-records-requires c =
    omega (arith, ahead_inside c.args.src.now c.args.at c.requires.0 c.word_inside-n.ensures.0 refl)

pub write_counted_records-requires : goal.write_counted_records-requires
write_counted_records-requires c =
    (omega (arith, ahead_inside c.args.src.now c.args.at c.requires.0 c.word_inside-n.ensures.0 c.word_inside-records.ensures.0), c.requires.1.lookups, (went_on _ _ (sym c.ended.ensures ∙ c.if-ended.false)).1)

pub returns : goal.returns
returns c =
    ahead_next (maps_in c.args.t.now c.args.maps) c.args.src.now c.args.at c.word_inside-n.ensures.0 c.word_inside-records.ensures.0 c.write_counted-p.ensures (sym c.ended.ensures ∙ c.if-ended.false) c.write_counted_records.ensures
