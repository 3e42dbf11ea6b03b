use mathlib.Core.Path.{refl, ap}
use native.Mathlib.Omega.{arith}
use lib.Dec.{eqb}
use Rattle.laws.specs.SoundGood.{bytes_all}
use Rattle.kept_header.specs.Table.{table_of}
use Rattle.kept_header.specs.Answers.{answered_said}
use Rattle.placed_sets.specs.Sorts.{told_none}
use Rattle.cut_sets.proofs.Asking.{form_some, may_count, may_meet, may_write, kept_said}
use Rattle.cut_sets.proofs.cut_sets.Goals as goal

pub most-requires : goal.most-requires
most-requires c =
    may_count c.requires.0 c.requires.1 c.requires.3 c.word_inside-cover.ensures.0

pub returns-then-t-notes : goal.returns-then-t-notes
returns-then-t-notes c = record { answer = (omega (arith, c.if-t-notes.true, c.most.ensures.small), refl) }

pub meet-m-requires : goal.meet-m-requires
meet-m-requires c =
    may_meet c.requires.0 c.requires.1 c.requires.3 c.word_inside-cover.ensures.0 c.most.ensures c.if-t-notes.false

pub nonzero_rem-glyphs : goal.nonzero_rem-glyphs
nonzero_rem-glyphs c = omega (arith, form_some c.requires.1.map)

pub write_shared-requires : goal.write_shared-requires
write_shared-requires c =
    (may_write c.requires.0 c.requires.1 c.requires.3 c.word_inside-cover.ensures.0 c.meet-m.ensures (bytes_all c.args.src.now (λ i. omega (arith, c.type_inv.src i))), c.requires.2, c.requires.4)

pub returns-then-crowded : goal.returns-then-crowded
returns-then-crowded c =
    answered_said (λ n. absurd n) (ap (table_of (eqb c.args.marks.layout 1) c.args.sort) (kept_said c.requires.0 c.requires.1 c.requires.3 c.word_inside-cover.ensures.0 c.meet-m.ensures)) c.write_shared.ensures

pub write_table-requires : goal.write_table-requires
write_table-requires c =
    (may_write c.requires.0 c.requires.1 c.requires.3 c.word_inside-cover.ensures.0 c.meet-m.ensures (bytes_all c.args.src.now (λ i. omega (arith, c.type_inv.src i))), c.requires.2, told_none c.args.sort 1 c.requires.4)

pub returns : goal.returns
returns c =
    answered_said (λ n. absurd n) (ap (table_of (eqb c.args.marks.layout 1) c.args.sort) (kept_said c.requires.0 c.requires.1 c.requires.3 c.word_inside-cover.ensures.0 c.meet-m.ensures)) c.write_table.ensures
