use Prim.Native.Nat.{ℕ}
use mathlib.Core.Path.{ap, ◌∙◌}
use Rattle.cell_maps.specs.Cells.{answer_in}
use Rattle.cell_maps.proofs.RunLaws.{entry_by_even, entry_by_cell}
use Rattle.fold.proofs.find.Goals as goal

pub returns-then-m-eq0-clause-answer : goal.returns-then-m-eq0-clause-answer
returns-then-m-eq0-clause-answer c =
    c.answer.ensures.answer ∙ ap (λ (e : ℕ). answer_in e c.args.old) (entry_by_even c.args.t.now c.args.m c.args.old c.if-m-eq0.true c.even_entry.ensures.0)

pub returns-clause-answer : goal.returns-clause-answer
returns-clause-answer c =
    c.answer-2.ensures.answer ∙ ap (λ (e : ℕ). answer_in e c.args.old) (c.held.ensures.0 ∙ entry_by_cell c.args.t.now c.args.m c.args.old c.if-m-eq0.false)
