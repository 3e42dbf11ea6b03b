use mathlib.Core.Path.{ap}
use mathlib.Core.Bool.{not}
use Rattle.faults.specs.Reached.{refused, passed}
use Rattle.compare_refusals.proofs.other_format.Goals as goal

pub returns-then-not-inside : goal.returns-then-not-inside
returns-then-not-inside c = rw (refused c.inside.ensures c.if-not-inside.true-raw)

pub returns : goal.returns
returns c =
    rw (passed c.inside.ensures c.if-not-inside.false-raw) (ap not (rw c.word_at.ensures.0 at c.compared_format.ensures))
