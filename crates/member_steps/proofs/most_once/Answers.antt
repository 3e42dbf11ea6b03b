use mathlib.Core.Path.{sym, ◌∙◌}
use Rattle.member_steps.proofs.Most.{counted_before, counted_more, larger_of}
use Rattle.member_steps.proofs.most_once.Goals as goal

pub returns-then-has_bit : goal.returns-then-has_bit
returns-then-has_bit c =
    (counted_before c.requires.1 c.args.at (sym c.has_bit.ensures ∙ c.if-has_bit.true), c.requires.1)

pub returns : goal.returns
returns c =
    let g = larger_of c.args.most c.rule_steps-found.ensures c.max.ensures in
    (g, counted_more c.args.at c.requires.1 g c.put_bit.ensures)
