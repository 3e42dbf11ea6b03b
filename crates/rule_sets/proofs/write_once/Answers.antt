use mathlib.Core.Path.{sym, ◌∙◌}
use Rattle.area.specs.Extends.{keeps_none}
use Rattle.numbers.specs.Leaves.{leaves_none, leaves_gone}
use Rattle.member_sets.specs.Dead.{dead_more}
use Rattle.rule_sets.proofs.write_once.Goals as goal

pub returns-then-has_bit : goal.returns-then-has_bit
returns-then-has_bit c =
    (leaves_none (c.requires.4.gone c.args.at (sym c.has_bit.ensures ∙ c.if-has_bit.true)) keeps_none, c.requires.4)

pub returns-then-q-eq0 : goal.returns-then-q-eq0
returns-then-q-eq0 c =
    (c.write_rule-q.ensures, dead_more c.args.at c.requires.4 (leaves_gone c.write_rule-q.ensures c.requires.2 c.if-q-eq0.true).0 c.put_bit.ensures)
