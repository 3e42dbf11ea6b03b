use mathlib.Core.Path.{◌≡◌}
use lib.ListN.{length}
use Rattle.meaning.specs.Tables.{rule}
use Rattle.meaning.specs.Cut.{cut_rule}
use Rattle.meaning.specs.Layout.{rule_words}
use Rattle.member_sets.specs.Dead.{Dead}
use Rattle.member_sets.proofs.Gathering.{Gathering}
use Rattle.kept_rules.specs.Left.{maps_in, rule_left}
use Rattle.rule_sets.proofs.write_rules.Given as goal

abbrev pub invariant-loop-i : goal.invariant-loop-i
invariant-loop-i l =
    Gathering (rule l.chained l.src) (cut_rule l.chained (maps_in l.t l.maps)) (rule_words l.chained) l.src l.at l.n l.initial.area l.pos l.area l.k l.p l.i × Dead (rule_left l.chained (maps_in l.t l.maps) l.src) l.dead × (length l.dead ≡ length l.initial.dead)
