use mathlib.Core.Path.{◌≡◌}
use lib.ListN.{length}
use Rattle.member_sets.specs.Dead.{Dead}
use Rattle.kept_rules.specs.Left.{maps_in, rule_left}
use Rattle.known_blocks.specs.Book.{packs}
use Rattle.class_slots.proofs.Turns.{Turning}
use Rattle.class_slots.proofs.write_slots.Given as goal

abbrev pub invariant-loop-class : goal.invariant-loop-class
invariant-loop-class l =
    Turning (packs l.initial.book) l.chained l.src l.t l.maps l.classes.marks l.slots l.first l.initial.area l.area l.count l.k l.p l.class l.book × Dead (rule_left l.chained (maps_in l.t l.maps) l.src) l.dead × (length l.dead ≡ length l.initial.dead) × (length l.book ≡ length l.initial.book)
