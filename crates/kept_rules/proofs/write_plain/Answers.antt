use mathlib.Core.Path.{refl, sym, ◌∙◌}
use native.Mathlib.Omega.{arith}
use Rattle.area.specs.Extends.{keeps_none}
use Rattle.numbers.specs.Leaves.{leaves_full, leaves_none}
use Rattle.kept_rules.specs.Left.{maps_in, rule_size, plain_inside, plain_none}
use Rattle.kept_rules.proofs.Plain.{plain_ends, plain_place, plain_left}
use Rattle.kept_rules.proofs.write_plain.Goals as goal

pub word_inside-count-requires : goal.word_inside-count-requires
word_inside-count-requires c =
    omega (arith, plain_inside c.args.src.now c.args.at c.requires.0)

pub returns-then-count-eq0 : goal.returns-then-count-eq0
returns-then-count-eq0 c =
    leaves_none (plain_none _ c.args.src.now c.args.at (sym c.word_inside-count.ensures.0 ∙ c.if-count-eq0.true)) keeps_none

pub overflow_add-at : goal.overflow_add-at
overflow_add-at c =
    omega (arith, plain_inside c.args.src.now c.args.at c.requires.0)

pub word_inside-records-requires : goal.word_inside-records-requires
word_inside-records-requires c =
    omega (arith, plain_inside c.args.src.now c.args.at c.requires.0)

pub returns-then-area-pos : goal.returns-then-area-pos
unfolding rule_size
returns-then-area-pos c = leaves_full refl c.over.ensures (omega arith)

pub overflow_add-at-2 : goal.overflow_add-at-2
overflow_add-at-2 c =
    omega (arith, plain_inside c.args.src.now c.args.at c.requires.0)

pub renumber-q-requires : goal.renumber-q-requires
renumber-q-requires c =
    (omega (arith, plain_inside c.args.src.now c.args.at c.requires.0, c.word_inside-count.ensures.0), c.requires.1.input, omega arith)

pub returns-then-q-eq0 : goal.returns-then-q-eq0
returns-then-q-eq0 c =
    plain_ends (maps_in c.args.t.now c.args.maps) c.args.src.now c.args.at c.word_inside-count.ensures.0 c.if-count-eq0.false refl c.args.pos c.renumber-q.ensures c.if-q-eq0.true

pub overflow_add-at-3 : goal.overflow_add-at-3
overflow_add-at-3 c =
    omega (arith, plain_inside c.args.src.now c.args.at c.requires.0)

pub overflow_add-at-4 : goal.overflow_add-at-4
overflow_add-at-4 c =
    omega (arith, plain_inside c.args.src.now c.args.at c.requires.0, c.word_inside-count.ensures.0)

pub write_records-end-requires : goal.write_records-end-requires
write_records-end-requires c = (
  omega (arith, plain_inside c.args.src.now c.args.at c.requires.0, c.word_inside-count.ensures.0, c.word_inside-records.ensures.0),
  c.requires.1.lookups,
  omega (arith, c.renumber-q.ensures.same, plain_place (maps_in c.args.t.now c.args.maps) c.args.src.now c.args.at c.word_inside-count.ensures.0 c.if-count-eq0.false refl c.args.pos c.renumber-q.ensures (omega arith) c.if-q-eq0.false),
)

pub returns : goal.returns
returns c =
    plain_left (maps_in c.args.t.now c.args.maps) c.args.src.now c.args.at c.word_inside-count.ensures.0 c.if-count-eq0.false refl c.args.pos c.renumber-q.ensures (omega (arith, c.if-area-pos.false)) c.if-q-eq0.false
    c.word_inside-records.ensures.0 c.write_records-end.ensures c.put_two.ensures
