use mathlib.Core.Path.{refl, ap, ◌∙◌}
use native.Mathlib.Omega.{arith}
use lib.ListN.{length}
use lib.Seq.{length-sets}
use Rattle.numbers.specs.Leaves.{leaves_full}
use Rattle.numbers.proofs.Numbers.{found_in}
use Rattle.pair_fields.specs.Pairs.{pairs_most}
use Rattle.pair_fields.proofs.Pairing.{pairing_all, pairing_inside, pairing_gone, pairing_one, pairing_full, pairing_none, pairing_end}
use Rattle.pair_sets.proofs.write_pairs.Goals as goal
use Rattle.pair_sets.proofs.write_pairs.Goals.{in-Some, in_default}

pub returns-then-area-pos : goal.returns-then-area-pos
unfolding pairs_most
returns-then-area-pos c = leaves_full refl c.over.ensures (omega arith)

pub loop-i-init : goal.loop-i-init
loop-i-init c = pairing_all c.word_inside-n.ensures.0 c.requires.0 (omega arith)

pub shape_of-area-then-area-q : goal.shape_of-area-then-area-q
shape_of-area-then-area-q c = c.loop-i.invariant.same

pub returns-then-area-q : goal.returns-then-area-q
returns-then-area-q c = pairing_full c.loop-i.invariant c.word_inside-n.ensures.0 c.if-area-q.true c.over-then-area-q.ensures

pub word_inside-second-requires : goal.word_inside-second-requires
word_inside-second-requires c = omega (arith, pairing_inside c.loop-i.invariant c.loop-i-test.true, c.requires.1.within 0)

pub write_pair-q-requires : goal.write_pair-q-requires
write_pair-q-requires c = (pairing_inside c.loop-i.invariant c.loop-i-test.true, c.requires.1, omega (arith, c.if-area-q.false))

pub loop-i-preserved : goal.loop-i-preserved
loop-i-preserved c =
    elim c.match-find.branch [
      | in-Some w ↦ rw (w.area-is, w.k-is, w.q-is) (pairing_one c.loop-i.invariant c.loop-i-test.true c.word_inside-second.ensures.0 (found_in _ c.requires.2 w.in-Some.ensures.answer) w.write_pair-q.ensures)
      | in_default w ↦ rw (w.area-is, w.k-is, w.q-is) (pairing_gone c.loop-i.invariant c.loop-i-test.true c.word_inside-second.ensures.0 (found_in _ c.requires.2 w.in_default.ensures.answer))
    ]

pub shape_of-area-then-k-eq0 : goal.shape_of-area-then-k-eq0
shape_of-area-then-k-eq0 c = c.loop-i.invariant.same

pub returns-then-k-eq0 : goal.returns-then-k-eq0
returns-then-k-eq0 c = pairing_none c.loop-i.invariant c.word_inside-n.ensures.0 c.loop-i-test.false c.if-k-eq0.true

pub shape_of-area : goal.shape_of-area
shape_of-area c = ap length c.put.ensures.1 ∙ simp length-sets c.loop-i.invariant.same

pub returns : goal.returns
returns c = pairing_end c.loop-i.invariant c.word_inside-n.ensures.0 c.loop-i-test.false c.if-k-eq0.false c.put.ensures
