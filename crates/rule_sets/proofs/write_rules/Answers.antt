use mathlib.Core.Path.{refl, ◌∙◌}
use native.Mathlib.Omega.{arith}
use Rattle.meaning.specs.Tables.{rule}
use Rattle.meaning.specs.Fault.{rule_fault}
use Rattle.member_sets.specs.Sound.{set_inside, member_sound}
use Rattle.member_sets.proofs.Gathering.{gathering_all, gathering_short, gathering_null, gathering_gone, gathering_one, gathering_full, gathering_end}
use Rattle.kept_rules.specs.Left.{maps_in, rule_inside, rules_said}
use Rattle.rule_sets.proofs.write_rules.Goals as goal

pub word_inside-n-requires : goal.word_inside-n-requires
word_inside-n-requires c = omega (arith, set_inside _ _ _ c.requires.0)

pub returns-then-area-first : goal.returns-then-area-first
returns-then-area-first c = (
  rules_said (maps_in c.args.t.now c.args.maps) c.args.src.now c.args.at c.args.chained c.word_inside-n.ensures.0
      (gathering_short (rule c.args.chained c.args.src.now) _ _ _ _ _ c.word_inside-n.ensures.1 (omega arith) c.over.ensures),
  c.requires.4,
)

pub loop-i-init : goal.loop-i-init
loop-i-init c =
    (gathering_all _ _ _ _ _ _ (omega (arith, set_inside _ _ _ c.requires.0)) (omega arith), c.requires.4, refl)

pub loop-i-preserved-then-off-eq0 : goal.loop-i-preserved-then-off-eq0
loop-i-preserved-then-off-eq0 c =
    (gathering_null _ _ _ _ _ _ c.loop-i.invariant.0 c.loop-i-test.true c.word_inside-off.ensures.0 c.if-off-eq0.true, c.loop-i.invariant.1, c.loop-i.invariant.2)

pub write_once-q-requires : goal.write_once-q-requires
write_once-q-requires c =
    (member_sound (rule_fault c.args.chained c.args.src.now) c.args.src.now c.args.at c.requires.0 (omega (arith, c.word_inside-n.ensures.0)) c.word_inside-off.ensures.0 c.if-off-eq0.false, c.requires.2, omega (arith, c.loop-i.invariant.0.behind), omega (arith, c.loop-i.invariant.0.room), c.loop-i.invariant.1)

pub returns-then-area-q : goal.returns-then-area-q
returns-then-area-q c =
    let s = member_sound (rule_fault c.args.chained c.args.src.now) c.args.src.now c.args.at c.requires.0 (omega (arith, c.word_inside-n.ensures.0)) c.word_inside-off.ensures.0 c.if-off-eq0.false in (
      rules_said (maps_in c.args.t.now c.args.maps) c.args.src.now c.args.at c.args.chained c.word_inside-n.ensures.0
          (gathering_full _ _ _ _ _ _ c.loop-i.invariant.0 c.loop-i-test.true c.word_inside-off.ensures.0 c.if-off-eq0.false c.write_once-q.ensures.0 c.word_inside-n.ensures.1 (omega (arith, rule_inside c.args.chained c.args.src.now _ s)) c.if-area-q.true),
      c.write_once-q.ensures.1,
    )

pub loop-i-preserved : goal.loop-i-preserved
loop-i-preserved c =
    (gathering_one _ _ _ _ _ _ c.loop-i.invariant.0 c.loop-i-test.true c.word_inside-off.ensures.0 c.if-off-eq0.false c.write_once-q.ensures.0 c.if-q-eq0.false c.if-area-q.false c.put.ensures, c.write_once-q.ensures.1, c.dead-1.given ∙ c.loop-i.invariant.2)

pub loop-i-preserved-then-q-eq0 : goal.loop-i-preserved-then-q-eq0
loop-i-preserved-then-q-eq0 c =
    (gathering_gone _ _ _ _ _ _ c.loop-i.invariant.0 c.loop-i-test.true c.word_inside-off.ensures.0 c.if-off-eq0.false c.write_once-q.ensures.0 (omega arith), c.write_once-q.ensures.1, c.dead-1.given ∙ c.loop-i.invariant.2)

pub returns : goal.returns
returns c = (
  rules_said (maps_in c.args.t.now c.args.maps) c.args.src.now c.args.at c.args.chained c.word_inside-n.ensures.0
      (gathering_end _ _ _ _ _ _ c.loop-i.invariant.0 c.loop-i-test.false c.close_set.ensures),
  c.loop-i.invariant.1,
)
