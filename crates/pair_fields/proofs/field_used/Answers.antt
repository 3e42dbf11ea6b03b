use native.Mathlib.Omega.{arith}
use Rattle.pair_fields.proofs.Pairing.{using_all, using_inside, using_found, using_next, using_end}
use Rattle.pair_fields.proofs.field_used.Goals as goal

pub loop-i-init : goal.loop-i-init
loop-i-init c = using_all c.word_inside-n.ensures.0 c.requires.0

pub speaks-requires : goal.speaks-requires
speaks-requires c = (omega (arith, using_inside c.loop-i.invariant c.loop-i-test.true, c.requires.1), c.requires.2)

pub returns-then-speaks : goal.returns-then-speaks
returns-then-speaks c = using_found c.loop-i.invariant c.loop-i-test.true c.speaks.ensures c.if-speaks.true

pub loop-i-preserved : goal.loop-i-preserved
loop-i-preserved c = using_next c.loop-i.invariant c.loop-i-test.true c.speaks.ensures c.if-speaks.false

pub returns : goal.returns
returns c = using_end c.loop-i.invariant c.loop-i-test.false
