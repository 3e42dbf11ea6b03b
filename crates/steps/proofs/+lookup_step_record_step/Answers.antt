use Rattle.meaning.specs.Words.{words}
use Rattle.replaying.specs.Listed.{lookups_of}
use Rattle.steps.proofs.Stepping.{step_deep, step_nothing, step_instead, step_rule, step_rule_deep, running_turn, running_deep, running_end}
use Rattle.steps.proofs.+lookup_step_record_step.Goals as goal

pub lookup_step-returns-then-depth-eq0 : goal.lookup_step-returns-then-depth-eq0
lookup_step-returns-then-depth-eq0 t c =
    let a = c.args in
    step_deep a.depth (lookups_of a.list.now a.buffer.now) a.lookup (words a.string.now 0 a.n) a.place a.n a.string.now c.if-depth-eq0.true

pub lookup_step-returns-in-Nothing : goal.lookup_step-returns-in-Nothing
lookup_step-returns-in-Nothing t c =
    let a = c.args in
    step_nothing a.depth (lookups_of a.list.now a.buffer.now) a.lookup a.string.now a.n a.place c.if-depth-eq0.false c.ask_at.ensures.0 c.in-Nothing.is

pub lookup_step-returns-in-Instead : goal.lookup_step-returns-in-Instead
lookup_step-returns-in-Instead t c =
    let a = c.args in
    step_instead a.depth (lookups_of a.list.now a.buffer.now) a.lookup a.string.now a.n a.place c.if-depth-eq0.false c.ask_at.ensures.0 c.in-Instead.is c.put.ensures.1 c.requires.1.fits

pub lookup_step-returns-in_ok-record_step-in-Rule : goal.lookup_step-returns-in_ok-record_step-in-Rule
lookup_step-returns-in_ok-record_step-in-Rule t c =
    let a = c.args in
    step_rule a.depth (lookups_of a.list.now a.buffer.now) a.lookup a.string.now a.n a.place c.if-depth-eq0.false c.ask_at.ensures.0 c.record_step.new.string c.in-Rule.is c.in_ok-record_step-in-Rule.ensures

pub lookup_step-returns-in_err-record_step-in-Rule : goal.lookup_step-returns-in_err-record_step-in-Rule
lookup_step-returns-in_err-record_step-in-Rule t c =
    let a = c.args in
    step_rule_deep a.depth (lookups_of a.list.now a.buffer.now) a.lookup a.string.now a.n a.place c.if-depth-eq0.false c.ask_at.ensures.0 c.record_step.new.string c.in-Rule.is _ c.in_err-record_step-in-Rule.ensures c.from_residual.ensures.0

pub record_step-returns-in_err-lookup_step : goal.record_step-returns-in_err-lookup_step
record_step-returns-in_err-lookup_step t c = running_deep c.loop-i.invariant c.loop-i-test.true c.source_word-index.ensures.0 c.source_word-lookup.ensures.0 c.lookup_step.new.string _ c.in_err-lookup_step.ensures c.from_residual.ensures.0

pub record_step-loop-i-preserved : goal.record_step-loop-i-preserved
record_step-loop-i-preserved t c = running_turn c.loop-i.invariant c.loop-i-test.true c.source_word-index.ensures.0 c.source_word-lookup.ensures.0 _ c.in_ok-lookup_step.ensures c.lookup_step.auto.string

pub record_step-returns : goal.record_step-returns
record_step-returns t c = running_end c.loop-i.invariant c.loop-i-test.false
