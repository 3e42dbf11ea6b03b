use native.Mathlib.Omega.{arith}
use Rattle.rule_says.proofs.Saying.{reads_run, count_differs, forms_differ, input_differs, back_differs, ahead_differs, records_tell}
use Rattle.rule_says.proofs.same.Goals as goal

pub returns-then-p-q : goal.returns-then-p-q
returns-then-p-q c = count_differs c.args.shape c.args.left.now c.args.right.now c.args.t.now c.args.a c.args.b c.parts_of-p.ensures c.parts_of-q.ensures c.if-p-q.true

pub returns-then-forms_of : goal.returns-then-forms_of
returns-then-forms_of c = forms_differ c.args.shape c.args.left.now c.args.right.now c.args.t.now c.args.a c.args.b c.parts_of-p.ensures c.parts_of-q.ensures c.forms_of.ensures.0 c.forms_of-2.ensures.0 c.if-forms_of.true

pub same_part-requires : goal.same_part-requires
same_part-requires c = (reads_run c.args.shape.classes c.args.a 3 c.parts_of-p.result.input.at c.run_of.ensures (omega arith) (omega (arith, c.parts_of-p.ensures.input.close)), reads_run c.args.shape.classes c.args.b 3 c.parts_of-q.result.input.at c.run_of-2.ensures (omega arith) (omega (arith, c.parts_of-q.ensures.input.close)), omega (arith, c.parts_of-p.ensures.input.short), omega (arith, c.parts_of-q.ensures.input.short))

pub returns-then-not-same_part : goal.returns-then-not-same_part
returns-then-not-same_part c = input_differs c.args.shape c.args.left.now c.args.right.now c.args.t.now c.args.a c.args.b c.parts_of-p.ensures c.parts_of-q.ensures c.run_of.ensures c.run_of-2.ensures c.same_part.ensures c.if-not-same_part.true-raw

pub same_part-requires-2 : goal.same_part-requires-2
same_part-requires-2 c = (reads_run c.args.shape.classes c.args.a 1 c.parts_of-p.result.back.at c.run_of-3.ensures (omega arith) (omega (arith, c.parts_of-p.ensures.back.close)), reads_run c.args.shape.classes c.args.b 1 c.parts_of-q.result.back.at c.run_of-4.ensures (omega arith) (omega (arith, c.parts_of-q.ensures.back.close)), omega (arith, c.parts_of-p.ensures.back.short), omega (arith, c.parts_of-q.ensures.back.short))

pub returns-then-not-same_part-2 : goal.returns-then-not-same_part-2
returns-then-not-same_part-2 c = back_differs c.args.shape c.args.left.now c.args.right.now c.args.t.now c.args.a c.args.b c.parts_of-p.ensures c.parts_of-q.ensures c.run_of-3.ensures c.run_of-4.ensures c.same_part-2.ensures c.if-not-same_part-2.true-raw

pub same_part-requires-3 : goal.same_part-requires-3
same_part-requires-3 c = (reads_run c.args.shape.classes c.args.a 5 c.parts_of-p.result.ahead.at c.run_of-5.ensures (omega arith) (omega (arith, c.parts_of-p.ensures.ahead.close)), reads_run c.args.shape.classes c.args.b 5 c.parts_of-q.result.ahead.at c.run_of-6.ensures (omega arith) (omega (arith, c.parts_of-q.ensures.ahead.close)), omega (arith, c.parts_of-p.ensures.ahead.short), omega (arith, c.parts_of-q.ensures.ahead.short))

pub returns-then-not-same_part-3 : goal.returns-then-not-same_part-3
returns-then-not-same_part-3 c = ahead_differs c.args.shape c.args.left.now c.args.right.now c.args.t.now c.args.a c.args.b c.parts_of-p.ensures c.parts_of-q.ensures c.run_of-5.ensures c.run_of-6.ensures c.same_part-3.ensures c.if-not-same_part-3.true-raw

pub overflow_mul-p : goal.overflow_mul-p
overflow_mul-p c = omega (arith, c.parts_of-p.ensures.records.short)

pub overflow_mul-q : goal.overflow_mul-q
overflow_mul-q c = omega (arith, c.parts_of-q.ensures.records.short)

pub same_part-requires-4 : goal.same_part-requires-4
same_part-requires-4 c = (reads_run 0 c.args.a 0 c.parts_of-p.result.records.at c.records_of.ensures (omega arith) (omega (arith, c.parts_of-p.ensures.records.close)), reads_run 0 c.args.b 0 c.parts_of-q.result.records.at c.records_of-2.ensures (omega arith) (omega (arith, c.parts_of-q.ensures.records.close)), omega (arith, c.parts_of-p.ensures.records.short), omega (arith, c.parts_of-q.ensures.records.short))

pub returns : goal.returns
returns c = records_tell c.args.shape c.args.left.now c.args.right.now c.args.t.now c.args.a c.args.b c.parts_of-p.ensures c.parts_of-q.ensures (omega (arith, c.if-p-q.false)) c.forms_of.ensures.0 c.forms_of-2.ensures.0 (omega (arith, c.if-forms_of.false)) c.run_of.ensures c.run_of-2.ensures c.same_part.ensures c.if-not-same_part.false-raw c.run_of-3.ensures c.run_of-4.ensures c.same_part-2.ensures c.if-not-same_part-2.false-raw c.run_of-5.ensures c.run_of-6.ensures c.same_part-3.ensures c.if-not-same_part-3.false-raw c.records_of.ensures c.records_of-2.ensures c.same_part-4.ensures
