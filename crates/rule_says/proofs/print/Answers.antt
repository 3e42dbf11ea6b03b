use native.Mathlib.Omega.{arith}
use Rattle.rule_says.proofs.Saying.{reads_run, print_parts}
use Rattle.rule_says.proofs.print.Goals as goal

pub print_row-a-requires : goal.print_row-a-requires
print_row-a-requires c = (reads_run c.args.shape.classes c.args.code 1 c.parts_of-p.result.back.at c.run_of-back.ensures (omega arith) (omega (arith, c.parts_of-p.ensures.back.close)), omega (arith, c.parts_of-p.ensures.back.short), omega arith)

pub print_row-b-requires : goal.print_row-b-requires
print_row-b-requires c = (reads_run c.args.shape.classes c.args.code 3 c.parts_of-p.result.input.at c.run_of-input.ensures (omega arith) (omega (arith, c.parts_of-p.ensures.input.close)), omega (arith, c.parts_of-p.ensures.input.short), omega arith)

pub print_row-c-requires : goal.print_row-c-requires
print_row-c-requires c = (reads_run c.args.shape.classes c.args.code 5 c.parts_of-p.result.ahead.at c.run_of-ahead.ensures (omega arith) (omega (arith, c.parts_of-p.ensures.ahead.close)), omega (arith, c.parts_of-p.ensures.ahead.short), omega arith)

pub overflow_mul-p : goal.overflow_mul-p
overflow_mul-p c = omega (arith, c.parts_of-p.ensures.records.short)

pub print_row-requires : goal.print_row-requires
print_row-requires c = (reads_run 0 c.args.code 0 c.parts_of-p.result.records.at c.records_of.ensures (omega arith) (omega (arith, c.parts_of-p.ensures.records.close)), omega (arith, c.parts_of-p.ensures.records.short), omega arith)

pub returns : goal.returns
returns c = (print_parts c.args.shape c.args.left.now c.args.right.now c.args.t.now c.args.code c.parts_of-p.ensures c.forms_of-forms.ensures.0 c.run_of-back.ensures c.print_row-a.ensures.0 c.run_of-input.ensures c.print_row-b.ensures.0 c.run_of-ahead.ensures c.print_row-c.ensures.0 c.records_of.ensures c.print_row.ensures.0, c.print_row.ensures.1)
