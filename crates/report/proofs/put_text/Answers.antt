use mathlib.Core.Path.{refl}
use native.Mathlib.Omega.{arith}
use borrow.Author.Rules.{rules}
use Rattle.report_lines.proofs.Writing.{copying_all, copying_turn, copying_end, copying_near, put_length}
use Rattle.report.proofs.put_text.Goals as goal

pub loop-b-init : goal.loop-b-init
loop-b-init c = copying_all

pub put_one-p-requires : goal.put_one-p-requires
put_one-p-requires c = (omega (arith, copying_near c.loop-b.invariant), search rules)

pub loop-b-preserved : goal.loop-b-preserved
loop-b-preserved c = copying_turn c.loop-b.invariant c.loop-b-test.true refl c.put_one-p.ensures

pub shape_of-text : goal.shape_of-text
shape_of-text c = put_length (copying_end c.loop-b.invariant c.loop-b-test.false)

pub returns : goal.returns
returns c = copying_end c.loop-b.invariant c.loop-b-test.false
