use native.Mathlib.Omega.{arith}
use lib.ListN.{length}
use borrow.Author.Rules.{rules}
use Rattle.meaning.specs.Job.{ascii}
use Rattle.report_lines.specs.Lengths.{decimal_length}
use Rattle.report.proofs.Whole.{kept_whole}
use Rattle.report.proofs.put_kept.Goals as goal

pub put_one-r-requires : goal.put_one-r-requires
put_one-r-requires c = (omega (arith, decimal_length (length c.args.bytes.now)), omega arith)

pub put_lines-requires : goal.put_lines-requires
put_lines-requires c = (omega (arith, decimal_length (length c.args.bytes.now)), search rules)

pub returns : goal.returns
unfolding ascii
returns c =
    kept_whole c.args.bytes.now c.put_text-p.ensures c.put_decimal-q.ensures c.put_one-r.ensures c.put_lines.ensures
