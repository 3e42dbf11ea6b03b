use native.Mathlib.Omega.{arith}
use Rattle.report_lines.specs.Lengths.{decimal_length}
use Rattle.report.proofs.Whole.{line_whole}
use Rattle.report.proofs.put_line.Goals as goal

pub put_one-requires : goal.put_one-requires
put_one-requires c =
    (omega (arith, decimal_length c.args.n, c.put_decimal-q.ensures.place, c.put_text-p.ensures.place, c.requires), omega arith)

pub returns : goal.returns
returns c =
    line_whole c.args.at c.args.word.now c.args.n c.put_text-p.ensures c.put_decimal-q.ensures c.put_one.ensures
