use mathlib.Core.Path.{sym}
use native.Mathlib.Omega.{arith}
use Rattle.meaning.specs.Job.{ascii}
use Rattle.report.proofs.Whole.{kept_length, printed_kept, printed_refused}
use Rattle.report.proofs.report.Goals as goal

pub slice_bounds-put_kept-end : goal.slice_bounds-put_kept-end
slice_bounds-put_kept-end c = sym (kept_length c.requires c.if-number-eq0.true)

pub put_kept-requires : goal.put_kept-requires
put_kept-requires c = omega (arith, kept_length c.requires c.if-number-eq0.true, c.requires.small, c.requires.within c.if-number-eq0.true)

pub returns-then-number-eq0 : goal.returns-then-number-eq0
returns-then-number-eq0 c = printed_kept c.requires c.if-number-eq0.true c.put_kept.ensures

pub returns : goal.returns
unfolding ascii
returns c =
    printed_refused c.requires c.if-number-eq0.false c.put_line.ensures
