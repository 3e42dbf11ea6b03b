use native.Mathlib.Omega.{arith}
use Rattle.cell_maps.proofs.RunLaws.{no_entry_zero, no_entry_more}
use Rattle.cell_maps.proofs.no_entry.Goals as goal

pub returns-then-old-eq0 : goal.returns-then-old-eq0
returns-then-old-eq0 c = (no_entry_zero c.args.old c.if-old-eq0.true, omega arith)

pub returns : goal.returns
returns c = (no_entry_more c.args.old c.if-old-eq0.false, omega arith)
