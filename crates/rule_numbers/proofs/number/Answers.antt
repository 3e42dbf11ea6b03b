use mathlib.Core.Path.{◌≡◌}
use native.Mathlib.Omega.{arith}
use lib.ListN.{get_or}
use Rattle.rule_numbers.proofs.Keeping.{numbered_already, numbered_found, numbered_new, cells_room, count_small}
use Rattle.rule_numbers.proofs.number.Goals as goal

pub returns-then-k-ne0 : goal.returns-then-k-ne0
returns-then-k-ne0 c = numbered_already c.requires.1 c.requires.0 c.cell-k.ensures.0 c.if-k-ne0.true

pub seek-requires : goal.seek-requires
seek-requires c = (omega (arith, c.requires.0, c.requires.1.small), c.cell.ensures.1, rw (← c.print-p.ensures.0) c.print-p.ensures.1, rw (← c.print-p.ensures.0) c.cell.ensures.0, c.requires.1.firsts)

pub returns-in-Some : goal.returns-in-Some
returns-in-Some c = let z : get_or c.args.num.now c.args.code 0 ≡ 0 = omega (arith, c.cell-k.ensures.0, c.if-k-ne0.false) in numbered_found c.requires.1 c.requires.0 z c.in-Some.ensures.sought c.put_cell.ensures

pub add-requires : goal.add-requires
add-requires c = let z : get_or c.args.num.now c.args.code 0 ≡ 0 = omega (arith, c.cell-k.ensures.0, c.if-k-ne0.false) in (cells_room c.requires.1 c.requires.0 z, count_small c.requires.1 c.requires.0 z, c.print-p.ensures.1, omega (arith, c.requires.0, c.requires.1.small))

pub returns : goal.returns
returns c = let z : get_or c.args.num.now c.args.code 0 ≡ 0 = omega (arith, c.cell-k.ensures.0, c.if-k-ne0.false) in numbered_new c.requires.1 c.requires.0 z c.in_default.ensures.sought c.print-p.ensures.1 c.print-p.ensures.0 c.add.ensures.0 c.add.ensures.1 (omega arith) c.add.ensures.2
