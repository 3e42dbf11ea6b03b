use Rattle.set_numbers.proofs.Slots.{book_first, both_told}
use native.Mathlib.Omega.{arith}
use Rattle.set_numbers.proofs.number_all.Goals as goal

pub number_side-requires : goal.number_side-requires
number_side-requires c =
    (c.requires.0, record { sides = omega arith; near = c.requires.1; codes = omega (arith, c.requires.2.codes) }, book_first c.requires.2 c.clear.ensures c.clear-2.ensures (omega arith) (omega arith))

pub returns : goal.returns
unfolding Rattle.rule_rows.specs.Rows.side_of
returns c =
    both_told c.number_side.ensures c.number_side-2.ensures
