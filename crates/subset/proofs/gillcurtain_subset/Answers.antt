use Rattle.std.proofs.Common.{arith}
use Rattle.answer_numbers.proofs.Coded.{length_most, code_says}
use Rattle.subset.proofs.gillcurtain_subset.Goals as goal

pub one_number-requires : goal.one_number-requires
one_number-requires c =
    length_most _ _ _ _ _ _ _ _ c.subset.ensures (λ i. omega (arith, c.type_inv.source i))

pub returns : goal.returns
returns c =
    code_says _ _ _ _ _ _ _ _ c.subset.ensures (λ i. omega (arith, c.type_inv.source i)) c.one_number.ensures
