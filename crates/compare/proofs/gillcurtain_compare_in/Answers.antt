use Rattle.compare.proofs.Answering.{code_says}
use Rattle.compare.proofs.gillcurtain_compare_in.Goals as goal

pub returns : goal.returns
returns c =
    code_says c.compare_in.result c.compare_in.ensures c.one_number.ensures
