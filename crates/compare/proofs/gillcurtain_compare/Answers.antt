use Rattle.compare.proofs.Answering.{code_says}
use Rattle.compare.proofs.gillcurtain_compare.Goals as goal

pub returns : goal.returns
returns c =
    code_says c.compare.result c.compare.ensures c.one_number.ensures
