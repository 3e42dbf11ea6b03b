use native.Mathlib.Omega.{arith}
use Rattle.meaning.specs.Tables.{bit, field_count}
use Rattle.pair_places.proofs.field_count.Goals as goal

pub returns : goal.returns
unfolding field_count bit
returns c = (omega arith, omega arith)
