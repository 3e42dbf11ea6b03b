use Rattle.numbers.proofs.Numbers.{counted_records}
use Rattle.lookup_records.proofs.write_counted_records.Goals as goal

pub returns : goal.returns
returns c =
    counted_records _ c.write_records-end.ensures c.put.ensures
