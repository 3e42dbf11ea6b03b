use Rattle.compare_job.proofs.Answering.{printable, answered}
use Rattle.compare_job.proofs.answer.Goals as goal

pub put_outcome-requires : goal.put_outcome-requires
put_outcome-requires c =
    printable c.args.file.now c.compare_parts-a.result c.lent-list.ensures c.compare_parts-a.ensures c.list-2-1.given

pub returns : goal.returns
returns c =
    answered c.args.file.now c.compare_parts-a.result c.lent-list.ensures c.compare_parts-a.ensures c.list-2-1.given c.requires c.put_outcome.ensures
