use Rattle.label_job.proofs.Answering.{printable, answered}
use Rattle.label_job.proofs.answer.Goals as goal

pub report-requires : goal.report-requires
report-requires c =
    printable c.args.file.now c.run-a.result c.lent-result.ensures c.number_of.ensures c.length_of.ensures c.run-a.ensures c.result-2-1.given

pub returns : goal.returns
returns c =
    answered c.args.file.now c.run-a.result c.lent-result.ensures c.number_of.ensures c.length_of.ensures c.run-a.ensures c.result-2-1.given c.requires c.report.ensures
