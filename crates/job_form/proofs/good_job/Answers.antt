use Rattle.faults.specs.Reached.{refused, passed}
use Rattle.job_parts.proofs.Parts.{too_short, too_long, no_tag, no_table, no_glyphs, all_but_lookups}
use Rattle.job_form.proofs.good_job.Goals as goal

pub returns-then-file-lt-TRAILER : goal.returns-then-file-lt-TRAILER
returns-then-file-lt-TRAILER c = too_short c.args.file.now c.if-file-lt-TRAILER.true

pub returns-then-file-gt-JOB_LIMIT : goal.returns-then-file-gt-JOB_LIMIT
returns-then-file-gt-JOB_LIMIT c =
    too_long c.args.file.now c.if-file-lt-TRAILER.false c.if-file-gt-JOB_LIMIT.true

pub returns-then-not-is_tagged : goal.returns-then-not-is_tagged
returns-then-not-is_tagged c =
    no_tag c.args.file.now c.if-file-lt-TRAILER.false c.if-file-gt-JOB_LIMIT.false (refused c.is_tagged.ensures c.if-not-is_tagged.true-raw)

pub returns-then-not-is_before : goal.returns-then-not-is_before
returns-then-not-is_before c =
    no_table c.args.file.now c.if-file-lt-TRAILER.false c.if-file-gt-JOB_LIMIT.false (passed c.is_tagged.ensures c.if-not-is_tagged.false-raw) (refused c.is_before.ensures c.if-not-is_before.true-raw)

pub returns-then-not-is_before-2 : goal.returns-then-not-is_before-2
returns-then-not-is_before-2 c =
    no_glyphs c.args.file.now c.if-file-lt-TRAILER.false c.if-file-gt-JOB_LIMIT.false (passed c.is_tagged.ensures c.if-not-is_tagged.false-raw) (passed c.is_before.ensures c.if-not-is_before.false-raw)
    (refused c.is_before-2.ensures c.if-not-is_before-2.true-raw)

pub returns : goal.returns
returns c =
    all_but_lookups c.args.file.now c.if-file-lt-TRAILER.false c.if-file-gt-JOB_LIMIT.false (passed c.is_tagged.ensures c.if-not-is_tagged.false-raw) (passed c.is_before.ensures c.if-not-is_before.false-raw)
    (passed c.is_before-2.ensures c.if-not-is_before-2.false-raw) c.is_before-3.ensures
