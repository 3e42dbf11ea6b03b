use Rattle.faults.specs.Reached.{refused, passed}
use Rattle.replay_job.proofs.Files.{too_short, too_long, no_tag, no_list, no_buffer, all_but_trace}
use Rattle.replay_job.proofs.good_file.Goals as goal

pub returns-then-file-lt-TRAILER : goal.returns-then-file-lt-TRAILER
returns-then-file-lt-TRAILER c = too_short c.args.file.now c.if-file-lt-TRAILER.true

pub returns-then-file-gt-FILE_LIMIT : goal.returns-then-file-gt-FILE_LIMIT
returns-then-file-gt-FILE_LIMIT c =
    too_long c.args.file.now c.if-file-lt-TRAILER.false c.if-file-gt-FILE_LIMIT.true

pub returns-then-long_at-ne-TAG : goal.returns-then-long_at-ne-TAG
returns-then-long_at-ne-TAG c =
    no_tag c.args.file.now c.if-file-lt-TRAILER.false c.if-file-gt-FILE_LIMIT.false c.long_at.ensures.0 c.if-long_at-ne-TAG.true

pub returns-then-not-ends_by : goal.returns-then-not-ends_by
returns-then-not-ends_by c =
    no_list c.args.file.now c.if-file-lt-TRAILER.false c.if-file-gt-FILE_LIMIT.false c.long_at.ensures.0 c.if-long_at-ne-TAG.false (refused c.ends_by.ensures c.if-not-ends_by.true-raw)

pub returns-then-not-ends_by-2 : goal.returns-then-not-ends_by-2
returns-then-not-ends_by-2 c =
    no_buffer c.args.file.now c.if-file-lt-TRAILER.false c.if-file-gt-FILE_LIMIT.false c.long_at.ensures.0 c.if-long_at-ne-TAG.false (passed c.ends_by.ensures c.if-not-ends_by.false-raw)
    (refused c.ends_by-2.ensures c.if-not-ends_by-2.true-raw)

pub returns : goal.returns
returns c =
    all_but_trace c.args.file.now c.if-file-lt-TRAILER.false c.if-file-gt-FILE_LIMIT.false c.long_at.ensures.0 c.if-long_at-ne-TAG.false (passed c.ends_by.ensures c.if-not-ends_by.false-raw)
    (passed c.ends_by-2.ensures c.if-not-ends_by-2.false-raw) c.ends_by-3.ensures
