use Rattle.std.proofs.Common.{ℕ, arith, sym}
use lib.ListN.{length-replicate}
use lib.Seq.{length-take-le}
use Rattle.compare_job.specs.Program.{text_room}
use Rattle.compare_job.proofs.main.Goals as goal

-- the file's buffer is as long as is said: by the lemma, and not by counting
pub slice_bounds-read_input-end : goal.slice_bounds-read_input-end
slice_bounds-read_input-end c = sym (length-replicate {A = ℕ} 600001 0)

pub slice_bounds-file-end : goal.slice_bounds-file-end
slice_bounds-file-end c = c.in-Ok.ensures.within

pub slice_bounds-answer-end : goal.slice_bounds-answer-end
slice_bounds-answer-end c = sym (length-take-le c.in-Ok.n c.read_input.new.file c.in-Ok.ensures.within)

pub slice_bounds-answer-end-2 : goal.slice_bounds-answer-end-2
unfolding text_room
slice_bounds-answer-end-2 c = sym c.blank-text.ensures

pub answer-k-requires : goal.answer-k-requires
answer-k-requires c = omega (arith, c.blank-text.ensures)

pub slice_bounds-text-end : goal.slice_bounds-text-end
slice_bounds-text-end c = c.answer-k.ensures.1

pub slice_bounds-write_all-end : goal.slice_bounds-write_all-end
slice_bounds-write_all-end c = sym (length-take-le c.answer-k.result c.answer-k.new.text c.answer-k.ensures.1)
