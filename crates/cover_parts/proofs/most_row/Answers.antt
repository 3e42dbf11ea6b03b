use Prim.Native.Nat.{◌-◌}
use Rattle.cover_parts.proofs.Rows.{sound_at}
use Rattle.cover_parts.proofs.Notes.{counting_all, counting_turn, counting_end}
use Rattle.cover_parts.proofs.most_row.Goals as goal

pub loop-i-init : goal.loop-i-init
loop-i-init c = counting_all

pub more_notes-r-requires : goal.more_notes-r-requires
more_notes-r-requires c = (λ z. sound_at c.requires.0 c.loop-i-test.true c.word_inside.ensures.0 z, c.requires.1)

pub loop-i-preserved : goal.loop-i-preserved
loop-i-preserved c = counting_turn c.loop-i.invariant c.loop-i-test.true c.word_inside.ensures.0 c.more_notes-r.ensures

pub returns : goal.returns
returns c = counting_end c.loop-i.invariant c.loop-i-test.false
