use Rattle.known_blocks.proofs.Settling.{settled_plain, settled_known, settled_new}
use mathlib.Core.Path.{refl}
use Rattle.repeats.proofs.settle.Goals as goal

pub returns-then-book-lt2 : goal.returns-then-book-lt2
returns-then-book-lt2 c = settled_plain _ _ c.fresh.ensures c.if-book-lt2.true

pub returns-then-at-p : goal.returns-then-at-p
returns-then-at-p c = settled_known _ _ c.if-book-lt2.false c.find-at.ensures refl c.if-at-p.true c.note_place.ensures c.requires.4

pub returns : goal.returns
returns c = settled_new _ _ c.if-book-lt2.false c.find-at.ensures refl c.if-at-p.false c.fresh-2.ensures c.note.ensures c.requires.4 c.book-2-1.given
