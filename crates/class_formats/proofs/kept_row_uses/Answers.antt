use Rattle.numbers.proofs.Numbers.{found_some}
use Rattle.class_formats.proofs.kept_row_uses.Goals as goal

pub find-requires : goal.find-requires
find-requires c = c.requires.2

pub row_uses-requires : goal.row_uses-requires
row_uses-requires c = (c.requires.0, c.requires.1, c.requires.3)

pub returns-then-is_some : goal.returns-then-is_some
returns-then-is_some c =
    rw (← found_some _ c.requires.2 c.find.ensures.answer, ← c.is_some.ensures, c.if-is_some.true) c.row_uses.ensures

pub returns-else-is_some : goal.returns-else-is_some
returns-else-is_some c =
    rw (← found_some _ c.requires.2 c.find.ensures.answer, ← c.is_some.ensures, c.if-is_some.false)
