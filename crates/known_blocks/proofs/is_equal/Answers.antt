use Rattle.known_blocks.proofs.Comparing.{unlike_length, alike_words}
use Rattle.known_blocks.proofs.is_equal.Goals as goal

pub returns-then-start-at : goal.returns-then-start-at
returns-then-start-at c = unlike_length _ _ _ _ _ _ c.start-at.ensures.0 c.start.ensures.0 c.if-start-at.true

pub returns : goal.returns
returns c = alike_words _ _ _ _ _ _ c.start-at.ensures.0 c.start.ensures.0 c.if-start-at.false c.same.ensures
