use Rattle.known_blocks.proofs.Coming.{found_none}
use Rattle.known_places.proofs.again.Goals as goal

pub returns-then-book-lt2 : goal.returns-then-book-lt2
returns-then-book-lt2 c = found_none
