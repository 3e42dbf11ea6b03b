-- The two formats of a class table, each by itself.
use Rattle.std.specs.Prelude.{ℕ, ◌+◌, ◌*◌, Bool, ◌&&◌, List, leb}
use Rattle.meaning.specs.Words.{word, inside}

-- the class array of the table at `at` lies inside the source and ends by glyph 65,535
unfoldable pub array_sound : List ℕ → ℕ → Bool
array_sound s at = inside s at 6 && (inside s (at + 6) (2 * word s (at + 4)) && leb (word s (at + 2) + word s (at + 4)) 65536)
