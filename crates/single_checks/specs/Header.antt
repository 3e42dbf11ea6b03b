-- The header of a single substitution.
use Rattle.std.specs.Prelude.{ℕ, ◌*◌, Bool, ◌&&◌, ◌||◌, List, eqb}
use Rattle.meaning.specs.Words.{word, inside}
use Rattle.meaning.specs.Fault.{equal_count}

-- the header is not at fault: a delta, or a count and as many substitutes, lie inside, and their count is not at odds with a sound coverage
abbrev pub good_header : List ℕ → Bool
good_header s = inside s 0 6 && (eqb (word s 0) 1 || (inside s 6 (2 * word s 4) && equal_count s (word s 4)))
