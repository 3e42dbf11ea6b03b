-- The header of a pair table by class.
use Rattle.std.specs.Prelude.{ℕ, ◌+◌, ◌*◌, Bool, ◌&&◌, List}
use Rattle.meaning.specs.Words.{word, inside}
use Rattle.meaning.specs.Tables.{field_count}
use Rattle.meaning.specs.Fault.{classes_below, good_formats}

-- it is sound by its own bytes
abbrev pub good_header : List ℕ → Bool
good_header s = inside s 0 16 && (inside s 16 ((2 * field_count (word s 4) + 2 * field_count (word s 6)) * (word s 12 * word s 14)) && (good_formats s && classes_below s))
