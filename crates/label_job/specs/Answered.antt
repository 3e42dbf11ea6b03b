-- What the program promises of the text that it prints.
use Rattle.std.specs.Prelude.{ℕ, ◌≤◌, ◌≡◌, List, length, take, drop}
use Rattle.meaning.specs.Job.{program}

-- the first r bytes are what the definition prints for the file, and those past them are as before
pub record Answered (file before after : List ℕ) (r : ℕ) : Type 0 where
  pub within : r ≤ length after
  pub said : take r after ≡ program file
  pub rest : drop r after ≡ drop r before
