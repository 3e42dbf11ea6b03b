-- What the answer of a lookup tells.
use Rattle.std.specs.Prelude.{ℕ, ◌<◌, ◌≡◌, List}
use Rattle.meaning.specs.Words.{entries}
use Rattle.replaying.specs.Asking.{Answer}
use Rattle.matching.specs.Fitting.{Small as SmallRule}
use Rattle.asking.specs.declared.Asked.{Asked}
use Rattle.asking.specs.declared.Asked.TheVariants.{Nothing, Instead, Rule}

-- the answer that an enum of the code stands for, the records being in this source
abbrev pub answer_by : List ℕ → Asked → Answer
answer_by s Nothing = Answer.nothing
answer_by s (Instead g) = Answer.instead g
answer_by s (Rule m) = Answer.matched m.input_len (entries s m.records.at m.records.len)

-- its numbers are small, and a glyph stands in the string
abbrev pub Small : ℕ → ℕ → Asked → Type 0
Small place n Nothing = Unit {0}
Small place n (Instead g) = (g < 65536) × (place < n)
Small place n (Rule m) = SmallRule m

-- a tells what is answered
pub record Asks (s : List ℕ) (place n : ℕ) (x : Answer) (a : Asked) : Type 0 where
  pub says : answer_by s a ≡ x
  pub small : Small place n a

-- a rule is one of a lookup in the list
abbrev pub InList : ℕ → ℕ → Asked → Type 0
InList lookup many Nothing = Unit {0}
InList lookup many (Instead g) = Unit {0}
InList lookup many (Rule m) = lookup < many
