-- Where the parts of a context by class stand in its source.
use Rattle.std.specs.Prelude.{ℕ, ◌+◌, ◌≤◌, ◌≡◌, refl, Bool, true, false, List}
use Rattle.std.proofs.Common.{arith}
use Rattle.meaning.specs.Words.{word}

-- where the class tables of backtrack, input and lookahead stand; 0 for a null one
abbrev pub back_at : Bool → List ℕ → ℕ
back_at false s = 0
back_at true s = word s 4

abbrev pub input_at : Bool → List ℕ → ℕ
input_at false s = word s 4
input_at true s = word s 6

abbrev pub ahead_at : Bool → List ℕ → ℕ
ahead_at false s = 0
ahead_at true s = word s 8

-- where the count of the sets stands
abbrev pub count_at : Bool → ℕ
count_at false = 6
count_at true = 10

-- where their offsets stand, in the source and in the small table
abbrev pub slots_at : Bool → ℕ
slots_at false = 8
slots_at true = 12

pub slots_near : (chained : Bool) → (8 ≤ slots_at chained) × (slots_at chained ≤ 12)
slots_near false = (omega arith, omega arith)
slots_near true = (omega arith, omega arith)

-- they stand after their count
pub slots_after : (chained : Bool) → count_at chained + 2 ≡ slots_at chained
slots_after false = refl
slots_after true = refl
