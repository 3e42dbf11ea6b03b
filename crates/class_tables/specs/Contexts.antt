-- The class tables of two contexts by class, and their numbers.
use Rattle.std.specs.Prelude.{ℕ, ◌+◌, ◌*◌, ◌/◌, ◌%◌, Bool, true, false, cond, List, [], leb, eqb}
use Rattle.meaning.specs.Words.{word}
use Rattle.meaning.specs.Parts.{class_in}
use Rattle.meaning.specs.Tables.{Rule, rule, rule_set}
use Rattle.differences.specs.Content.{Says, rule_says, class_runs?}
use Rattle.class_places.specs.Places.{back_at, input_at, ahead_at, count_at}
use Rattle.class_stretches.specs.Tables.{table_at, NullOrSound}
use Rattle.class_strays.specs.Numbered.{ClassesNumbered}
use Rattle.rule_rows.specs.Rows.{side_of}

-- where the set of a class stands; 0 for none
unfoldable pub set_at : List ℕ → ℕ → ℕ → ℕ
set_at s count class = cond (leb (word s count) class) 0 (word s (count + 2 + 2 * class))

-- where the set of a covered glyph stands; 0 for none
unfoldable pub set_place : Bool → List ℕ → ℕ → ℕ
set_place chained s g = cond (eqb (input_at chained s) 0) 0 (set_at s (count_at chained) (class_in (table_at s (input_at chained s)) g))

-- the rules of the set at a place; none at 0
unfoldable pub rules_at : Bool → List ℕ → ℕ → List Rule
rules_at chained s at = cond (eqb at 0) [] (rule_set chained s at)

-- the class tables are sound
pub record SoundTables (chained : Bool) (s : List ℕ) : Type 0 where
  pub back : NullOrSound s (back_at chained s)
  pub input : NullOrSound s (input_at chained s)
  pub ahead : NullOrSound s (ahead_at chained s)

-- the cells hold the numbers of all classes of the two contexts
pub record TablesNumbered (chained : Bool) (l r t : List ℕ) : Type 0 where
  pub back : ClassesNumbered (table_at l (back_at chained l)) (table_at r (back_at chained r)) t 65536
  pub input : ClassesNumbered (table_at l (input_at chained l)) (table_at r (input_at chained r)) t 196608
  pub ahead : ClassesNumbered (table_at l (ahead_at chained l)) (table_at r (ahead_at chained r)) t 327680

-- what a rule of a context by class says: each class is its glyphs
unfoldable pub class_says : Bool → List ℕ → ℕ → Says
class_says chained s at = rule_says (class_runs? (table_at s (back_at chained s))) (class_runs? (table_at s (input_at chained s))) (class_runs? (table_at s (ahead_at chained s))) (rule chained s at)

-- the same by its code, which has its place and its side
unfoldable pub class_says_by : Bool → List ℕ → List ℕ → ℕ → Says
class_says_by chained l r code = class_says chained (side_of (code % 2) l r) (code / 2)
