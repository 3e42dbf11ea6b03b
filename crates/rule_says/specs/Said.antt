-- What a rule or a ligature says, by numbers, and its print.
use Rattle.std.specs.Prelude.{ℕ, ◌+◌, ◌-◌, ◌*◌, ◌/◌, ◌%◌, ◌<◌, ◌≡◌, cond, List, [], ◌∷◌, map, eqb}
use Rattle.meaning.specs.Words.{word, words, entries}
use Rattle.meaning.specs.Tables.{Ligature, rule, ligature}
use Rattle.differences.specs.Content.{Says, rule_says, one_glyph}
use Rattle.rules.specs.declared.RuleParts.{RuleParts}
use Rattle.rules.specs.Parts.{Near}
use Rattle.rule_says.specs.declared.Shape.{Shape}
use Rattle.rule_rows.specs.declared.Run.{Run}
use Rattle.rule_rows.specs.Rows.{side_of, number_by, mix}

-- a word as its number by itself
unfoldable pub numbered : List ℕ → ℕ → ℕ → List (ℕ × ℕ)
numbered t base w = one_glyph (number_by t base w)

-- a ligature, where these are the glyphs that its components stand for
unfoldable pub ligature_by : (ℕ → List (ℕ × ℕ)) → Ligature → Says
ligature_by f x = record { back = []; count = x.count; input = map f x.parts; ahead = []; records = []; forms = x.glyph }

-- what the rule or ligature at `at` says, by numbers
unfoldable pub says_at : ℕ → List ℕ → List ℕ → ℕ → ℕ → ℕ → ℕ → Says
says_at kind s t b i a at = cond (eqb kind 3) (ligature_by (numbered t i) (ligature s at)) (rule_says (numbered t b) (numbered t i) (numbered t a) (rule (eqb kind 2) s at))

-- the glyph that it forms; 0 for a rule
unfoldable pub forms_at : ℕ → List ℕ → ℕ → ℕ
forms_at kind s at = cond (eqb kind 3) (word s at) 0

-- where the numbers of the k-th class table stand, if words are classes
unfoldable pub base_of : ℕ → ℕ → ℕ
base_of classes k = cond (eqb classes 0) 0 (65536 * k)

-- the part of a rule that stands at `at`, as a row of the numbers that the class table k of its side has
abbrev pub run_of : ℕ → ℕ → ℕ → ℕ → Run
run_of classes code k at = record { side = code % 2; at = at; base = base_of classes (k + code % 2) }

-- what a rule says, by its code
unfoldable pub says_by : Shape → List ℕ → List ℕ → List ℕ → ℕ → Says
says_by shape l r t code =
    says_at shape.kind (side_of (code % 2) l r) t (base_of shape.classes (1 + code % 2)) (base_of shape.classes (3 + code % 2)) (base_of shape.classes (5 + code % 2)) (code / 2)

-- what parts that stand in s say
unfoldable pub part_says : List ℕ → List ℕ → ℕ → ℕ → ℕ → ℕ → RuleParts → Says
part_says s t b i a forms r = record {
  back = map (numbered t b) (words s r.back.at r.back.len);
  count = r.count;
  input = map (numbered t i) (words s r.input.at r.input.len);
  ahead = map (numbered t a) (words s r.ahead.at r.ahead.len);
  records = entries s r.records.at r.records.len;
  forms = forms;
}

-- r says where the parts of the rule or ligature at `at` stand
pub record IsPart (kind : ℕ) (s : List ℕ) (at : ℕ) (r : RuleParts) : Type 0 where
  pub says : (t : List ℕ) (b i a : ℕ) → part_says s t b i a (forms_at kind s at) r ≡ says_at kind s t b i a at
  pub back : Near at r.back
  pub input : Near at r.input
  pub ahead : Near at r.ahead
  pub records : Near at r.records

-- Prints.

-- the first glyph of a run
unfoldable pub lowest : List (ℕ × ℕ) → ℕ
lowest [] = 0
lowest (e ∷ es) = e.0

unfoldable pub print_runs : ℕ → List (List (ℕ × ℕ)) → ℕ
print_runs h [] = h
print_runs h (x ∷ xs) = print_runs (mix h (lowest x)) xs

unfoldable pub print_pairs : ℕ → List (ℕ × ℕ) → ℕ
print_pairs h [] = h
print_pairs h (e ∷ es) = print_pairs (mix (mix h e.0) e.1) es

-- the print of what a rule says, but for its count, which is told by its input save for 0 and 1
unfoldable pub print_says : Says → ℕ
print_says x = print_pairs (print_runs (print_runs (print_runs x.forms x.back) x.input) x.ahead) x.records
