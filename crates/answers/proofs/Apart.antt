-- Answers are told apart by number and length, and so is what stands for them as one number.
use Rattle.std.specs.Prelude.{ℕ, ◌≡◌, refl, List, Result, Ok, Err}
use Rattle.std.proofs.Common.{sym, ap, ◌∙◌, arith}
use Rattle.meaning.specs.Subset.{Outcome}
use Rattle.refusals.specs.Answers.{number_of, length_of, outcome, decoded}
use Rattle.refusals.specs.declared.Refusal.{Refusal}
use Rattle.refusals.specs.declared.Refusal.TheVariants.{BadKind, BadForm, BadLayout, BadGlyphs, BadLookups, LongSource, BadFormat, Malformed, Device, PastRule, Nothing, TooBig, NoRoom, BadJob}
use Rattle.answers.specs.Apart.{answer_by}

-- each answer is that of its own number and length
is_by : (a : Result ℕ Refusal) → answer_by (number_of a) (length_of a) ≡ a
unfolding answer_by
is_by (Ok n) = refl
is_by (Err BadKind) = refl
is_by (Err BadForm) = refl
is_by (Err BadLayout) = refl
is_by (Err BadGlyphs) = refl
is_by (Err BadLookups) = refl
is_by (Err LongSource) = refl
is_by (Err BadFormat) = refl
is_by (Err (Malformed p)) = refl
is_by (Err Device) = refl
is_by (Err PastRule) = refl
is_by (Err Nothing) = refl
is_by (Err TooBig) = refl
is_by (Err (NoRoom n)) = refl
is_by (Err BadJob) = refl

-- the fields of equal outcomes
pub same_number : {r q : Outcome} → r ≡ q → r.number ≡ q.number
same_number e = ap (λ (o : Outcome). o.number) e

pub same_len : {r q : Outcome} → r ≡ q → r.len ≡ q.len
same_len e = ap (λ (o : Outcome). o.len) e

pub same_out : {r q : Outcome} → r ≡ q → r.out ≡ q.out
same_out e = ap (λ (o : Outcome). o.out) e

-- answers of one outcome are equal
pub answers_apart : (a b : Result ℕ Refusal) {after other : List ℕ} → outcome a after ≡ outcome b other → a ≡ b
answers_apart a b e = sym (is_by a) ∙ ap (λ (n : ℕ). answer_by n (length_of a)) (same_number e) ∙ ap (answer_by (number_of b)) (same_len e) ∙ is_by b

-- and so are numbers that stand for one
pub numbers_apart : (n m : ℕ) {after other : List ℕ} → decoded n after ≡ decoded m other → n ≡ m
numbers_apart n m e = omega (arith, same_number e, same_len e)
