-- What is promised of the answers that the code gives, each promise with its words above it.
-- The public call, `subset`, or `subset_in` with lent scratch, returns a `Result<usize, Refusal>`, whose number and length are `number_of` and `length_of` (crates/refusals/specs/Answers.antt), and leaves a buffer;
-- the entries for other languages, `gillcurtain_subset` and `gillcurtain_subset_in`, return one number instead, which `decoded` takes apart. With and without lent scratch the contract is the same, word for word. `Call`, `answer` and `Meets` stand in crates/promises/specs/Refusals.antt.
use Rattle.std.specs.Prelude.{ℕ, ◌/◌, ◌%◌, ◌≡◌, List, Result}
use Rattle.std.proofs.Common.{sym, ◌∙◌}
use Rattle.promises.specs.Refusals.{Call, Meets, answer_meets}
use Rattle.refusals.specs.Answers.{number_of, length_of, outcome, decoded}
use Rattle.refusals.specs.declared.Refusal.{Refusal}
use Rattle.answers.specs.Answers.{Returned, Exported}
use Rattle.answers.proofs.Apart.{same_number, same_len, same_out, answers_apart, numbers_apart}

module _ (c : Call) where
  -- `call_meets`: whatever the public call returns and leaves meets the public statement for that call.
  pub call_meets : (a : Result ℕ Refusal) (after : List ℕ) → Returned c a after → Meets c (outcome a after)
  call_meets a after e = rw e (answer_meets c)

  -- `exported_meets`: so does whatever an exported entry returns and leaves.
  pub exported_meets : (n : ℕ) (after : List ℕ) → Exported c n after → Meets c (decoded n after)
  exported_meets n after e = rw e (answer_meets c)

  -- `answer_unique`: the contract of the public call leaves one answer and one buffer, so lent scratch changes neither.
  pub answer_unique : (a b : Result ℕ Refusal) (after other : List ℕ) → Returned c a after → Returned c b other → (a ≡ b) × (after ≡ other)
  answer_unique a b after other e f = (answers_apart a b (e ∙ sym f), same_out (e ∙ sym f))

  -- `exported_unique`: the contract of the exported entries leaves one number and one buffer, so lent scratch changes neither.
  pub exported_unique : (n m : ℕ) (after other : List ℕ) → Exported c n after → Exported c m other → (n ≡ m) × (after ≡ other)
  exported_unique n m after other e f = (numbers_apart n m (e ∙ sym f), same_out (e ∙ sym f))

  -- `same_both_ways`: an exported entry gives the number, the length and the buffer of the public call.
  pub same_both_ways : (a : Result ℕ Refusal) (n : ℕ) (after other : List ℕ) → Returned c a after → Exported c n other
      → (n / 0x100_0000_0000_0000 ≡ number_of a) × (n % 0x100_0000_0000_0000 ≡ length_of a) × (other ≡ after)
  same_both_ways a n after other e f = let g = f ∙ sym e in (same_number g, same_len g, same_out g)
