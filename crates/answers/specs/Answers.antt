-- What the contracts of the public calls say of an answer that is returned, and of the buffer that is left.
use Rattle.std.specs.Prelude.{ℕ, ◌≡◌, List, Result}
use Rattle.promises.specs.Refusals.{Call, answer}
use Rattle.refusals.specs.Answers.{outcome, decoded}
use Rattle.refusals.specs.declared.Refusal.{Refusal}

-- what the contracts of `subset` and `subset_in` say of the answer that is returned for a call, and of the buffer that is left
abbrev pub Returned : Call → Result ℕ Refusal → List ℕ → Type 0
Returned c a after = outcome a after ≡ answer c

-- what the contracts of `gillcurtain_subset` and `gillcurtain_subset_in` say of the number that is returned, and of the buffer that is left
abbrev pub Exported : Call → ℕ → List ℕ → Type 0
Exported c n after = decoded n after ≡ answer c
