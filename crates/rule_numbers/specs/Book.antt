-- Numbers of contents, each with the code that came first with it, found by their prints.
use Rattle.std.specs.Prelude.{ℕ, zero, suc, ◌+◌, ◌*◌, ◌≤◌, ◌<◌, ◌≡◌, Option, None, Some, List, [], ◌∷◌, length, get_or}

-- how many cells are not 0
unfoldable pub filled : List ℕ → ℕ
filled [] = 0
filled (zero ∷ l) = filled l
filled (suc n ∷ l) = suc (filled l)

-- how many numbers there are; the code that came first with the number k, and the number before it with the same print
abbrev pub count : List ℕ → ℕ
count came = get_or came 65536 0

abbrev pub code_at : List ℕ → ℕ → ℕ
code_at came k = get_or came (65536 + 2 * k) 0

abbrev pub older_at : List ℕ → ℕ → ℕ
older_at came k = get_or came (65537 + 2 * k) 0

-- k is one of the numbers
pub record Is (came : List ℕ) (k : ℕ) : Type 0 where
  pub some : 0 < k
  pub few : k ≤ count came

-- One number more: the code c, whose print is p, came first with it.
pub record Added (came after : List ℕ) (c p : ℕ) : Type 0 where
  pub count_is : count after ≡ count came + 1
  pub code_new : code_at after (count came + 1) ≡ c
  pub older_new : older_at after (count came + 1) ≡ get_or came p 0
  pub code_old : (j : ℕ) → Is came j → code_at after j ≡ code_at came j
  pub older_old : (j : ℕ) → Is came j → older_at after j ≡ older_at came j
  pub print_new : get_or after p 0 ≡ count came + 1
  pub print_old : (q : ℕ) → q < 65536 → (q ≡ p → ⊥) → get_or after q 0 ≡ get_or came q 0

module _ {A : Type 0} (says : ℕ → A) where
  -- what a search for what the code c says answers: the number whose first code says the same, if there is one
  abbrev pub Sought : List ℕ → ℕ → Option ℕ → Type 0
  Sought came c (Some k) = Is came k × (says (code_at came k) ≡ says c)
  Sought came c None = (k : ℕ) → Is came k → says (code_at came k) ≡ says c → ⊥

  module _ (print : A → ℕ) where
    -- No two first codes say the same, and the numbers with one print are chained from the latest on.
    pub record Firsts (came : List ℕ) : Type 0 where
      pub apart : (j k : ℕ) → Is came j → Is came k → says (code_at came j) ≡ says (code_at came k) → j ≡ k
      pub prints : (k : ℕ) → Is came k → print (says (code_at came k)) < 65536
      pub latest : (k : ℕ) → Is came k → k ≤ get_or came (print (says (code_at came k))) 0
      pub chained : (p : ℕ) → p < 65536 → (get_or came p 0 ≡ 0 → ⊥) → Is came (get_or came p 0) × (print (says (code_at came (get_or came p 0))) ≡ p)
      pub before : (j k : ℕ) → Is came j → Is came k → j < k → print (says (code_at came j)) ≡ print (says (code_at came k)) → j ≤ older_at came k
      pub linked : (k : ℕ) → Is came k → (older_at came k < k) × ((older_at came k ≡ 0 → ⊥) → print (says (code_at came (older_at came k))) ≡ print (says (code_at came k)))

    -- Besides, a code's number is that of the first code that says the same, and there is a cell for each number that may come.
    pub record Book (num came : List ℕ) : Type 0 where
      pub size : 65540 + 2 * length num ≤ length came
      pub small : length num < 0x1000_0000
      pub enough : count came ≤ filled num
      pub firsts : Firsts came
      pub own : (c : ℕ) → (get_or num c 0 ≡ 0 → ⊥) → Is came (get_or num c 0) × (says (code_at came (get_or num c 0)) ≡ says c)

    -- After `number`: the code's number is r, and numbers that were there before are as they were.
    pub record Numbered (num₀ : List ℕ) (c : ℕ) (num came : List ℕ) (r : ℕ) : Type 0 where
      pub book : Book num came
      pub here : r ≡ get_or num c 0
      pub some : 0 < r
      pub few : r ≤ length num
      pub stay : (d : ℕ) → (get_or num₀ d 0 ≡ 0 → ⊥) → get_or num d 0 ≡ get_or num₀ d 0
