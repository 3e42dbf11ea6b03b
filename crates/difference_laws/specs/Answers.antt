-- What a call answers: which refusal, what length, what stands in the buffer.
use Rattle.std.specs.Prelude.{ℕ, ◌*◌, ◌<◌, ◌≡◌, refl, Bool, true, false, cond, ◌&&◌, ◌||◌, not, List, [], ◌∷◌, ◌++◌, length, drop, ltb, eqb, Option, None, Some, unwrap_or}
use Rattle.std.proofs.Common.{sym, ap, ◌∙◌, true≢false, arith, ltb-true, ne_eqb}
use Rattle.std.proofs.lemmas.Bool.{not-false}
use Rattle.meaning.specs.Words.{word, inside, is_some, flat}
use Rattle.meaning.specs.Fault.{fault}
use Rattle.meaning.specs.Tables.{table}
use Rattle.meaning.specs.Subset.{Outcome, limit, has_device}
use Rattle.laws.specs.Stands.{All, flat_length}
use Rattle.laws.specs.ReadsBack.{fault_is}
use Rattle.laws.specs.SoundGood.{part_sound}
use Rattle.differences.specs.Content.{content}
use Rattle.differences.specs.Entries.{Entry, differences}
use Rattle.differences.specs.Compare.{entry_words, compared_kind, compared_format, Refusal, malformed, table_refusal, or_else, refusal, list_bytes, list_into, answer_to, compare}

-- what a call is given
pub record Call : Type 0 where
  pub kind : ℕ
  pub left : List ℕ
  pub right : List ℕ
  pub buffer : List ℕ

-- what it answers
abbrev pub answer : Call → Outcome
answer c = compare c.kind c.left c.right c.buffer

-- the list of differences as bytes
abbrev pub list : Call → List ℕ
list c = list_bytes c.kind c.left c.right

-- the refusals of one table, in order: the number, the length that comes with it, and whether it applies, each judged by itself
unfoldable pub of_table : ℕ → List ℕ → List (ℕ × ℕ × Bool)
of_table kind s =
    -- source over the limit
    (4, 0, ltb limit (length s))
    -- the first two bytes stand and hold a format that isn't compared
    ∷ (5, 0, inside s 0 2 && not (compared_format kind (word s 0)))
    -- malformed: the lowest start among the faulty parts
    ∷ (6, unwrap_or (fault kind s) 0, is_some (fault kind s))
    -- pair value format has a bit of 0x00F0
    ∷ (7, 0, eqb kind 4 && (has_device (word s 4) || has_device (word s 6)))
    ∷ []

-- those of a call: the kind, the left table, the right one, then room
unfoldable pub refusals : Call → List (ℕ × ℕ × Bool)
refusals c =
    (1, 0, not (compared_kind c.kind)) ∷ (of_table c.kind c.left ++ (of_table c.kind c.right ++ ((10, length (list c), ltb (length c.buffer) (length (list c))) ∷ [])))

-- the number and the length of the first that applies; 0 and the length `else` if none does
unfoldable pub first : ℕ → List (ℕ × ℕ × Bool) → ℕ × ℕ
first else [] = (0, else)
first else (r ∷ rs) = cond r.2 (r.0, r.1) (first else rs)

-- The public statement: number and length are those of the first refusal that applies, and 0 and the list's length if none does;
-- then the list stands at the front of the buffer, and the rest of it is as it was; otherwise the buffer is as it was.
pub record Meets (c : Call) (r : Outcome) : Type 0 where
  pub number : r.number ≡ (first (length (list c)) (refusals c)).0
  pub len : r.len ≡ (first (length (list c)) (refusals c)).1
  pub out : r.out ≡ cond (eqb r.number 0) (list c ++ drop (length (list c)) c.buffer) c.buffer

-- an outcome by its number and length, as the statement gives it
by_first : Call → ℕ × ℕ → Outcome
by_first c p = record { number = p.0; len = p.1; out = cond (eqb p.0 0) (list c ++ drop (length (list c)) c.buffer) c.buffer }

-- the refusals of a table before others
table_first : (c : Call) (s : List ℕ) (q : Option Refusal) (rs : List (ℕ × ℕ × Bool)) → answer_to c.buffer q (list c) ≡ by_first c (first (length (list c)) rs)
    → answer_to c.buffer (or_else (table_refusal c.kind s) q) (list c) ≡ by_first c (first (length (list c)) (of_table c.kind s ++ rs))
unfolding answer_to or_else table_refusal malformed of_table first is_some by_first
table_first c s q rs e = go (ltb limit (length s)) (inside s 0 2 && not (compared_format c.kind (word s 0))) (fault c.kind s) (eqb c.kind 4 && (has_device (word s 4) || has_device (word s 6)))
  where
    go : (four five : Bool) (six : Option ℕ) (seven : Bool)
        → answer_to c.buffer (or_else (cond four (Some (record { number = 4; len = 0 })) (cond five (Some (record { number = 5; len = 0 })) (malformed six (cond seven (Some (record { number = 7; len = 0 })) None)))) q) (list c)
        ≡ by_first c (cond four (4, 0) (cond five (5, 0) (cond (is_some six) (6, unwrap_or six 0) (cond seven (7, 0) (first (length (list c)) rs)))))
    go true five six seven = refl
    go false true six seven = refl
    go false false (Some place) seven = refl
    go false false None true = refl
    go false false None false = e

room_first : (c : Call) → answer_to c.buffer None (list c) ≡ by_first c (first (length (list c)) ((10, length (list c), ltb (length c.buffer) (length (list c))) ∷ []))
unfolding answer_to list_into first by_first
room_first c = go (ltb (length c.buffer) (length (list c)))
  where
    go : (b : Bool) → cond b (record { number = 10; len = length (list c); out = c.buffer }) (record { number = 0; len = length (list c); out = list c ++ drop (length (list c)) c.buffer })
        ≡ by_first c (cond b (10, length (list c)) (0, length (list c)))
    go true = refl
    go false = refl

-- nothing after the last
or_none : (p : Option Refusal) → or_else p None ≡ p
unfolding or_else
or_none None = refl
or_none (Some x) = refl

-- the refusals after the kind's
after_kind : Call → List (ℕ × ℕ × Bool)
after_kind c = of_table c.kind c.left ++ (of_table c.kind c.right ++ ((10, length (list c), ltb (length c.buffer) (length (list c))) ∷ []))

tables_first : (c : Call) → answer_to c.buffer (or_else (table_refusal c.kind c.left) (table_refusal c.kind c.right)) (list c) ≡ by_first c (first (length (list c)) (after_kind c))
unfolding after_kind
tables_first c =
    let room : List (ℕ × ℕ × Bool) = (10, length (list c), ltb (length c.buffer) (length (list c))) ∷ [] in
    table_first c c.left (table_refusal c.kind c.right) (of_table c.kind c.right ++ room)
    (ap (λ (q : Option Refusal). answer_to c.buffer q (list c)) (sym (or_none (table_refusal c.kind c.right))) ∙ table_first c c.right None room (room_first c))

-- the call's outcome, by its first refusal
answer_is : (c : Call) → answer c ≡ by_first c (first (length (list c)) (refusals c))
unfolding compare refusal answer_to refusals first by_first after_kind
answer_is c = go (not (compared_kind c.kind)) (tables_first c)
  where
    go : (b : Bool) → answer_to c.buffer (or_else (table_refusal c.kind c.left) (table_refusal c.kind c.right)) (list c) ≡ by_first c (first (length (list c)) (after_kind c))
        → answer_to c.buffer (cond b (Some (record { number = 1; len = 0 })) (or_else (table_refusal c.kind c.left) (table_refusal c.kind c.right))) (list c)
        ≡ by_first c (cond b (1, 0) (first (length (list c)) (after_kind c)))
    go true e = refl
    go false e = e

-- The call meets the statement.
pub answer_meets : (c : Call) → Meets c (answer c)
unfolding by_first
answer_meets c = rw (answer_is c) (record { number = refl; len = refl; out = refl })

meets_is : (c : Call) (r : Outcome) → Meets c r → r ≡ by_first c (first (length (list c)) (refusals c))
unfolding by_first
meets_is c r m = (λ i. record { number = r.number; len = m.len i; out = m.out i }) ∙ ap (λ (n : ℕ). by_first c (n, (first (length (list c)) (refusals c)).1)) m.number

-- Two outcomes that meet it are equal.
pub meets_once : (c : Call) (r q : Outcome) → Meets c r → Meets c q → r ≡ q
meets_once c r q m k = meets_is c r m ∙ sym (meets_is c q k)

-- none of these applies
abbrev pub NoneOf : List (ℕ × ℕ × Bool) → Type 0
NoneOf = All (λ r. r.2 ≡ false)

-- where none of the first ones applies, the number and the length are those of the next that does
pub first_of : (else : ℕ) (before : List (ℕ × ℕ × Bool)) (n k : ℕ) (after : List (ℕ × ℕ × Bool)) → NoneOf before → first else (before ++ ((n, k, true) ∷ after)) ≡ (n, k)
unfolding first
first_of else [] n k after h = refl
first_of else (r ∷ before) n k after h = rw h.0 (first_of else before n k after h.1)

none_of : (else : ℕ) (rs : List (ℕ × ℕ × Bool)) → NoneOf rs → first else rs ≡ (0, else)
unfolding first
none_of else [] h = refl
none_of else (r ∷ rs) h = rw h.0 (none_of else rs h.1)

-- refusals with a number other than 0, of which some come with a length
abbrev Numbered : List (ℕ × ℕ × Bool) → Type 0
Numbered = All (λ r. 0 < r.0)

kept_none : (else : ℕ) (rs : List (ℕ × ℕ × Bool)) → Numbered rs → (first else rs).0 ≡ 0 → NoneOf rs
unfolding first
kept_none else [] w h = tt
kept_none else (r ∷ rs) w h = go r.2 refl h (kept_none else rs w.1)
  where
    go : (b : Bool) → r.2 ≡ b → (cond b (r.0, r.1) (first else rs)).0 ≡ 0 → ((first else rs).0 ≡ 0 → NoneOf rs) → (r.2 ≡ false) × NoneOf rs
    go true e q k = absurd (omega (arith, w.0))
    go false e q k = (e, k q)

numbered : (c : Call) → Numbered (refusals c)
unfolding refusals of_table
numbered c = (omega arith, (omega arith, (omega arith, (omega arith, (omega arith, (omega arith, (omega arith, (omega arith, (omega arith, (omega arith, tt))))))))))

-- what comes with a number
record Fitting (c : Call) (n k : ℕ) : Type 0 where
  kept : n ≡ 0 → k ≡ length (list c)
  short : n ≡ 10 → (k ≡ length (list c)) × (length c.buffer < length (list c))
  other : (n ≡ 0 → ⊥) → (n ≡ 6 → ⊥) → (n ≡ 10 → ⊥) → k ≡ 0

first_fits : (c : Call) (rs : List (ℕ × ℕ × Bool)) → All (λ r. r.2 ≡ true → Fitting c r.0 r.1) rs → Fitting c (first (length (list c)) rs).0 (first (length (list c)) rs).1
unfolding first
first_fits c [] h = record { kept = λ e. refl; short = λ e. absurd (omega arith); other = λ a b d. absurd (a refl) }
first_fits c (r ∷ rs) h = go r.2 refl (first_fits c rs h.1)
  where
    go : (b : Bool) → r.2 ≡ b → Fitting c (first (length (list c)) rs).0 (first (length (list c)) rs).1 → Fitting c (cond b (r.0, r.1) (first (length (list c)) rs)).0 (cond b (r.0, r.1) (first (length (list c)) rs)).1
    go true e k = h.0 e
    go false e k = k

plain : (c : Call) (n : ℕ) → 0 < n → n < 10 → Fitting c n 0
plain c n a b = record { kept = λ e. absurd (omega arith); short = λ e. absurd (omega arith); other = λ x y z. refl }

at_place_lem : (c : Call) (k : ℕ) → Fitting c 6 k
at_place_lem c k = record { kept = λ e. absurd (omega arith); short = λ e. absurd (omega arith); other = λ x y z. absurd (y refl) }

fits : (c : Call) → Fitting c (first (length (list c)) (refusals c)).0 (first (length (list c)) (refusals c)).1
unfolding refusals of_table
fits c = first_fits c (refusals c) (
  (λ e. plain c 1 (omega arith) (omega arith)),
  (
    (λ e. plain c 4 (omega arith) (omega arith)),
    (
      (λ e. plain c 5 (omega arith) (omega arith)),
      (
        (λ e. at_place_lem c _),
        (
          (λ e. plain c 7 (omega arith) (omega arith)),
          (
            (λ e. plain c 4 (omega arith) (omega arith)),
            (
              (λ e. plain c 5 (omega arith) (omega arith)),
              (
                (λ e. at_place_lem c _),
                (
                  (λ e. plain c 7 (omega arith) (omega arith)),
                  (
                    (λ e. record { kept = λ z. absurd (omega arith); short = λ z. (refl, ltb-true (length c.buffer) (length (list c)) e); other = λ x y z. absurd (z refl) }),
                    tt,
                  ),
                ),
              ),
            ),
          ),
        ),
      ),
    ),
  ),
)

module _ (c : Call) where
  -- It is kept exactly if no refusal applies.
  pub kept_exactly : ((answer c).number ≡ 0 → NoneOf (refusals c)) × (NoneOf (refusals c) → (answer c).number ≡ 0)
  kept_exactly =
      (λ e. kept_none (length (list c)) (refusals c) (numbered c) (sym (answer_meets c).number ∙ e), λ h. (answer_meets c).number ∙ ap (λ (p : ℕ × ℕ). p.0) (none_of (length (list c)) (refusals c) h))

  -- A refusal writes nothing.
  pub refused_untouched : ((answer c).number ≡ 0 → ⊥) → (answer c).out ≡ c.buffer
  refused_untouched h = (answer_meets c).out ∙ rw (ne_eqb (answer c).number 0 h)

  -- Its length is 0, save with 6, where it is a place, and with 10.
  pub refused_length : ((answer c).number ≡ 0 → ⊥) → ((answer c).number ≡ 6 → ⊥) → ((answer c).number ≡ 10 → ⊥) → (answer c).len ≡ 0
  refused_length a b d =
      let e = (answer_meets c).number in
      (answer_meets c).len ∙ (fits c).other (λ z. a (e ∙ z)) (λ z. b (e ∙ z)) (λ z. d (e ∙ z))

  -- With 10 it is the length needed, and the buffer is shorter.
  pub no_room : (answer c).number ≡ 10 → ((answer c).len ≡ length (list c)) × (length c.buffer < length (list c))
  no_room h = let k = (fits c).short (sym (answer_meets c).number ∙ h) in ((answer_meets c).len ∙ k.0, k.1)

  -- Where the list is kept, it stands at the front of the buffer, and bytes past it keep their old content.
  pub kept_length : (answer c).number ≡ 0 → (answer c).len ≡ length (list c)
  kept_length h = (answer_meets c).len ∙ (fits c).kept (sym (answer_meets c).number ∙ h)

  pub kept_bytes : (answer c).number ≡ 0 → (answer c).out ≡ list c ++ drop (length (list c)) c.buffer
  kept_bytes h = (answer_meets c).out ∙ rw h

-- an entry is six words, twelve bytes
entry_words_lem : (es : List Entry) → length (entry_words es) ≡ 6 * length es
unfolding entry_words
entry_words_lem [] = refl
entry_words_lem (e ∷ es) = omega (arith, entry_words_lem es)

pub entry_bytes : (es : List Entry) → length (flat (entry_words es)) ≡ 12 * length es
entry_bytes es = omega (arith, flat_length (entry_words es), entry_words_lem es)

pub list_length : (c : Call) → length (list c) ≡ 12 * length (differences (content (table c.kind c.left)) (content (table c.kind c.right)))
unfolding list_bytes
list_length c = entry_bytes (differences (content (table c.kind c.left)) (content (table c.kind c.right)))

-- a call that is kept has two tables without a fault
no_fault : (o : Option ℕ) → is_some o ≡ false → o ≡ None
unfolding is_some
no_fault None h = refl
no_fault (Some x) h = absurd (true≢false h)

pub left_sound : (c : Call) → (answer c).number ≡ 0 → fault c.kind c.left ≡ None
unfolding refusals of_table
left_sound c h = no_fault (fault c.kind c.left) ((kept_exactly c).0 h).1.1.1.0

pub right_sound : (c : Call) → (answer c).number ≡ 0 → fault c.kind c.right ≡ None
unfolding refusals of_table
right_sound c h = no_fault (fault c.kind c.right) ((kept_exactly c).0 h).1.1.1.1.1.1.1.0

-- and a kind and two formats that are compared
pub kept_kind : (c : Call) → (answer c).number ≡ 0 → compared_kind c.kind ≡ true
unfolding refusals
kept_kind c h = not-false (compared_kind c.kind) ((kept_exactly c).0 h).0

has_format_lem : (kind : ℕ) (s : List ℕ) → fault kind s ≡ None → inside s 0 2 && not (compared_format kind (word s 0)) ≡ false → compared_format kind (word s 0) ≡ true
has_format_lem kind s f h = not-false (compared_format kind (word s 0)) (rw (part_sound 0 (inside s 0 2) _ (sym (fault_is kind s) ∙ f)).0 at h)

pub left_format : (c : Call) → (answer c).number ≡ 0 → compared_format c.kind (word c.left 0) ≡ true
unfolding refusals of_table
left_format c h = has_format_lem c.kind c.left (left_sound c h) ((kept_exactly c).0 h).1.1.0

pub right_format : (c : Call) → (answer c).number ≡ 0 → compared_format c.kind (word c.right 0) ≡ true
unfolding refusals of_table
right_format c h = has_format_lem c.kind c.right (right_sound c h) ((kept_exactly c).0 h).1.1.1.1.1.1.0
