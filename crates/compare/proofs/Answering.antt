-- What the answers say of the call.
use Prim.Native.Nat.{ℕ, ◌+◌, ◌*◌, ◌/◌, ◌%◌, ◌≤◌, ◌<◌}
use mathlib.Core.Path.{◌≡◌}
use mathlib.Core.Bool.{Bool, true, false, cond, ◌&&◌, ◌||◌, not}
use Rattle.std.specs.Prelude.{Option, None, Some, unwrap_or, Result, Ok, Err}
use mathlib.Core.List.{List}
use native.Mathlib.Omega.{arith}
use lib.ListN.{length, get_or}
use lib.Dec.{ltb, eqb}
use borrow.Author.Tests.{lt-ltb, le-ltb}
use Rattle.meaning.specs.Words.{word, inside, flat}
use Rattle.meaning.specs.Fault.{fault}
use Rattle.meaning.specs.Subset.{Outcome, limit, has_device}
use Rattle.checks.specs.Near.{place_near}
use Rattle.meaning.specs.Tables.{table}
use Rattle.laws.specs.Stands.{flat_length}
use Rattle.laws.specs.Written.{sets_front}
use Rattle.differences.specs.Content.{content}
use Rattle.differences.specs.Entries.{Entry, differences}
use Rattle.differences.specs.Compare.{entry_words, compared_kind, compared_format, Refusal as RefusalOf, malformed, table_refusal, or_else, refusal, list_bytes, list_into, answer_to, compare}
use Rattle.listing.specs.Listed.{words_length}
use Rattle.listing.specs.Laid.{LaidList}
use Rattle.compare_refusals.specs.Answers.{number_of, length_of, compared_of, decoded, refusal_of}
use Rattle.compare_refusals.specs.declared.Refusal.{Refusal}
use Rattle.compare_refusals.specs.declared.Refusal.TheVariants.{BadKind, LongSource, BadFormat, Malformed, Device, NoRoom}

-- a refusal's length, where there is one, is not past twice the highest offset
abbrev length_in : Option RefusalOf → ℕ
length_in None = 0
length_in (Some x) = x.len

record Near (o : Option RefusalOf) : Type 0 where
  most : length_in o ≤ 131070

-- no number is over 10
pub number_most : (a : Result ℕ Refusal) → number_of a ≤ 10
number_most (Ok n) = omega arith
number_most (Err BadKind) = omega arith
number_most (Err LongSource) = omega arith
number_most (Err BadFormat) = omega arith
number_most (Err (Malformed p)) = omega arith
number_most (Err Device) = omega arith
number_most (Err (NoRoom n)) = omega arith

-- the list's length in bytes
list_length : (es : List Entry) → length (flat (entry_words es)) ≡ 12 * length es
list_length es = omega (arith, flat_length (entry_words es), words_length es)

module _ (kind : ℕ) (l r out : List ℕ) where
  -- a refusal is the call's answer
  call_refused : (a : Refusal) → refusal_of (Err a) ≡ refusal kind l r → compared_of (Err a) out ≡ compare kind l r out
  unfolding compare answer_to
  call_refused a h = rw (← h)

  module _ (h : None ≡ refusal kind l r) {after : List ℕ} {n : ℕ} (k : LaidList (differences (content (table kind l)) (content (table kind r))) out after n) where
    size : n ≡ length (flat (entry_words (differences (content (table kind l)) (content (table kind r)))))
    size = omega (arith, k.size, list_length (differences (content (table kind l)) (content (table kind r))))

    -- a list that the buffer is too short for
    call_short : length out < n → compared_of (Err (NoRoom n)) after ≡ compare kind l r out
    unfolding compare answer_to list_bytes list_into
    call_short w = rw (k.short w, ← h, ← size, lt-ltb (length out) n w)

    -- a list that is laid
    call_listed : n ≤ length out → compared_of (Ok n) after ≡ compare kind l r out
    unfolding compare answer_to list_bytes list_into
    call_listed w = rw (← h, k.bytes w, sets_front out (flat (entry_words (differences (content (table kind l)) (content (table kind r))))) (omega (arith, size)), ← size, le-ltb (length out) n w)

-- The length of a refusal is a place, which is not far.
near_malformed : (o : Option ℕ) (q : Option RefusalOf) → unwrap_or o 0 ≤ 131070 → Near q → Near (malformed o q)
unfolding malformed
near_malformed None q h k = k
near_malformed (Some p) q h k = record { most = h }

near_cond : (b : Bool) {p q : Option RefusalOf} → Near p → Near q → Near (cond b p q)
near_cond true h k = h
near_cond false h k = k

table_near : (kind : ℕ) (s : List ℕ) → ((i : ℕ) → get_or s i 0 < 256) → Near (table_refusal kind s)
unfolding table_refusal
table_near kind s bytes =
    near_cond (ltb limit (length s)) (record { most = omega arith })
    (near_cond (inside s 0 2 && not (compared_format kind (word s 0))) (record { most = omega arith })
    (near_malformed (fault kind s) _ (place_near s bytes kind) (near_cond (eqb kind 4 && (has_device (word s 4) || has_device (word s 6))) (record { most = omega arith }) (record { most = omega arith }))))

near_else : (p q : Option RefusalOf) → Near p → Near q → Near (or_else p q)
unfolding or_else
near_else None q h k = k
near_else (Some x) q h k = h

refusal_near : (kind : ℕ) (l r : List ℕ) → ((i : ℕ) → get_or l i 0 < 256) → ((i : ℕ) → get_or r i 0 < 256) → Near (refusal kind l r)
unfolding refusal
refusal_near kind l r bl br = near_cond (not (compared_kind kind)) (record { most = omega arith }) (near_else (table_refusal kind l) (table_refusal kind r) (table_near kind l bl) (table_near kind r br))

-- The ways through the call: refused, a buffer that is too short, and a list.
module _ (kind : ℕ) (l r out : List ℕ) where
  pub answer_refused : ((i : ℕ) → get_or l i 0 < 256) → ((i : ℕ) → get_or r i 0 < 256) → (a : Refusal) → refusal_of (Err a) ≡ refusal kind l r
      → (compared_of (Err a) out ≡ compare kind l r out) × (length_of (Err a) < 0x100_0000_0000_0000)
  answer_refused bl br a h =
      let k : Near (refusal_of (Err a)) = rw h (refusal_near kind l r bl br) in
      (call_refused kind l r out a h, omega (arith, k.most))

  module _ (h : None ≡ refusal kind l r) {after : List ℕ} {n : ℕ} (k : LaidList (differences (content (table kind l)) (content (table kind r))) out after n × (n ≤ 0x100_0000_0000)) (same : length after ≡ length out) where
    pub answer_short : length after < n → (compared_of (Err (NoRoom n)) after ≡ compare kind l r out) × (n < 0x100_0000_0000_0000)
    answer_short w = (call_short kind l r out h k.0 (omega arith), omega arith)

    pub answer_listed : n ≤ length after → (compared_of (Ok n) after ≡ compare kind l r out) × (n < 0x100_0000_0000_0000)
    answer_listed w = (call_listed kind l r out h k.0 (omega arith), omega arith)

-- an answer as one number
pub code_says : (a : Result ℕ Refusal) {n : ℕ} {after : List ℕ} {o : Outcome} → (compared_of a after ≡ o) × (length_of a < 0x100_0000_0000_0000) → n ≡ number_of a * 0x100_0000_0000_0000 + length_of a → decoded n after ≡ o
code_says a {n} h e =
    let q : n / 0x100_0000_0000_0000 ≡ number_of a = omega (arith, number_most a) in
    let r : n % 0x100_0000_0000_0000 ≡ length_of a = omega (arith, number_most a) in
    rw (q, r) h.0
