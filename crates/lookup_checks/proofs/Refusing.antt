-- The ways through the checks of a list.
use Prim.Native.Nat.{ℕ, suc, ◌+◌, ◌-◌, ◌*◌, ◌/◌, ◌≤◌, ◌<◌}
use mathlib.Core.Path.{◌≡◌}
use Rattle.std.specs.Prelude.{Option, None, Some}
use mathlib.Core.List.{List}
use native.Mathlib.Omega.{arith}
use lib.ListN.{length}
use Rattle.meaning.specs.Words.{word}
use Rattle.replaying.specs.Listed.{or_else, entry_at, entries_from, listed, source_of, lookup_refusal, first_refusal}
use Rattle.lookup_list.specs.Ready.{source_at}

-- What the loop over the lookups keeps: the first refusal among those that are left is the first of all.
pub record Checking (list buffer : List ℕ) (many k : ℕ) : Type 0 where
  pub within : k ≤ many
  pub left : first_refusal buffer (entries_from list (10 * k) (many - k)) ≡ first_refusal buffer (listed list)

module _ {list buffer : List ℕ} where
  pub checking_all : Checking list buffer (length list / 10) 0
  unfolding listed
  checking_all =
      let d : length list / 10 - 0 ≡ length list / 10 = omega arith in
      record { within = omega arith; left = rw d }

  module _ {many k : ℕ} (c : Checking list buffer many k) (h : k < many) {o : Option (ℕ × ℕ)} (e : o ≡ lookup_refusal (word list (10 * k)) (source_at list buffer k)) where
    turn : or_else o (first_refusal buffer (entries_from list (10 * (k + 1)) (many - (k + 1)))) ≡ first_refusal buffer (listed list)
    unfolding first_refusal entries_from entry_at source_of source_at
    turn =
        let a : many - k ≡ suc (many - (k + 1)) = omega arith in
        let d : 10 * (k + 1) ≡ 10 * k + 10 = omega arith in
        rw (e, d) (rw a at c.left)

    pub checking_refused : {r : ℕ × ℕ} → o ≡ Some r → Some r ≡ first_refusal buffer (listed list)
    unfolding or_else
    checking_refused q = rw q at turn

    pub checking_turn : o ≡ None → Checking list buffer many (k + 1)
    unfolding or_else
    checking_turn q = record { within = omega arith; left = rw q at turn }

  pub checking_end : {many k : ℕ} → Checking list buffer many k → many ≤ k → None ≡ first_refusal buffer (listed list)
  unfolding first_refusal entries_from
  checking_end {many} {k} c h =
      let a : many - k ≡ 0 = omega arith in
      rw a at c.left
