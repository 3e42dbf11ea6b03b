-- The ways through the tests before the comparison, and what is known where none refuses.
use Prim.Native.Nat.{ℕ, ◌≤◌, ◌<◌}
use mathlib.Core.Path.{◌≡◌, refl, sym, ◌∙◌}
use mathlib.Core.Bool.{Bool, true, false, cond, ◌&&◌, ◌||◌, not, true≢false}
use Rattle.std.specs.Prelude.{Option, None, Some, Result, Ok, Err}
use Rattle.std.proofs.lemmas.Option.{none-some}
use mathlib.Core.List.{List}
use lib.ListN.{length}
use lib.Dec.{leb, ltb, eqb}
use borrow.Author.Tests.{lt-ltb, le-ltb, ltb-false, le-leb, lt-leb}
use Rattle.meaning.specs.Words.{word, inside}
use Rattle.meaning.specs.Fault.{fault}
use Rattle.meaning.specs.Subset.{limit, has_device}
use Rattle.laws.specs.ReadsBack.{fault_is}
use Rattle.laws.specs.SoundGood.{part_sound}
use Rattle.faults.specs.Reached as wire
use Rattle.differences.specs.Compare.{compared_kind, compared_format, Refusal as RefusalOf, malformed, table_refusal, or_else, refusal}
use Rattle.compare_refusals.specs.Answers.{refusal_of}
use Rattle.compare_refusals.specs.Passes.{Passes}
use Rattle.compare_refusals.specs.declared.Refusal.{Refusal}
use Rattle.compare_refusals.specs.declared.Refusal.TheVariants.{BadKind, LongSource, BadFormat, Malformed, Device}

-- Kinds and formats.
module _ (kind : ℕ) where
  pub kind_none : kind < 1 → false ≡ compared_kind kind
  unfolding compared_kind
  kind_none h = rw (lt-leb 1 kind h)

  pub kind_some : 1 ≤ kind → leb kind 4 ≡ compared_kind kind
  unfolding compared_kind
  kind_some h = rw (le-leb 1 kind h)

  module _ (format : ℕ) where
    pub format_one : 2 < kind → eqb format 1 ≡ compared_format kind format
    unfolding compared_format
    format_one h = rw (lt-leb kind 2 h)

    module _ (h : kind ≤ 2) where
      pub format_none : format < 1 → false ≡ compared_format kind format
      unfolding compared_format
      format_none l = rw (le-leb kind 2 h, lt-leb 1 format l)

      pub format_some : 1 ≤ format → leb format 3 ≡ compared_format kind format
      unfolding compared_format
      format_some l = rw (le-leb kind 2 h, le-leb 1 format l)

-- One subtable: over the limit, another format, malformed, device bits, or none of these.
module _ (kind : ℕ) (s : List ℕ) where
  pub refuse_long : 262144 < length s → refusal_of (Err LongSource) ≡ table_refusal kind s
  unfolding table_refusal limit
  refuse_long h = rw (lt-ltb 262144 (length s) h)

  module _ (a : length s ≤ 262144) {b : Bool} (e : b ≡ inside s 0 2 && not (compared_format kind (word s 0))) where
    pub refuse_format : b ≡ true → refusal_of (Err BadFormat) ≡ table_refusal kind s
    unfolding table_refusal limit
    refuse_format z = rw (le-ltb 262144 (length s) a, ← e, z)

    module _ (z : b ≡ false) {r : Option ℕ} (f : r ≡ fault kind s) where
      pub refuse_fault : {p : ℕ} → r ≡ Some p → refusal_of (Err (Malformed p)) ≡ table_refusal kind s
      unfolding table_refusal limit malformed
      refuse_fault q = rw (le-ltb 262144 (length s) a, ← e, z, sym f ∙ q)

      module _ (q : r ≡ None) {w : Bool} (g : w ≡ eqb kind 4 && (has_device (word s 4) || has_device (word s 6))) where
        pub refuse_device : w ≡ true → refusal_of (Err Device) ≡ table_refusal kind s
        unfolding table_refusal limit malformed
        refuse_device y = rw (le-ltb 262144 (length s) a, ← e, z, sym f ∙ q, ← g, y)

        pub refuse_none : w ≡ false → refusal_of (Ok tt) ≡ table_refusal kind s
        unfolding table_refusal limit malformed
        refuse_none y = rw (le-ltb 262144 (length s) a, ← e, z, sym f ∙ q, ← g, y)

-- The call: its kind, the left subtable, the right one.
module _ (kind : ℕ) (l r : List ℕ) where
  pub refuse_kind : compared_kind kind ≡ false → refusal_of (Err BadKind) ≡ refusal kind l r
  unfolding refusal
  refuse_kind z = rw z

  module _ (z : compared_kind kind ≡ true) where
    pub refuse_left : (a : Refusal) → refusal_of (Err a) ≡ table_refusal kind l → refusal_of (Err a) ≡ refusal kind l r
    unfolding refusal or_else
    refuse_left a f = rw (z, ← f)

    pub refuse_right : refusal_of (Ok tt) ≡ table_refusal kind l → (y : Result (Unit {0}) Refusal) → refusal_of y ≡ table_refusal kind r → refusal_of y ≡ refusal kind l r
    unfolding refusal or_else
    refuse_right f y g = g ∙ rw (z, ← f)

-- What is known of a subtable that is not refused.
table_passes : (kind : ℕ) (s : List ℕ) → table_refusal kind s ≡ None → Passes kind s
unfolding table_refusal limit malformed
table_passes kind s h = go (ltb 262144 (length s)) (inside s 0 2) (compared_format kind (word s 0)) (fault kind s) refl refl refl refl h
  where
    D : Option RefusalOf
    D = cond (eqb kind 4 && (has_device (word s 4) || has_device (word s 6))) (Some (record { number = 7; len = 0 })) None

    go : (a b f : Bool) (o : Option ℕ) → ltb 262144 (length s) ≡ a → inside s 0 2 ≡ b → compared_format kind (word s 0) ≡ f → fault kind s ≡ o
        → cond a (Some (record { number = 4; len = 0 })) (cond (b && not f) (Some (record { number = 5; len = 0 })) (malformed o D)) ≡ None → Passes kind s
    go true b f o p q u v k = absurd (none-some _ (sym k))
    go false true false o p q u v k = absurd (none-some _ (sym k))
    go false b true (Some at) p q u v k = refuse b k
      where
        refuse : (b : Bool) → cond (b && false) (Some (record { number = 5; len = 0 })) (malformed (Some at) D) ≡ None → Passes kind s
        refuse true k = absurd (none-some _ (sym k))
        refuse false k = absurd (none-some _ (sym k))
    go false false false (Some at) p q u v k = absurd (none-some _ (sym k))
    go false b true None p q u v k = record { short = ltb-false 262144 (length s) p; format = u; sound = v }
    go false false false None p q u v k = absurd (true≢false (sym (part_sound 0 (inside s 0 2) _ (sym (fault_is kind s) ∙ v)).0 ∙ q))

-- of both where the call is not refused, and of the kind
pub call_passes : (kind : ℕ) (l r : List ℕ) → None ≡ refusal kind l r → (compared_kind kind ≡ true) × Passes kind l × Passes kind r
unfolding refusal or_else
call_passes kind l r h = go (compared_kind kind) (table_refusal kind l) refl refl (sym h)
  where
    go : (b : Bool) (o : Option RefusalOf) → compared_kind kind ≡ b → table_refusal kind l ≡ o → cond (not b) (Some (record { number = 1; len = 0 })) (or_else o (table_refusal kind r)) ≡ None
        → (compared_kind kind ≡ true) × Passes kind l × Passes kind r
    go false o p q k = absurd (none-some _ (sym k))
    go true (Some x) p q k = absurd (none-some _ (sym k))
    go true None p q k = (p, table_passes kind l q, table_passes kind r k)
