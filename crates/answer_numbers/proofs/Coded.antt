-- An answer as one number: its length is far below 2^56, so that number and length can be told apart again.
use Prim.Native.Nat.{ℕ, ◌+◌, ◌*◌, ◌/◌, ◌%◌, ◌≤◌, ◌<◌}
use mathlib.Core.Path.{◌≡◌, refl}
use mathlib.Core.Bool.{Bool, true, false, cond, ◌&&◌, ◌||◌, not}
use Rattle.std.specs.Prelude.{Option, None, Some, Result, Ok, Err}
use mathlib.Core.List.{List, ◌++◌}
use native.Mathlib.Omega.{arith}
use lib.ListN.{length, drop, get_or}
use lib.Dec.{ltb, eqb}
use borrow.Author.Tests.{ltb-false}
use Rattle.meaning.specs.Words.{word, inside, is_some, flat}
use Rattle.meaning.specs.Maps.{map_entries, good_lookups, good_form, glyph_entries, good_glyph_map}
use Rattle.meaning.specs.Tables.{Table, table}
use Rattle.meaning.specs.Fault.{fault}
use Rattle.meaning.specs.Records.{records_within}
use Rattle.meaning.specs.Cut.{cut}
use Rattle.meaning.specs.Layout.{words_fit}
use Rattle.meaning.specs.Subset.{Outcome, refused, limit, good_kind, has_format, has_device, too_big, laid_into, good_packing, words_in, written_in, subset}
use Rattle.laws.specs.CallBack.{subset_is}
use Rattle.checks.specs.Near.{place_near}
use Rattle.refusals.specs.Answers.{number_of, length_of, outcome, decoded}
use Rattle.refusals.specs.declared.Refusal.{Refusal}
use Rattle.refusals.specs.declared.Refusal.TheVariants.{BadKind, BadForm, BadLayout, BadGlyphs, BadLookups, LongSource, BadFormat, Malformed, Device, PastRule, Nothing, TooBig, NoRoom, BadJob}

-- the length, a place or a number of bytes, is not over the limit
record Short (r : Outcome) : Type 0 where
  most : r.len ≤ 262144

-- one of two that are short is short
or_short : (b : Bool) {x y : Outcome} → Short x → Short y → Short (cond b x y)
or_short true h k = h
or_short false h k = k

-- a refusal without a length, or else something short, is short
or_refused : (b : Bool) (out : List ℕ) (n : ℕ) {y : Outcome} → Short y → Short (cond b (refused out n) y)
or_refused b out n h = or_short b (record { most = omega arith }) h

laid_short : (out ws : List ℕ) → Short (laid_into out ws)
unfolding laid_into too_big limit
laid_short out ws = step (ltb limit (length bytes)) (not (words_fit ws)) (ltb (length out) (length bytes)) refl
  where
    bytes : List ℕ
    bytes = flat ws

    step : (a f b : Bool) → ltb limit (length bytes) ≡ a
        → Short (cond (a || f) (refused out 9) (cond b (record { number = 10; len = length bytes; out = out }) (record { number = 0; len = length bytes; out = bytes ++ drop (length bytes) out })))
    step true f b e = record { most = omega arith }
    step false true b e = record { most = omega arith }
    step false false true e = record { most = omega (arith, ltb-false limit (length bytes) e) }
    step false false false e = record { most = omega (arith, ltb-false limit (length bytes) e) }

written_short : (layout : ℕ) (out : List ℕ) (o : Option Table) → Short (written_in layout out o)
unfolding written_in
written_short layout out None = record { most = omega arith }
written_short layout out (Some t) = laid_short out (words_in layout t)

-- the length of a call on a source of bytes
subset_short : (kind form layout : ℕ) (s g l out : List ℕ) → ((i : ℕ) → get_or s i 0 < 256) → Short (subset kind form layout s g l out)
subset_short kind form layout s g l out bytes =
    rw (subset_is kind form layout s g l out)
    (or_refused (not (good_kind kind)) out 1
    (or_refused (not (good_form form)) out 13
    (or_refused (not (good_packing layout)) out 14
    (or_refused (not (good_glyph_map form g)) out 2
    (or_refused (not (good_lookups l)) out 3
    (or_refused (ltb limit (length s)) out 4
    (or_refused (inside s 0 2 && not (has_format kind (word s 0))) out 5
    (or_short (is_some (fault kind s)) (record { most = omega (arith, place_near s bytes kind) })
    (or_refused (eqb kind 4 && (has_device (word s 4) || has_device (word s 6))) out 7
    (or_refused (not (records_within (table kind s))) out 12 (written_short layout out (cut (glyph_entries form g) (map_entries l) (table kind s)))))))))))))

-- no number is over 14
pub number_most : (a : Result ℕ Refusal) → number_of a ≤ 14
number_most (Ok n) = omega arith
number_most (Err BadKind) = omega arith
number_most (Err BadForm) = omega arith
number_most (Err BadLayout) = omega arith
number_most (Err BadGlyphs) = omega arith
number_most (Err BadLookups) = omega arith
number_most (Err LongSource) = omega arith
number_most (Err BadFormat) = omega arith
number_most (Err (Malformed p)) = omega arith
number_most (Err Device) = omega arith
number_most (Err PastRule) = omega arith
number_most (Err Nothing) = omega arith
number_most (Err TooBig) = omega arith
number_most (Err (NoRoom n)) = omega arith
number_most (Err BadJob) = omega arith

module _ (kind form layout : ℕ) (s g l out : List ℕ) (a : Result ℕ Refusal) {after : List ℕ} (e : outcome a after ≡ subset kind form layout s g l out) (bytes : (i : ℕ) → get_or s i 0 < 256) where
  -- the length of an answer that a call gives
  pub length_most : length_of a ≤ 262144
  length_most = rw (← e) at (subset_short kind form layout s g l out bytes).most

  -- what such an answer is as one number
  pub code_says : {n : ℕ} → n ≡ number_of a * 0x100_0000_0000_0000 + length_of a → decoded n after ≡ subset kind form layout s g l out
  code_says {n} f =
      let q : n / 0x100_0000_0000_0000 ≡ number_of a = omega (arith, length_most) in
      let r : n % 0x100_0000_0000_0000 ≡ length_of a = omega (arith, length_most) in
      rw (q, r) e
