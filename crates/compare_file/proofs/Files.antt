-- What a compare file's trailer says of its parts, and the ways through its check.
use Prim.Native.Nat.{ℕ, ◌+◌, ◌-◌, ◌≤◌, ◌<◌}
use mathlib.Core.Path.{◌≡◌}
use mathlib.Core.Bool.{Bool, true, false}
use mathlib.Core.List.{List}
use native.Mathlib.Omega.{arith}
use lib.ListN.{length}
use lib.Dec.{leb, eqb}
use borrow.Author.Tests.{le-leb, lt-leb, leb-true, eq-eqb, ne_eqb}
use Rattle.meaning.specs.Words.{word}
use Rattle.meaning.specs.Job.{long, part_at, bytes_of}
use Rattle.laws.specs.Runs.{both}
use Rattle.file_parts.specs.Parts.{ends_by, ends_later}
use Rattle.compare_file.specs.CompareFile.{file_limit, trailer, kind_in, left_part, right_part, tag, before, good_file}

-- What makes a file a compare file.
pub record File (f : List ℕ) : Type 0 where
  pub long_enough : 22 ≤ length f
  pub short : length f ≤ 600000
  pub left : ends_by (part_at f (length f - 22 + 2)) (length f) ≡ true
  pub right : ends_by (part_at f (length f - 22 + 10)) (length f) ≡ true

-- a good file is one
pub is_file : (f : List ℕ) → good_file f ≡ true → File f
unfolding good_file file_limit before left_part right_part trailer
is_file f h =
    let a = both (leb 22 (length f)) _ h in
    let b = both (leb (length f) 600000) _ a.1 in
    let c = both (eqb (long f (length f - 22 + 18)) tag) _ b.1 in
    let d = both (before f (left_part f)) (before f (right_part f)) c.1 in
    record {
      long_enough = leb-true 22 (length f) a.0;
      short = leb-true (length f) 600000 b.0;
      left = ends_later (left_part f) (omega arith) d.0;
      right = ends_later (right_part f) (omega arith) d.1;
    }

-- its kind and its parts
pub kind_is : (f : List ℕ) {k : ℕ} → (k ≡ word f (length f - 22)) × (k < 65536) → (k ≡ kind_in f) × (k < 65536)
unfolding kind_in trailer
kind_is f h = h

pub left_is : (f : List ℕ) {s : List ℕ} → s ≡ bytes_of f (part_at f (length f - 22 + 2)) → s ≡ bytes_of f (left_part f)
unfolding left_part trailer
left_is f h = h

pub right_is : (f : List ℕ) {s : List ℕ} → s ≡ bytes_of f (part_at f (length f - 22 + 10)) → s ≡ bytes_of f (right_part f)
unfolding right_part trailer
right_is f h = h

-- Each way through the check of a file, where the tests before it are passed.
module _ (f : List ℕ) where
  pub too_short : length f < 22 → false ≡ good_file f
  unfolding good_file
  too_short a = rw (lt-leb 22 (length f) a)

  module _ (a : 22 ≤ length f) where
    pub too_long : 600000 < length f → false ≡ good_file f
    unfolding good_file file_limit
    too_long b = rw (le-leb 22 (length f) a, lt-leb (length f) 600000 b)

    module _ (b : length f ≤ 600000) {t : ℕ} (g : t ≡ long f (length f - 22 + 18)) where
      pub no_tag : (t ≡ 0x4C53_4331 → ⊥) → false ≡ good_file f
      unfolding good_file file_limit trailer tag
      no_tag c = rw (le-leb 22 (length f) a, le-leb (length f) 600000 b, ← g, ne_eqb t 0x4C53_4331 c)

      module _ (c : t ≡ 0x4C53_4331) where
        pub no_left : ends_by (part_at f (length f - 22 + 2)) (length f - 22) ≡ false → false ≡ good_file f
        unfolding good_file file_limit trailer before tag left_part
        no_left d = rw (le-leb 22 (length f) a, le-leb (length f) 600000 b, ← g, eq-eqb t 0x4C53_4331 c, d)

        pub all_but_right : ends_by (part_at f (length f - 22 + 2)) (length f - 22) ≡ true → {r : Bool} → r ≡ ends_by (part_at f (length f - 22 + 10)) (length f - 22) → r ≡ good_file f
        unfolding good_file file_limit trailer before tag left_part right_part
        all_but_right d k = rw (le-leb 22 (length f) a, le-leb (length f) 600000 b, ← g, eq-eqb t 0x4C53_4331 c, d) k
