-- A job file r behind other bytes p: its trailer and its tag read as in r alone, so that its test is one by the number of these bytes and by r.
use Rattle.std.specs.Prelude.{ℕ, ◌+◌, ◌-◌, ◌≤◌, ◌≡◌, Bool, ◌&&◌, List, ◌++◌, length, leb}
use Rattle.std.proofs.Common.{arith, length-append, get_or-append-add}
use Rattle.std.proofs.Math.Seq.{drop-append-add}
use Rattle.meaning.specs.Words.{word}
use Rattle.meaning.specs.Job.{Part, job_limit, long, trailer, part_at, table_part, glyph_part, lookup_part, tag, runs_tag, before, ends_in, tagged, good_job}

-- a word
word_behind : (p r : List ℕ) (i : ℕ) → word (p ++ r) (length p + i) ≡ word r i
unfolding word
word_behind p r i =
    let e : length p + i + 1 ≡ length p + (i + 1) = omega arith in
    rw (e, get_or-append-add p r i 0, get_or-append-add p r (i + 1) 0)

-- start and length of a part, at a place and in the trailer
part_behind : (p r : List ℕ) (i : ℕ) → part_at (p ++ r) (length p + i) ≡ part_at r i
unfolding long part_at
part_behind p r i =
    let a : length p + i + 2 ≡ length p + (i + 2) = omega arith in
    let b : length p + i + 4 ≡ length p + (i + 4) = omega arith in
    let c : length p + (i + 4) + 2 ≡ length p + (i + 4 + 2) = omega arith in
    rw (a, b, c, word_behind p r i, word_behind p r (i + 2), word_behind p r (i + 4), word_behind p r (i + 4 + 2))

trailer_behind : (p r : List ℕ) (i : ℕ) → 30 ≤ length r → part_at (p ++ r) (trailer (p ++ r) + i) ≡ part_at r (trailer r + i)
unfolding trailer
trailer_behind p r i h =
    let e : length (p ++ r) - 30 + i ≡ length p + (length r - 30 + i) = omega (arith, length-append p r) in
    rw e (part_behind p r (length r - 30 + i))

-- the tag
tag_behind : (t p r : List ℕ) → 4 ≤ length r → ends_in t (p ++ r) ≡ ends_in t r
unfolding ends_in
tag_behind t p r h =
    let e : length (p ++ r) - 4 ≡ length p + (length r - 4) = omega (arith, length-append p r) in
    rw (e, drop-append-add p r (length r - 4))

-- a part lies wholly before the trailer of r behind n bytes
unfoldable pub before_behind : ℕ → List ℕ → Part → Bool
before_behind n r q = leb (q.start + q.len) (n + (length r - 30))

before_behind_lem : (p r : List ℕ) (q : Part) → 30 ≤ length r → before (p ++ r) q ≡ before_behind (length p) r q
unfolding trailer before before_behind
before_behind_lem p r q h =
    let e : length (p ++ r) - 30 ≡ length p + (length r - 30) = omega (arith, length-append p r) in
    rw e

-- the test of the whole file, r behind n bytes
unfoldable pub good_behind : ℕ → List ℕ → Bool
good_behind n r =
    leb 30 (n + length r) && (leb (n + length r) job_limit && (tagged r && (before_behind n r (table_part r) && (before_behind n r (glyph_part r) && before_behind n r (lookup_part r)))))

pub good_behind_lem : (p r : List ℕ) → 30 ≤ length r → good_job (p ++ r) ≡ good_behind (length p) r
unfolding table_part glyph_part lookup_part tagged good_job good_behind
good_behind_lem p r h =
    let four : 4 ≤ length r = omega arith in
    rw (length-append p r, tag_behind tag p r four, tag_behind runs_tag p r four, trailer_behind p r 2 h, trailer_behind p r 10 h, trailer_behind p r 18 h, before_behind_lem p r (part_at r (trailer r + 2)) h, before_behind_lem p r (part_at r (trailer r + 10)) h, before_behind_lem p r (part_at r (trailer r + 18)) h)
