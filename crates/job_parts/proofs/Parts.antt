-- What a job file's trailer says of its parts, and the ways through its check.
use Prim.Native.Nat.{ℕ, ◌+◌, ◌-◌, ◌*◌, ◌≤◌, ◌<◌}
use mathlib.Core.Path.{◌≡◌, ◌∙◌}
use mathlib.Core.Bool.{Bool, true, false}
use mathlib.Core.List.{List}
use native.Mathlib.Omega.{arith}
use lib.ListN.{length, take, drop}
use lib.Dec.{leb}
use borrow.Author.Tests.{le-leb, lt-leb, leb-true}
use Rattle.meaning.specs.Words.{word}
use Rattle.meaning.specs.Job.{job_limit, long, trailer, part_at, table_part, glyph_part, lookup_part, before, tagged, good_job, bytes_of}
use Rattle.laws.specs.Runs.{both}

-- x is the number of four bytes
abbrev pub Long : List ℕ → ℕ → ℕ → Type 0
Long f at x = (x ≡ long f at) × (x < 0x1_0000_0000)

pub is_long : (f : List ℕ) (at : ℕ) {x y : ℕ} → (x ≡ word f at) × (x < 65536) → (y ≡ word f (at + 2)) × (y < 65536) → Long f at (x * 65536 + y)
unfolding long
is_long f at e h = (rw (e.0, h.0), omega arith)

module _ (f : List ℕ) (at : ℕ) {start len : ℕ} (s : Long f at start) (l : Long f (at + 4) len) where
  -- the test of a part
  pub before_says : leb (start + len) (length f - 30) ≡ before f (part_at f at)
  unfolding before part_at trailer
  before_says = rw (s.0, l.0)

  -- a part that lies before the trailer lies in the file
  pub part_ends : before f (part_at f at) ≡ true → start + len ≤ length f
  part_ends h = omega (arith, leb-true (start + len) (length f - 30) (before_says ∙ h))

  -- its bytes
  pub part_bytes : take (start + len - start) (drop start f) ≡ bytes_of f (part_at f at)
  unfolding bytes_of part_at
  part_bytes =
      let n : start + len - start ≡ len = omega arith in
      rw (n, s.0, l.0)

-- What makes a file a job.
pub record Job (f : List ℕ) : Type 0 where
  pub long_enough : 30 ≤ length f
  pub short : length f ≤ 65536
  pub table : before f (part_at f (length f - 30 + 2)) ≡ true
  pub glyphs : before f (part_at f (length f - 30 + 10)) ≡ true
  pub lookups : before f (part_at f (length f - 30 + 18)) ≡ true

-- a good job is one
pub is_job : (f : List ℕ) → good_job f ≡ true → Job f
unfolding good_job job_limit table_part glyph_part lookup_part trailer
is_job f h =
    let a = both (leb 30 (length f)) _ h in
    let b = both (leb (length f) 65536) _ a.1 in
    let c = both (tagged f) _ b.1 in
    let d = both (before f (table_part f)) _ c.1 in
    let e = both (before f (glyph_part f)) (before f (lookup_part f)) d.1 in
    record { long_enough = leb-true 30 (length f) a.0; short = leb-true (length f) 65536 b.0; table = d.0; glyphs = e.0; lookups = e.1 }

-- Each way through the check of a file, where the tests before it are passed.
module _ (f : List ℕ) where
  pub too_short : length f < 30 → false ≡ good_job f
  unfolding good_job
  too_short a = rw (lt-leb 30 (length f) a)

  module _ (a : 30 ≤ length f) where
    pub too_long : 65536 < length f → false ≡ good_job f
    unfolding good_job job_limit
    too_long b = rw (le-leb 30 (length f) a, lt-leb (length f) 65536 b)

    module _ (b : length f ≤ 65536) where
      pub no_tag : tagged f ≡ false → false ≡ good_job f
      unfolding good_job job_limit
      no_tag c = rw (le-leb 30 (length f) a, le-leb (length f) 65536 b, c)

      module _ (c : tagged f ≡ true) where
        pub no_table : before f (part_at f (length f - 30 + 2)) ≡ false → false ≡ good_job f
        unfolding good_job job_limit table_part trailer
        no_table d = rw (le-leb 30 (length f) a, le-leb (length f) 65536 b, c, d)

        module _ (d : before f (part_at f (length f - 30 + 2)) ≡ true) where
          pub no_glyphs : before f (part_at f (length f - 30 + 10)) ≡ false → false ≡ good_job f
          unfolding good_job job_limit table_part glyph_part trailer
          no_glyphs e = rw (le-leb 30 (length f) a, le-leb (length f) 65536 b, c, d, e)

          pub all_but_lookups : before f (part_at f (length f - 30 + 10)) ≡ true → {r : Bool} → r ≡ before f (part_at f (length f - 30 + 18)) → r ≡ good_job f
          unfolding good_job job_limit table_part glyph_part lookup_part trailer
          all_but_lookups e g = rw (le-leb 30 (length f) a, le-leb (length f) 65536 b, c, d, e) g
