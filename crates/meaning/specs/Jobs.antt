-- Jobs of the program with what it prints: one table, one statement over all its rows, by computation.
use Rattle.std.specs.Prelude.{ℕ, ◌≡◌, refl, List, [], ◌∷◌, ◌++◌, map, replicate}
use Prim.Native.String.{String}
use Rattle.meaning.specs.Words.{flat}
use Rattle.meaning.specs.Subset.{limit}
use Rattle.meaning.specs.Job.{ascii, job, printed, room}

-- a job file, and what the program prints for it
pub record JobRow : Type 0 where
  pub file : List ℕ
  pub prints : String

-- the maps of document 01's case: glyphs 3 → 1, 5 → 2, 9 → 3, lookups 4 → 0, 7 → 2
abbrev maps₁ : List ℕ
maps₁ = 3 ∷ 1 ∷ 5 ∷ 2 ∷ 9 ∷ 3 ∷ 4 ∷ 0 ∷ 7 ∷ 2 ∷ []

-- the four bytes `LSJ1`, as words
abbrev pub lsj1 : List ℕ
lsj1 = 0x4C53 ∷ 0x4A31 ∷ []

-- the four bytes `LSJ2`, as words
abbrev lsj2 : List ℕ
lsj2 = 0x4C53 ∷ 0x4A32 ∷ []

-- a context of format 3 without coverages, 6 bytes long
abbrev pub bare : List ℕ
bare = 3 ∷ 0 ∷ 0 ∷ []

-- the jobs
unfoldable pub jobs : List JobRow
jobs =
    -- P1, its table first, then its maps: 56, 12 and 8 bytes
    record {
      file = flat ((0x0001 ∷ 0x0030 ∷ 0x0002 ∷ 0x000A ∷ 0x0024 ∷ 0x0002 ∷ 0x0006 ∷ 0x0010 ∷ 0x0002 ∷ 0x0001 ∷ 0x0009 ∷ 0x0000 ∷ 0x0007 ∷ 0x0002 ∷ 0x0001 ∷ 0x0006 ∷ 0x0000 ∷ 0x0004 ∷ 0x0001 ∷ 0x0004 ∷ 0x0001 ∷ 0x0001 ∷ 0x0000 ∷ 0x0005 ∷ 0x0001 ∷ 0x0002 ∷ 0x0003 ∷ 0x0005 ∷ []) ++ (maps₁ ++ ((1 ∷ 0 ∷ 0 ∷ 0 ∷ 56 ∷ 0 ∷ 56 ∷ 0 ∷ 12 ∷ 0 ∷ 68 ∷ 0 ∷ 8 ∷ []) ++ lsj1)));
      prints = "kept 40\n000100200002000a0018000100040002\n00010003000000020001000400010000\n0001000200010002\n";
    }
    -- P1 with its glyph map as runs of one, 18 bytes: the same bytes
    ∷ record {
      file = flat ((0x0001 ∷ 0x0030 ∷ 0x0002 ∷ 0x000A ∷ 0x0024 ∷ 0x0002 ∷ 0x0006 ∷ 0x0010 ∷ 0x0002 ∷ 0x0001 ∷ 0x0009 ∷ 0x0000 ∷ 0x0007 ∷ 0x0002 ∷ 0x0001 ∷ 0x0006 ∷ 0x0000 ∷ 0x0004 ∷ 0x0001 ∷ 0x0004 ∷ 0x0001 ∷ 0x0001 ∷ 0x0000 ∷ 0x0005 ∷ 0x0001 ∷ 0x0002 ∷ 0x0003 ∷ 0x0005 ∷ []) ++ ((3 ∷ 1 ∷ 1 ∷ 5 ∷ 2 ∷ 1 ∷ 9 ∷ 3 ∷ 1 ∷ 4 ∷ 0 ∷ 7 ∷ 2 ∷ []) ++ ((1 ∷ 0 ∷ 0 ∷ 0 ∷ 56 ∷ 0 ∷ 56 ∷ 0 ∷ 18 ∷ 0 ∷ 74 ∷ 0 ∷ 8 ∷ []) ++ lsj2)));
      prints = "kept 40\n000100200002000a0018000100040002\n00010003000000020001000400010000\n0001000200010002\n";
    }
    -- the lookup map keeps four bytes an entry, and the glyph map of P1 as pairs is no map of runs: its second run starts below the end of its first
    ∷ record { file = flat (bare ++ ((3 ∷ 1 ∷ 5 ∷ 2 ∷ 9 ∷ 3 ∷ []) ++ ((1 ∷ 0 ∷ 0 ∷ 0 ∷ 6 ∷ 0 ∷ 6 ∷ 0 ∷ 12 ∷ 0 ∷ 18 ∷ 0 ∷ 0 ∷ []) ++ lsj2))); prints = "refused 2\n" }
    -- an empty part may start at the trailer
    ∷ record { file = flat (bare ++ ((1 ∷ 0 ∷ 0 ∷ 0 ∷ 6 ∷ 0 ∷ 6 ∷ 0 ∷ 0 ∷ 0 ∷ 6 ∷ 0 ∷ 0 ∷ []) ++ lsj1)); prints = "kept 6\n000300000000\n" }
    -- not past it
    ∷ record { file = flat (bare ++ ((1 ∷ 0 ∷ 0 ∷ 0 ∷ 6 ∷ 0 ∷ 7 ∷ 0 ∷ 0 ∷ 0 ∷ 6 ∷ 0 ∷ 0 ∷ []) ++ lsj1)); prints = "refused 11\n" }
    -- start and length are not added modulo 2³²
    ∷ record { file = flat (bare ++ ((1 ∷ 0 ∷ 0 ∷ 0 ∷ 6 ∷ 0xFFFF ∷ 0xFFFF ∷ 0 ∷ 1 ∷ 0 ∷ 6 ∷ 0 ∷ 0 ∷ []) ++ lsj1)); prints = "refused 11\n" }
    -- no part may reach into the trailer
    ∷ record { file = flat (bare ++ ((1 ∷ 0 ∷ 0 ∷ 0 ∷ 7 ∷ 0 ∷ 6 ∷ 0 ∷ 0 ∷ 0 ∷ 6 ∷ 0 ∷ 0 ∷ []) ++ lsj1)); prints = "refused 11\n" }
    -- the lookup map too, and starts have four bytes: 65,542 is not 6
    ∷ record { file = flat (bare ++ ((1 ∷ 0 ∷ 0 ∷ 0 ∷ 6 ∷ 0 ∷ 6 ∷ 0 ∷ 0 ∷ 0 ∷ 5 ∷ 0 ∷ 4 ∷ []) ++ lsj1)); prints = "refused 11\n" }
    ∷ record { file = flat (bare ++ ((1 ∷ 0 ∷ 0 ∷ 0 ∷ 6 ∷ 1 ∷ 6 ∷ 0 ∷ 0 ∷ 0 ∷ 6 ∷ 0 ∷ 0 ∷ []) ++ lsj1)); prints = "refused 11\n" }
    -- 11 is answered before a kind that there is not; a wrong tag, and a file of 29 bytes
    ∷ record { file = flat (bare ++ ((9 ∷ 0 ∷ 0 ∷ 0 ∷ 6 ∷ 0 ∷ 6 ∷ 0 ∷ 0 ∷ 0 ∷ 6 ∷ 0 ∷ 0 ∷ []) ++ lsj1)); prints = "refused 1\n" }
    ∷ record { file = flat (bare ++ ((9 ∷ 0 ∷ 0 ∷ 0 ∷ 6 ∷ 0 ∷ 6 ∷ 0 ∷ 0 ∷ 0 ∷ 6 ∷ 0 ∷ 0 ∷ []) ++ (0x4C53 ∷ 0x4A33 ∷ []))); prints = "refused 11\n" }
    ∷ record { file = 0 ∷ flat (0 ∷ 0 ∷ 0 ∷ 0 ∷ 0 ∷ 0 ∷ 0 ∷ 0 ∷ 0 ∷ 0 ∷ 0 ∷ 0 ∷ lsj1); prints = "refused 11\n" }
    -- each byte of the tag counts, the first too
    ∷ record { file = flat (bare ++ ((1 ∷ 0 ∷ 0 ∷ 0 ∷ 6 ∷ 0 ∷ 6 ∷ 0 ∷ 0 ∷ 0 ∷ 6 ∷ 0 ∷ 0 ∷ []) ++ (0x6C53 ∷ 0x4A31 ∷ []))); prints = "refused 11\n" }
    -- after a full line of 16 bytes there is no empty one: a context of format 3 with a coverage of 5 and 7, and the glyph map 5 → 10, 7 → 12
    ∷ record { file = flat ((3 ∷ 1 ∷ 0 ∷ 8 ∷ 1 ∷ 2 ∷ 5 ∷ 7 ∷ []) ++ ((5 ∷ 10 ∷ 7 ∷ 12 ∷ []) ++ ((1 ∷ 0 ∷ 0 ∷ 0 ∷ 16 ∷ 0 ∷ 16 ∷ 0 ∷ 8 ∷ 0 ∷ 24 ∷ 0 ∷ 0 ∷ []) ++ lsj1))); prints = "kept 16\n000300010000000800010002000a000c\n" }
    -- jobs keep the plain layout: two equal pair sets are both written
    ∷ record { file = flat ((1 ∷ 22 ∷ 3 ∷ 0 ∷ 2 ∷ 14 ∷ 14 ∷ 1 ∷ 2 ∷ 10 ∷ 20 ∷ 1 ∷ 2 ∷ 10 ∷ 20 ∷ []) ++ ((2 ∷ 2 ∷ 10 ∷ 10 ∷ 20 ∷ 20 ∷ []) ++ ((4 ∷ 0 ∷ 0 ∷ 0 ∷ 30 ∷ 0 ∷ 30 ∷ 0 ∷ 12 ∷ 0 ∷ 42 ∷ 0 ∷ 0 ∷ []) ++ lsj1))); prints = "kept 38\n0001001e000300000002000e00160001\n0002000a001400010002000a00140001\n0002000a0014\n" }
    -- a trailer alone: the three parts are empty, and an empty source is malformed
    ∷ record { file = flat ((1 ∷ 0 ∷ 0 ∷ 0 ∷ 0 ∷ 0 ∷ 0 ∷ 0 ∷ 0 ∷ 0 ∷ 0 ∷ 0 ∷ 0 ∷ []) ++ lsj1); prints = "refused 6\n" }
    ∷ []

-- each job prints what its row states, here with 64 bytes lent; the crate `limits` has the same of the program, with all that it lends
pub each_job : map (λ r. printed (job r.file (replicate 64 0))) jobs ≡ map (λ r. ascii r.prints) jobs
unfolding job printed ascii jobs
each_job = refl

-- the program lends 262,144 bytes, so that a layout longer than its job has room
pub lends : room ≡ 262144
unfolding room limit
lends = refl
