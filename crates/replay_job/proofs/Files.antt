-- What a replay file's trailer says of its parts, the ways through its check, and its replay.
use Prim.Native.Nat.{ℕ, ◌+◌, ◌-◌, ◌≤◌, ◌<◌}
use mathlib.Core.Path.{◌≡◌, ap, ◌∙◌}
use mathlib.Core.Bool.{Bool, true, false}
use mathlib.Core.List.{List}
use native.Mathlib.Omega.{arith}
use lib.ListN.{length}
use lib.Dec.{leb, eqb}
use borrow.Author.Tests.{le-leb, lt-leb, leb-true, eq-eqb, ne_eqb}
use Rattle.meaning.specs.Job.{long, part_at, bytes_of}
use Rattle.laws.specs.Runs.{both}
use Rattle.replaying.specs.Replay.{Replayed, refusing, replay}
use Rattle.replaying.specs.Cost.{replay_cost}
use Rattle.file_parts.specs.Parts.{ends_by, ends_later}
use Rattle.replay_job.specs.ReplayFile.{file_limit, trailer, list_part, buffer_part, trace_part, tag, before, good_file, replay_file, asks_cost, file_steps}

-- What makes a file a replay file.
pub record File (f : List ℕ) : Type 0 where
  pub long_enough : 28 ≤ length f
  pub short : length f ≤ 500000
  pub list : ends_by (part_at f (length f - 28)) (length f) ≡ true
  pub buffer : ends_by (part_at f (length f - 28 + 8)) (length f) ≡ true
  pub trace : ends_by (part_at f (length f - 28 + 16)) (length f) ≡ true

-- a good file is one
pub is_file : (f : List ℕ) → good_file f ≡ true → File f
unfolding good_file file_limit before list_part buffer_part trace_part trailer
is_file f h =
    let a = both (leb 28 (length f)) _ h in
    let b = both (leb (length f) 500000) _ a.1 in
    let c = both (eqb (long f (length f - 28 + 24)) tag) _ b.1 in
    let d = both (before f (list_part f)) _ c.1 in
    let e = both (before f (buffer_part f)) (before f (trace_part f)) d.1 in
    record {
      long_enough = leb-true 28 (length f) a.0;
      short = leb-true (length f) 500000 b.0;
      list = ends_later (list_part f) (omega arith) d.0;
      buffer = ends_later (buffer_part f) (omega arith) e.0;
      trace = ends_later (trace_part f) (omega arith) e.1;
    }

-- Each way through the check of a file, where the tests before it are passed.
module _ (f : List ℕ) where
  pub too_short : length f < 28 → false ≡ good_file f
  unfolding good_file
  too_short a = rw (lt-leb 28 (length f) a)

  module _ (a : 28 ≤ length f) where
    pub too_long : 500000 < length f → false ≡ good_file f
    unfolding good_file file_limit
    too_long b = rw (le-leb 28 (length f) a, lt-leb (length f) 500000 b)

    module _ (b : length f ≤ 500000) {t : ℕ} (g : t ≡ long f (length f - 28 + 24)) where
      pub no_tag : (t ≡ 0x4C53_5231 → ⊥) → false ≡ good_file f
      unfolding good_file file_limit trailer tag
      no_tag c = rw (le-leb 28 (length f) a, le-leb (length f) 500000 b, ← g, ne_eqb t 0x4C53_5231 c)

      module _ (c : t ≡ 0x4C53_5231) where
        pub no_list : ends_by (part_at f (length f - 28)) (length f - 28) ≡ false → false ≡ good_file f
        unfolding good_file file_limit trailer before tag list_part
        no_list d = rw (le-leb 28 (length f) a, le-leb (length f) 500000 b, ← g, eq-eqb t 0x4C53_5231 c, d)

        module _ (d : ends_by (part_at f (length f - 28)) (length f - 28) ≡ true) where
          pub no_buffer : ends_by (part_at f (length f - 28 + 8)) (length f - 28) ≡ false → false ≡ good_file f
          unfolding good_file file_limit trailer before tag list_part buffer_part
          no_buffer e = rw (le-leb 28 (length f) a, le-leb (length f) 500000 b, ← g, eq-eqb t 0x4C53_5231 c, d, e)

          pub all_but_trace : ends_by (part_at f (length f - 28 + 8)) (length f - 28) ≡ true → {r : Bool} → r ≡ ends_by (part_at f (length f - 28 + 16)) (length f - 28) → r ≡ good_file f
          unfolding good_file file_limit trailer before tag list_part buffer_part trace_part
          all_but_trace e k = rw (le-leb 28 (length f) a, le-leb (length f) 500000 b, ← g, eq-eqb t 0x4C53_5231 c, d, e) k

  -- The replay of a file that is faulty, and of one that is not.
  pub replay_faulty : good_file f ≡ false → {r : Replayed} → r ≡ refusing (11, 0) → r ≡ replay_file f
  unfolding replay_file
  replay_faulty h e = rw h e

  pub replay_whole : good_file f ≡ true → {list buffer trace : List ℕ} {r : Replayed} → list ≡ bytes_of f (part_at f (length f - 28)) → buffer ≡ bytes_of f (part_at f (length f - 28 + 8))
      → trace ≡ bytes_of f (part_at f (length f - 28 + 16)) → r ≡ replay list buffer trace → r ≡ replay_file f
  unfolding replay_file list_part buffer_part trace_part trailer
  replay_whole h a b c e = rw (h, ← a, ← b, ← c) e

  -- Whether it asks for the cost, and the steps.
  pub cost_faulty : good_file f ≡ false → false ≡ asks_cost f
  unfolding asks_cost
  cost_faulty h = rw h

  pub cost_asked : good_file f ≡ true → {n : ℕ} → n ≡ long f (length f - 28 + 20) → eqb n 0 ≡ asks_cost f
  unfolding asks_cost trace_part trailer part_at
  cost_asked h {n} e =
      let d : length f - 28 + 16 + 4 ≡ length f - 28 + 20 = omega arith in
      rw (h, d, ← e)

  pub asked_good : asks_cost f ≡ true → good_file f ≡ true
  unfolding asks_cost
  asked_good h = (both (good_file f) _ h).0

  pub steps_told : {list buffer : List ℕ} {n : ℕ} → list ≡ bytes_of f (part_at f (length f - 28)) → buffer ≡ bytes_of f (part_at f (length f - 28 + 8)) → n ≡ (replay_cost list buffer).steps → n ≡ file_steps f
  unfolding file_steps list_part buffer_part trailer
  steps_told {list} {buffer} a b e =
      e ∙ ap (λ (l : List ℕ). (replay_cost l buffer).steps) a ∙ ap (λ (l : List ℕ). (replay_cost (bytes_of f (part_at f (length f - 28))) l).steps) b
