-- From the answer of a job to what is printed of it.
use Prim.Native.Nat.{ℕ, ◌-◌, ◌≤◌}
use mathlib.Core.Path.{◌≡◌, refl, sym, ap, ◌∙◌}
use mathlib.Core.Bool.{Bool, true, false}
use mathlib.Core.List.{List, ◌++◌}
use Rattle.std.specs.Prelude.{Result}
use native.Mathlib.Omega.{arith}
use lib.ListN.{length, take, drop, replicate, length-replicate}
use lib.Seq.{sets, take_at, drop_at, length-sets, length-take-le}
use Rattle.meaning.specs.Words.{word}
use Rattle.meaning.specs.Subset.{Outcome, limit}
use Rattle.meaning.specs.Job.{table_part, glyph_part, lookup_part, form_of, good_job, bytes_of, job, printed, room, program}
use Rattle.meaning.specs.Jobs.{lends}
use Rattle.laws.specs.Written.{sets_front}
use Rattle.promises.specs.Refusals.{Call}
use Rattle.promises.specs.Promises.{kept_is_small}
use Rattle.job.proofs.Runs.{job_faulty, job_runs}
use Rattle.refusals.specs.Answers.{number_of, length_of, outcome}
use Rattle.refusals.specs.declared.Refusal.{Refusal}
use Rattle.report_lines.specs.Text.{Put, Printable}
use Rattle.report_lines.specs.Lengths.{text_room, printed_length}
use Rattle.label_job.specs.Answered.{Answered}

module _ (f out : List ℕ) where
  -- the call of a job
  call_of : Call
  call_of = record { kind = word f (length f - 30); form = form_of f; packing = 0; source = bytes_of f (table_part f); glyphs = bytes_of f (glyph_part f); lookups = bytes_of f (lookup_part f); buffer = out }

  -- what a job keeps lies in the buffer
  within : (b : Bool) → good_job f ≡ b → (job f out).number ≡ 0 → (job f out).len ≤ length out
  unfolding call_of
  within true h = rw (← (job_runs f out h refl refl refl refl refl refl)) (λ z. (kept_is_small call_of z).2)
  within false h = rw (← (job_faulty f out h)) (λ z. absurd (omega arith))

-- what is printed of the job on zeros is what the program prints
program_is : (f lent : List ℕ) → lent ≡ replicate room 0 → printed (job f lent) ≡ program f
unfolding program room limit
program_is f lent e = ap (λ (l : List ℕ). printed (job f l)) e

module _ (f : List ℕ) (a : Result ℕ Refusal) {lent result : List ℕ} {n len : ℕ} (zeros : lent ≡ replicate room 0) (number : n ≡ number_of a) (long : len ≡ length_of a) (ran : outcome a result ≡ job f lent) (full : length result ≡ 262144) where
  -- the number, the length and the buffer are those of the job
  same : record { number = n; len = len; out = result } ≡ job f lent
  same = rw (number, long) ran

  -- they can be printed
  pub printable : Printable n len result
  printable = record {
    small = omega arith;
    within = λ z. omega (arith, within f lent (good_job f) refl (sym (ap (λ (o : Outcome). o.number) same) ∙ z), ap (λ (o : Outcome). o.len) same, ap length zeros, length-replicate {A = ℕ} room 0, lends);
  }

  -- and what is printed of them is what the program prints
  pub answered : {text after : List ℕ} {r : ℕ} → text_room ≤ length text → Put text 0 (printed (record { number = n; len = len; out = result })) after r → Answered f text after r
  answered {text} {after} {r} roomy k =
      let p : printed (record { number = n; len = len; out = result }) ≡ program f = ap printed same ∙ program_is f lent zeros in
      let t : length (program f) ≤ length text = omega (arith, ap length p, printed_length (record { number = n; len = len; out = result }) (omega arith)) in
      let e : length (program f) ≡ r = omega (arith, k.place, ap length p) in
      let w : after ≡ program f ++ drop (length (program f)) text = k.stand ∙ ap (sets text 0) p ∙ sets_front text (program f) t in
      record {
        within = omega (arith, ap length k.stand, length-sets text 0 (printed (record { number = n; len = len; out = result })));
        said = ap (take r) w ∙ take_at (program f) (drop (length (program f)) text) r e;
        rest = ap (drop r) w ∙ drop_at (program f) (drop (length (program f)) text) r e ∙ ap (λ (m : ℕ). drop m text) e;
      }

-- what is printed is a part of the text
pub answered_part : {f before after : List ℕ} {r : ℕ} → Answered f before after r → r ≡ length (take r after)
answered_part {after = after} {r} k = sym (length-take-le r after k.within)
