-- The ways through a job: a faulty file, and the call on the file's kind and parts.
use Prim.Native.Nat.{ℕ, ◌-◌}
use mathlib.Core.Path.{◌≡◌, refl}
use mathlib.Core.Bool.{true, false, cond, not}
use mathlib.Core.List.{List}
use lib.ListN.{length}
use Rattle.meaning.specs.Words.{word}
use Rattle.meaning.specs.Subset.{Outcome, refused, subset}
use Rattle.meaning.specs.Job.{trailer, table_part, glyph_part, lookup_part, form_of, good_job, bytes_of, job}

module _ (f out : List ℕ) where
  -- the job, as it is written
  job_is : job f out ≡ cond (not (good_job f)) (refused out 11) (subset (word f (trailer f)) (form_of f) 0 (bytes_of f (table_part f)) (bytes_of f (glyph_part f)) (bytes_of f (lookup_part f)) out)
  unfolding job
  job_is = refl

  pub job_faulty : good_job f ≡ false → refused out 11 ≡ job f out
  job_faulty h = rw (job_is, h)

  pub job_runs : {kind form : ℕ} {table glyphs lookups : List ℕ} {r : Outcome} → good_job f ≡ true → kind ≡ word f (length f - 30) → form ≡ form_of f
      → table ≡ bytes_of f (table_part f) → glyphs ≡ bytes_of f (glyph_part f) → lookups ≡ bytes_of f (lookup_part f) → r ≡ subset kind form 0 table glyphs lookups out → r ≡ job f out
  unfolding trailer
  job_runs h k m t g l e = rw (job_is, h, ← k, ← m, ← t, ← g, ← l) e
