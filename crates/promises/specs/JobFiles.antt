-- The label job: which files are faulty, in document 01's words, and what a job answers.
use Rattle.std.specs.Prelude.{ℕ, ◌+◌, ◌-◌, ◌<◌, ◌≡◌, Bool, true, false, cond, ◌&&◌, ◌||◌, not, List, [], ◌∷◌, length, drop, leb, eqb}
use Rattle.std.proofs.Math.Path.{refl}
use Rattle.std.proofs.Common.{sym, ap, ◌∙◌, true≢false, arith, leb-true, leb-false}
use Rattle.std.proofs.lemmas.Bool.{eqb-false, not-true}
use Rattle.meaning.specs.Words.{word, eq_list, every}
use Rattle.meaning.specs.Subset.{refused}
use Rattle.meaning.specs.Job.{Part, ascii, job_limit, trailer, table_part, glyph_part, lookup_part, tag, runs_tag, ends_in, tagged, form_of, before, good_job, bytes_of, job}
use Rattle.laws.specs.Repeats.{list_same, same_list}
use Rattle.promises.specs.Numbers.{and_left, and_right}
use Rattle.promises.specs.Refusals.{Call, answer, refusals, first, answer_meets}

-- a part is not wholly before the trailer, which is the last 30 bytes; an empty one may start at it
abbrev pub Past : List ℕ → Part → Type 0
Past f p = length f - 30 < p.start + p.len

-- a faulty file: under 30 or over 65,536 bytes, a wrong tag, or a part not wholly before the trailer
pub data FaultyFile (f : List ℕ) : Type 0 where
  too_short : length f < 30 → FaultyFile f
  too_long : 65536 < length f → FaultyFile f
  wrong_tag : (drop (length f - 4) f ≡ ascii "LSJ1" → ⊥) → (drop (length f - 4) f ≡ ascii "LSJ2" → ⊥) → FaultyFile f
  table_past : Past f (table_part f) → FaultyFile f
  glyphs_past : Past f (glyph_part f) → FaultyFile f
  lookups_past : Past f (lookup_part f) → FaultyFile f

-- the call of a job: the kind that the trailer begins with, the form of the glyph map that the tag says, the plain layout, and the three parts
abbrev pub call_of : List ℕ → List ℕ → Call
call_of f out = record { kind = word f (length f - 30); form = form_of f; packing = 0; source = bytes_of f (table_part f); glyphs = bytes_of f (glyph_part f); lookups = bytes_of f (lookup_part f); buffer = out }

-- Lists compared byte by byte.

other_list : {a b : List ℕ} → a ≡ b → eq_list a b ≡ false → ⊥
other_list {a} {b} q e = true≢false (sym (same_list b) ∙ ap (λ (l : List ℕ). eq_list l b) (sym q) ∙ e)

-- What `good_job` tells.

-- where two tests do not both hold, the first fails, or it holds and the second fails
one_fails : {A : Type 0} (a b : Bool) → a && b ≡ false → (a ≡ false → A) → (b ≡ false → A) → A
one_fails true b h f s = s h
one_fails false b h f s = f refl

-- where neither of two tests holds, both fail; where one does, it is the first or the second
neither : (a b : Bool) → a || b ≡ false → (a ≡ false) × (b ≡ false)
neither true b h = absurd (true≢false h)
neither false b h = (refl, h)

one_holds : {A : Type 0} (a b : Bool) → a || b ≡ true → (a ≡ true → A) → (b ≡ true → A) → A
one_holds true b h f s = f refl
one_holds false b h f s = s h

bad_faulty : (f : List ℕ) → good_job f ≡ false → FaultyFile f
unfolding good_job job_limit ends_in tagged tag runs_tag before trailer
bad_faulty f h =
    one_fails (leb 30 (length f)) _ h (λ e. FaultyFile.too_short (leb-false 30 (length f) e)) (λ h₁.
    one_fails (leb (length f) 65536) _ h₁ (λ e. FaultyFile.too_long (leb-false (length f) 65536 e)) (λ h₂.
    one_fails (tagged f) _ h₂ (λ e. let n = neither (ends_in tag f) (ends_in runs_tag f) e in FaultyFile.wrong_tag (λ q. other_list q n.0) (λ q. other_list q n.1)) (λ h₃.
    one_fails (leb ((table_part f).start + (table_part f).len) (length f - 30)) _ h₃ (λ e. FaultyFile.table_past (leb-false ((table_part f).start + (table_part f).len) (length f - 30) e)) (λ h₄.
    one_fails (leb ((glyph_part f).start + (glyph_part f).len) (length f - 30)) _ h₄ (λ e. FaultyFile.glyphs_past (leb-false ((glyph_part f).start + (glyph_part f).len) (length f - 30) e)) (λ e.
    FaultyFile.lookups_past (leb-false ((lookup_part f).start + (lookup_part f).len) (length f - 30) e))))))

good_sound : (f : List ℕ) → good_job f ≡ true → FaultyFile f → ⊥
unfolding good_job job_limit ends_in tagged tag runs_tag before trailer
good_sound f h q = go q
  where
    h₁ : leb (length f) 65536 && (tagged f && (before f (table_part f) && (before f (glyph_part f) && before f (lookup_part f)))) ≡ true
    h₁ = and_right (leb 30 (length f)) _ h

    h₂ : tagged f && (before f (table_part f) && (before f (glyph_part f) && before f (lookup_part f))) ≡ true
    h₂ = and_right (leb (length f) 65536) _ h₁

    h₃ : before f (table_part f) && (before f (glyph_part f) && before f (lookup_part f)) ≡ true
    h₃ = and_right (tagged f) _ h₂

    inside : (p : Part) → before f p ≡ true → Past f p → ⊥
    inside p b k = let i = leb-true (p.start + p.len) (length f - 30) b in omega (arith, i, k)

    go : FaultyFile f → ⊥
    go (FaultyFile.too_short k) = let i = leb-true 30 (length f) (and_left (leb 30 (length f)) _ h) in omega (arith, i, k)
    go (FaultyFile.too_long k) = let i = leb-true (length f) 65536 (and_left (leb (length f) 65536) _ h₁) in omega (arith, i, k)
    go (FaultyFile.wrong_tag k l) = one_holds (ends_in tag f) (ends_in runs_tag f) (and_left (tagged f) _ h₂) (λ e. k (list_same (drop (length f - 4) f) (ascii "LSJ1") e)) (λ e. l (list_same (drop (length f - 4) f) (ascii "LSJ2") e))
    go (FaultyFile.table_past k) = inside (table_part f) (and_left (before f (table_part f)) _ h₃) k
    go (FaultyFile.glyphs_past k) = inside (glyph_part f) (and_left (before f (glyph_part f)) _ (and_right (before f (table_part f)) _ h₃)) k
    go (FaultyFile.lookups_past k) = inside (lookup_part f) (and_right (before f (glyph_part f)) _ (and_right (before f (table_part f)) _ h₃)) k

-- What a job answers.

-- no call answers 11
not_first : (rs : List (ℕ × Bool)) → every (λ r. not (eqb r.0 11)) rs ≡ true → first rs ≡ 11 → ⊥
unfolding every first
not_first [] h e = omega (arith, e)
not_first (r ∷ rs) h e = step r.1 (not_first rs (and_right (not (eqb r.0 11)) _ h)) e
  where
    step : (b : Bool) → (first rs ≡ 11 → ⊥) → cond b r.0 (first rs) ≡ 11 → ⊥
    step true k q = eqb-false r.0 11 (not-true (eqb r.0 11) (and_left (not (eqb r.0 11)) _ h)) q
    step false k q = k q

call_not_11 : (c : Call) → (answer c).number ≡ 11 → ⊥
unfolding every refusals
call_not_11 c e = not_first (refusals c) refl (sym (answer_meets c).number ∙ e)

module _ (f out : List ℕ) where
  job_is : job f out ≡ cond (not (good_job f)) (refused out 11) (answer (call_of f out))
  unfolding job
  job_is = refl

  -- a faulty file is answered with 11, length 0 and the buffer as it was, whatever else is wrong
  pub faulty_refused : FaultyFile f → job f out ≡ refused out 11
  faulty_refused q = step (good_job f) refl
    where
      step : (b : Bool) → good_job f ≡ b → job f out ≡ refused out 11
      step true h = absurd (good_sound f h q)
      step false h = job_is ∙ rw h

  -- any other by the call on its kind and parts
  pub sound_called : (FaultyFile f → ⊥) → job f out ≡ answer (call_of f out)
  sound_called n = step (good_job f) refl
    where
      step : (b : Bool) → good_job f ≡ b → job f out ≡ answer (call_of f out)
      step true h = job_is ∙ rw h
      step false h = absurd (n (bad_faulty f h))

  -- 11 is answered to faulty files only
  pub refused_faulty : (job f out).number ≡ 11 → FaultyFile f
  refused_faulty e = step (good_job f) refl
    where
      step : (b : Bool) → good_job f ≡ b → FaultyFile f
      step true h = absurd (call_not_11 (call_of f out) (rw (job_is, h) at e))
      step false h = bad_faulty f h
