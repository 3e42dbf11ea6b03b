-- Jobs with more bytes lent: the program prints the same, but for `refused 10`.
use Rattle.std.specs.Prelude.{ℕ, ◌+◌, ◌≡◌, refl, Bool, true, false, cond, ◌&&◌, ◌||◌, not, length, drop, replicate, ltb, eqb, Option, None, Some}
use Rattle.std.proofs.Common.{arith, sym, ◌∙◌, true≢false, length-append, ltb-false, le-ltb}
use mathlib.Core.List.{List, [], ◌∷◌, ◌++◌, map, head-eq_of_cons-eq, tail-eq_of_cons-eq}
use Rattle.std.proofs.lemmas.List.{replicate-append-replicate}
use Rattle.std.proofs.Math.Seq.{take-append_seam}
use Rattle.std.proofs.lemmas.Bool.{not-true}
use Rattle.meaning.specs.Words.{word, inside, eq_list, is_some, every, flat}
use Rattle.meaning.specs.Maps.{good_form, good_glyph_map, good_lookups, glyph_entries, map_entries}
use Rattle.meaning.specs.Tables.{Table, table}
use Rattle.meaning.specs.Fault.{fault}
use Rattle.meaning.specs.Records.{records_within}
use Rattle.meaning.specs.Cut.{cut}
use Rattle.meaning.specs.Subset.{Outcome, refused, place, limit, good_kind, has_format, has_device, too_big, laid_into, good_packing, words_in, written_in, subset}
use Rattle.meaning.specs.Job.{ascii, trailer, table_part, glyph_part, lookup_part, bytes_of, form_of, good_job, job, printed}
use Rattle.meaning.specs.Jobs.{JobRow, jobs, each_job as each-with-64}
use Rattle.laws.specs.Runs.{both}

-- `refused 10`, which is printed where the lent bytes are too few
abbrev too_few : List ℕ
too_few = 114 ∷ 101 ∷ 102 ∷ 117 ∷ 115 ∷ 101 ∷ 100 ∷ 32 ∷ 49 ∷ 48 ∷ 10 ∷ []

-- the second of two outcomes prints what the first does, if that is not `refused 10`
record Same (x y : Outcome) : Type 0 where
  same : eq_list (printed x) too_few ≡ false → printed x ≡ printed y

-- so it is of a choice where it is so of both answers
same_cond : (c : Bool) {x y v w : Outcome} → Same x v → Same y w → Same (cond c x y) (cond c v w)
same_cond true h g = h
same_cond false h g = g

-- a refusal prints nothing of the buffer
same_refused : (a b : List ℕ) (n : ℕ) → Same (refused a n) (refused b n)
unfolding printed
same_refused a b n = record { same = λ h. refl }

-- nor does 6, whose length is a place
same_faulty : (a b : List ℕ) (n : ℕ) → Same (record { number = 6; len = n; out = a }) (record { number = 6; len = n; out = b })
unfolding printed
same_faulty a b n = record { same = λ h. refl }

-- the bytes past a result are not printed
printed_front : (bs a b : List ℕ) → printed (record { number = 0; len = length bs; out = bs ++ a }) ≡ printed (record { number = 0; len = length bs; out = bs ++ b })
unfolding printed
printed_front bs a b = rw (take-append_seam bs a, take-append_seam bs b)

-- bytes laid into a buffer, by the test that it is shorter
abbrev laid : List ℕ → List ℕ → Bool → Outcome
laid out bs b = cond b (record { number = 10; len = length bs; out = out }) (record { number = 0; len = length bs; out = bs ++ drop (length bs) out })

-- a buffer that is not shorter is not shorter with b after it
same_laid : (a b bs : List ℕ) (t : Bool) → ltb (length a) (length bs) ≡ t → Same (laid a bs t) (laid (a ++ b) bs (ltb (length (a ++ b)) (length bs)))
unfolding eq_list printed
same_laid a b bs true e = record { same = λ h. absurd (true≢false h) }
same_laid a b bs false e =
    let f = ltb-false (length a) (length bs) e in
    let g = le-ltb (length (a ++ b)) (length bs) (omega (arith, length-append a b, f)) in
    record { same = λ h. rw g (printed_front bs (drop (length bs) a) (drop (length bs) (a ++ b))) }

-- so it is of words that are laid into the buffer, and of what survives
same_into : (a b ws : List ℕ) → Same (laid_into a ws) (laid_into (a ++ b) ws)
unfolding laid_into
same_into a b ws = same_cond (too_big ws) (same_refused a (a ++ b) 9) (same_laid a b (flat ws) (ltb (length a) (length (flat ws))) refl)

same_written : (packing : ℕ) (a b : List ℕ) (t : Option Table) → Same (written_in packing a t) (written_in packing (a ++ b) t)
unfolding written_in
same_written packing a b None = same_refused a (a ++ b) 8
same_written packing a b (Some t) = same_into a b (words_in packing t)

-- the call tests nothing of the buffer before it writes
same_call : (kind form packing : ℕ) (s g l a b : List ℕ) → Same (subset kind form packing s g l a) (subset kind form packing s g l (a ++ b))
unfolding subset
same_call kind form packing s g l a b =
    same_cond (not (good_kind kind)) (same_refused a (a ++ b) 1)
    (same_cond (not (good_form form)) (same_refused a (a ++ b) 13)
    (same_cond (not (good_packing packing)) (same_refused a (a ++ b) 14)
    (same_cond (not (good_glyph_map form g)) (same_refused a (a ++ b) 2)
    (same_cond (not (good_lookups l)) (same_refused a (a ++ b) 3)
    (same_cond (ltb limit (length s)) (same_refused a (a ++ b) 4)
    (same_cond (inside s 0 2 && not (has_format kind (word s 0))) (same_refused a (a ++ b) 5)
    (same_cond (is_some (fault kind s)) (same_faulty a (a ++ b) (place kind s))
    (same_cond (eqb kind 4 && (has_device (word s 4) || has_device (word s 6))) (same_refused a (a ++ b) 7)
    (same_cond (not (records_within (table kind s))) (same_refused a (a ++ b) 12)
    (same_written packing a b (cut (glyph_entries form g) (map_entries l) (table kind s))))))))))))

-- nor does the job
same_job : (f a b : List ℕ) → Same (job f a) (job f (a ++ b))
unfolding job
same_job f a b =
    same_cond (not (good_job f)) (same_refused a (a ++ b) 11)
    (same_call (word f (trailer f)) (form_of f) 0 (bytes_of f (table_part f)) (bytes_of f (glyph_part f)) (bytes_of f (lookup_part f)) a b)

-- n zeros lent, and m more
same_zeros : (f : List ℕ) (n m : ℕ) → Same (job f (replicate n 0)) (job f (replicate (n + m) 0))
same_zeros f n m = rw (replicate-append-replicate {A = ℕ} n m 0) at (same_job f (replicate n 0) (replicate m 0))

-- where each row prints what it states with n bytes lent, and no row states `refused 10`, each does with m bytes more
rows_with_more : (n m : ℕ) (rs : List JobRow) → map (λ r. printed (job r.file (replicate n 0))) rs ≡ map (λ r. ascii r.prints) rs
    → every (λ r. not (eq_list (ascii r.prints) too_few)) rs ≡ true → map (λ r. printed (job r.file (replicate (n + m) 0))) rs ≡ map (λ r. ascii r.prints) rs
unfolding every
rows_with_more n m [] e h = refl
rows_with_more n m (r ∷ rs) e h =
    let p : printed (job r.file (replicate n 0)) ≡ ascii r.prints = head-eq_of_cons-eq e in
    let k = both (not (eq_list (ascii r.prints) too_few)) (every (λ q. not (eq_list (ascii q.prints) too_few)) rs) h in
    let s : eq_list (printed (job r.file (replicate n 0))) too_few ≡ false = rw p (not-true (eq_list (ascii r.prints) too_few) k.0) in
    let a : printed (job r.file (replicate (n + m) 0)) ≡ ascii r.prints = sym ((same_zeros r.file n m).same s) ∙ p in
    let b : map (λ q. printed (job q.file (replicate (n + m) 0))) rs ≡ map (λ q. ascii q.prints) rs = rows_with_more n m rs (tail-eq_of_cons-eq e) k.1 in
    rw (a, b)

-- no row of the table of jobs states it
none_too_few : every (λ r. not (eq_list (ascii r.prints) too_few)) jobs ≡ true
unfolding eq_list every ascii jobs
none_too_few = refl

-- so each of that table prints what it states with m bytes more than the 64 with which it was computed
pub jobs_with_more : (m : ℕ) → map (λ r. printed (job r.file (replicate (64 + m) 0))) jobs ≡ map (λ r. ascii r.prints) jobs
jobs_with_more m = rows_with_more 64 m jobs each-with-64 none_too_few
