-- Glyph maps in either form: a map that reads as the same pairs gives the same answer.
use Rattle.std.specs.Prelude.{ℕ, ◌+◌, ◌*◌, ◌/◌, ◌%◌, ◌≡◌, refl, true, cond, not, List, [], ◌∷◌, map, length}
use Rattle.std.proofs.Common.{sym, ap, ◌∙◌, arith, le-leb, eq-eqb}
use Rattle.meaning.specs.Words.{word, triples, flat, threes, keys, values}
use Rattle.meaning.specs.Maps.{map_entries, map_runs, steps, run_pairs, runs_rise, good_runs, good_form, glyph_entries, good_glyph_map}
use Rattle.meaning.specs.Subset.{refused, subset}
use Rattle.meaning.specs.Job.{trailer, table_part, glyph_part, lookup_part, form_of, good_job, bytes_of, job}
use Rattle.laws.specs.Stands.{All, flat_length, threes_length, stands_all, triples_back}
use Rattle.laws.specs.Runs.{Up, Words3}
use Rattle.laws.specs.PartsBack.{threes_words}
use Rattle.laws.specs.SoundGood.{Bytes}
use Rattle.laws.specs.CutGood.{GoodMap}
use Rattle.laws.specs.SetsBack.{Words2}
use Rattle.laws.specs.CallBack.{subset_is, good_glyph_map_lem}

-- A good map of pairs and a good map of runs with the same pairs give the same answer, whatever else is given.
pub same_answer : (kind packing : ℕ) (s m m' l out : List ℕ) → good_glyph_map 4 m ≡ true → good_glyph_map 6 m' ≡ true → glyph_entries 4 m ≡ glyph_entries 6 m'
    → subset kind 4 packing s m l out ≡ subset kind 6 packing s m' l out
unfolding good_form
same_answer kind packing s m m' l out g g' e = subset_is kind 4 packing s m l out ∙ rw (g, e) (sym (subset_is kind 6 packing s m' l out ∙ rw g'))

-- pairs as runs of one
abbrev pub ones : List (ℕ × ℕ) → List (ℕ × ℕ × ℕ)
ones es = map (λ e. (e.0, e.1, 1)) es

-- They read as these pairs.
pub ones_read : (es : List (ℕ × ℕ)) → run_pairs (ones es) ≡ es
unfolding run_pairs steps
ones_read [] = refl
ones_read (e ∷ es) = ap (λ (l : List (ℕ × ℕ)). e ∷ l) (ones_read es)

-- Where both columns ascend they are good runs.
pub ones_rise : (old new : ℕ) (es : List (ℕ × ℕ)) → Up old (keys es) → Up new (values es) → All Words2 es → runs_rise old new (ones es) ≡ true
unfolding runs_rise keys values
ones_rise old new [] u v w = refl
ones_rise old new (e ∷ es) u v w =
    rw (le-leb old e.0 u.0, le-leb new e.1 v.0, le-leb (e.0 + 1) 65536 (omega (arith, w.0.0)), le-leb (e.1 + 1) 65536 (omega (arith, w.0.1))) (ones_rise (e.0 + 1) (e.1 + 1) es u.1 v.1 w.1)

-- a map of pairs as a map of runs of one, six bytes each
unfoldable pub as_runs : List ℕ → List ℕ
as_runs m = flat (threes (ones (map_entries m)))

ones_words : (es : List (ℕ × ℕ)) → All Words2 es → All Words3 (ones es)
ones_words [] w = tt
ones_words (e ∷ es) w = ((w.0.0, w.0.1, omega arith), ones_words es w.1)

ones_length : (es : List (ℕ × ℕ)) → length (ones es) ≡ length es
ones_length [] = refl
ones_length (e ∷ es) = omega (arith, ones_length es)

-- A four-byte map reads as runs of one: it is a good map of runs, with the same pairs.
pub as_runs_lem : (m : List ℕ) → Bytes m → good_glyph_map 4 m ≡ true → (good_glyph_map 6 (as_runs m) ≡ true) × (glyph_entries 6 (as_runs m) ≡ glyph_entries 4 m)
unfolding as_runs good_glyph_map glyph_entries good_runs map_runs
as_runs_lem m b h =
    let rs = ones (map_entries m) in
    let good : GoodMap (map_entries m) = good_glyph_map_lem 4 m b h in
    let long : length (flat (threes rs)) ≡ 6 * length rs = omega (arith, flat_length (threes rs), threes_length rs) in
    let whole : length (flat (threes rs)) % 6 ≡ 0 = omega (arith, long) in
    let many : length (flat (threes rs)) / 6 ≡ length rs = omega (arith, long) in
    let back : triples (flat (threes rs)) 0 (length rs) ≡ rs = triples_back rs (stands_all (threes rs) (threes_words rs (ones_words (map_entries m) good.words))) in
    rw (many, back, eq-eqb (length (flat (threes rs)) % 6) 0 whole) (ones_rise 0 0 (map_entries m) good.old good.new good.words, ones_read (map_entries m))

-- Job files.

job_is : (f out : List ℕ) → job f out ≡ cond (not (good_job f)) (refused out 11) (subset (word f (trailer f)) (form_of f) 0 (bytes_of f (table_part f)) (bytes_of f (glyph_part f)) (bytes_of f (lookup_part f)) out)
unfolding job
job_is f out = refl

-- Two good files with the same kind, table and lookup map, one with pairs and one with runs that have the same pairs, give the same answer.
pub same_job : (f f' out : List ℕ) → good_job f ≡ true → good_job f' ≡ true → form_of f ≡ 4 → form_of f' ≡ 6 → word f (trailer f) ≡ word f' (trailer f')
    → bytes_of f (table_part f) ≡ bytes_of f' (table_part f') → bytes_of f (lookup_part f) ≡ bytes_of f' (lookup_part f')
    → good_glyph_map 4 (bytes_of f (glyph_part f)) ≡ true → good_glyph_map 6 (bytes_of f' (glyph_part f')) ≡ true → glyph_entries 4 (bytes_of f (glyph_part f)) ≡ glyph_entries 6 (bytes_of f' (glyph_part f'))
    → job f out ≡ job f' out
same_job f f' out j j' p p' k t l g g' e =
    job_is f out ∙ rw (j, p, k, t, l) (same_answer (word f' (trailer f')) 0 (bytes_of f' (table_part f')) (bytes_of f (glyph_part f)) (bytes_of f' (glyph_part f')) (bytes_of f' (lookup_part f')) out g g' e ∙ sym (job_is f' out ∙ rw (j', p')))
