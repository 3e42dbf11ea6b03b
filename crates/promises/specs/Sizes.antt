-- Sizes: a plain layout of at most 65,536 bytes, as was kept before the limit was raised, is not too big, and what was kept then is kept now.
use Rattle.std.specs.Prelude.{ℕ, ◌≤◌, ◌≡◌, refl, Bool, true, false, ◌&&◌, ◌||◌, not, List, [], ◌∷◌, ◌++◌, length, drop, ltb, eqb, Option, None, Some}
use Rattle.std.proofs.Common.{arith, le-ltb, ltb-false}
use Rattle.std.proofs.lemmas.Bool.{not-false}
use Rattle.meaning.specs.Words.{word, inside, is_some, every, flat}
use Rattle.meaning.specs.Maps.{good_lookups, good_form, good_glyph_map}
use Rattle.meaning.specs.Tables.{Table, table}
use Rattle.meaning.specs.Fault.{fault}
use Rattle.meaning.specs.Records.{records_within}
use Rattle.meaning.specs.Layout.{table_words, words_fit}
use Rattle.meaning.specs.Subset.{limit, good_kind, has_format, has_device, too_big, good_packing, words_in}
use Rattle.laws.specs.Stands.{flat_length}
use Rattle.laws.specs.Through.{Opt}
use Rattle.laws.specs.CutGood.{GoodOf}
use Rattle.laws.specs.ReadsBack.{Good}
use Rattle.laws.specs.Fits.{words_fit_lem, words_small}
use Rattle.laws.specs.CallBack.{no_fault}
use Rattle.promises.specs.Survives.{survives}
use Rattle.promises.specs.Refusals.{Call, answer, glyph_map, words?, laid_words, laid, refusals, NoneOf, kept_exactly, kept_length, kept_bytes}

-- the plain layout of a good table
pub small_fits : (t : Table) → Good t → length (flat (table_words t)) ≤ 65536 → too_big (table_words t) ≡ false
unfolding too_big limit
small_fits t g l =
    let f : words_fit (table_words t) ≡ true = words_fit_lem (table_words t) (words_small t g (omega (arith, flat_length (table_words t)))) in
    rw (le-ltb 262144 (length (flat (table_words t))) (omega arith), f)

nothing_big : too_big [] ≡ false
unfolding too_big limit words_fit every flat
nothing_big = refl

-- what is left of a call's table, asked for in the plain layout
pub left_fits : (packing kind : ℕ) (o : Option Table) → packing ≡ 0 → Opt (GoodOf kind) o → length (flat (words? packing o)) ≤ 65536 → too_big (words? packing o) ≡ false
unfolding words? words_in
left_fits packing kind None e g l = nothing_big
left_fits packing kind (Some t) e g l = rw e (small_fits t g.0 (rw e at l))

-- the table of refusals with the limits as they were before: 4 is a source over 65,536 bytes and 9 a plain layout over 65,536 bytes
unfoldable pub refusals_before : Call → List (ℕ × Bool)
refusals_before c =
    (1, not (good_kind c.kind))
    ∷ (13, not (good_form c.form))
    ∷ (14, not (good_packing c.packing))
    ∷ (2, not (good_glyph_map c.form c.glyphs))
    ∷ (3, not (good_lookups c.lookups))
    ∷ (4, ltb 65536 (length c.source))
    ∷ (5, inside c.source 0 2 && not (has_format c.kind (word c.source 0)))
    ∷ (6, is_some (fault c.kind c.source))
    ∷ (7, eqb c.kind 4 && (has_device (word c.source 4) || has_device (word c.source 6)))
    ∷ (12, not (records_within (table c.kind c.source)))
    ∷ (8, not (survives (glyph_map c) (table c.kind c.source)))
    ∷ (9, ltb 65536 (length (laid c)))
    ∷ (10, ltb (length c.buffer) (length (laid c)))
    ∷ []

-- what was kept then is kept now, with the same bytes, if no such layout is too big
pub kept_before : (c : Call)
    → (good_kind c.kind ≡ true → good_glyph_map c.form c.glyphs ≡ true → fault c.kind c.source ≡ None → length (laid c) ≤ 65536 → too_big (laid_words c) ≡ false)
    → NoneOf (refusals_before c) → ((answer c).number ≡ 0) × ((answer c).out ≡ laid c ++ drop (length (laid c)) c.buffer)
unfolding refusals_before refusals limit
kept_before c fits (n1, (n13, (n14, (n2, (n3, (n4, (n5, (n6, (n7, (n12, (n8, (n9, (n10, u))))))))))))) =
    let four : ltb 262144 (length c.source) ≡ false = le-ltb 262144 (length c.source) (omega (arith, ltb-false 65536 (length c.source) n4)) in
    let nine = fits (not-false (good_kind c.kind) n1) (not-false (good_glyph_map c.form c.glyphs) n2) (no_fault (fault c.kind c.source) n6) (ltb-false 65536 (length (laid c)) n9) in
    let kept = (kept_exactly c).1 (n1, (n13, (n14, (n2, (n3, (four, (n5, (n6, (n7, (n12, (n8, (nine, (n10, tt))))))))))))) in
    (kept, rw (← (kept_length c kept).0) (kept_bytes c kept))
