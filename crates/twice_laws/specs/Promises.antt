-- Request 6, cutting twice: every statement in one place, each with its words above it. The request is about the plain layout, mark 0;
-- the statements hold of the packed one too, if the two cuts that are compared are for one layout. The first cut of two may be in the other.
-- A reader who believes the definitions of `meaning` needs `Call`, `answer`, `glyph_map`, `lookup_map`, `BytesOf`, `says`, `small_says`, `GoodMaps` and `as_runs` of `promises`, and of this crate what stands here and in Definitions.antt.
use Rattle.std.specs.Prelude.{ℕ, ◌≤◌, ◌<◌, ◌≡◌, true, List, [], ◌∷◌, ◌++◌, map, length, take, drop, Option, Some}
use Rattle.std.proofs.Math.Path.{refl}
use Rattle.std.proofs.Common.{sym, ap, ◌∙◌, arith, take_at}
use Rattle.meaning.specs.Words.{flat, ascends, keys, values, member, bind}
use Rattle.meaning.specs.Maps.{map_entries, good_lookups, good_form, glyph_entries, good_glyph_map}
use Rattle.meaning.specs.Tables.{Table}
use Rattle.meaning.specs.Cut.{cut}
use Rattle.meaning.specs.Subset.{Outcome, left, written_in}
use Rattle.laws.specs.Stands.{All, all_map, Word}
use Rattle.laws.specs.Runs.{up_ascends}
use Rattle.laws.specs.Ascends.{lookups_ascend}
use Rattle.laws.specs.SetsBack.{Words2}
use Rattle.laws.specs.SoundGood.{Bytes}
use Rattle.laws.specs.CutGood.{GoodMap, Values, find_word}
use Rattle.laws.specs.CallBack.{good_glyph_map_lem}
use Rattle.promises.specs.Numbers.{injective}
use Rattle.promises.specs.Refusals.{Call, answer, glyph_map, lookup_map, left?, words?}
use Rattle.promises.specs.Tested.{GoodSource, GoodMaps, tests, kept_tested, tested_gives}
use Rattle.promises.specs.Forms.{as_runs}
use Rattle.promises.specs.Promises.{BytesOf, says, small_says, reads_back}
use Rattle.twice.specs.Definitions.{combined, Within, combined_glyphs, combined_lookups, same, Identity, identity_map, lookups_of, identity_lookups}
use Rattle.twice.proofs.Maps.{find_combined, all_found, along}
use Rattle.twice_laws.specs.Cuts as Cuts
use Rattle.twice_laws.specs.Identity.{cut_same}
use Rattle.twice_laws.specs.Written.{glyphs_written, runs_written, combined_good, combined_lookups_lem, same_good}
use Rattle.twice_laws.specs.Lookups.{good_names, own_good, own_identity, own_all}
use Rattle.twice_laws.specs.Calls.{refused_anywhere, left_laid, left_kind, left_source, left_fits}
use Rattle.twice.specs.Cases.{Done, doubles, done, stated, each_double, first, again, again_runs, each_again, beyond, beyond_single, differs, without_lookups, record_lost}

-- `cases`: worked cases, by computation: the combined maps, and the answers of the second call and of the single one.
pub cases : map done doubles ≡ map stated doubles
cases = each_double

-- `again_cases`: the same tables, cut again by the identity, its glyph map as pairs and as runs: each is given back.
pub again_cases : (map again doubles ≡ map first doubles) × (map again_runs doubles ≡ map first doubles)
again_cases = each_again

-- On tables.

-- `tables`: what the second pair of maps leaves of what the first pair leaves is what the combined maps leave.
-- It holds of every table, sound or not, if both columns of the first glyph map ascend and its new ids are words, the old columns of the second glyph map and of the first lookup map ascend,
-- and each old id of the second glyph map is a new id of the first. (The new ids of the second glyph map, and the second lookup map, may be any.)
pub tables : (g₁ g₂ l₁ l₂ : List (ℕ × ℕ)) → ascends (keys g₁) ≡ true → ascends (values g₁) ≡ true → All (λ e. Word e.1) g₁ → ascends (keys g₂) ≡ true → ascends (keys l₁) ≡ true → Within g₁ g₂
    → (t : Table) → bind (cut g₁ l₁ t) (cut g₂ l₂) ≡ cut (combined g₁ g₂) (combined l₁ l₂) t
tables g₁ g₂ l₁ l₂ k v n o m w t =
    Cuts.cut_twice g₁ g₂ (combined g₁ g₂) l₁ l₂ (combined l₁ l₂) (all_found g₁ k) (injective g₁ v) (find_combined g₁ g₂ k) (along g₁ g₂ k v o w) (find_combined l₁ l₂ m) (λ x. find_word g₁ x n) t

-- `tables_again`: the identity over the new ids of the first glyph map, with an identity lookup map that has each lookup of the table that is left, gives that table back.
pub tables_again : (g l : List (ℕ × ℕ)) → ascends (keys g) ≡ true → ascends (values g) ≡ true → ascends (keys l) ≡ true → All (λ e. Word e.1) g → (t u : Table) → cut g l t ≡ Some u
    → (i : List (ℕ × ℕ)) → Identity i → All (λ n. member n (keys i) ≡ true) (lookups_of u) → cut (same (values g)) i u ≡ Some u
tables_again = cut_same

-- On calls, from bytes to bytes.

-- A cut: the mark of its glyph map's form, the mark of its layout, its two maps and its buffer.
pub record Cut : Type 0 where
  pub form : ℕ
  pub packing : ℕ
  pub glyphs : List ℕ
  pub lookups : List ℕ
  pub buffer : List ℕ

-- the second call, by a cut of the bytes that the first call leaves
abbrev pub second : Call → Cut → Call
second c d = record { kind = c.kind; form = d.form; packing = d.packing; source = left (answer c); glyphs = d.glyphs; lookups = d.lookups; buffer = d.buffer }

-- the single call, by a cut of the first call's source
abbrev pub single : Call → Cut → Call
single c e = record { kind = c.kind; form = e.form; packing = e.packing; source = c.source; glyphs = e.glyphs; lookups = e.lookups; buffer = e.buffer }

-- d may follow: its maps are bytes; its marks and maps are good, the glyph map in either form; and each old id of that is a new id of the first one
pub record Follows (c : Call) (d : Cut) : Type 0 where
  pub glyph_bytes : Bytes d.glyphs
  pub lookup_bytes : Bytes d.lookups
  pub good : GoodMaps (second c d)
  pub within : Within (glyph_map c) (glyph_map (second c d))

-- e combines the first call and d: its marks and maps are good, the glyph map in either form, it is for d's layout, and the maps say what is combined of what those two say
pub record Combines (c : Call) (d e : Cut) : Type 0 where
  pub layout : e.packing ≡ d.packing
  pub good : GoodMaps (single c e)
  pub glyphs : glyph_map (single c e) ≡ combined (glyph_map c) (glyph_map (second c d))
  pub lookups : lookup_map (single c e) ≡ combined (lookup_map c) (lookup_map (second c d))

-- the combined maps written down, the glyph map as pairs, with the layout and the buffer of the second cut
abbrev pub combined_cut : Call → Cut → Cut
combined_cut c d = record { form = 4; packing = d.packing; glyphs = combined_glyphs c.form c.glyphs d.form d.glyphs; lookups = combined_lookups c.lookups d.lookups; buffer = d.buffer }

-- a cut by a glyph map of pairs, with that map as runs of one
abbrev pub with_runs : Cut → Cut
with_runs d = record { form = 6; packing = d.packing; glyphs = as_runs d.glyphs; lookups = d.lookups; buffer = d.buffer }

module _ (c : Call) (bytes : BytesOf c) (first_kept : (answer c).number ≡ 0) where
  -- the source, the marks and the maps of the first call are good
  abbrev passed : GoodSource c.kind c.source × GoodMaps c
  passed = tests c (kept_tested c first_kept)

  abbrev first_map : GoodMap (glyph_map c)
  first_map = good_glyph_map_lem c.form c.glyphs bytes.glyphs passed.1.glyphs

  old_ascend : ascends (keys (glyph_map c)) ≡ true
  old_ascend = up_ascends 0 (keys (glyph_map c)) first_map.old

  new_ascend : ascends (values (glyph_map c)) ≡ true
  new_ascend = up_ascends 0 (values (glyph_map c)) first_map.new

  new_words : Values (glyph_map c)
  new_words = all_map Words2 (λ (e : ℕ × ℕ). Word e.1) (λ e w. w.1) (glyph_map c) first_map.words

  module _ (d : Cut) (follows : Follows c d) where
    second_map_lem : GoodMap (glyph_map (second c d))
    second_map_lem = good_glyph_map_lem d.form d.glyphs follows.glyph_bytes follows.good.glyphs

    both_maps : GoodMap (combined (glyph_map c) (glyph_map (second c d)))
    both_maps = combined_good (glyph_map c) (glyph_map (second c d)) first_map second_map_lem follows.within

    both_lookups : (map_entries (combined_lookups c.lookups d.lookups) ≡ combined (lookup_map c) (lookup_map (second c d))) × (good_lookups (combined_lookups c.lookups d.lookups) ≡ true)
    both_lookups = combined_lookups_lem c.lookups d.lookups bytes.lookups follows.lookup_bytes passed.1.lookups

    combines_by : (form : ℕ) (m : List ℕ) → good_form form ≡ true → (glyph_entries form m ≡ combined (glyph_map c) (glyph_map (second c d))) × (good_glyph_map form m ≡ true)
        → Combines c d (record { form = form; packing = d.packing; glyphs = m; lookups = combined_lookups c.lookups d.lookups; buffer = d.buffer })
    combines_by form m f w =
        record { layout = refl; good = record { form = f; packing = follows.good.packing; glyphs = w.1; lookups = both_lookups.1 }; glyphs = w.0; lookups = both_lookups.0 }

    -- `combined_as_pairs`, `combined_as_runs`: the combined maps, written down as bytes, are good maps and say what is combined: the glyph map as pairs, and as runs.
    pub combined_as_pairs : Combines c d (combined_cut c d)
    unfolding combined_glyphs good_form
    combined_as_pairs = combines_by 4 (combined_glyphs c.form c.glyphs d.form d.glyphs) refl (glyphs_written (combined (glyph_map c) (glyph_map (second c d))) both_maps)

    pub combined_as_runs : Combines c d (with_runs (combined_cut c d))
    unfolding combined_glyphs good_form
    combined_as_runs = combines_by 6 (as_runs (combined_glyphs c.form c.glyphs d.form d.glyphs)) refl (runs_written (combined (glyph_map c) (glyph_map (second c d))) both_maps)

    -- By any maps that say what is combined, the glyph map in either form.
    module _ (e : Cut) (combines : Combines c d e) where
      -- what both leave is one table, or nothing
      left_same : left? (second c d) ≡ left? (single c e)
      unfolding bind
      left_same =
          rw ((reads_back c bytes first_kept).0, ← combines.glyphs, ← combines.lookups) at
          (tables (glyph_map c) (glyph_map (second c d)) (lookup_map c) (lookup_map (second c d)) old_ascend new_ascend new_words
          (up_ascends 0 (keys (glyph_map (second c d))) second_map_lem.old) (lookups_ascend c.lookups passed.1.lookups) follows.within (says c))

      second_gives : answer (second c d) ≡ written_in d.packing d.buffer (left? (single c e))
      second_gives = tested_gives (second c d) (left_source c bytes first_kept) follows.good ∙ ap (written_in d.packing d.buffer) left_same

      single_gives : answer (single c e) ≡ written_in d.packing e.buffer (left? (single c e))
      single_gives = tested_gives (single c e) passed.0 combines.good ∙ ap (λ (packing : ℕ). written_in packing e.buffer (left? (single c e))) combines.layout

      -- `cut_twice`: where the first call is kept, the second call on the bytes that it leaves and the single call by the combined maps, in buffers with the same content, give the same:
      -- number, length and buffer. So with room both times the bytes are the same, and if the second is empty or too big, so is the single one.
      pub cut_twice : e.buffer ≡ d.buffer → answer (second c d) ≡ answer (single c e)
      cut_twice b = second_gives ∙ ap (λ (out : List ℕ). written_in d.packing out (left? (single c e))) (sym b) ∙ sym single_gives

      -- Its parts, whatever the two buffers are: the same bytes, where both are kept;
      pub same_bytes : (answer (second c d)).number ≡ 0 → (answer (single c e)).number ≡ 0 → left (answer (second c d)) ≡ left (answer (single c e))
      same_bytes k k' =
          left_laid (second c d) k ∙ ap (λ (o : Option Table). flat (words? d.packing o)) left_same ∙ ap (λ (packing : ℕ). flat (words? packing (left? (single c e)))) (sym combines.layout)
          ∙ sym (left_laid (single c e) k')

      refused_too : (n : ℕ) → 0 < n → n < 10 → (answer (second c d)).number ≡ n → (answer (single c e)).number ≡ n
      refused_too n low high h = rw single_gives (refused_anywhere d.packing d.buffer e.buffer (left? (single c e)) n low high (rw second_gives at h))

      -- if the second is empty, so is the single one; if it is too big, so is the single one.
      pub empty_too : (answer (second c d)).number ≡ 8 → (answer (single c e)).number ≡ 8
      empty_too = refused_too 8 (omega arith) (omega arith)

      pub too_big_too : (answer (second c d)).number ≡ 9 → (answer (single c e)).number ≡ 9
      too_big_too = refused_too 9 (omega arith) (omega arith)

  -- The identity.

  -- d is the identity over what the first call leaves: its marks and maps are good; its glyph map, in either form, takes just the new ids of the first one, each to itself;
  -- its lookup map is an identity that has each lookup of the table that is left; and it is for the first call's layout
  pub record ByIdentity (d : Cut) : Type 0 where
    pub layout : d.packing ≡ c.packing
    pub good : GoodMaps (second c d)
    pub glyphs : glyph_map (second c d) ≡ same (values (glyph_map c))
    pub lookups : Identity (lookup_map (second c d))
    pub each : All (λ n. member n (keys (lookup_map (second c d))) ≡ true) (lookups_of (small_says c))

  -- `cut_again`: it gives that table back, byte for byte, in any buffer that has room for it.
  pub cut_again : (d : Cut) → ByIdentity d → length (left (answer c)) ≤ length d.buffer
      → answer (second c d) ≡ record { number = 0; len = length (left (answer c)); out = left (answer c) ++ drop (length (left (answer c))) d.buffer }
  cut_again d is room =
      let e =
      tables_again (glyph_map c) (lookup_map c) old_ascend new_ascend (lookups_ascend c.lookups passed.1.lookups) new_words
      (says c) (small_says c) (reads_back c bytes first_kept).0 (lookup_map (second c d)) is.lookups is.each
      in
      tested_gives (second c d) (left_source c bytes first_kept) is.good
      ∙ ap (λ (packing : ℕ). written_in packing d.buffer (left? (second c d))) is.layout ∙ ap (written_in c.packing d.buffer) (rw is.glyphs e)
      ∙ left_fits c bytes first_kept d.buffer room

  -- So it is kept, and leaves the bytes that the first call left.
  pub bytes_again : (d : Cut) → ByIdentity d → length (left (answer c)) ≤ length d.buffer → ((answer (second c d)).number ≡ 0) × (left (answer (second c d)) ≡ left (answer c))
  bytes_again d is room =
      let e = cut_again d is room in
      (ap (λ (r : Outcome). r.number) e, ap left e ∙ take_at (left (answer c)) (drop (length (left (answer c))) d.buffer) (length (left (answer c))) refl)

  -- the identity written down: the glyph map as pairs, and the lookup map over just the lookups that the table names, in order; for the same layout
  abbrev pub identity_cut : List ℕ → Cut
  identity_cut buffer = record { form = 4; packing = c.packing; glyphs = identity_map c.form c.glyphs; lookups = identity_lookups (small_says c); buffer = buffer }

  identity_by : (form : ℕ) (m buffer : List ℕ) → good_form form ≡ true → (glyph_entries form m ≡ same (values (glyph_map c))) × (good_glyph_map form m ≡ true)
      → ByIdentity (record { form = form; packing = c.packing; glyphs = m; lookups = identity_lookups (small_says c); buffer = buffer })
  identity_by form m buffer f w =
      let n = good_names (small_says c) (left_kind c bytes first_kept).0 in
      record {
        layout = refl;
        good = record { form = f; packing = passed.1.packing; glyphs = w.1; lookups = own_good (small_says c) n };
        glyphs = w.0;
        lookups = own_identity (small_says c) n;
        each = own_all (small_says c) n;
      }

  -- `identity_as_pairs`, `identity_as_runs`: it is such a cut, with the glyph map as pairs, and as runs.
  pub identity_as_pairs : (buffer : List ℕ) → ByIdentity (identity_cut buffer)
  unfolding identity_map good_form
  identity_as_pairs buffer = identity_by 4 (identity_map c.form c.glyphs) buffer refl (glyphs_written (same (values (glyph_map c))) (same_good (glyph_map c) first_map))

  pub identity_as_runs : (buffer : List ℕ) → ByIdentity (with_runs (identity_cut buffer))
  unfolding identity_map good_form
  identity_as_runs buffer = identity_by 6 (as_runs (identity_map c.form c.glyphs)) buffer refl (runs_written (same (values (glyph_map c))) (same_good (glyph_map c) first_map))

-- The conditions are needed.

-- `within_needed`: each old id of the second glyph map must be a new id of the first. Else it may hold class 0 in what is cut, where the single call does not know it: the bytes left differ.
pub within_needed : ((done beyond).second ≡ (0, flat beyond.words)) × ((done beyond).single ≡ (0, flat beyond_single))
within_needed = (ap (λ (x : Done). x.second) differs, ap (λ (x : Done). x.single) differs)

-- `all_lookups_needed`: an identity lookup map must have each lookup that the cut table names. Else records are lost, as of P1.
pub all_lookups_needed : map without_lookups (take 1 doubles) ≡ map (λ ws. (0, flat ws)) ((1 ∷ 28 ∷ 2 ∷ 10 ∷ 20 ∷ 1 ∷ 4 ∷ 2 ∷ 0 ∷ 3 ∷ 1 ∷ 4 ∷ 1 ∷ 0 ∷ 1 ∷ 2 ∷ 1 ∷ 2 ∷ []) ∷ [])
all_lookups_needed = record_lost
