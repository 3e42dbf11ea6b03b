-- Maps written as bytes: good entries are a good map, and the combined map of two good maps is good.
use Rattle.std.specs.Prelude.{ℕ, ◌+◌, ◌*◌, ◌/◌, ◌%◌, ◌≤◌, ◌≡◌, true, List, [], ◌∷◌, length, eqb, Option, None, Some}
use Rattle.std.proofs.Common.{ap, ◌∙◌, arith, eq-eqb}
use Rattle.meaning.specs.Words.{entries, bytes2, flat, twos, keys, values, find, bind, push, map_some}
use Rattle.meaning.specs.Maps.{map_entries, good_glyphs, good_lookups, glyph_entries, good_glyph_map}
use Rattle.meaning.specs.Cut.{cut_records}
use Rattle.laws.specs.Stands.{All, all_map, Word, stands_all, entries_back, flat_length, twos_length}
use Rattle.laws.specs.Runs.{Up, up_ascends}
use Rattle.laws.specs.Ascends.{lookups_ascend}
use Rattle.laws.specs.SetsBack.{Words2, twos_small}
use Rattle.laws.specs.SoundGood.{Bytes, ascends_up}
use Rattle.laws.specs.CutGood.{GoodMap, cut_records_lem}
use Rattle.laws.specs.CallBack.{map_words}
use Rattle.promises.specs.Forms.{as_runs, as_runs_lem}
use Rattle.twice.specs.Definitions.{combined, Within, map_bytes, combined_lookups, same}
use Rattle.twice.proofs.Maps.{along, along_values}
use Rattle.twice_laws.specs.Identity.{same_keys, same_values}

bytes_length : (es : List (ℕ × ℕ)) → length (map_bytes es) ≡ 4 * length es
unfolding map_bytes
bytes_length es = omega (arith, flat_length (twos es), twos_length es)

-- entries of words are read back
entries_read : (es : List (ℕ × ℕ)) → All Words2 es → map_entries (map_bytes es) ≡ es
unfolding map_entries map_bytes
entries_read es w =
    let n : length (map_bytes es) / 4 ≡ length es = omega (arith, bytes_length es) in
    ap (entries (map_bytes es) 0) n ∙ entries_back {s = map_bytes es} es (stands_all (twos es) (twos_small es w))

whole : (es : List (ℕ × ℕ)) → eqb (length (map_bytes es) % 4) 0 ≡ true
whole es = eq-eqb (length (map_bytes es) % 4) 0 (omega (arith, bytes_length es))

flat_bytes : (ws : List ℕ) → Bytes (flat ws)
unfolding flat bytes2
flat_bytes [] = tt
flat_bytes (w ∷ ws) = (omega arith, (omega arith, flat_bytes ws))

map_bytes_lem : (es : List (ℕ × ℕ)) → Bytes (map_bytes es)
unfolding map_bytes
map_bytes_lem es = flat_bytes (twos es)

-- a good map's entries, written as pairs: they are read back, and are a good glyph map
pub glyphs_written : (es : List (ℕ × ℕ)) → GoodMap es → (glyph_entries 4 (map_bytes es) ≡ es) × (good_glyph_map 4 (map_bytes es) ≡ true)
unfolding glyph_entries good_glyph_map good_glyphs
glyphs_written es g =
    let e = entries_read es g.words in
    (e, rw (whole es, e, up_ascends 0 (keys es) g.old, up_ascends 0 (values es) g.new))

-- the same as runs of one
pub runs_written : (es : List (ℕ × ℕ)) → GoodMap es → (glyph_entries 6 (as_runs (map_bytes es)) ≡ es) × (good_glyph_map 6 (as_runs (map_bytes es)) ≡ true)
runs_written es g =
    let w = glyphs_written es g in
    let r = as_runs_lem (map_bytes es) (map_bytes_lem es) w.1 in
    (r.1 ∙ w.0, r.0)

-- the same of a lookup map, whose old ids alone ascend
pub lookups_written : (es : List (ℕ × ℕ)) → All Words2 es → Up 0 (keys es) → (map_entries (map_bytes es) ≡ es) × (good_lookups (map_bytes es) ≡ true)
unfolding good_lookups
lookups_written es w k =
    let e = entries_read es w in
    (e, rw (whole es, e, up_ascends 0 (keys es) k))

-- the combined entries: words, and old ids that ascend
combined_words : (m n : List (ℕ × ℕ)) → All Words2 m → All Words2 n → All Words2 (combined m n)
unfolding combined cut_records
combined_words m n w v = cut_records_lem n m (all_map Words2 (λ (e : ℕ × ℕ). Word e.1) (λ e q. q.1) n v) w

lower : (low low' : ℕ) (l : List ℕ) → low ≤ low' → Up low' l → Up low l
lower low low' [] h u = tt
lower low low' (a ∷ l) h u = (omega (arith, u.0), u.1)

combined_up : (m n : List (ℕ × ℕ)) (low : ℕ) → Up low (keys m) → Up low (keys (combined m n))
unfolding combined map_some bind push keys
combined_up [] n low u = tt
combined_up (e ∷ m) n low u = go (find n e.1) (combined_up m n (e.0 + 1) u.1)
  where
    go : (o : Option ℕ) → Up (e.0 + 1) (keys (combined m n)) → Up low (keys (push (bind o (λ v. Some (e.0, v))) (combined m n)))
    go None i = lower low (e.0 + 1) (keys (combined m n)) (omega (arith, u.0)) i
    go (Some x) i = (u.0, i)

-- The combined entries of two good glyph maps are a good map, if each old id of the second is a new id of the first: its new ids are those of the second.
pub combined_good : (m n : List (ℕ × ℕ)) → GoodMap m → GoodMap n → Within m n → GoodMap (combined m n)
combined_good m n gm gn w =
    let a = along m n (up_ascends 0 (keys m) gm.old) (up_ascends 0 (values m) gm.new) (up_ascends 0 (keys n) gn.old) w in
    record { old = combined_up m n 0 gm.old; new = rw (along_values (find m) (combined m n) n a) gn.new; words = combined_words m n gm.words gn.words }

-- The combined lookup map, as bytes, says the combined entries and is good.
pub combined_lookups_lem : (m n : List ℕ) → Bytes m → Bytes n → good_lookups m ≡ true
    → (map_entries (combined_lookups m n) ≡ combined (map_entries m) (map_entries n)) × (good_lookups (combined_lookups m n) ≡ true)
unfolding combined_lookups
combined_lookups_lem m n bm bn good =
    lookups_written (combined (map_entries m) (map_entries n)) (combined_words (map_entries m) (map_entries n) (map_words m bm) (map_words n bn))
    (combined_up (map_entries m) (map_entries n) 0 (ascends_up 0 (keys (map_entries m)) (lookups_ascend m good) (λ x r e. omega arith)))

-- the identity over the new ids of a good map is good
pub same_good : (m : List (ℕ × ℕ)) → GoodMap m → GoodMap (same (values m))
unfolding same values
same_good m g = record { old = rw (same_keys (values m)) g.new; new = rw (same_values (values m)) g.new; words = same_words m g.words }
  where
    same_words : (m : List (ℕ × ℕ)) → All Words2 m → All Words2 (same (values m))
    same_words [] w = tt
    same_words (e ∷ m) w = ((w.0.1, w.0.1), same_words m w.1)
