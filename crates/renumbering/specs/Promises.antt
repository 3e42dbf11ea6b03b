-- The promise of request 14 over a source list and its cut, about the bytes. A reader who believes the definitions of `meaning` and `replaying` needs of this crate what stands here,
-- and `Each` and `new_trace`, `new_run`, `RetainedRun`, each a line or two.
use Rattle.std.specs.Prelude.{ℕ, zero, suc, ◌+◌, ◌≤◌, ◌<◌, ◌≡◌, true, ◌||◌, length, take, drop, None, Some, option_map}
use mathlib.Core.List.{List, [], ◌∷◌, map}
use Rattle.std.proofs.Math.Dec.{eqb}
use Rattle.meaning.specs.Words.{find}
use Rattle.meaning.specs.Maps.{map_entries, glyph_entries, good_glyph_map}
use Rattle.meaning.specs.Subset.{Outcome, left, subset}
use Rattle.meaning.specs.Job.{bytes_of}
use Rattle.laws.specs.Stands.{All}
use Rattle.laws.specs.Runs.{both}
use Rattle.laws.specs.CutGood.{GoodMap}
use Rattle.laws.specs.CutCells.{all_every}
use Rattle.laws.specs.SoundGood.{Bytes}
use Rattle.laws.specs.CallBack.{good_glyph_map_lem}
use Rattle.promises.specs.Strings.{Retained, new}
use Rattle.promises.specs.Contexts.{ordered}
use Rattle.promises.specs.Ordered.{source_ordered}
use Rattle.promises.specs.Singles.{SubstitutesRetained}
use Rattle.replaying.specs.Listed.{Entry, listed, good_entry, source_of, lookup_of, lookups_of, lookup_refusal, first_refusal}
use Rattle.replaying.specs.Trace.{Run, runs_of}
use Rattle.replaying.specs.Applying.{run}
use Rattle.replaying.specs.Replay.{refusal, replay}
use Rattle.renumbering.specs.Same.{new_run, RetainedRun}
use Rattle.renumbering.specs.Traces.{new_trace}
use Rattle.renumbering.specs.Kept.{fine_sound, or_none}
use Rattle.renumbering.specs.Lists as Lists
use Rattle.renumbering.specs.Lists.{Each, CutOf, CutList, taken, lists_same, lists_same_trace}
use Rattle.renumbering.specs.Calls.{ListedKind, left_of_call}

-- the call of the subsetter on a listed lookup: its kind and its bytes, a glyph map in a form, a lookup map, a layout and a buffer that is lent
abbrev pub cut_call : ℕ → ℕ → List ℕ → List ℕ → List ℕ → Entry → List ℕ → Outcome
cut_call form packing glyphs lookups buffer x room = subset x.kind form packing (source_of buffer x) glyphs lookups room

-- y is listed as the cut of x: the same kind, a part inside the second buffer, and there the bytes that the call leaves, which keeps something
pub record CutEntry (form : ℕ) (glyphs lookups buffer cut : List ℕ) (x y : Entry) : Type 0 where
  pub kind : y.kind ≡ x.kind
  pub inside : y.part.start + y.part.len ≤ length cut
  pub packing : ℕ
  pub room : List ℕ
  pub kept : (cut_call form packing glyphs lookups buffer x room).number ≡ 0
  pub bytes : source_of cut y ≡ left (cut_call form packing glyphs lookups buffer x room)

-- a list in its buffer, and its cut in another: as many lookups, each the cut of the one at its place, and every listed lookup mapped to its own place
pub record CutLists (form : ℕ) (glyphs lookups list buffer small cut : List ℕ) : Type 0 where
  pub long : length small ≡ length list
  pub each : Each (CutEntry form glyphs lookups buffer cut) (listed list) (listed small)
  pub mapped : (n : ℕ) → n < length (listed list) → find (map_entries lookups) n ≡ Some n

-- Bytes of a part.

take_bytes : (n : ℕ) (s : List ℕ) → Bytes s → Bytes (take n s)
take_bytes zero s h = tt
take_bytes (suc n) [] h = tt
take_bytes (suc n) (b ∷ s) h = (h.0, take_bytes n s h.1)

drop_bytes : (n : ℕ) (s : List ℕ) → Bytes s → Bytes (drop n s)
drop_bytes zero s h = h
drop_bytes (suc n) [] h = tt
drop_bytes (suc n) (b ∷ s) h = drop_bytes n s h.1

source_bytes : (buffer : List ℕ) (x : Entry) → Bytes buffer → Bytes (source_of buffer x)
unfolding source_of bytes_of
source_bytes buffer x h = take_bytes x.part.len (drop x.part.start buffer) (drop_bytes x.part.start buffer h)

module _ (form : ℕ) (glyphs lookups list buffer small cut : List ℕ) (bg : Bytes glyphs) (bl : Bytes lookups) (bb : Bytes buffer) (good : good_glyph_map form glyphs ≡ true) where
  -- old number to new
  abbrev g : List (ℕ × ℕ)
  g = glyph_entries form glyphs

  abbrev l : List (ℕ × ℕ)
  l = map_entries lookups

  -- retained glyphs have retained substitutes, in each listed lookup
  abbrev pub AllClosed : Type 0
  AllClosed = All (λ x. SubstitutesRetained g (lookup_of buffer x)) (listed list)

  good_map : GoodMap g
  good_map = good_glyph_map_lem form glyphs bg good

  cut_of : (x y : Entry) → good_entry buffer x ≡ true → CutEntry form glyphs lookups buffer cut x y → CutOf g l buffer cut x y
  unfolding good_entry
  cut_of x y h c =
      let k : ListedKind x.kind = (both (eqb x.kind 1 || (eqb x.kind 2 || eqb x.kind 5)) _ h).0 in
      let left = left_of_call x.kind form c.packing (source_of buffer x) glyphs lookups c.room (source_bytes buffer x bb) bg bl c.kept k in
      record { kind = c.kind; inside = c.inside; left = rw c.bytes left }

  each_of_lem : (xs ys : List Entry) → All (λ x. good_entry buffer x ≡ true) xs → Each (CutEntry form glyphs lookups buffer cut) xs ys → Each (CutOf g l buffer cut) xs ys
  each_of_lem [] [] h c = tt
  each_of_lem [] (y ∷ ys) h c = absurd c
  each_of_lem (x ∷ xs) [] h c = absurd c
  each_of_lem (x ∷ xs) (y ∷ ys) h c = (cut_of x y h.0 c.0, each_of_lem xs ys h.1 c.1)

  all_ordered : (es : List Entry) → first_refusal buffer es ≡ None → All (λ x. ordered (lookup_of buffer x) ≡ true) es
  unfolding first_refusal lookup_of
  all_ordered [] e = tt
  all_ordered (x ∷ es) e =
      let q = or_none (lookup_refusal x.kind (source_of buffer x)) (first_refusal buffer es) e in
      (source_ordered x.kind (source_of buffer x) (fine_sound x.kind (source_of buffer x) q.0).0, all_ordered es q.1)

  -- `results_same`: over a source list and its cut, a run of retained glyphs gives the renumbered result: what comes out of the cut list for the renumbered run is what comes out of the source list, renumbered,
  -- too deep or not, if the source list is not refused, every listed lookup is mapped to its own place and its cut is kept, and retained glyphs have retained substitutes.
  pub results_same : (trace : List ℕ) → refusal list buffer trace ≡ None → CutLists form glyphs lookups list buffer small cut → AllClosed → (string : List ℕ) → All (Retained g) string
      → run (lookups_of small cut) (map (new g) string) ≡ option_map (map (new g)) (run (lookups_of list buffer) string)
  results_same trace fine cuts closed string retained =
      let lists : CutList g l list buffer small cut = record {
        long = cuts.long;
        each = each_of_lem (listed list) (listed small) (all_every (good_entry buffer) (listed list) (taken list buffer trace fine).good) cuts.each;
        mapped = cuts.mapped;
      } in
      Lists.results_same g l good_map list buffer small cut trace fine lists (all_ordered (listed list) (taken list buffer trace fine).fine) closed string retained

  module _ (trace : List ℕ) (rs : List Run) (fine : refusal list buffer trace ≡ None) (cuts : CutLists form glyphs lookups list buffer small cut) (closed : AllClosed)
      (reads : runs_of trace ≡ Some rs) (retained : All (RetainedRun g) rs) where
    abbrev lists : CutList g l list buffer small cut
    lists = record {
      long = cuts.long;
      each = each_of_lem (listed list) (listed small) (all_every (good_entry buffer) (listed list) (taken list buffer trace fine).good) cuts.each;
      mapped = cuts.mapped;
    }

    -- `replay_same`: over a source list and its cut, retained runs give renumbered results. The replay of the cut list on the renumbered trace, with the same counts and each glyph's new number,
    -- has the same answer and the same tally as that of the source list on the trace, 18 too, if the source list is not refused, every listed lookup is mapped to its own place and its cut is kept,
    -- the trace's glyphs are retained, and retained glyphs have retained substitutes.
    pub replay_same : replay small cut (new_trace g trace) ≡ replay list buffer trace
    replay_same = lists_same_trace g l good_map list buffer small cut trace rs fine lists (all_ordered (listed list) (taken list buffer trace fine).fine) closed reads retained

    -- The same of any trace whose runs are the renumbered ones.
    pub replay_same_runs : (trace' : List ℕ) → runs_of trace' ≡ Some (map (new_run g) rs) → replay small cut trace' ≡ replay list buffer trace
    replay_same_runs trace' reads' = lists_same g l good_map list buffer small cut trace trace' rs fine lists (all_ordered (listed list) (taken list buffer trace fine).fine) closed reads retained reads'
