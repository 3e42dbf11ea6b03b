-- Every promise in one place, each with its words above it. They hold of every call: any kind, any form of the glyph map, any layout, any source bytes, any two maps, any buffer.
-- A reader who believes the definitions of `meaning` needs of this crate what stands here, the statements that it names in Refusals.antt (`Call`, `answer`, `laid`, `refusals`, `Meets`),
-- Survives.antt, and `Retained`, `new`, `renumbered`, `cut_match`, `cut_ligated`, `Closed`, `SubstituteRetained`, `SubstitutesRetained`, `Different`, `in_layout`, and `Faulty` and `call_of` of the job, each a line or two.
use Rattle.std.specs.Prelude.{ℕ, ◌≤◌, ◌<◌, ◌≡◌, refl, Bool, true, false, not, List, [], ◌∷◌, ◌++◌, map, length, take, drop, eqb, Option, None, Some, unwrap_or, option_map}
use Rattle.std.proofs.Common.{sym, ap, ◌∙◌, subst}
use Rattle.meaning.specs.Words.{word, flat, bind, is_some, member}
use Rattle.meaning.specs.Maps.{run_pairs, glyph_entries, good_glyph_map}
use Rattle.meaning.specs.Tables.{table, Table, Pair}
use Rattle.meaning.specs.Fault.{fault}
use Rattle.meaning.specs.Cut.{class_map?, cut}
use Rattle.meaning.specs.Layout.{table_words, words_fit}
use Rattle.meaning.specs.Packed.{BlockKind, header, packed_blocks, packed, packed_words}
use Rattle.meaning.specs.Subset.{Outcome, left, refused, limit, good_kind, too_big, subset}
use Rattle.meaning.specs.Matching.{at_place, match, ligate, adjust, skips, substitute}
use Rattle.meaning.specs.Job.{trailer, table_part, glyph_part, lookup_part, ascii, form_of, good_job, bytes_of, job, program}
use Rattle.meaning.specs.Calls.{call_in, call, stated}
use Rattle.meaning.specs.Rows as Rows
use Rattle.meaning.specs.Points as Points
use Rattle.meaning.specs.Jobs as Jobs
use Rattle.meaning.specs.Matches as Matches
use Rattle.limits.specs.Limits as Limits
use Rattle.laws.specs.Headers.{plain}
use Rattle.laws.specs.PlainReading.{plain_reading}
use Rattle.laws.specs.CutGood.{GoodMap}
use Rattle.laws.specs.SoundGood.{Bytes}
use Rattle.laws.specs.CallBack.{Passed, passed, good_glyph_map_lem, left_good, call_reads_back}
use Rattle.promises.specs.Strings.{All, Retained, new}
use Rattle.promises.specs.Rules.{cut_match}
use Rattle.promises.specs.Ligatures.{cut_ligated, Closed}
use Rattle.promises.specs.Singles.{SubstituteRetained, SubstitutesRetained}
use Rattle.promises.specs.Classes.{null_map}
use Rattle.promises.specs.Sizes as Sizes
use Rattle.promises.specs.Sizes.{refusals_before}
use Rattle.promises.specs.Packed as Packed
use Rattle.promises.specs.Packed.{Different, in_layout}
use Rattle.promises.specs.Forms as Forms
use Rattle.promises.specs.Same as Same
use Rattle.promises.specs.Places.{parts, Faulty, Any, Lowest}
use Rattle.promises.specs.LowestPlace.{malformed_lowest, malformed_part}
use Rattle.promises.specs.Within.{Within, kept_within, not_past}
use Rattle.promises.specs.Walks.{skipping, walk, walks_same, skipping_same}
use Rattle.promises.specs.Survives.{survives}
use Rattle.promises.specs.JobFiles.{FaultyFile, call_of, refused_faulty, faulty_refused, sound_called}
use Rattle.promises.specs.Wrong as Wrong
use Rattle.promises.specs.Wrong.{Passes, refusing, copying, not_writing, writing, inventing, swaps, copies_others, drops_others}
use Rattle.promises.specs.Refusals.{Call, answer, glyph_map, lookup_map, laid_words, laid, left?, refusals, first, NoneOf, Meets, answer_meets, meets_once, given_exactly, kept_exactly, refused_untouched, refused_length, malformed_place, no_room, kept_length, kept_bytes, buffer_length, empty_on_good}

-- Worked cases, by computation.

-- `rows`: P1 to P10 of document 01, each with its whole answer: number, length and buffer.
pub rows : map call Rows.rows ≡ map stated Rows.rows
rows = Rows.each_row

-- `points`: the open points of documents 01 and 02 as we read them (docs/DECISIONS.md), each with its whole answer.
pub points : map call Points.points ≡ map stated Points.points
points = Points.each_point

-- The same for glyph maps as runs and the packed layout, and for the marks of the form and of the layout.
pub forms : map (λ e. call_in e.0 0 e.1) Points.forms ≡ map (λ e. stated e.1) Points.forms
forms = Points.each_form

pub layouts : map (λ e. call_in e.0 e.1 e.2) Points.layouts ≡ map (λ e. stated e.2) Points.layouts
layouts = Points.each_layout

-- `jobs`: label jobs with what the program prints for them.
pub jobs : map (λ r. program r.file) Jobs.jobs ≡ map (λ r. ascii r.prints) Jobs.jobs
jobs = Limits.each_job

-- `matches`: contexts asked at places of strings, with what they answer.
pub matches : map (λ q. at_place (match (table q.kind (flat q.source))) [] q.string q.place) Matches.asked ≡ map (λ q. q.answers) Matches.asked
matches = Matches.each_asked

-- How answers are fixed.

-- `unique`: two outcomes that meet the public statement for one call are equal: number, length and buffer, refusals included.
pub unique : (c : Call) (r q : Outcome) → Meets c r → Meets c q → r ≡ q
unique = meets_once

-- The call meets it.
pub meets : (c : Call) → Meets c (answer c)
meets = answer_meets

module _ (c : Call) where
  -- Demand 1.

  -- `first_refusal`: the number is that of the first refusal, in the written order, that applies, and 0 if none does.
  pub first_refusal : (answer c).number ≡ first (refusals c)
  first_refusal = (answer_meets c).number

  -- A number of that table is given exactly if it applies and none before it does; 0 is given exactly if none applies.
  pub first_refusal_exactly : (before : List (ℕ × Bool)) (n : ℕ) (applies : Bool) (after : List (ℕ × Bool)) → refusals c ≡ before ++ ((n, applies) ∷ after)
      → ((answer c).number ≡ n → (applies ≡ true) × NoneOf before) × (applies ≡ true → NoneOf before → (answer c).number ≡ n)
  first_refusal_exactly = given_exactly c

  pub kept_exactly_if : ((answer c).number ≡ 0 → NoneOf (refusals c)) × (NoneOf (refusals c) → (answer c).number ≡ 0)
  kept_exactly_if = kept_exactly c

  -- `refusal_writes_nothing`: a refusal leaves the buffer as it was. Its length is 0, save with 6, where it is the lowest start among the faulty parts,
  -- and with 10, where it is the length needed and the buffer is shorter.
  pub refusal_writes_nothing : ((answer c).number ≡ 0 → ⊥) → (answer c).out ≡ c.buffer
  refusal_writes_nothing = refused_untouched c

  pub refusal_length : ((answer c).number ≡ 0 → ⊥) → ((answer c).number ≡ 6 → ⊥) → ((answer c).number ≡ 10 → ⊥) → (answer c).len ≡ 0
  refusal_length = refused_length c

  pub place_of_fault : (answer c).number ≡ 6 → Some (answer c).len ≡ fault c.kind c.source
  place_of_fault = malformed_place c

  pub length_needed : (answer c).number ≡ 10 → ((answer c).len ≡ length (laid c)) × (length c.buffer < length (laid c))
  length_needed = no_room c

  -- The buffer never changes its length.
  pub same_length : length (answer c).out ≡ length c.buffer
  same_length = buffer_length c

  -- `place_lowest`: with 6 the length is the start of a faulty part, and no part that starts lower is faulty. Where none of those before it applies, 6 is given exactly if some part is faulty.
  -- Which parts there are, and when one is faulty by its own bytes, is said in Places.antt, without `fault`; it is to be read with this.
  pub place_lowest : (answer c).number ≡ 6 → Lowest c.source (parts c.kind c.source) (answer c).len
  place_lowest = malformed_lowest c

  pub malformed_exactly : NoneOf (take 7 (refusals c))
      → ((answer c).number ≡ 6 → Any (Faulty c.source) (parts c.kind c.source)) × (Any (Faulty c.source) (parts c.kind c.source) → (answer c).number ≡ 6)
  malformed_exactly = malformed_part c

  -- Demand 2.

  -- `kept_is_small`: what is kept has the length of the layout that is asked for, at most the limit and at most the buffer, and each offset and count of it fits its word.
  pub kept_is_small : (answer c).number ≡ 0 → ((answer c).len ≡ length (laid c)) × ((answer c).len ≤ limit) × ((answer c).len ≤ length c.buffer) × (words_fit (laid_words c) ≡ true)
  kept_is_small = kept_length c

  -- Its bytes are that layout of what survives, plain or packed, and the bytes past them keep their old content.
  pub kept_is_laid : (answer c).number ≡ 0 → (answer c).out ≡ laid c ++ drop (answer c).len c.buffer
  kept_is_laid = kept_bytes c

  -- `empty_exactly`: on good input, where none of the refusals before it applies, the answer is 8 exactly if nothing survives, said without `cut` in Survives.antt.
  pub empty_exactly : NoneOf (take 10 (refusals c)) → eqb (answer c).number 8 ≡ not (survives (glyph_map c) (table c.kind c.source))
  empty_exactly = empty_on_good c

-- What is kept, read as a source of the same kind. A slice's contents are bytes; the definitions take lists of any numbers, so it is asked for.
pub record BytesOf (c : Call) : Type 0 where
  pub source : Bytes c.source
  pub glyphs : Bytes c.glyphs
  pub lookups : Bytes c.lookups

-- what the source says, and what the bytes that the call leaves say
abbrev pub says : Call → Table
says c = table c.kind c.source

abbrev pub small_says : Call → Table
small_says c = table c.kind (left (answer c))

module _ (c : Call) (bytes : BytesOf c) (kept : (answer c).number ≡ 0) where
  -- old number to new, for glyphs and for lookups
  abbrev g : List (ℕ × ℕ)
  g = glyph_map c

  abbrev l : List (ℕ × ℕ)
  l = lookup_map c

  abbrev tests : Passed c.kind c.form c.packing c.source c.glyphs c.lookups c.buffer
  tests = passed c.kind c.form c.packing c.source c.glyphs c.lookups c.buffer kept

  abbrev good : GoodMap g
  good = good_glyph_map_lem c.form c.glyphs bytes.glyphs tests.glyphs_good

  -- `reads_back`: the bytes that are left say what was cut, and have no fault.
  pub reads_back : (left? c ≡ Some (small_says c)) × (fault c.kind (left (answer c)) ≡ None)
  reads_back = call_reads_back c.kind c.form c.packing c.source c.glyphs c.lookups c.buffer bytes.source bytes.glyphs bytes.lookups kept

  -- Demand 3.

  -- `context_same`: the small context matches at a place of the renumbered string of retained glyphs exactly if the source matches at that place of the string,
  -- with the same input length and the source's records in order, less those whose lookup was dropped, renumbered (`renumbered`, said without the cut).
  pub context_same : (string : List ℕ) (i : ℕ) → All (Retained g) string
      → at_place (match (small_says c)) [] (map (new g) string) i ≡ option_map (cut_match l) (at_place (match (says c)) [] string i)
  unfolding bind
  context_same string i r = rw reads_back.0 at (Same.context_same g l good c.kind c.source tests.sound string i r)

  -- `ligature_same`: the small table forms the same ligature, under its new number and of as many components, where the source forms one, and none where it forms none,
  -- if each ligature whose components are all retained has its own glyph retained (`Closed`).
  pub ligature_same : c.kind ≡ 3 → Closed g (says c) → (string : List ℕ) (i : ℕ) → All (Retained g) string
      → at_place (λ before x after. ligate (small_says c) x after) [] (map (new g) string) i ≡ option_map (cut_ligated g) (at_place (λ before x after. ligate (says c) x after) [] string i)
  unfolding bind
  ligature_same k closed string i r = rw reads_back.0 at (Same.ligature_same g l good c.kind k c.source tests.sound closed string i r)

  -- `pair_same`: each pair of retained glyphs is found or not as before, in both formats, with equal adjustments: signed 16-bit, absent fields 0.
  pub pair_same : c.kind ≡ 4 → (x y : ℕ) → Retained g x → Retained g y → adjust (small_says c) (new g x) (new g y) ≡ adjust (says c) x y
  unfolding bind
  pair_same k x y rx ry = rw reads_back.0 at (Same.pair_same g l good c.kind k c.source bytes.source tests.sound x y rx ry).0

  -- `pair_skipped`: its second glyph is skipped or not as before.
  pub pair_skipped : c.kind ≡ 4 → (x y : ℕ) → Retained g x → Retained g y → skips (small_says c) (new g x) (new g y) ≡ skips (says c) x y
  pair_skipped k x y rx ry = rw reads_back.0 at (Same.pair_same g l good c.kind k c.source bytes.source tests.sound x y rx ry).1

  -- `class_pair_found`: in pairs by class, each pair of retained glyphs whose first glyph is covered is found in the small table, with the source's adjustments.
  pub class_pair_found : (cov : List ℕ) (first second : Option (List (ℕ × ℕ))) (f1 f2 n : ℕ) (rows : List (List Pair)) → c.kind ≡ 4 → says c ≡ Table.class_pairs (Some cov) first second f1 f2 n rows
      → (x y : ℕ) → Retained g x → Retained g y → member x cov ≡ true
      → (is_some (adjust (small_says c) (new g x) (new g y)) ≡ true) × (adjust (small_says c) (new g x) (new g y) ≡ adjust (says c) x y)
  class_pair_found cov first second f1 f2 n rows k is x y rx ry m =
      let sound : fault 4 c.source ≡ None = subst (λ (k : ℕ). fault k c.source ≡ None) k tests.sound in
      let found =
      Same.pair_found g l good c.source bytes.source sound cov first second f1 f2 n rows
      (ap (λ (k : ℕ). table k c.source) (sym k) ∙ is) (small_says c) (ap (λ (k : ℕ). cut g l (table k c.source)) (sym k) ∙ reads_back.0) x y m
      in
      let same = pair_same k x y rx ry in
      (rw same (subst (λ (k : ℕ). is_some (adjust (table k c.source) x y) ≡ true) (sym k) found), same)

  -- `single_same`: a retained glyph whose substitute is retained is replaced as in the source, by the new number of that substitute, and one that had no substitute has none.
  pub single_same : c.kind ≡ 5 → (x : ℕ) → Retained g x → SubstituteRetained g (says c) x → substitute (small_says c) (new g x) ≡ option_map (new g) (substitute (says c) x)
  unfolding bind
  single_same k x rx closed = rw reads_back.0 at (Same.single_same g l good c.kind k c.source x rx closed)

  -- `singles_same`: so each retained glyph is replaced as in the source, where retained glyphs have retained substitutes (`SubstitutesRetained`).
  pub singles_same : c.kind ≡ 5 → SubstitutesRetained g (says c) → (x : ℕ) → Retained g x → substitute (small_says c) (new g x) ≡ option_map (new g) (substitute (says c) x)
  singles_same k closed x rx = single_same k x rx (closed x rx)

-- Glyph maps in either form.

-- `either_form`: a good map of pairs and a good map of runs with the same pairs give the same answer, number, length and buffer, whatever else is given.
pub either_form : (kind packing : ℕ) (s m m' l out : List ℕ) → good_glyph_map 4 m ≡ true → good_glyph_map 6 m' ≡ true → glyph_entries 4 m ≡ glyph_entries 6 m'
    → subset kind 4 packing s m l out ≡ subset kind 6 packing s m' l out
either_form = Forms.same_answer

-- `as_runs_lem`: each good map of pairs, written as runs of one, six bytes each, is a good map of runs with the same pairs.
pub as_runs_lem : (m : List ℕ) → Bytes m → good_glyph_map 4 m ≡ true → (good_glyph_map 6 (Forms.as_runs m) ≡ true) × (glyph_entries 6 (Forms.as_runs m) ≡ glyph_entries 4 m)
as_runs_lem = Forms.as_runs_lem

-- `either_job`: two good job files with the same kind, table and lookup map, one in `LSJ1` with pairs and one in `LSJ2` with runs that have the same pairs, give the same answer.
pub either_job : (f f' out : List ℕ) → good_job f ≡ true → good_job f' ≡ true → form_of f ≡ 4 → form_of f' ≡ 6 → word f (trailer f) ≡ word f' (trailer f')
    → bytes_of f (table_part f) ≡ bytes_of f' (table_part f') → bytes_of f (lookup_part f) ≡ bytes_of f' (lookup_part f')
    → good_glyph_map 4 (bytes_of f (glyph_part f)) ≡ true → good_glyph_map 6 (bytes_of f' (glyph_part f')) ≡ true → glyph_entries 4 (bytes_of f (glyph_part f)) ≡ glyph_entries 6 (bytes_of f' (glyph_part f'))
    → job f out ≡ job f' out
either_job = Forms.same_job

-- Pairs read as runs of one.
pub runs_of_one : (es : List (ℕ × ℕ)) → run_pairs (Forms.ones es) ≡ es
runs_of_one = Forms.ones_read

-- The packed layout. The table of refusals, demand 2's lengths and demand 3 above are of the layout that is asked for, plain or packed.

-- `one_header`: the plain layout of a table is the plain reading of the same header whose packed reading is the packed layout (`plain` in Headers.antt of `laws`, `packed` in Packed.antt of `meaning`).
pub one_header : (t : Table) → (table_words t ≡ plain (header t)) × (packed_words t ≡ packed (header t))
unfolding packed_words
one_header t = (plain_reading t, refl)

-- `no_two_equal`: of the sets, the coverages and the class tables that the packed layout of a table writes, no two of a kind are equal.
pub no_two_equal : (t : Table) (k : BlockKind) → Different (packed_blocks (header t) k)
no_two_equal = Packed.no_two_equal

-- `not_longer`: it is not longer than the plain layout, and each of its offsets and counts fits where those of the plain one do.
pub not_longer : (t : Table) → length (flat (packed_words t)) ≤ length (flat (table_words t))
not_longer = Packed.not_longer

pub packed_fits : (t : Table) → words_fit (table_words t) ≡ true → words_fit (packed_words t) ≡ true
packed_fits = Packed.packed_fits

-- `kept_packed`: so where a call for the plain layout is kept, the same call for the packed one is kept too, and its length is not greater.
pub kept_packed : (c : Call) (buffer : List ℕ) → (answer (in_layout 0 buffer c)).number ≡ 0
    → ((answer (in_layout 1 buffer c)).number ≡ 0) × ((answer (in_layout 1 buffer c)).len ≤ (answer (in_layout 0 buffer c)).len)
kept_packed = Packed.kept_packed

-- `packed_content`: where both are kept, the bytes of the packed layout say what those of the plain one say.
pub packed_content : (c : Call) → BytesOf c → (out out' : List ℕ) → (answer (in_layout 0 out c)).number ≡ 0 → (answer (in_layout 1 out' c)).number ≡ 0
    → small_says (in_layout 1 out' c) ≡ small_says (in_layout 0 out c)
packed_content c bytes out out' p q =
    let of : (packing : ℕ) (buffer : List ℕ) → BytesOf (in_layout packing buffer c) = λ packing buffer. record { source = bytes.source; glyphs = bytes.glyphs; lookups = bytes.lookups } in
    let plain_reads = (reads_back (in_layout 0 out c) (of 0 out) p).0 in
    let packed-reads = (reads_back (in_layout 1 out' c) (of 1 out') q).0 in
    ap (λ (o : Option Table). unwrap_or o (says c)) (sym packed-reads ∙ plain_reads)

-- An absent class table.

-- `null_class_table`: with a null table every glyph holds class 0, which alone survives there, as 0, where some glyph is retained.
pub null_class_table : (g : List (ℕ × ℕ)) (x : ℕ) → Retained g x → class_map? g None ≡ (0, 0) ∷ []
null_class_table = null_map

-- Bigger tables.

-- `kept_as_before`: where the refusals before 8 don't apply, a plain layout of at most 65,536 bytes, which is what was kept before the limit was raised, is not refused as 9.
-- Its bytes are the plain layout, as they were (`kept_is_laid`).
pub kept_as_before : (c : Call) → BytesOf c → c.packing ≡ 0 → good_kind c.kind ≡ true → good_glyph_map c.form c.glyphs ≡ true → fault c.kind c.source ≡ None → length (laid c) ≤ 65536 → too_big (laid_words c) ≡ false
kept_as_before c bytes p k m f l = Sizes.left_fits c.packing c.kind (left? c) p (left_good c.kind c.form c.source c.glyphs c.lookups bytes.source bytes.glyphs bytes.lookups k m f) l

-- `bytes_kept_before`: what was kept under the table of refusals with the limits as they were (`refusals_before` in Sizes.antt, where 4 and 9 go by 65,536 bytes) is kept now,
-- with the same bytes: the plain layout of what survives, which has not changed.
pub bytes_kept_before : (c : Call) → BytesOf c → c.packing ≡ 0 → NoneOf (refusals_before c) → ((answer c).number ≡ 0) × ((answer c).out ≡ laid c ++ drop (length (laid c)) c.buffer)
bytes_kept_before c bytes p n = Sizes.kept_before c (kept_as_before c bytes p) n

-- The condition on ligatures is needed: without it the small table forms another ligature than the source.
pub closed_needed : ((Matches.less_one).number ≡ 0) × (ligate (table 3 Matches.two_ligatures) 5 (6 ∷ 7 ∷ []) ≡ Some (20, 3)) × (ligate (table 3 (left Matches.less_one)) 0 (1 ∷ 2 ∷ []) ≡ Some (3, 2))
closed_needed = Matches.condition_needed

-- The condition on single substitutions is needed: a glyph whose substitute is not retained is replaced in the source and not in the small table; another one, in the same tables, is replaced in both.
pub substitute_needed : ((Matches.less_substitute).number ≡ 0) × (substitute (table 5 Matches.by_list) 5 ≡ Some 9) × (substitute (table 5 (left Matches.less_substitute)) 0 ≡ Some 2)
    × (substitute (table 5 Matches.by_list) 7 ≡ Some 3) × (substitute (table 5 (left Matches.less_substitute)) 1 ≡ None)
substitute_needed = Matches.substitute_needed

-- Records past their rule.

module _ (c : Call) (bytes : BytesOf c) (kept : (answer c).number ≡ 0) where
  -- `small_within`: no record of what is kept points past its rule.
  pub small_within : Within (small_says c)
  small_within = kept_within c kept (small_says c) (reads_back c bytes kept).0

  -- So what is kept, taken as a source of the same kind, is not answered 12, whatever the marks, the maps and the buffer are.
  abbrev pub again : ℕ → ℕ → List ℕ → List ℕ → List ℕ → Call
  again form packing glyphs lookups buffer = record { kind = c.kind; form = form; packing = packing; source = left (answer c); glyphs = glyphs; lookups = lookups; buffer = buffer }

  pub again_not_past : (form packing : ℕ) (glyphs lookups buffer : List ℕ) → (answer (again form packing glyphs lookups buffer)).number ≡ 12 → ⊥
  again_not_past form packing glyphs lookups buffer = not_past (again form packing glyphs lookups buffer) small_within

-- Pairs along a string.

module _ (c : Call) (bytes : BytesOf c) (kept : (answer c).number ≡ 0) (pairs : c.kind ≡ 4) where
  -- `skips_same`: the small table has a nonzero second format exactly if the source has one.
  pub skips_same : skipping (small_says c) ≡ skipping (says c)
  skips_same = skipping_same (g c bytes kept) (l c bytes kept) c.kind pairs c.source (small_says c) (reads_back c bytes kept).0

  -- So along a renumbered string of retained glyphs it finds, pair by pair, the pairs that the source finds along the string: at the same places, with equal adjustments, the same glyphs skipped.
  pub walk_same : (string : List ℕ) → All (Retained (g c bytes kept)) string → walk (small_says c) 0 (map (new (g c bytes kept)) string) ≡ walk (says c) 0 string
  walk_same string r = walks_same (g c bytes kept) (says c) (small_says c) skips_same (pair_same c bytes kept pairs) 0 string r

-- The label job.

module _ (file buffer : List ℕ) where
  -- `job_refused_exactly`: the answer is 11 exactly if the file is under 30 or over 65,536 bytes, has a wrong tag, or a part not wholly before the trailer (`FaultyFile`).
  -- It comes before everything else, whatever else is wrong, with length 0 and the buffer as it was.
  pub job_refused_exactly : ((job file buffer).number ≡ 11 → FaultyFile file) × (FaultyFile file → job file buffer ≡ refused buffer 11)
  job_refused_exactly = (refused_faulty file buffer, faulty_refused file buffer)

  -- `job_called`: otherwise the answer is that of the call on the trailer's kind and the three parts, number, length and buffer.
  pub job_called : (FaultyFile file → ⊥) → job file buffer ≡ answer (call_of file buffer)
  job_called = sound_called file buffer

-- Programs that must not pass: none of them meets the public statement on every call (`Passes`). Each program is a line or two in Wrong.antt.

-- It refuses everything, with one number.
pub refuses_everything : (n : ℕ) → Passes (refusing n) → ⊥
refuses_everything = Wrong.refuses_everything

-- It answers alike to everything.
pub answers_alike : (r : Outcome) → Passes (λ c. r) → ⊥
answers_alike = Wrong.answers_alike

-- It copies the source.
pub copies : Passes copying → ⊥
copies = Wrong.copies

-- It answers as it should and writes nothing.
pub writes_nothing : Passes not_writing → ⊥
writes_nothing = Wrong.writes_nothing

-- It writes a byte where it refuses.
pub writes_on_refusal : Passes writing → ⊥
writes_on_refusal = Wrong.writes_on_refusal

-- It invents a length: f is any function that changes the length 14.
pub invents_a_length : (f : ℕ → ℕ) → (f 14 ≡ 14 → ⊥) → Passes (inventing f) → ⊥
invents_a_length = Wrong.invents_a_length

-- It answers in another order: of two refusals that apply it gives the later. `Wrong.both` has a call for the neighbours of the written order that can apply to one call, save 9 with 10; `Wrong.swap_fails` is for any two.
pub another_order : All (λ b. Passes (swaps b.earlier b.later) → ⊥) Wrong.both
another_order = Wrong.another_order

-- It handles the first rule of each set only, and copies the others or drops them.
pub copies_the_other_rules : Passes copies_others → ⊥
copies_the_other_rules = Wrong.copies_the_other_rules

pub drops_the_other_rules : Passes drops_others → ⊥
drops_the_other_rules = Wrong.drops_the_other_rules

-- Both break demand 3 too: the source matches at a place, and what they leave of it does not match at that place of the renumbered string.
pub miss_the_second_rule : (at_place (match (says Wrong.two)) [] (5 ∷ 7 ∷ []) 0 ≡ Some (2, []))
    × (at_place (match (table 1 (left (copies_others Wrong.two)))) [] (0 ∷ 2 ∷ []) 0 ≡ None) × (at_place (match (table 1 (left (drops_others Wrong.two)))) [] (0 ∷ 2 ∷ []) 0 ≡ None)
miss_the_second_rule = Wrong.miss_the_second_rule
