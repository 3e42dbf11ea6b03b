-- Demand 1: which number is given exactly when, in the written order of documents 01 and 02; what a refusal leaves; and that nothing else can meet the public statement.
use Rattle.std.specs.Prelude.{ℕ, zero, suc, ◌≤◌, ◌<◌, ◌≡◌, Bool, cond, ◌&&◌, ◌||◌, take, drop, ltb, Option, None, Some, unwrap_or}
use Rattle.std.proofs.Math.Path.{refl, ap}
use Rattle.std.proofs.Common.{sym, ◌∙◌, true≢false, arith, length-append, length-drop}
use Rattle.std.proofs.Math.Bool.{true, false, not}
use mathlib.Core.List.{List, [], ◌∷◌, ◌++◌, map}
use Rattle.std.proofs.Math.ListN.{length}
use Rattle.std.proofs.Math.Dec.{eqb}
use borrow.Author.Tests.{ltb-true, ltb-false, eqb-false, eq-eqb, ne_eqb}
use Rattle.meaning.specs.Words.{word, inside, is_some, member, flat}
use Rattle.meaning.specs.Maps.{map_entries, good_lookups, good_form, glyph_entries, good_glyph_map}
use Rattle.meaning.specs.Tables.{Table, table}
use Rattle.meaning.specs.Fault.{fault}
use Rattle.meaning.specs.Records.{records_within}
use Rattle.meaning.specs.Cut.{cut}
use Rattle.meaning.specs.Layout.{words_fit}
use Rattle.meaning.specs.Subset.{Outcome, refused, place, limit, good_kind, has_format, has_device, too_big, laid_into, good_packing, words_in, written_in, subset}
use Rattle.laws.specs.Stands.{All}
use Rattle.laws.specs.CallBack.{subset_is, big_fit}
use Rattle.promises.specs.Numbers.{and_left, and_right}
use Rattle.promises.specs.Survives.{survives}
use Rattle.promises.specs.CutSurvives.{cut_survives}

-- what a call is given: `form` is the mark of the glyph map's form, `packing` the mark of the layout
pub record Call : Type 0 where
  pub kind : ℕ
  pub form : ℕ
  pub packing : ℕ
  pub source : List ℕ
  pub glyphs : List ℕ
  pub lookups : List ℕ
  pub buffer : List ℕ

-- what it answers
abbrev pub answer : Call → Outcome
answer c = subset c.kind c.form c.packing c.source c.glyphs c.lookups c.buffer

-- the glyph map's entries, in either form
abbrev pub glyph_map : Call → List (ℕ × ℕ)
glyph_map c = glyph_entries c.form c.glyphs

-- the lookup map's entries
abbrev pub lookup_map : Call → List (ℕ × ℕ)
lookup_map c = map_entries c.lookups

-- what is left of the call's table, if something survives
abbrev pub left? : Call → Option Table
left? c = cut (glyph_map c) (lookup_map c) (table c.kind c.source)

-- the words of what is left in the layout with this mark; none if nothing is
unfoldable pub words? : ℕ → Option Table → List ℕ
words? packing None = []
words? packing (Some t) = words_in packing t

-- the layout that is asked for: its words, and its bytes
abbrev pub laid_words : Call → List ℕ
laid_words c = words? c.packing (left? c)

abbrev pub laid : Call → List ℕ
laid c = flat (laid_words c)

-- the table of refusals of documents 01 and 02, in the written order: the number of each, and whether it applies to a call, each judged by itself
unfoldable pub refusals : Call → List (ℕ × Bool)
refusals c =
    -- kind not 1 to 5
    (1, not (good_kind c.kind))
    -- a mark of the form that is not 4 or 6
    ∷ (13, not (good_form c.form))
    -- a mark of the layout that is not 0
    ∷ (14, not (good_packing c.packing))
    -- glyph map length not a multiple of 4, or a column not strictly increasing; for runs a length not a multiple of 6, a count of 0, a run past 65,535 in a column, or runs not strictly increasing across entries
    ∷ (2, not (good_glyph_map c.form c.glyphs))
    -- a lookup map length not a multiple of 4, or an old column not strictly increasing
    ∷ (3, not (good_lookups c.lookups))
    -- source over the limit
    ∷ (4, ltb limit (length c.source))
    -- the first two bytes stand and hold a format the kind hasn't
    ∷ (5, inside c.source 0 2 && not (has_format c.kind (word c.source 0)))
    -- malformed
    ∷ (6, is_some (fault c.kind c.source))
    -- pair value format has a bit of 0x00F0
    ∷ (7, eqb c.kind 4 && (has_device (word c.source 4) || has_device (word c.source 6)))
    -- a record past its rule
    ∷ (12, not (records_within (table c.kind c.source)))
    -- nothing survives
    ∷ (8, not (survives (glyph_map c) (table c.kind c.source)))
    -- the layout is over the limit, or an offset or a count of it over 65,535
    ∷ (9, too_big (laid_words c))
    -- the buffer is shorter than the layout
    ∷ (10, ltb (length c.buffer) (length (laid c)))
    ∷ []

-- the number of the first refusal that applies; 0, kept, if none does
unfoldable pub first : List (ℕ × Bool) → ℕ
first [] = 0
first (r ∷ rs) = cond r.1 r.0 (first rs)

-- the length that goes with a number: of the layout where it is kept or there is no room for it, the place of the lowest faulty part with 6, and 0 otherwise
unfoldable pub length_by : Call → ℕ → ℕ
length_by c n = cond (eqb n 0 || eqb n 10) (length (laid c)) (cond (eqb n 6) (place c.kind c.source) 0)

-- The public statement: the first number that applies; the length that goes with it;
-- the layout that is asked for at the front of the buffer, and the rest of it as it was, where it is kept, and otherwise the buffer as it was.
pub record Meets (c : Call) (r : Outcome) : Type 0 where
  pub number : r.number ≡ first (refusals c)
  pub len : r.len ≡ length_by c r.number
  pub out : r.out ≡ cond (eqb r.number 0) (laid c ++ drop (length (laid c)) c.buffer) c.buffer

-- an outcome by its number, as the public statement gives it
by_number : Call → ℕ → Outcome
by_number c n = record { number = n; len = length_by c n; out = cond (eqb n 0) (laid c ++ drop (length (laid c)) c.buffer) c.buffer }

-- refusals that are tested before an outcome
tried : Call → List (ℕ × Bool) → Outcome → Outcome
tried c [] y = y
tried c (r ∷ rs) y = cond r.1 (by_number c r.0) (tried c rs y)

tried_is : (c : Call) (rs qs : List (ℕ × Bool)) (y : Outcome) → y ≡ by_number c (first qs) → tried c rs y ≡ by_number c (first (rs ++ qs))
unfolding first tried
tried_is c [] qs y e = e
tried_is c (r ∷ rs) qs y e = step r.1 (tried_is c rs qs y e)
  where
    step : (b : Bool) → tried c rs y ≡ by_number c (first (rs ++ qs)) → cond b (by_number c r.0) (tried c rs y) ≡ by_number c (cond b r.0 (first (rs ++ qs)))
    step true f = refl
    step false f = f

-- the last three
unfolded : (c : Call) (o : Option Table) → left? c ≡ o
    → written_in c.packing c.buffer o
    ≡ by_number c (cond (not (is_some o)) 8 (cond (too_big (words? c.packing o)) 9 (cond (ltb (length c.buffer) (length (flat (words? c.packing o)))) 10 0)))
unfolding written_in laid_into words? is_some length_by by_number
unfolded c None e = refl
unfolded c (Some t) e = step (too_big (words_in c.packing t)) (ltb (length c.buffer) (length bs))
  where
    bs : List ℕ
    bs = flat (words_in c.packing t)

    step : (b d : Bool) → cond b (refused c.buffer 9) (cond d (record { number = 10; len = length bs; out = c.buffer }) (record { number = 0; len = length bs; out = bs ++ drop (length bs) c.buffer })) ≡ by_number c (cond b 9 (cond d 10 0))
    step true d = refl
    step false true = rw e
    step false false = rw e

-- the call's outcome, by its number
answer_is : (c : Call) → answer c ≡ by_number c (first (refusals c))
unfolding refusals first length_by by_number tried
answer_is c =
    subset_is c.kind c.form c.packing c.source c.glyphs c.lookups c.buffer
    ∙ tried_is c (take 10 (refusals c)) (drop 10 (refusals c)) (written_in c.packing c.buffer (left? c))
    (rw (cut_survives (glyph_map c) (lookup_map c) (table c.kind c.source)) at (unfolded c (left? c) refl))

-- the call meets the public statement
pub answer_meets : (c : Call) → Meets c (answer c)
unfolding by_number
answer_meets c = rw (answer_is c) (record { number = refl; len = refl; out = refl })

-- what meets it is the outcome by its number
meets_is : (c : Call) (r : Outcome) → Meets c r → r ≡ by_number c (first (refusals c))
unfolding by_number
meets_is c r m = (λ i. record { number = r.number; len = m.len i; out = m.out i }) ∙ ap (by_number c) m.number

-- two outcomes that meet it are equal
pub meets_once : (c : Call) (r q : Outcome) → Meets c r → Meets c q → r ≡ q
meets_once c r q m k = meets_is c r m ∙ sym (meets_is c q k)

-- Which number is given exactly when.

-- no number is 0, and none stands twice
abbrev numbers : List (ℕ × Bool) → List ℕ
numbers rs = map (λ r. r.0) rs

unfoldable apart : List (ℕ × Bool) → Bool
apart [] = true
apart (r ∷ rs) = not (eqb r.0 0) && (not (member r.0 (numbers rs)) && apart rs)

member_here : (before : List (ℕ × Bool)) (n : ℕ) (b : Bool) (after : List (ℕ × Bool)) → member n (numbers (before ++ ((n, b) ∷ after))) ≡ true
unfolding member
member_here [] n b after = rw (eq-eqb n n refl)
member_here (r ∷ before) n b after = step (eqb r.0 n) (member_here before n b after)
  where
    step : (t : Bool) → member n (numbers (before ++ ((n, b) ∷ after))) ≡ true → t || member n (numbers (before ++ ((n, b) ∷ after))) ≡ true
    step true h = refl
    step false h = h

-- a number that is not in such a list is not its first
first_not : (n : ℕ) (rs : List (ℕ × Bool)) → member n (numbers rs) ≡ false → (n ≡ 0 → ⊥) → first rs ≡ n → ⊥
unfolding first member
first_not n [] h z e = z (sym e)
first_not n (r ∷ rs) h z e = step r.1 (eqb r.0 n) refl h e (λ k. first_not n rs k z)
  where
    step : (b t : Bool) → eqb r.0 n ≡ t → t || member n (numbers rs) ≡ false → cond b r.0 (first rs) ≡ n → (member n (numbers rs) ≡ false → first rs ≡ n → ⊥) → ⊥
    step b true q k f i = true≢false k
    step true false q k f i = eqb-false r.0 n q f
    step false false q k f i = i k f

-- none of these applies
abbrev pub NoneOf : List (ℕ × Bool) → Type 0
NoneOf = All (λ r. r.1 ≡ false)

not_zero : (n : ℕ) → not (eqb n 0) ≡ true → n ≡ 0 → ⊥
not_zero n h e = true≢false (sym h ∙ rw (eq-eqb n 0 e))

not_in : (b : Bool) → not b ≡ true → b ≡ false
not_in true h = sym h
not_in false h = refl

given : (before : List (ℕ × Bool)) (n : ℕ) (b : Bool) (after : List (ℕ × Bool)) → apart (before ++ ((n, b) ∷ after)) ≡ true → first (before ++ ((n, b) ∷ after)) ≡ n → (b ≡ true) × NoneOf before
unfolding first apart
given [] n true after h e = (refl, tt)
given [] n false after h e =
    absurd (first_not n after (not_in (member n (numbers after)) (and_left (not (member n (numbers after))) _ (and_right (not (eqb n 0)) _ h))) (not_zero n (and_left (not (eqb n 0)) _ h)) e)
given (r ∷ before) n b after h e = step r.1 refl e (given before n b after (and_right (not (member r.0 (numbers rest))) _ (and_right (not (eqb r.0 0)) _ h)))
  where
    rest : List (ℕ × Bool)
    rest = before ++ ((n, b) ∷ after)

    fresh : member r.0 (numbers rest) ≡ false
    fresh = not_in (member r.0 (numbers rest)) (and_left (not (member r.0 (numbers rest))) _ (and_right (not (eqb r.0 0)) _ h))

    step : (t : Bool) → r.1 ≡ t → cond t r.0 (first rest) ≡ n → (first rest ≡ n → (b ≡ true) × NoneOf before) → (b ≡ true) × ((r.1 ≡ false) × NoneOf before)
    step true f q k = absurd (true≢false (sym (member_here before n b after) ∙ ap (λ (m : ℕ). member m (numbers rest)) (sym q) ∙ fresh))
    step false f q k = ((k q).0, (f, (k q).1))

gives : (before : List (ℕ × Bool)) (n : ℕ) (b : Bool) (after : List (ℕ × Bool)) → b ≡ true → NoneOf before → first (before ++ ((n, b) ∷ after)) ≡ n
unfolding first
gives [] n b after e h = rw e
gives (r ∷ before) n b after e h = rw h.0 (gives before n b after e h.1)

kept_first : (rs : List (ℕ × Bool)) → apart rs ≡ true → first rs ≡ 0 → NoneOf rs
unfolding first apart
kept_first [] h e = tt
kept_first (r ∷ rs) h e = step r.1 refl e (kept_first rs (and_right (not (member r.0 (numbers rs))) _ (and_right (not (eqb r.0 0)) _ h)))
  where
    step : (t : Bool) → r.1 ≡ t → cond t r.0 (first rs) ≡ 0 → (first rs ≡ 0 → NoneOf rs) → (r.1 ≡ false) × NoneOf rs
    step true f q k = absurd (not_zero r.0 (and_left (not (eqb r.0 0)) _ h) q)
    step false f q k = (f, k q)

first_kept : (rs : List (ℕ × Bool)) → NoneOf rs → first rs ≡ 0
unfolding first
first_kept [] h = refl
first_kept (r ∷ rs) h = rw h.0 (first_kept rs h.1)

refusals_apart : (c : Call) → apart (refusals c) ≡ true
unfolding refusals apart member
refusals_apart c = refl

module _ (c : Call) where
  -- a number of the table is given exactly if it applies and none before it does
  pub given_exactly : (before : List (ℕ × Bool)) (n : ℕ) (applies : Bool) (after : List (ℕ × Bool)) → refusals c ≡ before ++ ((n, applies) ∷ after)
      → ((answer c).number ≡ n → (applies ≡ true) × NoneOf before) × (applies ≡ true → NoneOf before → (answer c).number ≡ n)
  given_exactly before n b after e =
      let f = (answer_meets c).number ∙ ap first e in
      (λ q. given before n b after (rw e at (refusals_apart c)) (sym f ∙ q), λ t h. f ∙ gives before n b after t h)

  -- it is kept exactly if none applies
  pub kept_exactly : ((answer c).number ≡ 0 → NoneOf (refusals c)) × (NoneOf (refusals c) → (answer c).number ≡ 0)
  kept_exactly =
      let f = (answer_meets c).number in
      (λ q. kept_first (refusals c) (refusals_apart c) (sym f ∙ q), λ h. f ∙ first_kept (refusals c) h)

  -- a refusal leaves the buffer as it was
  pub refused_untouched : ((answer c).number ≡ 0 → ⊥) → (answer c).out ≡ c.buffer
  refused_untouched h = (answer_meets c).out ∙ rw (ne_eqb (answer c).number 0 h)

  -- and its length is 0, save 6 and no room
  pub refused_length : ((answer c).number ≡ 0 → ⊥) → ((answer c).number ≡ 6 → ⊥) → ((answer c).number ≡ 10 → ⊥) → (answer c).len ≡ 0
  unfolding length_by
  refused_length h i k = (answer_meets c).len ∙ rw (ne_eqb (answer c).number 0 h, ne_eqb (answer c).number 10 k, ne_eqb (answer c).number 6 i)

  -- with 6 it is the place of the lowest faulty part
  pub malformed_place : (answer c).number ≡ 6 → Some (answer c).len ≡ fault c.kind c.source
  unfolding length_by refusals is_some
  malformed_place h =
      let t = ((given_exactly (take 7 (refusals c)) 6 (is_some (fault c.kind c.source)) (drop 8 (refusals c)) refl).0 h).0 in
      ap Some ((answer_meets c).len ∙ rw h) ∙ step (fault c.kind c.source) t
    where
      step : (o : Option ℕ) → is_some o ≡ true → Some (unwrap_or o 0) ≡ o
      step None q = absurd (true≢false (sym q))
      step (Some p) q = refl

  -- with 10 it is the length needed, and the buffer is shorter
  pub no_room : (answer c).number ≡ 10 → ((answer c).len ≡ length (laid c)) × (length c.buffer < length (laid c))
  unfolding refusals length_by
  no_room h = (
    (answer_meets c).len ∙ rw h,
    ltb-true (length c.buffer) (length (laid c)) ((given_exactly (take 12 (refusals c)) 10 (ltb (length c.buffer) (length (laid c))) [] refl).0 h).0,
  )

  -- what is kept: its length is that of the layout, which is at most the limit and the buffer, and each word of it fits 16 bits
  pub kept_length : (answer c).number ≡ 0 → ((answer c).len ≡ length (laid c)) × ((answer c).len ≤ limit) × ((answer c).len ≤ length c.buffer) × (words_fit (laid_words c) ≡ true)
  unfolding refusals length_by
  kept_length h =
      let l : (answer c).len ≡ length (laid c) = (answer_meets c).len ∙ rw h in
      let n = kept_exactly.0 h in
      let late = n.1.1.1.1.1.1.1.1.1.1.1 in
      let f = big_fit (laid_words c) late.0 in
      (l, omega (arith, f.1), omega (arith, ltb-false (length c.buffer) (length (laid c)) late.1.0), f.0)

  -- its bytes are the layout, and those past them keep their old content
  pub kept_bytes : (answer c).number ≡ 0 → (answer c).out ≡ laid c ++ drop (answer c).len c.buffer
  kept_bytes h = (answer_meets c).out ∙ rw (h, (kept_length h).0)

  -- the buffer is as long as before, whatever the answer
  pub buffer_length : length (answer c).out ≡ length c.buffer
  buffer_length = step (answer c).number refl
    where
      step : (n : ℕ) → (answer c).number ≡ n → length (answer c).out ≡ length c.buffer
      step zero e =
          let k = kept_length e in
          omega (arith, ap length (kept_bytes e), length-append (laid c) (drop (answer c).len c.buffer), length-drop (answer c).len c.buffer)
      step (suc n) e = ap length (refused_untouched (λ q. omega arith))

  -- where none of the refusals before it applies the number is 8 exactly if nothing survives
  pub empty_on_good : NoneOf (take 10 (refusals c)) → eqb (answer c).number 8 ≡ not (survives (glyph_map c) (table c.kind c.source))
  unfolding refusals first
  empty_on_good h =
      let r = h.1.1.1.1.1 in
      ap (λ (n : ℕ). eqb n 8) (answer_meets c).number
      ∙ rw (h.0, h.1.0, h.1.1.0, h.1.1.1.0, h.1.1.1.1.0, r.0, r.1.0, r.1.1.0, r.1.1.1.0, r.1.1.1.1.0)
      (step (survives (glyph_map c) (table c.kind c.source)) (too_big (laid_words c)) (ltb (length c.buffer) (length (laid c))))
    where
      step : (t big short : Bool) → eqb (cond (not t) 8 (cond big 9 (cond short 10 0))) 8 ≡ not t
      step false big short = refl
      step true true short = refl
      step true false true = refl
      step true false false = refl
