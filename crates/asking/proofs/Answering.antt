-- The ways through asking a lookup.
use Prim.Native.Nat.{ℕ, zero, suc, ◌+◌, ◌*◌, ◌/◌, ◌≤◌, ◌<◌}
use mathlib.Core.Path.{◌≡◌, refl, sym, ◌∙◌}
use mathlib.Core.Bool.{Bool, true, false, cond, true≢false}
use Rattle.std.specs.Prelude.{Option, None, Some, option_map}
use mathlib.Core.List.{List, [], ◌∷◌, map}
use native.Mathlib.Omega.{arith}
use lib.ListN.{length, get_or, drop}
use lib.Dec.{eqb}
use borrow.Author.Tests.{eq-eqb, eqb-true}
use Rattle.meaning.specs.Words.{word, words, inside}
use Rattle.meaning.specs.Parts.{coverage, coverage_sound}
use Rattle.meaning.specs.Tables.{Table, reach, reaches, rule_set, table, context, class_context, cover_context, single}
use Rattle.meaning.specs.Fault.{fault, context_fault, single_fault, coverage_fault, fault_through}
use Rattle.meaning.specs.Matching.{at_place, match, substitute}
use Rattle.meaning.specs.Job.{long, bytes_of}
use Rattle.laws.specs.Left.{words_length}
use Rattle.laws.specs.SoundGood.{part_sound}
use Rattle.replay_laws.specs.Places.{backward, at_place_lem, no_place}
use Rattle.replaying.specs.Asking.{Answer, answer_of, ask}
use Rattle.replaying.specs.Listed.{entry_at, entries_from, listed, source_of, lookup_of, lookups_of}
use Rattle.replaying.specs.Applying.{lookup_at}
use Rattle.matching.specs.Fitting.{told_by, Told}
use Rattle.substitutes.specs.Substitutes.{SoundCover}
use Rattle.matching.specs.declared.Matched.{Matched}
use Rattle.holding.proofs.Holding.{place_glyph}
use Rattle.matching.proofs.Rows.{offset_sound, cover_fine}
use Rattle.lookup_list.specs.Ready.{Lookup, source_at, Ready}
use Rattle.lookup_list.proofs.Parts.{listed_source}
use Rattle.asking.specs.Asks.{Asks, InList}
use Rattle.asking.specs.declared.Asked.{Asked}
use Rattle.asking.specs.declared.Asked.TheVariants.{Nothing, Instead, Rule}

-- What a lookup's table is, by its kind, and that it is sound.
kind_two : (kind : ℕ) → eqb kind 2 ≡ false → kind ≡ 2 → ⊥
kind_two kind e f = true≢false (sym (eq-eqb kind 2 f) ∙ e)

module _ (kind : ℕ) (s : List ℕ) (h : Lookup kind s) where
  single_table : kind ≡ 5 → table kind s ≡ single s
  unfolding table
  single_table e = rw e

  context_table : (kind ≡ 5 → ⊥) → (b : Bool) → eqb kind 2 ≡ b → table kind s ≡ context b s
  unfolding table
  context_table z true e = rw (eqb-true kind 2 e)
  context_table z false e = rw (h.known z (kind_two kind e))

  context_sound : (kind ≡ 5 → ⊥) → (b : Bool) → eqb kind 2 ≡ b → context_fault b s ≡ None
  unfolding fault
  context_sound z true e = (part_sound 0 (inside s 0 2) (context_fault true s) (rw (eqb-true kind 2 e) at h.sound)).1
  context_sound z false e = (part_sound 0 (inside s 0 2) (context_fault false s) (rw (h.known z (kind_two kind e)) at h.sound)).1

  pub rule_sound_lem : (kind ≡ 5 → ⊥) → context_fault (eqb kind 2) s ≡ None
  rule_sound_lem z = context_sound z (eqb kind 2) refl

  single_fault_lem : kind ≡ 5 → single_fault s ≡ None
  unfolding fault
  single_fault_lem e = (part_sound 0 (inside s 0 2) (single_fault s) (rw e at h.sound)).1

  pub cover_sound : kind ≡ 5 → SoundCover s
  unfolding single_fault
  cover_sound e = (offset_sound s (coverage_fault s) (coverage_sound s) (cover_fine s) 2 0 (part_sound 0 _ (fault_through (coverage_fault s) s 0 2 1) (single_fault_lem e)).1).0

-- No table has both a rule and a substitute.
no_substitute : (b : Bool) (s : List ℕ) (g : ℕ) → substitute (context b s) g ≡ None
unfolding context class_context cover_context substitute
no_substitute b s g = step b (eqb (word s 0) 1) (eqb (word s 0) 2)
  where
    step : (b x y : Bool) → substitute (cond x (Table.by_glyph b (reach (coverage s) s 0 2) (reaches (rule_set b s) s 0 6 (word s 4))) (cond y (class_context b s) (cover_context b s))) g ≡ None
    step b true y = refl
    step true false true = refl
    step false false true = refl
    step true false false = refl
    step false false false = refl

no_match : (s before : List ℕ) (g : ℕ) (after : List ℕ) → match (single s) before g after ≡ None
unfolding single match
no_match s before g after = step (eqb (word s 0) 1)
  where
    step : (b : Bool) → match (cond b (Table.single_delta (reach (coverage s) s 0 2) (word s 4)) (Table.single_list (reach (coverage s) s 0 2) (words s 6 (word s 4)))) before g after ≡ None
    step true = refl
    step false = refl

asks : {s : List ℕ} {place n : ℕ} {x y : Answer} {a : Asked} → x ≡ y → Asks s place n y a → Asks s place n x a
asks e k = record { says = k.says ∙ sym e; small = k.small }

module _ (kind : ℕ) (s : List ℕ) (h : Lookup kind s) (string : List ℕ) (n place : ℕ) (l : place < n) where
  abbrev text : List ℕ
  text = words string 0 n

  abbrev asked : Answer
  asked = ask (table kind s) text place

  module _ (e : kind ≡ 5) {g : ℕ} (f : g ≡ word string (2 * place)) {r : Option ℕ} (k : r ≡ substitute (single s) g) where
    single_asked : asked ≡ answer_of None r
    unfolding ask
    single_asked =
        rw (
          single_table kind s h e,
          at_place_lem (match (single s)) text place (omega (arith, words_length string 0 n)),
          no_match s (backward text place) (get_or text place 0) (drop (suc place) text),
          at_place_lem (λ before g after. substitute (single s) g) text place (omega (arith, words_length string 0 n)),
          place_glyph string n place l f,
          ← k,
        )

    pub single_nothing : r ≡ None → Asks s place n asked Nothing
    unfolding answer_of
    single_nothing q = asks (single_asked ∙ rw q) (record { says = refl; small = tt })

    pub single_instead : {w : ℕ} → r ≡ Some w → w < 65536 → Asks s place n asked (Instead w)
    unfolding answer_of
    single_instead q m = asks (single_asked ∙ rw q) (record { says = refl; small = (m, l) })

  module _ (e : kind ≡ 5 → ⊥) {m : Option Matched} (k : Told s (at_place (match (context (eqb kind 2) s)) [] text place) m) where
    context_asked : asked ≡ answer_of (option_map (told_by s) m) None
    unfolding ask
    context_asked =
        rw (
          context_table kind s h e (eqb kind 2) refl,
          ← k.says,
          at_place_lem (λ before g after. substitute (context (eqb kind 2) s) g) text place (omega (arith, words_length string 0 n)),
          no_substitute (eqb kind 2) s (get_or text place 0),
        )

    pub context_nothing : m ≡ None → Asks s place n asked Nothing
    unfolding answer_of
    context_nothing q = asks (context_asked ∙ rw q) (record { says = refl; small = tt })

    pub context_rule : {r : Matched} → m ≡ Some r → Asks s place n asked (Rule r)
    unfolding answer_of
    context_rule q = asks (context_asked ∙ rw q) (record { says = refl; small = rw q at k.small })

-- A lookup of the list.
entries_at : (list : List ℕ) (at n k : ℕ) (buffer : List ℕ) (d : Table) → k < n → get_or (map (lookup_of buffer) (entries_from list at n)) k d ≡ lookup_of buffer (entry_at list (at + 10 * k))
unfolding entries_from
entries_at list at zero k buffer d h = absurd (omega arith)
entries_at list at (suc n) zero buffer d h =
    let e : at + 10 * 0 ≡ at = omega arith in
    rw e
entries_at list at (suc n) (suc k) buffer d h =
    let e : at + 10 * suc k ≡ at + 10 + 10 * k = omega arith in
    rw e (entries_at list (at + 10) n k buffer d (omega arith))

entries_past : (list : List ℕ) (at n k : ℕ) (buffer : List ℕ) (d : Table) → n ≤ k → get_or (map (lookup_of buffer) (entries_from list at n)) k d ≡ d
unfolding entries_from
entries_past list at zero k buffer d h = refl
entries_past list at (suc n) zero buffer d h = absurd (omega arith)
entries_past list at (suc n) (suc k) buffer d h = entries_past list (at + 10) n k buffer d (omega arith)

pub listed_table : (list buffer : List ℕ) (k : ℕ) → k < length list / 10 → lookup_at (lookups_of list buffer) k ≡ table (word list (10 * k)) (source_at list buffer k)
unfolding lookup_at lookups_of listed lookup_of source_of entry_at source_at
listed_table list buffer k h =
    let e : 0 + 10 * k ≡ 10 * k = omega arith in
    rw e at (entries_at list 0 (length list / 10) k buffer (Table.by_cover false [] [] [] []) h)

-- what answers nothing anywhere answers nothing at a place
nowhere : {A : Type 0} (ask : List ℕ → ℕ → List ℕ → Option A) → ((b : List ℕ) (g : ℕ) (a : List ℕ) → ask b g a ≡ None) → (text before : List ℕ) (place : ℕ) → at_place ask before text place ≡ None
unfolding at_place
nowhere ask h [] before place = refl
nowhere ask h (g ∷ text) before zero = h before g text
nowhere ask h (g ∷ text) before (suc place) = nowhere ask h text (g ∷ before) place

no_rule : (b : List ℕ) (g : ℕ) (a : List ℕ) → match (Table.by_cover false [] [] [] []) b g a ≡ None
unfolding match
no_rule b g a = refl

no_glyph : (b : List ℕ) (g : ℕ) (a : List ℕ) → substitute (Table.by_cover false [] [] [] []) g ≡ None
unfolding substitute
no_glyph b g a = refl

-- past the list
past_nothing : (text : List ℕ) (place : ℕ) → ask (Table.by_cover false [] [] [] []) text place ≡ Answer.nothing
unfolding ask answer_of
past_nothing text place = rw (nowhere (match (Table.by_cover false [] [] [] [])) no_rule text [] place, nowhere (λ before g after. substitute (Table.by_cover false [] [] [] []) g) no_glyph text [] place)

module _ (list buffer string : List ℕ) (n lookup place : ℕ) where
  pub past_list : length list / 10 ≤ lookup → Asks (source_at list buffer lookup) place n (ask (lookup_at (lookups_of list buffer) lookup) (words string 0 n) place) Nothing
  unfolding lookup_at lookups_of listed
  past_list h = asks (rw (entries_past list 0 (length list / 10) lookup buffer (Table.by_cover false [] [] [] []) h) (past_nothing (words string 0 n) place)) (record { says = refl; small = tt })

  -- past the string
  pub past_string : n ≤ place → Asks (source_at list buffer lookup) place n (ask (lookup_at (lookups_of list buffer) lookup) (words string 0 n) place) Nothing
  unfolding ask answer_of
  past_string h =
      let l : length (words string 0 n) ≤ place = omega (arith, words_length string 0 n) in
      asks (rw (no_place (match (lookup_at (lookups_of list buffer) lookup)) (words string 0 n) place l, no_place (λ before g after. substitute (lookup_at (lookups_of list buffer) lookup) g) (words string 0 n) place l)) (record { says = refl; small = tt })

module _ (list buffer : List ℕ) (lookup : ℕ) (h : lookup < length list / 10) {start len : ℕ} (e : start ≡ long list (10 * lookup + 2)) (f : len ≡ long list (10 * lookup + 6)) where
  -- a lookup of the list, at a place of the string
  pub listed_inside : Ready list buffer → start + len ≤ length buffer
  listed_inside r =
      let d : 10 * lookup + 2 + 4 ≡ 10 * lookup + 6 = omega arith in
      let q = rw d at (r.inside lookup h) in
      omega (arith, e, f)

  module _ {src : List ℕ} (k : src ≡ bytes_of buffer (record { start = start; len = len })) where
    same_source : src ≡ source_at list buffer lookup
    same_source = listed_source list buffer lookup e f k

    pub listed_word : (at : ℕ) {w : ℕ} → (w ≡ word src at) × (w < 65536) → (w ≡ word (source_at list buffer lookup) at) × (w < 65536)
    listed_word at t = rw (← same_source) t

    pub listed_lookup : {kind : ℕ} → kind ≡ word list (10 * lookup) → Ready list buffer → Lookup kind src
    listed_lookup g r = rw (g, same_source) (r.lookup lookup h)

    pub in_list : (string : List ℕ) (n place : ℕ) {kind : ℕ} → kind ≡ word list (10 * lookup) → {a : Asked} → Asks src place n (ask (table kind src) (words string 0 n) place) a → Asks (source_at list buffer lookup) place n (ask (lookup_at (lookups_of list buffer) lookup) (words string 0 n) place) a
    in_list string n place g t = rw (listed_table list buffer lookup h, ← same_source, ← g) t

pub in_any : {lookup many : ℕ} (a : Asked) → lookup < many → InList lookup many a
in_any Nothing h = tt
in_any (Instead g) h = tt
in_any (Rule m) h = h
