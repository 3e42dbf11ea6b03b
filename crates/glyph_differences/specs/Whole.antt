-- A subtable of rules by coverage index as a whole: what is known of a sound one, and its list by numbers.
use Rattle.std.specs.Prelude.{ℕ, zero, suc, ◌+◌, ◌*◌, ◌/◌, ◌%◌, ◌≤◌, ◌<◌, ◌≡◌, Bool, cond, List, map, Option, None, Some}
use Rattle.std.proofs.Math.Path.{refl, ap}
use Rattle.std.proofs.Common.{sym, ◌∙◌, eq-eqb}
use Rattle.std.proofs.Math.Bool.{true, false}
use native.Mathlib.Omega.{arith}
use Rattle.std.proofs.Math.Dec.{eqb}
use Rattle.meaning.specs.Words.{word, inside, bind, up_from}
use Rattle.meaning.specs.Tables.{reaches, rule, rule_set, ligature, ligature_set, context, table}
use Rattle.meaning.specs.Fault.{rule_fault, ligature_fault, set_fault, enough, header_fault, context_fault}
use Rattle.meaning.specs.Cut.{glyphs_of}
use Rattle.laws.specs.Stands.{All}
use Rattle.laws.specs.ReadsBack.{fault_is, fault_ligatures}
use Rattle.laws.specs.SoundGood.{Bytes, part_sound, header_good, word_small}
use Rattle.coverage_index.specs.Index.{index_of}
use Rattle.differences.specs.Content.{Says, rule_says, one_glyph, ligature_says, by_index, Content, content}
use Rattle.differences.specs.Entries.{same_says, each, beside, rule_entries, first_entries, differences}
use Rattle.difference_laws.specs.Ranks.{each_ranks}
use Rattle.first_glyphs.specs.First.{cover_of, sound_cover, sound_cover_lem, covered_below, bind_same, by_slot, index_glyphs, cover_words, index_below, at_glyph, first_ids}
use Rattle.rule_rows.specs.Rows.{side_of, number_by}
use Rattle.rule_says.specs.Said.{numbered, ligature_by, says_at, base_of, says_by}
use Rattle.set_numbers.specs.Sets.{codes_of, Told}
use Rattle.gathered.specs.Gathered.{numbers_at}
use Rattle.set_differences.specs.Said.{set_says, glyph_told}
use Rattle.glyph_differences.specs.Slots.{ByGlyph, numbers_by, SlotTable, in_slots}

-- Sound subtables.

module _ (s : List ℕ) (bytes : Bytes s) where
  -- from a header without a fault
  from_header : (sets : ℕ → Option ℕ) → header_fault (enough s (word s 4)) 0 4 sets s ≡ None → SlotTable s
  from_header sets h =
      let p = header_good s (enough s (word s 4)) 0 4 sets h in
      let c = sound_cover_lem s p.1 in
      record { cover = c; enough = covered_below s (word s 4) c p.0; few = word_small s bytes 4 }

  from_context : (chained : Bool) → word s 0 ≡ 1 → context_fault chained s ≡ None → SlotTable s
  unfolding context_fault
  from_context chained f h = from_header (set_fault (rule_fault chained s) s) (rw (eq-eqb _ _ f) at h)

  pub slot_table : (kind : ℕ) → ByGlyph kind s → SlotTable s
  slot_table zero k = absurd (omega (arith, k.low))
  slot_table (suc zero) k = from_context false k.format (part_sound 0 (inside s 0 2) _ (sym (fault_is 1 s) ∙ k.sound)).1
  slot_table (suc (suc zero)) k = from_context true k.format (part_sound 0 (inside s 0 2) _ (sym (fault_is 2 s) ∙ k.sound)).1
  slot_table (suc (suc (suc zero))) k = from_header (set_fault (ligature_fault s) s) (part_sound 0 (inside s 0 2) _ (sym (fault_ligatures s) ∙ k.sound)).1
  slot_table (suc (suc (suc (suc n)))) k = absurd (omega (arith, k.high))

-- Their content.

-- each covered glyph with what its rules say
unfoldable pub rules_by : ℕ → List ℕ → List (ℕ × List Says)
rules_by kind s =
    cond (eqb kind 3) (by_index ligature_says (cover_of s) (reaches (ligature_set s) s 0 6 (word s 4)))
    (by_index (rule_says one_glyph one_glyph one_glyph) (cover_of s) (reaches (rule_set (eqb kind 2) s) s 0 6 (word s 4)))

content_rules : (kind : ℕ) (s : List ℕ) → ByGlyph kind s → content (table kind s) ≡ Content.rules 1 (rules_by kind s)
unfolding table context content rules_by
content_rules zero s k = absurd (omega (arith, k.low))
content_rules (suc zero) s k = rw (eq-eqb (word s 0) 1 k.format)
content_rules (suc (suc zero)) s k = rw (eq-eqb (word s 0) 1 k.format)
content_rules (suc (suc (suc zero))) s k = refl
content_rules (suc (suc (suc (suc n)))) s k = absurd (omega (arith, k.high))

module _ (kind : ℕ) (l r t : List ℕ) where
  -- what a code says
  abbrev says : ℕ → Says
  says = says_by (record { kind = kind; classes = 0 }) l r t

  code_says : (side p : ℕ) → side ≤ 1 → says (2 * p + side) ≡ says_at kind (side_of side l r) t 0 0 0 p
  unfolding says_by base_of
  code_says side p h =
      let a : (2 * p + side) % 2 ≡ side = omega arith in
      let b : (2 * p + side) / 2 ≡ p = omega arith in
      rw (a, b)

  -- what the rules of a covered glyph say is what the codes of the set in its slot say
  rules_slots : (s : List ℕ) (side : ℕ) → side ≤ 1 → side_of side l r ≡ s → SlotTable s → (g : ℕ) → beside (rules_by kind s) g ≡ bind (index_of (cover_of s) g) (λ i. Some (map says (codes_of s side (word s (6 + 2 * i)))))
  unfolding rules_by rule_set ligature_set says_at ligature_by ligature_says rule_says numbered number_by
  rules_slots s side h e a g = step (eqb kind 3) refl
    where
      step : (b : Bool) → eqb kind 3 ≡ b
          → beside (cond b (by_index ligature_says (cover_of s) (reaches (ligature_set s) s 0 6 (word s 4))) (by_index (rule_says one_glyph one_glyph one_glyph) (cover_of s) (reaches (rule_set (eqb kind 2) s) s 0 6 (word s 4)))) g
          ≡ bind (index_of (cover_of s) g) (λ i. Some (map says (codes_of s side (word s (6 + 2 * i)))))
      step true q =
          by_slot ligature_says (ligature_set s) s 6 (word s 4) a.enough g
          ∙ bind_same (index_of (cover_of s) g) (λ i. ap Some (set_says (ligature s) ligature_says says s side (λ p. code_says side p h ∙ rw (e, q)) (ligature_set s) (λ at. refl) (6 + 2 * i)))
      step false q =
          by_slot (rule_says one_glyph one_glyph one_glyph) (rule_set (eqb kind 2) s) s 6 (word s 4) a.enough g
          ∙ bind_same (index_of (cover_of s) g) (λ i. ap Some (set_says (rule (eqb kind 2) s) (rule_says one_glyph one_glyph one_glyph) says s side (λ p. code_says side p h ∙ rw (e, q)) (rule_set (eqb kind 2) s) (λ at. refl) (6 + 2 * i)))

-- the first glyphs of a sound subtable are words
firsts_small : (kind : ℕ) (s : List ℕ) → Bytes s → sound_cover s ≡ true → All (λ k. k < 65536) (glyphs_of (rules_by kind s))
unfolding rules_by
firsts_small kind s b h = step (eqb kind 3)
  where
    step : (c : Bool) → All (λ k. k < 65536) (glyphs_of (cond c (by_index ligature_says (cover_of s) (reaches (ligature_set s) s 0 6 (word s 4))) (by_index (rule_says one_glyph one_glyph one_glyph) (cover_of s) (reaches (rule_set (eqb kind 2) s) s 0 6 (word s 4)))))
    step true = rw (index_glyphs ligature_says (cover_of s) (reaches (ligature_set s) s 0 6 (word s 4))) (cover_words s b h)
    step false = rw (index_glyphs (rule_says one_glyph one_glyph one_glyph) (cover_of s) (reaches (rule_set (eqb kind 2) s) s 0 6 (word s 4))) (cover_words s b h)

-- the list of two contents of one format
differ : (xs ys : List (ℕ × List Says)) → first_entries (rule_entries same_says) xs ys ≡ differences (Content.rules 1 xs) (Content.rules 1 ys)
unfolding differences
differ xs ys = refl

-- The list of two subtables whose rules have numbers.
pub whole_list : (kind : ℕ) (l r t num : List ℕ) → ByGlyph kind l → Bytes l → ByGlyph kind r → Bytes r → Told (says_by (record { kind = kind; classes = 0 }) l r t) l r 6 num
    → each (at_glyph (rule_entries eqb) (numbers_by num l 0) (numbers_by num r 1)) (up_from 0 65536) ≡ differences (content (table kind l)) (content (table kind r))
unfolding side_of numbers_at
whole_list kind l r t num a b c d k =
    each_ranks (at_glyph (rule_entries eqb) (numbers_by num l 0) (numbers_by num r 1)) (at_glyph (rule_entries same_says) (rules_by kind l) (rules_by kind r)) glyph (up_from 0 65536)
    ∙ first_ids (rule_entries same_says) (rules_by kind l) (rules_by kind r) (firsts_small kind l b x.cover) (firsts_small kind r d y.cover)
    ∙ rw (content_rules kind l a, content_rules kind r c) (differ (rules_by kind l) (rules_by kind r))
  where
    x : SlotTable l
    x = slot_table l b kind a

    y : SlotTable r
    y = slot_table r d kind c

    glyph : (g : ℕ) → at_glyph (rule_entries eqb) (numbers_by num l 0) (numbers_by num r 1) g ≡ at_glyph (rule_entries same_says) (rules_by kind l) (rules_by kind r) g
    glyph g =
        glyph_told num (says_by (record { kind = kind; classes = 0 }) l r t) k.tells (numbers_by num l 0) (numbers_by num r 1) (rules_by kind l) (rules_by kind r) g (index_of (cover_of l) g) (index_of (cover_of r) g)
        (λ i. codes_of l 0 (word l (6 + 2 * i))) (λ j. codes_of r 1 (word r (6 + 2 * j)))
        (in_slots num l 0 x g) (in_slots num r 1 y g)
        (rules_slots kind l r t l 0 (omega arith) refl x g) (rules_slots kind l r t r 1 (omega arith) refl y g)
        (λ i e. k.lefts.all i (omega (arith, index_below (cover_of l) g i e, x.enough)))
        (λ j e. k.rights.all j (omega (arith, index_below (cover_of r) g j e, y.enough)))
