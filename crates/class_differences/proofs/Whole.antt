-- Contexts by class as a whole: what is known of sound ones, and their list by numbers.
use Prim.Native.Nat.{ℕ, ◌+◌, ◌-◌, ◌*◌, ◌<◌}
use mathlib.Core.Path.{◌≡◌, refl, sym, ap, ◌∙◌}
use mathlib.Core.Bool.{Bool, true, false, cond}
use Rattle.std.specs.Prelude.{None, Some}
use mathlib.Core.List.{List, [], ◌∷◌, map}
use native.Mathlib.Omega.{arith}
use lib.ListN.{get_or}
use lib.Dec.{leb, eqb}
use borrow.Author.Tests.{leb-false}
use Rattle.meaning.specs.Words.{word, inside, bind, up_from}
use Rattle.meaning.specs.Parts.{class_in, class_of}
use Rattle.meaning.specs.Tables.{Rule, reaches, rule, rule_set, table}
use Rattle.meaning.specs.Fault.{rule_fault, set_fault, header_fault, context_fault}
use Rattle.meaning.specs.Cut.{glyphs_of}
use Rattle.laws.specs.Stands.{All}
use Rattle.laws.specs.ReadsBack.{fault_context}
use Rattle.laws.specs.SoundGood.{Bytes, part_sound, header_good}
use Rattle.coverage_index.specs.Index.{index_of}
use Rattle.differences.specs.Content.{Says, rule_says, class_runs?, set_holds, by_each_class, Content, content}
use Rattle.differences.specs.Entries.{same_says, each, beside, rule_entries, first_entries, differences}
use Rattle.difference_laws.specs.Ranks.{each_ranks}
use Rattle.first_glyphs.specs.First.{cover_of, sound_cover, sound_cover_lem, bind_same, cover_words, at_glyph, first_ids}
use Rattle.rule_rows.specs.Rows.{side_of}
use Rattle.rule_says.specs.declared.Shape.{Shape}
use Rattle.rule_says.specs.Said.{says_by}
use Rattle.set_numbers.specs.Sets.{codes_of, AllNumbered, SetsNumbered, Told}
use Rattle.gathered.specs.Gathered.{numbers_at}
use Rattle.set_differences.specs.Said.{place_says, glyph_told}
use Rattle.class_stretches.specs.Tables.{table_at}
use Rattle.class_places.specs.Places.{back_at, input_at, ahead_at, count_at, slots_at, slots_after}
use Rattle.class_tables.specs.Contexts.{set_at, set_place, rules_at, SoundTables, TablesNumbered, class_says, class_says_by}
use Rattle.class_tables.proofs.Telling.{class_says_tell, code_says}
use Rattle.class_tables.proofs.Numbering.{class_table, tables_sound, class_set}
use Rattle.class_differences.specs.Reached.{ByClass, shape_of, numbers_by, ClassTable, by_glyph, in_classes}

-- Sound contexts.

-- the coverage of a context without a fault is sound
class_cover : (chained : Bool) (s : List ℕ) → ByClass chained s → sound_cover s ≡ true
unfolding context_fault
class_cover chained s k = go chained (rw k.format at (part_sound 0 (inside s 0 2) (context_fault chained s) (sym (fault_context s chained) ∙ k.sound)).1)
  where
    go : (c : Bool) → cond c (header_fault true 3 10 (set_fault (rule_fault c s) s) s) (header_fault true 1 6 (set_fault (rule_fault c s) s) s) ≡ None → sound_cover s ≡ true
    go false f = sound_cover_lem s (header_good s true 1 6 (set_fault (rule_fault false s) s) f).1
    go true f = sound_cover_lem s (header_good s true 3 10 (set_fault (rule_fault true s) s) f).1

-- so are its class tables
pub sound_tables : (chained : Bool) (s : List ℕ) → ByClass chained s → SoundTables chained s
sound_tables chained s k = tables_sound chained s k.sound k.format

pub sound_class : (chained : Bool) (s : List ℕ) → ByClass chained s → ClassTable chained s
sound_class chained s k = record { cover = class_cover chained s k; input = (sound_tables chained s k).input }

-- the rules of two contexts are told by numbers, where the classes are
pub told_classes : (chained : Bool) {l r t num : List ℕ} {shape : Shape} {first : ℕ} → ((i : ℕ) → get_or l i 0 < 256) → ((i : ℕ) → get_or r i 0 < 256) → ByClass chained l → ByClass chained r → TablesNumbered chained l r t
    → shape ≡ shape_of chained → first ≡ slots_at chained → Told (says_by shape l r t) l r first num → Told (class_says_by chained l r) l r (slots_at chained) num
told_classes chained {l} {r} {t} {num} {shape} {first} bl br kl kr n e f k =
    let m : Told (says_by (shape_of chained) l r t) l r (slots_at chained) num = rw (e, f) at k in
    record {
      tells = λ c d p q. sym (class_says_tell chained bl br (sound_tables chained l kl) (sound_tables chained r kr) n c d) ∙ m.tells c d p q;
      few = m.few;
      lefts = m.lefts;
      rights = m.rights;
    }

-- Their content.

-- what a rule of a context says, and each covered glyph with what its rules say
abbrev say : Bool → List ℕ → Rule → Says
say chained s = rule_says (class_runs? (table_at s (back_at chained s))) (class_runs? (table_at s (input_at chained s))) (class_runs? (table_at s (ahead_at chained s)))

abbrev rules_by : Bool → List ℕ → List (ℕ × List Says)
rules_by chained s = by_each_class (say chained s) (table_at s (input_at chained s)) (cover_of s) (reaches (rule_set chained s) s 0 (count_at chained + 2) (word s (count_at chained)))

-- what the rules of a covered glyph say is what the codes of the set of its class say
rules_classes : (chained : Bool) (l r s : List ℕ) (side : ℕ) → side < 2 → side_of side l r ≡ s → (g : ℕ)
    → beside (rules_by chained s) g ≡ bind (index_of (cover_of s) g) (λ i. Some (map (class_says_by chained l r) (codes_of s side (set_place chained s g))))
unfolding by_each_class rules_at rule_set class_says
rules_classes chained l r s side h e g =
    by_glyph (λ c. map (say chained s) (set_holds (bind (table_at s (input_at chained s)) (λ t. get_or (reaches (rule_set chained s) s 0 (count_at chained + 2) (word s (count_at chained))) (class_of t c) None)))) (cover_of s) g
    ∙ bind_same (index_of (cover_of s) g) (λ i. ap Some (ap (map (say chained s)) (class_set chained s g) ∙ place_says (rule chained s) (say chained s) (class_says_by chained l r) s side (λ p. code_says chained l r side h p ∙ rw e) (rule_set chained s) (λ at. refl) (set_place chained s g)))

-- the rules that a glyph reaches by its class have numbers
place_numbered : (chained : Bool) (num s : List ℕ) (side g : ℕ) → SetsNumbered s side (slots_at chained) num → AllNumbered num (codes_of s side (set_place chained s g))
unfolding set_place set_at codes_of
place_numbered chained num s side g k = step (eqb (input_at chained s) 0) (leb (word s count) class) refl
  where
    count : ℕ
    count = count_at chained

    class : ℕ
    class = class_in (table_at s (input_at chained s)) g

    e : count + 2 - 2 ≡ count
    e = omega arith

    numbered : SetsNumbered s side (count + 2) num
    numbered = rw (slots_after chained) k

    step : (b d : Bool) → leb (word s count) class ≡ d → AllNumbered num (codes_of s side (cond b 0 (cond d 0 (word s (count + 2 + 2 * class)))))
    step true d q = tt
    step false true q = tt
    step false false q = numbered.all class (rw e (omega (arith, leb-false (word s count) class q)))

-- the first glyphs are words
glyphs_of_lem : (f : ℕ → List Says) (cov : List ℕ) → glyphs_of (map (λ g. (g, f g)) cov) ≡ cov
unfolding glyphs_of
glyphs_of_lem f [] = refl
glyphs_of_lem f (g ∷ cov) = ap (λ (l : List ℕ). g ∷ l) (glyphs_of_lem f cov)

firsts_small : (chained : Bool) (s : List ℕ) → Bytes s → sound_cover s ≡ true → All (λ k. k < 65536) (glyphs_of (rules_by chained s))
unfolding by_each_class
firsts_small chained s b h = rw (glyphs_of_lem (λ c. map (say chained s) (set_holds (bind (table_at s (input_at chained s)) (λ t. get_or (reaches (rule_set chained s) s 0 (count_at chained + 2) (word s (count_at chained))) (class_of t c) None)))) (cover_of s)) (cover_words s b h)

-- the list of two contents of one format
differ : (xs ys : List (ℕ × List Says)) → first_entries (rule_entries same_says) xs ys ≡ differences (Content.rules 2 xs) (Content.rules 2 ys)
unfolding differences
differ xs ys = refl

-- The list of two contexts whose rules have numbers.
pub whole_list : (chained : Bool) (l r num : List ℕ) → ByClass chained l → Bytes l → ByClass chained r → Bytes r → Told (class_says_by chained l r) l r (slots_at chained) num
    → each (at_glyph (rule_entries eqb) (numbers_by chained num l 0) (numbers_by chained num r 1)) (up_from 0 65536) ≡ differences (content (table (cond chained 2 1) l)) (content (table (cond chained 2 1) r))
unfolding side_of numbers_at
whole_list chained l r num a b c d k =
    each_ranks (at_glyph (rule_entries eqb) (numbers_by chained num l 0) (numbers_by chained num r 1)) (at_glyph (rule_entries same_says) (rules_by chained l) (rules_by chained r)) glyph (up_from 0 65536)
    ∙ first_ids (rule_entries same_says) (rules_by chained l) (rules_by chained r) (firsts_small chained l b (class_cover chained l a)) (firsts_small chained r d (class_cover chained r c))
    ∙ rw (class_table chained l a.format, class_table chained r c.format) (differ (rules_by chained l) (rules_by chained r))
  where
    glyph : (g : ℕ) → at_glyph (rule_entries eqb) (numbers_by chained num l 0) (numbers_by chained num r 1) g ≡ at_glyph (rule_entries same_says) (rules_by chained l) (rules_by chained r) g
    glyph g =
        glyph_told num (class_says_by chained l r) k.tells (numbers_by chained num l 0) (numbers_by chained num r 1) (rules_by chained l) (rules_by chained r) g (index_of (cover_of l) g) (index_of (cover_of r) g)
        (λ i. codes_of l 0 (set_place chained l g)) (λ j. codes_of r 1 (set_place chained r g))
        (in_classes chained num l 0 g) (in_classes chained num r 1 g)
        (rules_classes chained l r l 0 (omega arith) refl g) (rules_classes chained l r r 1 (omega arith) refl g)
        (λ i e. place_numbered chained num l 0 g k.lefts)
        (λ j e. place_numbered chained num r 1 g k.rights)
