-- A pair table by glyph as a whole: its first glyphs, each with its pairs, and what is known of a sound one.
use Rattle.std.specs.Prelude.{ℕ, ◌+◌, ◌*◌, ◌≤◌, ◌<◌, ◌≡◌, refl, Bool, true, false, cond, ◌&&◌, List, map, length, eqb, None, Some}
use Rattle.std.proofs.Common.{sym, ◌∙◌, zero-add, arith, eq-eqb}
use Rattle.std.proofs.Math.Path.{ap}
use Rattle.meaning.specs.Words.{word, inside, bind, up_from}
use Rattle.meaning.specs.Tables.{reach, reaches, field_count, pair_records, pair_set, pair_table, table}
use Rattle.meaning.specs.Fault.{pair_set_fault, header_fault, enough, good_formats, pair_fault, fault}
use Rattle.meaning.specs.Cut.{glyphs_of}
use Rattle.laws.specs.Runs.{Up, both}
use Rattle.laws.specs.Stands.{All}
use Rattle.laws.specs.ReadsBack.{fault_pairs, table_pairs}
use Rattle.laws.specs.SoundGood.{Bytes, part_sound, header_good, word_small}
use Rattle.coverage_index.specs.Index.{index_of}
use Rattle.differences.specs.Content.{Content, pair_says, set_holds, by_index, content}
use Rattle.differences.specs.Entries.{each, beside, pair_entries, first_entries, differences}
use Rattle.difference_laws.specs.Empty.{Sorted}
use Rattle.difference_laws.specs.Sound.{sound_sorted}
use Rattle.first_glyphs.specs.First.{cover_of, sound_cover, sound_cover_lem, covered_below, bind_same, by_slot, index_glyphs, cover_words, index_below, at_glyph, first_ids}
use Rattle.value_differences.specs.Held.{pairs_from, held}

-- each covered glyph with its pairs, as the content of the table says them
unfoldable pub pairs_in : List ℕ → List (ℕ × List (ℕ × List ℕ))
pairs_in s = by_index (pair_says (word s 4) (word s 6)) (cover_of s) (reaches (pair_set (field_count (word s 4)) (field_count (word s 6)) s) s 0 10 (word s 8))

-- What is known of a sound table: its coverage is sound, a covered glyph's pairs are those of the set in its slot, and they ascend.
pub record PairTable (s : List ℕ) : Type 0 where
  pub cover : sound_cover s ≡ true
  pub slots : (g : ℕ) → beside (pairs_in s) g ≡ bind (index_of (cover_of s) g) (λ i. Some (held s (word s (10 + 2 * i))))
  pub few : (g i : ℕ) → index_of (cover_of s) g ≡ Some i → i < 65536
  pub ascend : (g i : ℕ) → index_of (cover_of s) g ≡ Some i → Up 0 (glyphs_of (held s (word s (10 + 2 * i))))

-- what a slot's set holds
set_held : (s : List ℕ) (slot : ℕ) → map (pair_says (word s 4) (word s 6)) (set_holds (reach (pair_set (field_count (word s 4)) (field_count (word s 6)) s) s 0 slot)) ≡ held s (word s slot)
unfolding reach set_holds pair_set held pairs_from pair_records
set_held s slot = rw (zero-add (word s slot)) (step (eqb (word s slot) 0))
  where
    f : ℕ → List (ℕ × List ℕ)
    f n = map (pair_says (word s 4) (word s 6)) (pair_records s (field_count (word s 4)) (field_count (word s 6)) (word s slot + 2) n)

    step : (b : Bool) → map (pair_says (word s 4) (word s 6)) (set_holds (cond b None (Some (pair_records s (field_count (word s 4)) (field_count (word s 6)) (word s slot + 2) (word s (word s slot))))))
        ≡ f (cond b 0 (word s (word s slot)))
    step true = refl
    step false = refl

-- the content of a pair table by glyph
pub content_pairs : (s : List ℕ) → word s 0 ≡ 1 → content (table 4 s) ≡ Content.pairs (pairs_in s)
unfolding pair_table pairs_in content
content_pairs s f = rw (table_pairs s, eq-eqb _ _ f)

-- its value formats are good, and it has a set for each covered glyph
abbrev good_header : List ℕ → Bool
good_header s = good_formats s && enough s (word s 8)

module _ (s : List ℕ) (f : word s 0 ≡ 1) (h : fault 4 s ≡ None) where
  -- its header has no fault
  header : header_fault (good_header s) 0 8 (pair_set_fault (field_count (word s 4)) (field_count (word s 6)) s) s ≡ None
  unfolding pair_fault
  header = rw (eq-eqb _ _ f) at (part_sound 0 (inside s 0 2) (pair_fault s) (sym (fault_pairs s) ∙ h)).1

  pub covers : sound_cover s ≡ true
  covers = sound_cover_lem s (header_good s (good_header s) 0 8 (pair_set_fault (field_count (word s 4)) (field_count (word s 6)) s) header).1

  below : length (cover_of s) ≤ word s 8
  below = covered_below s (word s 8) covers (both (good_formats s) (enough s (word s 8)) (header_good s (good_header s) 0 8 (pair_set_fault (field_count (word s 4)) (field_count (word s 6)) s) header).0).1

  -- a covered glyph's pairs are those of the set in its slot
  in_slots : (g : ℕ) → beside (pairs_in s) g ≡ bind (index_of (cover_of s) g) (λ i. Some (held s (word s (10 + 2 * i))))
  unfolding pairs_in
  in_slots g =
      by_slot (pair_says (word s 4) (word s 6)) (pair_set (field_count (word s 4)) (field_count (word s 6)) s) s 10 (word s 8) below g
      ∙ bind_same (index_of (cover_of s) g) (λ i. ap Some (set_held s (10 + 2 * i)))

  -- a table without a fault is sound
  pub pair_table_lem : Bytes s → PairTable s
  unfolding bind
  pair_table_lem bytes = record {
    cover = covers;
    slots = in_slots;
    few = λ g i e. omega (arith, index_below (cover_of s) g i e, below, word_small s bytes 8);
    ascend = λ g i e. (sorted.1 g (held s (word s (10 + 2 * i))) (in_slots g ∙ rw e)).ascend;
  }
    where
      sorted : Sorted (Content.pairs (pairs_in s))
      sorted = rw (content_pairs s f) at (sound_sorted 4 s h)

-- the first glyphs of a table without a fault are words
pub firsts_small : (s : List ℕ) → Bytes s → sound_cover s ≡ true → All (λ k. k < 65536) (glyphs_of (pairs_in s))
unfolding pairs_in
firsts_small s b h = rw (index_glyphs (pair_says (word s 4) (word s 6)) (cover_of s) (reaches (pair_set (field_count (word s 4)) (field_count (word s 6)) s) s 0 10 (word s 8))) (cover_words s b h)

-- the list of two contents of pairs
differ : (l r : List (ℕ × List (ℕ × List ℕ))) → first_entries pair_entries l r ≡ differences (Content.pairs l) (Content.pairs r)
unfolding differences
differ l r = refl

-- The list of two tables, by all ids.
pub whole_list : (s t : List ℕ) → word s 0 ≡ 1 → PairTable s → Bytes s → word t 0 ≡ 1 → PairTable t → Bytes t
    → each (at_glyph pair_entries (pairs_in s) (pairs_in t)) (up_from 0 65536) ≡ differences (content (table 4 s)) (content (table 4 t))
whole_list s t p a b q c d =
    first_ids pair_entries (pairs_in s) (pairs_in t) (firsts_small s b a.cover) (firsts_small t d c.cover)
    ∙ rw (content_pairs s p, content_pairs t q) (differ (pairs_in s) (pairs_in t))
