-- Tables of pairs: what is asked of a source, and what is left of it.
use Rattle.std.specs.Prelude.{ℕ, ◌≡◌, ◌&&◌, eqb, Option, None, Some, Result}
use Rattle.std.proofs.Math.Path.{refl, ap}
use Rattle.std.proofs.Common.{sym, ◌∙◌, zero-add, ne_eqb, eq-eqb}
use mathlib.Core.List.{List, [], ◌∷◌, map}
use Rattle.meaning.specs.Words.{word, find, bind}
use Rattle.meaning.specs.Parts.{coverage}
use Rattle.meaning.specs.Tables.{Table, Pair, field_count, reach, reaches, pair_set}
use Rattle.meaning.specs.Fault.{pair_set_fault, enough, header_fault, good_formats}
use Rattle.meaning.specs.Cut.{cut, cut_pairs, kept_sets, glyphs_of, sets_of, new_format, new_second, thin_pair, thin, kept_pairs}
use Rattle.meaning.specs.Layout.{block, pair_set_words, coverage_words, table_words}
use Rattle.meaning.specs.Packed.{header}
use Rattle.meaning.specs.Subset.{words_in}
use Rattle.cell_maps.specs.Cells.{Holds}
use Rattle.cell_maps.specs.declared.Map.{Map}
use Rattle.area.specs.Part.{notes}
use Rattle.handing.specs.Closed.{members}
use Rattle.numbers.specs.Entries.{entries_in}
use Rattle.numbers.specs.Alike.{holds_alike, pairs_alike}
use Rattle.kept_rules.specs.declared.Maps.{Maps}
use Rattle.range_meets.specs.Met.{met}
use Rattle.pair_places.specs.Formats.{pairs_left_lem}
use Rattle.pair_sets.specs.declared.Formats.{Formats}
use Rattle.field_uses.specs.New.{NewFormats, first_format, second_format}
use Rattle.placed_sets.specs.Sorts.{set_fault_of, set_left, left_in}
use Rattle.placed_sets.specs.Kept.{words_of, Small, Ready, kept_in}
use Rattle.placed_sets.specs.declared.Sort.{Sort}
use Rattle.placed_sets.specs.declared.Sort.TheVariants.{Pairs}
use Rattle.tried.specs.declared.NotCut.{NotCut}
use Rattle.kept_header.specs.Table.{sets_in, table_of}
use Rattle.kept_header.specs.Answers.{Answered}
use Rattle.cut_sets.specs.KeptIs.{as_words, kept_met, glyphs_as, sets_in_lem}
use Rattle.cut_sets.specs.Asked.{SoundSets, kept_from}

-- the table of a pair source, and where it is faulty, as the source says them
abbrev pub pair_table : List ℕ → Table
pair_table s = Table.pairs_of (reach (coverage s) s 0 2) (word s 4) (word s 6) (reaches (pair_set (field_count (word s 4)) (field_count (word s 6)) s) s 0 10 (word s 8))

abbrev pub pair_fault : List ℕ → Option ℕ
pair_fault s = header_fault (good_formats s && enough s (word s 8)) 0 8 (pair_set_fault (field_count (word s 4)) (field_count (word s 6)) s) s

-- the sort of its sets, before the new formats are known
abbrev pub pair_sort : List ℕ → Sort
pair_sort s = Pairs (record { f1 = word s 4; f2 = word s 6; n1 = 0; n2 = 0; size = 0 })

-- one map for all
abbrev pub one_map : Map → Maps
one_map g = record { back = g; input = g; ahead = g; lookups = g }

-- What is answered of a table of pairs: the table of the kept sets, with the new formats that they ask for.
pub record AnsweredPairs (packing : ℕ) (s t : List ℕ) (g : Map) (at m : ℕ) (out₀ : List ℕ) (a : ℕ) (r : Result ℕ NotCut) (out : List ℕ) : Type 0 where
  pub formats : Formats
  pub new : NewFormats (entries_in t g) s (notes t at m) formats
  pub answered : Answered (⊥) out₀ (table_of (eqb packing 1) (Pairs formats) (kept_in (Pairs formats) s t (one_map g) at m)) a r out

-- What the source's formats say is said of any with the same: the sets are sound.
module _ (s : List ℕ) (f : Formats) (e : f.f1 ≡ word s 4) (h : f.f2 ≡ word s 6) where
  same_fault : (at : ℕ) → set_fault_of (pair_sort s) s at ≡ None → set_fault_of (Pairs f) s at ≡ None
  unfolding set_fault_of
  same_fault at q = rw (e, h) q

  pub sound_pairs : SoundSets (pair_sort s) s → SoundSets (Pairs f) s
  sound_pairs a = record { short = a.short; counted = a.counted; header = a.header; cover = a.cover; enough = a.enough; sets = λ i l z. same_fault _ (a.sets i l z) }

  pub ready_pairs : {t : List ℕ} {maps : Maps} {at m : ℕ} → ((p : ℕ) → Small (left_in (Pairs f) t maps s p)) → Ready (pair_sort s) s t maps at m → Ready (Pairs f) s t maps at m
  ready_pairs k a = record {
    short = a.short;
    few = a.few;
    counted = a.counted;
    fits = a.fits;
    reaches = λ i l. record { inside = (a.reaches i l).inside; sound = λ z. same_fault _ ((a.reaches i l).sound z) };
    small = λ p q. k p;
    inside = a.inside;
    before = a.before;
  }

-- The words of kept pair sets, with the fields of the new formats.
module _ (f : Formats) where
  -- a pair set with these fields
  abbrev pub thinned : List Pair → List ℕ
  thinned ps = pair_set_words (map (thin_pair f.f1 f.f2 f.n1 f.n2) ps)

  sets_thin : (ks : List (ℕ × List Pair)) → members (words_of (as_words thinned ks)) ≡ map (block pair_set_words) (sets_of (thin f.f1 f.f2 f.n1 f.n2 ks))
  unfolding sets_of block thin
  sets_thin [] = refl
  sets_thin (k ∷ ks) = ap (λ (l : List (Option (List ℕ))). Some (thinned k.1) ∷ l) (sets_thin ks)

  pairs_in : (packing : ℕ) (cov : List ℕ) (sets : List (Option (List Pair)))
      → sets_in (eqb packing 1) (coverage_words cov) (f.n1 ∷ f.n2 ∷ []) (map (block pair_set_words) sets) ≡ words_in packing (Table.pairs_of (Some cov) f.n1 f.n2 sets)
  unfolding table_words header block
  pairs_in packing cov sets = sets_in_lem packing (coverage_words cov) (f.n1 ∷ f.n2 ∷ []) (map (block pair_set_words) sets) (Table.pairs_of (Some cov) f.n1 f.n2 sets) refl refl

  pairs_as : (packing : ℕ) (ks : List (ℕ × List Pair)) → f.n1 ≡ new_format (λ p. p.first_values) f.f1 ks → f.n2 ≡ new_second f.f2 ks
      → table_of (eqb packing 1) (Pairs f) (as_words thinned ks) ≡ block (words_in packing) (kept_pairs f.f1 f.f2 ks)
  unfolding table_of block kept_pairs
  pairs_as packing [] a b = refl
  pairs_as packing (k ∷ ks) a b = rw (← a, ← b, glyphs_as thinned (k ∷ ks), sets_thin (k ∷ ks)) (ap (λ (l : List ℕ). Some l) (pairs_in packing (glyphs_of (k ∷ ks)) (sets_of (thin f.f1 f.f2 f.n1 f.n2 (k ∷ ks)))))

-- what is left of a null coverage's table, and of one that is not null
module _ (g l : List (ℕ × ℕ)) (s : List ℕ) where
  pub pairs_null : word s 2 ≡ 0 → cut g l (pair_table s) ≡ None
  unfolding cut reach bind
  pairs_null z = rw (eq-eqb (word s 2) 0 z)

  pairs_there : (word s 2 ≡ 0 → ⊥) → cut g l (pair_table s) ≡ kept_pairs (word s 4) (word s 6) (kept_sets (cut_pairs g) g (coverage s (word s 2)) (reaches (pair_set (field_count (word s 4)) (field_count (word s 6)) s) s 0 10 (word s 8)))
  unfolding cut reach bind
  pairs_there z = rw (ne_eqb (word s 2) 0 z, zero-add)

-- What is left of a table of pairs, as the words of its kept sets say it.
module _ (g : List (ℕ × ℕ)) (s : List ℕ) {t : List ℕ} (maps : Maps) (i : Holds t maps.input g) (f : Formats) where
  pub pairs_agree : (p : ℕ) → left_in (Pairs f) t maps s p ≡ block (thinned f) (cut_pairs g (pair_set (field_count f.f1) (field_count f.f2) s p))
  unfolding set_left
  pairs_agree p =
      pairs_left_lem (entries_in t maps.input) f.f1 f.f2 f.n1 f.n2 s p
      ∙ ap (block (thinned f)) (pairs_alike (holds_alike i) (pair_set (field_count f.f1) (field_count f.f2) s p))

  module _ (new : NewFormats g s (met (find g) 0 (coverage s (word s 2))) f) (z : word s 2 ≡ 0 → ⊥) (a : SoundSets (Pairs f) s) where
    -- the kept sets
    abbrev kept : List (ℕ × List Pair)
    kept = kept_sets (cut_pairs g) g (coverage s (word s 2)) (reaches (pair_set (field_count f.f1) (field_count f.f2) s) s 0 10 (word s 8))

    first : f.n1 ≡ new_format (λ p. p.first_values) f.f1 kept
    first = new.n1 ∙ rw (← new.f1, ← new.f2) (first_format g s f.f1 f.f2 (coverage s (word s 2)) (word s 8) (a.enough z))

    second : f.n2 ≡ new_second f.f2 kept
    second = new.n2 ∙ rw (← new.f1, ← new.f2) (second_format g s f.f1 f.f2 (coverage s (word s 2)) (word s 8) (a.enough z))

    pub pairs_cut : (packing : ℕ) → table_of (eqb packing 1) (Pairs f) (kept_from (Pairs f) s g t maps) ≡ block (words_in packing) (cut g [] (pair_table s))
    pairs_cut packing =
        ap (table_of (eqb packing 1) (Pairs f)) (kept_met (pair_set (field_count f.f1) (field_count f.f2) s) (cut_pairs g) (thinned f) (left_in (Pairs f) t maps s) pairs_agree s 10 g 0 (coverage s (word s 2)) (word s 8) (a.enough z))
        ∙ pairs_as f packing kept first second
        ∙ ap (block (words_in packing)) (rw (new.f1, new.f2) (sym (pairs_there g [] s z)))
