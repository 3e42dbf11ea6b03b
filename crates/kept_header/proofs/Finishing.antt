-- The gap is taken out of the offsets, and the coverage and the header are written: then the table stands in two parts.
use Prim.Native.Nat.{ℕ, ◌+◌, ◌-◌, ◌*◌, ◌≤◌}
use mathlib.Core.Path.{◌≡◌, sym, ap, ap₂, ◌∙◌}
use mathlib.Core.Bool.{Bool}
use Rattle.std.specs.Prelude.{Option, Some}
use mathlib.Core.List.{List, [], ◌∷◌, ◌++◌, append_assoc}
use native.Mathlib.Omega.{arith}
use lib.ListN.{length, length-append, length-map}
use lib.Seq.{sets, length-sets}
use Rattle.meaning.specs.Words.{words, flat}
use Rattle.meaning.specs.Layout.{coverage_words}
use Rattle.laws.specs.Stands.{flat_length, flat_append}
use Rattle.laws.specs.Written.{Wrote, wrote_none, wrote_two, wrote_three, wrote_length}
use Rattle.area.specs.Extends.{Extends, Tried, extends_keeps, wrote_extends}
use Rattle.area.specs.Part.{part, part_append, news}
use Rattle.handing.specs.Closed.{members, lessened, less_by}
use Rattle.handing.proofs.Moved.{part_behind, less_flat}
use Rattle.numbers.proofs.Fronts.{part_keeps, extends_part}
use Rattle.known_blocks.specs.Shared.{offsets_in, blocks_in}
use Rattle.pair_sets.specs.declared.Formats.{Formats}
use Rattle.placed_sets.specs.Sorts.{more_of, header_size}
use Rattle.placed_sets.specs.Kept.{Placed}
use Rattle.placed_sets.specs.declared.Sort.{Sort}
use Rattle.placed_sets.specs.declared.Sort.TheVariants.{Rules, Ligatures, Pairs}
use Rattle.kept_header.specs.Table.{sets_in, layout_of, Finishes, Finished}
use Rattle.kept_header.proofs.Lessening.{offsets_count, offsets_lower, offsets_least}

-- the header of a sort that has no further words, and that of pairs
module _ (sort : Sort) (cover k : ℕ) {a b : List ℕ} {r : ℕ} where
  header_plain : more_of sort ≡ [] → (r ≡ 0 + 6) × (b ≡ sets a 0 (flat (1 ∷ cover ∷ k ∷ []))) → Wrote a 0 (1 ∷ cover ∷ (more_of sort ++ (k ∷ []))) b r
  header_plain n e = rw n (wrote_three 1 cover k wrote_none e)

  pub header_rules : {chained : Bool} → sort ≡ Rules chained → (r ≡ 0 + 6) × (b ≡ sets a 0 (flat (1 ∷ cover ∷ k ∷ []))) → Wrote a 0 (1 ∷ cover ∷ (more_of sort ++ (k ∷ []))) b r
  header_rules n e = header_plain (ap more_of n) e

  pub header_ligatures : sort ≡ Ligatures → (r ≡ 0 + 6) × (b ≡ sets a 0 (flat (1 ∷ cover ∷ k ∷ []))) → Wrote a 0 (1 ∷ cover ∷ (more_of sort ++ (k ∷ []))) b r
  header_ligatures n e = header_plain (ap more_of n) e

  pub header_pairs : {f : Formats} {c : List ℕ} {p : ℕ} → sort ≡ Pairs f → (p ≡ 0 + 6) × (c ≡ sets a 0 (flat (1 ∷ cover ∷ f.n1 ∷ []))) → (r ≡ p + 4) × (b ≡ sets c p (flat (f.n2 ∷ k ∷ [])))
      → Wrote a 0 (1 ∷ cover ∷ (more_of sort ++ (k ∷ []))) b r
  header_pairs {f} n d e = rw n (wrote_two f.n2 k (wrote_three 1 cover f.n1 wrote_none d) e)

-- ten bytes before the offsets of pairs
pub pairs_ten : {sort : Sort} {f : Formats} {n : ℕ} → sort ≡ Pairs f → header_size sort ≤ n → 10 ≤ n
pairs_ten e h = rw e at h

-- the words of a table by sets with a coverage, in order
table_is : (packed : Bool) (more cov : List ℕ) (bs : List (Option (List ℕ))) {q k f : ℕ} → k ≡ length bs → f ≡ 6 + 2 * length more + 2 * k → q ≡ f + 2 * length (blocks_in packed bs)
    → sets_in packed cov more bs ≡ (1 ∷ q ∷ (more ++ (k ∷ []))) ++ (offsets_in packed f bs ++ (blocks_in packed bs ++ cov))
unfolding sets_in
table_is packed more cov bs {q} {k} {f} e g h =
    let start : 6 + 2 * length more + 2 * length bs ≡ f = omega (arith, e, g) in
    rw (start, ← h, ← e) (ap (λ (l : List ℕ). 1 ∷ q ∷ l) (sym (append_assoc more (k ∷ []) (offsets_in packed f bs ++ (blocks_in packed bs ++ cov)))))

module _ {sort : Sort} {t : List ℕ} {notes k first p : ℕ} {a₀ : List ℕ} (a : Finishes sort t notes k first p a₀) {slots : ℕ} (s : slots ≡ header_size sort) where
  -- the coverage of the kept glyphs
  abbrev cov : List ℕ
  cov = coverage_words (news t notes k)

  abbrev gap : ℕ
  gap = first - (slots + 2 * k)

  abbrev head : List ℕ
  head = 1 ∷ (p - gap) ∷ (more_of sort ++ (k ∷ []))

  head_length : 2 * length head ≡ header_size sort
  head_length = omega (arith, length-append (more_of sort) (k ∷ []))

  module _ {a₁ a₂ a₃ : List ℕ} {r h : ℕ} (less : a₁ ≡ sets a₀ slots (flat (lessened gap (words a₀ slots k)))) (cover : Tried a₁ p cov a₂ r) (header : Wrote a₂ 0 head a₃ h) where
    same₁ : length a₁ ≡ length a₀
    same₁ = ap length less ∙ length-sets a₀ slots (flat (lessened gap (words a₀ slots k)))

    module _ {packed : Bool} (bs : List (List ℕ)) (e : length bs ≡ k) (u : Placed packed (header_size sort) first bs a₀ p) (room : r ≤ length a₀) where
      -- the offsets without the gap
      abbrev os : List ℕ
      os = offsets_in packed (slots + 2 * k) (members bs)

      abbrev bl : List ℕ
      bl = blocks_in packed (members bs)

      many : length (offsets_in packed first (members bs)) ≡ k
      many = offsets_count packed first (members bs) ∙ length-map bs (λ b. Some b) ∙ e

      wide : first ≡ slots + 2 * k + gap
      wide = omega (arith, a.behind, s)

      lower : a₁ ≡ sets a₀ slots (flat os)
      lower =
          let reached : part a₀ slots (2 * length (offsets_in packed first (members bs))) ≡ flat (offsets_in packed first (members bs)) = ap (λ (n : ℕ). part a₀ slots (2 * n)) (many ∙ sym e) ∙ ap (λ (i : ℕ). part a₀ i (2 * length bs)) s ∙ u.reached in
          let bytes : flat (lessened gap (words a₀ slots k)) ≡ flat (less_by gap (offsets_in packed first (members bs))) =
          ap (λ (n : ℕ). flat (lessened gap (words a₀ slots n))) (sym many) ∙ less_flat gap (offsets_in packed first (members bs)) a₀ slots (omega (arith, a.near, s)) reached (offsets_least packed gap first bs (omega (arith, wide))) in
          let without : less_by gap (offsets_in packed first (members bs)) ≡ os = ap (λ (n : ℕ). less_by gap (offsets_in packed n (members bs))) wide ∙ offsets_lower packed gap (slots + 2 * k) bs in
          less ∙ ap (sets a₀ slots) (bytes ∙ ap flat without)

      long : length os ≡ k
      long = offsets_count packed (slots + 2 * k) (members bs) ∙ length-map bs (λ b. Some b) ∙ e

      placed₁ : Extends a₀ slots os a₁ (slots + 2 * k)
      placed₁ =
          let w : Wrote a₀ slots os a₁ (slots + 2 * k) = record { place = omega (arith, long); bytes = lower } in
          wrote_extends w (omega (arith, a.behind, a.start, a.room, s))

      covered : Extends a₁ p cov a₂ r
      covered = cover.fits (omega (arith, same₁))

      headed : Extends a₂ 0 head a₃ h
      headed = wrote_extends header (omega (arith, header.place, head_length, a.behind, a.start, a.room, same₁, cover.same))

      -- what stands behind the header, and before the coverage, stays
      behind : (i n : ℕ) → slots ≤ i → part a₃ i n ≡ part a₂ i n
      behind i n l = ap (λ (b : List ℕ). part b i n) header.bytes ∙ part_behind (flat head) a₂ 0 i n (omega (arith, flat_length head, head_length, s))

      between : (i n : ℕ) → slots ≤ i → i + n ≤ p → part a₃ i n ≡ part a₁ i n
      between i n l m = behind i n l ∙ part_keeps (extends_keeps covered) i n m

      header_part : part a₃ 0 slots ≡ flat head
      header_part = ap (part a₃ 0) (s ∙ sym head_length) ∙ extends_part headed

      offsets_part : part a₃ slots (2 * k) ≡ flat os
      offsets_part = between slots (2 * k) (omega arith) (omega (arith, a.behind, a.start, s)) ∙ ap (λ (n : ℕ). part a₁ slots (2 * n)) (sym long) ∙ extends_part placed₁

      sets_part : part a₃ first (2 * length bl) ≡ flat bl
      sets_part = between first (2 * length bl) (omega (arith, wide)) (omega (arith, u.place)) ∙ ap (λ (b : List ℕ). part b first (2 * length bl)) lower
          ∙ part_behind (flat os) a₀ slots first (2 * length bl) (omega (arith, flat_length os, long, wide)) ∙ u.laid

      cover_part : part a₃ p (2 * length cov) ≡ flat cov
      cover_part = behind p (2 * length cov) (omega (arith, wide, a.start)) ∙ extends_part covered

      head_is : part a₃ 0 (slots + 2 * k) ≡ flat (head ++ os)
      head_is =
          let z : 0 + slots ≡ slots = omega arith in
          part_append a₃ 0 slots (2 * k) ∙ ap₂ (λ (x y : List ℕ). x ++ y) header_part (ap (λ (i : ℕ). part a₃ i (2 * k)) z ∙ offsets_part) ∙ sym (flat_append head os)

      rest_is : part a₃ first (r - first) ≡ flat (bl ++ cov)
      rest_is =
          let n : r - first ≡ 2 * length bl + 2 * length cov = omega (arith, covered.place, u.place) in
          ap (part a₃ first) n ∙ part_append a₃ first (2 * length bl) (2 * length cov)
          ∙ ap₂ (λ (x y : List ℕ). x ++ y) sets_part (ap (λ (i : ℕ). part a₃ i (2 * length cov)) (sym u.place) ∙ cover_part) ∙ sym (flat_append bl cov)

      whole : part a₃ 0 (header_size sort + 2 * k) ++ part a₃ first (r - first) ≡ flat (layout_of packed sort (news t notes k) bs)
      whole =
          ap (λ (i : ℕ). part a₃ 0 (i + 2 * k) ++ part a₃ first (r - first)) (sym s)
          ∙ ap₂ (λ (x y : List ℕ). x ++ y) head_is rest_is ∙ sym (flat_append (head ++ os) (bl ++ cov))
          ∙ ap flat (append_assoc head os (bl ++ cov) ∙ sym (table_is packed (more_of sort) cov (members bs) (sym (length-map bs (λ b. Some b) ∙ e)) (omega (arith, s)) (omega (arith, u.place, wide))))

    pub finish_table : Finished sort t notes k first p a₀ a₃ r
    finish_table = record {
      same = wrote_length header ∙ cover.same ∙ same₁;
      start = λ l. omega (arith, (cover.fits (omega (arith, same₁))).place);
      table = whole;
      full = λ l. omega (arith, cover.full (omega (arith, same₁)), same₁);
    }
