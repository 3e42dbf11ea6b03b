-- What a call leaves of a listed lookup.
use Rattle.std.specs.Prelude.{ℕ, ◌≤◌, ◌≡◌, refl, Bool, true, false, cond, ◌||◌, List, ◌++◌, length, drop, ltb, eqb, Option, Some}
use Rattle.std.proofs.Common.{sym, ap, ◌∙◌, subst, arith, take_at}
use Rattle.meaning.specs.Words.{word, flat}
use Rattle.meaning.specs.Maps.{map_entries, glyph_entries}
use Rattle.meaning.specs.Tables.{Table, table}
use Rattle.meaning.specs.Cut.{cut}
use Rattle.meaning.specs.Subset.{Outcome, left, refused, limit, has_format, too_big, laid_into, words_in, written_in, subset}
use Rattle.laws.specs.Through.{Opt}
use Rattle.laws.specs.CutGood.{GoodOf}
use Rattle.laws.specs.SoundGood.{Bytes}
use Rattle.laws.specs.CallBack.{passed, big_fit, left_good, first_format, call_reads_back}
use Rattle.renumbering.specs.Kept.{Left}

-- a kind that is listed: 1, 2 or 5
abbrev pub ListedKind : ℕ → Type 0
ListedKind kind = eqb kind 1 || (eqb kind 2 || eqb kind 5) ≡ true

-- what is written, where it is kept: the bytes of the layout, which are not over the limit
written_bytes : (packing : ℕ) (out : List ℕ) (o : Option Table) (t : Table) → o ≡ Some t → (written_in packing out o).number ≡ 0
    → (left (written_in packing out o) ≡ flat (words_in packing t)) × (length (flat (words_in packing t)) ≤ limit)
unfolding written_in laid_into
written_bytes packing out o t e h = rw e (step (too_big ws) (ltb (length out) (length bs)) refl (rw e at h))
  where
    ws : List ℕ
    ws = words_in packing t

    bs : List ℕ
    bs = flat ws

    at : Bool → Bool → Outcome
    at b c = cond b (refused out 9) (cond c (record { number = 10; len = length bs; out = out }) (record { number = 0; len = length bs; out = bs ++ drop (length bs) out }))

    step : (b c : Bool) → too_big ws ≡ b → (at b c).number ≡ 0 → (left (at b c) ≡ bs) × (length bs ≤ limit)
    step true c q h = absurd (omega arith)
    step false true q h = absurd (omega arith)
    step false false q h = (take_at bs (drop (length bs) out) (length bs) refl, (big_fit ws q).1)

module _ (kind form packing : ℕ) (s g l out : List ℕ) (bs : Bytes s) (bg : Bytes g) (bl : Bytes l) (kept : (subset kind form packing s g l out).number ≡ 0) where
  abbrev small : List ℕ
  small = left (subset kind form packing s g l out)

  -- what a call that keeps something leaves of a source of a listed kind
  pub left_of_call : ListedKind kind → Left (glyph_entries form g) (map_entries l) kind s small
  left_of_call listed =
      let p = passed kind form packing s g l out kept in
      let r = call_reads_back kind form packing s g l out bs bg bl kept in
      let t = subst (Opt (GoodOf kind)) r.0 (left_good kind form s g l bs bg bl p.kind_good p.glyphs_good p.sound) in
      let b = written_bytes packing out (cut (glyph_entries form g) (map_entries l) (table kind s)) (table kind small) r.0 (subst (λ (o : Outcome). o.number ≡ 0) p.gives kept) in
      let e : small ≡ flat (words_in packing (table kind small)) = ap left p.gives ∙ b.0 in
      record {
        says = r.0;
        short = subst (λ (x : List ℕ). length x ≤ limit) (sym e) b.1;
        format = subst (λ (x : List ℕ). has_format kind (word x 0) ≡ true) (sym e) (subst (λ (k : ℕ). has_format k (word (flat (words_in packing (table kind small))) 0) ≡ true) t.1 (first_format packing (table kind small)));
        sound = r.1;
      }
