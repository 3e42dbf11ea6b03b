-- What two sources without a fault say, in use: contexts match, ligatures form and pairs move as their contents do.
use Rattle.std.specs.Prelude.{ℕ, ◌-◌, ◌<◌, ◌≡◌, Bool, true, false, cond, List, leb, ltb, eqb, ℤ, pos, negsuc, None}
use Rattle.std.proofs.Math.Path.{refl}
use Rattle.std.proofs.Common.{sym, ap, arith, leb-true, le-leb}
use Rattle.std.proofs.Math.IntN.{pos-ne-negsuc}
use Rattle.meaning.specs.Words.{word}
use Rattle.meaning.specs.Tables.{Table, pair_table, table}
use Rattle.meaning.specs.Fault.{fault}
use Rattle.meaning.specs.Subset.{good_kind}
use Rattle.meaning.specs.Matching.{match, ligate, signed, adjust}
use Rattle.laws.specs.Runs.{both}
use Rattle.laws.specs.Stands.{Word}
use Rattle.laws.specs.ReadsBack.{Good, kind_of, table_pairs}
use Rattle.laws.specs.SoundGood.{Bytes, sound_good}
use Rattle.differences.specs.Content.{content}
use Rattle.differences.specs.Compare.{compared_kind}
use Rattle.difference_laws.specs.Alike.{Ids, Sets, IsContext, match_content, match_content_lem, ligate_content, ligate_content_lem, adjust_content, adjust_content_lem}

-- a kind that is compared is a kind
pub kind_good : (kind : ℕ) → compared_kind kind ≡ true → good_kind kind ≡ true
unfolding compared_kind good_kind
kind_good kind h =
    let k = both (leb 1 kind) (leb kind 4) h in
    rw k.0 (le-leb kind 5 (omega (arith, leb-true kind 4 k.1)))

-- a table of kind 1 or 2 is a context
is_context : (t : Table) (k : ℕ) → k < 3 → kind_of t ≡ k → IsContext t
unfolding kind_of
is_context (Table.by_glyph chained cover sets) k h e = tt
is_context (Table.by_class chained cover b i a sets) k h e = tt
is_context (Table.by_cover chained b i a rs) k h e = tt
is_context (Table.ligatures cover sets) k h e = omega arith
is_context (Table.pairs_of cover f1 f2 sets) k h e = omega arith
is_context (Table.class_pairs cover first second f1 f2 n rows) k h e = omega arith
is_context (Table.single_delta cover d) k h e = omega arith
is_context (Table.single_list cover subs) k h e = omega arith

-- its class tables and coverages are good
sets_good : (t : Table) → Good t → Sets t
sets_good (Table.by_glyph chained cover sets) g = tt
sets_good (Table.by_class chained cover b i a sets) g = (g.1, g.2, g.3)
sets_good (Table.by_cover chained b i a rs) g = (g.0, g.1, g.2)
sets_good (Table.ligatures cover sets) g = tt
sets_good (Table.pairs_of cover f1 f2 sets) g = tt
sets_good (Table.class_pairs cover first second f1 f2 n rows) g = tt
sets_good (Table.single_delta cover d) g = tt
sets_good (Table.single_list cover subs) g = tt

-- a table of kind 3 forms the ligatures of its content
ligates : (t : Table) → kind_of t ≡ 3 → (g : ℕ) (after : List ℕ) → Ids after → ligate t g after ≡ ligate_content (content t) g after
unfolding kind_of
ligates (Table.by_glyph false cover sets) e g after i = absurd (omega arith)
ligates (Table.by_glyph true cover sets) e g after i = absurd (omega arith)
ligates (Table.by_class false cover b n a sets) e g after i = absurd (omega arith)
ligates (Table.by_class true cover b n a sets) e g after i = absurd (omega arith)
ligates (Table.by_cover false b n a rs) e g after i = absurd (omega arith)
ligates (Table.by_cover true b n a rs) e g after i = absurd (omega arith)
ligates (Table.ligatures cover sets) e g after i = ligate_content_lem cover sets g after i
ligates (Table.pairs_of cover f1 f2 sets) e g after i = absurd (omega arith)
ligates (Table.class_pairs cover first second f1 f2 n rows) e g after i = absurd (omega arith)
ligates (Table.single_delta cover d) e g after i = absurd (omega arith)
ligates (Table.single_list cover subs) e g after i = absurd (omega arith)

module _ (s : List ℕ) (bytes : Bytes s) where
  -- A source of kind 1 or 2 without a fault matches as its content does.
  pub source_matches : (kind : ℕ) → compared_kind kind ≡ true → kind < 3 → fault kind s ≡ None → (before : List ℕ) (g : ℕ) (after : List ℕ) → Ids before → g < 65536 → Ids after
      → match (table kind s) before g after ≡ match_content (content (table kind s)) before g after
  source_matches kind k l h =
      let good = sound_good s bytes kind (kind_good kind k) h in
      match_content_lem (table kind s) (is_context (table kind s) kind l good.1) (sets_good (table kind s) good.0)

  -- One of kind 3 forms the ligatures of its content.
  pub source_ligates : fault 3 s ≡ None → (g : ℕ) (after : List ℕ) → Ids after → ligate (table 3 s) g after ≡ ligate_content (content (table 3 s)) g after
  unfolding good_kind
  source_ligates h = ligates (table 3 s) (sound_good s bytes 3 refl h).1

-- One of kind 4 and format 1 moves pairs as its content does.
pub source_adjusts : (s : List ℕ) → eqb (word s 0) 1 ≡ true → (g h : ℕ) → adjust (table 4 s) g h ≡ adjust_content (content (table 4 s)) g h
unfolding pair_table
source_adjusts s e g h = rw (table_pairs s, e) (adjust_content_lem _ _ _ _ g h)

-- Two words that are one signed number are equal.
size : ℤ → ℕ
size (pos n) = n
size (negsuc n) = n

pub signed_tells : (a b : ℕ) → Word a → Word b → signed a ≡ signed b → a ≡ b
unfolding signed size
signed_tells a b p q = go (ltb a 32768) (ltb b 32768)
  where
    go : (s t : Bool) → cond s (pos a) (negsuc (65535 - a)) ≡ cond t (pos b) (negsuc (65535 - b)) → a ≡ b
    go true true e = ap size e
    go true false e = absurd (pos-ne-negsuc a (65535 - b) e)
    go false true e = absurd (pos-ne-negsuc b (65535 - a) (sym e))
    go false false e = let k : 65535 - a ≡ 65535 - b = ap size e in omega arith
