-- Cases of cutting twice, by computation: the combined maps, and the second call's and the single call's answers.
use Rattle.std.specs.Prelude.{ℕ, ◌≡◌, refl, List, [], ◌∷◌, map, take, replicate}
use Rattle.meaning.specs.Words.{flat, threes}
use Rattle.meaning.specs.Tables.{table}
use Rattle.meaning.specs.Subset.{subset, left}
use Rattle.promises.specs.Forms.{as_runs}
use Rattle.twice.specs.Definitions.{combined, map_bytes, combined_glyphs, combined_lookups, same, identity_map, lookups_of, ordered, identity_lookups}

-- a source and two pairs of maps, each glyph map in its own form; the combined maps, the glyph map as pairs, the number of the second call and the words that it leaves; all as words
pub record Double : Type 0 where
  pub kind : ℕ
  pub source : List ℕ
  pub form : ℕ
  pub glyphs : List ℕ
  pub lookups : List ℕ
  pub form₂ : ℕ
  pub glyphs₂ : List ℕ
  pub lookups₂ : List ℕ
  pub both_glyphs : List ℕ
  pub both_lookups : List ℕ
  pub number : ℕ
  pub words : List ℕ

-- room for all
abbrev room : List ℕ
room = replicate 100 7

-- the number of a call with a glyph map in a form, and the bytes that it leaves
abbrev called : ℕ → ℕ → List ℕ → List ℕ → List ℕ → ℕ × List ℕ
called kind form s g l = ((subset kind form 0 s g l room).number, left (subset kind form 0 s g l room))

-- the first call of a case, and the calls by the identity on what it leaves: with the glyph map as pairs, and as runs
abbrev pub first : Double → ℕ × List ℕ
first d = called d.kind d.form (flat d.source) (flat d.glyphs) (flat d.lookups)

abbrev pub again : Double → ℕ × List ℕ
again d = called d.kind 4 (first d).1 (identity_map d.form (flat d.glyphs)) (identity_lookups (table d.kind (first d).1))

abbrev pub again_runs : Double → ℕ × List ℕ
again_runs d = called d.kind 6 (first d).1 (as_runs (identity_map d.form (flat d.glyphs))) (identity_lookups (table d.kind (first d).1))

-- what comes of a case: the combined maps, and the number and the bytes of the second call and of the single one, by the combined glyph map as pairs and as runs
pub record Done : Type 0 where
  pub glyphs : List ℕ
  pub lookups : List ℕ
  pub second : ℕ × List ℕ
  pub single : ℕ × List ℕ
  pub single_runs : ℕ × List ℕ

-- the second call on the bytes that the first one leaves, and the single calls by the combined maps
abbrev pub done : Double → Done
done d =
    let g = combined_glyphs d.form (flat d.glyphs) d.form₂ (flat d.glyphs₂) in
    let l = combined_lookups (flat d.lookups) (flat d.lookups₂) in
    record {
      glyphs = g;
      lookups = l;
      second = called d.kind d.form₂ (first d).1 (flat d.glyphs₂) (flat d.lookups₂);
      single = called d.kind 4 (flat d.source) g l;
      single_runs = called d.kind 6 (flat d.source) (as_runs g) l;
    }

-- as the case states it
abbrev pub stated : Double → Done
stated d =
    let r : ℕ × List ℕ = (d.number, flat d.words) in
    record { glyphs = flat d.both_glyphs; lookups = flat d.both_lookups; second = r; single = r; single_runs = r }

-- P1 of document 01
p1 : List ℕ
p1 = 1 ∷ 48 ∷ 2 ∷ 10 ∷ 36 ∷ 2 ∷ 6 ∷ 16 ∷ 2 ∷ 1 ∷ 9 ∷ 0 ∷ 7 ∷ 2 ∷ 1 ∷ 6 ∷ 0 ∷ 4 ∷ 1 ∷ 4 ∷ 1 ∷ 1 ∷ 0 ∷ 5 ∷ 1 ∷ 2 ∷ 3 ∷ 5 ∷ []

-- pairs by class: three first classes, three second ones, nine cells
by_class : List ℕ
by_class =
    2 ∷ 52 ∷ 4 ∷ 1 ∷ 62 ∷ 78 ∷ 3 ∷ 3 ∷ 1 ∷ 0 ∷ 2 ∷ 0 ∷ 3 ∷ 0 ∷ 4 ∷ 0 ∷ 5 ∷ 7 ∷ 6 ∷ 0 ∷ 7 ∷ 0 ∷ 8 ∷ 0 ∷ 9 ∷ 0 ∷ 1 ∷ 3 ∷ 3 ∷ 5 ∷ 9 ∷ 2 ∷ 2 ∷ 5 ∷ 5 ∷ 1 ∷ 9 ∷ 9 ∷ 2 ∷ 2 ∷ 2 ∷ 3 ∷ 3 ∷ 1 ∷ 9 ∷ 9 ∷ 2 ∷ []

pub doubles : List Double
doubles =
    -- P1, then less a glyph
    record {
      kind = 1;
      source = p1;
      form = 4;
      glyphs = 3 ∷ 1 ∷ 5 ∷ 2 ∷ 9 ∷ 3 ∷ [];
      lookups = 4 ∷ 0 ∷ 7 ∷ 2 ∷ [];
      form₂ = 4;
      glyphs₂ = 1 ∷ 0 ∷ 3 ∷ 5 ∷ [];
      lookups₂ = 2 ∷ 9 ∷ [];
      both_glyphs = 3 ∷ 0 ∷ 9 ∷ 5 ∷ [];
      both_lookups = 7 ∷ 9 ∷ [];
      number = 0;
      words = 1 ∷ 22 ∷ 1 ∷ 8 ∷ 1 ∷ 4 ∷ 2 ∷ 1 ∷ 5 ∷ 0 ∷ 9 ∷ 1 ∷ 1 ∷ 0 ∷ [];
    }
    -- P1, then less both covered glyphs: empty
    ∷ record {
      kind = 1;
      source = p1;
      form = 4;
      glyphs = 3 ∷ 1 ∷ 5 ∷ 2 ∷ 9 ∷ 3 ∷ [];
      lookups = 4 ∷ 0 ∷ 7 ∷ 2 ∷ [];
      form₂ = 4;
      glyphs₂ = 3 ∷ 0 ∷ [];
      lookups₂ = [];
      both_glyphs = 9 ∷ 0 ∷ [];
      both_lookups = [];
      number = 8;
      words = [];
    }
    -- pairs by class, then less a first class and a second class
    ∷ record {
      kind = 4;
      source = by_class;
      form = 4;
      glyphs = 3 ∷ 1 ∷ 5 ∷ 2 ∷ 7 ∷ 4 ∷ 9 ∷ 6 ∷ [];
      lookups = [];
      form₂ = 4;
      glyphs₂ = 1 ∷ 0 ∷ 2 ∷ 3 ∷ [];
      lookups₂ = [];
      both_glyphs = 3 ∷ 0 ∷ 5 ∷ 3 ∷ [];
      both_lookups = [];
      number = 0;
      words = 2 ∷ 32 ∷ 4 ∷ 1 ∷ 40 ∷ 48 ∷ 2 ∷ 2 ∷ 1 ∷ 0 ∷ 2 ∷ 0 ∷ 4 ∷ 0 ∷ 5 ∷ 7 ∷ 1 ∷ 2 ∷ 0 ∷ 3 ∷ 1 ∷ 3 ∷ 1 ∷ 1 ∷ 1 ∷ 0 ∷ 1 ∷ 1 ∷ [];
    }
    -- the same, then less the only pair with a second value: the second value format gets its stand-in
    ∷ record {
      kind = 4;
      source = by_class;
      form = 4;
      glyphs = 3 ∷ 1 ∷ 5 ∷ 2 ∷ 7 ∷ 4 ∷ 9 ∷ 6 ∷ [];
      lookups = [];
      form₂ = 4;
      glyphs₂ = 2 ∷ 3 ∷ 6 ∷ 8 ∷ [];
      lookups₂ = [];
      both_glyphs = 5 ∷ 3 ∷ 9 ∷ 8 ∷ [];
      both_lookups = [];
      number = 0;
      words = 2 ∷ 32 ∷ 4 ∷ 4 ∷ 40 ∷ 48 ∷ 2 ∷ 2 ∷ 4 ∷ 0 ∷ 6 ∷ 0 ∷ 7 ∷ 0 ∷ 9 ∷ 0 ∷ 1 ∷ 2 ∷ 3 ∷ 8 ∷ 1 ∷ 8 ∷ 1 ∷ 1 ∷ 1 ∷ 8 ∷ 1 ∷ 1 ∷ [];
    }
    -- single substitutions: by a delta, by a list after the first cut, and by a delta after the second
    ∷ record {
      kind = 5;
      source = 1 ∷ 6 ∷ 1 ∷ 2 ∷ 3 ∷ 0 ∷ 8 ∷ 0 ∷ 9 ∷ 21 ∷ 9 ∷ 65533 ∷ 65535 ∷ 22 ∷ [];
      form = 4;
      glyphs = 0 ∷ 0 ∷ 7 ∷ 1 ∷ 8 ∷ 2 ∷ 12 ∷ 3 ∷ 65535 ∷ 6 ∷ [];
      lookups = [];
      form₂ = 4;
      glyphs₂ = 1 ∷ 6 ∷ 2 ∷ 8 ∷ 3 ∷ 9 ∷ 6 ∷ 10 ∷ [];
      lookups₂ = [];
      both_glyphs = 7 ∷ 6 ∷ 8 ∷ 8 ∷ 12 ∷ 9 ∷ 65535 ∷ 10 ∷ [];
      both_lookups = [];
      number = 0;
      words = 1 ∷ 6 ∷ 2 ∷ 1 ∷ 1 ∷ 6 ∷ [];
    }
    -- P1 again, first by one run, 3 to 9, and then less all but the same two glyphs
    ∷ record {
      kind = 1;
      source = p1;
      form = 6;
      glyphs = 3 ∷ 1 ∷ 7 ∷ [];
      lookups = 4 ∷ 0 ∷ 7 ∷ 2 ∷ [];
      form₂ = 4;
      glyphs₂ = 1 ∷ 0 ∷ 7 ∷ 5 ∷ [];
      lookups₂ = 2 ∷ 9 ∷ [];
      both_glyphs = 3 ∷ 0 ∷ 9 ∷ 5 ∷ [];
      both_lookups = 7 ∷ 9 ∷ [];
      number = 0;
      words = 1 ∷ 22 ∷ 1 ∷ 8 ∷ 1 ∷ 4 ∷ 2 ∷ 1 ∷ 5 ∷ 0 ∷ 9 ∷ 1 ∷ 1 ∷ 0 ∷ [];
    }
    -- pairs by class, first by one run and then by two: every class stays
    ∷ record {
      kind = 4;
      source = by_class;
      form = 6;
      glyphs = 3 ∷ 1 ∷ 7 ∷ [];
      lookups = [];
      form₂ = 6;
      glyphs₂ = 1 ∷ 0 ∷ 3 ∷ 7 ∷ 5 ∷ 1 ∷ [];
      lookups₂ = [];
      both_glyphs = 3 ∷ 0 ∷ 4 ∷ 1 ∷ 5 ∷ 2 ∷ 9 ∷ 5 ∷ [];
      both_lookups = [];
      number = 0;
      words =
          2 ∷ 52 ∷ 4 ∷ 1 ∷ 62 ∷ 76 ∷ 3 ∷ 3 ∷ 1 ∷ 0 ∷ 2 ∷ 0 ∷ 3 ∷ 0 ∷ 4 ∷ 0 ∷ 5 ∷ 7 ∷ 6 ∷ 0 ∷ 7 ∷ 0 ∷ 8 ∷ 0 ∷ 9 ∷ 0 ∷ 1 ∷ 3 ∷ 0 ∷ 2 ∷ 5 ∷ 1 ∷ 2 ∷ 4 ∷ 1 ∷ 0 ∷ 0 ∷ 2 ∷ 2 ∷ 2 ∷ 0 ∷ 0 ∷ 1 ∷ 5 ∷ 5 ∷ 2 ∷ [];
    }
    -- the single substitutions again, the second time by runs
    ∷ record {
      kind = 5;
      source = 1 ∷ 6 ∷ 1 ∷ 2 ∷ 3 ∷ 0 ∷ 8 ∷ 0 ∷ 9 ∷ 21 ∷ 9 ∷ 65533 ∷ 65535 ∷ 22 ∷ [];
      form = 4;
      glyphs = 0 ∷ 0 ∷ 7 ∷ 1 ∷ 8 ∷ 2 ∷ 12 ∷ 3 ∷ 65535 ∷ 6 ∷ [];
      lookups = [];
      form₂ = 6;
      glyphs₂ = 1 ∷ 6 ∷ 1 ∷ 2 ∷ 8 ∷ 2 ∷ 6 ∷ 10 ∷ 1 ∷ [];
      lookups₂ = [];
      both_glyphs = 7 ∷ 6 ∷ 8 ∷ 8 ∷ 12 ∷ 9 ∷ 65535 ∷ 10 ∷ [];
      both_lookups = [];
      number = 0;
      words = 1 ∷ 6 ∷ 2 ∷ 1 ∷ 1 ∷ 6 ∷ [];
    }
    ∷ []

-- a context by class, whose second glyph map has an old id, 3, that is no new id of the first: it would hold class 0
pub beyond : Double
beyond =
    record {
      kind = 1;
      source = 2 ∷ 30 ∷ 38 ∷ 3 ∷ 0 ∷ 14 ∷ 22 ∷ 1 ∷ 4 ∷ 1 ∷ 0 ∷ 1 ∷ 4 ∷ 1 ∷ 0 ∷ 1 ∷ 2 ∷ 5 ∷ 9 ∷ 2 ∷ 2 ∷ 5 ∷ 5 ∷ 1 ∷ 9 ∷ 9 ∷ 2 ∷ [];
      form = 4;
      glyphs = 5 ∷ 1 ∷ 9 ∷ 2 ∷ [];
      lookups = [];
      form₂ = 4;
      glyphs₂ = 2 ∷ 2 ∷ 3 ∷ 3 ∷ [];
      lookups₂ = [];
      both_glyphs = 9 ∷ 2 ∷ [];
      both_lookups = [];
      number = 0;
      words = 2 ∷ 20 ∷ 26 ∷ 2 ∷ 0 ∷ 12 ∷ 1 ∷ 4 ∷ 1 ∷ 0 ∷ 1 ∷ 1 ∷ 2 ∷ 1 ∷ 2 ∷ 1 ∷ 1 ∷ [];
    }

-- what the single call leaves then
pub beyond_single : List ℕ
beyond_single = 2 ∷ 18 ∷ 24 ∷ 1 ∷ 10 ∷ 1 ∷ 4 ∷ 1 ∷ 0 ∷ 1 ∷ 1 ∷ 2 ∷ 2 ∷ 0 ∷ []

pub differs : done beyond
    ≡ record { glyphs = flat beyond.both_glyphs; lookups = flat beyond.both_lookups; second = (0, flat beyond.words); single = (0, flat beyond_single); single_runs = (0, flat beyond_single) }
unfolding beyond beyond_single combined map_bytes combined_glyphs combined_lookups as_runs threes subset
differs = refl

pub each_double : map done doubles ≡ map stated doubles
unfolding p1 by_class doubles combined map_bytes combined_glyphs combined_lookups as_runs threes subset
each_double = refl

-- what the identity without lookups leaves of what the first call leaves
abbrev pub without_lookups : Double → ℕ × List ℕ
without_lookups d = called d.kind 4 (first d).1 (identity_map d.form (flat d.glyphs)) []

-- P1, cut: its record is lost
pub record_lost : map without_lookups (take 1 doubles) ≡ map (λ ws. (0, flat ws)) ((1 ∷ 28 ∷ 2 ∷ 10 ∷ 20 ∷ 1 ∷ 4 ∷ 2 ∷ 0 ∷ 3 ∷ 1 ∷ 4 ∷ 1 ∷ 0 ∷ 1 ∷ 2 ∷ 1 ∷ 2 ∷ []) ∷ [])
unfolding p1 by_class doubles map_bytes same identity_map subset
record_lost = refl

pub each_again : (map again doubles ≡ map first doubles) × (map again_runs doubles ≡ map first doubles)
unfolding p1 by_class doubles map_bytes same identity_map lookups_of ordered identity_lookups as_runs threes subset
each_again = (refl, refl)
