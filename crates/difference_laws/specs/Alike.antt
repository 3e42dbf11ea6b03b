-- What a content answers in use: contexts match, ligatures form and pairs move as their contents do. Strings are of ids, below 65,536.
use Rattle.std.specs.Prelude.{ℕ, zero, suc, ◌-◌, ◌<◌, ◌≡◌, Bool, ◌&&◌, ◌||◌, get_or, length, drop, ltb, leb, Option, None, Some}
use Rattle.std.proofs.Math.Path.{refl, sym}
use Rattle.std.proofs.Common.{◌∙◌, eqb-true}
use Rattle.std.proofs.Math.Bool.{true, false, cond}
use mathlib.Core.List.{List, [], ◌∷◌, ◌++◌, map}
use Rattle.std.proofs.Math.Dec.{eqb}
use Rattle.meaning.specs.Words.{bind, member}
use Rattle.meaning.specs.Parts.{class_of}
use Rattle.meaning.specs.Tables.{Rule, Ligature, Pair, Table}
use Rattle.meaning.specs.Matching.{fits, covers?, set_at, Holds, same_glyph, same_class, rule_fits, first_fit, match, first_ligature, ligate, signed, Move, move_of, pair_with, adjust}
use Rattle.laws.specs.Stands.{All}
use Rattle.laws.specs.Through.{Opt}
use Rattle.laws.specs.PartsBack.{Glyphs, Classes}
use Rattle.differences.specs.Content.{class_runs?, cover_runs, Says, rule_says, one_glyph, ligature_says, four_values, pair_says, set_holds, by_index, by_each_class, covered, Content, content}
use Rattle.differences.specs.Entries.{beside}
use Rattle.difference_laws.specs.Classes.{in_runs, one_in, class_in?, cover_in}

-- glyph ids
abbrev pub Ids : List ℕ → Type 0
Ids gs = All (λ g. g < 65536) gs

-- What a content answers.

-- a rule fits at a place whose own glyph has chosen it
unfoldable pub says_fits : Says → List ℕ → List ℕ → Bool
says_fits x before after =
    ltb 0 x.count && (fits in_runs x.input after && (fits in_runs x.ahead (drop (x.count - 1) after) && fits in_runs x.back before))

-- the first that fits
unfoldable pub first_says : List Says → List ℕ → List ℕ → Option (ℕ × List (ℕ × ℕ))
first_says [] before after = None
first_says (x ∷ xs) before after = cond (says_fits x before after) (Some (x.count, x.records)) (first_says xs before after)

-- whether a content of rules matches at a place
unfoldable pub match_content : Content → List ℕ → ℕ → List ℕ → Option (ℕ × List (ℕ × ℕ))
match_content (Content.rules f l) before g after = bind (beside l g) (λ xs. first_says xs before after)
match_content (Content.whole x) before g after =
    cond (ltb 0 x.count && (fits in_runs x.input (g ∷ after) && (fits in_runs x.ahead (drop x.count (g ∷ after)) && fits in_runs x.back before))) (Some (x.count, x.records)) None
match_content (Content.pairs l) before g after = None

-- Sequences.

drop_ids : (n : ℕ) (gs : List ℕ) → Ids gs → Ids (drop n gs)
drop_ids zero gs h = h
drop_ids (suc n) [] h = tt
drop_ids (suc n) (g ∷ gs) h = drop_ids n gs h.1

module _ {A : Type 0} (holds : A → ℕ → Bool) (glyphs : A → List (ℕ × ℕ)) (P : A → Type 0) (told : (c : A) (g : ℕ) → P c → g < 65536 → holds c g ≡ in_runs (glyphs c) g) where
  fits_told : (cs : List A) (gs : List ℕ) → All P cs → Ids gs → fits holds cs gs ≡ fits in_runs (map glyphs cs) gs
  unfolding fits
  fits_told [] gs p h = refl
  fits_told (c ∷ cs) [] p h = refl
  fits_told (c ∷ cs) (g ∷ gs) p h = rw (told c g p.0 h.0, fits_told cs gs p.1 h.1)

any : {A : Type 0} (l : List A) → All (λ a. Unit {0}) l
any [] = tt
any (a ∷ l) = (tt, any l)

-- Rules.

module _ (h : Holds) (b i a : ℕ → List (ℕ × ℕ)) (back : (c g : ℕ) → g < 65536 → h.back c g ≡ in_runs (b c) g) (input : (c g : ℕ) → g < 65536 → h.input c g ≡ in_runs (i c) g)
    (ahead : (c g : ℕ) → g < 65536 → h.ahead c g ≡ in_runs (a c) g) (before after : List ℕ) (bs : Ids before) (fs : Ids after) where
  rule_fits_lem : (r : Rule) → rule_fits h r before after ≡ says_fits (rule_says b i a r) before after
  unfolding rule_fits says_fits rule_says
  rule_fits_lem r =
      rw (
        fits_told h.input i (λ c. Unit {0}) (λ c g u k. input c g k) r.input after (any r.input) fs,
        fits_told h.ahead a (λ c. Unit {0}) (λ c g u k. ahead c g k) r.ahead (drop (r.count - 1) after) (any r.ahead) (drop_ids (r.count - 1) after fs),
        fits_told h.back b (λ c. Unit {0}) (λ c g u k. back c g k) r.back before (any r.back) bs,
      )

  first_fits : (rs : List Rule) → first_fit h rs before after ≡ first_says (map (rule_says b i a) rs) before after
  unfolding first_fit first_says rule_says
  first_fits [] = refl
  first_fits (r ∷ rs) = rw (rule_fits_lem r, first_fits rs)

  set_fits : (s : Option (List Rule)) → bind s (λ rs. first_fit h rs before after) ≡ first_says (map (rule_says b i a) (set_holds s)) before after
  unfolding bind set_holds first_says
  set_fits None = refl
  set_fits (Some rs) = first_fits rs

-- Contexts by index and by class.

module _ {A B C : Type 0} (say : A → B) (ask : List A → Option C) (answer : List B → Option C) (same : (s : Option (List A)) → bind s ask ≡ answer (map say (set_holds s))) where
  -- nothing answers where nothing is held
  nothing : answer [] ≡ None
  unfolding bind set_holds
  nothing = sym (same None)

  index_asks : (cov : List ℕ) (sets : List (Option (List A))) (g : ℕ) → bind (set_at cov sets g) ask ≡ bind (beside (by_index say cov sets) g) answer
  unfolding set_at by_index beside bind
  index_asks [] sets g = refl
  index_asks (c ∷ cov) [] g = go (eqb c g) (index_asks cov [] g)
    where
      go : (t : Bool) → bind (set_at cov [] g) ask ≡ bind (beside (by_index say cov []) g) answer → None ≡ bind (cond t (Some []) (beside (by_index say cov []) g)) answer
      go true k = sym nothing
      go false k = beyond cov ∙ k
        where
          beyond : (l : List ℕ) → None ≡ bind (set_at l [] g) ask
          beyond [] = refl
          beyond (x ∷ l) = refl
  index_asks (c ∷ cov) (s ∷ sets) g = go (eqb c g) (index_asks cov sets g)
    where
      go : (t : Bool) → bind (set_at cov sets g) ask ≡ bind (beside (by_index say cov sets) g) answer → bind (cond t s (set_at cov sets g)) ask ≡ bind (cond t (Some (map say (set_holds s))) (beside (by_index say cov sets) g)) answer
      go true k = same s
      go false k = k

  class_asks : (cs : Option (List (ℕ × ℕ))) (cov : List ℕ) (sets : List (Option (List A))) (g : ℕ)
      → bind cs (λ t. cond (member g cov) (bind (get_or sets (class_of t g) None) ask) None) ≡ bind (beside (by_each_class say cs cov sets) g) answer
  unfolding member by_each_class beside bind set_holds
  class_asks None [] sets g = refl
  class_asks (Some t) [] sets g = refl
  class_asks None (c ∷ cov) sets g = go (eqb c g) (class_asks None cov sets g)
    where
      go : (t : Bool) → None ≡ bind (beside (by_each_class say None cov sets) g) answer → None ≡ bind (cond t (Some (map say (set_holds None))) (beside (by_each_class say None cov sets) g)) answer
      go true k = sym nothing
      go false k = k
  class_asks (Some t) (c ∷ cov) sets g = go (eqb c g) refl (class_asks (Some t) cov sets g)
    where
      go : (b : Bool) → eqb c g ≡ b → cond (member g cov) (bind (get_or sets (class_of t g) None) ask) None ≡ bind (beside (by_each_class say (Some t) cov sets) g) answer
          → cond (b || member g cov) (bind (get_or sets (class_of t g) None) ask) None ≡ bind (cond b (Some (map say (set_holds (get_or sets (class_of t c) None)))) (beside (by_each_class say (Some t) cov sets) g)) answer
      go true e k = rw (eqb-true c g e) (same (get_or sets (class_of t g) None))
      go false e k = k

-- the class tables and coverages are good: they ascend, and a listed class is not 0
abbrev pub Sets : Table → Type 0
Sets (Table.by_glyph chained cover sets) = Unit {0}
Sets (Table.by_class chained cover b i a sets) = Opt Classes b × Opt Classes i × Opt Classes a
Sets (Table.by_cover chained b i a rs) = All (Opt Glyphs) b × All (Opt Glyphs) i × All (Opt Glyphs) a
Sets (Table.ligatures cover sets) = Unit {0}
Sets (Table.pairs_of cover f1 f2 sets) = Unit {0}
Sets (Table.class_pairs cover first second f1 f2 n rows) = Unit {0}
Sets (Table.single_delta cover d) = Unit {0}
Sets (Table.single_list cover subs) = Unit {0}

-- a context
abbrev pub IsContext : Table → Type 0
IsContext (Table.by_glyph chained cover sets) = Unit {0}
IsContext (Table.by_class chained cover b i a sets) = Unit {0}
IsContext (Table.by_cover chained b i a rs) = Unit {0}
IsContext (Table.ligatures cover sets) = ⊥
IsContext (Table.pairs_of cover f1 f2 sets) = ⊥
IsContext (Table.class_pairs cover first second f1 f2 n rows) = ⊥
IsContext (Table.single_delta cover d) = ⊥
IsContext (Table.single_list cover subs) = ⊥

glyph_held : (c g : ℕ) → eqb c g ≡ in_runs (one_glyph c) g
unfolding in_runs one_glyph
glyph_held c g = sym (one_in c g) ∙ go (leb c g && leb g c)
  where
    go : (t : Bool) → t ≡ t || false
    go true = refl
    go false = refl

-- a context matches as its content does
pub match_content_lem : (t : Table) → IsContext t → Sets t → (before : List ℕ) (g : ℕ) (after : List ℕ) → Ids before → g < 65536 → Ids after → match t before g after ≡ match_content (content t) before g after
unfolding match content match_content same_glyph same_class beside
match_content_lem (Table.by_glyph chained cover sets) u s before g after bs k fs = go cover
  where
    go : (o : Option (List ℕ)) → bind o (λ cov. bind (set_at cov sets g) (λ rs. first_fit same_glyph rs before after)) ≡ bind (beside (by_index (rule_says one_glyph one_glyph one_glyph) (covered o) sets) g) (λ xs. first_says xs before after)
    go None = refl
    go (Some cov) =
        index_asks (rule_says one_glyph one_glyph one_glyph) (λ rs. first_fit same_glyph rs before after) (λ xs. first_says xs before after)
        (set_fits same_glyph one_glyph one_glyph one_glyph (λ c g k. glyph_held c g) (λ c g k. glyph_held c g) (λ c g k. glyph_held c g) before after bs fs) cov sets g
match_content_lem (Table.by_class chained cover b i a sets) u s before g after bs k fs = go cover
  where
    go : (o : Option (List ℕ)) → bind o (λ cov. bind i (λ cs. cond (member g cov) (bind (get_or sets (class_of cs g) None) (λ rs. first_fit (same_class b i a) rs before after)) None))
        ≡ bind (beside (by_each_class (rule_says (class_runs? b) (class_runs? i) (class_runs? a)) i (covered o) sets) g) (λ xs. first_says xs before after)
    go None = refl
    go (Some cov) =
        class_asks (rule_says (class_runs? b) (class_runs? i) (class_runs? a)) (λ rs. first_fit (same_class b i a) rs before after) (λ xs. first_says xs before after)
        (set_fits (same_class b i a) (class_runs? b) (class_runs? i) (class_runs? a) (λ c g k. sym (class_in? b s.0 c g k)) (λ c g k. sym (class_in? i s.1 c g k)) (λ c g k. sym (class_in? a s.2 c g k)) before after bs fs) i cov sets g
match_content_lem (Table.by_cover chained b i a rs) u s before g after bs k fs =
    rw (
      fits_told covers? cover_runs (Opt Glyphs) (λ c g p k. sym (cover_in c p g)) i (g ∷ after) s.1 (k, fs),
      fits_told covers? cover_runs (Opt Glyphs) (λ c g p k. sym (cover_in c p g)) a (drop (length i) (g ∷ after)) s.2 (drop_ids (length i) (g ∷ after) (k, fs)),
      fits_told covers? cover_runs (Opt Glyphs) (λ c g p k. sym (cover_in c p g)) b before s.0 bs,
    )
match_content_lem (Table.ligatures cover sets) u s before g after bs k fs = absurd u
match_content_lem (Table.pairs_of cover f1 f2 sets) u s before g after bs k fs = absurd u
match_content_lem (Table.class_pairs cover first second f1 f2 n rows) u s before g after bs k fs = absurd u
match_content_lem (Table.single_delta cover d) u s before g after bs k fs = absurd u
match_content_lem (Table.single_list cover subs) u s before g after bs k fs = absurd u

-- Ligatures.

-- the first that fits: the glyph that it forms and its count
unfoldable pub first_forms : List Says → List ℕ → Option (ℕ × ℕ)
first_forms [] after = None
first_forms (x ∷ xs) after = cond (ltb 0 x.count && fits in_runs x.input after) (Some (x.forms, x.count)) (first_forms xs after)

-- the ligature that a content forms at a place
unfoldable pub ligate_content : Content → ℕ → List ℕ → Option (ℕ × ℕ)
ligate_content (Content.rules f l) g after = bind (beside l g) (λ xs. first_forms xs after)
ligate_content (Content.whole x) g after = None
ligate_content (Content.pairs l) g after = None

first_forms_lem : (after : List ℕ) → Ids after → (xs : List Ligature) → first_ligature xs after ≡ first_forms (map ligature_says xs) after
unfolding first_ligature first_forms ligature_says
first_forms_lem after fs [] = refl
first_forms_lem after fs (x ∷ xs) = rw (fits_told eqb one_glyph (λ c. Unit {0}) (λ c g u k. glyph_held c g) x.parts after (any x.parts) fs, first_forms_lem after fs xs)

ligatures_fit : (after : List ℕ) → Ids after → (s : Option (List Ligature)) → bind s (λ xs. first_ligature xs after) ≡ first_forms (map ligature_says (set_holds s)) after
unfolding bind set_holds first_forms
ligatures_fit after fs None = refl
ligatures_fit after fs (Some xs) = first_forms_lem after fs xs

-- a ligature table forms what its content does
pub ligate_content_lem : (cover : Option (List ℕ)) (sets : List (Option (List Ligature))) (g : ℕ) (after : List ℕ) → Ids after → ligate (Table.ligatures cover sets) g after ≡ ligate_content (content (Table.ligatures cover sets)) g after
unfolding ligate content ligate_content beside
ligate_content_lem None sets g after fs = refl
ligate_content_lem (Some cov) sets g after fs = index_asks ligature_says (λ xs. first_ligature xs after) (λ xs. first_forms xs after) (ligatures_fit after fs) cov sets g

-- Pairs.

-- how eight values move two glyphs
unfoldable pub moves_of : List ℕ → Move × Move
moves_of vs = (
  record { x_placement = signed (get_or vs 0 0); y_placement = signed (get_or vs 1 0); x_advance = signed (get_or vs 2 0); y_advance = signed (get_or vs 3 0) },
  record { x_placement = signed (get_or vs 4 0); y_placement = signed (get_or vs 5 0); x_advance = signed (get_or vs 6 0); y_advance = signed (get_or vs 7 0) },
)

-- how a content moves two neighbours
unfoldable pub adjust_content : Content → ℕ → ℕ → Option (Move × Move)
adjust_content (Content.rules f l) g h = None
adjust_content (Content.whole x) g h = None
adjust_content (Content.pairs l) g h = bind (beside l g) (λ ps. bind (beside ps h) (λ vs. Some (moves_of vs)))

module _ (f1 f2 h : ℕ) where
  abbrev moved : Pair → Option (Move × Move)
  moved p = Some (move_of f1 p.first_values, move_of f2 p.second_values)

  eight : (p : Pair) → moved p ≡ Some (moves_of (four_values f1 p.first_values ++ four_values f2 p.second_values))
  unfolding move_of moves_of four_values
  eight p = refl

  pair_moves : (ps : List Pair) → bind (pair_with ps h) moved ≡ bind (beside (map (pair_says f1 f2) ps) h) (λ vs. Some (moves_of vs))
  unfolding bind pair_with beside pair_says
  pair_moves [] = refl
  pair_moves (p ∷ ps) = go (eqb p.second h) (pair_moves ps)
    where
      go : (b : Bool) → bind (pair_with ps h) moved ≡ bind (beside (map (pair_says f1 f2) ps) h) (λ vs. Some (moves_of vs))
          → bind (cond b (Some p) (pair_with ps h)) moved ≡ bind (cond b (Some (four_values f1 p.first_values ++ four_values f2 p.second_values)) (beside (map (pair_says f1 f2) ps) h)) (λ vs. Some (moves_of vs))
      go true k = eight p
      go false k = k

  set_moves : (s : Option (List Pair)) → bind s (λ ps. bind (pair_with ps h) moved) ≡ bind (beside (map (pair_says f1 f2) (set_holds s)) h) (λ vs. Some (moves_of vs))
  unfolding bind set_holds beside
  set_moves None = refl
  set_moves (Some ps) = pair_moves ps

-- a pair table moves as its content does
pub adjust_content_lem : (cover : Option (List ℕ)) (f1 f2 : ℕ) (sets : List (Option (List Pair))) (g h : ℕ) → adjust (Table.pairs_of cover f1 f2 sets) g h ≡ adjust_content (content (Table.pairs_of cover f1 f2 sets)) g h
unfolding adjust content adjust_content beside
adjust_content_lem None f1 f2 sets g h = refl
adjust_content_lem (Some cov) f1 f2 sets g h = index_asks (pair_says f1 f2) (λ ps. bind (pair_with ps h) (moved f1 f2 h)) (λ ps. bind (beside ps h) (λ vs. Some (moves_of vs))) (set_moves f1 f2 h) cov sets g
