-- One listed lookup and what is left of it: it is not refused, it names no other lookups, and it answers alike.
use Prim.Native.Nat.{ℕ, zero, suc, ◌≤◌, ◌<◌}
use Rattle.std.specs.Prelude.{◌≡◌, Bool, false, cond, ◌&&◌, not, length, Option, None, Some, option_map}
use Rattle.std.proofs.Math.Path.{refl, ap}
use Rattle.std.proofs.Common.{sym, ◌∙◌, le-ltb, ltb-true}
use Rattle.std.proofs.Math.Bool.{true, and-false}
use Rattle.std.proofs.lemmas.Option.{none-some, same_Some}
use mathlib.Core.List.{List, [], ◌∷◌, map}
use Rattle.std.proofs.Math.Dec.{ltb}
use Rattle.meaning.specs.Words.{word, inside, keys, values, find, bind, push, map_some}
use Rattle.meaning.specs.Tables.{Rule, Ligature, Pair, Table, table}
use Rattle.meaning.specs.Fault.{fault}
use Rattle.meaning.specs.Records.{indexes_below, records_within}
use Rattle.meaning.specs.Cut.{cut, cut_records, kept_by_glyph, kept_by_class, covers_left, kept_ligatures, kept_pairs, covered_map, kept_class_pairs, kept_sets, cut_set, cut_ligatures, cut_pairs, class_map, class_map?, new_coverage, new_classes?, slots, trim, held_by, retained}
use Rattle.meaning.specs.Subset.{limit, has_format}
use Rattle.meaning.specs.Matching.{at_place, match, substitute}
use Rattle.laws.specs.Runs.{up_ascends}
use Rattle.laws.specs.CutGood.{GoodMap}
use Rattle.laws.specs.CutCells.{all_every, every_all}
use Rattle.laws.specs.Through.{Opt, opt_map}
use Rattle.promises.specs.Strings.{All, Retained, new}
use Rattle.promises.specs.Rules.{cut_match, records_renumbered}
use Rattle.promises.specs.Contexts as Contexts
use Rattle.promises.specs.Contexts.{ordered}
use Rattle.promises.specs.Singles.{SubstitutesRetained, delta_same, list_same}
use Rattle.replaying.specs.Asking.{answer_of, ask}
use Rattle.replaying.specs.Listed.{or_else, malformed, lookup_refusal, names_below, records_name}
use Rattle.renumbering.specs.Same.{Own, new_answer, Keeps}
use Rattle.renumbering.specs.Records.{Told, Within, Names, within_all, all_within, names_all, all_names, match_told, cut_told}

-- Records.

-- records that are cut are among the records
cut_among : (P : ℕ × ℕ → Type 0) (l : List (ℕ × ℕ)) → ((r : ℕ × ℕ) (n : ℕ) → P r → find l r.1 ≡ Some n → P (r.0, n)) → (rs : List (ℕ × ℕ)) → All P rs → All P (cut_records l rs)
unfolding cut_records map_some bind push
cut_among P l k [] h = tt
cut_among P l k (r ∷ rs) h = step (find l r.1) refl (cut_among P l k rs h.1)
  where
    step : (o : Option ℕ) → find l r.1 ≡ o → All P (cut_records l rs) → All P (push (bind o (λ n. Some (r.0, n))) (cut_records l rs))
    step None e q = q
    step (Some n) e q = (k r n h.0 e, q)

within_cut : (l : List (ℕ × ℕ)) (t : Told) → Within t → Within (t.0, cut_records l t.1)
unfolding indexes_below
within_cut l t e =
    every_all (λ r. ltb r.0 t.0) (cut_records l t.1) (cut_among (λ r. ltb r.0 t.0 ≡ true) l (λ r n p q. p) t.1 (all_every (λ r. ltb r.0 t.0) t.1 e))

-- lookups that keep their number
module _ (l : List (ℕ × ℕ)) (n : ℕ) (mapped : (i : ℕ) → i < n → find l i ≡ Some i) where
  names_cut : (t : Told) → Names n t → Names n (t.0, cut_records l t.1)
  unfolding names_below
  names_cut t e = every_all (λ r. ltb r.1 n) (cut_records l t.1) (cut_among (λ r. ltb r.1 n ≡ true) l own t.1 (all_every (λ r. ltb r.1 n) t.1 e))
    where
      own : (r : ℕ × ℕ) (m : ℕ) → ltb r.1 n ≡ true → find l r.1 ≡ Some m → ltb m n ≡ true
      own r m p q = ap (λ (k : ℕ). ltb k n) (same_Some m r.1 (sym q ∙ mapped r.1 (ltb-true r.1 n p))) ∙ p

  names_own : (t : Told) → Names n t → All (Own l) t.1
  unfolding names_below
  names_own t e = go t.1 (all_every (λ r. ltb r.1 n) t.1 e)
    where
      go : (rs : List (ℕ × ℕ)) → All (λ r. ltb r.1 n ≡ true) rs → All (Own l) rs
      go [] h = tt
      go (r ∷ rs) h = (mapped r.1 (ltb-true r.1 n h.0), go rs h.1)

-- Substitutes, of every table.

-- what is left of a table of another kind has no substitutes
module _ (y : ℕ) where
  no_glyph : (chained : Bool) (ks : List (ℕ × List Rule)) → bind (kept_by_glyph chained ks) (λ t. substitute t y) ≡ None
  unfolding bind kept_by_glyph substitute
  no_glyph chained [] = refl
  no_glyph chained (k ∷ ks) = refl

  no_class : (chained : Bool) (cov : List ℕ) (b i a : Option (List (ℕ × ℕ))) (ss : List (Option (List Rule))) → bind (kept_by_class chained cov b i a ss) (λ t. substitute t y) ≡ None
  unfolding bind kept_by_class substitute
  no_class chained cov b i a [] = refl
  no_class chained cov b i a (s ∷ ss) = refl

  no_cover : (chained : Bool) (b i a : Option (List (Option (List ℕ)))) (rs : List (ℕ × ℕ)) → bind (bind b (λ b'. bind i (λ i'. bind a (λ a'. Some (Table.by_cover chained b' i' a' rs))))) (λ t. substitute t y) ≡ None
  unfolding bind substitute
  no_cover chained None i a rs = refl
  no_cover chained (Some b) None a rs = refl
  no_cover chained (Some b) (Some i) None rs = refl
  no_cover chained (Some b) (Some i) (Some a) rs = refl

  no_ligature : (ks : List (ℕ × List Ligature)) → bind (kept_ligatures ks) (λ t. substitute t y) ≡ None
  unfolding bind kept_ligatures substitute
  no_ligature [] = refl
  no_ligature (k ∷ ks) = refl

  no_pair : (f1 f2 : ℕ) (ks : List (ℕ × List Pair)) → bind (kept_pairs f1 f2 ks) (λ t. substitute t y) ≡ None
  unfolding bind kept_pairs substitute
  no_pair f1 f2 [] = refl
  no_pair f1 f2 (k ∷ ks) = refl

  no_class_pair : (g h cs ds : List (ℕ × ℕ)) (f1 f2 : ℕ) (rows : List (List Pair)) → bind (kept_class_pairs g h cs ds f1 f2 rows) (λ t. substitute t y) ≡ None
  unfolding bind kept_class_pairs substitute
  no_class_pair g [] cs ds f1 f2 rows = refl
  no_class_pair g (e ∷ h) cs ds f1 f2 rows = refl

-- what is left of a table gives a retained glyph the substitute that the table gave it, renumbered, if retained glyphs have retained substitutes
substitute_same : (g l : List (ℕ × ℕ)) → GoodMap g → (t : Table) → SubstitutesRetained g t → (x : ℕ) → Retained g x
    → bind (cut g l t) (λ u. substitute u (new g x)) ≡ option_map (new g) (substitute t x)
unfolding cut bind substitute
substitute_same g l good (Table.by_glyph chained None sets) k x rx = refl
substitute_same g l good (Table.by_glyph chained (Some cov) sets) k x rx = no_glyph (new g x) chained (kept_sets (cut_set chained (record { back = g; input = g; ahead = g; lookups = l })) g cov sets)
substitute_same g l good (Table.by_class chained None b i a sets) k x rx = refl
substitute_same g l good (Table.by_class chained (Some cov) b None a sets) k x rx = refl
substitute_same g l good (Table.by_class chained (Some cov) b (Some cs) a sets) k x rx =
    no_class (new g x) chained (new_coverage g cov) (new_classes? g b) (new_classes? g (Some cs)) (new_classes? g a)
    (trim (slots (cut_set chained (record { back = class_map? g b; input = class_map g cs; ahead = class_map? g a; lookups = l })) (held_by cs (retained g cov)) sets (held_by cs (keys g))))
substitute_same g l good (Table.by_cover chained b i a rs) k x rx = no_cover (new g x) chained (covers_left g b) (covers_left g i) (covers_left g a) (cut_records l rs)
substitute_same g l good (Table.ligatures None sets) k x rx = refl
substitute_same g l good (Table.ligatures (Some cov) sets) k x rx = no_ligature (new g x) (kept_sets (cut_ligatures g) g cov sets)
substitute_same g l good (Table.pairs_of None f1 f2 sets) k x rx = refl
substitute_same g l good (Table.pairs_of (Some cov) f1 f2 sets) k x rx = no_pair (new g x) f1 f2 (kept_sets (cut_pairs g) g cov sets)
substitute_same g l good (Table.class_pairs None first second f1 f2 m rows) k x rx = refl
substitute_same g l good (Table.class_pairs (Some cov) None second f1 f2 m rows) k x rx = refl
substitute_same g l good (Table.class_pairs (Some cov) (Some cs) None f1 f2 m rows) k x rx = refl
substitute_same g l good (Table.class_pairs (Some cov) (Some cs) (Some ds) f1 f2 m rows) k x rx = no_class_pair (new g x) g (covered_map g cov) cs ds f1 f2 rows
substitute_same g l good (Table.single_delta cover d) k x rx = delta_same g l good cover d x rx (k x rx)
substitute_same g l good (Table.single_list cover subs) k x rx = list_same g l good cover subs x rx (k x rx)

-- Answers.

-- what holds of an answer at each place of a string of retained glyphs
at_all : {A : Type 0} (g : List (ℕ × ℕ)) (P : A → Type 0) (asked : List ℕ → ℕ → List ℕ → Option A) → ((before : List ℕ) (x : ℕ) (after : List ℕ) → Retained g x → Opt P (asked before x after))
    → (before string : List ℕ) (i : ℕ) → All (Retained g) string → Opt P (at_place asked before string i)
unfolding at_place
at_all g P asked k before [] i r = tt
at_all g P asked k before (x ∷ string) zero r = k before x string r.0
at_all g P asked k before (x ∷ string) (suc i) r = at_all g P asked k (x ∷ before) string i r.1

-- what is the same at each place, given apart, is the same at each place of a string
places_same : {A : Type 0} (g : List (ℕ × ℕ)) (asked asked' : List ℕ → ℕ → List ℕ → Option A) (f : A → A)
    → ((before : List ℕ) (x : ℕ) (after : List ℕ) → All (Retained g) before → Retained g x → All (Retained g) after → asked' (map (new g) before) (new g x) (map (new g) after) ≡ option_map f (asked before x after))
    → (before string : List ℕ) (i : ℕ) → All (Retained g) before → All (Retained g) string → at_place asked' (map (new g) before) (map (new g) string) i ≡ option_map f (at_place asked before string i)
unfolding at_place
places_same g asked asked' f k before [] i rb rs = refl
places_same g asked asked' f k before (x ∷ string) zero rb rs = k before x string rb rs.0 rs.1
places_same g asked asked' f k before (x ∷ string) (suc i) rb rs = places_same g asked asked' f k (x ∷ before) string i (rs.0, rb) rs.1

answer_same : (g l : List (ℕ × ℕ)) (o : Option Told) (s : Option ℕ) → answer_of (option_map (cut_match l) o) (option_map (new g) s) ≡ new_answer g l (answer_of o s)
unfolding answer_of
answer_same g l None None = refl
answer_same g l None (Some x) = refl
answer_same g l (Some a) None = rw (records_renumbered l a.1)
answer_same g l (Some a) (Some x) = rw (records_renumbered l a.1)

answer_keeps : (g l : List (ℕ × ℕ)) (o : Option Told) (s : Option ℕ) → Opt (λ a. All (Own l) a.1) o → Opt (Retained g) s → Keeps g l (answer_of o s)
unfolding answer_of
answer_keeps g l None None p q = tt
answer_keeps g l None (Some x) p q = q
answer_keeps g l (Some a) None p q = p
answer_keeps g l (Some a) (Some x) p q = p

-- Refusals.

pub or_none : {A : Type 0} (o q : Option A) → or_else o q ≡ None → (o ≡ None) × (q ≡ None)
unfolding or_else
or_none None q e = (refl, e)
or_none (Some a) q e = absurd (none-some a (sym e))

pub none_or : {A : Type 0} (o q : Option A) → o ≡ None → q ≡ None → or_else o q ≡ None
unfolding or_else
none_or o q e f = rw e f

past : {A : Type 0} (b : Bool) (a : A) (o : Option A) → cond b (Some a) o ≡ None → (b ≡ false) × (o ≡ None)
past true a o e = absurd (none-some a (sym e))
past false a o e = (refl, e)

-- a lookup is refused for one of four reasons
lookup_fine : (kind : ℕ) (s : List ℕ) → ltb limit (length s) ≡ false → has_format kind (word s 0) ≡ true → fault kind s ≡ None → records_within (table kind s) ≡ true → lookup_refusal kind s ≡ None
unfolding lookup_refusal malformed or_else
lookup_fine kind s short format sound records = rw (short, format, and-false (inside s 0 2), sound, records)

-- what one that is not refused shows
pub fine_sound : (kind : ℕ) (s : List ℕ) → lookup_refusal kind s ≡ None → (fault kind s ≡ None) × (records_within (table kind s) ≡ true)
unfolding lookup_refusal malformed
fine_sound kind s e =
    let a = (past (ltb limit (length s)) (4, 0) _ e).1 in
    let b = or_none (malformed (fault kind s)) _ (past (inside s 0 2 && not (has_format kind (word s 0))) (5, 0) _ a).1 in
    (well (fault kind s) b.0, step (records_within (table kind s)) b.1)
  where
    well : (o : Option ℕ) → malformed o ≡ None → o ≡ None
    well None q = refl
    well (Some at) q = absurd (none-some {A = ℕ × ℕ} (6, at) (sym q))

    step : (t : Bool) → cond {A = Option (ℕ × ℕ)} t None (Some (12, 0)) ≡ None → t ≡ true
    step true q = refl
    step false q = absurd (none-some {A = ℕ × ℕ} (12, 0) (sym q))

-- What is left of a source of this kind, in bytes: they say what was cut, are short, and have a format of their kind and no fault.
pub record Left (g l : List (ℕ × ℕ)) (kind : ℕ) (source small : List ℕ) : Type 0 where
  pub says : cut g l (table kind source) ≡ Some (table kind small)
  pub short : length small ≤ limit
  pub format : has_format kind (word small 0) ≡ true
  pub sound : fault kind small ≡ None

module _ (g l : List (ℕ × ℕ)) (good : GoodMap g) (kind : ℕ) (source small : List ℕ) (left : Left g l kind source small) where
  -- it is not refused
  pub small_fine : lookup_refusal kind source ≡ None → lookup_refusal kind small ≡ None
  small_fine e =
      let r = within_all (table kind source) (fine_sound kind source e).1 in
      let c = cut_told Within Within l (within_cut l) g (table kind source) r in
      lookup_fine kind small (le-ltb limit (length small) left.short) left.format left.sound (all_within (table kind small) (rw left.says at c))

  module _ (n : ℕ) (mapped : (i : ℕ) → i < n → find l i ≡ Some i) (named : records_name n (table kind source) ≡ true) where
    -- it names no other lookups
    pub small_named : records_name n (table kind small) ≡ true
    small_named =
        let c = cut_told (Names n) (Names n) l (names_cut l n mapped) g (table kind source) (names_all n (table kind source) named) in
        all_names n (table kind small) (rw left.says at c)

    -- what it answers stays retained
    pub source_keeps : SubstitutesRetained g (table kind source) → (string : List ℕ) (place : ℕ) → All (Retained g) string → Keeps g l (ask (table kind source) string place)
    unfolding ask
    source_keeps closed string place h =
        let t = table kind source in
        answer_keeps g l (at_place (match t) [] string place) (at_place (λ before x after. substitute t x) [] string place)
        (at_all g (λ a. All (Own l) a.1) (match t)
        (λ before x after r. opt_map (Names n) (λ a. All (Own l) a.1) (names_own l n mapped) (match t before x after) (match_told (Names n) t (names_all n t named) before x after)) [] string place h)
        (at_all g (Retained g) (λ before x after. substitute t x) (λ before x after r. closed x r) [] string place h)

  -- it answers alike
  pub small_same : ordered (table kind source) ≡ true → SubstitutesRetained g (table kind source) → (string : List ℕ) (place : ℕ) → All (Retained g) string
      → ask (table kind small) (map (new g) string) place ≡ new_answer g l (ask (table kind source) string place)
  unfolding ask bind
  small_same o closed string place h =
      let t = table kind source in
      let u = table kind small in
      let a : at_place (match u) [] (map (new g) string) place ≡ option_map (cut_match l) (at_place (match t) [] string place) =
      places_same g (match t) (match u) (cut_match l) (λ before x after rb rx ra. rw left.says at (Contexts.same g l (up_ascends 0 (values g) good.new) before x after rb rx ra t o)) [] string place tt h in
      let b : at_place (λ before x after. substitute u x) [] (map (new g) string) place ≡ option_map (new g) (at_place (λ before x after. substitute t x) [] string place) =
      places_same g (λ before x after. substitute t x) (λ before x after. substitute u x) (new g)
      (λ before x after rb rx ra. rw left.says at (substitute_same g l good t closed x rx)) [] string place tt h in
      rw (a, b) (answer_same g l (at_place (match t) [] string place) (at_place (λ before x after. substitute t x) [] string place))
