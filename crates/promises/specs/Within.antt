-- What is cut has no record past its rule, if the source has none: records keep their places, and rules their input counts. So what is kept is never refused as 12.
use Rattle.std.specs.Prelude.{ℕ, suc, ◌≡◌, refl, Bool, true, false, cond, ◌&&◌, not, List, [], ◌∷◌, length, take, drop, ltb, eqb, Option, None, Some}
use Rattle.std.proofs.Common.{sym, ap, ◌∙◌, subst}
use Rattle.std.proofs.Math.Bool.{true≢false}
use Rattle.meaning.specs.Words.{keys, values, every, find, bind, map_all, push, map_some}
use Rattle.meaning.specs.Tables.{Rule, Ligature, Pair, Table, drop_null, delta_pairs, list_pairs, table}
use Rattle.meaning.specs.Records.{indexes_below, rule_within, sets_within, records_within}
use Rattle.meaning.specs.Cut.{RuleMaps, cut_records, cut_rule, cut_set, kept_sets, sets_of, kept_by_glyph, held_by, class_map, class_map?, new_classes?, new_coverage, retained, slots, trim, kept_by_class, covers_left, cut_ligatures, kept_ligatures, cut_pairs, kept_pairs, covered_map, kept_class_pairs, kept_substitutes, delta_of, agree, kept_singles, cut}
use Rattle.laws.specs.Through.{Opt}
use Rattle.laws.specs.CutGood.{opt_bind, all_map_some, opt_cond, opt_unless_empty, slots_all, trim_all}
use Rattle.laws.specs.CutCells.{every_all, all_every}
use Rattle.laws.specs.CallBack.{passed}
use Rattle.promises.specs.Strings.{All}
use Rattle.promises.specs.Numbers.{and_left, and_right}
use Rattle.promises.specs.Refusals.{Call, answer, glyph_map, lookup_map, left?, refusals, given_exactly}

-- nothing is said of an answer
abbrev Anything : {A : Type 0} → A → Type 0
Anything a = Unit {0}

any : {A : Type 0} (o : Option A) → Opt Anything o
any None = tt
any (Some a) = tt

-- records keep their places
cut_places : (n : ℕ) (l rs : List (ℕ × ℕ)) → indexes_below n rs ≡ true → indexes_below n (cut_records l rs) ≡ true
unfolding indexes_below cut_records
cut_places n l rs h =
    every_all (λ e. ltb e.0 n) (cut_records l rs)
    (all_map_some (λ e. ltb e.0 n ≡ true) (λ e. ltb e.0 n ≡ true) (λ e. bind (find l e.1) (λ x. Some (e.0, x)))
    (λ e p. opt_bind Anything (λ e. ltb e.0 n ≡ true) (find l e.1) (λ x. Some (e.0, x)) (any (find l e.1)) (λ x u. p)) rs (all_every (λ e. ltb e.0 n) rs h))

-- rules keep their counts
abbrev RuleWithin : Rule → Type 0
RuleWithin r = rule_within r ≡ true

cut_rule_lem : (chained : Bool) (m : RuleMaps) (r : Rule) → RuleWithin r → Opt RuleWithin (cut_rule chained m r)
unfolding cut_rule rule_within
cut_rule_lem chained m r h =
    opt_cond RuleWithin (not chained && eqb r.count 0) _
    (opt_bind Anything RuleWithin (map_all (find m.back) r.back) _ (any (map_all (find m.back) r.back)) (λ b u.
    opt_bind Anything RuleWithin (map_all (find m.input) r.input) _ (any (map_all (find m.input) r.input)) (λ i v.
    opt_bind Anything RuleWithin (map_all (find m.ahead) r.ahead) _ (any (map_all (find m.ahead) r.ahead)) (λ a w. cut_places r.count m.lookups r.records h))))

-- no record of a set points past its rule
abbrev SetWithin : List Rule → Type 0
SetWithin rs = every rule_within rs ≡ true

cut_set_lem : (chained : Bool) (m : RuleMaps) (rs : List Rule) → SetWithin rs → Opt SetWithin (cut_set chained m rs)
unfolding cut_set
cut_set_lem chained m rs h =
    let left = map_some (cut_rule chained m) rs in
    opt_unless_empty SetWithin left (every_all rule_within left (all_map_some RuleWithin RuleWithin (cut_rule chained m) (cut_rule_lem chained m) rs (all_every rule_within rs h)))

-- sets, as one test and as facts
sets_facts : (ss : List (Option (List Rule))) → sets_within ss ≡ true → All (Opt SetWithin) ss
unfolding sets_within every drop_null
sets_facts [] h = tt
sets_facts (None ∷ ss) h = (tt, sets_facts ss h)
sets_facts (Some rs ∷ ss) h = (and_left (every rule_within rs) _ h, sets_facts ss (and_right (every rule_within rs) _ h))

sets_tested : (ss : List (Option (List Rule))) → All (Opt SetWithin) ss → sets_within ss ≡ true
unfolding sets_within every drop_null
sets_tested [] h = refl
sets_tested (None ∷ ss) h = sets_tested ss h.1
sets_tested (Some rs ∷ ss) h = rw h.0 (sets_tested ss h.1)

-- kept sets
kept_sets_lem : {A : Type 0} (P : A → Type 0) (f : A → Option A) → ((x : A) → P x → Opt P (f x)) → (g : List (ℕ × ℕ)) (cov : List ℕ) (ss : List (Option A)) → All (Opt P) ss → All (Opt P) (sets_of (kept_sets f g cov ss))
unfolding kept_sets sets_of push
kept_sets_lem P f k g [] ss h = tt
kept_sets_lem P f k g (c ∷ cov) [] h = tt
kept_sets_lem {A} P f k g (c ∷ cov) (s ∷ ss) h =
    step (bind (find g c) _) (opt_bind Anything Q (find g c) _ (any (find g c)) (λ n u. opt_bind P Q s _ h.0 (λ x p. opt_bind P Q (f x) _ (k x p) (λ y q. q)))) (kept_sets_lem P f k g cov ss h.1)
  where
    Q : ℕ × A → Type 0
    Q e = P e.1

    step : (o : Option (ℕ × A)) → Opt Q o → All (Opt P) (sets_of (kept_sets f g cov ss)) → All (Opt P) (sets_of (push o (kept_sets f g cov ss)))
    step None p i = i
    step (Some e) p i = (p, i)

-- a coverage for each glyph of the input stays
abbrev AsMany : {A B : Type 0} → List A → List B → Type 0
AsMany l r = length r ≡ length l

all_length : {A B : Type 0} (f : A → Option B) (l : List A) → Opt (AsMany l) (map_all f l)
unfolding map_all
all_length f [] = refl
all_length f (a ∷ l) = opt_bind Anything (AsMany (a ∷ l)) (f a) _ (any (f a)) (λ b u. opt_bind (AsMany l) (AsMany (a ∷ l)) (map_all f l) _ (all_length f l) (λ bs e. ap suc e))

-- no record of a table points past its rule
abbrev pub Within : Table → Type 0
Within t = records_within t ≡ true

by_cover_within : (chained : Bool) (l rs : List (ℕ × ℕ)) (i : List (Option (List ℕ))) (b' i' a' : Option (List (Option (List ℕ)))) → Opt (AsMany i) i' → indexes_below (length i) rs ≡ true
    → Opt Within (bind b' (λ b. bind i' (λ i. bind a' (λ a. Some (Table.by_cover chained b i a (cut_records l rs))))))
unfolding records_within
by_cover_within chained l rs i b' i' a' e h =
    opt_bind Anything Within b' _ (any b') (λ b u. opt_bind (AsMany i) Within i' _ e (λ r n. opt_bind Anything Within a' _ (any a') (λ a v. rw n (cut_places (length i) l rs h))))

-- single substitutions have no records
singles_within : (ks : List (ℕ × ℕ)) → Opt Within (kept_singles ks)
unfolding kept_singles records_within
singles_within [] = tt
singles_within (e ∷ r) = step (agree (e ∷ r))
  where
    step : (t : Bool) → Within (cond t (Table.single_delta (Some (keys (e ∷ r))) (delta_of e)) (Table.single_list (Some (keys (e ∷ r))) (values (e ∷ r))))
    step true = refl
    step false = refl

-- What is cut of such a table is such a table.
pub cut_within : (g l : List (ℕ × ℕ)) (t : Table) → Within t → Opt Within (cut g l t)
unfolding cut records_within
cut_within g l (Table.by_glyph chained None sets) h = tt
cut_within g l (Table.by_glyph chained (Some cov) sets) h = step (kept_sets (cut_set chained m) g cov sets) (kept_sets_lem SetWithin (cut_set chained m) (cut_set_lem chained m) g cov sets (sets_facts sets h))
  where
    m : RuleMaps
    m = record { back = g; input = g; ahead = g; lookups = l }

    step : (ks : List (ℕ × List Rule)) → All (Opt SetWithin) (sets_of ks) → Opt Within (kept_by_glyph chained ks)
    step [] k = tt
    step (e ∷ ks) k = sets_tested (sets_of (e ∷ ks)) k
cut_within g l (Table.by_class chained None b i a sets) h = tt
cut_within g l (Table.by_class chained (Some cov) b None a sets) h = tt
cut_within g l (Table.by_class chained (Some cov) b (Some cs) a sets) h =
    step (trim all) (trim_all SetWithin all (slots_all SetWithin (cut_set chained m) (cut_set_lem chained m) (held_by cs (retained g cov)) sets (held_by cs (keys g)) (sets_facts sets h)))
  where
    m : RuleMaps
    m = record { back = class_map? g b; input = class_map g cs; ahead = class_map? g a; lookups = l }

    all : List (Option (List Rule))
    all = slots (cut_set chained m) (held_by cs (retained g cov)) sets (held_by cs (keys g))

    step : (ss : List (Option (List Rule))) → All (Opt SetWithin) ss → Opt Within (kept_by_class chained (new_coverage g cov) (new_classes? g b) (new_classes? g (Some cs)) (new_classes? g a) ss)
    step [] k = tt
    step (s ∷ ss) k = sets_tested (s ∷ ss) k
cut_within g l (Table.by_cover chained b i a rs) h = by_cover_within chained l rs i (covers_left g b) (covers_left g i) (covers_left g a) (all_length _ i) h
cut_within g l (Table.ligatures None sets) h = tt
cut_within g l (Table.ligatures (Some cov) sets) h = step (kept_sets (cut_ligatures g) g cov sets)
  where
    step : (ks : List (ℕ × List Ligature)) → Opt Within (kept_ligatures ks)
    step [] = tt
    step (e ∷ ks) = refl
cut_within g l (Table.pairs_of None f1 f2 sets) h = tt
cut_within g l (Table.pairs_of (Some cov) f1 f2 sets) h = step (kept_sets (cut_pairs g) g cov sets)
  where
    step : (ks : List (ℕ × List Pair)) → Opt Within (kept_pairs f1 f2 ks)
    step [] = tt
    step (e ∷ ks) = refl
cut_within g l (Table.class_pairs None first second f1 f2 n rows) h = tt
cut_within g l (Table.class_pairs (Some cov) None second f1 f2 n rows) h = tt
cut_within g l (Table.class_pairs (Some cov) (Some cs) None f1 f2 n rows) h = tt
cut_within g l (Table.class_pairs (Some cov) (Some cs) (Some ds) f1 f2 n rows) h = step (covered_map g cov)
  where
    step : (covered : List (ℕ × ℕ)) → Opt Within (kept_class_pairs g covered cs ds f1 f2 rows)
    step [] = tt
    step (e ∷ r) = refl
cut_within g l (Table.single_delta None d) h = tt
cut_within g l (Table.single_delta (Some cov) d) h = singles_within (kept_substitutes g (delta_pairs cov d))
cut_within g l (Table.single_list None subs) h = tt
cut_within g l (Table.single_list (Some cov) subs) h = singles_within (kept_substitutes g (list_pairs cov subs))

module _ (c : Call) where
  -- what a call keeps is one
  pub kept_within : (answer c).number ≡ 0 → (small : Table) → left? c ≡ Some small → Within small
  kept_within h small e =
      let w = (passed c.kind c.form c.packing c.source c.glyphs c.lookups c.buffer h).within in
      subst (Opt Within) e (cut_within (glyph_map c) (lookup_map c) (table c.kind c.source) w)

  -- 12 is not given on one
  pub not_past : Within (table c.kind c.source) → (answer c).number ≡ 12 → ⊥
  unfolding refusals
  not_past w h =
      let t = ((given_exactly c (take 9 (refusals c)) 12 (not (records_within (table c.kind c.source))) (drop 10 (refusals c)) refl).0 h).0 in
      true≢false (sym t ∙ rw w)
