-- What holds of every rule's input count and records in a table holds of what is left of the table, and of what the table matches.
use Rattle.std.specs.Prelude.{ℕ, zero, suc, ◌≡◌, Bool, cond, ◌&&◌, not, length, get_or, drop, ltb, Option, None, Some, option_map}
use Rattle.std.proofs.Math.Path.{refl, subst}
use Rattle.std.proofs.Common.{sym}
use Rattle.std.proofs.Math.Bool.{true, false}
use Rattle.std.proofs.lemmas.Option.{same_Some}
use mathlib.Core.List.{List, [], ◌∷◌}
use Rattle.std.proofs.Math.Dec.{eqb}
use Rattle.meaning.specs.Words.{every, find, bind, map_all, push, map_some, member, keys, values}
use Rattle.meaning.specs.Parts.{class_of}
use Rattle.meaning.specs.Tables.{Rule, Ligature, Pair, Table, drop_null, delta_pairs, list_pairs}
use Rattle.meaning.specs.Records.{indexes_below, records_within}
use Rattle.meaning.specs.Cut.{RuleMaps, cut, cut_records, cut_rule, cut_set, kept_sets, sets_of, kept_by_glyph, held_by, retained, slots, keep_slot, trim, kept_by_class, new_coverage, new_classes?, class_map, class_map?, covers_left, kept_ligatures, kept_pairs, covered_map, kept_class_pairs, cut_ligatures, cut_pairs, kept_substitutes, delta_of, agree, kept_singles}
use Rattle.meaning.specs.Matching.{Holds, fits, covers?, set_at, rule_fits, first_fit, same_glyph, same_class, match}
use Rattle.laws.specs.Runs.{both}
use Rattle.laws.specs.Through.{Opt}
use Rattle.laws.specs.CutGood.{opt_bind, all_map_some, opt_cond, opt_unless_empty}
use Rattle.laws.specs.CutCells.{all_every, every_all}
use Rattle.promises.specs.Strings.{All}
use Rattle.promises.specs.Covers.{left_length}
use Rattle.replaying.specs.Listed.{names_below, rule_names, sets_name, records_name}

-- an input count and records
abbrev pub Told : Type 0
Told = ℕ × List (ℕ × ℕ)

-- so of a set's rules, where it is not null
abbrev SetAll : (Told → Type 0) → List Rule → Type 0
SetAll P = All (λ r. P (r.count, r.records))

-- so of each rule of a table
abbrev pub RulesAll : (Told → Type 0) → Table → Type 0
RulesAll P (Table.by_glyph chained cover sets) = All (Opt (SetAll P)) sets
RulesAll P (Table.by_class chained cover b i a sets) = All (Opt (SetAll P)) sets
RulesAll P (Table.by_cover chained b i a rs) = P (length i, rs)
RulesAll P (Table.ligatures cover sets) = Unit {0}
RulesAll P (Table.pairs_of cover f1 f2 sets) = Unit {0}
RulesAll P (Table.class_pairs cover first second f1 f2 m rows) = Unit {0}
RulesAll P (Table.single_delta cover d) = Unit {0}
RulesAll P (Table.single_list cover subs) = Unit {0}

-- a test of each rule of each set that is not null, and the fact
module _ (test : ℕ → List (ℕ × ℕ) → Bool) where
  abbrev Passes : Told → Type 0
  Passes t = test t.0 t.1 ≡ true

  sets_all : (sets : List (Option (List Rule))) → every (every (λ r. test r.count r.records)) (drop_null sets) ≡ true → All (Opt (SetAll Passes)) sets
  unfolding drop_null every
  sets_all [] e = tt
  sets_all (None ∷ sets) e = (tt, sets_all sets e)
  sets_all (Some rs ∷ sets) e = let q = both (every (λ r. test r.count r.records) rs) _ e in (all_every (λ r. test r.count r.records) rs q.0, sets_all sets q.1)

  all_sets : (sets : List (Option (List Rule))) → All (Opt (SetAll Passes)) sets → every (every (λ r. test r.count r.records)) (drop_null sets) ≡ true
  unfolding drop_null every
  all_sets [] h = refl
  all_sets (None ∷ sets) h = all_sets sets h.1
  all_sets (Some rs ∷ sets) h = rw (every_all (λ r. test r.count r.records) rs h.0) (all_sets sets h.1)

-- no record points past its rule
abbrev pub Within : Told → Type 0
Within t = indexes_below t.0 t.1 ≡ true

pub within_all : (t : Table) → records_within t ≡ true → RulesAll Within t
unfolding records_within
within_all (Table.by_glyph chained cover sets) e = sets_all indexes_below sets e
within_all (Table.by_class chained cover b i a sets) e = sets_all indexes_below sets e
within_all (Table.by_cover chained b i a rs) e = e
within_all (Table.ligatures cover sets) e = tt
within_all (Table.pairs_of cover f1 f2 sets) e = tt
within_all (Table.class_pairs cover first second f1 f2 m rows) e = tt
within_all (Table.single_delta cover d) e = tt
within_all (Table.single_list cover subs) e = tt

pub all_within : (t : Table) → RulesAll Within t → records_within t ≡ true
unfolding records_within
all_within (Table.by_glyph chained cover sets) h = all_sets indexes_below sets h
all_within (Table.by_class chained cover b i a sets) h = all_sets indexes_below sets h
all_within (Table.by_cover chained b i a rs) h = h
all_within (Table.ligatures cover sets) h = refl
all_within (Table.pairs_of cover f1 f2 sets) h = refl
all_within (Table.class_pairs cover first second f1 f2 m rows) h = refl
all_within (Table.single_delta cover d) h = refl
all_within (Table.single_list cover subs) h = refl

-- each record names one of n lookups
abbrev pub Names : ℕ → Told → Type 0
Names n t = names_below n t.1 ≡ true

pub names_all : (n : ℕ) (t : Table) → records_name n t ≡ true → RulesAll (Names n) t
unfolding records_name sets_name rule_names
names_all n (Table.by_glyph chained cover sets) e = sets_all (λ k rs. names_below n rs) sets e
names_all n (Table.by_class chained cover b i a sets) e = sets_all (λ k rs. names_below n rs) sets e
names_all n (Table.by_cover chained b i a rs) e = e
names_all n (Table.ligatures cover sets) e = tt
names_all n (Table.pairs_of cover f1 f2 sets) e = tt
names_all n (Table.class_pairs cover first second f1 f2 m rows) e = tt
names_all n (Table.single_delta cover d) e = tt
names_all n (Table.single_list cover subs) e = tt

pub all_names : (n : ℕ) (t : Table) → RulesAll (Names n) t → records_name n t ≡ true
unfolding records_name sets_name rule_names
all_names n (Table.by_glyph chained cover sets) h = all_sets (λ k rs. names_below n rs) sets h
all_names n (Table.by_class chained cover b i a sets) h = all_sets (λ k rs. names_below n rs) sets h
all_names n (Table.by_cover chained b i a rs) h = h
all_names n (Table.ligatures cover sets) h = refl
all_names n (Table.pairs_of cover f1 f2 sets) h = refl
all_names n (Table.class_pairs cover first second f1 f2 m rows) h = refl
all_names n (Table.single_delta cover d) h = refl
all_names n (Table.single_list cover subs) h = refl

module _ (P : Told → Type 0) where
  -- What a table matches is one of its rules.

  first_told : (h : Holds) (rs : List Rule) (before after : List ℕ) → SetAll P rs → Opt P (first_fit h rs before after)
  unfolding first_fit
  first_told h [] before after p = tt
  first_told h (r ∷ rs) before after p = step (rule_fits h r before after) (first_told h rs before after p.1)
    where
      step : (b : Bool) → Opt P (first_fit h rs before after) → Opt P (cond b (Some (r.count, r.records)) (first_fit h rs before after))
      step true k = p.0
      step false k = k

  set_found : {A : Type 0} (Q : A → Type 0) (cov : List ℕ) (sets : List (Option A)) (x : ℕ) → All (Opt Q) sets → Opt Q (set_at cov sets x)
  unfolding set_at
  set_found Q [] sets x h = tt
  set_found Q (c ∷ cov) [] x h = tt
  set_found Q (c ∷ cov) (s ∷ sets) x h = step (eqb c x) (set_found Q cov sets x h.1)
    where
      step : (b : Bool) → Opt Q (set_at cov sets x) → Opt Q (cond b s (set_at cov sets x))
      step true k = h.0
      step false k = k

  slot_found : {A : Type 0} (Q : A → Type 0) (sets : List (Option A)) (n : ℕ) → All (Opt Q) sets → Opt Q (get_or sets n None)
  slot_found Q [] n h = tt
  slot_found Q (s ∷ sets) zero h = h.0
  slot_found Q (s ∷ sets) (suc n) h = slot_found Q sets n h.1

  pub match_told : (t : Table) → RulesAll P t → (before : List ℕ) (x : ℕ) (after : List ℕ) → Opt P (match t before x after)
  unfolding match bind
  match_told (Table.by_glyph chained None sets) h before x after = tt
  match_told (Table.by_glyph chained (Some cov) sets) h before x after =
      opt_bind (SetAll P) P (set_at cov sets x) (λ rs. first_fit same_glyph rs before after) (set_found (SetAll P) cov sets x h) (λ rs p. first_told same_glyph rs before after p)
  match_told (Table.by_class chained None b i a sets) h before x after = tt
  match_told (Table.by_class chained (Some cov) b None a sets) h before x after = tt
  match_told (Table.by_class chained (Some cov) b (Some cs) a sets) h before x after = step (member x cov)
    where
      step : (t : Bool) → Opt P (cond t (bind (get_or sets (class_of cs x) None) (λ rs. first_fit (same_class b (Some cs) a) rs before after)) None)
      step true = opt_bind (SetAll P) P (get_or sets (class_of cs x) None) (λ rs. first_fit (same_class b (Some cs) a) rs before after) (slot_found (SetAll P) sets (class_of cs x) h) (λ rs p. first_told (same_class b (Some cs) a) rs before after p)
      step false = tt
  match_told (Table.by_cover chained b i a rs) h before x after = step (ltb 0 (length i) && (fits covers? i (x ∷ after) && (fits covers? a (drop (length i) (x ∷ after)) && fits covers? b before)))
    where
      step : (t : Bool) → Opt P (cond t (Some (length i, rs)) None)
      step true = h
      step false = tt
  match_told (Table.ligatures cover sets) h before x after = tt
  match_told (Table.pairs_of cover f1 f2 sets) h before x after = tt
  match_told (Table.class_pairs cover first second f1 f2 m rows) h before x after = tt
  match_told (Table.single_delta cover d) h before x after = tt
  match_told (Table.single_list cover subs) h before x after = tt

-- What is cut.

module _ (P Q : Told → Type 0) (l : List (ℕ × ℕ)) (f : (t : Told) → P t → Q (t.0, cut_records l t.1)) where
  cut_rule_lem : (chained : Bool) (m : RuleMaps) → m.lookups ≡ l → (r : Rule) → P (r.count, r.records) → Opt (λ s. Q (s.count, s.records)) (cut_rule chained m r)
  unfolding cut_rule bind
  cut_rule_lem chained m e r p =
      opt_cond (λ s. Q (s.count, s.records)) (not chained && eqb r.count 0) _
      (step (map_all (find m.back) r.back) (map_all (find m.input) r.input) (map_all (find m.ahead) r.ahead))
    where
      step : (b i a : Option (List ℕ))
          → Opt (λ (s : Rule). Q (s.count, s.records)) (bind b (λ b'. bind i (λ i'. bind a (λ a'. Some (record { back = b'; count = r.count; input = i'; ahead = a'; records = cut_records m.lookups r.records })))))
      step None i a = tt
      step (Some b) None a = tt
      step (Some b) (Some i) None = tt
      step (Some b) (Some i) (Some a) = rw e (f (r.count, r.records) p)

  cut_set_lem : (chained : Bool) (m : RuleMaps) → m.lookups ≡ l → (rs : List Rule) → SetAll P rs → Opt (SetAll Q) (cut_set chained m rs)
  unfolding cut_set
  cut_set_lem chained m e rs h =
      opt_unless_empty (SetAll Q) (map_some (cut_rule chained m) rs) (all_map_some (λ r. P (r.count, r.records)) (λ r. Q (r.count, r.records)) (cut_rule chained m) (cut_rule_lem chained m e) rs h)

  -- sets by coverage index
  kept_all : {A : Type 0} (R S : A → Type 0) (one : A → Option A) → ((a : A) → R a → Opt S (one a)) → (g : List (ℕ × ℕ)) (cov : List ℕ) (sets : List (Option A)) → All (Opt R) sets
      → All (Opt S) (sets_of (kept_sets one g cov sets))
  unfolding kept_sets sets_of push bind
  kept_all R S one k g [] sets h = tt
  kept_all R S one k g (c ∷ cov) [] h = tt
  kept_all R S one k g (c ∷ cov) (s ∷ sets) h = step (find g c) s h.0 (kept_all R S one k g cov sets h.1)
    where
      put : (n : ℕ) (o : Option _) (ks : List (ℕ × _)) → Opt S o → All (Opt S) (sets_of ks) → All (Opt S) (sets_of (push (bind o (λ y. Some (n, y))) ks))
      put n None ks p q = q
      put n (Some y) ks p q = (p, q)

      step : (o : Option ℕ) (s : Option _) → Opt R s → All (Opt S) (sets_of (kept_sets one g cov sets))
          → All (Opt S) (sets_of (push (bind o (λ n. bind s (λ x. bind (one x) (λ y. Some (n, y))))) (kept_sets one g cov sets)))
      step None s p q = q
      step (Some n) None p q = q
      step (Some n) (Some x) p q = put n (one x) (kept_sets one g cov sets) (k x p) q

  -- sets by class
  slots_all : (R S : List Rule → Type 0) (one : List Rule → Option (List Rule)) → ((a : List Rule) → R a → Opt S (one a)) → (covered : List ℕ) (sets : List (Option (List Rule))) (cs : List ℕ) → All (Opt R) sets
      → All (Opt S) (slots one covered sets cs)
  unfolding slots
  slots_all R S one k covered sets [] h = tt
  slots_all R S one k covered sets (c ∷ cs) h = (step (member c covered), slots_all R S one k covered sets cs h)
    where
      step : (b : Bool) → Opt S (cond b (bind (get_or sets c None) one) None)
      step true = opt_bind R S (get_or sets c None) one (slot_found P R sets c h) k
      step false = tt

  trim_all : {A : Type 0} (S : A → Type 0) (xs : List (Option A)) → All (Opt S) xs → All (Opt S) (trim xs)
  unfolding trim keep_slot
  trim_all S [] h = tt
  trim_all S (x ∷ xs) h = step x (trim xs) h.0 (trim_all S xs h.1)
    where
      step : (x : Option _) (ys : List (Option _)) → Opt S x → All (Opt S) ys → All (Opt S) (keep_slot x ys)
      step None [] p q = tt
      step None (y ∷ ys) p q = (tt, q)
      step (Some a) ys p q = (p, q)

  by_glyph_all : (chained : Bool) (ks : List (ℕ × List Rule)) → All (Opt (SetAll Q)) (sets_of ks) → Opt (RulesAll Q) (kept_by_glyph chained ks)
  unfolding kept_by_glyph
  by_glyph_all chained [] h = tt
  by_glyph_all chained (k ∷ ks) h = h

  by_class_all : (chained : Bool) (cov : List ℕ) (b i a : Option (List (ℕ × ℕ))) (ss : List (Option (List Rule))) → All (Opt (SetAll Q)) ss → Opt (RulesAll Q) (kept_by_class chained cov b i a ss)
  unfolding kept_by_class
  by_class_all chained cov b i a [] h = tt
  by_class_all chained cov b i a (s ∷ ss) h = h

  by_cover_all : (chained : Bool) (b i a : Option (List (Option (List ℕ)))) (n : ℕ) (rs : List (ℕ × ℕ)) → option_map length i ≡ bind i (λ k. Some n) → Q (n, rs)
      → Opt (RulesAll Q) (bind b (λ b'. bind i (λ i'. bind a (λ a'. Some (Table.by_cover chained b' i' a' rs)))))
  unfolding bind
  by_cover_all chained None i a n rs e q = tt
  by_cover_all chained (Some b) None a n rs e q = tt
  by_cover_all chained (Some b) (Some i) None n rs e q = tt
  by_cover_all chained (Some b) (Some i) (Some a) n rs e q = subst (λ (m : ℕ). Q (m, rs)) (sym (same_Some (length i) n e)) q

  no_ligature : (ks : List (ℕ × List Ligature)) → Opt (RulesAll Q) (kept_ligatures ks)
  unfolding kept_ligatures
  no_ligature [] = tt
  no_ligature (k ∷ ks) = tt

  no_pair : (f1 f2 : ℕ) (ks : List (ℕ × List Pair)) → Opt (RulesAll Q) (kept_pairs f1 f2 ks)
  unfolding kept_pairs
  no_pair f1 f2 [] = tt
  no_pair f1 f2 (k ∷ ks) = tt

  no_class_pair : (g h cs ds : List (ℕ × ℕ)) (f1 f2 : ℕ) (rows : List (List Pair)) → Opt (RulesAll Q) (kept_class_pairs g h cs ds f1 f2 rows)
  unfolding kept_class_pairs
  no_class_pair g [] cs ds f1 f2 rows = tt
  no_class_pair g (e ∷ h) cs ds f1 f2 rows = tt

  no_single : (es : List (ℕ × ℕ)) → Opt (RulesAll Q) (kept_singles es)
  unfolding kept_singles
  no_single [] = tt
  no_single (e ∷ r) = go (agree (e ∷ r))
    where
      go : (b : Bool) → RulesAll Q (cond b (Table.single_delta (Some (keys (e ∷ r))) (delta_of e)) (Table.single_list (Some (keys (e ∷ r))) (values (e ∷ r))))
      go true = tt
      go false = tt

  -- what holds of every rule of a table holds, with the records cut, of every rule of what is left
  pub cut_told : (g : List (ℕ × ℕ)) (t : Table) → RulesAll P t → Opt (RulesAll Q) (cut g l t)
  unfolding cut bind
  cut_told g (Table.by_glyph chained None sets) h = tt
  cut_told g (Table.by_glyph chained (Some cov) sets) h =
      let m : RuleMaps = record { back = g; input = g; ahead = g; lookups = l } in
      by_glyph_all chained (kept_sets (cut_set chained m) g cov sets) (kept_all (SetAll P) (SetAll Q) (cut_set chained m) (cut_set_lem chained m refl) g cov sets h)
  cut_told g (Table.by_class chained None b i a sets) h = tt
  cut_told g (Table.by_class chained (Some cov) b None a sets) h = tt
  cut_told g (Table.by_class chained (Some cov) b (Some cs) a sets) h =
      let m : RuleMaps = record { back = class_map? g b; input = class_map g cs; ahead = class_map? g a; lookups = l } in
      let ss = slots (cut_set chained m) (held_by cs (retained g cov)) sets (held_by cs (keys g)) in
      by_class_all chained (new_coverage g cov) (new_classes? g b) (new_classes? g (Some cs)) (new_classes? g a) (trim ss)
      (trim_all (SetAll Q) ss (slots_all (SetAll P) (SetAll Q) (cut_set chained m) (cut_set_lem chained m refl) (held_by cs (retained g cov)) sets (held_by cs (keys g)) h))
  cut_told g (Table.by_cover chained b i a rs) h =
      by_cover_all chained (covers_left g b) (covers_left g i) (covers_left g a) (length i) (cut_records l rs) (left_length g i) (f (length i, rs) h)
  cut_told g (Table.ligatures None sets) h = tt
  cut_told g (Table.ligatures (Some cov) sets) h = no_ligature (kept_sets (cut_ligatures g) g cov sets)
  cut_told g (Table.pairs_of None f1 f2 sets) h = tt
  cut_told g (Table.pairs_of (Some cov) f1 f2 sets) h = no_pair f1 f2 (kept_sets (cut_pairs g) g cov sets)
  cut_told g (Table.class_pairs None first second f1 f2 m rows) h = tt
  cut_told g (Table.class_pairs (Some cov) None second f1 f2 m rows) h = tt
  cut_told g (Table.class_pairs (Some cov) (Some cs) None f1 f2 m rows) h = tt
  cut_told g (Table.class_pairs (Some cov) (Some cs) (Some ds) f1 f2 m rows) h = no_class_pair g (covered_map g cov) cs ds f1 f2 rows
  cut_told g (Table.single_delta None d) h = tt
  cut_told g (Table.single_delta (Some cov) d) h = no_single (kept_substitutes g (delta_pairs cov d))
  cut_told g (Table.single_list None subs) h = tt
  cut_told g (Table.single_list (Some cov) subs) h = no_single (kept_substitutes g (list_pairs cov subs))
