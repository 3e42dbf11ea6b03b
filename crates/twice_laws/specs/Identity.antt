-- The identity over what is cut already: the identity glyph map over its retained new ids, and an identity lookup map over all its lookups, give it back.
use Prim.Native.Nat.{ℕ, zero, suc}
use Rattle.std.specs.Prelude.{◌≡◌, Bool, true, false, ◌||◌, get_or, eqb, Option, None, Some}
use Rattle.std.proofs.Math.Path.{refl, ap, ap₂}
use Rattle.std.proofs.Common.{sym, ◌∙◌, true≢false, eqb-true}
use Rattle.std.proofs.Math.Bool.{cond}
use mathlib.Core.List.{List, [], ◌∷◌, ◌++◌}
use Rattle.meaning.specs.Words.{ascends, member, keys, values, find, bind, push, map_some}
use Rattle.meaning.specs.Tables.{Rule, Table}
use Rattle.meaning.specs.Cut.{RuleMaps, cut_records, cut_rule, cut_set, unless_empty, kept_sets, kept_by_glyph, held_by, class_map, class_map?, new_classes?, new_coverage, retained, slots, trim, kept_by_class, covers_left, cut}
use Rattle.laws.specs.Stands.{All, all_map, all_front, all_back, Word}
use Rattle.laws.specs.Through.{Opt}
use Rattle.laws.specs.CutGood.{find_word}
use Rattle.promises.specs.Numbers.{injective}
use Rattle.twice.specs.Definitions.{combined, Within, same, Identity, rule_lookups, set_lookups, lookups_of}
use Rattle.twice.proofs.Maps.{all_members, find_combined, all_found, along}
use Rattle.twice_laws.specs.Cuts.{cut_twice}

pub same_keys : (vs : List ℕ) → keys (same vs) ≡ vs
unfolding same keys
same_keys [] = refl
same_keys (v ∷ vs) = ap (λ (l : List ℕ). v ∷ l) (same_keys vs)

pub same_values : (vs : List ℕ) → values (same vs) ≡ vs
unfolding same values
same_values [] = refl
same_values (v ∷ vs) = ap (λ (l : List ℕ). v ∷ l) (same_values vs)

pub same_identity : (vs : List ℕ) → Identity (same vs)
unfolding same
same_identity [] = tt
same_identity (v ∷ vs) = (refl, same_identity vs)

-- an identity map finds itself
find_identity : (m : List (ℕ × ℕ)) → Identity m → (x : ℕ) → member x (keys m) ≡ true → find m x ≡ Some x
unfolding find keys member
find_identity [] i x h = absurd (true≢false (sym h))
find_identity (e ∷ m) i x h = go (eqb e.0 x) refl (find_identity m i.1 x) h
  where
    go : (b : Bool) → eqb e.0 x ≡ b → (member x (keys m) ≡ true → find m x ≡ Some x) → b || member x (keys m) ≡ true → cond b (Some e.1) (find m x) ≡ Some x
    go true q k r = ap {B = Option ℕ} Some (sym i.0 ∙ eqb-true e.0 x q)
    go false q k r = k r

-- combined with what takes each new id to itself, a map stays as it is
combined_same : (m n : List (ℕ × ℕ)) → All (λ v. find n v ≡ Some v) (values m) → combined m n ≡ m
unfolding combined values map_some push bind
combined_same [] n h = refl
combined_same (e ∷ m) n h = rw h.0 (ap (λ (l : List (ℕ × ℕ)). e ∷ l) (combined_same m n h.1))

found : (l : List ℕ) (xs : List ℕ) → All (λ x. member x l ≡ true) xs → All (λ x. find (same l) x ≡ Some x) xs
found l xs h = all_map (λ x. member x l ≡ true) (λ x. find (same l) x ≡ Some x) (λ x q. find_identity (same l) (same_identity l) x (rw (same_keys l) q)) xs h

-- A cut depends on its lookup map by the lookups that the table names.
some_agrees : {A B : Type 0} (f h : A → Option B) (l : List A) → All (λ a. f a ≡ h a) l → map_some f l ≡ map_some h l
unfolding map_some
some_agrees f h [] e = refl
some_agrees f h (a ∷ l) e = ap₂ push e.0 (some_agrees f h l e.1)

module _ (l l' : List (ℕ × ℕ)) where
  abbrev Agree : List ℕ → Type 0
  Agree = All (λ n. find l n ≡ find l' n)

  records_agree : (rs : List (ℕ × ℕ)) → Agree (values rs) → cut_records l rs ≡ cut_records l' rs
  unfolding cut_records values map_some
  records_agree [] h = refl
  records_agree (r ∷ rs) h = ap₂ push (ap (λ (o : Option ℕ). bind o (λ n. Some (r.0, n))) h.0) (records_agree rs h.1)

  module _ (chained : Bool) (b i a : List (ℕ × ℕ)) where
    abbrev m : RuleMaps
    m = record { back = b; input = i; ahead = a; lookups = l }

    abbrev m' : RuleMaps
    m' = record { back = b; input = i; ahead = a; lookups = l' }

    rules_agree : (rs : List Rule) → Agree (rule_lookups rs) → All (λ r. cut_rule chained m r ≡ cut_rule chained m' r) rs
    unfolding cut_rule rule_lookups
    rules_agree [] h = tt
    rules_agree (r ∷ rs) h = (rw (records_agree r.records (all_front (λ n. find l n ≡ find l' n) (values r.records) (rule_lookups rs) h)), rules_agree rs (all_back (λ n. find l n ≡ find l' n) (values r.records) (rule_lookups rs) h))

    set_agrees : (rs : List Rule) → Agree (rule_lookups rs) → cut_set chained m rs ≡ cut_set chained m' rs
    unfolding cut_set
    set_agrees rs h = ap unless_empty (some_agrees (cut_rule chained m) (cut_rule chained m') rs (rules_agree rs h))

    sets_agree : (ss : List (Option (List Rule))) → Agree (set_lookups ss) → All (Opt (λ rs. cut_set chained m rs ≡ cut_set chained m' rs)) ss
    unfolding set_lookups
    sets_agree [] h = tt
    sets_agree (None ∷ ss) h = (tt, sets_agree ss h)
    sets_agree (Some rs ∷ ss) h =
        (set_agrees rs (all_front (λ n. find l n ≡ find l' n) (rule_lookups rs) (set_lookups ss) h), sets_agree ss (all_back (λ n. find l n ≡ find l' n) (rule_lookups rs) (set_lookups ss) h))

  module _ (f h : List Rule → Option (List Rule)) where
    bind_agrees : (s : Option (List Rule)) → Opt (λ rs. f rs ≡ h rs) s → bind s f ≡ bind s h
    unfolding bind
    bind_agrees None e = refl
    bind_agrees (Some rs) e = e

    kept_agrees : (g : List (ℕ × ℕ)) (cov : List ℕ) (ss : List (Option (List Rule))) → All (Opt (λ rs. f rs ≡ h rs)) ss → kept_sets f g cov ss ≡ kept_sets h g cov ss
    unfolding kept_sets bind
    kept_agrees g [] ss e = refl
    kept_agrees g (c ∷ cov) [] e = refl
    kept_agrees g (c ∷ cov) (s ∷ ss) e = ap₂ push (go (find g c) s e.0) (kept_agrees g cov ss e.1)
      where
        go : (o : Option ℕ) (s : Option (List Rule)) → Opt (λ rs. f rs ≡ h rs) s
            → bind {B = ℕ × List Rule} o (λ n. bind s (λ x. bind (f x) (λ y. Some (n, y)))) ≡ bind o (λ n. bind s (λ x. bind (h x) (λ y. Some (n, y))))
        go None s e = refl
        go (Some n) None e = refl
        go (Some n) (Some rs) e = rw e

    slot_agrees : (ss : List (Option (List Rule))) (c : ℕ) → All (Opt (λ rs. f rs ≡ h rs)) ss → bind (get_or ss c None) f ≡ bind (get_or ss c None) h
    unfolding bind
    slot_agrees [] c e = refl
    slot_agrees (s ∷ ss) zero e = bind_agrees s e.0
    slot_agrees (s ∷ ss) (suc c) e = slot_agrees ss c e.1

    slots_agree : (held : List ℕ) (ss : List (Option (List Rule))) (hs : List ℕ) → All (Opt (λ rs. f rs ≡ h rs)) ss → slots f held ss hs ≡ slots h held ss hs
    unfolding slots
    slots_agree held ss [] e = refl
    slots_agree held ss (c ∷ hs) e =
        ap₂ (λ (o : Option (List Rule)) (os : List (Option (List Rule))). cond (member c held) o None ∷ os) (slot_agrees ss c e) (slots_agree held ss hs e)

  pub cut_agrees : (g : List (ℕ × ℕ)) (t : Table) → Agree (lookups_of t) → cut g l t ≡ cut g l' t
  unfolding cut lookups_of
  cut_agrees g (Table.by_glyph chained None sets) h = refl
  cut_agrees g (Table.by_glyph chained (Some cov) sets) h =
      ap (kept_by_glyph chained) (kept_agrees (cut_set chained (m chained g g g)) (cut_set chained (m' chained g g g)) g cov sets (sets_agree chained g g g sets h))
  cut_agrees g (Table.by_class chained None b i a sets) h = refl
  cut_agrees g (Table.by_class chained (Some cov) b None a sets) h = refl
  cut_agrees g (Table.by_class chained (Some cov) b (Some cs) a sets) h =
      ap (λ (ss : List (Option (List Rule))). kept_by_class chained (new_coverage g cov) (new_classes? g b) (new_classes? g (Some cs)) (new_classes? g a) (trim ss))
      (slots_agree (cut_set chained (m chained (class_map? g b) (class_map g cs) (class_map? g a))) (cut_set chained (m' chained (class_map? g b) (class_map g cs) (class_map? g a)))
      (held_by cs (retained g cov)) sets (held_by cs (keys g)) (sets_agree chained (class_map? g b) (class_map g cs) (class_map? g a) sets h))
  cut_agrees g (Table.by_cover chained b i a rs) h =
      ap (λ (rs : List (ℕ × ℕ)). bind (covers_left g b) (λ b. bind (covers_left g i) (λ i. bind (covers_left g a) (λ a. Some (Table.by_cover chained b i a rs))))) (records_agree rs h)
  cut_agrees g (Table.ligatures cover sets) h = refl
  cut_agrees g (Table.pairs_of cover f1 f2 sets) h = refl
  cut_agrees g (Table.class_pairs cover first second f1 f2 n rows) h = refl
  cut_agrees g (Table.single_delta cover d) h = refl
  cut_agrees g (Table.single_list cover subs) h = refl

-- What was cut is given back.
pub cut_same : (g l : List (ℕ × ℕ)) → ascends (keys g) ≡ true → ascends (values g) ≡ true → ascends (keys l) ≡ true → All (λ e. Word e.1) g → (t u : Table) → cut g l t ≡ Some u
    → (i : List (ℕ × ℕ)) → Identity i → All (λ n. member n (keys i) ≡ true) (lookups_of u) → cut (same (values g)) i u ≡ Some u
unfolding bind
cut_same g l k v n z t u e i d h =
    let vs = values g in
    -- all the lookups that the first lookup map gives, and those that the table names
    let ls = lookups_of u ++ values l in
    let w : All (λ x. member x ls ≡ true) (lookups_of u ++ values l) = all_members ls in
    let a = found ls (lookups_of u) (all_front (λ x. member x ls ≡ true) (lookups_of u) (values l) w) in
    let b = found ls (values l) (all_back (λ x. member x ls ≡ true) (lookups_of u) (values l) w) in
    let within : Within g (same vs) = rw (same_keys vs) (all_members vs) in
    let c = combined_same g (same vs) (found vs vs (all_members vs)) in
    let twice = cut_twice g (same vs) (combined g (same vs)) l (same ls) (combined l (same ls)) (all_found g k) (injective g v) (find_combined g (same vs) k) (along g (same vs) k v (rw (same_keys vs) v) within) (find_combined l (same ls) n) (λ x. find_word g x z) t in
    let whole : cut (same vs) (same ls) u ≡ Some u = rw (c, combined_same l (same ls) b, e) at twice in
    cut_agrees i (same ls) (same vs) u
    (both (lookups_of u) (all_map (λ n. member n (keys i) ≡ true) (λ n. find i n ≡ Some n) (λ n q. find_identity i d n q) (lookups_of u) h) a)
    ∙ whole
  where
    both : (xs : List ℕ) → All (λ n. find i n ≡ Some n) xs → All (λ n. find (same (lookups_of u ++ values l)) n ≡ Some n) xs → All (λ n. find i n ≡ find (same (lookups_of u ++ values l)) n) xs
    both [] p q = tt
    both (x ∷ xs) p q = (p.0 ∙ sym q.0, both xs p.1 q.1)
