-- The identity lookup map over just the lookups that a table names.
use Rattle.std.specs.Prelude.{ℕ, ◌≡◌, refl, Bool, true, false, cond, ◌||◌, List, [], ◌∷◌, ltb, eqb, Option, None, Some}
use Rattle.std.proofs.Common.{◌∙◌, arith}
use Rattle.meaning.specs.Words.{member, keys, values}
use Rattle.meaning.specs.Maps.{map_entries, good_lookups}
use Rattle.meaning.specs.Tables.{Rule, Table}
use Rattle.meaning.specs.Cut.{insert_up}
use Rattle.laws.specs.Stands.{All, all_map, all_append, Word}
use Rattle.laws.specs.Runs.{Up}
use Rattle.laws.specs.Through.{Opt}
use Rattle.laws.specs.SetsBack.{Words2, GoodRule}
use Rattle.laws.specs.ReadsBack.{Good}
use Rattle.laws.specs.CutCells.{insert_up_lem}
use Rattle.promises.specs.Classes.{insert_member}
use Rattle.twice.specs.Definitions.{same, Identity, rule_lookups, set_lookups, lookups_of, ordered, identity_lookups}
use Rattle.twice.proofs.Maps.{all_members}
use Rattle.twice_laws.specs.Identity.{same_keys, same_identity}
use Rattle.twice_laws.specs.Written.{lookups_written}

-- A table that can be written names words only.
second_words : (rs : List (ℕ × ℕ)) → All Words2 rs → All Word (values rs)
unfolding values
second_words [] h = tt
second_words (r ∷ rs) h = (h.0.1, second_words rs h.1)

rules_words : (chained : Bool) (rs : List Rule) → All (GoodRule chained) rs → All Word (rule_lookups rs)
unfolding rule_lookups
rules_words chained [] h = tt
rules_words chained (r ∷ rs) h = all_append Word (values r.records) (rule_lookups rs) (second_words r.records h.0.records) (rules_words chained rs h.1)

sets_words : (chained : Bool) (ss : List (Option (List Rule))) → All (Opt (All (GoodRule chained))) ss → All Word (set_lookups ss)
unfolding set_lookups
sets_words chained [] h = tt
sets_words chained (None ∷ ss) h = sets_words chained ss h.1
sets_words chained (Some rs ∷ ss) h = all_append Word (rule_lookups rs) (set_lookups ss) (rules_words chained rs h.0) (sets_words chained ss h.1)

pub good_names : (t : Table) → Good t → All Word (lookups_of t)
unfolding lookups_of
good_names (Table.by_glyph chained cover sets) g = sets_words chained sets g.1
good_names (Table.by_class chained cover b i a sets) g = sets_words chained sets g.4
good_names (Table.by_cover chained b i a rs) g = second_words rs g.3
good_names (Table.ligatures cover sets) g = tt
good_names (Table.pairs_of cover f1 f2 sets) g = tt
good_names (Table.class_pairs cover first second f1 f2 n rows) g = tt
good_names (Table.single_delta cover d) g = tt
good_names (Table.single_list cover subs) g = tt

-- numbers in order ascend, are the same words, and have each number
ordered_up : (ns : List ℕ) → Up 0 (ordered ns)
unfolding ordered
ordered_up [] = tt
ordered_up (n ∷ ns) = insert_up_lem 0 n (ordered ns) (omega arith) (ordered_up ns)

insert_words : (n : ℕ) (ns : List ℕ) → Word n → All Word ns → All Word (insert_up n ns)
unfolding insert_up
insert_words n [] p h = (p, tt)
insert_words n (d ∷ ns) p h = go (ltb n d) (eqb n d) (insert_words n ns p h.1)
  where
    go : (s t : Bool) → All Word (insert_up n ns) → All Word (cond s (n ∷ d ∷ ns) (cond t (d ∷ ns) (d ∷ insert_up n ns)))
    go true t i = (p, h)
    go false true i = h
    go false false i = (h.0, i)

ordered_words : (ns : List ℕ) → All Word ns → All Word (ordered ns)
unfolding ordered
ordered_words [] h = tt
ordered_words (n ∷ ns) h = insert_words n (ordered ns) h.0 (ordered_words ns h.1)

ordered_member : (ns : List ℕ) (n : ℕ) → member n ns ≡ true → member n (ordered ns) ≡ true
unfolding ordered member
ordered_member [] n h = h
ordered_member (m ∷ ns) n h = insert_member n m (ordered ns) ∙ go (eqb m n) (ordered_member ns n) h
  where
    go : (b : Bool) → (member n ns ≡ true → member n (ordered ns) ≡ true) → b || member n ns ≡ true → b || member n (ordered ns) ≡ true
    go true i q = refl
    go false i q = i q

same_words : (ns : List ℕ) → All Word ns → All Words2 (same ns)
unfolding same
same_words [] h = tt
same_words (n ∷ ns) h = ((h.0, h.0), same_words ns h.1)

-- The identity lookup map over a table's words is a good map, an identity, and has each of them.
module _ (t : Table) (h : All Word (lookups_of t)) where
  abbrev own : List ℕ
  own = ordered (lookups_of t)

  own_written : (map_entries (identity_lookups t) ≡ same own) × (good_lookups (identity_lookups t) ≡ true)
  unfolding identity_lookups
  own_written = lookups_written (same own) (same_words own (ordered_words (lookups_of t) h)) (rw (same_keys own) (ordered_up (lookups_of t)))

  pub own_good : good_lookups (identity_lookups t) ≡ true
  own_good = own_written.1

  pub own_identity : Identity (map_entries (identity_lookups t))
  own_identity = rw own_written.0 (same_identity own)

  pub own_all : All (λ n. member n (keys (map_entries (identity_lookups t))) ≡ true) (lookups_of t)
  own_all =
      rw (own_written.0, same_keys own)
      (all_map (λ n. member n (lookups_of t) ≡ true) (λ n. member n own ≡ true) (λ n q. ordered_member (lookups_of t) n q) (lookups_of t) (all_members (lookups_of t)))
