-- Classes, cut twice: ranks of ranks are ranks.
use Prim.Native.Nat.{ℕ, ◌+◌, ◌≤◌, ◌<◌}
use Rattle.std.specs.Prelude.{◌≡◌, Bool, get_or, ltb, eqb, Option, None, Some, unwrap_or}
use Rattle.std.proofs.Math.Path.{refl, ap, ap₂}
use Rattle.std.proofs.Common.{sym, ◌∙◌, true≢false, arith, lt-ltb, le-ltb, eqb-true, eq-eqb, ne_eqb}
use Rattle.std.proofs.Math.Bool.{true, false, cond, ◌||◌, or-true}
use Rattle.std.proofs.lemmas.Option.{same_Some, none-some}
use mathlib.Core.List.{List, [], ◌∷◌}
use Rattle.std.proofs.Math.Decide.{dec_lt}
use Rattle.meaning.specs.Words.{member, keys, values, find, is_some, bind, push, map_some}
use Rattle.meaning.specs.Parts.{class_of, listed}
use Rattle.meaning.specs.Tables.{Rule}
use Rattle.meaning.specs.Cut.{insert_up, held_by, numbered, class_map, class_map?, classes_under, new_classes, new_classes?, new_coverage, retained, slots, keep_slot, trim}
use Rattle.laws.specs.Stands.{All}
use Rattle.laws.specs.Runs.{Up}
use Rattle.laws.specs.CutCells.{held_up}
use Rattle.promises.specs.Covers.{keys_same}
use Rattle.promises.specs.Classes.{numbered_member, insert_member, held_member, slot_at, trim_same}
use Rattle.twice.specs.Answers.{Then}
use Rattle.twice.specs.Maps.{Moved, Along, Injective}
use Rattle.twice.proofs.Maps.{along_keys}

-- A renumbering that keeps the order.
abbrev pub Order : (ℕ → Option ℕ) → Type 0
Order κ = (a b a' b' : ℕ) → κ a ≡ Some a' → κ b ≡ Some b' → (ltb a b ≡ ltb a' b') × (eqb a b ≡ eqb a' b')

-- it does, if it rises
order : (κ : ℕ → Option ℕ) → ((a b a' b' : ℕ) → a < b → κ a ≡ Some a' → κ b ≡ Some b' → a' < b') → Order κ
order κ h a b a' b' p q = go (dec_lt a b) (dec_lt b a)
  where
    go : Dec (a < b) → Dec (b < a) → (ltb a b ≡ ltb a' b') × (eqb a b ≡ eqb a' b')
    go (yes l) t = let r = h a b a' b' l p q in (lt-ltb a b l ∙ sym (lt-ltb a' b' r), ne_eqb a b (omega arith) ∙ sym (ne_eqb a' b' (omega arith)))
    go (no m) (yes l) = let r = h b a b' a' l q p in (le-ltb a b (omega arith) ∙ sym (le-ltb a' b' (omega arith)), ne_eqb a b (omega arith) ∙ sym (ne_eqb a' b' (omega arith)))
    go (no m) (no n) =
        let s : a ≡ b = omega arith in
        let t : a' ≡ b' = same_Some a' b' (sym p ∙ ap κ s ∙ q) in
        (le-ltb a b (omega arith) ∙ sym (le-ltb a' b' (omega arith)), eq-eqb a b s ∙ sym (eq-eqb a' b' t))

-- ranks: none is below the first, and none is of a class below the first
rank_low : (k : ℕ) (hs : List ℕ) (c n : ℕ) → find (numbered k hs) c ≡ Some n → k ≤ n
unfolding find numbered
rank_low k [] c n e = absurd (none-some n e)
rank_low k (h ∷ hs) c n e = go (eqb h c) (rank_low (k + 1) hs c n) e
  where
    go : (t : Bool) → (find (numbered (k + 1) hs) c ≡ Some n → k + 1 ≤ n) → cond t (Some k) (find (numbered (k + 1) hs) c) ≡ Some n → k ≤ n
    go true i q = omega (arith, same_Some k n q)
    go false i q = omega (arith, i q)

rank_high : (k low : ℕ) (hs : List ℕ) (c n : ℕ) → Up low hs → find (numbered k hs) c ≡ Some n → low ≤ c
unfolding find numbered
rank_high k low [] c n u e = absurd (none-some n e)
rank_high k low (h ∷ hs) c n u e = go (eqb h c) refl (rank_high (k + 1) (h + 1) hs c n u.1) e
  where
    go : (t : Bool) → eqb h c ≡ t → (find (numbered (k + 1) hs) c ≡ Some n → h + 1 ≤ c) → cond t (Some k) (find (numbered (k + 1) hs) c) ≡ Some n → low ≤ c
    go true s i q = omega (arith, eqb-true h c s)
    go false s i q = omega (arith, i q)

rank_rises : (k low : ℕ) (hs : List ℕ) → Up low hs → (a b a' b' : ℕ) → a < b → find (numbered k hs) a ≡ Some a' → find (numbered k hs) b ≡ Some b' → a' < b'
unfolding find numbered
rank_rises k low [] u a b a' b' l p q = absurd (none-some a' p)
rank_rises k low (h ∷ hs) u a b a' b' l p q = go (eqb h a) (eqb h b) refl refl (rank_rises (k + 1) (h + 1) hs u.1 a b a' b' l) p q
  where
    go : (s t : Bool) → eqb h a ≡ s → eqb h b ≡ t → (find (numbered (k + 1) hs) a ≡ Some a' → find (numbered (k + 1) hs) b ≡ Some b' → a' < b')
        → cond s (Some k) (find (numbered (k + 1) hs) a) ≡ Some a' → cond t (Some k) (find (numbered (k + 1) hs) b) ≡ Some b' → a' < b'
    go true true x y i p q = absurd (omega (arith, eqb-true h a x, eqb-true h b y))
    go true false x y i p q = omega (arith, same_Some k a' p, rank_low (k + 1) hs b b' q)
    go false true x y i p q = absurd (omega (arith, eqb-true h b y, rank_high (k + 1) (h + 1) hs a a' u.1 p))
    go false false x y i p q = i p q

pub rank_order : (hs : List ℕ) → Up 0 hs → Order (find (numbered 0 hs))
rank_order hs u = order (find (numbered 0 hs)) (rank_rises 0 0 hs u)

-- what is done to classes goes along with a renumbering of them that keeps the order
module _ (κ : ℕ → Option ℕ) (o : Order κ) where
  pub insert_moved : (c c' : ℕ) → κ c ≡ Some c' → (l l' : List ℕ) → Moved κ l l' → Moved κ (insert_up c l) (insert_up c' l')
  unfolding insert_up
  insert_moved c c' e [] [] m = (e, tt)
  insert_moved c c' e [] (d' ∷ l') m = absurd m
  insert_moved c c' e (d ∷ l) [] m = absurd m
  insert_moved c c' e (d ∷ l) (d' ∷ l') m =
      let s = o c d c' d' e m.0 in
      rw (s.0, s.1) (go (ltb c' d') (eqb c' d') (insert_moved c c' e l l' m.1))
    where
      go : (s t : Bool) → Moved κ (insert_up c l) (insert_up c' l')
          → Moved κ (cond s (c ∷ d ∷ l) (cond t (d ∷ l) (d ∷ insert_up c l))) (cond s (c' ∷ d' ∷ l') (cond t (d' ∷ l') (d' ∷ insert_up c' l')))
      go true t i = (e, m)
      go false true i = m
      go false false i = (m.0, i)

  pub member_moved : (c c' : ℕ) → κ c ≡ Some c' → (l l' : List ℕ) → Moved κ l l' → member c' l' ≡ member c l
  unfolding member
  member_moved c c' e [] [] m = refl
  member_moved c c' e [] (d' ∷ l') m = absurd m
  member_moved c c' e (d ∷ l) [] m = absurd m
  member_moved c c' e (d ∷ l) (d' ∷ l') m = ap₂ ◌||◌ (sym (o d c d' c' m.0 e).1) (member_moved c c' e l l' m.1)

  -- the rank of a class is that of its new number
  pub numbered_moved : (k : ℕ) (l l' : List ℕ) → Moved κ l l' → Then κ (find (numbered k l')) (find (numbered k l))
  unfolding find numbered bind
  numbered_moved k [] [] m c = go (κ c)
    where
      go : (o : Option ℕ) → bind {B = ℕ} o (λ c. None) ≡ None
      go None = refl
      go (Some c) = refl
  numbered_moved k [] (d' ∷ l') m c = absurd m
  numbered_moved k (d ∷ l) [] m c = absurd m
  numbered_moved k (d ∷ l) (d' ∷ l') m c = go (κ c) refl (numbered_moved (k + 1) l l' m.1 c)
    where
      go : (p : Option ℕ) → κ c ≡ p → bind p (find (numbered (k + 1) l')) ≡ find (numbered (k + 1) l) c
          → bind p (find (numbered k (d' ∷ l'))) ≡ cond (eqb d c) (Some k) (find (numbered (k + 1) l) c)
      go None q i = rw (ne_eqb d c (λ s. none-some d' (sym q ∙ ap κ (sym s) ∙ m.0))) i
      go (Some c') q i = rw (o d c d' c' m.0 q).1 (ap (cond (eqb d' c') (Some k)) i)

  module _ (ρ : ℕ → Option ℕ) (cs cs' : List (ℕ × ℕ)) (follow : (x y : ℕ) → ρ x ≡ Some y → κ (class_of cs x) ≡ Some (class_of cs' y)) where
    pub held_moved : (xs ys : List ℕ) → Moved ρ xs ys → Moved κ (held_by cs xs) (held_by cs' ys)
    unfolding held_by
    held_moved [] [] m = tt
    held_moved [] (y ∷ ys) m = absurd m
    held_moved (x ∷ xs) [] m = absurd m
    held_moved (x ∷ xs) (y ∷ ys) m = insert_moved (class_of cs x) (class_of cs' y) (follow x y m.0) (held_by cs xs) (held_by cs' ys) (held_moved xs ys m.1)

-- without sets no slot is kept
pub no_slots : (f : List Rule → Option (List Rule)) (held hs : List ℕ) → trim (slots f held [] hs) ≡ []
unfolding trim keep_slot slots bind
no_slots f held [] = refl
no_slots f held (h ∷ hs) = go (member h held) (no_slots f held hs)
  where
    go : (t : Bool) → trim (slots f held [] hs) ≡ [] → keep_slot (cond t None None) (trim (slots f held [] hs)) ≡ []
    go true i = rw i
    go false i = rw i

-- slots of classes and of their new numbers
slots_moved : (κ : ℕ → Option ℕ) (f f' : List Rule → Option (List Rule)) (held held' : List ℕ) (sets sets' : List (Option (List Rule)))
    → ((c c' : ℕ) → κ c ≡ Some c' → cond (member c' held') (bind (get_or sets' c' None) f') None ≡ cond (member c held) (bind (get_or sets c None) f) None)
    → (l l' : List ℕ) → Moved κ l l' → slots f' held' sets' l' ≡ slots f held sets l
unfolding slots
slots_moved κ f f' held held' sets sets' h [] [] m = refl
slots_moved κ f f' held held' sets sets' h [] (c' ∷ l') m = absurd m
slots_moved κ f f' held held' sets sets' h (c ∷ l) [] m = absurd m
slots_moved κ f f' held held' sets sets' h (c ∷ l) (c' ∷ l') m =
    ap₂ (λ (o : Option (List Rule)) (os : List (Option (List Rule))). o ∷ os) (h c c' m.0) (slots_moved κ f f' held held' sets sets' h l l' m.1)

-- The new class table under a map of classes: the new number of a glyph holds what the map says of the glyph's class.

-- a class table's entry for a class number: none for 0
abbrev shown : Option ℕ → Option ℕ
shown o = bind o (λ n. cond (eqb n 0) None (Some n))

under_at : (k : ℕ → Option ℕ) (x y : ℕ) (h : List (ℕ × ℕ)) → All (λ e. e.1 ≡ y → e.0 ≡ x) h
    → find (map_some (λ (e : ℕ × ℕ). bind (k e.0) (λ n. cond (eqb n 0) None (Some (e.1, n)))) h) y ≡ cond (member y (values h)) (shown (k x)) None
unfolding find map_some push bind member values
under_at k x y [] i = refl
under_at k x y (p ∷ h) i = go (eqb p.1 y) refl (k p.0) refl (under_at k x y h i.1)
  where
    rest : List (ℕ × ℕ)
    rest = map_some (λ (e : ℕ × ℕ). bind (k e.0) (λ n. cond (eqb n 0) None (Some (e.1, n)))) h

    same : (b : Bool) → cond {A = Option ℕ} b None None ≡ None
    same true = refl
    same false = refl

    hit : (n : ℕ) (z : Bool) → eqb p.1 y ≡ true → find rest y ≡ cond (member y (values h)) (cond z None (Some n)) None
        → find (push (cond z None (Some (p.1, n))) rest) y ≡ cond z None (Some n)
    hit n true q r = r ∙ same (member y (values h))
    hit n false q r = rw q

    miss : (n : ℕ) (z : Bool) → eqb p.1 y ≡ false → find (push (cond z None (Some (p.1, n))) rest) y ≡ find rest y
    miss n true q = refl
    miss n false q = rw q

    go : (b : Bool) → eqb p.1 y ≡ b → (o : Option ℕ) → k p.0 ≡ o → find rest y ≡ cond (member y (values h)) (shown (k x)) None
        → find (push (bind o (λ n. cond (eqb n 0) None (Some (p.1, n)))) rest) y ≡ cond (b || member y (values h)) (shown (k x)) None
    go true q None e r =
        let s = ap k (sym (i.0 (eqb-true p.1 y q))) ∙ e in
        rw s (rw s at r ∙ same (member y (values h)))
    go true q (Some n) e r =
        let s = ap k (sym (i.0 (eqb-true p.1 y q))) ∙ e in
        rw s (hit n (eqb n 0) q (rw s at r))
    go false q None e r = r
    go false q (Some n) e r = miss n (eqb n 0) q ∙ r

-- class 0, if it is there, has rank 0
pub zero_first : (hs : List ℕ) → Up 0 hs → member 0 hs ≡ true → find (numbered 0 hs) 0 ≡ Some 0
unfolding find numbered member
zero_first [] u m = absurd (true≢false (sym m))
zero_first (h ∷ hs) u m = go (eqb h 0) refl m
  where
    higher : (low : ℕ) (l : List ℕ) → 0 < low → Up low l → member 0 l ≡ false
    higher low [] p v = refl
    higher low (a ∷ l) p v = rw (ne_eqb a 0 (omega (arith, v.0)), higher (a + 1) l (omega arith) v.1)

    go : (b : Bool) → eqb h 0 ≡ b → b || member 0 hs ≡ true → cond b (Some 0) (find (numbered (0 + 1) hs) 0) ≡ Some 0
    go true q r = refl
    go false q r = absurd (true≢false (sym r ∙ higher (h + 1) hs (omega arith) u.1))

-- what is found is in the second column
found_value : (h : List (ℕ × ℕ)) (x y : ℕ) → find h x ≡ Some y → member y (values h) ≡ true
unfolding find values member
found_value [] x y e = absurd (none-some y e)
found_value (p ∷ h) x y e = go (eqb p.0 x) (found_value h x y) e
  where
    go : (b : Bool) → (find h x ≡ Some y → member y (values h) ≡ true) → cond b (Some p.1) (find h x) ≡ Some y → eqb p.1 y || member y (values h) ≡ true
    go true k q = rw (eq-eqb p.1 y (same_Some p.1 y q))
    go false k q = rw (k q) (or-true (eqb p.1 y))

-- the class of a held glyph
pub held_class : (cs h : List (ℕ × ℕ)) (x y : ℕ) → find h x ≡ Some y → member (class_of cs x) (held_by cs (keys h)) ≡ true
unfolding is_some
held_class cs h x y q = held_member cs (keys h) x (keys_same h x ∙ ap is_some q)

-- h is a part of a map ρ that takes no two numbers to one: a glyph's new number holds the rank of the glyph's class
pub follow_under : (ρ : ℕ → Option ℕ) → Injective ρ → (h : List (ℕ × ℕ)) → All (λ e. ρ e.0 ≡ Some e.1) h → (hs : List ℕ) (cs : List (ℕ × ℕ)) (x y : ℕ) → ρ x ≡ Some y → find h x ≡ Some y
    → member (class_of cs x) hs ≡ true → find (numbered 0 hs) (class_of cs x) ≡ Some (class_of (classes_under (numbered 0 hs) h cs) y)
unfolding class_of is_some bind
follow_under ρ i h s hs cs x y q f m =
    rw (under_at (λ x. find (numbered 0 hs) (class_of cs x)) x y h (only h s), found_value h x y f) (go (find (numbered 0 hs) (class_of cs x)) (numbered_member 0 hs (class_of cs x) ∙ m))
  where
    only : (h : List (ℕ × ℕ)) → All (λ e. ρ e.0 ≡ Some e.1) h → All (λ e. e.1 ≡ y → e.0 ≡ x) h
    only [] s = tt
    only (e ∷ h) s = ((λ t. i e.0 x y (s.0 ∙ ap {B = Option ℕ} Some t) q), only h s.1)

    zero_or : (n : ℕ) (b : Bool) → eqb n 0 ≡ b → n ≡ unwrap_or (cond b None (Some n)) 0
    zero_or n true e = eqb-true n 0 e
    zero_or n false e = refl

    go : (o : Option ℕ) → is_some o ≡ true → o ≡ Some (unwrap_or (shown o) 0)
    go None e = absurd (true≢false (sym e))
    go (Some n) e = ap {B = Option ℕ} Some (zero_or n (eqb n 0) refl)

-- Class tables under two maps of classes, one after the other. h and h₂ are glyph maps that go along by ρ; each glyph's new number holds its class's new number.
module _ (ρ : ℕ → Option ℕ) (h h₂ : List (ℕ × ℕ)) (a : Along ρ h h₂) (cs cs₁ m₁ m₂ m : List (ℕ × ℕ)) (t : Then (find m₁) (find m₂) (find m))
    (follow : (x y : ℕ) → ρ x ≡ Some y → find m₁ (class_of cs x) ≡ Some (class_of cs₁ y)) where
  pub under_twice : classes_under m₂ h₂ cs₁ ≡ classes_under m h cs
  unfolding map_some bind
  under_twice = go h h₂ a
    where
      entry : List (ℕ × ℕ) → List (ℕ × ℕ) → ℕ × ℕ → Option (ℕ × ℕ)
      entry m cs e = bind (find m (class_of cs e.0)) (λ n. cond (eqb n 0) None (Some (e.1, n)))

      same : (x y : ℕ) → ρ x ≡ Some y → find m₂ (class_of cs₁ y) ≡ find m (class_of cs x)
      same x y r = rw (follow x y r) at (t (class_of cs x))

      go : (p q : List (ℕ × ℕ)) → Along ρ p q → map_some (entry m₂ cs₁) q ≡ map_some (entry m cs) p
      go [] [] k = refl
      go [] (e ∷ q) k = absurd k
      go (d ∷ p) [] k = absurd k
      go (d ∷ p) (e ∷ q) k = ap₂ push (rw k.1 (ap (λ (o : Option ℕ). bind o (λ n. cond (eqb n 0) None (Some (e.1, n)))) (same d.0 e.0 k.0))) (go p q k.2)

-- A context's classes. The second glyph map's old ids are new ids of the first.
module _ (g₁ g₂ g : List (ℕ × ℕ)) (found : All (λ e. find g₁ e.0 ≡ Some e.1) g₁) (one : Injective (find g₁)) (e : Then (find g₁) (find g₂) (find g)) (a : Along (find g₁) g g₂) where
  -- the retained glyphs of a coverage
  retained_moved : (cov : List ℕ) → Moved (find g₁) (retained g cov) (retained g₂ (new_coverage g₁ cov))
  unfolding retained new_coverage map_some push is_some bind
  retained_moved [] = tt
  retained_moved (c ∷ cov) = go (find g₁ c) refl (find g c) (e c) (retained_moved cov)
    where
      go : (o : Option ℕ) → find g₁ c ≡ o → (p : Option ℕ) → bind o (find g₂) ≡ p → Moved (find g₁) (retained g cov) (retained g₂ (new_coverage g₁ cov))
          → Moved (find g₁) (push (cond (is_some p) (Some c) None) (retained g cov)) (retained g₂ (push o (new_coverage g₁ cov)))
      go None q None r i = i
      go None q (Some n) r i = absurd (none-some n r)
      go (Some d) q None r i = rw r i
      go (Some d) q (Some n) r i = rw r (q, i)

  -- what both maps retain the first one does
  retained_first : (cs : List (ℕ × ℕ)) (cov : List ℕ) (c : ℕ) → member c (held_by cs (retained g cov)) ≡ true → member c (held_by cs (retained g₁ cov)) ≡ true
  unfolding retained map_some push is_some bind held_by member
  retained_first cs [] c h = h
  retained_first cs (x ∷ cov) c h = go (find g₁ x) (find g x) (e x) (retained_first cs cov c) h
    where
      more : (d : ℕ) (hs : List ℕ) → member c hs ≡ true → member c (insert_up d hs) ≡ true
      more d hs q = insert_member c d hs ∙ rw q (or-true (eqb d c))

      both : (d : ℕ) (hs ks : List ℕ) → (member c hs ≡ true → member c ks ≡ true) → member c (insert_up d hs) ≡ true → member c (insert_up d ks) ≡ true
      both d hs ks i q = insert_member c d ks ∙ step (eqb d c) (sym (insert_member c d hs) ∙ q)
        where
          step : (t : Bool) → t || member c hs ≡ true → t || member c ks ≡ true
          step true r = refl
          step false r = i r

      go : (o p : Option ℕ) → bind o (find g₂) ≡ p → (member c (held_by cs (retained g cov)) ≡ true → member c (held_by cs (retained g₁ cov)) ≡ true)
          → member c (held_by cs (push (cond (is_some p) (Some x) None) (retained g cov))) ≡ true → member c (held_by cs (push (cond (is_some o) (Some x) None) (retained g₁ cov))) ≡ true
      go None None r i q = i q
      go None (Some n) r i q = absurd (none-some n r)
      go (Some d) None r i q = more (class_of cs x) (held_by cs (retained g₁ cov)) (i q)
      go (Some d) (Some n) r i q = both (class_of cs x) (held_by cs (retained g cov)) (held_by cs (retained g₁ cov)) i q

  -- classes that go along with glyphs: cs₁ says of new numbers the ranks of what cs says
  module _ (cs cs₁ : List (ℕ × ℕ)) (follow : (x y : ℕ) → find g₁ x ≡ Some y → find (class_map g₁ cs) (class_of cs x) ≡ Some (class_of cs₁ y)) where
    keeps : Order (find (class_map g₁ cs))
    unfolding class_map
    keeps = rank_order (held_by cs (keys g₁)) (held_up cs (keys g₁))

    held : Moved (find (class_map g₁ cs)) (held_by cs (keys g)) (held_by cs₁ (keys g₂))
    held = held_moved (find (class_map g₁ cs)) keeps (find g₁) cs cs₁ follow (keys g) (keys g₂) (along_keys (find g₁) g g₂ a)

    -- the class maps
    map_twice : Then (find (class_map g₁ cs)) (find (class_map g₂ cs₁)) (find (class_map g cs))
    unfolding class_map
    map_twice = numbered_moved (find (class_map g₁ cs)) keeps 0 (held_by cs (keys g)) (held_by cs₁ (keys g₂)) held

  -- a class table and its new one
  module _ (cs : List (ℕ × ℕ)) where
    follow : (x y : ℕ) → find g₁ x ≡ Some y → find (class_map g₁ cs) (class_of cs x) ≡ Some (class_of (new_classes g₁ cs) y)
    unfolding new_classes class_map
    follow x y q = follow_under (find g₁) one g₁ found (held_by cs (keys g₁)) cs x y q q (held_class cs g₁ x y q)

    pub class_map_twice : Then (find (class_map g₁ cs)) (find (class_map g₂ (new_classes g₁ cs))) (find (class_map g cs))
    class_map_twice = map_twice cs (new_classes g₁ cs) follow

    pub classes_twice : new_classes g₂ (new_classes g₁ cs) ≡ new_classes g cs
    unfolding new_classes
    classes_twice = under_twice (find g₁) g g₂ a cs (new_classes g₁ cs) (class_map g₁ cs) (class_map g₂ (new_classes g₁ cs)) (class_map g cs) class_map_twice follow

    -- the slots: what is left of what the first cut left, nulls at its end or not
    pub slots_twice : (f₁ f₂ f : List Rule → Option (List Rule)) → Then f₁ f₂ f → (cov : List ℕ) (sets : List (Option (List Rule)))
        → slots f₂ (held_by (new_classes g₁ cs) (retained g₂ (new_coverage g₁ cov))) (trim (slots f₁ (held_by cs (retained g₁ cov)) sets (held_by cs (keys g₁)))) (held_by (new_classes g₁ cs) (keys g₂))
        ≡ slots f (held_by cs (retained g cov)) sets (held_by cs (keys g))
    unfolding class_map bind
    slots_twice f₁ f₂ f k cov sets =
        slots_moved κ f f₂ (held_by cs (retained g cov)) (held_by cs₁ (retained g₂ (new_coverage g₁ cov))) sets left one_slot (held_by cs (keys g)) (held_by cs₁ (keys g₂)) (held cs cs₁ follow)
      where
        cs₁ : List (ℕ × ℕ)
        cs₁ = new_classes g₁ cs

        κ : ℕ → Option ℕ
        κ = find (class_map g₁ cs)

        left : List (Option (List Rule))
        left = trim (slots f₁ (held_by cs (retained g₁ cov)) sets (held_by cs (keys g₁)))

        go : (s t : Bool) (o : Option (List Rule)) → (t ≡ true → s ≡ true) → cond t (bind (cond s (bind o f₁) None) f₂) None ≡ cond t (bind o f) None
        go s false o h = refl
        go true true None h = refl
        go true true (Some x) h = k x
        go false true o h = absurd (true≢false (sym (h refl)))

        one_slot : (c c' : ℕ) → κ c ≡ Some c'
            → cond (member c' (held_by cs₁ (retained g₂ (new_coverage g₁ cov)))) (bind (get_or left c' None) f₂) None ≡ cond (member c (held_by cs (retained g cov))) (bind (get_or sets c None) f) None
        one_slot c c' q =
            rw (
              trim_same (slots f₁ (held_by cs (retained g₁ cov)) sets (held_by cs (keys g₁))) c',
              slot_at f₁ (held_by cs (retained g₁ cov)) sets (held_by cs (keys g₁)) c c' q,
              member_moved κ (keeps cs cs₁ follow) c c' q (held_by cs (retained g cov)) (held_by cs₁ (retained g₂ (new_coverage g₁ cov)))
                  (held_moved κ (keeps cs cs₁ follow) (find g₁) cs cs₁ follow (retained g cov) (retained g₂ (new_coverage g₁ cov)) (retained_moved cov)),
            )
            (go (member c (held_by cs (retained g₁ cov))) (member c (held_by cs (retained g cov))) (get_or sets c None) (retained_first cs cov c))

  -- class tables that may be null: every glyph holds class 0 in a null one, before and after
  null_follow : (x y : ℕ) → find g₁ x ≡ Some y → find (class_map g₁ []) (class_of [] x) ≡ Some (class_of [] y)
  unfolding class_map class_of find
  null_follow x y q = zero_first (held_by [] (keys g₁)) (held_up [] (keys g₁)) (held_class [] g₁ x y q)

  pub class_map_twice? : (b : Option (List (ℕ × ℕ))) → Then (find (class_map? g₁ b)) (find (class_map? g₂ (new_classes? g₁ b))) (find (class_map? g b))
  unfolding class_map? new_classes? listed
  class_map_twice? None = map_twice [] [] null_follow
  class_map_twice? (Some cs) = class_map_twice cs

  pub classes_twice? : (b : Option (List (ℕ × ℕ))) → new_classes? g₂ (new_classes? g₁ b) ≡ new_classes? g b
  unfolding new_classes?
  classes_twice? None = refl
  classes_twice? (Some cs) = ap {B = Option (List (ℕ × ℕ))} Some (classes_twice cs)
