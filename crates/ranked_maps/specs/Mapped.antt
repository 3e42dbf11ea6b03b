-- What the functions of class maps ask and answer.
use Rattle.std.specs.Prelude.{ℕ, zero, suc, ◌+◌, ◌/◌, ◌%◌, ◌≤◌, ◌<◌, ◌≡◌, refl, Bool, true, false, cond, ◌||◌, List, [], ◌∷◌, map, length, get_or, eqb, None, Some, unwrap_or}
use Rattle.std.proofs.Common.{ap, ◌∙◌, arith}
use Rattle.meaning.specs.Words.{ascends, keys, values, find, member}
use Rattle.meaning.specs.Cut.{insert_up, held_by, numbered, class_map, class_map?, classes_under, new_classes, second_map}
use Rattle.laws.specs.Runs.{Up}
use Rattle.laws.specs.Stands.{All}
use Rattle.laws.specs.CutCells.{insert_up_lem, held_up, numbered_length, find_low}
use Rattle.laws.specs.ClassesLeft.{new_classes_ascend}
use Rattle.bits.specs.Bits.{marked}
use Rattle.ranks.specs.Ranks.{mark_cells}
use Rattle.cell_maps.specs.Cells.{folded, Inside, Holds, Kept, holds_kept}
use Rattle.cell_maps.specs.Laid.{Power}
use Rattle.cell_maps.specs.declared.Map.{Map}
use Rattle.area.specs.Part.{part, news, notes}
use Rattle.area.specs.Stored.{part_same}
use Rattle.class_stretches.specs.Tables.{table_at, classes_at}
use Rattle.class_lists.specs.Elsewhere.{Elsewhere}
use Rattle.class_lists.specs.Listed.{classed, holds_zero, Listed}
use Rattle.class_lists.specs.declared.ClassList.{ClassList}
use Rattle.ranked_maps.specs.Once.{each_once}
use Rattle.ranked_maps.specs.Present.{most_cells, top_of, present, present_held}
use Rattle.ranked_maps.specs.declared.ClassMap.{ClassMap}

-- The cells of m lie inside, a power of two of them, and answer nothing to a number that is above the mask: each class has a cell of its own.
pub record Direct (t : List ℕ) (m : Map) : Type 0 where
  pub power : Power (m.mask + 1)
  pub few : m.mask < 65536
  pub inside : Inside t m
  pub above : (x : ℕ) → m.mask < x → folded t m x ≡ None

-- The cells of m have no entry, and lie behind g cells from `list` on, whose classes have a cell.
pub record ToMark (t : List ℕ) (m : Map) (list g : ℕ) : Type 0 where
  pub direct : Direct t m
  pub free : present t m ≡ []
  pub place : list + g ≤ m.at
  pub low : (j : ℕ) → j < g → get_or t (list + j) 0 % 65536 ≤ m.mask

-- The cells of m have entries for just these classes, and the cells before them are as before.
pub record Marked (t₀ t : List ℕ) (m : Map) (cs : List ℕ) : Type 0 where
  pub direct : Direct t m
  pub classes : present t m ≡ each_once cs
  pub kept : Kept m.at t₀ t

-- The cells of m hold the rank of each class that had an entry there, r is how many these are, and the cells before them are as before.
pub record Ranked (t₀ t : List ℕ) (m : Map) (r : ℕ) : Type 0 where
  pub direct : Direct t m
  pub holds : Holds t m (numbered 0 (present t₀ m))
  pub count : r ≡ length (present t₀ m)
  pub kept : Kept m.at t₀ t

-- The classes of the glyphs in the class table that lists cs, if not 0, are listed in the n cells from `list` on.
pub record Lists (cs g : List (ℕ × ℕ)) (t : List ℕ) (list n : ℕ) : Type 0 where
  pub each : notes t list n ≡ classed cs g

-- What is asked of a list of classes, and of the place for their map: the list's cells end at `to` or before, and if they lie inside, no class there is above the highest.
pub record ToMap (t : List ℕ) (list : ℕ) (l : ClassList) (to : ℕ) : Type 0 where
  pub place : list + l.len ≤ to
  pub near : to < 0x1_0000_0000_0000
  pub small : l.high < 65536
  pub low : list + l.len ≤ length t → (j : ℕ) → j < l.len → get_or t (list + j) 0 % 65536 ≤ l.high

-- The cells of m stand from `to` on and lie inside, and have a place for each class up to the highest; or the mask is 0, since there are too few cells. The cells before `to` are as before.
pub record Placed (t₀ t : List ℕ) (high to : ℕ) (m : Map) : Type 0 where
  pub kept : Kept to t₀ t
  pub at : m.at ≡ to
  pub few : m.mask < most_cells
  pub top : high ≤ top_of m
  pub inside : (m.mask ≡ 0 → ⊥) → Inside t m
  pub room : to + most_cells ≤ length t₀ → m.mask ≡ 0 → ⊥

-- What `held_map` answers: such cells, with entries for just the classes that are listed.
pub record Held (t₀ t : List ℕ) (list : ℕ) (l : ClassList) (to : ℕ) (m : Map) : Type 0 where
  pub placed : Placed t₀ t l.high to m
  pub marked : (m.mask ≡ 0 → ⊥) → Marked t₀ t m (news t₀ list l.len)

-- The n cells from `list` on stand before the marks, and these lie inside.
pub record ToPut (t : List ℕ) (list n marks : ℕ) : Type 0 where
  pub place : list + n ≤ marks
  pub near : marks < 0x1_0000_0000_0000
  pub inside : marks + mark_cells ≤ length t

-- Just these classes have marks besides, and the cells before the marks are as before.
pub record PutToo (t₀ t : List ℕ) (marks : ℕ) (cs : List ℕ) : Type 0 where
  pub kept : Kept marks t₀ t
  pub classes : (x : ℕ) → x < 65536 → marked t marks x ≡ member x cs || marked t₀ marks x

-- r's map holds these new numbers of classes, of which none is above its top, and r says how many they are.
pub record Classes (es : List (ℕ × ℕ)) (t : List ℕ) (r : ClassMap) : Type 0 where
  pub holds : Holds t r.map es
  pub above : (x : ℕ) → top_of r.map < x → find es x ≡ None
  pub count : r.count ≡ length es

-- classes with class 0 among them, if z says so
abbrev pub with_zero : Bool → List ℕ → List ℕ
with_zero z l = cond z (insert_up 0 l) l

-- What `direct_map`, `ranked_map` and `listed_map` answer: the map of the classes that are listed, with class 0 if z says so.
pub record Numbers (z : Bool) (t₀ t : List ℕ) (list : ℕ) (l : ClassList) (to : ℕ) (r : ClassMap) : Type 0 where
  pub placed : Placed t₀ t l.high to r.map
  pub numbers : (r.map.mask ≡ 0 → ⊥) → Classes (numbered 0 (with_zero z (each_once (news t₀ list l.len)))) t r

-- What `class_map` and `pinned_map` answer: the map that is `made` of a glyph map and a class table, if the classes of its glyphs are those that are listed.
pub record Mapped (made : List (ℕ × ℕ) → List (ℕ × ℕ) → List (ℕ × ℕ)) (t₀ t : List ℕ) (list : ℕ) (l : ClassList) (to : ℕ) (r : ClassMap) : Type 0 where
  pub placed : Placed t₀ t l.high to r.map
  pub mapped : (r.map.mask ≡ 0 → ⊥) → (cs g : List (ℕ × ℕ)) → Lists cs g t₀ list l.len → l.zero ≡ holds_zero cs g → Classes (made g cs) t r

-- The r cells from `list` on are the entries of the new class table under the map of classes that m holds, in which class 0 has no new number other than 0, if the classes were listed in the n cells from there on; the cells elsewhere are as before.
pub record Entries (t₀ t : List ℕ) (list n : ℕ) (m : Map) (r : ℕ) : Type 0 where
  pub few : r ≤ n
  pub elsewhere : Elsewhere list (list + n) t₀ t
  pub entries : (cs g es : List (ℕ × ℕ)) → Lists cs g t₀ list n → Holds t₀ m es → unwrap_or (find es 0) 0 ≡ 0 → notes t list r ≡ classes_under es g cs

-- what holds of all notes holds of each cell
notes_each : (b : ℕ) (t : List ℕ) (list n : ℕ) → All {A = ℕ × ℕ} (λ e. e.1 ≤ b) (notes t list n) → (j : ℕ) → j < n → get_or t (list + j) 0 % 65536 ≤ b
unfolding part
notes_each b t list zero a j h = absurd (omega arith)
notes_each b t list (suc n) a zero h =
    let e : list + 0 ≡ list = omega arith in
    rw e a.0
notes_each b t list (suc n) a (suc j) h =
    let e : list + suc j ≡ list + 1 + j = omega arith in
    rw e (notes_each b t (list + 1) n a.1 j (omega arith))

-- A list that was just made.
module _ {cs g : List (ℕ × ℕ)} {t₀ t : List ℕ} {list : ℕ} {l : ClassList} (o : Listed cs g t₀ t list l) where
  pub lists_made : list + l.len ≤ length t → Lists cs g t list l.len
  lists_made h = record { each = o.cells (omega (arith, o.kept.size)) }

  pub may_map : {to : ℕ} → list + l.len ≤ to → to < 0x1_0000_0000_0000 → ToMap t list l to
  may_map p n = record {
    place = p;
    near = n;
    small = o.small;
    low = λ h j a. notes_each l.high t list l.len (rw (lists_made h).each o.most) j a;
  }

-- class 0 has no other new number in either map
zero_rank : (l : List ℕ) → Up 0 l → unwrap_or (find (numbered 0 l) 0) 0 ≡ 0
unfolding numbered find
zero_rank [] u = refl
zero_rank (c ∷ l) u = step (eqb c 0) refl
  where
    step : (b : Bool) → eqb c 0 ≡ b → unwrap_or (cond b (Some 0) (find (numbered 1 l) 0)) 0 ≡ 0
    step true e = refl
    step false e = rw (find_low 1 0 l (c + 1) u.1 (omega arith))

pub zero_first : (g cs : List (ℕ × ℕ)) → unwrap_or (find (class_map g cs) 0) 0 ≡ 0
unfolding class_map
zero_first g cs = zero_rank (held_by cs (keys g)) (held_up cs (keys g))

pub zero_second : (g cs : List (ℕ × ℕ)) → unwrap_or (find (second_map g cs) 0) 0 ≡ 0
unfolding second_map
zero_second g cs = zero_rank (insert_up 0 (held_by cs (keys g))) (insert_up_lem 0 0 (held_by cs (keys g)) (omega arith) (held_up cs (keys g)))

-- a class table that may be null has this class map
pub holds_null : (g : List (ℕ × ℕ)) (src : List ℕ) (at : ℕ) {t : List ℕ} {m : Map} → Holds t m (class_map g (classes_at src at)) → Holds t m (class_map? g (table_at src at))
unfolding class_map?
holds_null g src at h = h

-- the list stands where its cells do
pub lists_kept : {cs g : List (ℕ × ℕ)} {t u : List ℕ} {list n at : ℕ} → Lists cs g t list n → Kept at t u → list + n ≤ at → Lists cs g u list n
lists_kept {t = t} {u} {list} {n} l k h = record { each = ap (map (λ c. (c / 65536, c % 65536))) (part_same u t list n (λ j a b. k.same j (omega arith))) ∙ l.each }

-- the class map stands where only cells behind it change
pub classes_kept : {es : List (ℕ × ℕ)} {t u : List ℕ} {at : ℕ} {r : ClassMap} → Classes es t r → Kept at t u → r.map.at + r.map.mask < at → Classes es u r
classes_kept c k h = record { holds = holds_kept k h c.holds; above = c.above; count = c.count }

-- which classes survive, and how many
module _ (g cs : List (ℕ × ℕ)) {t : List ℕ} {r : ClassMap} (c : Classes (class_map g cs) t r) where
  pub classes_held : present t r.map ≡ held_by cs (keys g)
  classes_held = present_held g cs c.holds c.above

  pub classes_count : r.count ≡ length (held_by cs (keys g))
  unfolding class_map
  classes_count = c.count ∙ numbered_length 0 (held_by cs (keys g))

-- the entries of the new class table may be written: their glyphs ascend
pub entries_ascend : {cs g : List (ℕ × ℕ)} {t₀ t : List ℕ} {list n : ℕ} {m : Map} {r : ℕ} → Entries t₀ t list n m r → Lists cs g t₀ list n
    → Holds t₀ m (class_map g cs) → ascends (values g) ≡ true → ascends (keys (notes t list r)) ≡ true
unfolding new_classes
entries_ascend {cs} {g} e l h a = rw (e.entries cs g (class_map g cs) l h (zero_first g cs)) (new_classes_ascend g cs a)
