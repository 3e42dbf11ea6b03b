-- What is cut from a good table is a good table of the same kind.
use Rattle.std.specs.Prelude.{ℕ, ◌≡◌, refl, cond, List, []}
use Rattle.std.proofs.Common.{ap, ◌∙◌}
use Rattle.meaning.specs.Words.{keys}
use Rattle.meaning.specs.Tables.{Table, field_count, delta_pairs, list_pairs}
use Rattle.meaning.specs.Cut.{RuleMaps, cut_set, kept_sets, held_by, class_map, class_map?, new_classes?, new_coverage, retained, slots, trim, covers_left, cut_ligatures, cut_pairs, covered_map, kept_class_pairs, cut}
use Rattle.laws.specs.Stands.{All}
use Rattle.laws.specs.PartsBack.{Glyphs, Classes}
use Rattle.laws.specs.Through.{Opt}
use Rattle.laws.specs.SetsBack.{GoodRule, GoodLigature, GoodPairs}
use Rattle.laws.specs.ReadsBack.{Good, kind_of}
use Rattle.laws.specs.CutGood.{Values, GoodMap, GoodMaps, GoodOf, opt_bind, cut_records_lem, cut_set_lem, cut_ligatures_lem, kept_sets_lem, cut_pairs_lem, new_words, new_coverage_glyphs, covers_left_lem, class_values, class_values?, new_classes?_lem, slots_all, trim_all, by_glyph_good, ligatures_good, pairs_good, by_class_good, no_classes}
use Rattle.laws.specs.CutCells.{singles_good, delta_up, list_up, class_pairs_good}

-- what is cut from a good table, if anything is left, is a good table of the same kind
pub cut_good : (g l : List (ℕ × ℕ)) → GoodMap g → Values l → (t : Table) → Good t → Opt (GoodOf (kind_of t)) (cut g l t)
unfolding cut kind_of
cut_good g l m v (Table.by_glyph chained cover sets) k =
    let P = All (GoodRule chained) in
    let one = cut_set chained (record { back = g; input = g; ahead = g; lookups = l }) in
    let w = new_words g m in
    opt_bind Glyphs (GoodOf (cond chained 2 1)) cover _ k.0 (λ cov c.
    by_glyph_good chained (kept_sets one g cov sets) (kept_sets_lem g m P one (cut_set_lem chained (record { back = g; input = g; ahead = g; lookups = l }) (record { back = w; input = w; ahead = w; lookups = v })) cov sets c k.1))
cut_good g l m v (Table.by_class chained cover b i a sets) k =
    opt_bind Glyphs (GoodOf (cond chained 2 1)) cover _ k.0 (λ cov c.
    opt_bind Classes (GoodOf (cond chained 2 1)) i _ k.2 (λ cs q.
    let maps : RuleMaps = record { back = class_map? g b; input = class_map g cs; ahead = class_map? g a; lookups = l } in
    let good : GoodMaps maps = record { back = class_values? g m b; input = class_values g m cs; ahead = class_values? g m a; lookups = v } in
    let P = All (GoodRule chained) in
    let all = slots (cut_set chained maps) (held_by cs (retained g cov)) sets (held_by cs (keys g)) in
    by_class_good chained (new_coverage g cov) (new_classes? g b) (new_classes? g i) (new_classes? g a) (trim all) (
      new_coverage_glyphs g m cov c,
      new_classes?_lem g m b,
      new_classes?_lem g m i,
      new_classes?_lem g m a,
      trim_all P all (slots_all P (cut_set chained maps) (cut_set_lem chained maps good) (held_by cs (retained g cov)) sets (held_by cs (keys g)) k.4),
      λ e. (ap (new_classes? g) (k.5 e).0 ∙ no_classes g, ap (new_classes? g) (k.5 e).1 ∙ no_classes g),
    )))
cut_good g l m v (Table.by_cover chained b i a rs) k =
    opt_bind (λ ks. All (Opt Glyphs) ks × (b ≡ [] → ks ≡ [])) (GoodOf (cond chained 2 1)) (covers_left g b) _ (covers_left_lem g m b k.0) (λ b' qb.
    opt_bind (λ ks. All (Opt Glyphs) ks × (i ≡ [] → ks ≡ [])) (GoodOf (cond chained 2 1)) (covers_left g i) _ (covers_left_lem g m i k.1) (λ i' qi.
    opt_bind (λ ks. All (Opt Glyphs) ks × (a ≡ [] → ks ≡ [])) (GoodOf (cond chained 2 1)) (covers_left g a) _ (covers_left_lem g m a k.2) (λ a' qa.
    ((qb.0, qi.0, qa.0, cut_records_lem l rs v k.3, λ e. (qb.1 (k.4 e).0, qa.1 (k.4 e).1)), refl))))
cut_good g l m v (Table.ligatures cover sets) k =
    opt_bind Glyphs (GoodOf 3) cover _ k.0 (λ cov c.
    ligatures_good (kept_sets (cut_ligatures g) g cov sets) (kept_sets_lem g m (All GoodLigature) (cut_ligatures g) (cut_ligatures_lem g (new_words g m)) cov sets c k.1))
cut_good g l m v (Table.pairs_of cover f1 f2 sets) k =
    opt_bind Glyphs (GoodOf 4) cover _ k.0 (λ cov c.
    pairs_good (field_count f1) (field_count f2) f1 f2 (kept_sets (cut_pairs g) g cov sets) (kept_sets_lem g m (GoodPairs (field_count f1) (field_count f2)) (cut_pairs g) (cut_pairs_lem g m (field_count f1) (field_count f2)) cov sets c k.3))
cut_good g l m v (Table.class_pairs cover first second f1 f2 n rows) k = class_pairs_good g m cover first second f1 f2 n rows k
cut_good g l m v (Table.single_delta cover d) k =
    opt_bind Glyphs (GoodOf 5) cover _ k.0 (λ cov c. singles_good g m (delta_pairs cov d) (delta_up cov d c.0))
cut_good g l m v (Table.single_list cover subs) k =
    opt_bind Glyphs (GoodOf 5) cover _ k.0 (λ cov c. singles_good g m (list_pairs cov subs) (list_up 0 cov subs c.0))
