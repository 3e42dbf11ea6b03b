use Rattle.std.proofs.Common.{◌≡◌, sym, refl, ◌∙◌, true, false}
use Rattle.room.specs.Laid.{enough_area}
use Rattle.cut_sizes.specs.Cutting.{class_pair_cells, class_pair_bytes, other_cells, pairs_by_class}
use Rattle.cut.proofs.Sizes.{pair_cells_lem, pair_bytes_lem, other_cells_lem, other_bytes_lem, never_short}
use Rattle.cut.proofs.in_most.Goals as goal

pub returns-then-pairs_by_class : goal.returns-then-pairs_by_class
returns-then-pairs_by_class c =
    let kind = c.args.marks.kind in
    let s = c.args.src.now in
    let e : pairs_by_class kind s ≡ true = sym c.pairs_by_class.ensures ∙ c.if-pairs_by_class.true in
    never_short kind s class_pair_cells class_pair_bytes (pair_cells_lem kind s refl e) (pair_bytes_lem kind s refl e) c.in_own.ensures

pub returns : goal.returns
returns c =
    let kind = c.args.marks.kind in
    let s = c.args.src.now in
    let e : pairs_by_class kind s ≡ false = sym c.pairs_by_class.ensures ∙ c.if-pairs_by_class.false in
    never_short kind s other_cells enough_area (other_cells_lem kind s refl e) (other_bytes_lem kind s refl e) c.in_own-2.ensures
