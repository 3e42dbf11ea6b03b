use mathlib.Core.Path.{◌≡◌, sym, ◌∙◌}
use Prim.Native.Nat.{◌<◌}
use native.Mathlib.Omega.{arith}
use Rattle.meaning.specs.Words.{word}
use Rattle.compare_lists.proofs.Listing.{sound_as, listed_as, kind_range, one_format, differ_contexts, three_contexts, three_left}
use Rattle.compare_lists.proofs.list_direct.Goals as goal

pub list_pairs-requires : goal.list_pairs-requires
list_pairs-requires c =
    let k : 2 < c.args.kind = omega arith in
    (sound_as c.if-kind-eq4.true c.args.left.now c.args.right.now c.requires.1, one_format c.args.kind (word c.args.left.now 0) k c.requires.1.format, sound_as c.if-kind-eq4.true c.args.left.now c.args.right.now c.requires.2, one_format c.args.kind (word c.args.right.now 0) k c.requires.2.format, omega arith)

pub returns-then-kind-eq4 : goal.returns-then-kind-eq4
returns-then-kind-eq4 c =
    listed_as c.if-kind-eq4.true c.args.left.now c.args.right.now 0x100_0000_0000 (omega arith) c.list_pairs.ensures

pub list_formats-requires : goal.list_formats-requires
list_formats-requires c =
    let n : word c.args.left.now 0 ≡ word c.args.right.now 0 → ⊥ = λ e. c.if-word_at.true (c.word_at.ensures.0 ∙ e ∙ sym c.word_at-2.ensures.0) in (
      (kind_range c.args.kind c.requires.0).0,
      differ_contexts c.args.kind (word c.args.left.now 0) (word c.args.right.now 0) c.requires.1.format c.requires.2.format n,
      c.requires.1.format,
      c.requires.2.format,
      n,
      omega arith,
    )

pub list_covers-requires : goal.list_covers-requires
list_covers-requires c =
    let l = word c.args.left.now 0 in
    let r = word c.args.right.now 0 in
    let e : l ≡ r = sym c.word_at.ensures.0 ∙ c.if-word_at.false ∙ c.word_at-2.ensures.0 in
    let t = three_left c.args.kind l r c.requires.3 c.if-kind-eq4.false e in
    (c.requires.1, c.requires.2, (kind_range c.args.kind c.requires.0).0, three_contexts c.args.kind l c.requires.1.format t, t, sym e ∙ t)
