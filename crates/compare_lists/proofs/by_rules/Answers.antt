use mathlib.Core.Path.{sym, ap, ◌∙◌}
use mathlib.Core.Bool.{not}
use Prim.Native.Nat.{ℕ}
use lib.Dec.{eqb}
use Rattle.meaning.specs.Words.{word}
use Rattle.compare_lists.proofs.Listing.{none_pairs, none_formats, some_format}
use Rattle.compare_lists.proofs.by_rules.Goals as goal

pub returns-then-kind-eq4 : goal.returns-then-kind-eq4
returns-then-kind-eq4 c =
    none_pairs c.args.kind (word c.args.left.now 0) (word c.args.right.now 0) c.if-kind-eq4.true

pub returns-then-f-word_at : goal.returns-then-f-word_at
returns-then-f-word_at c =
    none_formats c.args.kind (word c.args.left.now 0) (word c.args.right.now 0) c.if-kind-eq4.false (λ e. c.if-f-word_at.true (c.word_at-f.ensures.0 ∙ e ∙ sym c.word_at.ensures.0))

pub returns : goal.returns
returns c =
    ap (λ (x : ℕ). not (eqb x 3)) c.word_at-f.ensures.0
    ∙ some_format c.args.kind (word c.args.left.now 0) (word c.args.right.now 0) c.if-kind-eq4.false (sym c.word_at-f.ensures.0 ∙ c.if-f-word_at.false ∙ c.word_at.ensures.0)
