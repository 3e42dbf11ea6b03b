use mathlib.Core.Path.{refl, sym, ◌∙◌}
use native.Mathlib.Omega.{arith}
use Rattle.meaning.specs.Words.{word}
use Rattle.compare_lists.proofs.Listing.{laid_as_lem, rules_given, class_kind, class_given, glyph_given}
use Rattle.compare_lists.proofs.lay_rules.Goals as goal

pub lay_rules-requires : goal.lay_rules-requires
lay_rules-requires c =
    let g = rules_given c.args.kind (word c.args.left.now 0) (word c.args.right.now 0) c.requires.0 c.requires.3 in
    let l = sym c.word_at.ensures.0 ∙ c.if-word_at-eq2.true in
    (class_given c.args.kind g.0 refl c.requires.1 l, class_given c.args.kind g.0 refl c.requires.2 (sym g.2 ∙ l), c.requires.4)

pub returns-then-word_at-eq2 : goal.returns-then-word_at-eq2
returns-then-word_at-eq2 c =
    let g = rules_given c.args.kind (word c.args.left.now 0) (word c.args.right.now 0) c.requires.0 c.requires.3 in
    let l = sym c.word_at.ensures.0 ∙ c.if-word_at-eq2.true in
    laid_as_lem (class_kind c.args.kind g.0 refl (word c.args.left.now 0) c.requires.1.format l) c.args.left.now c.args.right.now 0x18_0000_0000 (omega arith) c.lay_rules.ensures

pub lay_rules-requires-2 : goal.lay_rules-requires-2
lay_rules-requires-2 c =
    let g = rules_given c.args.kind (word c.args.left.now 0) (word c.args.right.now 0) c.requires.0 c.requires.3 in (
      glyph_given c.args.kind g.0 g.1 c.requires.1 (λ e. c.if-word_at-eq2.false (c.word_at.ensures.0 ∙ e)) g.3,
      glyph_given c.args.kind g.0 g.1 c.requires.2 (λ e. c.if-word_at-eq2.false (c.word_at.ensures.0 ∙ g.2 ∙ e)) (λ e. g.3 (g.2 ∙ e)),
      c.requires.4,
    )
