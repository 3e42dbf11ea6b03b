use Rattle.meaning.specs.Words.{word}
use borrow.Author.Tests.{eq-eqb, ne_eqb}
use mathlib.Core.Path.{◌≡◌}
use native.Mathlib.Omega.{arith}
use Rattle.cover_differences.proofs.first_at.Goals as goal

pub returns-then-word_at-eq1 : goal.returns-then-word_at-eq1
returns-then-word_at-eq1 c =
    let e : word c.args.src.now c.args.at ≡ 1 = omega arith in
    (rw (eq-eqb (word c.args.src.now c.args.at) 1 e) c.word_at-then-word_at-eq1.ensures.0, omega arith)

pub returns : goal.returns
returns c =
    let e : word c.args.src.now c.args.at ≡ 1 → ⊥ = omega arith in
    (rw (ne_eqb (word c.args.src.now c.args.at) 1 e) c.word_at-2.ensures.0, omega arith)
