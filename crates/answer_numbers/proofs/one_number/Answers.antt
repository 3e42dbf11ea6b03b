use native.Mathlib.Omega.{arith}
use Rattle.answer_numbers.proofs.Coded.{number_most}
use Rattle.answer_numbers.proofs.one_number.Goals as goal

pub overflow_mul-result : goal.overflow_mul-result
overflow_mul-result c = omega (arith, c.number_of.ensures, number_most c.args.a)

pub overflow_add-result : goal.overflow_add-result
overflow_add-result c = omega (arith, c.number_of.ensures, c.length_of.ensures, number_most c.args.a, c.requires)
