use native.Mathlib.Omega.{arith}
use Rattle.repeats.proofs.BitLaws.{product_most, product_is}
use Rattle.repeats.proofs.bits.product.Goals as goal

pub overflow_cast-result : goal.overflow_cast-result
overflow_cast-result c = omega (arith, product_most c.from.result)

pub overflow_add-result : goal.overflow_add-result
overflow_add-result c = omega (arith, product_most c.from.result)

pub returns : goal.returns
returns c = rw c.from.ensures (product_is c.args.page)
