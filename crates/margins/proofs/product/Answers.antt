-- `product` meets its contract. Assumes nothing.
use mathlib.Core.Path.{refl}
use Rattle.margins.proofs.Margins.{product_fits}
use native.Mathlib.Omega.{arith}
use Rattle.margins.proofs.product.Goals as goal

pub overflow_mul-result : goal.overflow_mul-result
overflow_mul-result c = omega (arith, product_fits c.args.a c.args.b c.requires.0 c.requires.1)

pub returns : goal.returns
returns c = (refl, product_fits _ _ c.requires.0 c.requires.1)
