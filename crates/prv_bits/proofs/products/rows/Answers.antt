use Rattle.prv_bits.proofs.ProductLaws.{product-is, product-skip}
use Rattle.prv_bits.proofs.products.rows.Goals as goal

pub returns-clause-product : goal.returns-clause-product
returns-clause-product c = product-is

pub returns-clause-skipped : goal.returns-clause-skipped
returns-clause-skipped c = product-skip
