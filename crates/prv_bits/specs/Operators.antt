-- Each operator of a term on the bits of two words.
use Rattle.std.specs.Prelude.{Bool, false, ◌&&◌, ◌||◌, not, List, length}
use Rattle.prv_model.specs.declared.op.TermOp.{TermOp}
use Rattle.prv_model.specs.declared.op.TermOp.TheVariants.{Add, Sub, Mul, Div, Rem, Shl, Shr, And, Or, Xor, Lt, Le, Eq, Ne}
use Rattle.prv_bits.specs.Gates.{xor}
use Rattle.prv_bits.specs.Places.{low}
use Rattle.prv_bits.specs.Numbers.{pairwise, choose, any, sign}
use Rattle.prv_bits.specs.Sums.{add, subtract}
use Rattle.prv_bits.specs.Orders.{signed_below, differ, flag_bits}
use Rattle.prv_bits.specs.Products.{product}
use Rattle.prv_bits.specs.Quotients.{signed_quotient, signed_remainder}
use Rattle.prv_bits.specs.Shifts.{shift_up, shift_down}

-- the bits of an operator's value
abbrev pub operate : TermOp → List Bool → List Bool → List Bool
operate Add xs ys = add false xs ys
operate Sub xs ys = subtract xs ys
operate Mul xs ys = product xs ys
operate Div xs ys = signed_quotient xs ys
operate Rem xs ys = signed_remainder xs ys
operate Shl xs ys = shift_up (low 5 ys) xs
operate Shr xs ys = shift_down (sign xs) (low 5 ys) xs
operate And xs ys = pairwise (λ a b. a && b) xs ys
operate Or xs ys = pairwise (λ a b. a || b) xs ys
operate Xor xs ys = pairwise xor xs ys
operate Lt xs ys = flag_bits (length xs) (signed_below xs ys)
operate Le xs ys = flag_bits (length xs) (not (signed_below ys xs))
operate Eq xs ys = flag_bits (length xs) (not (differ xs ys))
operate Ne xs ys = flag_bits (length xs) (differ xs ys)

-- the bits of the choice between two words by a third
abbrev pub pick : List Bool → List Bool → List Bool → List Bool
pick cs xs ys = choose (any cs) xs ys
