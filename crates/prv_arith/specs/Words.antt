-- The circuits of a term's operators on the 32 bits of two words.
use Rattle.std.specs.Prelude.{ℕ, Bool, List, length, ℤ}
use Rattle.prv_model.specs.declared.op.TermOp.{TermOp}
use Rattle.prv_model.specs.declared.op.TermOp.TheVariants.{Add, Sub, Mul, Div, Rem, Shl, Shr, And, Or, Xor, Lt, Le, Eq, Ne}
use Rattle.prv_gate.specs.Circuits.{Circuit, Run, give, and_then, opposite}
use Rattle.prv_gate.specs.declared.bit.Bit.{Bit}
use Rattle.prv_gate.specs.declared.bit.Bit.TheVariants.{False, True}
use Rattle.prv_bits.specs.Places.{low}
use Rattle.prv_bits.specs.Numbers.{word}
use Rattle.prv_arith.specs.declared.pairs.PairGate.TheVariants as p
use Rattle.prv_arith.specs.Lists.{values, opposites, top_bit}
use Rattle.prv_arith.specs.Pairs.{paired, some}
use Rattle.prv_arith.specs.Sums.{added}
use Rattle.prv_arith.specs.Orders.{signed_less, unlike, flag}
use Rattle.prv_arith.specs.Products.{times}
use Rattle.prv_arith.specs.Quotients.{signed_quotient, signed_remainder}
use Rattle.prv_arith.specs.Shifts.{shifted_up, shifted_down}

-- the word that bits are, where the variable k has the value v k
abbrev pub word_value : (ℕ → Bool) → List Bit → ℤ
word_value v bs = word (values v bs)

-- a word that is 1 where the bit of the run is set, else 0
abbrev pub flag_word : ℕ → Run Bit → Run (List Bit)
flag_word n r = give (flag n r.out) r.circuit

-- the bits of an operator's value
unfoldable pub op_bits : TermOp → List Bit → List Bit → Circuit → Run (List Bit)
op_bits Add xs ys s = added False xs ys s
op_bits Sub xs ys s = added True xs (opposites ys) s
op_bits Mul xs ys s = times xs ys s
op_bits Div xs ys s = signed_quotient xs ys s
op_bits Rem xs ys s = signed_remainder xs ys s
op_bits Shl xs ys s = shifted_up (low 5 ys) xs s
op_bits Shr xs ys s = shifted_down (top_bit xs) (low 5 ys) xs s
op_bits And xs ys s = paired p.And xs ys s
op_bits Or xs ys s = paired p.Or xs ys s
op_bits Xor xs ys s = paired p.Xor xs ys s
op_bits Lt xs ys s = flag_word (length xs) (signed_less xs ys s)
op_bits Le xs ys s = flag_word (length xs) (opposite (signed_less ys xs s))
op_bits Eq xs ys s = flag_word (length xs) (opposite (unlike xs ys s))
op_bits Ne xs ys s = flag_word (length xs) (unlike xs ys s)

-- the bits of the choice between two words by a third
unfoldable pub pick_bits : List Bit → List Bit → List Bit → Circuit → Run (List Bit)
pick_bits cs xs ys s = and_then (some False cs s) (λ c t. paired (p.Mux c) xs ys t)
