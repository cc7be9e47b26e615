-- The most clauses, and the most variables, that each operator adds.
use Rattle.std.specs.Prelude.{ℕ}
use Rattle.prv_model.specs.declared.op.TermOp.{TermOp}
use Rattle.prv_model.specs.declared.op.TermOp.TheVariants.{Add, Sub, Mul, Div, Rem, Shl, Shr, And, Or, Xor, Lt, Le, Eq, Ne}

abbrev pub op_cost : TermOp → ℕ
op_cost Add = 500
op_cost Sub = 500
op_cost Mul = 10000
op_cost Div = 24000
op_cost Rem = 24000
op_cost Shl = 700
op_cost Shr = 700
op_cost And = 128
op_cost Or = 128
op_cost Xor = 128
op_cost Lt = 500
op_cost Le = 500
op_cost Eq = 256
op_cost Ne = 256

-- that of a choice between two words
abbrev pub pick_cost : ℕ
pick_cost = 256
