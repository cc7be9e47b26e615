-- The value of an expression in a state, which has one word for each variable.
-- `&&`, `||` and `?:` evaluate only what they need (ISO/IEC 9899:1999, 6.5.13 to 6.5.15).
use Rattle.std.specs.Prelude.{List, Option, Some, ℤ, pos, if◌then◌else◌, slice_get}
use Rattle.std.specs.Option.{option_map, option_and_then}
use Rattle.prv_model.specs.Words.{is_zero, truth, unary, binary}
use Rattle.prv_model.specs.declared.op.BinOp.{BinOp}
use Rattle.prv_model.specs.declared.op.BinOp.TheVariants.{AndAlso, OrElse}
use Rattle.prv_model.specs.declared.expr.Expr.{Expr}
use Rattle.prv_model.specs.declared.expr.Expr.TheOpen.{Expr-F}
use Rattle.prv_model.specs.declared.expr.Expr.TheFolds.{fold-Expr}

-- `b ? x : y` of evaluated operands: a fault where the test faults or the chosen one does
abbrev pub pick : Option ℤ → Option ℤ → Option ℤ → Option ℤ
pick test chosen other = option_and_then (λ n. if is_zero n then other else chosen) test

-- an operator on two operands: a fault where one that it needs faults, or where it divides by 0
abbrev pub operate : BinOp → Option ℤ → Option ℤ → Option ℤ
operate AndAlso a b = pick a (option_map truth b) (Some (pos 0))
operate OrElse a b = pick a (Some (pos 1)) (option_map truth b)
operate op a b = option_and_then (λ x. option_and_then (binary op x) b) a

-- one node, with the value of each child in its place
abbrev pub node_value : Expr-F (List ℤ → Option ℤ) → List ℤ → Option ℤ
node_value (Expr-F.Num n) state = Some n
node_value (Expr-F.Var v) state = slice_get state v
node_value (Expr-F.Un op a) state = option_map (unary op) (a state)
node_value (Expr-F.Bin op a b) state = operate op (a state) (b state)
node_value (Expr-F.Pick test chosen other) state = pick (test state) (chosen state) (other state)

-- the value of an expression in a state, or none where its evaluation is a fault
abbrev pub value : Expr → List ℤ → Option ℤ
value = fold-Expr (List ℤ → Option ℤ) node_value
