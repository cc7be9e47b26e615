-- What the symbol of an expression says on an input.
use Rattle.std.specs.Prelude.{◌≡◌, ℕ, Bool, true, false, List, Option, Some, None, ℤ, pos, map, unwrap_or, slice_get}
use Rattle.prv_model.specs.Words.{flag}
use Rattle.prv_model.specs.Expressions.{value}
use Rattle.prv_model.specs.Terms.{IsTerm, term_value}
use Rattle.prv_model.specs.declared.expr.Expr.{Expr}
use Rattle.prv_model.specs.declared.term.Term.{Term}
use Rattle.prv_model.specs.declared.term.Term.TheVariants.{Num}
use Rattle.prv_sym.specs.Symbols.{Symbol, symbol}

-- whether an evaluation has a value
abbrev pub has_value : Option ℤ → Bool
has_value None = false
has_value (Some n) = true

-- the symbol says on the input y what the evaluation gives
pub record Judged (y : List ℤ) (s : Symbol) (v : Option ℤ) : Type 0 where
  pub safe : term_value s.safe y ≡ flag (has_value v)
  pub term : (n : ℤ) → v ≡ Some n → term_value s.term y ≡ n

-- both terms of a symbol are terms over n parameters
pub record AreOver (n : ℕ) (s : Symbol) : Type 0 where
  pub term : IsTerm n s.term
  pub safe : IsTerm n s.safe

-- each variable has a term over n parameters
abbrev pub AreTerms : ℕ → List Term → Type 0
AreTerms n env = (v : ℕ) → IsTerm n (unwrap_or (slice_get env v) (Num (pos 0)))

-- the state that the variables' terms have on an input
abbrev pub state_of : List Term → List ℤ → List ℤ
state_of env y = map (λ t. term_value t y) env

-- an expression over the variables has a symbol over n parameters, which says what its evaluation gives
pub record IsSaid (n : ℕ) (y : List ℤ) (env : List Term) (e : Expr) : Type 0 where
  pub over : AreOver n (symbol e env)
  pub judged : Judged y (symbol e env) (value e (state_of env y))
