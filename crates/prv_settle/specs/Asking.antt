-- What is asked of the solver.
use Rattle.std.specs.Prelude.{◌≡◌, ℕ, ◌<◌, ◌≤◌, ◌^◌, List, length, map, None, All}
use Rattle.prv_model.specs.Terms.{IsTerm}
use Rattle.prv_model.specs.declared.term.Term.{Term}
use Rattle.prv_pool.specs.Tables.{term_at}
use Rattle.prv_blast.specs.Formulas.{formula}
use Rattle.prv_blast.specs.Subterms.{cost, param_count}
use Rattle.prv_blast.specs.declared.formula.Blasted.{Blasted}
use Rattle.prv_blast.specs.declared.formula.TheConstants.{MAX_CLAUSES}
use Rattle.prv_settle.specs.Probes.{first_probe}

-- some nodes of a table are a condition on n words, of not too many literals
pub record IsCondition (n : ℕ) (terms : List Term) (nodes : List ℕ) : Type 0 where
  pub within : All (λ k. k < length terms) nodes
  pub few : length nodes ≤ 2 ^ 49
  pub words : n ≤ 8
  pub params : All (IsTerm n) (map (term_at terms) nodes)

-- no probe meets a condition on n words, which is within the limit on its cost, and this is its formula
pub record IsAsked (n : ℕ) (condition : List Term) (b : Blasted) : Type 0 where
  pub words : n ≤ 8
  pub params : All (IsTerm n) condition
  pub unmet : first_probe n condition ≡ None
  pub cheap : cost condition ≤ MAX_CLAUSES
  pub formula_of : b.cnf ≡ formula condition
  pub count : b.params ≡ param_count condition
