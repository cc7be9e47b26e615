-- What the call that makes a slice answers: nodes that stand for the slice, and how a refusal is passed on.
use Rattle.std.specs.Prelude.{◌≡◌, ℕ, List, ℤ, map}
use Rattle.prv_model.specs.Boards.{IsInput}
use Rattle.prv_model.specs.Outcomes.{outcome}
use Rattle.prv_model.specs.declared.program.Program.{Program}
use Rattle.prv_model.specs.declared.term.Term.{Term}
use Rattle.prv_pool.specs.Tables.{term_at}
use Rattle.prv_pool.specs.declared.error.PoolError.{PoolError}
use Rattle.prv_pool.specs.declared.error.PoolError.TheVariants as pool
use Rattle.prv_run.specs.Runs.{run_of, events}
use Rattle.prv_run.specs.declared.event.Traced.{Traced}
use Rattle.prv_sym.specs.Calls.{AllStand}
use Rattle.prv_general.specs.Slices as slices
use Rattle.prv_general.specs.declared.error.GeneralError.{GeneralError}
use Rattle.prv_general.specs.declared.error.GeneralError.TheVariants as general
use Rattle.prv_general.specs.declared.slice.Slice.{Slice}

-- a refusal of a pool as a refusal of a slice
abbrev pub passed_on : PoolError → GeneralError
passed_on pool.Wide = general.Wide
passed_on pool.Memory = general.Memory

-- the nodes of a table stand for a slice, one by one, with its ending and its marks
pub record IsSlice (terms : List Term) (made : Slice) (s : slices.Slice) : Type 0 where
  pub literals : AllStand terms made.literals s.literals
  pub outs : AllStand terms made.outs s.outs
  pub how : made.how ≡ s.how
  pub marks : made.marks ≡ s.marks

-- the terms at some nodes
abbrev pub terms_at : List Term → List ℕ → List Term
terms_at terms nodes = map (term_at terms) nodes

-- a trace is that of a program at an input, and the flags are those of the choice in it
pub record IsTraced (p : Program) (turns : ℕ) (x : List ℤ) (traced : Traced) : Type 0 where
  pub input : IsInput p.params x
  pub events : traced.events ≡ events (run_of p turns x)
  pub outcome : traced.outcome ≡ outcome p turns x
