-- The flat walk along the evaluations of a run, and where it stands.
use Rattle.std.specs.Prelude.{◌≡◌, ℕ, Bool, true, List, [], ◌∷◌, ◌++◌, Option, Some, None, map, fold, unwrap_or, slice_get, slice_set}
use Rattle.prv_model.specs.declared.expr.Expr.{Expr}
use Rattle.prv_model.specs.declared.stmt.Stmt.{Stmt}
use Rattle.prv_model.specs.declared.stmt.Stmt.TheOpen.{Stmt-F}
use Rattle.prv_model.specs.declared.stmt.Stmt.TheFolds.{fold-Stmt}
use Rattle.prv_model.specs.declared.term.Term.{Term}
use Rattle.prv_run.specs.declared.event.Event.{Event}
use Rattle.prv_pool.specs.Tables.{Table, add_terms}
use Rattle.prv_sym.specs.declared.statements.Evaluation.{Evaluation}
use Rattle.prv_sym.specs.declared.evaluations.Walk.{Walk}
use Rattle.prv_sym.specs.declared.symbol_nodes.Slot.{Slot}
use Rattle.prv_sym.specs.Calls.{AreSlots, AllStand, terms_of}
use Rattle.prv_sym.specs.Named.{named}
use Rattle.prv_sym.specs.Symbols.{Symbol, symbol}

-- what a statement evaluates itself: an expression, and the variable that it sets, if it sets one
pub record Own : Type 0 where
  pub expr : Expr
  pub sets : Option ℕ

abbrev pub node_own : Stmt-F (Option Own) → Option Own
node_own (Stmt-F.Set var e) = Some (record { expr = e; sets = Some var })
node_own (Stmt-F.If test chosen other) = Some (record { expr = test; sets = None })
node_own (Stmt-F.While test body) = Some (record { expr = test; sets = None })
node_own (Stmt-F.Return e) = Some (record { expr = e; sets = None })
node_own (Stmt-F.Out e) = Some (record { expr = e; sets = None })
node_own (Stmt-F.Assert e) = Some (record { expr = e; sets = None })
node_own _ = None

abbrev pub own : Stmt → Option Own
own = fold-Stmt (Option Own) node_own

-- the same as the code keeps it
abbrev pub seen : Evaluation → Own
seen e = record { expr = e.expr.now; sets = e.sets }

abbrev pub row_of : Option Evaluation → Option Own
row_of None = None
row_of (Some e) = Some (seen e)

abbrev pub row_at : List (Option Own) → ℕ → Option Own
row_at rows k = unwrap_or (slice_get rows k) None

-- what a walk has: the variables' terms, the symbols of the evaluations, and the terms that were named
pub record Walked : Type 0 where
  pub env : List Term
  pub symbols : List Symbol
  pub named : List Term

-- the variables' terms where a variable is set, by an evaluation that had a value
abbrev pub set_by : Option ℕ → Bool → Term → List Term → List Term
set_by (Some v) true t env = slice_set env v t
set_by _ _ t env = env

abbrev pub slots_by : Option ℕ → Bool → ℕ → List Slot → List Slot
slots_by (Some v) true n slots = slice_set slots v (Slot.Node n)
slots_by _ _ n slots = slots

-- a walk goes on by one evaluation
abbrev pub with_own : Own → Bool → Walked → Walked
with_own o safe w = record {
  env = set_by o.sets safe (symbol o.expr w.env).term w.env;
  symbols = w.symbols ++ symbol o.expr w.env ∷ [];
  named = w.named ++ named o.expr w.env;
}

abbrev pub with_row : Option Own → Bool → Walked → Walked
with_row None safe w = w
with_row (Some o) safe w = with_own o safe w

abbrev pub with_event : List (Option Own) → Walked → Event → Walked
with_event rows w event = with_row (row_at rows event.stmt) event.safe w

-- a walk goes on along these evaluations
abbrev pub walked : List (Option Own) → List Event → Walked → Walked
walked rows events w = fold (λ at event. with_event rows at event) w events

-- the nodes of a walk stand for what it has, in a table that has grown by what was named
pub record Reached (first now : Table) (walk : Walk) (w : Walked) : Type 0 where
  pub slots : AreSlots now.terms walk.slots
  pub env : terms_of now.terms walk.slots ≡ w.env
  pub values : AllStand now.terms walk.values (map (λ s. s.term) w.symbols)
  pub safes : AllStand now.terms walk.safes (map (λ s. s.safe) w.symbols)
  pub grows : now.terms ≡ add_terms first.terms w.named
  pub limit : now.max_nodes ≡ first.max_nodes
