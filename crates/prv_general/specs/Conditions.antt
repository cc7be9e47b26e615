-- The conditions of a run and what it puts out, told along its evaluations: each with whether it is kept and with its symbol.
use Rattle.std.specs.Prelude.{ℕ, nat_lt, Bool, true, false, ◌&&◌, List, [], ◌∷◌, ◌++◌, pos, if◌then◌else◌}
use Rattle.std.specs.Ordering.{int_eq}
use Rattle.prv_model.specs.declared.term.Term.{Term}
use Rattle.prv_model.specs.declared.term.Term.TheVariants.{Num}
use Rattle.prv_pool.specs.Folding.{negation}
use Rattle.prv_pool.specs.declared.node.Node.{Node}
use Rattle.prv_pool.specs.declared.node.Node.TheVariants as node
use Rattle.prv_run.specs.declared.event.Event.{Event}
use Rattle.prv_run.specs.declared.event.What.{What}
use Rattle.prv_run.specs.declared.event.What.TheVariants as w
use Rattle.prv_sym.specs.Calls.{symbol_at}
use Rattle.prv_sym.specs.Symbols.{Symbol}
use Rattle.prv_general.specs.Slices.{branch_condition, branch_condition_named}

-- a node is the number 1
abbrev pub node_is_one : Node → Bool
node_is_one (node.Num n) = int_eq (pos 1) n
node_is_one _ = false

-- it matters to a run if a value is 0
abbrev pub decides : What → Bool
decides w.Test = true
decides w.Assert = true
decides _ = false

-- a value is put out
abbrev pub puts : What → Bool
puts w.Out = true
puts w.Return = true
puts _ = false

-- the condition that an evaluation decides as it did, where it decides, and what is named for it
abbrev pub decision : Event → Term → List Term
decision event t = if decides event.what then branch_condition event.value t ∷ [] else []

abbrev pub decision_names : Event → Term → List Term
decision_names event t = if decides event.what then branch_condition_named event.value t else []

-- the conditions of an evaluation, and what is named for them
abbrev pub conditions : Event → Symbol → List Term
conditions event s = if event.safe then s.safe ∷ decision event s.term else negation s.safe ∷ []

abbrev pub condition_names : Event → Symbol → List Term
condition_names event s = if event.safe then decision_names event s.term else negation s.safe ∷ []

-- what an evaluation with this value puts out
abbrev pub event_outs : Event → Term → List Term
event_outs event t = if event.safe && puts event.what then t ∷ [] else []

-- an evaluation's symbol, and whether the evaluation is kept
pub record Flagged : Type 0 where
  pub kept : Bool
  pub symbol : Symbol

abbrev pub flagged : List Bool → List Symbol → List Flagged
flagged (b ∷ kept) (s ∷ symbols) = record { kept = b; symbol = s } ∷ flagged kept symbols
flagged _ _ = []

-- what is had of an evaluation that is kept
abbrev pub if_kept : (Event → Symbol → List Term) → Event → Flagged → List Term
if_kept f event x = if x.kept then f event x.symbol else []

-- what is had of each evaluation, one after another
abbrev pub along : {A : Type 0} → (Event → A → List Term) → List Event → List A → List Term
along f (event ∷ events) (x ∷ xs) = f event x ++ along f events xs
along f _ _ = []

-- the symbols at some nodes of values and of safety
abbrev pub symbols_at : List Term → List ℕ → List ℕ → List Symbol
symbols_at terms (v ∷ values) (s ∷ safes) = symbol_at terms (record { value = v; safe = s }) ∷ symbols_at terms values safes
symbols_at terms _ _ = []

-- the 0 at the end of `main`, where more was put out than the evaluations put out
abbrev pub end_by : ℕ → ℕ → List Term
end_by had all = if nat_lt had all then Num (pos 0) ∷ [] else []
