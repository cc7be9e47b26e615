-- What a call that names terms leaves of the table, and which nodes stand for symbols.
use Rattle.std.specs.Prelude.{◌≡◌, ℕ, ◌<◌, List, [], ◌∷◌, ◌++◌, length, Result, Err, OnOk, Some, slice_get, unwrap_or, map, pos}
use Rattle.prv_model.specs.declared.term.Term.{Term}
use Rattle.prv_model.specs.declared.term.Term.TheVariants.{Param, Num}
use Rattle.prv_pool.specs.Tables.{Table, add_terms, term_at}
use Rattle.prv_pool.specs.declared.error.PoolError.{PoolError}
use Rattle.prv_sym.specs.declared.symbol_nodes.SymbolNodes.{SymbolNodes}
use Rattle.prv_sym.specs.declared.symbol_nodes.Slot.{Slot}
use Rattle.prv_sym.specs.Symbols.{Symbol}
use Rattle.prv_pool.specs.declared.error.PoolError.TheVariants.{Wide}

-- a call names these terms: the table has grown by them and their subterms, as far as it hadn't got them
-- A refusal leaves the table's terms under their numbers, and what the table gained is a beginning of what it would have gained by all of them. It is too small only where it has no room for them.
pub record Names {A : Type 0} (more : List Term) (old new : Table) (result : Result A PoolError) : Type 0 where
  pub grows : OnOk result (new.terms ≡ add_terms old.terms more)
  pub kept : (made : List Term) × (new.terms ≡ old.terms ++ made)
  pub only : (rest : List Term) × (add_terms old.terms more ≡ new.terms ++ rest)
  pub limit : new.max_nodes ≡ old.max_nodes
  pub wide : result ≡ Err Wide → old.max_nodes < length (add_terms old.terms more)

-- a node stands for a term
abbrev pub StandsFor : List Term → ℕ → Term → Type 0
StandsFor terms n t = slice_get terms n ≡ Some t

-- both nodes are of the table
abbrev pub AreIn : List Term → SymbolNodes → Type 0
AreIn terms x = (x.value < length terms) × (x.safe < length terms)

-- the symbol that two nodes stand for
abbrev pub symbol_at : List Term → SymbolNodes → Symbol
symbol_at terms x = record { term = term_at terms x.value; safe = term_at terms x.safe }

-- the term of a variable by its slot
abbrev pub slot_term : List Term → Slot → Term
slot_term terms (Slot.Param k) = Param k
slot_term terms Slot.Zero = Num (pos 0)
slot_term terms (Slot.Node n) = term_at terms n

-- the variables' terms by their slots
abbrev pub terms_of : List Term → List Slot → List Term
terms_of terms slots = map (λ s. slot_term terms s) slots

-- each slot's node is of the table
abbrev pub IsSlot : List Term → Slot → Type 0
IsSlot terms (Slot.Param k) = Unit {0}
IsSlot terms Slot.Zero = Unit {0}
IsSlot terms (Slot.Node n) = n < length terms

abbrev pub AreSlots : List Term → List Slot → Type 0
AreSlots terms [] = Unit {0}
AreSlots terms (slot ∷ slots) = IsSlot terms slot × AreSlots terms slots

-- the term of a variable
abbrev pub variable_term : List Term → ℕ → Term
variable_term env v = unwrap_or (slice_get env v) (Num (pos 0))

-- each node stands for the term at its place
abbrev pub AllStand : List Term → List ℕ → List Term → Type 0
AllStand terms [] [] = Unit {0}
AllStand terms (n ∷ ns) (t ∷ ts) = StandsFor terms n t × AllStand terms ns ts
AllStand terms ns ts = ⊥
