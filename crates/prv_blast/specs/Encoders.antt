-- What the code keeps of the terms that have bits. No public contract names it.
use Rattle.std.specs.Prelude.{◌≡◌, ℕ, ◌+◌, ◌*◌, ◌≤◌, ◌<◌, nat_eq, Bool, List, [], ◌++◌, length, map, zip, Option, Some, option_map, position, unwrap_or, slice_get}
use Rattle.std.specs.List.{AllByRecursion}
use Rattle.std.specs.Option.{option_and_then}
use Rattle.prv_model.specs.Words.{IsWord}
use Rattle.prv_model.specs.Terms.{term_value}
use Rattle.prv_model.specs.declared.term.Term.{Term, out-Term}
use Rattle.prv_model.specs.declared.term.Term.TheOpen.{Term-F}
use Rattle.prv_cnf.specs.Models.{IsModel}
use Rattle.prv_cnf.specs.declared.formula.TheConstants.{MAX_VARS}
use Rattle.prv_bits.specs.Numbers.{bits_of}
use Rattle.prv_gate.specs.Bits.{constant}
use Rattle.prv_gate.specs.Circuits.{Circuit, Run, IsCircuit, give}
use Rattle.prv_gate.specs.declared.bit.Bit.{Bit}
use Rattle.prv_arith.specs.Lists.{AllBits}
use Rattle.prv_arith.specs.Costs.{op_cost, pick_cost}
use Rattle.prv_arith.specs.Words.{word_value, op_bits, pick_bits}
use Rattle.prv_arith.specs.declared.words.Word.{Word}
use Rattle.prv_pool.specs.Tables.{Table, IsTable, term_at, add_term}
use Rattle.prv_pool.specs.declared.node.Node.{Node}
use Rattle.prv_pool.specs.declared.node.Node.TheVariants.{Param, Num, Op, Pick}
use Rattle.prv_blast.specs.Inputs.{param_bits, input_at}
use Rattle.prv_blast.specs.Subterms.{costs}
use Rattle.prv_blast.specs.Encodings.{Encoding, encoded, missing}
use Rattle.prv_blast.specs.Orders.{AreWithin, terms_at, operands}

-- the words of the first nodes of an order, beside their terms, and a circuit
abbrev pub encoding_at : List Term → List ℕ → List Word → Circuit → Encoding
encoding_at table nodes words circuit = record { words = zip (terms_at table nodes) (map (λ w. w.bits) words); circuit = circuit }

-- a node has a word: it is one of the first so many
abbrev pub HasWord : List ℕ → ℕ → ℕ → Type 0
HasWord nodes count n = (i : ℕ) × (position (nat_eq n) nodes ≡ Some i) × (i < count)

-- the bits of a node that has a word
abbrev pub bits_at : List ℕ → List Word → ℕ → List Bit
bits_at nodes words n = unwrap_or (option_map (λ w. w.bits) (option_and_then (slice_get words) (position (nat_eq n) nodes))) []

-- the bits of a node, by those of its operands
abbrev pub node_run : Node → (ℕ → List Bit) → Circuit → Run (List Bit)
node_run (Param k) bits s = give (param_bits k) s
node_run (Num n) bits s = give (map constant (bits_of n)) s
node_run (Op op a b) bits s = op_bits op (bits a) (bits b) s
node_run (Pick test chosen other) bits s = pick_bits (bits test) (bits chosen) (bits other) s

-- the most variables of a node
abbrev pub run_cost : Node → ℕ
run_cost (Param k) = 0
run_cost (Num n) = 0
run_cost (Op op a b) = op_cost op
run_cost (Pick test chosen other) = pick_cost

-- how many parameters a node asks for
abbrev pub run_params : Node → ℕ
run_params (Param k) = k + 1
run_params (Num n) = 0
run_params (Op op a b) = 0
run_params (Pick test chosen other) = 0

-- the bits of a node's operands are of the circuit, which has room for the node
pub record CanRun (node : Node) (bits : ℕ → List Bit) (s : Circuit) : Type 0 where
  pub inside : AllByRecursion (λ n. AllBits s.formula.vars (bits n)) (operands node)
  pub room : s.formula.vars + run_cost node ≤ MAX_VARS

-- the bits beside a term are 32 bits of the circuit, and in each model they are the term's value on the model's input
pub record IsWordOf (n : ℕ) (s : Circuit) (w : Term × List Bit) : Type 0 where
  pub width : length w.1 ≡ 32
  pub inside : AllBits s.formula.vars w.1
  pub value : (v : ℕ → Bool) → IsModel v s.formula → word_value v w.1 ≡ term_value w.0 (input_at n v)

abbrev pub AreWords : ℕ → Circuit → List (Term × List Bit) → Type 0
AreWords n s ws = AllByRecursion (IsWordOf n s) ws

-- a parameter below n, a number that is a word, or an operator
abbrev pub IsPlain : ℕ → Term-F Term → Type 0
IsPlain n (Term-F.Param k) = k < n
IsPlain n (Term-F.Op op a b) = Unit {0}
IsPlain n (Term-F.Pick c a b) = Unit {0}
IsPlain n (Term-F.Num z) = IsWord z

-- A root can be encoded: the order goes on with those of its subterms that have no bits yet, the bits of
-- the others are their values, and the circuit has room.
pub record CanEncode (table : Table) (nodes : List ℕ) (root : ℕ) (e : Encoding) : Type 0 where
  pub kept : IsTable table
  pub within : AreWithin (length table.terms) nodes
  pub root_within : root < length table.terms
  pub later : List Term
  pub order : terms_at table.terms nodes ≡ add_term (term_at table.terms root) (encoded e) ++ later
  pub params : ℕ
  pub plain : AllByRecursion (λ t. IsPlain params (out-Term t)) (terms_at table.terms nodes)
  pub circuit : IsCircuit e.circuit
  pub inputs : 32 * params ≤ e.circuit.formula.vars
  pub words : AreWords params e.circuit e.words
  pub room : e.circuit.formula.vars + costs (missing e (term_at table.terms root)) ≤ MAX_VARS
