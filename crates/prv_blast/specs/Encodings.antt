-- The circuit of a condition: each distinct subterm gets bits, and each literal is asserted.
use Rattle.std.specs.Prelude.{ℕ, ◌*◌, List, [], ◌∷◌, ◌++◌, length, map, drop, fold, ℤ, unwrap_or, if◌then◌else◌}
use Rattle.std.specs.Map.{lookup}
use Rattle.prv_model.specs.TermOrder.{same_term}
use Rattle.prv_model.specs.declared.term.Term.{Term, map-Term, out-Term}
use Rattle.prv_model.specs.declared.term.Term.TheOpen.{Term-F}
use Rattle.prv_pool.specs.Tables.{add_term}
use Rattle.prv_bits.specs.Numbers.{bits_of}
use Rattle.prv_gate.specs.Bits.{constant}
use Rattle.prv_gate.specs.Circuits.{Circuit, Run, blank, give}
use Rattle.prv_gate.specs.Assertions.{asserted}
use Rattle.prv_gate.specs.declared.bit.Bit.{Bit}
use Rattle.prv_arith.specs.Words.{op_bits, pick_bits}
use Rattle.prv_blast.specs.Inputs.{param_bits}

-- the terms that have bits, each with its bits, and the circuit that gives them their values
pub record Encoding : Type 0 where
  pub words : List (Term × List Bit)
  pub circuit : Circuit

-- the terms that have bits, in the order in which they got them
abbrev pub encoded : Encoding → List Term
encoded e = map (λ w. w.0) e.words

-- the bits of a term that has some
abbrev pub term_bits : Encoding → Term → List Bit
term_bits e t = unwrap_or (lookup (same_term t) e.words) []

-- the bits of one node, with those of each operand in its place
abbrev pub node_bits : Term-F (List Bit) → Circuit → Run (List Bit)
node_bits (Term-F.Param k) s = give (param_bits k) s
node_bits (Term-F.Op op a b) s = op_bits op a b s
node_bits (Term-F.Pick test chosen other) s = pick_bits test chosen other s
node_bits (Term-F.Num n) s = give (map constant (bits_of n)) s

-- a term whose operands have bits gets its own
abbrev pub with_term : Encoding → Term → Encoding
with_term e t =
    let made = node_bits (map-Term Term (List Bit) (term_bits e) (out-Term t)) e.circuit in
    record { words = e.words ++ (t, made.out) ∷ []; circuit = made.circuit }

-- the subterms of a term that have no bits yet, operands before the term
abbrev pub missing : Encoding → Term → List Term
missing e t = drop (length e.words) (add_term t (encoded e))

-- a term and its subterms have bits
abbrev pub with_terms : Encoding → Term → Encoding
with_terms e t = fold with_term e (missing e t)

-- a term is asserted: one of its bits is set
abbrev pub with_assertion : Encoding → Term → Encoding
with_assertion e t = record e { circuit = asserted (term_bits e t) e.circuit }

-- a literal: it gets bits and is asserted, unless those before it contradict each other
abbrev pub with_literal : Encoding → Term → Encoding
with_literal e t = if e.circuit.is_ended then e else with_assertion (with_terms e t) t

-- before the first literal there are the bits of n parameters
abbrev pub start : ℕ → Encoding
start n = record { words = []; circuit = blank (32 * n) }
