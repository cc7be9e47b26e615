-- Where propagation ends, what is known is the closure of what was known at the start.
use Rattle.std.proofs.Common.{◌≡◌, ℕ, ◌+◌, ◌-◌, ◌<◌, ◌≤◌, Bool, true, false, List, Option, length, sym, ◌∙◌, subst, arith}
use Rattle.std.specs.List.{AllByRecursion}
use Rattle.prv_cnf.specs.declared.literal.Lit.{Lit}
use Rattle.prv_cnf.specs.Formulas.{Formula, IsLiteral}
use Rattle.prv_gate.specs.Knowledge.{known_value}
use Rattle.prv_gate.specs.Propagation.{closure, has_conflict}
use Rattle.prv_gate.specs.Examining.{unknown_count, Within, IsReached, Learns}
use Rattle.prv_gate.specs.Occurrences.{IsOpen}
use Rattle.prv_gate.proofs.Reaching.{rounds-up}
use Rattle.prv_gate.proofs.Learning.{open-calm, open-closure, conflict-closure}

module _ (vars : ℕ) (cs : List (List Lit)) (start first found : List (Option Bool)) (size : length first ≡ vars) (inside : AllByRecursion (AllByRecursion (IsLiteral vars)) cs)
    (short : length start ≤ vars) (same : (k : ℕ) → known_value start k ≡ known_value first k) (learns : Learns (record { vars = length first; clauses = cs }) first found) where
  abbrev f : Formula
  f = record { vars = vars; clauses = cs }

  learned : Learns f first found
  learned = subst (λ (n : ℕ). Learns (record { vars = n; clauses = cs }) first found) size learns

  begins-reached : IsReached f start first
  begins-reached calm k x some e = rounds-up f start short 0 (vars + 1 - unknown_count first) (omega arith) k x some (same k ∙ e)

  begins-within : Within start found
  begins-within k x some e = learned.keeps k x some (sym (same k) ∙ e)

  module _ (opened : (k : ℕ) → k < length cs → IsOpen cs found k) where
    -- where all clauses are open they don't contradict each other, and nothing more follows
    pub ends-calm : has_conflict cs (closure f start) ≡ false
    ends-calm = open-calm f inside start found short begins-within opened

    pub ends-closed : found ≡ closure f start
    ends-closed = open-closure f inside start found short begins-within opened (learned.size ∙ size) (learned.reached start short begins-reached)

  -- a contradiction follows from what was known at the start
  pub ends-contradicted : has_conflict cs found ≡ true → has_conflict cs (closure f start) ≡ true
  ends-contradicted conflict = conflict-closure f inside start found short (learned.reached start short begins-reached) conflict
