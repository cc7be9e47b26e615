-- How many numbers the log has that a search gives.
use Rattle.std.proofs.Common.{ℕ, ◌-◌, ◌≤◌, List, length, take, None, Some, arith}
use Rattle.std.specs.List.{AllByRecursion}
use Rattle.std.proofs.lemmas.List.{length-take}
use Rattle.prv_model.specs.Terms.{IsTerm}
use Rattle.prv_model.specs.declared.entry.Reason.{Reason}
use Rattle.prv_model.specs.declared.entry.Reason.TheVariants as r
use Rattle.prv_model.specs.declared.term.Term.{Term}
use Rattle.prv_blast.specs.Formulas.{formula}
use Rattle.prv_blast.specs.Subterms.{cost}
use Rattle.prv_blast.proofs.Standing.{formula-within, params-least}
use Rattle.prv_check.specs.LogLines.{LogLine}
use Rattle.prv_check.specs.Spending.{IsSpent}
use Rattle.prv_check.proofs.Bounding.{accepted_numbers}
use Rattle.prv_check.proofs.Spending.{few_numbers}
use Rattle.prv_record.specs.Payloads.{proof_length}
use Rattle.prv_record.specs.declared.raw.Proof.{Proof}
use Rattle.prv_record.specs.declared.raw.Proof.TheVariants as p
use Rattle.prv_settle.specs.Answers.{Explains}
use Rattle.prv_settle.specs.Grounds.{IsRefuted}
use Rattle.prv_settle.specs.Supported.{proof_numbers}
use Rattle.prv_settle.proofs.Fronts.{all-wider}
use Rattle.prv_settle.proofs.Learning.{long-log}
use Rattle.prv_settle.proofs.Numbers.{lines-numbers}

module _ (n : ℕ) (condition : List Term) (words : n ≤ 8) (known : AllByRecursion (IsTerm n) condition) where
  -- the formula of a condition that is within the limit on its cost
  few-known : cost condition ≤ 1500000 → (length (formula condition).clauses ≤ 1500000) × ((formula condition).vars ≤ 1500256)
  few-known cheap =
      let size = formula-within condition (all-wider n 8 words condition known) cheap in
      let least = params-least n condition known in
      (omega (arith, size.clauses, cheap), omega (arith, size.variables, cheap, least, words))

  -- each line but the last takes at least two numbers, and the last one names each clause at most once
  pub refuted-short : (log : List LogLine) → IsRefuted condition log → proof_length (p.Log log) ≤ 16960004
  refuted-short log h =
      let few = few-known h.cheap in
      let front = lines-numbers (take (length log - 1) log) in
      omega (arith, few.0, accepted_numbers (formula condition) log h.accepted h.distinct, front, length-take (length log - 1) log, h.few_numbers)

  -- each line takes at least five numbers, and the next one names each variable and each clause at most once
  next-short : (log : List LogLine) (next : LogLine) (lines : ℕ) → cost condition ≤ 1500000 → IsSpent (formula condition) log (Some next) lines 1000000 → proof_length (p.Spent log (Some next)) ≤ 16960004
  next-short log next lines cheap h =
      let few = few-known cheap in
      omega (arith, few.0, few.1, h.within, long-log (formula condition) log h.learnt, few_numbers (formula condition) log next h.reached.0)

  pub explained-short : (why : Reason) (proof : Proof) → Explains condition why proof → proof_length proof ≤ 16960004
  explained-short (r.Lines budget) p.None h = absurd h
  explained-short (r.Lines budget) (p.Log log) h = absurd h
  explained-short (r.Lines budget) (p.Spent log None) h = omega (arith, h.3.within)
  explained-short (r.Lines budget) (p.Spent log (Some next)) h = absurd h
  explained-short (r.Numbers lines) p.None h = absurd h
  explained-short (r.Numbers lines) (p.Log log) h = absurd h
  explained-short (r.Numbers lines) (p.Spent log None) h = absurd h
  explained-short (r.Numbers lines) (p.Spent log (Some next)) h = next-short log next lines h.1 h.2
  explained-short (r.Clauses count) p.None h = omega arith
  explained-short (r.Clauses count) (p.Log log) h = absurd h
  explained-short (r.Clauses count) (p.Spent log next) h = absurd h
  explained-short r.Wide proof h = absurd h
  explained-short r.Literals proof h = absurd h

-- a proof has no more numbers than bytes
pub numbers-bytes : (proof : Proof) → proof_numbers proof ≤ proof_length proof
numbers-bytes p.None = omega arith
numbers-bytes (p.Log log) = omega arith
numbers-bytes (p.Spent log next) = omega arith
