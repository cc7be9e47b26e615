use Rattle.std.proofs.Common.{◌≡◌, ◌<◌, length, drop}
use Rattle.std.specs.List.{AllByRecursion}
use Rattle.prv_cnf.specs.Places.{place_of}
use Rattle.prv_gate.specs.Occurrences.{with_occurrences}
use Rattle.prv_gate.proofs.occurrences.Occurrences.enter.Given as goal

abbrev pub invariant-loop-lit : goal.invariant-loop-lit
invariant-loop-lit l = record {
  inside : AllByRecursion (λ m. place_of m < length l.self) l.lits;
  rest : with_occurrences l.clause l.lits l.initial.self ≡ with_occurrences l.clause (drop l.lit-index l.lits) l.self;
}
