use Rattle.std.proofs.Common.{◌≡◌, ℕ, ◌<◌, false, length}
use Rattle.std.specs.List.{AllByRecursion}
use Rattle.prv_cnf.specs.Places.{place_of}
use Rattle.prv_gate.specs.Occurrences.{is_listed, AreEntered}
use Rattle.prv_gate.proofs.propagator.enter.Given as goal

abbrev pub invariant-loop-number : goal.invariant-loop-number
invariant-loop-number l = record {
  inside : AllByRecursion (AllByRecursion (λ m. place_of m < length l.occurrences)) l.clauses;
  entered : AreEntered l.clauses l.number l.occurrences;
  below : AllByRecursion (λ k. k < l.number) l.numbers.items;
  new : (k : ℕ) → k < l.number → is_listed k l.numbers.items ≡ false → k < l.from;
}
