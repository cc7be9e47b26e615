use Rattle.std.proofs.Common.{◌≡◌, List, ◌++◌, pos, replicate}
use Rattle.prv_model.specs.declared.term.Term.{Term}
use Rattle.prv_model.specs.declared.term.Term.TheVariants.{Num}
use Rattle.prv_sym.specs.Calls.{AreSlots, terms_of}
use Rattle.prv_sym.specs.Symbols.{params_from}
use Rattle.prv_sym.proofs.evaluations.first_slots.Given as goal

-- the parameters so far
abbrev pub invariant-loop-k : goal.invariant-loop-k
invariant-loop-k l = record {
  slots : (terms : List Term) → AreSlots terms l.slots;
  made : (terms : List Term) → terms_of terms l.slots ≡ params_from 0 l.k;
}

-- all parameters, and 0 for each other variable so far
abbrev pub invariant-loop : goal.invariant-loop
invariant-loop l = record {
  slots : (terms : List Term) → AreSlots terms l.slots;
  made : (terms : List Term) → terms_of terms l.slots ≡ params_from 0 l.program.params ++ replicate l.counter (Num (pos 0));
}
