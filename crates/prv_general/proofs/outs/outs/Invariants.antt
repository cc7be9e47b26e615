use Rattle.std.proofs.Common.{List, take}
use Rattle.prv_model.specs.declared.term.Term.{Term}
use Rattle.prv_sym.specs.Calls.{AllStand}
use Rattle.prv_general.specs.Conditions.{along, event_outs}
use Rattle.prv_general.proofs.outs.outs.Given as goal

-- the nodes so far are those of the evaluations so far
abbrev pub invariant-loop-k : goal.invariant-loop-k
invariant-loop-k l = (terms ts : List Term) → AllStand terms l.values ts → AllStand terms l.outs (along event_outs (take l.k l.events) ts)
