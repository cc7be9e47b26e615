use Rattle.std.proofs.Common.{take, Ok}
use Rattle.std.specs.Prelude.{filter}
use Rattle.prv_sym.specs.Calls.{Names, AllStand}
use Rattle.prv_general.specs.Slices.{says_something}
use Rattle.prv_general.specs.Conditions.{conditions, condition_names, flagged, if_kept, along, symbols_at}
use Rattle.prv_general.proofs.literals.literals.Given as goal

-- the conditions so far are those of the evaluations so far, and these were named
abbrev pub invariant-loop-k : goal.invariant-loop-k
invariant-loop-k l = record {
  stand : AllStand l.pool.terms l.literals (filter says_something (along (if_kept conditions) (take l.k l.events) (flagged l.kept (symbols_at l.initial.pool.terms l.values l.safes))));
  named : Names (along (if_kept condition_names) (take l.k l.events) (flagged l.kept (symbols_at l.initial.pool.terms l.values l.safes))) l.initial.pool l.pool (Ok (tt {0}));
}
