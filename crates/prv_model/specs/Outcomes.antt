-- What a program does on an input, under a bound on its turns.
use Rattle.std.specs.Prelude.{ℕ, ◌-◌, List, [], ◌∷◌, ◌++◌, length, replicate, Option, Some, None, ℤ, pos}
use Rattle.prv_model.specs.Statements.{Frame, Step, exec_all}
use Rattle.prv_model.specs.declared.outcome.Ending.{Ending}
use Rattle.prv_model.specs.declared.outcome.Ending.TheVariants.{Returned}
use Rattle.prv_model.specs.declared.outcome.Outcome.{Outcome}
use Rattle.prv_model.specs.declared.program.Program.{Program}

-- before the run the parameters have the input's words and every other variable has 0
abbrev pub start : Program → ℕ → List ℤ → Frame
start p turns x = record { state = x ++ replicate (length p.names - p.params) (pos 0); outs = []; turns = turns }

-- the end of `main` returns 0 (ISO/IEC 9899:1999, 5.1.2.2.3)
abbrev pub finish : Option Ending → List ℤ → Outcome
finish None outs = record { outs = outs ++ pos 0 ∷ []; how = Returned }
finish (Some how) outs = record { outs = outs; how = how }

abbrev pub outcome_of : Step → Outcome
outcome_of step = finish step.ending step.frame.outs

-- the outcome of a program on an input
abbrev pub outcome : Program → ℕ → List ℤ → Outcome
outcome p turns x = outcome_of (exec_all p.body (start p turns x))
