-- How the call that reads a program answers.
use Rattle.std.specs.Prelude.{ℕ, List, ◌++◌, Result}
use Rattle.prv_lex.specs.declared.token.Token.{Token}
use Rattle.prv_parse.specs.Reader.{Out, Done, bind, ReadParams, params_with, ReadProgram}
use Rattle.prv_parse.specs.Statements.{Reads}
use Rattle.prv_parse.specs.declared.main_function.MainFunction.{MainFunction}
use Rattle.prv_rule.specs.declared.skeleton.Skel.{Skel}
use Rattle.prv_parse.specs.declared.tree.Ident.{Ident}
use Rattle.prv_parse.specs.declared.stop.Stop.{Stop}
use Rattle.prv_parse.specs.declared.stop.Stop.TheVariants as stop
use Rattle.prv_parse.specs.declared.error.ParseError.{ParseError}
use Rattle.prv_parse.specs.declared.error.ParseError.TheVariants.{Syntax, Deep, Memory}

-- the parameters behind some that were read, with their skeleton
abbrev pub behind_params : List Ident → List Skel → Out ReadParams → Out ReadParams
behind_params all skeleton out = bind out (λ others rest. Done (params_with (all ++ others.names) (skeleton ++ others.skeleton)) rest)

abbrev pub program_with : MainFunction → List Skel → ReadProgram
program_with m skeleton = record { params = m.params; body = m.body; skeleton = skeleton }

abbrev pub ReadsProgram : Out ReadProgram → List Token → List Skel → List Skel → Result MainFunction Stop → Type 0
ReadsProgram = Reads program_with (λ r. r.skeleton)

-- what a stop at a place means
abbrev pub refusal_of : Stop → ℕ → ParseError
refusal_of stop.Syntax place = Syntax place
refusal_of stop.Depth place = Deep place
refusal_of stop.Operators place = Deep place
refusal_of stop.Memory place = Memory
