-- The text of what a run shows.
use Rattle.std.specs.Prelude.{ℕ, ◌-◌, List, [], ◌++◌, length, take, flat_map, slice_get, unwrap_or, codes}
use Rattle.std.specs.Option.{option_map}
use Rattle.std.specs.Fmt.{signed_decimal}
use Rattle.prv_model.specs.declared.outcome.Outcome.{Outcome}
use Rattle.prv_model.specs.declared.outcome.Ending.{Ending}
use Rattle.prv_model.specs.declared.outcome.Ending.TheVariants.{Returned, Fault, Assert, Long}
use Rattle.prv_text.specs.Lines.{line}

-- what was put out; what was returned is the last of the outs, and is none of it
abbrev pub put_before : {A : Type 0} → Ending → List A → List A
put_before Returned outs = take (length outs - 1) outs
put_before _ outs = outs

-- the text of the last
abbrev pub last_text : {A : Type 0} → (A → List ℕ) → List A → List ℕ
last_text text outs = unwrap_or (option_map text (slice_get outs (length outs - 1))) []

-- how it ended, with the text of what was returned
abbrev pub ending_text : Ending → List ℕ → List ℕ
ending_text Returned returned = codes "returned " ++ returned
ending_text Fault returned = codes "fault"
ending_text Assert returned = codes "assert"
ending_text Long returned = codes "long"

-- a line for each thing that was put out, by its text, and one for the end
abbrev pub end_lines : {A : Type 0} → (A → List ℕ) → Ending → List A → List ℕ
end_lines text how outs = flat_map (λ out. line (codes "out " ++ text out)) (put_before how outs) ++ line (ending_text how (last_text text outs))

-- what a run shows
abbrev pub outcome_text : Outcome → List ℕ
outcome_text o = end_lines signed_decimal o.how o.outs
