use Rattle.std.proofs.Common.{◌≡◌, ◌<◌, ℕ, [], true, List, length, sym, ap, ◌∙◌, get_or, arith}
use Rattle.std.specs.Prelude.{slice_index_or}
use Rattle.std.proofs.lemmas.List.{length-map, get_or-map}
use Rattle.std.proofs.lemmas.List.Folds.{list_any_at}
use Rattle.prv_cnf.specs.declared.literal.Lit.{Lit}
use Rattle.prv_cnf.specs.Literals.{negate, has_literal}
use Rattle.prv_check.specs.Lines.{known, clauses_at}
use Rattle.prv_check.proofs.lean.negation_stands_in.Goals as goal

pub returns-then-has_negation : goal.returns-then-has_negation
returns-then-has_negation c =
    let cs : List (List Lit) = known c.args.cnf.now c.args.earlier.now in
    let hints : List ℕ = c.args.hints.now in
    let i : ℕ = c.loop-hint.hint-index in
    let read : ℕ → List Lit = λ n. slice_index_or cs n [] in
    let has : List Lit → _ = λ d. has_literal d (negate c.args.lit) in
    let inside : i < length (clauses_at cs hints) = omega (arith, length-map hints read) in
    let there : has (get_or (clauses_at cs hints) i []) ≡ true =
    ap has (get_or-map read hints i 0 [] c.loop-hint-test.true ∙ sym c.clause_at.ensures) ∙ sym c.has_negation.ensures ∙ c.if-has_negation.true in
    sym (list_any_at has (clauses_at cs hints) i [] inside there)
