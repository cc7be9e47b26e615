use Rattle.std.proofs.Common.{List, map, Option, ap, ◌∙◌}
use Rattle.std.proofs.lemmas.Result.{err_from_is_err_and}
use Rattle.prv_model.specs.Numbers.{statements_all}
use Rattle.prv_model.specs.declared.stmt.Stmt.{Stmt}
use Rattle.prv_sym.specs.declared.statements.Evaluation.{Evaluation}
use Rattle.prv_sym.specs.Walks.{own, row_of}
use Rattle.prv_sym.proofs.Walking.{reached-names}
use Rattle.prv_sym.proofs.Along.{reached-start, unnamed, reached-run, names-run}
use Rattle.prv_sym.proofs.evaluations.terms.Goals as goal

pub go_along-requires : goal.go_along-requires
go_along-requires c = c.in_ok-slots.ensures.slots c.args.pool.now.terms

pub returns-in_err-rows-clause-names : goal.returns-in_err-rows-clause-names
returns-in_err-rows-clause-names c = λ x turns told.
    let passed = err_from_is_err_and c.from_residual.result c.from_residual.ensures.1 in
    rw (passed.1, passed.2) (unnamed _ _)

pub returns-in_err-slots-clause-names : goal.returns-in_err-slots-clause-names
returns-in_err-slots-clause-names c = λ x turns told.
    let passed = err_from_is_err_and c.from_residual-in_err-slots.result c.from_residual-in_err-slots.ensures.1 in
    rw (passed.1, passed.2) (unnamed _ _)

pub returns-in_err-go_along-clause-names : goal.returns-in_err-go_along-clause-names
returns-in_err-go_along-clause-names c = λ x turns told.
    let p = c.args.program.now in
    let passed = err_from_is_err_and c.from_residual-in_err-go_along.result c.from_residual-in_err-go_along.ensures.1 in
    let rows = ap (λ (r : List (Option Evaluation)). map row_of r) c.as_slice-3.ensures ∙ c.in_ok-rows.ensures ∙ ap (λ (b : List Stmt). map (λ s. own s) (statements_all b)) c.as_slice.ensures in
    let start = reached-start _ _ p (c.in_ok-slots.ensures.slots _) (c.in_ok-slots.ensures.terms _) c.new.ensures c.new-2.ensures in
    rw (passed.1, passed.2) (names-run p turns x _ _ _ _ _ (c.as_slice-2.ensures ∙ told) rows (c.in_err-go_along.ensures.names _ _ start))

pub returns-clause-values : goal.returns-clause-values
returns-clause-values c = λ x turns told.
    let p = c.args.program.now in
    let rows = ap (λ (r : List (Option Evaluation)). map row_of r) c.as_slice-3.ensures ∙ c.in_ok-rows.ensures ∙ ap (λ (b : List Stmt). map (λ s. own s) (statements_all b)) c.as_slice.ensures in
    let start = reached-start _ _ p (c.in_ok-slots.ensures.slots _) (c.in_ok-slots.ensures.terms _) c.new.ensures c.new-2.ensures in
    (reached-run p turns x _ _ _ _ _ (c.as_slice-2.ensures ∙ told) rows (c.in_ok-go_along.ensures.reached _ _ start)).values

pub returns-clause-safes : goal.returns-clause-safes
returns-clause-safes c = λ x turns told.
    let p = c.args.program.now in
    let rows = ap (λ (r : List (Option Evaluation)). map row_of r) c.as_slice-3.ensures ∙ c.in_ok-rows.ensures ∙ ap (λ (b : List Stmt). map (λ s. own s) (statements_all b)) c.as_slice.ensures in
    let start = reached-start _ _ p (c.in_ok-slots.ensures.slots _) (c.in_ok-slots.ensures.terms _) c.new.ensures c.new-2.ensures in
    (reached-run p turns x _ _ _ _ _ (c.as_slice-2.ensures ∙ told) rows (c.in_ok-go_along.ensures.reached _ _ start)).safes

pub returns-clause-names : goal.returns-clause-names
returns-clause-names c = λ x turns told.
    let p = c.args.program.now in
    let rows = ap (λ (r : List (Option Evaluation)). map row_of r) c.as_slice-3.ensures ∙ c.in_ok-rows.ensures ∙ ap (λ (b : List Stmt). map (λ s. own s) (statements_all b)) c.as_slice.ensures in
    let start = reached-start _ _ p (c.in_ok-slots.ensures.slots _) (c.in_ok-slots.ensures.terms _) c.new.ensures c.new-2.ensures in
    reached-names _ _ _ _ _ (reached-run p turns x _ _ _ _ _ (c.as_slice-2.ensures ∙ told) rows (c.in_ok-go_along.ensures.reached _ _ start))
