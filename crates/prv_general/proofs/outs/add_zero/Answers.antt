use Rattle.std.proofs.Common.{List, ◌∷◌, [], ◌++◌, ℕ, pos, sym, subst}
use Rattle.std.proofs.lemmas.Result.{err_from_is_err_and}
use Rattle.prv_model.specs.declared.term.Term.TheVariants.{Num}
use Rattle.prv_sym.specs.Calls.{AllStand}
use Rattle.prv_sym.proofs.Naming.{names-one, answered, refused, grown}
use Rattle.prv_general.proofs.Making.{then-refused}
use Rattle.prv_general.proofs.Standing.{all-on, all-more}
use Rattle.prv_general.proofs.outs.add_zero.Goals as goal

pub returns-in_err-zero-clause-names : goal.returns-in_err-zero-clause-names
returns-in_err-zero-clause-names c =
    let passed = err_from_is_err_and c.from_residual.result c.from_residual.ensures.1 in
    rw (passed.1, passed.2) (refused _ _ _ _ (names-one _ _ _ _ c.in_err-zero.ensures))

pub returns-in_err-push-clause-names : goal.returns-in_err-push-clause-names
returns-in_err-push-clause-names c =
    let passed = err_from_is_err_and c.from_residual-in_err-push.result c.from_residual-in_err-push.ensures.1 in
    rw (passed.1, passed.2) (then-refused _ _ _ _ (names-one _ _ _ _ c.in_ok-zero.ensures))

pub returns-clause-stands : goal.returns-clause-stands
returns-clause-stands c = λ ts s.
    let m = c.in_ok-zero.ensures in
    subst (λ (ns : List ℕ). AllStand c.num.new.self.terms ns (ts ++ Num (pos 0) ∷ [])) (sym c.in_ok-push.ensures.ok)
    (all-more _ _ ts _ _ (all-on _ _ (grown _ _ _ _ m) _ ts s) m.stands)

pub returns-clause-names : goal.returns-clause-names
returns-clause-names c = answered _ _ _ _ _ (names-one _ _ _ _ c.in_ok-zero.ensures)
