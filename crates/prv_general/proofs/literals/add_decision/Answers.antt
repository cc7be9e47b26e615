use Rattle.std.proofs.Common.{List, ◌∷◌, [], ◌++◌, sym, ap, ◌∙◌, subst}
use Rattle.std.specs.Prelude.{filter}
use Rattle.prv_model.specs.declared.term.Term.{Term}
use Rattle.prv_sym.specs.Calls.{AllStand}
use Rattle.prv_sym.proofs.Naming.{stands-at}
use Rattle.prv_general.specs.Slices.{says_something}
use Rattle.prv_general.proofs.Making.{decision-is}
use Rattle.prv_general.proofs.Standing.{all-on}
use Rattle.prv_general.proofs.literals.add_decision.Goals as goal

pub returns-in_ok-add-clause-stand : goal.returns-in_ok-add-clause-stand
returns-in_ok-add-clause-stand c = λ ts s.
    let terms = c.branch_condition.new.pool.terms in
    let is = stands-at terms c.in_ok-condition.condition _ c.in_ok-condition.ensures.stands in
    subst (λ (us : List Term). AllStand terms c.add.new.literals (filter says_something (ts ++ us)))
    (ap (λ (u : Term). u ∷ []) is ∙ sym (decision-is c.args.event _ (sym c.decides.ensures ∙ c.if-decides.true)))
    (c.in_ok-add.ensures ts (all-on c.args.pool.now.terms terms c.in_ok-condition.ensures.names.kept c.args.literals.now _ s))
