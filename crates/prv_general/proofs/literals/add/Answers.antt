use Rattle.std.proofs.Common.{◌≡◌, true, ℕ, List, ◌∷◌, [], ◌++◌, sym, ap, ◌∙◌, subst}
use Rattle.std.specs.Prelude.{filter}
use Rattle.prv_model.specs.declared.term.Term.{Term}
use Rattle.prv_pool.specs.Tables.{term_at}
use Rattle.prv_sym.specs.Calls.{AllStand}
use Rattle.prv_sym.proofs.Naming.{there, stands-at}
use Rattle.prv_general.specs.Slices.{says_something}
use Rattle.prv_general.proofs.Standing.{says-more}
use Rattle.prv_general.proofs.literals.add.Goals as goal

pub returns-in_ok-push : goal.returns-in_ok-push
returns-in_ok-push c = λ ts s.
    let terms = c.args.pool.now.terms in
    let t = term_at terms c.args.node in
    let says : says_something t ≡ true = ap (λ (u : Term). says_something u) (stands-at terms c.args.node _ c.node.ensures.value) ∙ sym (c.says_something.ensures terms) ∙ c.if-says_something.true in
    subst (λ (ns : List ℕ). AllStand terms ns (filter says_something (ts ++ t ∷ []))) (sym c.in_ok-push.ensures.ok)
    (says-more terms c.args.literals.now ts c.args.node t s (there terms c.args.node c.requires) says)
