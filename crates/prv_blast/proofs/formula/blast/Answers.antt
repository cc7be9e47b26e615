use Rattle.std.proofs.Common.{◌≡◌, ℕ, ◌<◌, ◌≤◌, ◌∙◌, List, length, sym, ap, subst}
use Rattle.std.specs.List.{AllByRecursion}
use Rattle.std.proofs.lemmas.List.{length-map}
use Rattle.prv_model.specs.Terms.{IsTerm}
use Rattle.prv_model.specs.declared.term.Term.{Term, out-Term}
use Rattle.prv_pool.specs.Tables.{term_at}
use Rattle.prv_blast.specs.Subterms.{node_params, most_params, param_count, cost}
use Rattle.prv_blast.specs.Formulas.{StandsFor, IsWithinCost}
use Rattle.prv_blast.specs.Orders.{AreWithin, terms_at}
use Rattle.prv_blast.proofs.Growing.{all-recursive}
use Rattle.prv_blast.proofs.Conditions.{known-all, few-each, cheap-by, stands-by, within-by}
use Rattle.prv_blast.proofs.formula.blast.Goals as goal

pub param_count-params-requires-clause-few : goal.param_count-params-requires-clause-few
param_count-params-requires-clause-few c =
    let terms = c.args.pool.now.terms in
    let roots = c.roots-roots.result.now in
    let known : AllByRecursion (IsTerm 8) (terms_at terms roots) = subst (λ (rs : List ℕ). AllByRecursion (IsTerm 8) (terms_at terms rs)) (sym c.roots-roots.ensures) (known-all terms c.args.cond.now c.requires.params) in
    subst (λ (ts : List Term). AllByRecursion (λ t. node_params (out-Term t) ≤ 8) ts) (sym c.in_ok-order.ensures.terms) (few-each (terms_at terms roots) known)

pub encoded-requires-clause-roots : goal.encoded-requires-clause-roots
encoded-requires-clause-roots c = subst (AreWithin (length c.args.pool.now.terms)) (sym c.roots-roots.ensures) (all-recursive (λ (n : ℕ). n < length c.args.pool.now.terms) c.args.cond.now c.requires.nodes)

pub encoded-requires-clause-known : goal.encoded-requires-clause-known
encoded-requires-clause-known c =
    let terms = c.args.pool.now.terms in
    let roots = c.roots-roots.result.now in
    let known : AllByRecursion (IsTerm 8) (terms_at terms roots) = subst (λ (rs : List ℕ). AllByRecursion (IsTerm 8) (terms_at terms rs)) (sym c.roots-roots.ensures) (known-all terms c.args.cond.now c.requires.params) in
    known

pub returns-clause-stands : goal.returns-clause-stands
returns-clause-stands c =
    let terms = c.args.pool.now.terms in
    let roots = c.roots-roots.result.now in
    let known : AllByRecursion (IsTerm 8) (terms_at terms roots) = subst (λ (rs : List ℕ). AllByRecursion (IsTerm 8) (terms_at terms rs)) (sym c.roots-roots.ensures) (known-all terms c.args.cond.now c.requires.params) in
    let order = c.in_ok-order.ensures.terms in
    let cheap : cost (terms_at terms roots) ≤ 1500000 = cheap-by (terms_at terms roots) (terms_at terms c.in_ok-order.order) c.cost-count.result _ order c.cost-count.ensures (sym (length-map roots (term_at terms))) c.if-count-gt-MAX_CLAUSES.false in
    let params : c.param_count-params.result ≡ param_count (terms_at terms roots) = c.param_count-params.ensures.value ∙ ap most_params order in
    subst (λ (rs : List ℕ). StandsFor c.param_count-params.result c.in_ok-cnf.cnf (terms_at terms rs)) c.roots-roots.ensures (stands-by (terms_at terms roots) c.param_count-params.result c.in_ok-cnf.cnf known cheap params c.in_ok-cnf.ensures)

pub returns-clause-size : goal.returns-clause-size
returns-clause-size c =
    let terms = c.args.pool.now.terms in
    let roots = c.roots-roots.result.now in
    let known : AllByRecursion (IsTerm 8) (terms_at terms roots) = subst (λ (rs : List ℕ). AllByRecursion (IsTerm 8) (terms_at terms rs)) (sym c.roots-roots.ensures) (known-all terms c.args.cond.now c.requires.params) in
    let order = c.in_ok-order.ensures.terms in
    let cheap : cost (terms_at terms roots) ≤ 1500000 = cheap-by (terms_at terms roots) (terms_at terms c.in_ok-order.order) c.cost-count.result _ order c.cost-count.ensures (sym (length-map roots (term_at terms))) c.if-count-gt-MAX_CLAUSES.false in
    let params : c.param_count-params.result ≡ param_count (terms_at terms roots) = c.param_count-params.ensures.value ∙ ap most_params order in
    subst (λ (rs : List ℕ). IsWithinCost c.param_count-params.result c.in_ok-cnf.cnf (terms_at terms rs)) c.roots-roots.ensures (within-by (terms_at terms roots) c.param_count-params.result c.in_ok-cnf.cnf known cheap params c.in_ok-cnf.ensures)
