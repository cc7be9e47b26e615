use Rattle.std.proofs.Common.{rules, ◌≡◌, ◌≤◌, List, ℕ, length, map, fold, refl, sym, ap, ◌∙◌, arith, None}
use Rattle.prv_names.specs.declared.said.Said.{Said}
use Rattle.prv_names.specs.Scopes.{start, after, first_fault}
use Rattle.prv_names.specs.Sayings.{said_of}
use Rattle.prv_names.specs.Versions.{variables, numbered, too_many}
use Rattle.prv_names.proofs.VariableLemmas.{params-are-variables, within-limits}
use Rattle.prv_names.proofs.checker.check.Goals as goal

pub returns-clause-version : goal.returns-clause-version
returns-clause-version c =
    let tree = c.args.tree in
    let text : c.as_slice-3.result.now ≡ said_of tree.params tree.body = cc (c.as_slice-3.ensures, c.in_ok-said.ensures, c.as_slice.ensures, c.as_slice-2.ensures) in
    let names : c.in_ok-names.names ≡ variables tree.params tree.body = c.in_ok-names.ensures.names ∙ ap (λ (all : List Said). (fold after start all).declared) text in
    let faults : first_fault start (said_of tree.params tree.body) ≡ None = ap (λ (all : List Said). first_fault start all) (sym text) ∙ c.in_ok-names.ensures.right in
    let none : too_many tree.params tree.body ≡ None = cc (c.limits.ensures, c.in_default.is) in
    record {
      right = rw (faults, none) refl;
      params = search rules;
      names = c.into_items.ensures ∙ names;
      body = c.in_ok-body.ensures.number ∙ ap (λ (all : List (List ℕ)). map (λ s. numbered all s) c.as_slice-4.result.now) names ∙ ap (map (λ s. numbered (variables tree.params tree.body) s)) c.as_slice-4.ensures;
      skeleton = search rules;
      marks = search rules;
    }

pub invariant_of-result : goal.invariant_of-result
invariant_of-result c =
    let tree = c.args.tree in
    let text : c.as_slice-3.result.now ≡ said_of tree.params tree.body = cc (c.as_slice-3.ensures, c.in_ok-said.ensures, c.as_slice.ensures, c.as_slice-2.ensures) in
    let names : c.in_ok-names.names ≡ variables tree.params tree.body = c.in_ok-names.ensures.names ∙ ap (λ (all : List Said). (fold after start all).declared) text in
    let right : first_fault start (said_of tree.params tree.body) ≡ None = ap (λ (all : List Said). first_fault start all) (sym text) ∙ c.in_ok-names.ensures.right in
    let none : too_many tree.params tree.body ≡ None = cc (c.limits.ensures, c.in_default.is) in
    let limits = within-limits tree.params tree.body none in
    let params : length tree.params ≤ length (variables tree.params tree.body) = params-are-variables tree.params tree.body right in
    let given : c.into_items.result ≡ variables tree.params tree.body = c.into_items.ensures ∙ names in
    let count = rw c.as_slice-4.ensures at c.in_ok-body.ensures.count in
    record {
      kept = record {
        some_params = omega (arith, c.len-params.ensures, c.args.tree.kept.some_params);
        few_params = rw c.len-params.ensures limits.0;
        params_named = rw (given, c.len-params.ensures) params;
        few_names = rw given limits.1;
        few_statements = rw count limits.2;
        own_variables = rw c.into_items.ensures c.in_ok-body.ensures.below;
      };
    }

pub number_all-requires-clause-some : goal.number_all-requires-clause-some
number_all-requires-clause-some c =
    let tree = c.args.tree in
    let text : c.as_slice-3.result.now ≡ said_of tree.params tree.body = cc (c.as_slice-3.ensures, c.in_ok-said.ensures, c.as_slice.ensures, c.as_slice-2.ensures) in
    let names : c.in_ok-names.names ≡ variables tree.params tree.body = c.in_ok-names.ensures.names ∙ ap (λ (all : List Said). (fold after start all).declared) text in
    let right : first_fault start (said_of tree.params tree.body) ≡ None = ap (λ (all : List Said). first_fault start all) (sym text) ∙ c.in_ok-names.ensures.right in
    let params : length tree.params ≤ length (variables tree.params tree.body) = params-are-variables tree.params tree.body right in
    rw names (omega (arith, params, c.len-params.ensures, c.args.tree.kept.some_params))
