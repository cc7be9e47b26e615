use Rattle.std.proofs.Common.{◌≡◌, ◌<◌, ◌+◌, ◌*◌, ◌^◌, ℕ, [], true, replicate, List, length, sym, subst, refl}
use Rattle.std.proofs.lemmas.List.{append-nil}
use Rattle.std.specs.List.{list_all}
use Rattle.prv_cnf.specs.declared.literal.Lit.{Lit}
use Rattle.prv_check.specs.Lines.{is_within}
use Rattle.prv_propagate.specs.Reasons.{clause_of}
use Rattle.prv_propagate.specs.Loading.{IsLoading}
use Rattle.prv_propagate.proofs.Attaching.{loading_none, formula_within}
use Rattle.prv_propagate.proofs.loading.load.Goals as goal

pub loop-number-init : goal.loop-number-init
loop-number-init c =
    let f = c.args.cnf.now in
    let t = c.args.trail.now in
    let w = c.args.watches.now in
    let few : length f.clauses < 2 ^ 32 = c.requires.few in
    let P : List (List Lit) → Type 0 = λ cs. IsLoading cs 0 t w in
    let within : (k : ℕ) → k < length f.clauses → list_all (is_within t.vars) (clause_of f.clauses k) ≡ true = rw c.requires.vars (formula_within f.vars f.clauses c.clauses-count.ensures.formula.1) in
    let lists : w.lists ≡ replicate (2 * t.vars + 1) [] = rw c.requires.vars c.requires.lists in
    (subst P (sym (append-nil f.clauses)) (loading_none f.clauses t w within few c.requires.steps c.requires.pairs lists), refl)
