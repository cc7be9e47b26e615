use Rattle.std.proofs.Common.{◌≡◌, false, List, pos, ap, sym, subst, ◌∙◌, take, arith}
use Rattle.std.proofs.lemmas.List.{take_all}
use Rattle.std.specs.List.{list_any}
use Rattle.std.proofs.lemmas.List.Folds.{list_any_at}
use Rattle.prv_cnf.specs.declared.literal.Lit.{Lit}
use Rattle.prv_cnf.specs.Literals.{has_literal}
use Rattle.prv_check.proofs.Falsifying.{tautology_by_negations}
use Rattle.prv_check.proofs.line.is_tautology.Goals as goal

pub returns-then-makes_true : goal.returns-then-makes_true
returns-then-makes_true c =
    let e = ap (λ (trail : List Lit). list_any (has_literal trail) c.args.lits.now) c.requires.trail ∙ tautology_by_negations c.args.lits.now in
    sym
    (list_any_at (has_literal c.args.assignment.now.trail) c.args.lits.now c.loop-lit.lit-index (record { 0 = pos 0 })
    c.loop-lit-test.true (sym c.makes_true.ensures ∙ c.if-makes_true.true))
    ∙ e

pub returns : goal.returns
returns c =
    let e = ap (λ (trail : List Lit). list_any (has_literal trail) c.args.lits.now) c.requires.trail ∙ tautology_by_negations c.args.lits.now in
    let all : take c.loop-lit.lit-index c.args.lits.now ≡ c.args.lits.now = take_all c.loop-lit.lit-index c.args.lits.now (omega arith) in
    let none : list_any (has_literal c.args.assignment.now.trail) c.args.lits.now ≡ false =
    subst (λ (ls : List Lit). list_any (has_literal c.args.assignment.now.trail) ls ≡ false) all c.loop-lit.invariant in
    sym none ∙ e
