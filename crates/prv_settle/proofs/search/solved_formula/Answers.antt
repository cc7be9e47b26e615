use Rattle.std.proofs.Common.{Bool, List, arith, subst, sym}
use Rattle.prv_cnf.specs.Models.{IsModel, values_of}
use Rattle.prv_sat.specs.Findings.{IsFound}
use Rattle.prv_settle.proofs.Asking.{few-clauses, few-words, held, spent}
use Rattle.prv_settle.proofs.Numbers.{lines-numbers}
use Rattle.prv_settle.proofs.search.solved_formula.Goals as goal

pub solve_from-requires-clause-few : goal.solve_from-requires-clause-few
solve_from-requires-clause-few c =
    omega (arith, few-clauses c.args.params c.requires.0 c.args.blasted.now c.requires.1, c.args.options.budget)

pub input_of-requires : goal.input_of-requires
input_of-requires c = few-words c.args.params c.requires.0 c.args.blasted.now c.requires.1

pub reason-why-requires : goal.reason-why-requires
reason-why-requires c =
    let found = subst (IsFound c.args.blasted.now.cnf c.args.options.lines 1000000) c.in-Spent.is c.in_ok-values.ensures.found in
    omega (arith, found.0.within, lines-numbers c.in-Spent.log)

pub returns-in_ok-input-in-Values : goal.returns-in_ok-input-in-Values
returns-in_ok-input-in-Values c = λ condition a.
    let found = subst (IsFound c.args.blasted.now.cnf c.args.options.lines 1000000) c.in-Values.is c.in_ok-values.ensures.found in
    let model = subst (λ (vs : List Bool). IsModel (values_of vs) c.args.blasted.now.cnf) (sym c.as_slice.ensures.value) found.1 in
    held c.args.params c.args.options.lines condition c.args.blasted.now (values_of c.as_slice.result.now) c.in_ok-input-in-Values.input a model c.in_ok-input-in-Values.ensures.words c.in_ok-input-in-Values.ensures.input

pub returns-in-Spent : goal.returns-in-Spent
returns-in-Spent c = λ condition a.
    let found = subst (IsFound c.args.blasted.now.cnf c.args.options.lines 1000000) c.in-Spent.is c.in_ok-values.ensures.found in
    spent c.args.params c.args.options.lines condition c.args.blasted.now c.in-Spent.log c.in-Spent.next c.reason-why.result a c.args.options.some c.args.options.budget found.0 found.1 c.reason-why.ensures
