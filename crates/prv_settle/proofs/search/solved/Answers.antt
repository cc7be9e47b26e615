use Rattle.std.proofs.Common.{ℕ, List, Result, Err, map, ap, subst, sym, ◌∙◌}
use Rattle.prv_model.specs.declared.entry.Reason.TheVariants as r
use Rattle.prv_model.specs.declared.term.Term.{Term}
use Rattle.prv_pool.specs.Tables.{term_at}
use Rattle.prv_blast.specs.declared.error.BlastError.{BlastError}
use Rattle.prv_blast.specs.declared.formula.Blasted.{Blasted}
use Rattle.prv_record.specs.declared.raw.Proof.TheVariants as p
use Rattle.prv_settle.specs.Answers.{IsSearched}
use Rattle.prv_settle.specs.declared.answer.Answer.TheVariants.{Undecided}
use Rattle.prv_settle.proofs.Asking.{all-eight, asked, costly}
use Rattle.prv_settle.proofs.search.solved.Goals as goal

pub blast-requires-clause-params : goal.blast-requires-clause-params
blast-requires-clause-params c = all-eight c.args.params (map (term_at c.args.pool.now.terms) c.args.cond.now) c.requires.condition.words c.requires.condition.params

pub solved_formula-requires : goal.solved_formula-requires
solved_formula-requires c =
    let condition : List Term = map (term_at c.args.pool.now.terms) c.args.cond.now in
    (condition, asked c.args.params condition c.blast.result c.in-Ok.blasted c.in-Ok.is c.requires.condition.words c.requires.condition.params c.requires.unmet c.blast.ensures.formula c.blast.ensures.params c.blast.ensures.costly)

pub returns-in_ok-answer-in-Ok : goal.returns-in_ok-answer-in-Ok
returns-in_ok-answer-in-Ok c =
    let condition : List Term = map (term_at c.args.pool.now.terms) c.args.cond.now in
    c.in_ok-answer-in-Ok.ensures condition
    (asked c.args.params condition c.blast.result c.in-Ok.blasted c.in-Ok.is c.requires.condition.words c.requires.condition.params c.requires.unmet c.blast.ensures.formula c.blast.ensures.params c.blast.ensures.costly)

pub returns-in-Err-Clauses : goal.returns-in-Err-Clauses
returns-in-Err-Clauses c =
    let condition : List Term = map (term_at c.args.pool.now.terms) c.args.cond.now in
    let refused : BlastError → Result Blasted BlastError = λ e. Err e in
    subst (λ (k : ℕ). IsSearched c.args.params c.args.options.lines condition (Undecided (r.Clauses k) p.None)) (sym c.in-Err-Clauses.count-is)
    (costly c.args.params c.args.options.lines condition c.blast.result c.in-Err-Clauses.count (c.in-Err-Clauses.is ∙ ap refused c.in-Err-Clauses.field-0-is) c.requires.unmet c.blast.ensures.costly)
