use Rattle.std.proofs.Common.{rules, ◌≡◌, ◌+◌, ◌-◌, arith, sym, ap, subst, ◌∙◌, drop}
use Rattle.prv_parse.specs.Reader.{readers, bind, precedence_of, tail, choice_behind, operand_of, operand_at}
use Rattle.prv_parse.specs.Cursors.{left, read_of, ReadsExpr}
use Rattle.prv_parse.proofs.Steps.{expression-step, operand-step, precedence-step, tail-joined, reads-as, stops-first}
use Rattle.prv_parse.proofs.cursor.Cursor.+expression.Goals as goal

pub expression-returns-in_err-test-clause-reads : goal.expression-returns-in_err-test-clause-reads
expression-returns-in_err-test-clause-reads t c =
    let step = expression-step c.args.room c.args.before (left c.args.self.now) (omega arith) in
    subst (λ o. ReadsExpr o (left c.precedence.new.self) c.from_residual.result) (sym step) (search (rules, stops-first))

pub expression-returns-clause-reads : goal.expression-returns-clause-reads
expression-returns-clause-reads t c =
    reads-as _ _ _ _ (expression-step c.args.room c.args.before (left c.args.self.now) (omega arith)
    ∙ ap (λ o. bind o (λ e r. choice_behind (readers (c.args.room - 1)).expression e r)) c.in_ok-test.ensures.reads) c.choice.ensures.reads

pub operand-returns-in-Sym-clause-reads : goal.operand-returns-in-Sym-clause-reads
operand-returns-in-Sym-clause-reads t c =
    reads-as _ _ _ _ (operand-step c.args.room c.args.before (left c.args.self.now) (omega arith)
    ∙ ap (λ ts. operand_of (readers (c.args.room - 1)).expression (readers (c.args.room - 1)).operand c.args.before ts) c.in-Some.ensures.next
    ∙ ap (λ k. operand_at k c.in-Some.token.now (readers (c.args.room - 1)).expression (readers (c.args.room - 1)).operand c.args.before
    (drop (c.args.self.now.at + 1) c.args.self.now.tokens.now)) c.in-Sym.is) c.symbol_operand.ensures.reads

pub tail-returns-in_err-left-clause-reads : goal.tail-returns-in_err-left-clause-reads
tail-returns-in_err-left-clause-reads t c =
    let next = precedence_of (c.args.precedence - 1) (readers c.args.room).operand in
    let step = tail-joined c.args.precedence next (257 - c.loop-count.count) (read_of c.loop-count.left) c.in-Some.op (left c.loop-count.self)
    (omega arith) (sym c.operator.ensures ∙ c.in-Some.is) in
    subst (λ o. ReadsExpr o (left c.joined.new.self) c.from_residual.result) (sym (c.loop-count.invariant.1 ∙ step)) (search (rules, stops-first))

pub tail-loop-count-preserved : goal.tail-loop-count-preserved
tail-loop-count-preserved t c =
    let next = precedence_of (c.args.precedence - 1) (readers c.args.room).operand in
    let step = tail-joined c.args.precedence next (257 - c.loop-count.count) (read_of c.loop-count.left) c.in-Some.op (left c.loop-count.self)
    (omega arith) (sym c.operator.ensures ∙ c.in-Some.is) in
    let less : (257 - c.loop-count.count) - 1 ≡ 257 - (c.loop-count.count + 1) = omega arith in (
      cc,
      c.loop-count.invariant.1 ∙ step ∙ ap (λ o. bind o (λ e r. tail c.args.precedence next ((257 - c.loop-count.count) - 1) e r)) c.in_ok-left.ensures.reads
          ∙ ap (λ fuel. tail c.args.precedence next fuel (read_of c.in_ok-left.left) (left c.joined.new.self)) less,
    )

pub precedence-returns-in_err-first-clause-reads : goal.precedence-returns-in_err-first-clause-reads
precedence-returns-in_err-first-clause-reads t c =
    let step = precedence-step c.args.precedence (readers c.args.room).operand c.args.before (left c.args.self.now) (omega arith) in
    subst (λ o. ReadsExpr o (left c.precedence.new.self) c.from_residual.result) (sym step) (search (rules, stops-first))

pub precedence-returns-clause-reads : goal.precedence-returns-clause-reads
precedence-returns-clause-reads t c =
    reads-as _ _ _ _ (precedence-step c.args.precedence (readers c.args.room).operand c.args.before (left c.args.self.now) (omega arith)
    ∙ ap (λ o. bind o (λ e r. tail c.args.precedence (precedence_of (c.args.precedence - 1) (readers c.args.room).operand) 257 e r)) c.in_ok-first.ensures.reads) c.tail.ensures.reads
