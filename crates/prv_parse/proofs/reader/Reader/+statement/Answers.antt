use Rattle.std.proofs.Common.{rules, ◌≡◌, ◌+◌, ◌-◌, ◌++◌, [], drop, length, arith, refl, sym, ap, subst, ◌∙◌, append-nil, append_assoc}
use Rattle.prv_parse.specs.Reader.{statements, statement_of, statement_at, block, Done, items, items_with, item_at}
use Rattle.prv_parse.specs.Cursors.{left, StopsBy}
use Rattle.prv_parse.specs.Statements.{ReadsItems, skeleton_in, body_of, body_at}
use Rattle.prv_parse.proofs.StatementSteps.{statement-step, deeper-step, stmt-as, items-done, items-first, items-next, items-stop, items-last, items-end, behind}
use Rattle.prv_parse.proofs.reader.Reader.+statement.Goals as goal

pub items-loop-count-init : goal.items-loop-count-init
items-loop-count-init t c = (
  refl,
  (
    [],
    sym (append-nil _),
    items-first c.args.room (statements c.args.room).here (statements c.args.room).deeper
        c.count-count-end.result (left c.args.self.now.cursor) _ c.new-all.ensures.items,
  ),
)

pub items-returns-in_default-clause-reads : goal.items-returns-in_default-clause-reads
items-returns-in_default-clause-reads t c =
    ap (λ n. items c.args.room (statements c.args.room).here (statements c.args.room).deeper n (left c.args.self.now.cursor)) (sym c.count-count-end.ensures)
    ∙ items-end c.args.room (statements c.args.room).here (statements c.args.room).deeper _ (c.count-count-end.result - c.loop-count.count) (left c.loop-count.self.cursor) _ _
    c.loop-count.invariant.1.2 (omega arith) c.in_default.ensures.next

pub items-returns-then-is-clause-reads : goal.items-returns-then-is-clause-reads
items-returns-then-is-clause-reads t c =
    let whole = items c.args.room (statements c.args.room).here (statements c.args.room).deeper (length (left c.args.self.now.cursor)) (left c.args.self.now.cursor) in
    let closed = items-last c.args.room (statements c.args.room).here (statements c.args.room).deeper _ (c.count-count-end.result - c.loop-count.count)
    (left c.loop-count.self.cursor) _ c.in-Some.token.now _ _ c.loop-count.invariant.1.2 (omega arith) c.in-Some.ensures.next (sym c.is.ensures ∙ c.if-is.true) in
    items-done whole (left c.loop-count.self.cursor) _ _ c.from_vec.result c.loop-count.invariant.1.0
    (ap (λ n. items c.args.room (statements c.args.room).here (statements c.args.room).deeper n (left c.args.self.now.cursor)) (sym c.count-count-end.ensures)
    ∙ closed ∙ ap (λ l. Done (items_with l c.loop-count.invariant.1.0) (left c.loop-count.self.cursor)) (sym c.from_vec.ensures))
    c.loop-count.invariant.1.1

pub items-returns-in_err-item-clause-reads : goal.items-returns-in_err-item-clause-reads
items-returns-in_err-item-clause-reads t c =
    let here = (statements c.args.room).here in
    let deeper = (statements c.args.room).deeper in
    let stop : StopsBy (items c.args.room here deeper c.count-count-end.result (left c.args.self.now.cursor)) (left c.item.new.self.cursor) c.in_err-item.field-0.0 = items-stop c.args.room here deeper _ (c.count-count-end.result - c.loop-count.count) (left c.loop-count.self.cursor) _ (left c.item.new.self.cursor)
    c.in-Some.token.now _ _ c.in_err-item.field-0.0 c.loop-count.invariant.1.2 (omega arith) c.in-Some.ensures.next (sym c.is.ensures ∙ c.if-is.false) c.in_err-item.ensures.reads in
    subst (λ n. ReadsItems (items c.args.room here deeper n (left c.args.self.now.cursor)) (left c.item.new.self.cursor) c.args.self.now.skeleton.items c.item.new.self.skeleton.items c.from_residual.result)
    c.count-count-end.ensures (search (rules, stop))

pub items-loop-count-preserved : goal.items-loop-count-preserved
items-loop-count-preserved t c =
    let here = (statements c.args.room).here in
    let deeper = (statements c.args.room).deeper in
    let less : (c.count-count-end.result - c.loop-count.count) - 1 ≡ c.count-count-end.result - (c.loop-count.count + 1) = omega arith in
    let front = skeleton_in (λ r. r.skeleton) (item_at c.in-Some.token.now.tok c.args.room here deeper c.in-Some.token.now
    (drop (c.loop-count.self.cursor.at + 1) c.loop-count.self.cursor.tokens.now)) in
    let next = items-next c.args.room here deeper _ (c.count-count-end.result - c.loop-count.count) (left c.loop-count.self.cursor) _ (left c.item.new.self.cursor)
    c.in-Some.token.now _ c.in_ok-item.item _ front c.loop-count.invariant.1.2 (omega arith) c.in-Some.ensures.next (sym c.is.ensures ∙ c.if-is.false) c.in_ok-item.ensures.reads.0 in (
      cc,
      (
        c.loop-count.invariant.1.0 ++ front,
        c.in_ok-item.ensures.reads.1 ∙ ap (λ l. l ++ front) c.loop-count.invariant.1.1 ∙ append_assoc c.args.self.now.skeleton.items c.loop-count.invariant.1.0 front,
        next ∙ ap (λ a. behind a (c.loop-count.invariant.1.0 ++ front) (items c.args.room here deeper ((c.count-count-end.result - c.loop-count.count) - 1) (left c.item.new.self.cursor))) (sym c.in_ok-push.ensures.items)
            ∙ ap (λ k. behind c.push.new.self.items (c.loop-count.invariant.1.0 ++ front) (items c.args.room here deeper k (left c.item.new.self.cursor))) less,
      ),
    )

pub marked_body-returns-else-is-clause-reads : goal.marked_body-returns-else-is-clause-reads
marked_body-returns-else-is-clause-reads t c =
    stmt-as _ _ _ _ _ _ (ap (λ ts. body_of c.args.room (statements c.args.room).deeper ts) c.in-Some.ensures.next
    ∙ ap (λ b. body_at b c.args.room (statements c.args.room).deeper c.in-Some.token.now (drop (c.args.self.now.cursor.at + 1) c.args.self.now.cursor.tokens.now)) (sym c.is.ensures ∙ c.if-is.false)
    ∙ ap (λ ts. (statements c.args.room).deeper ts) (sym c.in-Some.ensures.next)
    ∙ deeper-step c.args.room (left c.args.self.now.cursor) (omega arith)) c.statement.ensures.reads

pub statement-returns-in-Name-clause-reads : goal.statement-returns-in-Name-clause-reads
statement-returns-in-Name-clause-reads t c =
    stmt-as _ _ _ _ _ _ (statement-step c.args.room (left c.args.self.now.cursor) (omega arith)
    ∙ ap (λ ts. statement_of c.args.room (statements (c.args.room - 1)).here (block (c.args.room - 1) (statements (c.args.room - 1)).here (statements (c.args.room - 1)).deeper) ts) c.in-Some.ensures.next
    ∙ ap (λ k. statement_at k c.args.room (statements (c.args.room - 1)).here (block (c.args.room - 1) (statements (c.args.room - 1)).here (statements (c.args.room - 1)).deeper)
    c.in-Some.token.now (drop (c.args.self.now.cursor.at + 1) c.args.self.now.cursor.tokens.now)) c.in-Name.is) c.assignment.ensures.reads

pub statement-returns-in-Key-clause-reads : goal.statement-returns-in-Key-clause-reads
statement-returns-in-Key-clause-reads t c =
    stmt-as _ _ _ _ _ _ (statement-step c.args.room (left c.args.self.now.cursor) (omega arith)
    ∙ ap (λ ts. statement_of c.args.room (statements (c.args.room - 1)).here (block (c.args.room - 1) (statements (c.args.room - 1)).here (statements (c.args.room - 1)).deeper) ts) c.in-Some.ensures.next
    ∙ ap (λ k. statement_at k c.args.room (statements (c.args.room - 1)).here (block (c.args.room - 1) (statements (c.args.room - 1)).here (statements (c.args.room - 1)).deeper)
    c.in-Some.token.now (drop (c.args.self.now.cursor.at + 1) c.args.self.now.cursor.tokens.now)) c.in-Key.is) c.keyword_statement.ensures.reads

pub statement-returns-in-Sym-clause-reads : goal.statement-returns-in-Sym-clause-reads
statement-returns-in-Sym-clause-reads t c =
    stmt-as _ _ _ _ _ _ (statement-step c.args.room (left c.args.self.now.cursor) (omega arith)
    ∙ ap (λ ts. statement_of c.args.room (statements (c.args.room - 1)).here (block (c.args.room - 1) (statements (c.args.room - 1)).here (statements (c.args.room - 1)).deeper) ts) c.in-Some.ensures.next
    ∙ ap (λ k. statement_at k c.args.room (statements (c.args.room - 1)).here (block (c.args.room - 1) (statements (c.args.room - 1)).here (statements (c.args.room - 1)).deeper)
    c.in-Some.token.now (drop (c.args.self.now.cursor.at + 1) c.args.self.now.cursor.tokens.now)) c.in-Sym.is) c.symbol_statement.ensures.reads
