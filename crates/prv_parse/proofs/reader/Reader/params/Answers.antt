use Rattle.std.proofs.Common.{rules, ◌≡◌, ◌+◌, ◌-◌, ◌++◌, ◌∷◌, [], length, drop, arith, sym, ap, subst, ◌∙◌, append_assoc}
use Rattle.prv_parse.specs.Reader.{param, params, params_with, Done}
use Rattle.prv_rule.specs.Skeletons.{kept}
use Rattle.prv_parse.specs.Cursors.{left, StopsBy}
use Rattle.prv_parse.specs.Statements.{ReadsParams, skeleton_in}
use Rattle.prv_parse.specs.MainFunctions.{behind_params}
use Rattle.prv_parse.proofs.ParamSteps.{params-next, params-last, params-stop, params-done}
use Rattle.prv_parse.proofs.reader.Reader.params.Goals as goal

pub returns-in_err-param-clause-reads : goal.returns-in_err-param-clause-reads
returns-in_err-param-clause-reads c =
    let stop : StopsBy (params c.count-count-end.result (left c.args.self.now.cursor)) (left c.param.new.self.cursor) c.in_err-param.field-0.0 =
    params-stop _ (c.count-count-end.result - c.loop-count.count) (left c.loop-count.self.cursor) (left c.param.new.self.cursor) _ _ c.in_err-param.field-0.0
    c.loop-count.invariant.1.2 (omega arith) c.in_err-param.ensures.reads in
    subst (λ n. ReadsParams (params n (left c.args.self.now.cursor)) (left c.param.new.self.cursor) c.args.self.now.skeleton.items c.param.new.self.skeleton.items c.from_residual.result)
    c.count-count-end.ensures (search (rules, stop))

pub returns-in_default-clause-reads : goal.returns-in_default-clause-reads
returns-in_default-clause-reads c =
    let whole = params (length (left c.args.self.now.cursor)) (left c.args.self.now.cursor) in
    let mid = left c.param.new.self.cursor in
    let front = skeleton_in (λ r. r.skeleton) (param (left c.loop-count.self.cursor)) in
    let before = c.loop-count.invariant.1.0 in
    let last = params-last _ (c.count-count-end.result - c.loop-count.count) (left c.loop-count.self.cursor) mid _ c.in_ok-param.param _ front
    c.loop-count.invariant.1.2 (omega arith) c.in_ok-param.ensures.reads.0 c.in_default.ensures.next in
    params-done whole mid _ _ c.from_vec.result (before ++ front)
    (ap (λ n. params n (left c.args.self.now.cursor)) (sym c.count-count-end.ensures) ∙ last
    ∙ ap (λ l. Done (params_with l (before ++ front)) mid) (sym c.in_ok-push.ensures.items ∙ sym c.from_vec.ensures))
    (c.in_ok-param.ensures.reads.1 ∙ ap (λ l. l ++ front) c.loop-count.invariant.1.1 ∙ append_assoc c.args.self.now.skeleton.items before front)

pub loop-count-preserved : goal.loop-count-preserved
loop-count-preserved c =
    let mid = left c.param.new.self.cursor in
    let rest = drop (c.param.new.self.cursor.at + 1) c.param.new.self.cursor.tokens.now in
    let front = skeleton_in (λ r. r.skeleton) (param (left c.loop-count.self.cursor)) in
    let before = c.loop-count.invariant.1.0 in
    let comma = kept c.in-Some.comma.now ∷ [] in
    let less : (c.count-count-end.result - c.loop-count.count) - 1 ≡ c.count-count-end.result - (c.loop-count.count + 1) = omega arith in
    let gone : left c.go_over.new.self.cursor ≡ rest = ap (λ k. drop k c.go_over.new.self.cursor.tokens.now) c.in_ok-go_over.ensures.at
    ∙ ap (λ l. drop (c.param.new.self.cursor.at + 1) l) c.in_ok-go_over.ensures.tokens in
    let next = params-next _ (c.count-count-end.result - c.loop-count.count) (left c.loop-count.self.cursor) mid rest c.in-Some.comma.now _ c.in_ok-param.param _ front
    c.loop-count.invariant.1.2 (omega arith) c.in_ok-param.ensures.reads.0 c.in-Some.ensures.next.0 c.in-Some.ensures.next.1 in (
      cc,
      (
        (before ++ front) ++ comma,
        c.in_ok-go_over.ensures.kept ∙ ap (λ l. l ++ comma) (c.in_ok-param.ensures.reads.1 ∙ ap (λ l. l ++ front) c.loop-count.invariant.1.1 ∙ append_assoc c.args.self.now.skeleton.items before front)
            ∙ append_assoc c.args.self.now.skeleton.items (before ++ front) comma,
        next ∙ ap (λ a. behind_params a ((before ++ front) ++ comma) (params ((c.count-count-end.result - c.loop-count.count) - 1) rest)) (sym c.in_ok-push.ensures.items)
            ∙ ap (λ k. behind_params c.push.new.self.items ((before ++ front) ++ comma) (params k rest)) less
            ∙ ap (λ r. behind_params c.push.new.self.items ((before ++ front) ++ comma) (params (c.count-count-end.result - (c.loop-count.count + 1)) r)) (sym gone),
      ),
    )
