use Rattle.std.proofs.Common.{rules, ◌≡◌, ◌≤◌, ◌+◌, List, ◌∷◌, length, arith, refl, sym, ap, ◌∙◌, Option, Some, None, subst, FitsSigned, drop, true, ℕ}
use Rattle.std.proofs.lemmas.List.{drop_more}
use Rattle.std.specs.Int.{w32}
use denote.Param.Weighed.{most, at_most}
use Rattle.prv_model.specs.Words.{is_zero}
use Rattle.prv_model.specs.Programs.{stmt_over}
use Rattle.prv_model.specs.Expressions.{value}
use Rattle.prv_model.specs.Numbers.{statements, statements_all}
use Rattle.prv_model.specs.Statements.{Frame, Step, exec, exec_all, and_then, goes, spend}
use Rattle.prv_model.specs.declared.outcome.Ending.{Ending}
use Rattle.prv_model.specs.declared.stmt.Stmt.{Stmt, the_lemmas}
use Rattle.prv_model.specs.declared.stmt.Stmt.TheVariants.{Skip, If}
use Rattle.prv_model.proofs.stmt.Stmt.TheLaws.{the_size}
use Rattle.prv_model.proofs.WordLemmas.{is_zero-bits}
use Rattle.prv_run.specs.declared.event.Event.{Event}
use Rattle.prv_run.specs.declared.record.Recorder.{Recorder}
use Rattle.prv_run.specs.Frames.{frame_of, step_of}
use Rattle.prv_run.specs.Runs.{Run, runs, runs_all, events}
use Rattle.prv_run.specs.Telling.{tell, Knows}
use Rattle.prv_run.proofs.RunLaws.{runs-Skip, runs-Return, runs-Out, runs-Block, runs-Marked, runs-While}
use Rattle.prv_run.proofs.Steps.{all_true-at, none-is, some-is}
use Rattle.prv_run.proofs.Tellings.{knows-on, agrees-on, knows-front, knows-behind, tell-nothing, tell-agrees}
use Rattle.prv_run.proofs.ToldLaws.{knows-If, knows-While, knows-Block, knows-Marked, told-fault, told-then, told-else, told-next, told-turn, told-ending, loop-left, loop-done, loop-long, loop-ending}
use Rattle.prv_run.proofs.execute.+execute.Goals as goal

-- what the statement of a variant is told of
as_run : (r0 r1 : Recorder) (s s' : Stmt) (k : ℕ) (f : Frame) (run : Run) → s ≡ s' → runs s' k f ≡ run → r1 ≡ tell r0 (events run) → r1 ≡ tell r0 (events (runs s k f))
as_run r0 r1 s s' k f run is law told = told ∙ ap (λ (q : Run). tell r0 (events q)) (sym law) ∙ ap (λ (x : Stmt). tell r0 (events (runs x k f))) (sym is)

as_stmt : (r0 r1 : Recorder) (s s' : Stmt) (k : ℕ) (f : Frame) → s ≡ s' → r1 ≡ tell r0 (events (runs s' k f)) → r1 ≡ tell r0 (events (runs s k f))
as_stmt r0 r1 s s' k f is told = told ∙ ap (λ (x : Stmt). tell r0 (events (runs x k f))) (sym is)

-- what a recorder knows of the statement of a variant
known_as : (r : Recorder) (k : ℕ) (s s' : Stmt) → s ≡ s' → Knows r k (statements s) → Knows r k (statements s')
known_as r k s s' is known = subst (λ (x : Stmt). Knows r k (statements x)) is known

pub execute-execute-requires : goal.execute-execute-requires
execute-execute-requires t c =
    let whole = If c.in-If.test c.in-If.yes c.in-If.no in
    let known = knows-on _ _ _ c.args.number (statements whole) c.in_ok-found-in-If.ensures.told (known_as _ _ _ whole c.in-If.is c.requires.known) in
    let inner = knows-front _ _ _ _ (knows-If _ c.args.number _ _ _ _ known (c.inside-first.ensures whole known)) in
    (search (rules, the_lemmas), (search (rules, the_lemmas), subst (λ (s : Stmt). Knows c.evaluate.new.self c.inside-first.result (statements s)) (sym c.get.ensures) inner))

pub execute-execute_else-requires : goal.execute-execute_else-requires
execute-execute_else-requires t c =
    let whole = If c.in-If.test c.in-If.yes c.in-If.no in
    let known = knows-on _ _ _ c.args.number (statements whole) c.in_ok-found-in-If.ensures.told (known_as _ _ _ whole c.in-If.is c.requires.known) in
    let inner = knows-If _ c.args.number _ _ _ _ known (c.inside-first.ensures whole known) in
    let behind = knows-behind _ _ c.behind-second.result c.in-If.yes _ inner (c.behind-second.ensures c.in-If.yes (knows-front _ _ _ _ inner)) in
    (search (rules, the_lemmas), (search (rules, the_lemmas), behind))

pub execute-returns-in-None-clause-told : goal.execute-returns-in-None-clause-told
execute-returns-in-None-clause-told t c =
    let found : value c.in-If.test c.args.frame.now.state ≡ None = rw (← c.as_slice.ensures) (sym c.in_ok-found-in-If.ensures.value ∙ c.in-None.is) in
    as_stmt _ _ _ _ _ _ c.in-If.is (told-fault _ _ _ _ _ c.args.number (frame_of c.args.frame.now) found (rw c.as_slice.ensures at c.in_ok-found-in-If.ensures.told))

pub execute-returns-in_ok-ending-in-Some-clause-told : goal.execute-returns-in_ok-ending-in-Some-clause-told
execute-returns-in_ok-ending-in-Some-clause-told t c =
    let whole = If c.in-If.test c.in-If.yes c.in-If.no in
    let known = knows-on _ _ _ c.args.number (statements whole) c.in_ok-found-in-If.ensures.told (known_as _ _ _ whole c.in-If.is c.requires.known) in
    let found : value c.in-If.test c.args.frame.now.state ≡ Some c.in-Some.n = rw (← c.as_slice.ensures) (sym c.in_ok-found-in-If.ensures.value ∙ c.in-Some.is) in
    let fits : FitsSigned w32 c.in-Some.n = search rules in
    as_stmt _ _ _ _ _ _ c.in-If.is
    (told-then _ _ _ _ _ _ c.args.number c.inside-first.result (frame_of c.args.frame.now) c.in-Some.n found (is_zero-bits c.in-Some.n fits.sfits c.if-n-ne0.true)
    (rw c.as_slice.ensures at c.in_ok-found-in-If.ensures.told) (c.inside-first.ensures whole known) (rw c.get.ensures at c.in_ok-ending-in-Some.ensures.told))

pub execute-returns-in_ok-ending-in-Some-2-clause-told : goal.execute-returns-in_ok-ending-in-Some-2-clause-told
execute-returns-in_ok-ending-in-Some-2-clause-told t c =
    let whole = If c.in-If.test c.in-If.yes c.in-If.no in
    let known = knows-on _ _ _ c.args.number (statements whole) c.in_ok-found-in-If.ensures.told (known_as _ _ _ whole c.in-If.is c.requires.known) in
    let inner = knows-If _ c.args.number _ _ _ _ known (c.inside-first.ensures whole known) in
    let found : value c.in-If.test c.args.frame.now.state ≡ Some c.in-Some.n = rw (← c.as_slice.ensures) (sym c.in_ok-found-in-If.ensures.value ∙ c.in-Some.is) in
    let zeroed : is_zero c.in-Some.n ≡ true = search rules in
    as_stmt _ _ _ _ _ _ c.in-If.is
    (told-else _ _ _ _ _ _ c.args.number c.inside-first.result c.behind-second.result (frame_of c.args.frame.now) c.in-Some.n found zeroed
    (rw c.as_slice.ensures at c.in_ok-found-in-If.ensures.told)
    (c.inside-first.ensures whole known) (c.behind-second.ensures c.in-If.yes (knows-front _ _ _ _ inner)) c.in_ok-ending-in-Some-2.ensures.told)

pub execute-execute_all-requires : goal.execute-execute_all-requires
execute-execute_all-requires t c =
    let known = known_as _ _ _ _ c.in-Block.is c.requires.known in (
      search (rules, the_lemmas),
      (
        search (rules, the_lemmas),
        subst (λ (all : List Stmt). Knows c.args.recorder.now c.inside.result (statements_all all)) (sym c.as_slice-in-Block.ensures)
            (knows-Block _ c.args.number _ _ known (c.inside.ensures _ known)),
      ),
    )

pub execute-execute-requires-in-Marked : goal.execute-execute-requires-in-Marked
execute-execute-requires-in-Marked t c =
    let known = known_as _ _ _ _ c.in-Marked.is c.requires.known in (
      search (rules, the_lemmas),
      (
        search (rules, the_lemmas),
        subst (λ (s : Stmt). Knows c.args.recorder.now c.inside-in-Marked.result (statements s)) (sym c.get-in-Marked.ensures)
            (knows-Marked _ c.args.number _ c.in-Marked.mark _ known (c.inside-in-Marked.ensures _ known)),
      ),
    )

pub execute-returns-in-Skip-clause-told : goal.execute-returns-in-Skip-clause-told
execute-returns-in-Skip-clause-told t c = as_run _ _ _ Skip _ _ _ c.in-Skip.is (runs-Skip c.args.number (frame_of c.args.frame.now)) (sym (tell-nothing _))

pub execute-returns-in_ok-ending-in-Return-clause-told : goal.execute-returns-in_ok-ending-in-Return-clause-told
execute-returns-in_ok-ending-in-Return-clause-told t c = as_run _ _ _ _ _ _ _ c.in-Return.is (runs-Return c.in-Return.value c.args.number (frame_of c.args.frame.now)) c.in_ok-ending-in-Return.ensures.told

pub execute-returns-in_ok-ending-in-Out-clause-told : goal.execute-returns-in_ok-ending-in-Out-clause-told
execute-returns-in_ok-ending-in-Out-clause-told t c = as_run _ _ _ _ _ _ _ c.in-Out.is (runs-Out c.in-Out.value c.args.number (frame_of c.args.frame.now)) c.in_ok-ending-in-Out.ensures.told

pub execute-returns-in_ok-ending-in-Block-clause-told : goal.execute-returns-in_ok-ending-in-Block-clause-told
execute-returns-in_ok-ending-in-Block-clause-told t c =
    let known = known_as _ _ _ _ c.in-Block.is c.requires.known in
    as_run _ _ _ _ _ _ _ c.in-Block.is (runs-Block c.in-Block.all c.args.number (frame_of c.args.frame.now))
    ((rw c.as_slice-in-Block.ensures at c.in_ok-ending-in-Block.ensures.told) ∙ tell-agrees _ (λ k. events (runs_all c.in-Block.all k (frame_of c.args.frame.now))) _ _ (c.inside.ensures _ known))

pub execute-returns-in_ok-ending-in-Marked-clause-told : goal.execute-returns-in_ok-ending-in-Marked-clause-told
execute-returns-in_ok-ending-in-Marked-clause-told t c =
    let known = known_as _ _ _ _ c.in-Marked.is c.requires.known in
    as_run _ _ _ _ _ _ _ c.in-Marked.is (runs-Marked c.in-Marked.mark c.in-Marked.body c.args.number (frame_of c.args.frame.now))
    ((rw c.get-in-Marked.ensures at c.in_ok-ending-in-Marked.ensures.told) ∙ tell-agrees _ (λ k. events (runs c.in-Marked.body k (frame_of c.args.frame.now))) _ _ (c.inside-in-Marked.ensures _ known))

pub execute_all-execute-requires : goal.execute_all-execute-requires
execute_all-execute-requires t c =
    let l = c.loop-stmt in
    let all = c.args.all.now in
    let stmt = c.stmt-item.result in
    let smaller : the_size stmt ≤ most (λ y. the_size y) all =
    subst (λ (y : Stmt). the_size y ≤ most (λ z. the_size z) all) (sym c.stmt-item.is) (at_most (λ z. the_size z) all l.stmt-index stmt (omega arith)) in
    let next : drop l.stmt-index all ≡ stmt ∷ drop (l.stmt-index + 1) all = drop_more all l.stmt-index stmt c.loop-stmt-test.true ∙ ap (λ (s : Stmt). s ∷ drop (l.stmt-index + 1) all) (sym c.stmt-item.is) in (
      search rules,
      (
        rw l.invariant.variables (all_true-at (λ s. stmt_over (length c.args.frame.now.state) s) all l.stmt-index stmt c.requires.over c.loop-stmt-test.true c.stmt-item.is),
        knows-front _ _ (statements stmt) _ (subst (λ (rest : List Stmt). Knows l.recorder l.next (statements_all rest)) next l.invariant.known),
      ),
    )

pub execute_all-loop-stmt-preserved : goal.execute_all-loop-stmt-preserved
execute_all-loop-stmt-preserved t c =
    let l = c.loop-stmt in
    let all = c.args.all.now in
    let stmt = c.stmt-item.result in
    let next : drop l.stmt-index all ≡ stmt ∷ drop (l.stmt-index + 1) all = drop_more all l.stmt-index stmt c.loop-stmt-test.true ∙ ap (λ (s : Stmt). s ∷ drop (l.stmt-index + 1) all) (sym c.stmt-item.is) in
    let going : c.in_ok-ending.ending ≡ None = none-is _ (sym c.if-is_some.ensures) in
    let done : exec stmt (frame_of l.frame) ≡ goes (frame_of c.execute.new.frame) = rw (← going) c.in_ok-ending.ensures.done in
    let before = subst (λ (rest : List Stmt). Knows l.recorder l.next (statements_all rest)) next l.invariant.known in
    let known = knows-on _ _ _ _ _ c.in_ok-ending.ensures.told before in
    let agrees = c.behind-next.ensures stmt (knows-front _ _ (statements stmt) _ known) in
    record {
      same = sym (ap (λ (rest : List Stmt). exec_all rest (frame_of l.frame)) next ∙ ap (λ (step : Step). and_then step (λ g. exec_all (drop (l.stmt-index + 1) all) g)) done) ∙ l.invariant.same;
      told = told-next _ _ stmt _ _ _ (frame_of l.frame) _ done c.in_ok-ending.ensures.told agrees
          ∙ ap (λ (rest : List Stmt). tell l.recorder (events (runs_all rest l.next (frame_of l.frame)))) (sym next) ∙ l.invariant.told;
      known = knows-behind _ _ _ stmt _ known agrees;
      spent = omega arith;
      variables = c.execute.ensures.variables ∙ l.invariant.variables;
    }

pub repeat-loop-found-init : goal.repeat-loop-found-init
repeat-loop-found-init t c = record {
  same = (c.args.frame.now.turns, omega arith, refl, refl);
  known = knows-While _ c.args.number _ c.args.test.now _ c.requires.known (c.inside-first.ensures _ c.requires.known);
  agrees = c.inside-first.ensures _ c.requires.known;
  spent = omega arith;
  variables = refl;
}

pub repeat-returns-in-None-clause-told : goal.repeat-returns-in-None-clause-told
repeat-returns-in-None-clause-told t c =
    let l = c.loop-found in
    let found : value c.args.test.now l.frame.state ≡ None = rw (← c.as_slice.ensures) (sym c.in_ok-found.ensures.value ∙ c.in-None.is) in
    (rw c.as_slice.ensures at c.in_ok-found.ensures.told)
    ∙ ap (λ (es : List Event). tell l.recorder es) (sym (loop-left c.args.number c.args.test.now (λ f. exec c.args.body.now f) (runs c.args.body.now (c.args.number + 1)) l.invariant.same.0 (frame_of l.frame) found))
    ∙ l.invariant.same.3
    ∙ ap (λ (run : Run). tell c.args.recorder.now (events run)) (sym (runs-While c.args.test.now c.args.body.now c.args.number (frame_of c.args.frame.now)))

pub repeat-returns-then-n-eq0-clause-told : goal.repeat-returns-then-n-eq0-clause-told
repeat-returns-then-n-eq0-clause-told t c =
    let l = c.loop-found in
    let found : value c.args.test.now l.frame.state ≡ Some c.in-Some.n = rw (← c.as_slice.ensures) (sym c.in_ok-found.ensures.value ∙ c.in-Some.is) in
    let zeroed : is_zero c.in-Some.n ≡ true = search rules in
    (rw c.as_slice.ensures at c.in_ok-found.ensures.told)
    ∙ ap (λ (es : List Event). tell l.recorder es) (sym (loop-done c.args.number c.args.test.now (λ f. exec c.args.body.now f) (runs c.args.body.now (c.args.number + 1)) l.invariant.same.0 (frame_of l.frame) c.in-Some.n found zeroed))
    ∙ l.invariant.same.3
    ∙ ap (λ (run : Run). tell c.args.recorder.now (events run)) (sym (runs-While c.args.test.now c.args.body.now c.args.number (frame_of c.args.frame.now)))

pub repeat-returns-then-frame-eq0-clause-told : goal.repeat-returns-then-frame-eq0-clause-told
repeat-returns-then-frame-eq0-clause-told t c =
    let l = c.loop-found in
    let found : value c.args.test.now l.frame.state ≡ Some c.in-Some.n = rw (← c.as_slice.ensures) (sym c.in_ok-found.ensures.value ∙ c.in-Some.is) in
    let fits : FitsSigned w32 c.in-Some.n = search rules in
    (rw c.as_slice.ensures at c.in_ok-found.ensures.told)
    ∙ ap (λ (es : List Event). tell l.recorder es) (sym (loop-long c.args.number c.args.test.now (λ f. exec c.args.body.now f) (runs c.args.body.now (c.args.number + 1)) l.invariant.same.0 (frame_of l.frame) c.in-Some.n found (is_zero-bits c.in-Some.n fits.sfits c.if-n-eq0.false) c.if-frame-eq0.true))
    ∙ l.invariant.same.3
    ∙ ap (λ (run : Run). tell c.args.recorder.now (events run)) (sym (runs-While c.args.test.now c.args.body.now c.args.number (frame_of c.args.frame.now)))

pub repeat-execute-requires : goal.repeat-execute-requires
repeat-execute-requires t c =
    (search rules, (search rules, knows-on _ _ _ _ _ c.in_ok-found.ensures.told c.loop-found.invariant.known))

pub repeat-loop-found-preserved : goal.repeat-loop-found-preserved
repeat-loop-found-preserved t c =
    let l = c.loop-found in
    let found : value c.args.test.now l.frame.state ≡ Some c.in-Some.n = rw (← c.as_slice.ensures) (sym c.in_ok-found.ensures.value ∙ c.in-Some.is) in
    let fits : FitsSigned w32 c.in-Some.n = search rules in
    let nonzero = is_zero-bits c.in-Some.n fits.sfits c.if-n-eq0.false in
    let going : c.in_ok-ending.ending ≡ None = none-is _ (sym c.if-is_some.ensures) in
    let done : exec c.args.body.now (spend (frame_of l.frame)) ≡ goes (frame_of c.execute.new.frame) = rw (← going) c.in_ok-ending.ensures.done in
    let agrees = agrees-on _ _ _ _ _ c.in_ok-found.ensures.told l.invariant.agrees in
    record {
      same = told-turn _ _ _ c.args.number _ c.args.test.now c.args.body.now (frame_of l.frame) (frame_of c.execute.new.frame) c.in-Some.n l.invariant.same.0 _ _
          found nonzero c.if-frame-eq0.false l.invariant.same.1 done c.in_ok-ending.ensures.spent l.invariant.same.2
          (rw c.as_slice.ensures at c.in_ok-found.ensures.told) agrees c.in_ok-ending.ensures.told l.invariant.same.3;
      known = knows-on _ _ _ _ _ c.in_ok-ending.ensures.told (knows-on _ _ _ _ _ c.in_ok-found.ensures.told l.invariant.known);
      agrees = agrees-on _ _ _ _ _ c.in_ok-ending.ensures.told agrees;
      spent = omega arith;
      variables = c.execute.ensures.variables ∙ l.invariant.variables;
    }

pub repeat-returns-then-is_some-clause-done : goal.repeat-returns-then-is_some-clause-done
repeat-returns-then-is_some-clause-done t c =
    let l = c.loop-found in
    let found : value c.args.test.now l.frame.state ≡ Some c.in-Some.n = rw (← c.as_slice.ensures) (sym c.in_ok-found.ensures.value ∙ c.in-Some.is) in
    let fits : FitsSigned w32 c.in-Some.n = search rules in
    let ended = some-is _ (sym c.if-is_some.ensures) in
    loop-ending c.args.test.now (λ f. exec c.args.body.now f) (frame_of l.frame) (frame_of c.execute.new.frame) c.in-Some.n l.invariant.same.0 ended.0 _
    found (is_zero-bits c.in-Some.n fits.sfits c.if-n-eq0.false) c.if-frame-eq0.false l.invariant.same.1 (rw (← ended.1) c.in_ok-ending.ensures.done) l.invariant.same.2
    ∙ ap (λ (o : Option Ending). step_of c.execute.new.frame o) (sym ended.1)

pub repeat-returns-then-is_some-clause-told : goal.repeat-returns-then-is_some-clause-told
repeat-returns-then-is_some-clause-told t c =
    let l = c.loop-found in
    let found : value c.args.test.now l.frame.state ≡ Some c.in-Some.n = rw (← c.as_slice.ensures) (sym c.in_ok-found.ensures.value ∙ c.in-Some.is) in
    let fits : FitsSigned w32 c.in-Some.n = search rules in
    let ended = some-is _ (sym c.if-is_some.ensures) in
    told-ending _ _ _ c.args.number _ c.args.test.now c.args.body.now (frame_of l.frame) (frame_of c.execute.new.frame) c.in-Some.n l.invariant.same.0 ended.0 _
    found (is_zero-bits c.in-Some.n fits.sfits c.if-n-eq0.false) c.if-frame-eq0.false l.invariant.same.1 (rw (← ended.1) c.in_ok-ending.ensures.done)
    (rw c.as_slice.ensures at c.in_ok-found.ensures.told) (agrees-on _ _ _ _ _ c.in_ok-found.ensures.told l.invariant.agrees) c.in_ok-ending.ensures.told l.invariant.same.3
    ∙ ap (λ (run : Run). tell c.args.recorder.now (events run)) (sym (runs-While c.args.test.now c.args.body.now c.args.number (frame_of c.args.frame.now)))
