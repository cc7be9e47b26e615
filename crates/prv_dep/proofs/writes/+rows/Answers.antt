use Rattle.std.proofs.Common.{rules, ◌≡◌, ◌+◌, [], ◌∷◌, ◌++◌, ap, sym, ◌∙◌, take}
use Rattle.std.proofs.lemmas.List.{take_more, take_all}
use Rattle.prv_model.specs.Numbers.{inside}
use Rattle.prv_model.proofs.NumberLaws.{inside-Skip, inside-Set, inside-Return, inside-Out, inside-Assert}
use Rattle.prv_model.proofs.TextOrder.{added-While, added-Marked, added-Block, added-then, added-else, added-none, added-own}
use Rattle.prv_model.specs.declared.stmt.Stmt.{Stmt, the_lemmas}
use Rattle.prv_dep.specs.declared.writes.Row.{Row}
use Rattle.prv_dep.specs.Tables.{mask, row}
use Rattle.prv_dep.specs.Dependences.{writes}
use Rattle.prv_dep.proofs.RowLaws.{more-writes, more-leaves, more-rows, block-row, row-is, written-Set, overwritten-Set, written-If}
use Rattle.prv_dep.proofs.writes.+rows.Goals as goal

pub push-returns-clause-grows : goal.push-returns-clause-grows
push-returns-clause-grows t c =
    added-own (λ s. row s) c.args.stmt.now c.args.rows.now c.push.new.self c.push_inside.new.rows c.set.new.self c.plain.result c.in_ok-row.row
    c.in_ok-push.ensures.ok c.in_ok-row.ensures.grows (rw c.len-place.ensures at c.set.ensures) c.in_ok-row.ensures.row

pub push_all-loop-stmt-preserved : goal.push_all-loop-stmt-preserved
push_all-loop-stmt-preserved t c =
    let l = c.loop-stmt in
    let all = c.args.all.now in
    let next : take (l.stmt-index + 1) all ≡ take l.stmt-index all ++ c.stmt-item.result ∷ [] =
    take_more all l.stmt-index c.stmt-item.result c.loop-stmt-test.true ∙ ap (λ (s : Stmt). take l.stmt-index all ++ s ∷ []) (sym c.stmt-item.is) in
    record {
      writes = more-writes _ _ c.stmt-item.result _ _ next l.invariant.writes (ap (λ (r : Row). r.writes) c.in_ok-row.ensures.row);
      leaves = more-leaves _ _ c.stmt-item.result _ _ next l.invariant.leaves (ap (λ (r : Row). r.leaves) c.in_ok-row.ensures.row);
      rows = more-rows _ _ c.stmt-item.result _ _ _ next l.invariant.rows c.in_ok-row.ensures.grows;
    }

pub push_all-returns-clause-row : goal.push_all-returns-clause-row
push_all-returns-clause-row t c =
    let whole : take c.loop-stmt.stmt-index c.args.all.now ≡ c.args.all.now = take_all c.loop-stmt.stmt-index c.args.all.now c.loop-stmt-test.false in
    c.plain.ensures ∙ block-row c.args.all.now _ _ (rw whole at c.loop-stmt.invariant.writes) (rw whole at c.loop-stmt.invariant.leaves)

pub push_inside-returns-in-Skip-clause-grows : goal.push_inside-returns-in-Skip-clause-grows
push_inside-returns-in-Skip-clause-grows t c = added-none (λ s. row s) c.args.stmt.now _ (ap (λ (s : Stmt). inside s) c.in-Skip.is ∙ inside-Skip)

pub push_inside-returns-in-Set-clause-grows : goal.push_inside-returns-in-Set-clause-grows
push_inside-returns-in-Set-clause-grows t c = added-none (λ s. row s) c.args.stmt.now _ (ap (λ (s : Stmt). inside s) c.in-Set.is ∙ inside-Set c.in-Set.var c.in-Set.value)

pub push_inside-returns-in-Return-clause-grows : goal.push_inside-returns-in-Return-clause-grows
push_inside-returns-in-Return-clause-grows t c = added-none (λ s. row s) c.args.stmt.now _ (ap (λ (s : Stmt). inside s) c.in-Return.is ∙ inside-Return c.in-Return.value)

pub push_inside-returns-in-Out-clause-grows : goal.push_inside-returns-in-Out-clause-grows
push_inside-returns-in-Out-clause-grows t c = added-none (λ s. row s) c.args.stmt.now _ (ap (λ (s : Stmt). inside s) c.in-Out.is ∙ inside-Out c.in-Out.value)

pub push_inside-returns-in-Assert-clause-grows : goal.push_inside-returns-in-Assert-clause-grows
push_inside-returns-in-Assert-clause-grows t c = added-none (λ s. row s) c.args.stmt.now _ (ap (λ (s : Stmt). inside s) c.in-Assert.is ∙ inside-Assert c.in-Assert.value)

pub push_inside-returns-in-None-clause-grows : goal.push_inside-returns-in-None-clause-grows
push_inside-returns-in-None-clause-grows t c =
    added-then (λ s. row s) _ c.in-If.yes c.in-If.no c.in-If.test _ _ c.in-If.is c.in-None.is (rw c.get.ensures at c.in_ok-chosen-in-If.ensures.grows)

pub push_inside-returns-in_ok-other-in-Some-clause-grows : goal.push_inside-returns-in_ok-other-in-Some-clause-grows
push_inside-returns-in_ok-other-in-Some-clause-grows t c =
    added-else (λ s. row s) _ c.in-If.yes c.in-Some.branch c.in-If.no c.in-If.test _ c.push.new.rows _ c.in-If.is c.in-Some.is
    (rw c.get.ensures at c.in_ok-chosen-in-If.ensures.grows) (rw c.get-in-Some.ensures at c.in_ok-other-in-Some.ensures.grows)

pub push_inside-returns-in_ok-inner-in-While-clause-grows : goal.push_inside-returns-in_ok-inner-in-While-clause-grows
push_inside-returns-in_ok-inner-in-While-clause-grows t c =
    added-While (λ s. row s) _ c.in-While.body c.in-While.test _ _ c.in-While.is (rw c.get-in-While.ensures at c.in_ok-inner-in-While.ensures.grows)

pub push_inside-returns-in_ok-inner-in-Block-clause-grows : goal.push_inside-returns-in_ok-inner-in-Block-clause-grows
push_inside-returns-in_ok-inner-in-Block-clause-grows t c =
    added-Block (λ s. row s) _ c.in-Block.all _ _ c.in-Block.is (rw c.as_slice.ensures at c.in_ok-inner-in-Block.ensures.grows)

pub push_inside-returns-in_ok-inner-in-Marked-clause-grows : goal.push_inside-returns-in_ok-inner-in-Marked-clause-grows
push_inside-returns-in_ok-inner-in-Marked-clause-grows t c =
    added-Marked (λ s. row s) _ c.in-Marked.body c.in-Marked.mark _ _ c.in-Marked.is (rw c.get-in-Marked.ensures at c.in_ok-inner-in-Marked.ensures.grows)

pub push_inside-returns-in-Set-clause-row : goal.push_inside-returns-in-Set-clause-row
push_inside-returns-in-Set-clause-row t c =
    row-is c.args.stmt.now _ _ _ _ (written-Set c.args.stmt.now c.in-Set.var c.in-Set.value _ c.in-Set.is c.bit.ensures)
    (overwritten-Set c.args.stmt.now c.in-Set.var c.in-Set.value _ c.in-Set.is c.bit-in-Set.ensures) (search (rules, the_lemmas)) (search (rules, the_lemmas))

pub push_inside-returns-in_ok-other-in-Some-clause-row : goal.push_inside-returns-in_ok-other-in-Some-clause-row
push_inside-returns-in_ok-other-in-Some-clause-row t c =
    let first : c.in_ok-chosen-in-If.chosen.writes ≡ mask (writes c.in-If.yes) = ap (λ (r : Row). r.writes) c.in_ok-chosen-in-If.ensures.row ∙ ap (λ (s : Stmt). mask (writes s)) c.get.ensures in
    let second : c.in_ok-other-in-Some.other.writes ≡ mask (writes c.in-Some.branch) = ap (λ (r : Row). r.writes) c.in_ok-other-in-Some.ensures.row ∙ ap (λ (s : Stmt). mask (writes s)) c.get-in-Some.ensures in
    c.plain-in-Some.ensures ∙ row-is c.args.stmt.now _ _ _ _ (written-If c.args.stmt.now c.in-If.test c.in-If.yes c.in-Some.branch c.in-If.no _ _ c.in-If.is c.in-Some.is first second)
    (search (rules, the_lemmas)) (search (rules, the_lemmas)) (search (rules, the_lemmas))
