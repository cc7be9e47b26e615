use Rattle.std.proofs.Common.{◌≡◌, List, [], ◌∷◌, ◌++◌, Option, map, ap, ◌∙◌, append_assoc}
use Rattle.std.proofs.lemmas.List.{map-append}
use Rattle.prv_model.specs.Numbers.{inside, statements}
use Rattle.prv_model.specs.declared.stmt.Stmt.{Stmt}
use Rattle.prv_model.proofs.NumberLaws.{inside-none}
use Rattle.prv_model.proofs.TextOrder.{added-While, added-Marked, added-Block, added-then, added-else, added-none}
use Rattle.prv_sym.specs.declared.statements.Evaluation.{Evaluation}
use Rattle.prv_sym.specs.Walks.{Own, own, row_of}
use Rattle.prv_sym.proofs.statements.+statements.Goals as goal

added-first : (stmt : Stmt) (old mid new : List (Option Evaluation)) (x : Option Evaluation) → mid ≡ old ++ x ∷ [] → row_of x ≡ own stmt →
    map row_of new ≡ map row_of mid ++ map (λ s. own s) (inside stmt) → map row_of new ≡ map row_of old ++ map (λ s. own s) (statements stmt)
added-first stmt old mid new x one same all =
    let rest = map (λ s. own s) (inside stmt) in
    all ∙ ap (λ (xs : List (Option Evaluation)). map row_of xs ++ rest) one ∙ ap (λ (xs : List (Option Own)). xs ++ rest) (map-append row_of old (x ∷ []))
    ∙ append_assoc (map row_of old) (row_of x ∷ []) rest ∙ ap (λ (o : Option Own). map row_of old ++ o ∷ rest) same

pub push_inside-returns-in-None : goal.push_inside-returns-in-None
push_inside-returns-in-None t c = added-then (λ s. own s) _ c.in-If.yes c.in-If.no c.in-If.test _ _ c.in-If.is c.in-None.is (rw c.get.ensures at c.in_ok-push-in-If.ensures)

pub push_inside-returns-in_ok-push-in-Some : goal.push_inside-returns-in_ok-push-in-Some
push_inside-returns-in_ok-push-in-Some t c =
    added-else (λ s. own s) _ c.in-If.yes c.in-Some.branch c.in-If.no c.in-If.test _ (map row_of c.push.new.rows) _ c.in-If.is c.in-Some.is
    (rw c.get.ensures at c.in_ok-push-in-If.ensures) (rw c.get-in-Some.ensures at c.in_ok-push-in-Some.ensures)

pub push_inside-returns-in_ok-push-in-While : goal.push_inside-returns-in_ok-push-in-While
push_inside-returns-in_ok-push-in-While t c =
    added-While (λ s. own s) _ c.in-While.body c.in-While.test _ _ c.in-While.is (rw c.get-in-While.ensures at c.in_ok-push-in-While.ensures)

pub push_inside-returns-in_ok-push_all-in-Block : goal.push_inside-returns-in_ok-push_all-in-Block
push_inside-returns-in_ok-push_all-in-Block t c =
    added-Block (λ s. own s) _ c.in-Block.all _ _ c.in-Block.is (rw c.as_slice.ensures at c.in_ok-push_all-in-Block.ensures)

pub push_inside-returns-in_ok-push-in-Marked : goal.push_inside-returns-in_ok-push-in-Marked
push_inside-returns-in_ok-push-in-Marked t c =
    added-Marked (λ s. own s) _ c.in-Marked.body c.in-Marked.mark _ _ c.in-Marked.is (rw c.get-in-Marked.ensures at c.in_ok-push-in-Marked.ensures)

pub push_inside-returns-in_default : goal.push_inside-returns-in_default
push_inside-returns-in_default t c =
    added-none (λ s. own s) c.args.stmt.now _ (inside-none c.args.stmt.now c.in_default.not-If c.in_default.not-While c.in_default.not-Block c.in_default.not-Marked)

pub push-returns : goal.push-returns
push-returns t c = added-first c.args.stmt.now c.args.rows.now c.push.new.self c.push_inside.new.rows c.own.result c.in_ok-push.ensures.ok c.own.ensures c.in_ok-push_inside.ensures
