use Rattle.std.proofs.Common.{◌≡◌, ℕ, ◌+◌, ◌<◌, ◌++◌, ◌∷◌, [], length, take, get_or, List, sym, ap, subst, ◌∙◌, arith}
use Rattle.std.proofs.lemmas.List.{take_more, length-take-le}
use Rattle.prv_cnf.specs.declared.literal.Lit.{Lit}
use Rattle.prv_check.specs.Inner.Indexing.{IsIndex, IsListed}
use Rattle.prv_check.proofs.Subsuming.{index_more, listed_occurs}
use Rattle.prv_check.proofs.containment.index_of.Goals as goal

pub loop-number-preserved : goal.loop-number-preserved
loop-number-preserved c =
    let cs : List (List Lit) = c.args.cnf.now.clauses in
    let n : ℕ = c.loop-number.number in
    let x : List Lit = c.clause-item.result in
    let same : c.clauses-clause-items.result.now ≡ cs = c.clauses-clause-items.ensures.value in
    let inside : n < length cs = subst (λ (xs : List (List Lit)). n < length xs) same c.loop-number-test.true in
    let item : x ≡ get_or cs n x = subst (λ (xs : List (List Lit)). x ≡ get_or xs n x) same c.clause-item.is in
    let more : take (n + 1) cs ≡ take n cs ++ x ∷ [] = take_more cs n x inside ∙ ap (λ (y : List Lit). take n cs ++ y ∷ []) (sym item) in
    let e : length (take n cs) ≡ n = length-take-le n cs (omega arith) in
    let P : ℕ → Type 0 = λ m. IsListed x m c.loop-number.index c.add.new.self in
    let Q : List Lit → Type 0 = λ y. IsListed y n c.loop-number.index c.add.new.self in
    let listed : IsListed x (length (take n cs)) c.loop-number.index c.add.new.self = subst P (sym e) (subst Q c.lits.ensures c.in_ok-add.ensures) in
    let R : List (List Lit) → Type 0 = λ ds. IsIndex ds c.add.new.self in
    (subst R (sym more) (index_more (take n cs) x c.loop-number.index c.add.new.self c.loop-number.invariant.0 listed), listed_occurs x (length (take n cs)) c.loop-number.index c.add.new.self listed ∙ c.loop-number.invariant.1)
