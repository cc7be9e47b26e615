-- The size of a statement is how many rows were added for it.
use Rattle.std.proofs.Common.{◌≡◌, ℕ, ◌+◌, ◌-◌, List, [], ◌∷◌, ◌++◌, length, map, ap, ◌∙◌, arith, length-append}
use Rattle.std.proofs.lemmas.List.{length-map}
use Rattle.prv_model.specs.Numbers.{inside}
use Rattle.prv_model.specs.Programs.{stmt_count}
use Rattle.prv_model.proofs.NumberLaws.{counts}
use Rattle.prv_model.specs.declared.stmt.Stmt.{Stmt}

pub size-is : (stmt : Stmt) (old mid inner : List ℕ) → mid ≡ old ++ 0 ∷ [] → inner ≡ mid ++ map (λ s. stmt_count s) (inside stmt) →
    length inner - length old ≡ stmt_count stmt
size-is stmt old mid inner one all =
    let sizes = map (λ s. stmt_count s) (inside stmt) in
    let long : length inner ≡ length old + 1 + length sizes =
    ap (λ (xs : List ℕ). length xs) all ∙ length-append mid sizes ∙ ap (λ (n : ℕ). n + length sizes) (ap (λ (xs : List ℕ). length xs) one ∙ length-append old (0 ∷ [])) in
    let count : 1 + length sizes ≡ stmt_count stmt = ap (λ (n : ℕ). 1 + n) (length-map (inside stmt) (λ s. stmt_count s)) ∙ omega arith ∙ counts stmt in
    omega arith
