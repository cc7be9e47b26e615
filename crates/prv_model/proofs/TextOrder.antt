-- How a table with one row for each statement in text order is put together, a statement's own row last.
use Rattle.std.proofs.Common.{◌≡◌, ℕ, List, [], ◌∷◌, ◌++◌, length, map, Option, Some, None, refl, sym, ap, ◌∙◌, append_assoc, slice_set}
use Rattle.std.proofs.lemmas.List.{append-nil, map-append}
use Rattle.prv_model.specs.Numbers.{inside, statements, statements_all}
use Rattle.prv_model.proofs.NumberLaws.{inside-If, inside-While, inside-Block, inside-Marked}
use Rattle.prv_model.specs.declared.expr.Expr.{Expr}
use Rattle.prv_model.specs.declared.stmt.Stmt.{Stmt}
use Rattle.prv_model.specs.declared.stmt.Stmt.TheVariants.{If, While, Block, Marked}

module _ {A : Type 0} (row : Stmt → A) where
  -- the statements whose rows were added are those inside
  pub added : (old new : List A) (a b : List Stmt) → new ≡ old ++ map row a → a ≡ b → new ≡ old ++ map row b
  added old new a b is same = is ∙ ap (λ (xs : List Stmt). old ++ map row xs) same

  pub added-While : (stmt body : Stmt) (test : Expr) (old new : List A) → stmt ≡ While test body → new ≡ old ++ map row (statements body) → new ≡ old ++ map row (inside stmt)
  added-While stmt body test old new is done = added old new _ _ done (sym (inside-While test body) ∙ ap (λ (s : Stmt). inside s) (sym is))

  pub added-Marked : (stmt body : Stmt) (mark : ℕ) (old new : List A) → stmt ≡ Marked mark body → new ≡ old ++ map row (statements body) → new ≡ old ++ map row (inside stmt)
  added-Marked stmt body mark old new is done = added old new _ _ done (sym (inside-Marked mark body) ∙ ap (λ (s : Stmt). inside s) (sym is))

  pub added-Block : (stmt : Stmt) (all : List Stmt) (old new : List A) → stmt ≡ Block all → new ≡ old ++ map row (statements_all all) → new ≡ old ++ map row (inside stmt)
  added-Block stmt all old new is done = added old new _ _ done (sym (inside-Block all) ∙ ap (λ (s : Stmt). inside s) (sym is))

  pub added-then : (stmt chosen : Stmt) (other : Option Stmt) (test : Expr) (old new : List A) → stmt ≡ If test chosen other → other ≡ None →
      new ≡ old ++ map row (statements chosen) → new ≡ old ++ map row (inside stmt)
  added-then stmt chosen other test old new is none done =
      added old new _ _ done (sym (append-nil (statements chosen)) ∙ sym (inside-If test chosen None) ∙ ap (λ (o : Option Stmt). inside (If test chosen o)) (sym none) ∙ ap (λ (s : Stmt). inside s) (sym is))

  pub added-else : (stmt chosen last : Stmt) (other : Option Stmt) (test : Expr) (old mid new : List A) → stmt ≡ If test chosen other → other ≡ Some last →
      mid ≡ old ++ map row (statements chosen) → new ≡ mid ++ map row (statements last) → new ≡ old ++ map row (inside stmt)
  added-else stmt chosen last other test old mid new is some front back =
      added old new (statements chosen ++ statements last) _
      (back ∙ ap (λ (xs : List A). xs ++ map row (statements last)) front ∙ append_assoc old _ _
      ∙ ap (λ (xs : List A). old ++ xs) (sym (map-append row (statements chosen) (statements last))))
      (sym (inside-If test chosen (Some last)) ∙ ap (λ (o : Option Stmt). inside (If test chosen o)) (sym some) ∙ ap (λ (s : Stmt). inside s) (sym is))

  -- nothing is inside any other statement
  pub added-none : (stmt : Stmt) (old : List A) → inside stmt ≡ [] → old ≡ old ++ map row (inside stmt)
  added-none stmt old none = sym (append-nil old) ∙ ap (λ (xs : List Stmt). old ++ map row xs) (sym none)

  set-behind : (xs ys : List A) (x y : A) → slice_set (xs ++ x ∷ ys) (length xs) y ≡ xs ++ y ∷ ys
  set-behind [] ys x y = refl
  set-behind (z ∷ xs) ys x y = ap (λ (rest : List A). z ∷ rest) (set-behind xs ys x y)

  -- a statement's own row is set once those inside it are there
  pub added-own : (stmt : Stmt) (old mid inner new : List A) (blank own : A) → mid ≡ old ++ blank ∷ [] → inner ≡ mid ++ map row (inside stmt) →
      new ≡ slice_set inner (length old) own → own ≡ row stmt → new ≡ old ++ map row (statements stmt)
  added-own stmt old mid inner new blank own one all is same =
      let rows = map row (inside stmt) in
      let whole : inner ≡ old ++ blank ∷ rows = all ∙ ap (λ (xs : List A). xs ++ rows) one ∙ append_assoc old (blank ∷ []) rows in
      is ∙ ap (λ (xs : List A). slice_set xs (length old) own) whole ∙ set-behind old rows blank own ∙ ap (λ (a : A). old ++ a ∷ rows) same
