-- The symbol of an expression from those of its parts, and what is named on the way.
use Rattle.std.proofs.Common.{◌≡◌, ℕ, List, [], ◌∷◌, ◌++◌, Result, Ok, Err, IfOk, sym, ap, ◌∙◌, subst, pos, ℤ}
use Rattle.prv_model.specs.declared.expr.Expr.{Expr}
use Rattle.prv_model.specs.declared.expr.Expr.TheOpen.{Expr-F}
use Rattle.prv_model.specs.declared.expr.Expr.TheFolds.{fold-roll-Expr, para-roll-Expr}
use Rattle.prv_model.specs.declared.expr.Expr.TheVariants as e
use Rattle.prv_model.specs.declared.op.UnOp.{UnOp}
use Rattle.prv_model.specs.declared.op.BinOp.{BinOp}
use Rattle.prv_model.specs.declared.term.Term.{Term}
use Rattle.prv_model.specs.declared.term.Term.TheVariants.{Num}
use Rattle.prv_pool.specs.Folding.{folded_pick, truth}
use Rattle.prv_pool.specs.Tables.{Table, term_at}
use Rattle.prv_pool.specs.declared.error.PoolError.{PoolError}
use Rattle.prv_sym.specs.declared.symbol_nodes.SymbolNodes.{SymbolNodes}
use Rattle.prv_sym.specs.declared.symbol_nodes.Slot.{Slot}
use Rattle.prv_sym.specs.Calls.{Names, StandsFor, AreIn, AreSlots, symbol_at, terms_of, variable_term}
use Rattle.prv_sym.specs.Named.{named, node_named, unary_named, class_named, safety_named, pick_named}
use Rattle.prv_sym.specs.Symbols.{Symbol, symbol, node_symbol, unary_term, class_of, binary_term, binary_safe, class_term, class_safe, pick_safe}
use Rattle.prv_sym.proofs.Naming.{Grows, grows-on, names-as, names-then, names-stop, stands-at, stands-in, symbol-kept}
use Rattle.prv_sym.proofs.Slots.{terms-kept}

-- symbols and names, variant by variant
module _ (env : List Term) where
  at : {A : Type 0} (f : Expr → List Term → A) (e d : Expr) → e ≡ d → f e env ≡ f d env
  at f e d is = ap (λ (x : Expr). f x env) is

  pub symbol-Num : (n : ℤ) → symbol (e.Num n) env ≡ record { term = Num n; safe = Num (pos 1) }
  symbol-Num n = at symbol _ _ (sym (e.rolls-Num n)) ∙ ap (λ (f : List Term → Symbol). f env) (fold-roll-Expr (List Term → Symbol) node_symbol (Expr-F.Num n))

  pub symbol-Var : (v : ℕ) → symbol (e.Var v) env ≡ record { term = variable_term env v; safe = Num (pos 1) }
  symbol-Var v = at symbol _ _ (sym (e.rolls-Var v)) ∙ ap (λ (f : List Term → Symbol). f env) (fold-roll-Expr (List Term → Symbol) node_symbol (Expr-F.Var v))

  pub symbol-Un : (op : UnOp) (x : Expr) → symbol (e.Un op x) env ≡ record { term = unary_term op (symbol x env).term; safe = (symbol x env).safe }
  symbol-Un op x = at symbol _ _ (sym (e.rolls-Un op x)) ∙ ap (λ (f : List Term → Symbol). f env) (fold-roll-Expr (List Term → Symbol) node_symbol (Expr-F.Un op x))

  pub symbol-Bin : (op : BinOp) (x y : Expr) → symbol (e.Bin op x y) env ≡ record { term = binary_term op (symbol x env).term (symbol y env).term; safe = binary_safe op (symbol x env) (symbol y env) }
  symbol-Bin op x y = at symbol _ _ (sym (e.rolls-Bin op x y)) ∙ ap (λ (f : List Term → Symbol). f env) (fold-roll-Expr (List Term → Symbol) node_symbol (Expr-F.Bin op x y))

  pub symbol-Pick : (c x y : Expr) → symbol (e.Pick c x y) env ≡ record { term = folded_pick (truth (symbol c env).term) (symbol x env).term (symbol y env).term; safe = pick_safe (symbol c env) (symbol x env) (symbol y env) }
  symbol-Pick c x y = at symbol _ _ (sym (e.rolls-Pick c x y)) ∙ ap (λ (f : List Term → Symbol). f env) (fold-roll-Expr (List Term → Symbol) node_symbol (Expr-F.Pick c x y))

  pub named-Num : (n : ℤ) → named (e.Num n) env ≡ Num n ∷ Num (pos 1) ∷ []
  named-Num n = at named _ _ (sym (e.rolls-Num n)) ∙ ap (λ (f : List Term → List Term). f env) (para-roll-Expr (List Term → List Term) node_named (Expr-F.Num n))

  pub named-Var : (v : ℕ) → named (e.Var v) env ≡ variable_term env v ∷ Num (pos 1) ∷ []
  named-Var v = at named _ _ (sym (e.rolls-Var v)) ∙ ap (λ (f : List Term → List Term). f env) (para-roll-Expr (List Term → List Term) node_named (Expr-F.Var v))

  pub named-Un : (op : UnOp) (x : Expr) → named (e.Un op x) env ≡ named x env ++ unary_named op (symbol x env).term
  named-Un op x = at named _ _ (sym (e.rolls-Un op x)) ∙ ap (λ (f : List Term → List Term). f env) (para-roll-Expr (List Term → List Term) node_named (Expr-F.Un op x))

  pub named-Bin : (op : BinOp) (x y : Expr) →
      named (e.Bin op x y) env ≡ named x env ++ (named y env ++ (class_named (class_of op) (symbol x env).term (symbol y env).term ++ safety_named (class_of op) (symbol x env) (symbol y env)))
  named-Bin op x y = at named _ _ (sym (e.rolls-Bin op x y)) ∙ ap (λ (f : List Term → List Term). f env) (para-roll-Expr (List Term → List Term) node_named (Expr-F.Bin op x y))

  pub named-Pick : (c x y : Expr) → named (e.Pick c x y) env ≡ named c env ++ (named x env ++ (named y env ++ pick_named (symbol c env) (symbol x env) (symbol y env)))
  named-Pick c x y = at named _ _ (sym (e.rolls-Pick c x y)) ∙ ap (λ (f : List Term → List Term). f env) (para-roll-Expr (List Term → List Term) node_named (Expr-F.Pick c x y))

-- a call gives the nodes of a symbol and names these terms
pub record Said (s : Symbol) (more : List Term) (old new : Table) (r : Result SymbolNodes PoolError) : Type 0 where
  pub value : IfOk r (λ n. StandsFor new.terms n.value s.term)
  pub safe : IfOk r (λ n. StandsFor new.terms n.safe s.safe)
  pub names : Names more old new r

pub said-as : (s t : Symbol) (a b : List Term) (old new : Table) (r : Result SymbolNodes PoolError) → s ≡ t → a ≡ b → Said s a old new r → Said t b old new r
said-as s t a b old new r is same h = subst (λ (x : Symbol). Said x b old new r) is (subst (λ (xs : List Term). Said s xs old new r) same h)

-- an expression that is another one
pub said-of : (d f : Expr) (env : List Term) (old new : Table) (r : Result SymbolNodes PoolError) → d ≡ f → Said (symbol f env) (named f env) old new r → Said (symbol d env) (named d env) old new r
said-of d f env old new r is h = subst (λ (x : Expr). Said (symbol x env) (named x env) old new r) (sym is) h

-- a number, as the call was given it
pub said-number : (m n : ℤ) (env : List Term) (old new : Table) (r : Result SymbolNodes PoolError) → m ≡ n → Said (record { term = Num m; safe = Num (pos 1) }) (Num m ∷ Num (pos 1) ∷ []) old new r →
    Said (symbol (e.Num n) env) (named (e.Num n) env) old new r
said-number m n env old new r is h =
    said-as _ _ _ _ old new r (sym (symbol-Num env n)) (sym (named-Num env n))
    (subst (λ (k : ℤ). Said (record { term = Num k; safe = Num (pos 1) }) (Num k ∷ Num (pos 1) ∷ []) old new r) is h)

-- one call and then another
said-then : (s t : Symbol) (a b : List Term) (old mid new : Table) (x : SymbolNodes) (r : Result SymbolNodes PoolError) → Said s a old mid (Ok x) → Said t b mid new r → Said t (a ++ b) old new r
said-then s t a b old mid new x r first second = record {
  value = second.value;
  safe = second.safe;
  names = names-then a b old mid new x r first.names second.names;
}

symbol-is : (s : Symbol) (more : List Term) (old mid : Table) (x : SymbolNodes) → Said s more old mid (Ok x) → symbol_at mid.terms x ≡ s
symbol-is s more old mid x h = λ i. record { term = stands-at mid.terms x.value s.term h.value i; safe = stands-at mid.terms x.safe s.safe h.safe i }

pub said-in : (s : Symbol) (more : List Term) (old mid : Table) (x : SymbolNodes) → Said s more old mid (Ok x) → AreIn mid.terms x
said-in s more old mid x h = (stands-in mid.terms x.value s.term h.value, stands-in mid.terms x.safe s.safe h.safe)

-- the terms of variables in a table that has grown
pub moved : (e : Expr) (slots : List Slot) (old mid new : Table) (r : Result SymbolNodes PoolError) → Grows old.terms mid.terms → AreSlots old.terms slots →
    Said (symbol e (terms_of mid.terms slots)) (named e (terms_of mid.terms slots)) mid new r → Said (symbol e (terms_of old.terms slots)) (named e (terms_of old.terms slots)) mid new r
moved e slots old mid new r grows are h =
    let same = terms-kept old.terms mid.terms grows slots are in
    said-as _ _ _ _ mid new r (ap (λ (env : List Term). symbol e env) same) (ap (λ (env : List Term). named e env) same) h

pub names-moved : {A : Type 0} (d e : Expr) (slots : List Slot) (old mid new : Table) (r : Result A PoolError) → d ≡ e → Grows old.terms mid.terms → AreSlots old.terms slots →
    Names (named d (terms_of mid.terms slots)) mid new r → Names (named e (terms_of old.terms slots)) mid new r
names-moved d e slots old mid new r is grows are h =
    names-as _ _ mid new r (ap (λ (x : Expr). named x (terms_of mid.terms slots)) is ∙ ap (λ (env : List Term). named e env) (terms-kept old.terms mid.terms grows slots are)) h

pub names-of : {A : Type 0} (d e : Expr) (env : List Term) (old new : Table) (r : Result A PoolError) → d ≡ e → Names (named d env) old new r → Names (named e env) old new r
names-of d e env old new r is h = names-as _ _ old new r (ap (λ (x : Expr). named x env) is) h

-- from the operands to the expression
pub said-Un : (op : UnOp) (a : Expr) (env : List Term) (old mid new : Table) (x : SymbolNodes) (r : Result SymbolNodes PoolError) → Said (symbol a env) (named a env) old mid (Ok x) →
    Said (record { term = unary_term op (term_at mid.terms x.value); safe = term_at mid.terms x.safe }) (unary_named op (term_at mid.terms x.value)) mid new r →
    Said (symbol (e.Un op a) env) (named (e.Un op a) env) old new r
said-Un op a env old mid new x r one two =
    let q = symbol-is _ _ old mid x one in
    said-as _ _ _ _ old new r (sym (symbol-Un env op a)) (sym (named-Un env op a))
    (said-then _ _ _ _ old mid new x r one
    (said-as _ _ _ _ mid new r (λ i. record { term = unary_term op (q i).term; safe = (q i).safe }) (λ i. unary_named op (q i).term) two))

pub said-Bin : (op : BinOp) (a b : Expr) (env : List Term) (old first second new : Table) (x y : SymbolNodes) (r : Result SymbolNodes PoolError) →
    Said (symbol a env) (named a env) old first (Ok x) → Said (symbol b env) (named b env) first second (Ok y) →
    Said (record { term = class_term (class_of op) (term_at second.terms x.value) (term_at second.terms y.value); safe = class_safe (class_of op) (symbol_at second.terms x) (symbol_at second.terms y) })
    (class_named (class_of op) (term_at second.terms x.value) (term_at second.terms y.value) ++ safety_named (class_of op) (symbol_at second.terms x) (symbol_at second.terms y)) second new r →
    Said (symbol (e.Bin op a b) env) (named (e.Bin op a b) env) old new r
said-Bin op a b env old first second new x y r one two three =
    let p = symbol-kept first.terms second.terms x two.names.kept (said-in _ _ old first x one) ∙ symbol-is _ _ old first x one in
    let q = symbol-is _ _ first second y two in
    said-as _ _ _ _ old new r (sym (symbol-Bin env op a b)) (sym (named-Bin env op a b))
    (said-then _ _ _ _ old first new x r one (said-then _ _ _ _ first second new y r two
    (said-as _ _ _ _ second new r (λ i. record { term = class_term (class_of op) (p i).term (q i).term; safe = class_safe (class_of op) (p i) (q i) })
    (λ i. class_named (class_of op) (p i).term (q i).term ++ safety_named (class_of op) (p i) (q i)) three)))

pub said-Pick : (test a b : Expr) (env : List Term) (old first second third new : Table) (c x y : SymbolNodes) (r : Result SymbolNodes PoolError) →
    Said (symbol test env) (named test env) old first (Ok c) → Said (symbol a env) (named a env) first second (Ok x) → Said (symbol b env) (named b env) second third (Ok y) →
    Said (record { term = folded_pick (truth (term_at third.terms c.value)) (term_at third.terms x.value) (term_at third.terms y.value); safe = pick_safe (symbol_at third.terms c) (symbol_at third.terms x) (symbol_at third.terms y) })
    (pick_named (symbol_at third.terms c) (symbol_at third.terms x) (symbol_at third.terms y)) third new r →
    Said (symbol (e.Pick test a b) env) (named (e.Pick test a b) env) old new r
said-Pick test a b env old first second third new c x y r one two three four =
    let on = grows-on first.terms second.terms third.terms two.names.kept three.names.kept in
    let o = symbol-kept first.terms third.terms c on (said-in _ _ old first c one) ∙ symbol-is _ _ old first c one in
    let p = symbol-kept second.terms third.terms x three.names.kept (said-in _ _ first second x two) ∙ symbol-is _ _ first second x two in
    let q = symbol-is _ _ second third y three in
    said-as _ _ _ _ old new r (sym (symbol-Pick env test a b)) (sym (named-Pick env test a b))
    (said-then _ _ _ _ old first new c r one (said-then _ _ _ _ first second new x r two (said-then _ _ _ _ second third new y r three
    (said-as _ _ _ _ third new r (λ i. record { term = folded_pick (truth (o i).term) (p i).term (q i).term; safe = pick_safe (o i) (p i) (q i) })
    (λ i. pick_named (o i) (p i) (q i)) four))))

-- one of the operands is refused
pub first-refused : (more a rest : List Term) (old new : Table) (p : PoolError) → more ≡ a ++ rest → Names {A = SymbolNodes} a old new (Err p) → Names {A = SymbolNodes} more old new (Err p)
first-refused more a rest old new p is one = subst (λ (xs : List Term). Names {A = SymbolNodes} xs old new (Err p)) (sym is) (names-stop a rest old new p one)

pub second-refused : (more a b rest : List Term) (old mid new : Table) (x : SymbolNodes) (p : PoolError) → more ≡ a ++ (b ++ rest) → Names a old mid (Ok x) → Names {A = SymbolNodes} b mid new (Err p) → Names {A = SymbolNodes} more old new (Err p)
second-refused more a b rest old mid new x p is one two =
    subst (λ (xs : List Term). Names {A = SymbolNodes} xs old new (Err p)) (sym is) (names-then a (b ++ rest) old mid new x (Err p) one (names-stop b rest mid new p two))

pub third-refused : (more a b d rest : List Term) (old mid far new : Table) (x y : SymbolNodes) (p : PoolError) → more ≡ a ++ (b ++ (d ++ rest)) → Names a old mid (Ok x) → Names b mid far (Ok y) →
    Names {A = SymbolNodes} d far new (Err p) → Names {A = SymbolNodes} more old new (Err p)
third-refused more a b d rest old mid far new x y p is one two three =
    subst (λ (xs : List Term). Names {A = SymbolNodes} xs old new (Err p)) (sym is)
    (names-then a (b ++ (d ++ rest)) old mid new x (Err p) one (names-then b (d ++ rest) mid far new y (Err p) two (names-stop d rest far new p three)))
