-- An expression has one value wherever its variables have the same words, and one that may not fault has a value. A statement that
-- may not leave goes on, with nothing put out, no turn spent, and each variable as it was that it doesn't write.
use Rattle.std.proofs.Common.{◌≡◌, ℕ, zero, suc, Bool, true, false, ◌&&◌, ◌||◌, not, List, [], ◌∷◌, ◌++◌, length, Option, Some, None, ℤ, if◌then◌else◌, refl, sym, ap, ◌∙◌, subst, arith, slice_get, slice_set, map, nat_lt, nat_eq, int_div, int_rem}
use Rattle.std.specs.Option.{option_map, option_and_then}
use Rattle.std.specs.List.{list_any, flat_map}
use Rattle.std.proofs.lemmas.List.Folds.{list_any-append}
use Rattle.std.proofs.lemmas.List.{length-set}
use Rattle.prv_model.specs.Words.{is_zero, truth, unary, binary, wrap}
use Rattle.prv_model.specs.Expressions.{value, node_value, operate, pick}
use Rattle.prv_model.specs.Programs.{expr_over, node_expr_over, stmt_over, node_stmt_over, all_true}
use Rattle.prv_model.specs.Statements.{Frame, Step, exec, node_exec, goes, assign, in_turn, and_then, on_word}
use Rattle.prv_model.specs.declared.op.BinOp.{BinOp}
use Rattle.prv_model.specs.declared.op.BinOp.TheVariants as b
use Rattle.prv_model.specs.declared.expr.Expr.{Expr, roll-Expr, map-Expr}
use Rattle.prv_model.specs.declared.expr.Expr.TheOpen.{Expr-F}
use Rattle.prv_model.specs.declared.expr.Expr.TheFolds.{fold-roll-Expr, ind-Expr}
use Rattle.prv_model.specs.declared.stmt.Stmt.{Stmt, roll-Stmt, map-Stmt}
use Rattle.prv_model.specs.declared.stmt.Stmt.TheOpen.{Stmt-F}
use Rattle.prv_model.specs.declared.stmt.Stmt.TheFolds.{fold-roll-Stmt, ind-Stmt}
use Rattle.prv_dep.specs.Dependences.{has, vars, node_vars, divides, Divisions, divisions, node_divisions, may_fault, may_leave, node_may_leave, writes, node_writes, evaluates}

pub or-left : (p q : Bool) → p ≡ true → (p || q) ≡ true
or-left true q e = refl
or-left false q e = cc

pub or-right : (p q : Bool) → q ≡ true → (p || q) ≡ true
or-right true q e = refl
or-right false q e = e

pub neither-left : (p q : Bool) → (p || q) ≡ false → p ≡ false
neither-left true q e = e
neither-left false q e = refl

pub neither-right : (p q : Bool) → (p || q) ≡ false → q ≡ false
neither-right true q e = cc
neither-right false q e = e

pub and-left : (p q : Bool) → (p && q) ≡ true → p ≡ true
and-left true q e = refl
and-left false q e = e

pub and-right : (p q : Bool) → (p && q) ≡ true → q ≡ true
and-right true q e = e
and-right false q e = cc

pub has-append : (a c : List ℕ) (v : ℕ) → has (a ++ c) v ≡ (has a v || has c v)
has-append a c v = list_any-append (nat_eq v) a c

pub has-left : (a c : List ℕ) (v : ℕ) → has a v ≡ true → has (a ++ c) v ≡ true
has-left a c v e = has-append a c v ∙ or-left _ _ e

pub has-right : (a c : List ℕ) (v : ℕ) → has c v ≡ true → has (a ++ c) v ≡ true
has-right a c v e = has-append a c v ∙ or-right (has a v) _ e

pub lacks-left : (a c : List ℕ) (v : ℕ) → has (a ++ c) v ≡ false → has a v ≡ false
lacks-left a c v e = neither-left _ _ (sym (has-append a c v) ∙ e)

pub lacks-right : (a c : List ℕ) (v : ℕ) → has (a ++ c) v ≡ false → has c v ≡ false
lacks-right a c v e = neither-right (has a v) _ (sym (has-append a c v) ∙ e)

-- two states agree on some variables
abbrev pub AgreeOn : List ℕ → List ℤ → List ℤ → Type 0
AgreeOn all s t = (v : ℕ) → has all v ≡ true → slice_get s v ≡ slice_get t v

abbrev OneValue : List ℤ → List ℤ → Expr → Type 0
OneValue s t e = AgreeOn (vars e) s t → value e s ≡ value e t

has-one : (v : ℕ) → has (v ∷ []) v ≡ true
has-one v = grind arith

value-step : (s t : List ℤ) → (z : Expr-F ((e : Expr) × OneValue s t e)) → OneValue s t (roll-Expr (map-Expr ((e : Expr) × OneValue s t e) Expr (λ e. e.0) z))
value-step s t (Expr-F.Num k) = λ h. let f = fold-roll-Expr (List ℤ → Option ℤ) node_value (Expr-F.Num k) in rw f refl
value-step s t (Expr-F.Var v) = λ h.
    let f = fold-roll-Expr (List ℤ → Option ℤ) node_value (Expr-F.Var v) in
    let g = fold-roll-Expr (List ℕ) node_vars (Expr-F.Var v) in
    rw f (h v (ap (λ (l : List ℕ). has l v) g ∙ has-one v))
value-step s t (Expr-F.Un op a) = λ h.
    let f = fold-roll-Expr (List ℤ → Option ℤ) node_value (Expr-F.Un op a.0) in
    let g = fold-roll-Expr (List ℕ) node_vars (Expr-F.Un op a.0) in
    let one = a.1 (λ v e. h v (ap (λ (l : List ℕ). has l v) g ∙ e)) in
    rw f (ap (λ (o : Option ℤ). option_map (unary op) o) one)
value-step s t (Expr-F.Bin op a c) = λ h.
    let f = fold-roll-Expr (List ℤ → Option ℤ) node_value (Expr-F.Bin op a.0 c.0) in
    let g = fold-roll-Expr (List ℕ) node_vars (Expr-F.Bin op a.0 c.0) in
    let one = a.1 (λ v e. h v (ap (λ (l : List ℕ). has l v) g ∙ has-left _ _ v e)) in
    let two = c.1 (λ v e. h v (ap (λ (l : List ℕ). has l v) g ∙ has-right (vars a.0) _ v e)) in
    rw f (λ i. operate op (one i) (two i))
value-step s t (Expr-F.Pick a c d) = λ h.
    let f = fold-roll-Expr (List ℤ → Option ℤ) node_value (Expr-F.Pick a.0 c.0 d.0) in
    let g = fold-roll-Expr (List ℕ) node_vars (Expr-F.Pick a.0 c.0 d.0) in
    let one = a.1 (λ v e. h v (ap (λ (l : List ℕ). has l v) g ∙ has-left _ _ v e)) in
    let two = c.1 (λ v e. h v (ap (λ (l : List ℕ). has l v) g ∙ has-right (vars a.0) _ v (has-left _ _ v e))) in
    let three = d.1 (λ v e. h v (ap (λ (l : List ℕ). has l v) g ∙ has-right (vars a.0) _ v (has-right (vars c.0) _ v e))) in
    rw f (λ i. pick (one i) (two i) (three i))

-- an expression has one value in two states that agree on its variables
pub one-value : (s t : List ℤ) (e : Expr) → AgreeOn (vars e) s t → value e s ≡ value e t
one-value s t e h = ind-Expr (OneValue s t) (λ x z is. subst (λ c. OneValue s t (roll-Expr c)) is (value-step s t z)) e h

-- a nonzero numeral has its value
abbrev pub IsNonzero : Option ℤ → Type 0
IsNonzero None = ⊥
IsNonzero (Some n) = is_zero n ≡ false

-- an evaluation that may not fault has a value
pub record IsSure (d : Divisions) (v : Option ℤ) : Type 0 where
  pub sure : d.may_fault ≡ false → evaluates v ≡ true
  pub nonzero : d.nonzero ≡ true → IsNonzero v

abbrev Sure : List ℤ → Expr → Type 0
Sure s e = expr_over (length s) e ≡ true → IsSure (divisions e) (value e s)

not-zero : (z : Bool) → not z ≡ true → z ≡ false
not-zero true e = cc
not-zero false e = refl

inside : (s : List ℤ) (v : ℕ) → nat_lt v (length s) ≡ true → evaluates (slice_get s v) ≡ true
inside [] v e = absurd (grind (arith, e))
inside (x ∷ s) zero e = refl
inside (x ∷ s) (suc v) e = inside s v (grind (arith, e))

sure-map : (f : ℤ → ℤ) (p : Option ℤ) → evaluates p ≡ true → evaluates (option_map f p) ≡ true
sure-map f None e = e
sure-map f (Some n) e = refl

sure-two : (f : ℤ → ℤ → Option ℤ) (p q : Option ℤ) → ((m k : ℤ) → evaluates (f m k) ≡ true) → evaluates p ≡ true → evaluates q ≡ true →
    evaluates (option_and_then (λ x. option_and_then (f x) q) p) ≡ true
sure-two f None q h e g = e
sure-two f (Some m) None h e g = g
sure-two f (Some m) (Some k) h e g = h m k

sure-choice : (z : Bool) (p q : Option ℤ) → evaluates p ≡ true → evaluates q ≡ true → evaluates (if z then q else p) ≡ true
sure-choice true p q e g = g
sure-choice false p q e g = e

sure-pick : (o p q : Option ℤ) → evaluates o ≡ true → evaluates p ≡ true → evaluates q ≡ true → evaluates (pick o p q) ≡ true
sure-pick None p q e g h = e
sure-pick (Some n) p q e g h = sure-choice (is_zero n) p q g h

sure-over : (f : ℤ → ℤ → ℤ) (p q : Option ℤ) → evaluates p ≡ true → IsNonzero q →
    evaluates (option_and_then (λ m. option_and_then (λ k. if is_zero k then None else Some (f m k)) q) p) ≡ true
sure-over f None q e h = e
sure-over f (Some m) None e h = absurd h
sure-over f (Some m) (Some k) e h = rw h refl

sure-binary : (op : BinOp) (p q : Option ℤ) → divides op ≡ false → evaluates p ≡ true → evaluates q ≡ true → evaluates (operate op p q) ≡ true
sure-binary b.Add p q d e g = sure-two (binary b.Add) p q (λ m k. refl) e g
sure-binary b.Sub p q d e g = sure-two (binary b.Sub) p q (λ m k. refl) e g
sure-binary b.Mul p q d e g = sure-two (binary b.Mul) p q (λ m k. refl) e g
sure-binary b.Shl p q d e g = sure-two (binary b.Shl) p q (λ m k. refl) e g
sure-binary b.Shr p q d e g = sure-two (binary b.Shr) p q (λ m k. refl) e g
sure-binary b.And p q d e g = sure-two (binary b.And) p q (λ m k. refl) e g
sure-binary b.Or p q d e g = sure-two (binary b.Or) p q (λ m k. refl) e g
sure-binary b.Xor p q d e g = sure-two (binary b.Xor) p q (λ m k. refl) e g
sure-binary b.Lt p q d e g = sure-two (binary b.Lt) p q (λ m k. refl) e g
sure-binary b.Le p q d e g = sure-two (binary b.Le) p q (λ m k. refl) e g
sure-binary b.Gt p q d e g = sure-two (binary b.Gt) p q (λ m k. refl) e g
sure-binary b.Ge p q d e g = sure-two (binary b.Ge) p q (λ m k. refl) e g
sure-binary b.Eq p q d e g = sure-two (binary b.Eq) p q (λ m k. refl) e g
sure-binary b.Ne p q d e g = sure-two (binary b.Ne) p q (λ m k. refl) e g
sure-binary b.Div p q d e g = cc
sure-binary b.Rem p q d e g = cc
sure-binary b.AndAlso p q d e g = sure-pick p _ _ e (sure-map truth q g) refl
sure-binary b.OrElse p q d e g = sure-pick p _ _ e refl (sure-map truth q g)

sure-division : (op : BinOp) (p q : Option ℤ) → divides op ≡ true → evaluates p ≡ true → IsNonzero q → evaluates (operate op p q) ≡ true
sure-division b.Div p q d e h = sure-over (λ m k. wrap (int_div m k)) p q e h
sure-division b.Rem p q d e h = sure-over (λ m k. int_rem m k) p q e h
sure-division op p q d e h = cc

sure-operate : (z : Bool) (op : BinOp) (p q : Option ℤ) (n : Bool) → divides op ≡ z → (z && not n) ≡ false → evaluates p ≡ true → evaluates q ≡ true → (n ≡ true → IsNonzero q) → evaluates (operate op p q) ≡ true
sure-operate true op p q true d h e g k = sure-division op p q d e (k refl)
sure-operate true op p q false d h e g k = cc
sure-operate false op p q n d h e g k = sure-binary op p q d e g

sure-step : (s : List ℤ) → (z : Expr-F ((e : Expr) × Sure s e)) → Sure s (roll-Expr (map-Expr ((e : Expr) × Sure s e) Expr (λ e. e.0) z))
sure-step s (Expr-F.Num k) = λ o.
    let f = fold-roll-Expr (List ℤ → Option ℤ) node_value (Expr-F.Num k) in
    let g = fold-roll-Expr Divisions node_divisions (Expr-F.Num k) in
    rw (f, g) (record { sure = λ e. refl; nonzero = λ e. not-zero (is_zero k) e })
sure-step s (Expr-F.Var v) = λ o.
    let f = fold-roll-Expr (List ℤ → Option ℤ) node_value (Expr-F.Var v) in
    let g = fold-roll-Expr Divisions node_divisions (Expr-F.Var v) in
    let h = sym (fold-roll-Expr Bool (node_expr_over (length s)) (Expr-F.Var v)) ∙ o in
    rw (f, g) (record { sure = λ e. inside s v h; nonzero = λ e. cc })
sure-step s (Expr-F.Un op a) = λ o.
    let f = fold-roll-Expr (List ℤ → Option ℤ) node_value (Expr-F.Un op a.0) in
    let g = fold-roll-Expr Divisions node_divisions (Expr-F.Un op a.0) in
    let h = sym (fold-roll-Expr Bool (node_expr_over (length s)) (Expr-F.Un op a.0)) ∙ o in
    rw (f, g) (record { sure = λ e. sure-map (unary op) (value a.0 s) ((a.1 h).sure e); nonzero = λ e. cc })
sure-step s (Expr-F.Bin op a c) = λ o.
    let f = fold-roll-Expr (List ℤ → Option ℤ) node_value (Expr-F.Bin op a.0 c.0) in
    let g = fold-roll-Expr Divisions node_divisions (Expr-F.Bin op a.0 c.0) in
    let h = sym (fold-roll-Expr Bool (node_expr_over (length s)) (Expr-F.Bin op a.0 c.0)) ∙ o in
    let one = a.1 (and-left _ _ h) in
    let two = c.1 (and-right _ _ h) in
    rw (f, g) (record {
      sure = λ e.
          let both = neither-left ((divisions a.0).may_fault || (divisions c.0).may_fault) _ e in
          sure-operate (divides op) op (value a.0 s) (value c.0 s) (divisions c.0).nonzero refl (neither-right ((divisions a.0).may_fault || (divisions c.0).may_fault) _ e)
          (one.sure (neither-left _ _ both)) (two.sure (neither-right (divisions a.0).may_fault _ both)) two.nonzero;
      nonzero = λ e. cc;
    })
sure-step s (Expr-F.Pick a c d) = λ o.
    let f = fold-roll-Expr (List ℤ → Option ℤ) node_value (Expr-F.Pick a.0 c.0 d.0) in
    let g = fold-roll-Expr Divisions node_divisions (Expr-F.Pick a.0 c.0 d.0) in
    let h : (expr_over (length s) a.0 && (expr_over (length s) c.0 && expr_over (length s) d.0)) ≡ true =
    sym (fold-roll-Expr Bool (node_expr_over (length s)) (Expr-F.Pick a.0 c.0 d.0)) ∙ o in
    let k = and-right (expr_over (length s) a.0) _ h in
    rw (f, g) (record {
      sure = λ e.
          let rest = neither-right (divisions a.0).may_fault _ e in
          sure-pick (value a.0 s) (value c.0 s) (value d.0 s) ((a.1 (and-left _ _ h)).sure (neither-left _ _ e))
          ((c.1 (and-left _ _ k)).sure (neither-left _ _ rest)) ((d.1 (and-right _ _ k)).sure (neither-right (divisions c.0).may_fault _ rest));
      nonzero = λ e. cc;
    })

-- an expression over a state's variables that may not fault has a value in it
pub sure-value : (s : List ℤ) (e : Expr) → expr_over (length s) e ≡ true → may_fault e ≡ false → evaluates (value e s) ≡ true
sure-value s e o h = (ind-Expr (Sure s) (λ x z is. subst (λ c. Sure s (roll-Expr c)) is (sure-step s z)) e o).sure h

-- where a statement leaves the run, if it writes only these: it goes on, with nothing put out, no turn spent, and the rest as it was
pub record IsQuiet (written : List ℕ) (f : Frame) (step : Step) : Type 0 where
  pub going : step.ending ≡ None
  pub outs : step.frame.outs ≡ f.outs
  pub turns : step.frame.turns ≡ f.turns
  pub size : length step.frame.state ≡ length f.state
  pub others : (v : ℕ) → has written v ≡ false → slice_get step.frame.state v ≡ slice_get f.state v

abbrev Quiet : Stmt → Type 0
Quiet s = (f : Frame) → stmt_over (length f.state) s ≡ true → may_leave s ≡ false → IsQuiet (writes s) f (exec s f)

same-quiet : (written : List ℕ) (f : Frame) → IsQuiet written f (goes f)
same-quiet written f = record { going = refl; outs = refl; turns = refl; size = refl; others = λ v e. refl }

-- one that writes fewer
quiet-less : (few more : List ℕ) (f : Frame) (step : Step) → ((v : ℕ) → has more v ≡ false → has few v ≡ false) → IsQuiet few f step → IsQuiet more f step
quiet-less few more f step h q = record { going = q.going; outs = q.outs; turns = q.turns; size = q.size; others = λ v e. q.others v (h v e) }

-- one and then another
quiet-then : (first rest : List ℕ) (f : Frame) (step : Step) (next : Frame → Step) → IsQuiet first f step → IsQuiet rest step.frame (next step.frame) →
    IsQuiet (first ++ rest) f (and_then step next)
quiet-then first rest f step next q r = rw q.going (record {
  going = r.going;
  outs = r.outs ∙ q.outs;
  turns = r.turns ∙ q.turns;
  size = r.size ∙ q.size;
  others = λ v e. r.others v (lacks-right first rest v e) ∙ q.others v (lacks-left first rest v e);
})

other-place : (s : List ℤ) (w v : ℕ) (n : ℤ) → nat_eq v w ≡ false → slice_get (slice_set s w n) v ≡ slice_get s v
other-place [] w v n e = refl
other-place (x ∷ s) zero zero n e = cc
other-place (x ∷ s) zero (suc v) n e = refl
other-place (x ∷ s) (suc w) zero n e = refl
other-place (x ∷ s) (suc w) (suc v) n e = other-place s w v n (grind (arith, e))

lacks-one : (w v : ℕ) → has (w ∷ []) v ≡ false → nat_eq v w ≡ false
lacks-one w v e = neither-left _ _ e

set-quiet : (var : ℕ) (f : Frame) (v : Option ℤ) → evaluates v ≡ true → IsQuiet (var ∷ []) f (on_word v f (λ n. goes (assign f var n)))
set-quiet var f None e = cc
set-quiet var f (Some n) e = record {
  going = refl;
  outs = refl;
  turns = refl;
  size = length-set f.state var n;
  others = λ v e. other-place f.state var v n (lacks-one var v e);
}

choice-quiet : (z : Bool) (a c : List ℕ) (f : Frame) (p q : Step) → IsQuiet a f p → IsQuiet c f q → IsQuiet (a ++ c) f (if z then q else p)
choice-quiet true a c f p q h k = quiet-less c (a ++ c) f q (λ v e. lacks-right a c v e) k
choice-quiet false a c f p q h k = quiet-less a (a ++ c) f p (λ v e. lacks-left a c v e) h

if-quiet : (v : Option ℤ) (a c : List ℕ) (f : Frame) (p q : Step) → evaluates v ≡ true → IsQuiet a f p → IsQuiet c f q →
    IsQuiet (a ++ c) f (on_word v f (λ n. if is_zero n then q else p))
if-quiet None a c f p q e h k = cc
if-quiet (Some n) a c f p q e h k = choice-quiet (is_zero n) a c f p q h k

abbrev Stmts : Type 0
Stmts = List ((s : Stmt) × Quiet s)

abbrev stmts_of : Stmts → List Stmt
stmts_of all = map (λ e. e.0) all

block-quiet : (all : Stmts) (f : Frame) → all_true (map (λ s. stmt_over (length f.state) s) (stmts_of all)) ≡ true → list_any (λ b. b) (map (λ s. may_leave s) (stmts_of all)) ≡ false →
    IsQuiet (flat_map (λ each. each) (map (λ s. writes s) (stmts_of all))) f (in_turn (map (λ s. exec s) (stmts_of all)) f)
block-quiet [] f o e = same-quiet [] f
block-quiet (first ∷ rest) f o e =
    let one = first.1 f (and-left _ _ o) (neither-left _ _ e) in
    let over : all_true (map (λ s. stmt_over (length (exec first.0 f).frame.state) s) (stmts_of rest)) ≡ true =
    rw one.size (and-right (stmt_over (length f.state) first.0) _ o) in
    quiet-then (writes first.0) _ f (exec first.0 f) (in_turn (map (λ s. exec s) (stmts_of rest))) one
    (block-quiet rest (exec first.0 f).frame over (neither-right (may_leave first.0) _ e))

quiet-step : (z : Stmt-F ((s : Stmt) × Quiet s)) → Quiet (roll-Stmt (map-Stmt ((s : Stmt) × Quiet s) Stmt (λ e. e.0) z))
quiet-step Stmt-F.Skip = λ f o e.
    let x = fold-roll-Stmt (Frame → Step) node_exec Stmt-F.Skip in
    rw (ap (λ (g : Frame → Step). g f) x) (same-quiet _ f)
quiet-step (Stmt-F.Set var it) = λ f o e.
    let x = ap (λ (g : Frame → Step). g f) (fold-roll-Stmt (Frame → Step) node_exec (Stmt-F.Set var it)) in
    let w = fold-roll-Stmt (List ℕ) node_writes (Stmt-F.Set var it) in
    let over : (nat_lt var (length f.state) && expr_over (length f.state) it) ≡ true = sym (fold-roll-Stmt Bool (node_stmt_over (length f.state)) (Stmt-F.Set var it)) ∙ o in
    let stays : may_fault it ≡ false = sym (fold-roll-Stmt Bool node_may_leave (Stmt-F.Set var it)) ∙ e in
    rw (x, w) (set-quiet var f (value it f.state) (sure-value f.state it (and-right (nat_lt var (length f.state)) _ over) stays))
quiet-step (Stmt-F.If test chosen None) = λ f o e.
    let x = ap (λ (g : Frame → Step). g f) (fold-roll-Stmt (Frame → Step) node_exec (Stmt-F.If test chosen.0 None)) in
    let w = fold-roll-Stmt (List ℕ) node_writes (Stmt-F.If test chosen.0 None) in
    let over : (expr_over (length f.state) test && (stmt_over (length f.state) chosen.0 && true)) ≡ true =
    sym (fold-roll-Stmt Bool (node_stmt_over (length f.state)) (Stmt-F.If test chosen.0 None)) ∙ o in
    let stays : (may_fault test || (may_leave chosen.0 || false)) ≡ false = sym (fold-roll-Stmt Bool node_may_leave (Stmt-F.If test chosen.0 None)) ∙ e in
    let rest = and-right (expr_over (length f.state) test) _ over in
    let still = neither-right (may_fault test) _ stays in
    rw (x, w) (if-quiet (value test f.state) (writes chosen.0) [] f (exec chosen.0 f) (goes f)
    (sure-value f.state test (and-left (expr_over (length f.state) test) _ over) (neither-left (may_fault test) _ stays))
    (chosen.1 f (and-left (stmt_over (length f.state) chosen.0) _ rest) (neither-left (may_leave chosen.0) _ still))
    (same-quiet [] f))
quiet-step (Stmt-F.If test chosen (Some other)) = λ f o e.
    let x = ap (λ (g : Frame → Step). g f) (fold-roll-Stmt (Frame → Step) node_exec (Stmt-F.If test chosen.0 (Some other.0))) in
    let w = fold-roll-Stmt (List ℕ) node_writes (Stmt-F.If test chosen.0 (Some other.0)) in
    let over : (expr_over (length f.state) test && (stmt_over (length f.state) chosen.0 && stmt_over (length f.state) other.0)) ≡ true =
    sym (fold-roll-Stmt Bool (node_stmt_over (length f.state)) (Stmt-F.If test chosen.0 (Some other.0))) ∙ o in
    let stays : (may_fault test || (may_leave chosen.0 || may_leave other.0)) ≡ false = sym (fold-roll-Stmt Bool node_may_leave (Stmt-F.If test chosen.0 (Some other.0))) ∙ e in
    let rest = and-right (expr_over (length f.state) test) _ over in
    let still = neither-right (may_fault test) _ stays in
    rw (x, w) (if-quiet (value test f.state) (writes chosen.0) (writes other.0) f (exec chosen.0 f) (exec other.0 f)
    (sure-value f.state test (and-left (expr_over (length f.state) test) _ over) (neither-left (may_fault test) _ stays))
    (chosen.1 f (and-left (stmt_over (length f.state) chosen.0) _ rest) (neither-left (may_leave chosen.0) _ still))
    (other.1 f (and-right (stmt_over (length f.state) chosen.0) _ rest) (neither-right (may_leave chosen.0) _ still)))
quiet-step (Stmt-F.While test body) = λ f o e. absurd (cc (sym (fold-roll-Stmt Bool node_may_leave (Stmt-F.While test body.0)) ∙ e))
quiet-step (Stmt-F.Return it) = λ f o e. absurd (cc (sym (fold-roll-Stmt Bool node_may_leave (Stmt-F.Return it)) ∙ e))
quiet-step (Stmt-F.Out it) = λ f o e. absurd (cc (sym (fold-roll-Stmt Bool node_may_leave (Stmt-F.Out it)) ∙ e))
quiet-step (Stmt-F.Assert it) = λ f o e. absurd (cc (sym (fold-roll-Stmt Bool node_may_leave (Stmt-F.Assert it)) ∙ e))
quiet-step (Stmt-F.Block all) = λ f o e.
    let x = ap (λ (g : Frame → Step). g f) (fold-roll-Stmt (Frame → Step) node_exec (Stmt-F.Block (stmts_of all))) in
    let w = fold-roll-Stmt (List ℕ) node_writes (Stmt-F.Block (stmts_of all)) in
    let over : all_true (map (λ s. stmt_over (length f.state) s) (stmts_of all)) ≡ true = sym (fold-roll-Stmt Bool (node_stmt_over (length f.state)) (Stmt-F.Block (stmts_of all))) ∙ o in
    let stays : list_any (λ b. b) (map (λ s. may_leave s) (stmts_of all)) ≡ false = sym (fold-roll-Stmt Bool node_may_leave (Stmt-F.Block (stmts_of all))) ∙ e in
    rw (x, w) (block-quiet all f over stays)
quiet-step (Stmt-F.Marked mark body) = λ f o e.
    let x = ap (λ (g : Frame → Step). g f) (fold-roll-Stmt (Frame → Step) node_exec (Stmt-F.Marked mark body.0)) in
    let w = fold-roll-Stmt (List ℕ) node_writes (Stmt-F.Marked mark body.0) in
    let over = sym (fold-roll-Stmt Bool (node_stmt_over (length f.state)) (Stmt-F.Marked mark body.0)) ∙ o in
    let stays = sym (fold-roll-Stmt Bool node_may_leave (Stmt-F.Marked mark body.0)) ∙ e in
    rw (x, w) (body.1 f over stays)

pub is-quiet : (s : Stmt) → Quiet s
is-quiet s = ind-Stmt Quiet (λ x z is. subst (λ c. Quiet (roll-Stmt c)) is (quiet-step z)) s
