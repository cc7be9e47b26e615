-- Two runs of a program in lockstep: that of the input from which a slice is made, and that of another input on which the literals
-- of the slice hold. Where they meet, the second has in each needed variable the value that the variable's term has on its input.
use Rattle.std.proofs.Common.{◌≡◌, ℕ, zero, suc, ◌+◌, ◌-◌, ◌==◌, ◌<◌, Bool, true, false, ◌&&◌, ◌||◌, not, List, [], ◌∷◌, ◌++◌, length, Option, Some, None, ℤ, All, if◌then◌else◌, refl, sym, ap, ◌∙◌, subst, arith, slice_get, slice_set, map, nat_lt, nat_eq, replicate, append-nil, append_assoc}
use Rattle.std.specs.Option.{option_map}
use Rattle.std.specs.List.{list_any}
use Rattle.std.proofs.lemmas.List.{length-set, map-append}
use Rattle.std.proofs.lemmas.Option.{slice_get-map}
use Rattle.prv_model.specs.Words.{IsWord, is_zero, flag}
use Rattle.prv_model.specs.Expressions.{value}
use Rattle.prv_model.specs.Programs.{expr_over, stmt_over, node_stmt_over, all_true, stmt_count}
use Rattle.prv_model.specs.Statements.{Frame, Step, exec, node_exec, goes, ends, spend, put, assign, after_ending, on_word, loop, in_turn}
use Rattle.prv_model.specs.Terms.{IsTerm, term_value, holds}
use Rattle.prv_model.proofs.TermLemmas.{holds-append}
use Rattle.prv_model.specs.declared.expr.Expr.{Expr}
use Rattle.prv_model.specs.declared.outcome.Ending.{Ending}
use Rattle.prv_model.specs.declared.outcome.Ending.TheVariants.{Returned, Fault, Assert, Long}
use Rattle.prv_model.specs.declared.stmt.Stmt.{Stmt, roll-Stmt, map-Stmt}
use Rattle.prv_model.specs.declared.stmt.Stmt.TheOpen.{Stmt-F}
use Rattle.prv_model.specs.declared.stmt.Stmt.TheFolds.{fold-roll-Stmt, para-roll-Stmt, ind-Stmt}
use Rattle.prv_model.specs.declared.term.Term.{Term}
use Rattle.prv_pool.specs.Folding.{negation, truth as truth_of}
use Rattle.prv_pool.proofs.FoldLaws.{negation-value, truth-value, truth-term}
use Rattle.prv_dep.specs.Dependences.{has, vars, may_fault, may_leave, node_may_leave, writes, node_writes, evaluates, branch_any, branch_list}
use Rattle.prv_dep.proofs.DependenceLaws.{and-left, and-right, or-left, or-right, neither-left, neither-right, one-value, sure-value, is-quiet}
use Rattle.prv_run.specs.Runs.{Run, Use, runs, node_runs, evaluation, loop_run, branch, follow, where_goes, in_turn_run}
use Rattle.prv_sym.specs.Symbols.{symbol, after, after_use}
use Rattle.prv_sym.specs.Judgements.{AreTerms, IsSaid, state_of, has_value}
use Rattle.prv_sym.proofs.SymbolLaws.{symbol-said, zero-flag}
use Rattle.prv_select.specs.Choices.{Chosen, with_vars, without, keeps, needs, matters, choose, count, no_mark}
use Rattle.prv_general.specs.Slices.{branch_condition, literals_of, literals, outs_of, out_terms}
use Rattle.prv_general.proofs.Environments.{is-after}

-- the two runs stand alike: g is the frame of the one, f that of the other
pub record Meets (y : List ℤ) (env : List Term) (needed : ℕ → Bool) (g f : Frame) : Type 0 where
  pub turns : f.turns ≡ g.turns
  pub mine : length g.state ≡ length env
  pub size : length f.state ≡ length env
  pub agree : (v : ℕ) → needed v ≡ true → slice_get f.state v ≡ slice_get (state_of env y) v

-- both leave a statement alike, the other having put out the values of the terms
pub record Locked (y : List ℤ) (r : Run) (env : List Term) (needed : ℕ → Bool) (f : Frame) (p q : Step) : Type 0 where
  pub ending : q.ending ≡ p.ending
  pub outs : q.frame.outs ≡ f.outs ++ map (λ t. term_value t y) (out_terms r env)
  pub meets : Meets y (after r env) needed p.frame q.frame

-- fewer variables are needed
meets-less : (y : List ℤ) (env : List Term) (few more : ℕ → Bool) (g f : Frame) → ((v : ℕ) → few v ≡ true → more v ≡ true) → Meets y env more g f → Meets y env few g f
meets-less y env few more g f h m = record { turns = m.turns; mine = m.mine; size = m.size; agree = λ v e. m.agree v (h v e) }

-- what a literal says that is a flag
flag-says : (p : Bool) (v : ℤ) → v ≡ flag p → not (is_zero v) ≡ true → p ≡ true
flag-says true v e h = refl
flag-says false v e h = let k : not (is_zero (flag false)) ≡ true = ap (λ (z : ℤ). not (is_zero z)) (sym e) ∙ h in cc k

not-true : (p : Bool) → not p ≡ true → p ≡ false
not-true true e = cc e
not-true false e = refl

no-value : (w : Option ℤ) → has_value w ≡ false → w ≡ None
no-value None e = refl
no-value (Some k) e = cc e

some-value : (w : Option ℤ) → has_value w ≡ true → (k : ℤ) × (w ≡ Some k)
some-value None e = cc e
some-value (Some k) e = (k, refl)

faults-alike : (n : ℕ) (y : List ℤ) (env : List Term) (e : Expr) → All IsWord y → IsSaid n y env e → holds (negation (symbol e env).safe ∷ []) y ≡ true → value e (state_of env y) ≡ None
faults-alike n y env e words said h =
    let w = value e (state_of env y) in
    let at : term_value (negation (symbol e env).safe) y ≡ flag (not (has_value w)) =
    negation-value n (symbol e env).safe y said.over.safe words ∙ rw (said.judged.safe, zero-flag (has_value w)) refl in
    no-value w (not-true (has_value w) (flag-says (not (has_value w)) _ at (and-left _ _ h)))

goes-alike : (n : ℕ) (y : List ℤ) (env : List Term) (e : Expr) (rest : List Term) → IsSaid n y env e → holds ((symbol e env).safe ∷ rest) y ≡ true →
    (k : ℤ) × (value e (state_of env y) ≡ Some k)
goes-alike n y env e rest said h =
    let w = value e (state_of env y) in
    some-value w (flag-says (has_value w) _ said.judged.safe (and-left _ _ h))

branch_condition-says : (n : ℕ) (y : List ℤ) (t : Term) (z : Bool) (k : ℤ) → All IsWord y → IsTerm n t → term_value t y ≡ k →
    not (is_zero (term_value (if z then negation (truth_of t) else truth_of t) y)) ≡ true → is_zero k ≡ z
branch_condition-says n y t true k words term is h =
    let at : term_value (negation (truth_of t)) y ≡ flag (not (not (is_zero k))) =
    negation-value n (truth_of t) y (truth-term n t term) words ∙ rw (truth-value n t y term words, is, zero-flag (not (is_zero k))) refl in
    not-not-true (is_zero k) (flag-says (not (not (is_zero k))) _ at h)
  where
    not-not-true : (p : Bool) → not (not p) ≡ true → p ≡ true
    not-not-true true e = refl
    not-not-true false e = e
branch_condition-says n y t false k words term is h =
    let at : term_value (truth_of t) y ≡ flag (not (is_zero k)) = truth-value n t y term words ∙ rw is refl in
    not-true (is_zero k) (flag-says (not (is_zero k)) _ at h)

-- the second of two literals
second-holds : (s t : Term) (y : List ℤ) → holds (s ∷ (t ∷ [])) y ≡ true → not (is_zero (term_value t y)) ≡ true
second-holds s t y h = and-left _ _ (and-right (not (is_zero (term_value s y))) _ h)

-- an expression has one value for the other run, by the variables that are needed for it
value-alike : (y : List ℤ) (env : List Term) (e : Expr) (needed : ℕ → Bool) (g f : Frame) → Meets y env (with_vars e needed) g f → value e f.state ≡ value e (state_of env y)
value-alike y env e needed g f m = one-value f.state (state_of env y) e (λ v h. m.agree v (or-right (needed v) _ h))

pub without-vars : (y : List ℤ) (env : List Term) (e : Expr) (needed : ℕ → Bool) (g f : Frame) → Meets y env (with_vars e needed) g f → Meets y env needed g f
without-vars y env e needed g f m = meets-less y env needed (with_vars e needed) g f (λ v h. or-left (needed v) (has (vars e) v) h) m

-- nothing more was put out
no-outs : (outs : List ℤ) → outs ≡ outs ++ []
no-outs outs = sym (append-nil outs)

both-fault : (y : List ℤ) (r : Run) (env : List Term) (needed : ℕ → Bool) (g f : Frame) → out_terms r env ≡ [] → after r env ≡ env → Meets y env needed g f →
    Locked y r env needed f (ends g Fault) (ends f Fault)
both-fault y r env needed g f o a m = record {
  ending = refl;
  outs = no-outs f.outs ∙ ap (λ (ts : List Term). f.outs ++ map (λ t. term_value t y) ts) (sym o);
  meets = let P : List Term → Type 0 = λ e. Meets y e needed g f in subst P (sym a) m;
}

pub map-set : (y : List ℤ) (env : List Term) (v : ℕ) (t : Term) → state_of (slice_set env v t) y ≡ slice_set (state_of env y) v (term_value t y)
map-set y [] v t = refl
map-set y (x ∷ env) zero t = refl
map-set y (x ∷ env) (suc v) t = ap (λ (l : List ℤ). term_value x y ∷ l) (map-set y env v t)

same-place : (s : List ℤ) (v : ℕ) (n : ℤ) → v < length s → slice_get (slice_set s v n) v ≡ Some n
same-place [] v n h = absurd (omega (arith, h))
same-place (x ∷ s) zero n h = refl
same-place (x ∷ s) (suc v) n h = same-place s v n (omega (arith, h))

other-place : (s : List ℤ) (w v : ℕ) (n : ℤ) → nat_eq v w ≡ false → slice_get (slice_set s w n) v ≡ slice_get s v
other-place [] w v n e = refl
other-place (x ∷ s) zero zero n e = cc
other-place (x ∷ s) zero (suc v) n e = refl
other-place (x ∷ s) (suc w) zero n e = refl
other-place (x ∷ s) (suc w) (suc v) n e = other-place s w v n (grind (arith, e))

state-length : (env : List Term) (y : List ℤ) → length (state_of env y) ≡ length env
state-length [] y = refl
state-length (t ∷ env) y = ap (λ (l : ℕ). suc l) (state-length env y)

-- the variable is the one that was set, or another
set-agree : (y : List ℤ) (env : List Term) (t : Term) (state : List ℤ) (var : ℕ) (k : ℤ) (needed : ℕ → Bool) → var < length env → length state ≡ length env → (needed var ≡ true → term_value t y ≡ k) →
    ((v : ℕ) → nat_eq var v ≡ false → needed v ≡ true → slice_get state v ≡ slice_get (state_of env y) v) →
    (v : ℕ) → needed v ≡ true → slice_get (slice_set state var k) v ≡ slice_get (state_of (slice_set env var t) y) v
set-agree y env t state var k needed low size is others v e = rw (map-set y env var t) (elim (nat_eq var v) as (λ z. nat_eq var v ≡ z → slice_get (slice_set state var k) v ≡ slice_get (slice_set (state_of env y) var (term_value t y)) v) [
  | true ↦ λ same.
      let P : ℕ → Type 0 = λ u. slice_get (slice_set state var k) u ≡ slice_get (slice_set (state_of env y) var (term_value t y)) u in
      let eq : var ≡ v = grind (arith, same) in
      subst P eq (same-place state var k (omega (arith, low, size)) ∙ ap (λ (n : ℤ). Some n) (sym (is (let Q : ℕ → Type 0 = λ u. needed u ≡ true in subst Q (sym eq) e)))
      ∙ sym (same-place (state_of env y) var (term_value t y) (subst (λ (l : ℕ). var < l) (sym (state-length env y)) low)))
  | false ↦ λ other.
      let flip : nat_eq v var ≡ false = grind (arith, other) in
      other-place state var v k flip ∙ others v other e ∙ sym (other-place (state_of env y) var v (term_value t y) flip)
] refl)

set-meets : (y : List ℤ) (env : List Term) (t : Term) (g f : Frame) (var : ℕ) (m k : ℤ) (needed : ℕ → Bool) → var < length env → (needed var ≡ true → term_value t y ≡ k) → f.turns ≡ g.turns →
    length g.state ≡ length env → length f.state ≡ length env →
    ((v : ℕ) → nat_eq var v ≡ false → needed v ≡ true → slice_get f.state v ≡ slice_get (state_of env y) v) →
    Meets y (slice_set env var t) needed (assign g var m) (assign f var k)
set-meets y env t g f var m k needed low is turns mine size others = record {
  turns = turns;
  mine = length-set g.state var m ∙ mine ∙ sym (length-set env var t);
  size = length-set f.state var k ∙ size ∙ sym (length-set env var t);
  agree = set-agree y env t f.state var k needed low size is others;
}

-- a variable is set
pub set-locked : (n : ℕ) (y : List ℤ) (words : All IsWord y) (num var : ℕ) (e : Expr) (v : Option ℤ) (g f : Frame) (env : List Term) (needed : ℕ → Bool) → var < length env → expr_over (length env) e ≡ true →
    IsSaid n y env e → (z : Bool) → keeps (Use.Sets var) e v needed ≡ z →
    Meets y env (if z then needs (Use.Sets var) e v needed else needed) g f →
    holds (if z then literals_of (Use.Sets var) e v env else []) y ≡ true →
    Locked y (Run.Eval num (Use.Sets var) e v) env needed f (on_word v g (λ m. goes (assign g var m))) (on_word (value e f.state) f (λ k. goes (assign f var k)))
set-locked n y words num var e None g f env needed low over said true kept m h =
    let none : value e f.state ≡ None = value-alike y env e needed g f m ∙ faults-alike n y env e words said h in
    rw none (both-fault y (Run.Eval num (Use.Sets var) e None) env needed g f refl refl (without-vars y env e needed g f m))
set-locked n y words num var e None g f env needed low over said false kept m h = cc kept
set-locked n y words num var e (Some a) g f env needed low over said true kept m h =
    let found = goes-alike n y env e [] said h in
    let some : value e f.state ≡ Some found.0 = value-alike y env e (without var needed) g f m ∙ found.1 in
    rw some (record {
      ending = refl;
      outs = no-outs f.outs;
      meets = set-meets y env (symbol e env).term g f var a found.0 needed low (λ u. said.judged.term found.0 found.1) m.turns m.mine m.size
          (λ v other e2. m.agree v (or-left (without var needed v) (has (vars e) v) (rw (other, e2) refl)));
    })
set-locked n y words num var e (Some a) g f env needed low over said false kept m h =
    let sure : evaluates (value e f.state) ≡ true = sure-value f.state e (ap (λ (l : ℕ). expr_over l e) m.size ∙ over) (neither-right (needed var) _ kept) in
    unneeded (value e f.state) sure
  where
    unneeded : (w : Option ℤ) → evaluates w ≡ true →
        Locked y (Run.Eval num (Use.Sets var) e (Some a)) env needed f (goes (assign g var a)) (on_word w f (λ k. goes (assign f var k)))
    unneeded None sure = cc sure
    unneeded (Some k) sure = record { ending = refl; outs = no-outs f.outs; meets = set-meets y env (symbol e env).term g f var a k needed low (λ u. cc (u, neither-left (needed var) _ kept)) m.turns m.mine m.size (λ v other e2. m.agree v e2) }

abbrev either : Bool → Chosen → Chosen → Chosen
either z a b = if z then a else b

-- the same, with what the choice says of it
set-both : (n : ℕ) (y : List ℤ) (words : All IsWord y) (num var : ℕ) (e : Expr) (v : Option ℤ) (g f : Frame) (env : List Term) (needed : ℕ → Bool) → var < length env → expr_over (length env) e ≡ true →
    IsSaid n y env e → Meets y env (choose (Run.Eval num (Use.Sets var) e v) needed).needed g f → holds (literals (Run.Eval num (Use.Sets var) e v) env needed) y ≡ true →
    Locked y (Run.Eval num (Use.Sets var) e v) env needed f (on_word v g (λ m. goes (assign g var m))) (on_word (value e f.state) f (λ k. goes (assign f var k)))
set-both n y words num var e v g f env needed low over said m h =
    at (keeps (Use.Sets var) e v needed) refl m h
  where
    at : (z : Bool) → keeps (Use.Sets var) e v needed ≡ z →
        Meets y env (either z (record { needed = needs (Use.Sets var) e v needed; kept = true ∷ []; marks = no_mark }) (record { needed = needed; kept = false ∷ []; marks = no_mark })).needed g f →
        holds (if z then literals_of (Use.Sets var) e v env else []) y ≡ true →
        Locked y (Run.Eval num (Use.Sets var) e v) env needed f (on_word v g (λ m. goes (assign g var m))) (on_word (value e f.state) f (λ k. goes (assign f var k)))
    at true is meets lits = set-locked n y words num var e v g f env needed low over said true is meets lits
    at false is meets lits = set-locked n y words num var e v g f env needed low over said false is meets lits

-- a value is put out, and the run ends or goes on
put-locked : (n : ℕ) (y : List ℤ) (num : ℕ) (use_ : Use) (e : Expr) (g f : Frame) (env : List Term) (needed : ℕ → Bool) (a k : ℤ) (how : Option Ending) →
    outs_of use_ e (Some a) env ≡ (symbol e env).term ∷ [] → after_use use_ e (Some a) env ≡ env → term_value (symbol e env).term y ≡ k → Meets y env needed g f →
    Locked y (Run.Eval num use_ e (Some a)) env needed f (record { frame = put g a; ending = how }) (record { frame = put f k; ending = how })
put-locked n y num use_ e g f env needed a k how o s is m = record {
  ending = refl;
  outs = ap (λ (l : ℤ). f.outs ++ l ∷ []) (sym is) ∙ ap (λ (ts : List Term). f.outs ++ map (λ t. term_value t y) ts) (sym o);
  meets = let P : List Term → Type 0 = λ e. Meets y e needed (put g a) (put f k) in subst P (sym s) (record { turns = m.turns; mine = m.mine; size = m.size; agree = m.agree });
}

out-locked : (n : ℕ) (y : List ℤ) (words : All IsWord y) (num : ℕ) (e : Expr) (v : Option ℤ) (g f : Frame) (env : List Term) (needed : ℕ → Bool) → IsSaid n y env e →
    Meets y env (with_vars e needed) g f → holds (literals_of Use.Puts e v env) y ≡ true →
    Locked y (Run.Eval num Use.Puts e v) env needed f (on_word v g (λ m. goes (put g m))) (on_word (value e f.state) f (λ k. goes (put f k)))
out-locked n y words num e None g f env needed said m h =
    let none : value e f.state ≡ None = value-alike y env e needed g f m ∙ faults-alike n y env e words said h in
    rw none (both-fault y (Run.Eval num Use.Puts e None) env needed g f refl refl (without-vars y env e needed g f m))
out-locked n y words num e (Some a) g f env needed said m h =
    let found = goes-alike n y env e [] said h in
    let some : value e f.state ≡ Some found.0 = value-alike y env e needed g f m ∙ found.1 in
    rw some (put-locked n y num Use.Puts e g f env needed a found.0 None refl refl (said.judged.term found.0 found.1) (without-vars y env e needed g f m))

return-locked : (n : ℕ) (y : List ℤ) (words : All IsWord y) (num : ℕ) (e : Expr) (v : Option ℤ) (g f : Frame) (env : List Term) (needed : ℕ → Bool) → IsSaid n y env e →
    Meets y env (with_vars e needed) g f → holds (literals_of Use.Returns e v env) y ≡ true →
    Locked y (Run.Eval num Use.Returns e v) env needed f (on_word v g (λ m. ends (put g m) Returned)) (on_word (value e f.state) f (λ k. ends (put f k) Returned))
return-locked n y words num e None g f env needed said m h =
    let none : value e f.state ≡ None = value-alike y env e needed g f m ∙ faults-alike n y env e words said h in
    rw none (both-fault y (Run.Eval num Use.Returns e None) env needed g f refl refl (without-vars y env e needed g f m))
return-locked n y words num e (Some a) g f env needed said m h =
    let found = goes-alike n y env e [] said h in
    let some : value e f.state ≡ Some found.0 = value-alike y env e needed g f m ∙ found.1 in
    rw some (put-locked n y num Use.Returns e g f env needed a found.0 (Some Returned) refl refl (said.judged.term found.0 found.1) (without-vars y env e needed g f m))

-- a test or an assertion decides alike
decides-alike : (n : ℕ) (y : List ℤ) (env : List Term) (e : Expr) (a : ℤ) → All IsWord y → IsSaid n y env e → holds ((symbol e env).safe ∷ (branch_condition a (symbol e env).term ∷ [])) y ≡ true →
    (k : ℤ) × (value e (state_of env y) ≡ Some k) × (is_zero k ≡ is_zero a)
decides-alike n y env e a words said h =
    let found = goes-alike n y env e (branch_condition a (symbol e env).term ∷ []) said h in (
      found.0,
      found.1,
      branch_condition-says n y (symbol e env).term (is_zero a) found.0 words said.over.term (said.judged.term found.0 found.1)
          (second-holds (symbol e env).safe (branch_condition a (symbol e env).term) y h),
    )

assert-locked : (n : ℕ) (y : List ℤ) (words : All IsWord y) (num : ℕ) (e : Expr) (v : Option ℤ) (g f : Frame) (env : List Term) (needed : ℕ → Bool) → IsSaid n y env e →
    Meets y env (with_vars e needed) g f → holds (literals_of Use.Asserts e v env) y ≡ true →
    Locked y (Run.Eval num Use.Asserts e v) env needed f (on_word v g (λ m. if is_zero m then ends g Assert else goes g)) (on_word (value e f.state) f (λ k. if is_zero k then ends f Assert else goes f))
assert-locked n y words num e None g f env needed said m h =
    let none : value e f.state ≡ None = value-alike y env e needed g f m ∙ faults-alike n y env e words said h in
    rw none (both-fault y (Run.Eval num Use.Asserts e None) env needed g f refl refl (without-vars y env e needed g f m))
assert-locked n y words num e (Some a) g f env needed said m h =
    let found = decides-alike n y env e a words said h in
    let some : value e f.state ≡ Some found.0 = value-alike y env e needed g f m ∙ found.1 in
    let still = without-vars y env e needed g f m in
    rw (some, found.2) (elim (is_zero a) as (λ z. Locked y (Run.Eval num Use.Asserts e (Some a)) env needed f (if z then ends g Assert else goes g) (if z then ends f Assert else goes f)) [
      | true ↦ record { ending = refl; outs = no-outs f.outs; meets = still }
      | false ↦ record { ending = refl; outs = no-outs f.outs; meets = still }
    ])

-- one run and then another
seq-locked : (y : List ℤ) (a : Run) (more : Frame → Run) (env : List Term) (needed : ℕ → Bool) (f : Frame) (pe qe : Option Ending) (pf qf : Frame) (next : Frame → Step) →
    Locked y a env (choose (where_goes pe pf more) needed).needed f (record { frame = pf; ending = pe }) (record { frame = qf; ending = qe }) →
    holds (literals (where_goes pe pf more) (after a env) needed) y ≡ true →
    (Meets y (after a env) (choose (more pf) needed).needed pf qf → holds (literals (more pf) (after a env) needed) y ≡ true → Locked y (more pf) (after a env) needed qf (next pf) (next qf)) →
    Locked y (Run.Then a (where_goes pe pf more)) env needed f (after_ending pe pf next) (after_ending qe qf next)
seq-locked y a more env needed f None None pf qf next one h two =
    let rest = two one.meets h in
    record {
      ending = rest.ending;
      outs = rest.outs ∙ ap (λ (l : List ℤ). l ++ map (λ t. term_value t y) (out_terms (more pf) (after a env))) one.outs
          ∙ append_assoc f.outs _ _ ∙ ap (λ (l : List ℤ). f.outs ++ l) (sym (map-append (λ t. term_value t y) (out_terms a env) (out_terms (more pf) (after a env))));
      meets = rest.meets;
    }
seq-locked y a more env needed f (Some how) (Some how2) pf qf next one h two = record {
  ending = one.ending;
  outs = one.outs ∙ ap (λ (l : List Term). f.outs ++ map (λ t. term_value t y) l) (sym (append-nil (out_terms a env)));
  meets = one.meets;
}
seq-locked y a more env needed f None (Some how) pf qf next one h two = cc one.ending
seq-locked y a more env needed f (Some how) None pf qf next one h two = cc one.ending

-- a test, and the branch that it takes
test-locked : (y : List ℤ) (num : ℕ) (test : Expr) (v : Option ℤ) (x : Run) (env : List Term) (needed : ℕ → Bool) (f : Frame) (p q : Step) → Locked y x env needed f p q →
    Locked y (Run.Then (Run.Eval num Use.Tests test v) x) env needed f p q
test-locked y num test None x env needed f p q l = record { ending = l.ending; outs = l.outs; meets = l.meets }
test-locked y num test (Some a) x env needed f p q l = record { ending = l.ending; outs = l.outs; meets = l.meets }

if-locked : (n : ℕ) (y : List ℤ) (words : All IsWord y) (num : ℕ) (test : Expr) (v : Option ℤ) (a b : Run) (g f : Frame) (env : List Term) (needed : ℕ → Bool) (pa pb qa qb : Step) → IsSaid n y env test →
    Meets y env (with_vars test (choose (branch v a b) needed).needed) g f → holds (literals_of Use.Tests test v env ++ literals (branch v a b) env needed) y ≡ true →
    (Meets y env (choose a needed).needed g f → holds (literals a env needed) y ≡ true → Locked y a env needed f pa qa) →
    (Meets y env (choose b needed).needed g f → holds (literals b env needed) y ≡ true → Locked y b env needed f pb qb) →
    Locked y (Run.Then (Run.Eval num Use.Tests test v) (branch v a b)) env needed f (on_word v g (λ m. if is_zero m then pb else pa)) (on_word (value test f.state) f (λ k. if is_zero k then qb else qa))
if-locked n y words num test None a b g f env needed pa pb qa qb said m h ha hb =
    let lit = and-left _ _ (sym (holds-append (literals_of Use.Tests test None env) [] y) ∙ h) in
    let none : value test f.state ≡ None = value-alike y env test needed g f m ∙ faults-alike n y env test words said lit in
    rw none (both-fault y (Run.Then (Run.Eval num Use.Tests test None) Run.Idle) env needed g f refl refl (without-vars y env test needed g f m))
if-locked n y words num test (Some c) a b g f env needed pa pb qa qb said m h ha hb =
    let both = sym (holds-append (literals_of Use.Tests test (Some c) env) (literals (branch (Some c) a b) env needed) y) ∙ h in
    let found = decides-alike n y env test c words said (and-left _ _ both) in
    let rest : holds (literals (branch (Some c) a b) env needed) y ≡ true = and-right (holds (literals_of Use.Tests test (Some c) env) y) _ both in
    let some : value test f.state ≡ Some found.0 = value-alike y env test (choose (branch (Some c) a b) needed).needed g f m ∙ found.1 in
    let still = without-vars y env test (choose (branch (Some c) a b) needed).needed g f m in
    rw (some, found.2) (at (is_zero c) still rest)
  where
    at : (z : Bool) → Meets y env (choose (if z then b else a) needed).needed g f → holds (literals (if z then b else a) env needed) y ≡ true →
        Locked y (Run.Then (Run.Eval num Use.Tests test (Some c)) (if z then b else a)) env needed f (if z then pb else pa) (if z then qb else qa)
    at true still rest = test-locked y num test (Some c) b env needed f pb qb (hb still rest)
    at false still rest = test-locked y num test (Some c) a env needed f pa qa (ha still rest)

-- where nothing is run the frames stay
idle-locked : (y : List ℤ) (env : List Term) (needed : ℕ → Bool) (g f : Frame) (how : Option Ending) → Meets y env needed g f → Locked y Run.Idle env needed f (record { frame = g; ending = how }) (record { frame = f; ending = how })
idle-locked y env needed g f how m = record { ending = refl; outs = no-outs f.outs; meets = m }

spend-meets : (y : List ℤ) (env : List Term) (needed : ℕ → Bool) (g f : Frame) → Meets y env needed g f → Meets y env needed (spend g) (spend f)
spend-meets y env needed g f m = record { turns = ap (λ (t : ℕ). t - 1) m.turns; mine = m.mine; size = m.size; agree = m.agree }

-- one turn of a loop
turn-locked : (n : ℕ) (y : List ℤ) (words : All IsWord y) (num : ℕ) (test : Expr) (x : Run) (g f : Frame) (env : List Term) (needed : ℕ → Bool) (pn qn : Step) → IsSaid n y env test →
    Meets y env (with_vars test (choose (branch (value test g.state) (if g.turns == 0 then Run.Idle else x) Run.Idle) needed).needed) g f →
    holds (literals_of Use.Tests test (value test g.state) env ++ literals (branch (value test g.state) (if g.turns == 0 then Run.Idle else x) Run.Idle) env needed) y ≡ true →
    (Meets y env (choose x needed).needed (spend g) (spend f) → holds (literals x env needed) y ≡ true → Locked y x env needed f pn qn) →
    Locked y (Run.Then (Run.Eval num Use.Tests test (value test g.state)) (branch (value test g.state) (if g.turns == 0 then Run.Idle else x) Run.Idle)) env needed f
    (on_word (value test g.state) g (λ m. if is_zero m then goes g else if g.turns == 0 then ends g Long else pn))
    (on_word (value test f.state) f (λ k. if is_zero k then goes f else if f.turns == 0 then ends f Long else qn))
turn-locked n y words num test x g f env needed pn qn said m h hx =
    if-locked n y words num test (value test g.state) (if g.turns == 0 then Run.Idle else x) Run.Idle g f env needed _ _ _ _ said m h
    (λ still rest.
    let same : (f.turns == 0) ≡ (g.turns == 0) = ap (λ (t : ℕ). t == 0) m.turns in
    let P : Bool → Type 0 = λ z. Locked y (if g.turns == 0 then Run.Idle else x) env needed f (if g.turns == 0 then ends g Long else pn) (if z then ends f Long else qn) in
    subst P (sym same) (at (g.turns == 0) still rest))
    (λ still rest. idle-locked y env needed g f None still)
  where
    at : (z : Bool) → Meets y env (choose (if z then Run.Idle else x) needed).needed g f → holds (literals (if z then Run.Idle else x) env needed) y ≡ true →
        Locked y (if z then Run.Idle else x) env needed f (if z then ends g Long else pn) (if z then ends f Long else qn)
    at true still rest = idle-locked y env needed g f (Some Long) still
    at false still rest = hx (spend-meets y env (choose x needed).needed g f still) rest

abbrev pub Locks : ℕ → List ℤ → Stmt → Type 0
Locks n y s = (k : ℕ) (g f : Frame) (env : List Term) (needed : ℕ → Bool) → stmt_over (length env) s ≡ true → AreTerms n env →
    Meets y env (choose (runs s k g) needed).needed g f → holds (literals (runs s k g) env needed) y ≡ true → Locked y (runs s k g) env needed f (exec s g) (exec s f)

-- the last test of a loop, behind which no turn is left
last-locked : (n : ℕ) (y : List ℤ) (words : All IsWord y) (num : ℕ) (test : Expr) (v : Option ℤ) (g f : Frame) (env : List Term) (needed : ℕ → Bool) → IsSaid n y env test →
    Meets y env (with_vars test needed) g f → holds (literals_of Use.Tests test v env) y ≡ true →
    Locked y (Run.Eval num Use.Tests test v) env needed f
    (on_word v g (λ m. if is_zero m then goes g else if g.turns == 0 then ends g Long else ends (spend g) Long))
    (on_word (value test f.state) f (λ k. if is_zero k then goes f else if f.turns == 0 then ends f Long else ends (spend f) Long))
last-locked n y words num test None g f env needed said m h =
    let none : value test f.state ≡ None = value-alike y env test needed g f m ∙ faults-alike n y env test words said h in
    rw none (both-fault y (Run.Eval num Use.Tests test None) env needed g f refl refl (without-vars y env test needed g f m))
last-locked n y words num test (Some c) g f env needed said m h =
    let found = decides-alike n y env test c words said h in
    let some : value test f.state ≡ Some found.0 = value-alike y env test needed g f m ∙ found.1 in
    let still = without-vars y env test needed g f m in
    let same : (f.turns == 0) ≡ (g.turns == 0) = ap (λ (t : ℕ). t == 0) m.turns in
    rw (some, found.2) (at (is_zero c) (g.turns == 0) (f.turns == 0) same still)
  where
    at : (z u w : Bool) → w ≡ u → Meets y env needed g f →
        Locked y (Run.Eval num Use.Tests test (Some c)) env needed f (if z then goes g else if u then ends g Long else ends (spend g) Long) (if z then goes f else if w then ends f Long else ends (spend f) Long)
    at true u w same still = record { ending = refl; outs = no-outs f.outs; meets = still }
    at false true true same still = record { ending = refl; outs = no-outs f.outs; meets = still }
    at false false false same still = record { ending = refl; outs = no-outs f.outs; meets = spend-meets y env needed g f still }
    at false true false same still = cc same
    at false false true same still = cc same

loop-locked : (n : ℕ) (y : List ℤ) (words : All IsWord y) (k : ℕ) (test : Expr) (body : Stmt) → Locks n y body → (turns : ℕ) (g f : Frame) (env : List Term) (needed : ℕ → Bool) →
    expr_over (length env) test ≡ true → stmt_over (length env) body ≡ true → AreTerms n env →
    Meets y env (choose (loop_run k test (exec body) (runs body (k + 1)) turns g) needed).needed g f →
    holds (literals (loop_run k test (exec body) (runs body (k + 1)) turns g) env needed) y ≡ true →
    Locked y (loop_run k test (exec body) (runs body (k + 1)) turns g) env needed f (loop test (exec body) turns g) (loop test (exec body) turns f)
loop-locked n y words k test body lock zero g f env needed ot ob terms m h =
    last-locked n y words k test (value test g.state) g f env needed (symbol-said n y words env terms test ot) m h
loop-locked n y words k test body lock (suc more) g f env needed ot ob terms m h =
    let next : Frame → Run = loop_run k test (exec body) (runs body (k + 1)) more in
    let a = runs body (k + 1) (spend g) in
    let p = exec body (spend g) in
    let grown = is-after n body (k + 1) (spend g) env ob terms in
    turn-locked n y words k test (Run.Then a (follow p next)) g f env needed _ _ (symbol-said n y words env terms test ot) m h
    (λ still rest.
    let both = sym (holds-append (literals a env (choose (follow p next) needed).needed) (literals (follow p next) (after a env) needed) y) ∙ rest in
    let one = lock (k + 1) (spend g) (spend f) env (choose (follow p next) needed).needed ob terms still (and-left _ _ both) in
    seq-locked y a next env needed f p.ending (exec body (spend f)).ending p.frame (exec body (spend f)).frame (loop test (exec body) more)
    (record { ending = one.ending; outs = one.outs; meets = one.meets })
    (and-right (holds (literals a env (choose (follow p next) needed).needed) y) _ both)
    (λ meets lits. loop-locked n y words k test body lock more p.frame (exec body (spend f)).frame (after a env) needed
    (ap (λ (l : ℕ). expr_over l test) grown.size ∙ ot) (ap (λ (l : ℕ). stmt_over l body) grown.size ∙ ob) grown.terms meets lits))

abbrev Stmts : ℕ → List ℤ → Type 0
Stmts n y = List ((s : Stmt) × Locks n y s)

abbrev stmts_of : (n : ℕ) (y : List ℤ) → Stmts n y → List Stmt
stmts_of n y all = map (λ e. e.0) all

pub block-locked : (n : ℕ) (y : List ℤ) (all : Stmts n y) (k : ℕ) (g f : Frame) (env : List Term) (needed : ℕ → Bool) →
    all_true (map (λ s. stmt_over (length env) s) (stmts_of n y all)) ≡ true → AreTerms n env →
    Meets y env (choose (in_turn_run (map (λ s. (s, runs s)) (stmts_of n y all)) k g) needed).needed g f →
    holds (literals (in_turn_run (map (λ s. (s, runs s)) (stmts_of n y all)) k g) env needed) y ≡ true →
    Locked y (in_turn_run (map (λ s. (s, runs s)) (stmts_of n y all)) k g) env needed f (in_turn (map (λ s. exec s) (stmts_of n y all)) g) (in_turn (map (λ s. exec s) (stmts_of n y all)) f)
block-locked n y [] k g f env needed o t m h = idle-locked y env needed g f None m
block-locked n y (first ∷ rest) k g f env needed o t m h =
    let next : Frame → Run = in_turn_run (map (λ s. (s, runs s)) (stmts_of n y rest)) (k + stmt_count first.0) in
    let a = runs first.0 k g in
    let p = exec first.0 g in
    let of = and-left (stmt_over (length env) first.0) _ o in
    let grown = is-after n first.0 k g env of t in
    let both = sym (holds-append (literals a env (choose (follow p next) needed).needed) (literals (follow p next) (after a env) needed) y) ∙ h in
    let one = first.1 k g f env (choose (follow p next) needed).needed of t m (and-left _ _ both) in
    let over : all_true (map (λ s. stmt_over (length (after a env)) s) (stmts_of n y rest)) ≡ true = rw grown.size (and-right (stmt_over (length env) first.0) _ o) in
    seq-locked y a next env needed f p.ending (exec first.0 f).ending p.frame (exec first.0 f).frame (in_turn (map (λ s. exec s) (stmts_of n y rest)))
    (record { ending = one.ending; outs = one.outs; meets = one.meets })
    (and-right (holds (literals a env (choose (follow p next) needed).needed) y) _ both)
    (λ meets lits. block-locked n y rest (k + stmt_count first.0) p.frame (exec first.0 f).frame (after a env) needed over grown.terms meets lits)

-- a statement that may not leave puts nothing out
abbrev Silent : Stmt → Type 0
Silent s = (k : ℕ) (g : Frame) (env : List Term) → may_leave s ≡ false → out_terms (runs s k g) env ≡ []

branch-silent : (v : Option ℤ) (a b : Run) (env : List Term) → out_terms a env ≡ [] → out_terms b env ≡ [] → out_terms (branch v a b) env ≡ []
branch-silent None a b env h k = refl
branch-silent (Some n) a b env h k = elim (is_zero n) as (λ z. out_terms (if z then b else a) env ≡ []) [ true ↦ k | false ↦ h ]

follow-silent : (ending : Option Ending) (f : Frame) (next : Frame → Run) (env : List Term) → ((g : Frame) → out_terms (next g) env ≡ []) → out_terms (where_goes ending f next) env ≡ []
follow-silent None f next env h = h f
follow-silent (Some how) f next env h = refl

block-silent : (all : List ((s : Stmt) × Silent s)) (k : ℕ) (g : Frame) (env : List Term) → list_any (λ b. b) (map (λ s. may_leave s) (map (λ e. e.0) all)) ≡ false →
    out_terms (in_turn_run (map (λ s. (s, runs s)) (map (λ e. e.0) all)) k g) env ≡ []
block-silent [] k g env e = refl
block-silent (first ∷ rest) k g env e =
    rw (first.1 k g env (neither-left (may_leave first.0) _ e))
    (follow-silent (exec first.0 g).ending (exec first.0 g).frame _ (after (runs first.0 k g) env)
    (λ g2. block-silent rest (k + stmt_count first.0) g2 (after (runs first.0 k g) env) (neither-right (may_leave first.0) _ e)))

set-silent : (k var : ℕ) (it : Expr) (v : Option ℤ) (env : List Term) → out_terms (Run.Eval k (Use.Sets var) it v) env ≡ []
set-silent k var it None env = refl
set-silent k var it (Some n) env = refl

test-silent : (k : ℕ) (test : Expr) (v : Option ℤ) (x : Run) (env : List Term) → out_terms x env ≡ [] → out_terms (Run.Then (Run.Eval k Use.Tests test v) x) env ≡ []
test-silent k test None x env h = h
test-silent k test (Some n) x env h = h

silent-step : (z : Stmt-F ((s : Stmt) × Silent s)) → Silent (roll-Stmt (map-Stmt ((s : Stmt) × Silent s) Stmt (λ e. e.0) z))
silent-step Stmt-F.Skip = λ k g env e.
    let x = ap (λ (r : ℕ → Frame → Run). r k g) (para-roll-Stmt (ℕ → Frame → Run) node_runs Stmt-F.Skip) in rw x refl
silent-step (Stmt-F.Set var it) = λ k g env e.
    let x = ap (λ (r : ℕ → Frame → Run). r k g) (para-roll-Stmt (ℕ → Frame → Run) node_runs (Stmt-F.Set var it)) in
    rw x (set-silent k var it (value it g.state) env)
silent-step (Stmt-F.If test chosen None) = λ k g env e.
    let x = ap (λ (r : ℕ → Frame → Run). r k g) (para-roll-Stmt (ℕ → Frame → Run) node_runs (Stmt-F.If test chosen.0 None)) in
    let stays : (may_fault test || (may_leave chosen.0 || false)) ≡ false = sym (fold-roll-Stmt Bool node_may_leave (Stmt-F.If test chosen.0 None)) ∙ e in
    let still : (may_leave chosen.0 || false) ≡ false = neither-right (may_fault test) _ stays in
    let a = runs chosen.0 (k + 1) g in
    rw x (test-silent k test (value test g.state) (branch (value test g.state) a Run.Idle) env
    (branch-silent (value test g.state) a Run.Idle env (chosen.1 (k + 1) g env (neither-left (may_leave chosen.0) _ still)) refl))
silent-step (Stmt-F.If test chosen (Some other)) = λ k g env e.
    let x = ap (λ (r : ℕ → Frame → Run). r k g) (para-roll-Stmt (ℕ → Frame → Run) node_runs (Stmt-F.If test chosen.0 (Some other.0))) in
    let stays : (may_fault test || (may_leave chosen.0 || may_leave other.0)) ≡ false = sym (fold-roll-Stmt Bool node_may_leave (Stmt-F.If test chosen.0 (Some other.0))) ∙ e in
    let still = neither-right (may_fault test) _ stays in
    let a = runs chosen.0 (k + 1) g in
    let b = runs other.0 (k + 1 + stmt_count chosen.0) g in
    rw x (test-silent k test (value test g.state) (branch (value test g.state) a b) env (branch-silent (value test g.state) a b env
    (chosen.1 (k + 1) g env (neither-left (may_leave chosen.0) _ still))
    (other.1 (k + 1 + stmt_count chosen.0) g env (neither-right (may_leave chosen.0) _ still))))
silent-step (Stmt-F.While test body) = λ k g env e. absurd (cc (sym (fold-roll-Stmt Bool node_may_leave (Stmt-F.While test body.0)) ∙ e))
silent-step (Stmt-F.Return it) = λ k g env e. absurd (cc (sym (fold-roll-Stmt Bool node_may_leave (Stmt-F.Return it)) ∙ e))
silent-step (Stmt-F.Out it) = λ k g env e. absurd (cc (sym (fold-roll-Stmt Bool node_may_leave (Stmt-F.Out it)) ∙ e))
silent-step (Stmt-F.Assert it) = λ k g env e. absurd (cc (sym (fold-roll-Stmt Bool node_may_leave (Stmt-F.Assert it)) ∙ e))
silent-step (Stmt-F.Block all) = λ k g env e.
    let x = ap (λ (r : ℕ → Frame → Run). r k g) (para-roll-Stmt (ℕ → Frame → Run) node_runs (Stmt-F.Block (map (λ e. e.0) all))) in
    let stays : list_any (λ b. b) (map (λ s. may_leave s) (map (λ e. e.0) all)) ≡ false = sym (fold-roll-Stmt Bool node_may_leave (Stmt-F.Block (map (λ e. e.0) all))) ∙ e in
    rw x (block-silent all (k + 1) g env stays)
silent-step (Stmt-F.Marked mark body) = λ k g env e.
    let x = ap (λ (r : ℕ → Frame → Run). r k g) (para-roll-Stmt (ℕ → Frame → Run) node_runs (Stmt-F.Marked mark body.0)) in
    let stays = sym (fold-roll-Stmt Bool node_may_leave (Stmt-F.Marked mark body.0)) ∙ e in
    rw x (body.1 (k + 1) g env stays)

is-silent : (s : Stmt) → Silent s
is-silent s = ind-Stmt Silent (λ x z is. subst (λ c. Silent (roll-Stmt c)) is (silent-step z)) s

-- no needed variable is written
unwritten : (needed : ℕ → Bool) (all : List ℕ) (v : ℕ) → list_any needed all ≡ false → needed v ≡ true → has all v ≡ false
unwritten needed [] v e n = refl
unwritten needed (w ∷ all) v e n = elim (nat_eq v w) as (λ z. nat_eq v w ≡ z → (z || has all v) ≡ false) [
  | true ↦ λ same. let eq : v ≡ w = grind (arith, same) in let is : needed w ≡ true = (let P : ℕ → Type 0 = λ u. needed u ≡ true in subst P eq n) in cc (is, neither-left (needed w) _ e)
  | false ↦ λ other. unwritten needed all v (neither-right (needed w) _ e) n
] refl

-- a statement that may not leave and writes no needed variable
pub quiet-locked : (n : ℕ) (y : List ℤ) (s : Stmt) (k : ℕ) (g f : Frame) (env : List Term) (needed : ℕ → Bool) → stmt_over (length env) s ≡ true → AreTerms n env →
    may_leave s ≡ false → list_any needed (writes s) ≡ false → Meets y env needed g f → Locked y (runs s k g) env needed f (exec s g) (exec s f)
quiet-locked n y s k g f env needed over terms stays free m =
    let mine = is-quiet s g (ap (λ (l : ℕ). stmt_over l s) m.mine ∙ over) stays in
    let other = is-quiet s f (ap (λ (l : ℕ). stmt_over l s) m.size ∙ over) stays in
    let grown = is-after n s k g env over terms in
    record {
      ending = other.going ∙ sym mine.going;
      outs = other.outs ∙ no-outs f.outs ∙ ap (λ (l : List Term). f.outs ++ map (λ t. term_value t y) l) (sym (is-silent s k g env stays));
      meets = record {
        turns = other.turns ∙ m.turns ∙ sym mine.turns;
        mine = mine.size ∙ m.mine ∙ sym grown.size;
        size = other.size ∙ m.size ∙ sym grown.size;
        agree = λ v e.
            let kept = unwritten needed (writes s) v free e in
            other.others v kept ∙ m.agree v e ∙ slice_get-map (λ t. term_value t y) env v
            ∙ ap (λ (o : Option Term). option_map (λ t. term_value t y) o) (sym (grown.others v kept)) ∙ sym (slice_get-map (λ t. term_value t y) (after (runs s k g) env) v);
      };
    }

-- an `if` that matters, and one that doesn't
choice-locked : (n : ℕ) (y : List ℤ) (s : Stmt) (k : ℕ) (g f : Frame) (env : List Term) (needed : ℕ → Bool) (test : Expr) (chosen : Stmt) (other : Option Stmt) (inner : Run) →
    stmt_over (length env) s ≡ true → AreTerms n env → runs s k g ≡ Run.Choice k test chosen other inner →
    may_leave s ≡ (may_fault test || (may_leave chosen || branch_any (option_map (λ s. may_leave s) other))) →
    writes s ≡ writes chosen ++ branch_list (option_map (λ s. writes s) other) →
    Meets y env (choose (runs s k g) needed).needed g f → holds (literals (runs s k g) env needed) y ≡ true →
    (Meets y env (choose inner needed).needed g f → holds (literals inner env needed) y ≡ true → Locked y inner env needed f (exec s g) (exec s f)) →
    Locked y (runs s k g) env needed f (exec s g) (exec s f)
choice-locked n y s k g f env needed test chosen other inner over terms x lv wr m h inside =
    let P : Run → Type 0 = λ r. Meets y env (choose r needed).needed g f in
    let Q : Run → Type 0 = λ r. holds (literals r env needed) y ≡ true in
    at (matters test chosen other needed) refl (subst P x m) (subst Q x h)
  where
    at : (z : Bool) → matters test chosen other needed ≡ z →
        Meets y env (either z (choose inner needed) (record { needed = needed; kept = replicate (count inner) false; marks = no_mark })).needed g f →
        holds (if z then literals inner env needed else []) y ≡ true → Locked y (runs s k g) env needed f (exec s g) (exec s f)
    at true is meets lits = let R : Run → Type 0 = λ r. Locked y r env needed f (exec s g) (exec s f) in
        let l = inside meets lits in
        subst R (sym x) (record { ending = l.ending; outs = l.outs; meets = l.meets })
    at false is meets lits =
        quiet-locked n y s k g f env needed over terms (lv ∙ neither-left (may_fault test || (may_leave chosen || branch_any (option_map (λ s. may_leave s) other))) _ is)
        (ap (λ (l : List ℕ). list_any needed l) wr ∙ neither-right (may_fault test || (may_leave chosen || branch_any (option_map (λ s. may_leave s) other))) _ is) meets

lock-step : (n : ℕ) (y : List ℤ) (words : All IsWord y) (z : Stmt-F ((s : Stmt) × Locks n y s)) → Locks n y (roll-Stmt (map-Stmt ((s : Stmt) × Locks n y s) Stmt (λ e. e.0) z))
lock-step n y words Stmt-F.Skip = λ k g f env needed o t m h.
    let x = ap (λ (r : ℕ → Frame → Run). r k g) (para-roll-Stmt (ℕ → Frame → Run) node_runs Stmt-F.Skip) in
    let e = fold-roll-Stmt (Frame → Step) node_exec Stmt-F.Skip in
    let P : Run → Type 0 = λ r. Meets y env (choose r needed).needed g f in
    rw (x, e) (idle-locked y env needed g f None (subst P x m))
lock-step n y words (Stmt-F.Set var it) = λ k g f env needed o t m h.
    let x = ap (λ (r : ℕ → Frame → Run). r k g) (para-roll-Stmt (ℕ → Frame → Run) node_runs (Stmt-F.Set var it)) in
    let e = fold-roll-Stmt (Frame → Step) node_exec (Stmt-F.Set var it) in
    let over : (nat_lt var (length env) && expr_over (length env) it) ≡ true = sym (fold-roll-Stmt Bool (node_stmt_over (length env)) (Stmt-F.Set var it)) ∙ o in
    let eo = and-right (nat_lt var (length env)) _ over in
    let low : var < length env = grind (arith, and-left (nat_lt var (length env)) _ over) in
    let v = value it g.state in
    let P : Run → Type 0 = λ r. Meets y env (choose r needed).needed g f in
    let Q : Run → Type 0 = λ r. holds (literals r env needed) y ≡ true in
    rw (x, e) (set-both n y words k var it v g f env needed low eo (symbol-said n y words env t it eo) (subst P x m) (subst Q x h))
lock-step n y words (Stmt-F.If test chosen None) = λ k g f env needed o t m h.
    let x = ap (λ (r : ℕ → Frame → Run). r k g) (para-roll-Stmt (ℕ → Frame → Run) node_runs (Stmt-F.If test chosen.0 None)) in
    let e = fold-roll-Stmt (Frame → Step) node_exec (Stmt-F.If test chosen.0 None) in
    let w = fold-roll-Stmt (List ℕ) node_writes (Stmt-F.If test chosen.0 None) in
    let l = fold-roll-Stmt Bool node_may_leave (Stmt-F.If test chosen.0 None) in
    let over : (expr_over (length env) test && (stmt_over (length env) chosen.0 && true)) ≡ true = sym (fold-roll-Stmt Bool (node_stmt_over (length env)) (Stmt-F.If test chosen.0 None)) ∙ o in
    let rest : (stmt_over (length env) chosen.0 && true) ≡ true = and-right (expr_over (length env) test) _ over in
    let eo = and-left (expr_over (length env) test) _ over in
    let a = runs chosen.0 (k + 1) g in
    let inner = Run.Then (evaluation k Use.Tests test g) (branch (value test g.state) a Run.Idle) in
    choice-locked n y (roll-Stmt (Stmt-F.If test chosen.0 None)) k g f env needed test chosen.0 None inner o t x l w m h
    (λ meets lits. rw e (if-locked n y words k test (value test g.state) a Run.Idle g f env needed _ _ _ _ (symbol-said n y words env t test eo) meets lits
    (λ still ls. chosen.1 (k + 1) g f env needed (and-left (stmt_over (length env) chosen.0) _ rest) t still ls)
    (λ still ls. idle-locked y env needed g f None still)))
lock-step n y words (Stmt-F.If test chosen (Some other)) = λ k g f env needed o t m h.
    let x = ap (λ (r : ℕ → Frame → Run). r k g) (para-roll-Stmt (ℕ → Frame → Run) node_runs (Stmt-F.If test chosen.0 (Some other.0))) in
    let e = fold-roll-Stmt (Frame → Step) node_exec (Stmt-F.If test chosen.0 (Some other.0)) in
    let w = fold-roll-Stmt (List ℕ) node_writes (Stmt-F.If test chosen.0 (Some other.0)) in
    let l = fold-roll-Stmt Bool node_may_leave (Stmt-F.If test chosen.0 (Some other.0)) in
    let over : (expr_over (length env) test && (stmt_over (length env) chosen.0 && stmt_over (length env) other.0)) ≡ true = sym (fold-roll-Stmt Bool (node_stmt_over (length env)) (Stmt-F.If test chosen.0 (Some other.0))) ∙ o in
    let rest : (stmt_over (length env) chosen.0 && stmt_over (length env) other.0) ≡ true = and-right (expr_over (length env) test) _ over in
    let eo = and-left (expr_over (length env) test) _ over in
    let a = runs chosen.0 (k + 1) g in
    let b = runs other.0 (k + 1 + stmt_count chosen.0) g in
    let inner = Run.Then (evaluation k Use.Tests test g) (branch (value test g.state) a b) in
    choice-locked n y (roll-Stmt (Stmt-F.If test chosen.0 (Some other.0))) k g f env needed test chosen.0 (Some other.0) inner o t x l w m h
    (λ meets lits. rw e (if-locked n y words k test (value test g.state) a b g f env needed _ _ _ _ (symbol-said n y words env t test eo) meets lits
    (λ still ls. chosen.1 (k + 1) g f env needed (and-left (stmt_over (length env) chosen.0) _ rest) t still ls)
    (λ still ls. other.1 (k + 1 + stmt_count chosen.0) g f env needed (and-right (stmt_over (length env) chosen.0) _ rest) t still ls)))
lock-step n y words (Stmt-F.While test body) = λ k g f env needed o t m h.
    let x = ap (λ (r : ℕ → Frame → Run). r k g) (para-roll-Stmt (ℕ → Frame → Run) node_runs (Stmt-F.While test body.0)) in
    let e = fold-roll-Stmt (Frame → Step) node_exec (Stmt-F.While test body.0) in
    let over : (expr_over (length env) test && stmt_over (length env) body.0) ≡ true = sym (fold-roll-Stmt Bool (node_stmt_over (length env)) (Stmt-F.While test body.0)) ∙ o in
    let P : Run → Type 0 = λ r. Meets y env (choose r needed).needed g f in
    let Q : Run → Type 0 = λ r. holds (literals r env needed) y ≡ true in
    let locked = loop-locked n y words k test body.0 body.1 g.turns g f env needed (and-left (expr_over (length env) test) _ over) (and-right (expr_over (length env) test) _ over) t (subst P x m) (subst Q x h) in
    let L : ℕ → Type 0 = λ c. Locked y (loop_run k test (exec body.0) (runs body.0 (k + 1)) g.turns g) env needed f (loop test (exec body.0) g.turns g) (loop test (exec body.0) c f) in
    rw (x, e) (subst L (sym m.turns) locked)
lock-step n y words (Stmt-F.Return it) = λ k g f env needed o t m h.
    let x = ap (λ (r : ℕ → Frame → Run). r k g) (para-roll-Stmt (ℕ → Frame → Run) node_runs (Stmt-F.Return it)) in
    let e = fold-roll-Stmt (Frame → Step) node_exec (Stmt-F.Return it) in
    let eo = sym (fold-roll-Stmt Bool (node_stmt_over (length env)) (Stmt-F.Return it)) ∙ o in
    let P : Run → Type 0 = λ r. Meets y env (choose r needed).needed g f in
    let Q : Run → Type 0 = λ r. holds (literals r env needed) y ≡ true in
    rw (x, e) (return-locked n y words k it (value it g.state) g f env needed (symbol-said n y words env t it eo) (subst P x m) (subst Q x h))
lock-step n y words (Stmt-F.Out it) = λ k g f env needed o t m h.
    let x = ap (λ (r : ℕ → Frame → Run). r k g) (para-roll-Stmt (ℕ → Frame → Run) node_runs (Stmt-F.Out it)) in
    let e = fold-roll-Stmt (Frame → Step) node_exec (Stmt-F.Out it) in
    let eo = sym (fold-roll-Stmt Bool (node_stmt_over (length env)) (Stmt-F.Out it)) ∙ o in
    let P : Run → Type 0 = λ r. Meets y env (choose r needed).needed g f in
    let Q : Run → Type 0 = λ r. holds (literals r env needed) y ≡ true in
    rw (x, e) (out-locked n y words k it (value it g.state) g f env needed (symbol-said n y words env t it eo) (subst P x m) (subst Q x h))
lock-step n y words (Stmt-F.Assert it) = λ k g f env needed o t m h.
    let x = ap (λ (r : ℕ → Frame → Run). r k g) (para-roll-Stmt (ℕ → Frame → Run) node_runs (Stmt-F.Assert it)) in
    let e = fold-roll-Stmt (Frame → Step) node_exec (Stmt-F.Assert it) in
    let eo = sym (fold-roll-Stmt Bool (node_stmt_over (length env)) (Stmt-F.Assert it)) ∙ o in
    let P : Run → Type 0 = λ r. Meets y env (choose r needed).needed g f in
    let Q : Run → Type 0 = λ r. holds (literals r env needed) y ≡ true in
    rw (x, e) (assert-locked n y words k it (value it g.state) g f env needed (symbol-said n y words env t it eo) (subst P x m) (subst Q x h))
lock-step n y words (Stmt-F.Block all) = λ k g f env needed o t m h.
    let x = ap (λ (r : ℕ → Frame → Run). r k g) (para-roll-Stmt (ℕ → Frame → Run) node_runs (Stmt-F.Block (stmts_of n y all))) in
    let e = fold-roll-Stmt (Frame → Step) node_exec (Stmt-F.Block (stmts_of n y all)) in
    let over : all_true (map (λ s. stmt_over (length env) s) (stmts_of n y all)) ≡ true = sym (fold-roll-Stmt Bool (node_stmt_over (length env)) (Stmt-F.Block (stmts_of n y all))) ∙ o in
    let P : Run → Type 0 = λ r. Meets y env (choose r needed).needed g f in
    let Q : Run → Type 0 = λ r. holds (literals r env needed) y ≡ true in
    rw (x, e) (block-locked n y all (k + 1) g f env needed over t (subst P x m) (subst Q x h))
lock-step n y words (Stmt-F.Marked mark body) = λ k g f env needed o t m h.
    let x = ap (λ (r : ℕ → Frame → Run). r k g) (para-roll-Stmt (ℕ → Frame → Run) node_runs (Stmt-F.Marked mark body.0)) in
    let e = fold-roll-Stmt (Frame → Step) node_exec (Stmt-F.Marked mark body.0) in
    let over = sym (fold-roll-Stmt Bool (node_stmt_over (length env)) (Stmt-F.Marked mark body.0)) ∙ o in
    let P : Run → Type 0 = λ r. Meets y env (choose r needed).needed g f in
    let Q : Run → Type 0 = λ r. holds (literals r env needed) y ≡ true in
    let l = body.1 (k + 1) g f env needed over t (subst P x m) (subst Q x h) in
    rw (x, e) (record { ending = l.ending; outs = l.outs; meets = l.meets })

pub is-locked : (n : ℕ) (y : List ℤ) → All IsWord y → (s : Stmt) → Locks n y s
is-locked n y words s = ind-Stmt (Locks n y) (λ x z is. subst (λ c. Locks n y (roll-Stmt c)) is (lock-step n y words z)) s
