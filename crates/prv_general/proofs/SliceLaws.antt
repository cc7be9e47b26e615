-- What the slice of a program at an input says of every input.
use Rattle.std.proofs.Common.{◌≡◌, ℕ, zero, suc, ◌+◌, ◌-◌, ◌≤◌, ◌<◌, Bool, true, List, [], ◌∷◌, ◌++◌, length, Option, Some, None, ℤ, pos, refl, sym, ap, ◌∙◌, subst, arith, slice_get, map, replicate, unwrap_or, append_assoc, append-nil, length-append}
use Rattle.std.proofs.lemmas.List.{map-append, length-replicate}
use Rattle.prv_model.specs.Boards.{IsInput}
use Rattle.prv_model.specs.Programs.{IsProgram, stmt_over, all_true}
use Rattle.prv_model.specs.Statements.{exec, exec_all, in_turn}
use Rattle.prv_model.specs.Outcomes.{start, finish, outcome}
use Rattle.prv_model.specs.Terms.{IsTerm, term_value, holds, node_is_term}
use Rattle.prv_model.proofs.TermLemmas.{term_value-Param, term_value-Num}
use Rattle.prv_model.specs.declared.outcome.Ending.{Ending}
use Rattle.prv_model.specs.declared.outcome.Ending.TheVariants.{Returned}
use Rattle.prv_model.specs.declared.program.Program.{Program}
use Rattle.prv_model.specs.declared.stmt.Stmt.{Stmt}
use Rattle.prv_model.specs.declared.term.Term.{Term, Term-F, fold-roll-Term}
use Rattle.prv_model.specs.declared.term.Term.TheVariants.{Param, Num, rolls-Param}
use Rattle.prv_run.specs.Runs.{runs, run_of, in_turn_run}
use Rattle.prv_sym.specs.Symbols.{params_from, start_terms}
use Rattle.prv_sym.specs.Judgements.{AreTerms, state_of}
use Rattle.prv_sym.proofs.SymbolLaws.{num-term}
use Rattle.prv_select.specs.Choices.{choose, nothing}
use Rattle.prv_general.specs.Slices.{slice, literals, out_terms, end_terms}
use Rattle.prv_general.proofs.Lockstep.{Meets, Locked, Locks, is-locked, block-locked}
use Rattle.prv_general.proofs.Saying.{holds-filtered}
use Rattle.prv_general.proofs.Members.{Members, is-member, block-member}

-- the parameters have the input's words
param-at : (front : List ℤ) (w : ℤ) (rest : List ℤ) → slice_get (front ++ w ∷ rest) (length front) ≡ Some w
param-at [] w rest = refl
param-at (v ∷ front) w rest = param-at front w rest

one-more : (front : List ℤ) (w : ℤ) → length (front ++ w ∷ []) ≡ suc (length front)
one-more [] w = refl
one-more (v ∷ front) w = ap (λ (l : ℕ). suc l) (one-more front w)

params-state : (front x : List ℤ) → map (λ t. term_value t (front ++ x)) (params_from (length front) (length x)) ≡ x
params-state front [] = refl
params-state front (w ∷ x) =
    let here : term_value (Param (length front)) (front ++ w ∷ x) ≡ w = term_value-Param (length front) (front ++ w ∷ x) ∙ ap (λ (o : Option ℤ). unwrap_or o (pos 0)) (param-at front w x) in
    let more : length (front ++ w ∷ []) ≡ suc (length front) = one-more front w in
    let rest : map (λ t. term_value t (front ++ w ∷ x)) (params_from (suc (length front)) (length x)) ≡ x =
    (λ i. map (λ t. term_value t (sym (append_assoc front (w ∷ []) x) i)) (params_from (sym more i) (length x))) ∙ params-state (front ++ w ∷ []) x in
    λ i. here i ∷ rest i

zeros-state : (m : ℕ) (x : List ℤ) → state_of (replicate m (Num (pos 0))) x ≡ replicate m (pos 0)
zeros-state zero x = refl
zeros-state (suc m) x = λ i. term_value-Num (pos 0) x i ∷ zeros-state m x i

start-state : (p : Program) (turns : ℕ) (x : List ℤ) → IsInput p.params x → (start p turns x).state ≡ state_of (start_terms p) x
start-state p turns x h =
    let params : state_of (params_from 0 p.params) x ≡ x = subst (λ (n : ℕ). state_of (params_from 0 n) x ≡ x) h.long (params-state [] x) in
    (λ i. sym params i ++ sym (zeros-state (length p.names - p.params) x) i) ∙ sym (map-append (λ t. term_value t x) (params_from 0 p.params) (replicate (length p.names - p.params) (Num (pos 0))))

-- the terms before a run are terms over the parameters
zeros-terms : (n m : ℕ) → AreTerms n (replicate m (Num (pos 0)))
zeros-terms n zero = λ v. num-term n (pos 0) refl
zeros-terms n (suc m) = λ v. elim v as (λ u. IsTerm n (unwrap_or (slice_get (Num (pos 0) ∷ replicate m (Num (pos 0))) u) (Num (pos 0)))) [
  | zero ↦ num-term n (pos 0) refl
  | suc u ↦ zeros-terms n m u
]

param-term : (n k : ℕ) → k < n → IsTerm n (Param k)
param-term n k h = let P : Term → Type 0 = λ t. IsTerm n t in
    subst P (rolls-Param k) (fold-roll-Term Bool (node_is_term n) (Term-F.Param k) ∙ grind (arith, h))

params-terms : (n m k : ℕ) (rest : List Term) → k + m ≤ n → AreTerms n rest → AreTerms n (params_from k m ++ rest)
params-terms n zero k rest h t = t
params-terms n (suc m) k rest h t = λ v. elim v as (λ u. IsTerm n (unwrap_or (slice_get (Param k ∷ (params_from (suc k) m ++ rest)) u) (Num (pos 0)))) [
  | zero ↦ param-term n k (omega (arith, h))
  | suc u ↦ params-terms n m (suc k) rest (omega (arith, h)) t u
]

pub start-over : (p : Program) → AreTerms p.params (start_terms p)
start-over p = params-terms p.params p.params 0 _ (omega arith) (zeros-terms p.params (length p.names - p.params))

params-length : (k m : ℕ) → length (params_from k m) ≡ m
params-length k zero = refl
params-length k (suc m) = ap (λ (l : ℕ). suc l) (params-length (suc k) m)

pub start-length : (p : Program) → p.params ≤ length p.names → length (start_terms p) ≡ length p.names
start-length p h = length-append (params_from 0 p.params) (replicate (length p.names - p.params) (Num (pos 0)))
    ∙ omega (arith, h, params-length 0 p.params, length-replicate (length p.names - p.params) (Num (pos 0)))

-- statements with a fact about each
each : (P : Stmt → Type 0) → ((s : Stmt) → P s) → List Stmt → List ((s : Stmt) × P s)
each P h [] = []
each P h (s ∷ all) = (s, h s) ∷ each P h all

each-is : (P : Stmt → Type 0) (h : (s : Stmt) → P s) (all : List Stmt) → map (λ e. e.0) (each P h all) ≡ all
unfolding each
each-is P h [] = refl
each-is P h (s ∷ all) = ap (λ (l : List Stmt). s ∷ l) (each-is P h all)

length-state : (env : List Term) (x : List ℤ) → length (state_of env x) ≡ length env
length-state [] x = refl
length-state (t ∷ env) x = ap (λ (l : ℕ). suc l) (length-state env x)

finished : (y : List ℤ) (e : Option Ending) (outs : List ℤ) (terms : List Term) → outs ≡ map (λ t. term_value t y) terms →
    finish e outs ≡ record { outs = map (λ t. term_value t y) (terms ++ end_terms e); how = (finish e outs).how }
finished y None outs terms is =
    let all : outs ++ pos 0 ∷ [] ≡ map (λ t. term_value t y) (terms ++ Num (pos 0) ∷ []) =
    (λ i. is i ++ sym (term_value-Num (pos 0) y) i ∷ []) ∙ sym (map-append (λ t. term_value t y) terms (Num (pos 0) ∷ [])) in
    λ i. record { outs = all i; how = Returned }
finished y (Some how) outs terms is =
    let all : outs ≡ map (λ t. term_value t y) (terms ++ []) = is ∙ ap (λ (l : List Term). map (λ t. term_value t y) l) (sym (append-nil terms)) in
    λ i. record { outs = all i; how = how }

how-alike : (e : Option Ending) (a b : List ℤ) → (finish e a).how ≡ (finish e b).how
how-alike None a b = refl
how-alike (Some how) a b = refl

pub fixes-outcome : (p : Program) (turns : ℕ) (x y : List ℤ) → IsInput p.params x → IsInput p.params y → holds (slice p turns x).literals y ≡ true →
    outcome p turns y ≡ record { outs = map (λ t. term_value t y) (slice p turns x).outs; how = (slice p turns x).how }
fixes-outcome p turns x y hx hy said =
    let h : holds (literals (run_of p turns x) (start_terms p) nothing) y ≡ true = sym (holds-filtered (literals (run_of p turns x) (start_terms p) nothing) y) ∙ said in
    let kept : IsProgram p.params p.names p.body = p.kept in
    let n = p.params in
    let env = start_terms p in
    let g = start p turns x in
    let f = start p turns y in
    let all = each (Locks n y) (is-locked n y hy.words) p.body in
    let same : map (λ e. e.0) all ≡ p.body = each-is (Locks n y) (is-locked n y hy.words) p.body in
    let over : all_true (map (λ s. stmt_over (length env) s) p.body) ≡ true = ap (λ (l : ℕ). all_true (map (λ s. stmt_over l s) p.body)) (start-length p kept.params_named) ∙ kept.own_variables in
    let meets : Meets y env (choose (run_of p turns x) nothing).needed g f = record {
      turns = refl;
      mine = ap (λ (s : List ℤ). length s) (start-state p turns x hx) ∙ length-state env x;
      size = ap (λ (s : List ℤ). length s) (start-state p turns y hy) ∙ length-state env y;
      agree = λ v e. ap (λ (s : List ℤ). slice_get s v) (start-state p turns y hy);
    } in
    let O : List Stmt → Type 0 = λ body. all_true (map (λ s. stmt_over (length env) s) body) ≡ true in
    let M : List Stmt → Type 0 = λ body. Meets y env (choose (in_turn_run (map (λ s. (s, runs s)) body) 0 g) nothing).needed g f in
    let H : List Stmt → Type 0 = λ body. holds (literals (in_turn_run (map (λ s. (s, runs s)) body) 0 g) env nothing) y ≡ true in
    let L : List Stmt → Type 0 = λ body. Locked y (in_turn_run (map (λ s. (s, runs s)) body) 0 g) env nothing f (in_turn (map (λ s. exec s) body) g) (in_turn (map (λ s. exec s) body) f) in
    let l : Locked y (run_of p turns x) env nothing f (exec_all p.body g) (exec_all p.body f) =
    subst L same (block-locked n y all 0 g f env nothing (subst O (sym same) over) (start-over p) (subst M (sym same) meets) (subst H (sym same) h)) in
    let end = (exec_all p.body g).ending in
    let here = finished y end (exec_all p.body f).frame.outs (out_terms (run_of p turns x) env) l.outs in
    let how = how-alike end (exec_all p.body f).frame.outs (exec_all p.body g).frame.outs in
    ap (λ (e : Option Ending). finish e (exec_all p.body f).frame.outs) l.ending ∙ here
    ∙ (λ i. record { outs = map (λ t. term_value t y) (out_terms (run_of p turns x) env ++ end_terms end); how = how i })

pub holds-member : (p : Program) (turns : ℕ) (x : List ℤ) → IsInput p.params x → holds (slice p turns x).literals x ≡ true
holds-member p turns x hx =
    let kept : IsProgram p.params p.names p.body = p.kept in
    let n = p.params in
    let env = start_terms p in
    let all = each (Members n x) (is-member n x hx.words) p.body in
    let same : map (λ e. e.0) all ≡ p.body = each-is (Members n x) (is-member n x hx.words) p.body in
    let over : all_true (map (λ s. stmt_over (length env) s) p.body) ≡ true = ap (λ (l : ℕ). all_true (map (λ s. stmt_over l s) p.body)) (start-length p kept.params_named) ∙ kept.own_variables in
    let P : List Stmt → Type 0 = λ body. all_true (map (λ s. stmt_over (length env) s) body) ≡ true in
    let m = block-member n x all 0 (start p turns x) env nothing (subst P (sym same) over) (start-over p) (start-state p turns x hx) in
    let Q : List Stmt → Type 0 = λ body. holds (literals (in_turn_run (map (λ s. (s, runs s)) body) 0 (start p turns x)) env nothing) x ≡ true in
    holds-filtered (literals (run_of p turns x) env nothing) x ∙ subst Q same m.lits
