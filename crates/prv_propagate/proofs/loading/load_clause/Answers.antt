use Rattle.std.proofs.Common.{◌≡◌, ℕ, ◌<◌, List, [], ◌∷◌, ◌++◌, length, true, sym, ap, ◌∙◌, inr, refl, arith}
use Rattle.std.proofs.lemmas.Bool.{or_right}
use Rattle.std.proofs.lemmas.List.{append-nil}
use Rattle.prv_cnf.specs.declared.literal.Lit.{Lit}
use Rattle.prv_cnf.specs.Literals.{same_literal, has_literal}
use Rattle.prv_cnf.proofs.Values.{all-has_literal, same_literal_refl}
use Rattle.prv_check.specs.Lines.{known, is_within}
use Rattle.prv_propagate.specs.declared.trail.Step.{Step}
use Rattle.prv_cnf.specs.Places.{place_of}
use Rattle.prv_propagate.specs.Trails.{Trailing, trues, IsDecision}
use Rattle.prv_propagate.specs.Reasons.{clause_of, IsJustified, AreJustified}
use Rattle.prv_propagate.specs.Guards.{is_pair, is_guarded}
use Rattle.prv_propagate.specs.Watching.{Watching, attached}
use Rattle.prv_propagate.specs.Loading.{AreImplied, IsLoading}
use Rattle.prv_propagate.proofs.Signs.{has_literal-push}
use Rattle.prv_propagate.proofs.Stepping.{trues_push, EachStep-push}
use Rattle.prv_cnf.proofs.Placing.{place_of-le}
use Rattle.prv_propagate.proofs.Tabling.{within_parts}
use Rattle.prv_propagate.proofs.Guarding.{pair_parts}
use Rattle.prv_propagate.proofs.Walking.{within_push}
use Rattle.prv_propagate.proofs.Attaching.{loading_more, guarded_two, guarded_one, sole_pair, sole_falsified, sole_reason}
use Rattle.prv_propagate.proofs.loading.load_clause.Goals as goal

-- the places of the pair of a clause
place_inside : (cs : List (List Lit)) (n : ℕ) (t : Trailing) (w : Watching) (l : Lit) → IsLoading cs n t w → n < length cs → has_literal (clause_of cs n) l ≡ true → place_of l < length w.lists
place_inside cs n t w l loading inside has =
    omega (arith, loading.places, place_of-le l, within_parts t.vars l (all-has_literal (is_within t.vars) (clause_of cs n) l (loading.within n inside) has))

pub attach-requires-clause-first : goal.attach-requires-clause-first
attach-requires-clause-first c =
    let cs = known c.args.cnf.now [] in
    let n = c.args.number in
    let t = c.args.trail.now in
    let w = c.args.watches.now in
    let p = c.in-Some.pair in
    let inside : n < length cs = omega (arith, c.requires.inside, ap length (append-nil c.args.cnf.now.clauses)) in
    let paired : is_pair (clause_of cs n) p ≡ true = rw c.clause_at-lits.ensures at c.in-Some.ensures.some in
    let parts = pair_parts (clause_of cs n) p paired in
    place_inside cs n t w p.first c.requires.loading inside parts.0

pub attach-requires-clause-second : goal.attach-requires-clause-second
attach-requires-clause-second c =
    let cs = known c.args.cnf.now [] in
    let n = c.args.number in
    let t = c.args.trail.now in
    let w = c.args.watches.now in
    let p = c.in-Some.pair in
    let inside : n < length cs = omega (arith, c.requires.inside, ap length (append-nil c.args.cnf.now.clauses)) in
    let paired : is_pair (clause_of cs n) p ≡ true = rw c.clause_at-lits.ensures at c.in-Some.ensures.some in
    let parts = pair_parts (clause_of cs n) p paired in
    place_inside cs n t w p.second c.requires.loading inside parts.1

pub imply-requires-clause-within : goal.imply-requires-clause-within
imply-requires-clause-within c =
    let cs = known c.args.cnf.now [] in
    let n = c.args.number in
    let t = c.args.trail.now in
    let w = c.args.watches.now in
    let p = c.in-Some.pair in
    let inside : n < length cs = omega (arith, c.requires.inside, ap length (append-nil c.args.cnf.now.clauses)) in
    let paired : is_pair (clause_of cs n) p ≡ true = rw c.clause_at-lits.ensures at c.in-Some.ensures.some in
    let parts = pair_parts (clause_of cs n) p paired in
    all-has_literal (is_within t.vars) (clause_of cs n) p.first (c.requires.loading.within n inside) parts.0

pub returns-then-not-is_same-clause-step : goal.returns-then-not-is_same-clause-step
returns-then-not-is_same-clause-step c =
    let cs = known c.args.cnf.now [] in
    let n = c.args.number in
    let t = c.args.trail.now in
    let w = c.args.watches.now in
    let p = c.in-Some.pair in
    let inside : n < length cs = omega (arith, c.requires.inside, ap length (append-nil c.args.cnf.now.clauses)) in
    let paired : is_pair (clause_of cs n) p ≡ true = rw c.clause_at-lits.ensures at c.in-Some.ensures.some in
    let parts = pair_parts (clause_of cs n) p paired in
    let guarded : is_guarded [] (trues t.steps) (clause_of cs n) p ≡ true = guarded_two (trues t.steps) (clause_of cs n) p (sym c.is_same.ensures ∙ c.if-not-is_same.true) in
    let new : c.attach.new.self ≡ attached w n p = c.in_ok-attach.ensures in
    rw new (loading_more cs t t w n p c.requires.loading inside paired (place_inside cs n t w p.first c.requires.loading inside parts.0) (place_inside cs n t w p.second c.requires.loading inside parts.1) refl (λ _ h. h) c.requires.loading.justified c.requires.loading.implied guarded)

pub returns-then-is_true-clause-step : goal.returns-then-is_true-clause-step
returns-then-is_true-clause-step c =
    let cs = known c.args.cnf.now [] in
    let n = c.args.number in
    let t = c.args.trail.now in
    let w = c.args.watches.now in
    let p = c.in-Some.pair in
    let inside : n < length cs = omega (arith, c.requires.inside, ap length (append-nil c.args.cnf.now.clauses)) in
    let paired : is_pair (clause_of cs n) p ≡ true = rw c.clause_at-lits.ensures at c.in-Some.ensures.some in
    let parts = pair_parts (clause_of cs n) p paired in
    let guarded : is_guarded [] (trues t.steps) (clause_of cs n) p ≡ true = guarded_one (trues t.steps) (clause_of cs n) p paired (sym c.is_true.ensures ∙ c.if-is_true.true) in
    let new : c.attach.new.self ≡ attached w n p = c.in_ok-attach.ensures in
    rw new (loading_more cs t t w n p c.requires.loading inside paired (place_inside cs n t w p.first c.requires.loading inside parts.0) (place_inside cs n t w p.second c.requires.loading inside parts.1) refl (λ _ h. h) c.requires.loading.justified c.requires.loading.implied guarded)

pub returns-then-is_false-clause-step : goal.returns-then-is_false-clause-step
returns-then-is_false-clause-step c =
    let cs = known c.args.cnf.now [] in
    let n = c.args.number in
    let t = c.args.trail.now in
    let w = c.args.watches.now in
    let p = c.in-Some.pair in
    let inside : n < length cs = omega (arith, c.requires.inside, ap length (append-nil c.args.cnf.now.clauses)) in
    let paired : is_pair (clause_of cs n) p ≡ true = rw c.clause_at-lits.ensures at c.in-Some.ensures.some in
    let parts = pair_parts (clause_of cs n) p paired in
    let same : same_literal p.first p.second ≡ true = sym c.is_same.ensures ∙ c.if-not-is_same.false in
    (inside, sole_falsified (trues t.steps) (clause_of cs n) p.first (sole_pair (clause_of cs n) p paired same) (sym c.is_false.ensures ∙ c.if-is_false.true))

step_of : (c : goal.After-imply) → (c.imply.new.self ≡ record c.args.trail.now { steps = c.args.trail.now.steps ++ record { lit = c.in-Some.pair.first; reason = c.args.number } ∷ [] }) × AreJustified (known c.args.cnf.now []) (c.args.trail.now.steps ++ record { lit = c.in-Some.pair.first; reason = c.args.number } ∷ []) × AreImplied (c.args.trail.now.steps ++ record { lit = c.in-Some.pair.first; reason = c.args.number } ∷ [])
step_of c =
    let cs = known c.args.cnf.now [] in
    let n = c.args.number in
    let t = c.args.trail.now in
    let w = c.args.watches.now in
    let p = c.in-Some.pair in
    let inside : n < length cs = omega (arith, c.requires.inside, ap length (append-nil c.args.cnf.now.clauses)) in
    let paired : is_pair (clause_of cs n) p ≡ true = rw c.clause_at-lits.ensures at c.in-Some.ensures.some in
    let parts = pair_parts (clause_of cs n) p paired in
    let s : Step = record { lit = p.first; reason = n } in
    let same : same_literal p.first p.second ≡ true = sym c.is_same.ensures ∙ c.if-not-is_same.false in
    let reason = sole_reason (trues t.steps) (clause_of cs n) p.first parts.0 (sole_pair (clause_of cs n) p paired same) in
    (c.imply.ensures, EachStep-push (IsJustified cs) t.steps s c.requires.loading.justified (inr (inside, reason)), EachStep-push (λ _ x. IsDecision x → ⊥) t.steps s c.requires.loading.implied (λ dec. omega (arith, dec, inside, c.requires.loading.few)))

pub returns-clause-step : goal.returns-clause-step
returns-clause-step c =
    let cs = known c.args.cnf.now [] in
    let n = c.args.number in
    let t = c.args.trail.now in
    let w = c.args.watches.now in
    let p = c.in-Some.pair in
    let inside : n < length cs = omega (arith, c.requires.inside, ap length (append-nil c.args.cnf.now.clauses)) in
    let paired : is_pair (clause_of cs n) p ≡ true = rw c.clause_at-lits.ensures at c.in-Some.ensures.some in
    let parts = pair_parts (clause_of cs n) p paired in
    let s : Step = record { lit = p.first; reason = n } in
    let after = t.steps ++ s ∷ [] in
    let u : Trailing = record t { steps = after } in
    let facts = step_of c in
    let true_now : has_literal (trues after) p.first ≡ true = ap (λ (ls : List Lit). has_literal ls p.first) (trues_push t.steps s) ∙ has_literal-push (trues t.steps) p.first p.first ∙ or_right (has_literal (trues t.steps) p.first) (same_literal p.first p.first) (same_literal_refl p.first) in
    let new : c.attach.new.self ≡ attached w n p = c.in_ok-attach.ensures in
    rw (facts.0, new) (loading_more cs t u w n p c.requires.loading inside paired (place_inside cs n t w p.first c.requires.loading inside parts.0) (place_inside cs n t w p.second c.requires.loading inside parts.1) refl (within_push t.steps s) facts.1 facts.2 (guarded_one (trues after) (clause_of cs n) p paired true_now))

pub returns-clause-justified : goal.returns-clause-justified
returns-clause-justified c = let facts = step_of c in rw facts.0 facts.1

pub returns-clause-implied : goal.returns-clause-implied
returns-clause-implied c = let facts = step_of c in rw facts.0 facts.2
