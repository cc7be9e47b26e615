use Rattle.std.proofs.Common.{◌≡◌, ◌<◌, ℕ, map, length, drop, List, ap, subst, ◌∙◌}
use Rattle.std.specs.List.{All, list_all}
use Rattle.prv_cnf.specs.declared.literal.Lit.{Lit}
use Rattle.prv_cnf.specs.Literals.{negate}
use Rattle.prv_check.specs.Propagation.{trail_after}
use Rattle.prv_check.specs.Lines.{known, clauses_at}
use Rattle.prv_cnf.specs.Places.{place_of}
use Rattle.prv_check.specs.Inner.Tables.{flag, are_flagged}
use Rattle.prv_check.specs.Freshness.{stands_in, have_use}
use Rattle.prv_check.proofs.Placing.{within_places}
use Rattle.prv_check.proofs.Leaning.{flagged_stand, lean_parts}
use Rattle.prv_check.proofs.lean.is_lean.Goals as goal

pub returns-clause-lean : goal.returns-clause-lean
returns-clause-lean c =
    let earlier : List (List Lit) = known c.args.cnf.now c.args.earlier.now in
    let lits : List Lit = c.args.line.now.clause in
    let cs : List (List Lit) = clauses_at earlier c.args.line.now.hints in
    let lits_are : c.lits-lits.result.now ≡ lits = c.lits-lits.ensures ∙ c.clause.ensures in
    let P : List ℕ → Type 0 = λ hs. (x : Lit) → place_of x < length c.have_use-used.new.seen → flag c.have_use-used.new.seen x ≡ stands_in (clauses_at earlier hs) x in
    let seen : P c.args.line.now.hints = subst P c.hints.ensures c.have_use-used.ensures.seen in
    let places : All (λ l. place_of l < length c.have_use-used.new.seen) lits =
    within_places c.args.cnf.now.vars (length c.have_use-used.new.seen) lits c.requires.within (c.have_use-used.ensures.table ∙ c.requires.table) in
    let stand : c.all_flagged.result ≡ list_all (stands_in cs) lits =
    c.all_flagged.ensures ∙ ap (λ (ls : List Lit). are_flagged c.have_use-used.new.seen ls) lits_are
    ∙ flagged_stand (length c.have_use-used.new.seen) c.have_use-used.new.seen cs lits places seen in
    let used : c.have_use-used.result ≡ have_use c.after-units.result.now cs =
    c.have_use-used.ensures.used ∙ ap (λ (hs : List ℕ). have_use c.after-units.result.now (clauses_at earlier hs)) c.hints.ensures in
    let units : c.after-units.result.now ≡ drop (length lits) (trail_after (map negate lits) cs) =
    c.after-units.ensures ∙ ap (λ (ls : List Lit). drop (length ls) c.trail.result.now) lits_are
    ∙ ap (λ (t : List Lit). drop (length lits) t) (c.trail.ensures ∙ c.requires.trail) in
    lean_parts cs lits c.after-units.result.now c.all_flagged.result c.have_use-used.result stand used units
