use Rattle.std.proofs.Common.{◌≡◌, ℕ, suc, ◌-◌, ◌<◌, [], Bool, true, ◌&&◌, ◌||◌, length, drop, get_or, List, sym, ap, subst, ◌∙◌, arith}
use Rattle.std.specs.Prelude.{slice_get, slice_index_or, nat_lt, Option}
use Rattle.std.specs.List.{list_all}
use Rattle.std.specs.Option.{option_map_or}
use Rattle.std.proofs.lemmas.Bool.{lt-ltb}
use Rattle.std.proofs.lemmas.List.{drop_all, length-replicate}
use Rattle.prv_cnf.specs.declared.literal.Lit.{Lit}
use Rattle.prv_cnf.specs.Literals.{negate, has_literal}
use Rattle.prv_check.specs.Lines.{known, clauses_at}
use Rattle.prv_cnf.specs.Places.{place_of}
use Rattle.prv_check.specs.Inner.Tables.{flag}
use Rattle.prv_check.specs.Freshness.{stands_in, have_use}
use Rattle.prv_check.proofs.Placing.{nothing_flagged}
use Rattle.prv_check.proofs.Leaning.{use_step, use_none, stands_step, or_swapped, all_drop}
use Rattle.prv_check.proofs.lean.have_use.Goals as goal
use Rattle.prv_check.proofs.lean.have_use.Goals.{then-used, else-used}

pub loop-at-init : goal.loop-at-init
loop-at-init c =
    let e : drop (length c.args.hints.now) c.args.hints.now ≡ [] = drop_all (length c.args.hints.now) c.args.hints.now (omega arith) in (
      omega arith,
      rw e (sym (use_none (drop (length c.args.hints.now) c.args.units.now))),
      λ x inside. rw (c.clear.ensures, e) (nothing_flagged (length c.args.seen.now) x),
      rw c.clear.ensures (length-replicate (length c.args.seen.now) _),
    )

pub has_use-used-requires-clause-known : goal.has_use-used-requires-clause-known
has_use-used-requires-clause-known c =
    let P : List ℕ → Type 0 = λ hs. list_all (λ n. nat_lt n (length (known c.args.cnf.now c.args.earlier.now))) hs ≡ true in
    subst P (sym c.after.ensures)
    (all_drop (λ n. nat_lt n (length (known c.args.cnf.now c.args.earlier.now))) c.loop-at.at c.args.hints.now c.requires.known)

pub loop-at-preserved : goal.loop-at-preserved
loop-at-preserved c =
    let cs : List (List Lit) = known c.args.cnf.now c.args.earlier.now in
    let hints : List ℕ = c.args.hints.now in
    let units : List Lit = c.args.units.now in
    let n : ℕ = c.loop-at.at - 1 in
    let e : suc n ≡ c.loop-at.at = omega arith in
    let inside : n < length hints = omega arith in
    let S : ℕ → Type 0 = λ m. have_use (drop n units) (clauses_at cs (drop n hints)) ≡ (option_map_or (λ u. stands_in (clauses_at cs (drop m hints)) (negate u)) (slice_get units n) true && have_use (drop m units) (clauses_at cs (drop m hints))) in
    let step : S c.loop-at.at = subst S e (use_step n units cs hints inside) in
    let T : ℕ → Type 0 = λ m. (x : Lit) → stands_in (clauses_at cs (drop n hints)) x ≡ (has_literal (slice_index_or cs (get_or hints n 0) []) x || stands_in (clauses_at cs (drop m hints)) x) in
    let stands : T c.loop-at.at = subst T e (λ x. stands_step n cs hints x inside) in
    let later : Option Lit → Bool = λ o. option_map_or (λ u. stands_in (clauses_at cs (drop c.loop-at.at hints)) (negate u)) o true in
    let used : c.if-used.used ≡ have_use (drop n units) (clauses_at cs (drop n hints)) =
    elim c.if-used.branch [
      | then-used w ↦
          let after : List ℕ → Bool = λ hs. option_map_or (λ u. stands_in (clauses_at cs hs) (negate u)) w.unit_at.result true in
          let unit : w.has_use-used.result ≡ later (slice_get units n) = w.has_use-used.ensures ∙ ap after w.after.ensures ∙ ap later w.unit_at.ensures in
          grind (arith, step, unit)
      | else-used w ↦ grind (arith, step)
    ] in
    let clause : c.clause_at.result.now ≡ slice_index_or cs (get_or hints n 0) [] = c.clause_at.ensures in
    let now_seen : (x : Lit) → place_of x < length c.flag_all.new.flags → flag c.flag_all.new.flags x ≡ stands_in (clauses_at cs (drop n hints)) x = λ x below.
    let low : place_of x < length c.loop-at.seen = omega (arith, c.flag_all.ensures.size) in
    c.flag_all.ensures.flagged x
    ∙ ap (λ (b : Bool). flag c.loop-at.seen x || (b && has_literal c.clause_at.result.now x)) (lt-ltb (place_of x) (length c.loop-at.seen) low)
    ∙ or_swapped (flag c.loop-at.seen x) (stands_in (clauses_at cs (drop c.loop-at.at hints)) x) (has_literal c.clause_at.result.now x) (has_literal (slice_index_or cs (get_or hints n 0) []) x) (c.loop-at.invariant.2 x low) (ap (λ (t : List Lit). has_literal t x) clause)
    ∙ sym (stands x) in
    (omega arith, used, now_seen, c.flag_all.ensures.size ∙ c.loop-at.invariant.3)
