use Rattle.std.proofs.Common.{◌≡◌, true, false, eqb, get_or, set, refl, sym, subst, ◌∙◌, arith}
use Rattle.prv_check.specs.Lines.{is_within}
use Rattle.prv_cnf.specs.Places.{place_of}
use Rattle.prv_sat.specs.Marking.{Marking, AreMarks}
use Rattle.prv_sat.proofs.Marked.{marks_again, marks_first, mark_inside, after_mark, touched_now}
use Rattle.prv_sat.proofs.marks.Marks.mark.Goals as goal

pub invariant_of-self : goal.invariant_of-self
invariant_of-self c = rw c.in_err-push.ensures.items c.self.invariant

first_marks : (c : goal.After-self-1) → AreMarks c.self.inside.vars (set c.self.inside.table.items c.place-then-is_at.result 1) c.push.new.self.items
first_marks c =
    let within : is_within c.self.inside.vars c.args.lit ≡ true = subst (λ (m : Marking). is_within m.vars c.args.lit ≡ true) (sym c.self.view_is) c.requires in
    let at_place : eqb (get_or c.self.inside.table.items (place_of c.args.lit) 0) 0 ≡ true = rw (c.as_slice.ensures.value, c.place.ensures.value) at (sym c.is_at.ensures ∙ c.if-is_at.true) in
    let fresh = touched_now c.self.invariant c.args.lit true at_place in
    rw (c.place-then-is_at.ensures.value, c.in_ok-push.ensures.items) (marks_first c.self.invariant c.args.lit within fresh)

pub invariant_of-self-then-is_at : goal.invariant_of-self-then-is_at
invariant_of-self-then-is_at c = first_marks c

pub returns-then-is_at-clause-marked : goal.returns-then-is_at-clause-marked
returns-then-is_at-clause-marked c =
    let within : is_within c.self.inside.vars c.args.lit ≡ true = subst (λ (m : Marking). is_within m.vars c.args.lit ≡ true) (sym c.self.view_is) c.requires in
    rw (← c.self.view_is) (after_mark c.self.invariant (first_marks c) c.args.lit c.place-then-is_at.result c.place-then-is_at.ensures.value refl (mark_inside c.self.invariant c.args.lit within))

again_marks : (c : goal.After-self-2-1) → AreMarks c.self.inside.vars (set c.self.inside.table.items c.place-3.result 1) c.self.inside.touched.items
again_marks c =
    let at_place : eqb (get_or c.self.inside.table.items (place_of c.args.lit) 0) 0 ≡ false = rw (c.as_slice.ensures.value, c.place.ensures.value) at (sym c.is_at.ensures ∙ c.if-is_at.false) in
    let here = touched_now c.self.invariant c.args.lit false at_place in
    rw c.place-3.ensures.value (marks_again c.self.invariant c.args.lit 1 here (λ e. omega (arith, e)))

pub invariant_of-self-2 : goal.invariant_of-self-2
invariant_of-self-2 c = again_marks c

pub returns-clause-marked : goal.returns-clause-marked
returns-clause-marked c =
    let within : is_within c.self.inside.vars c.args.lit ≡ true = subst (λ (m : Marking). is_within m.vars c.args.lit ≡ true) (sym c.self.view_is) c.requires in
    rw (← c.self.view_is) (after_mark c.self.invariant (again_marks c) c.args.lit c.place-3.result c.place-3.ensures.value refl (mark_inside c.self.invariant c.args.lit within))
