use Rattle.std.proofs.Common.{◌≡◌, true, set, refl, sym, subst, arith}
use Rattle.prv_cnf.specs.Literals.{has_literal}
use Rattle.prv_sat.specs.Marking.{Marking, AreMarks}
use Rattle.prv_sat.proofs.Marked.{marks_again, marked_touched, touched_inside, after_unmark}
use Rattle.prv_sat.proofs.marks.Marks.unmark.Goals as goal

pub index_mut-requires : goal.index_mut-requires
index_mut-requires c =
    let here : has_literal c.self.inside.touched.items c.args.lit ≡ true = marked_touched c.self.inside.table.items c.self.inside.touched.items c.args.lit (subst (λ (m : Marking). has_literal m.marked c.args.lit ≡ true) (sym c.self.view_is) c.requires) in
    omega (arith, touched_inside c.self.invariant c.args.lit here, c.place.ensures.value)

pub invariant_of-self : goal.invariant_of-self
invariant_of-self c =
    let here : has_literal c.self.inside.touched.items c.args.lit ≡ true = marked_touched c.self.inside.table.items c.self.inside.touched.items c.args.lit (subst (λ (m : Marking). has_literal m.marked c.args.lit ≡ true) (sym c.self.view_is) c.requires) in
    rw c.place.ensures.value (marks_again c.self.invariant c.args.lit 2 here (λ e. omega (arith, e)))

pub returns-clause-marked : goal.returns-clause-marked
returns-clause-marked c =
    let here : has_literal c.self.inside.touched.items c.args.lit ≡ true = marked_touched c.self.inside.table.items c.self.inside.touched.items c.args.lit (subst (λ (m : Marking). has_literal m.marked c.args.lit ≡ true) (sym c.self.view_is) c.requires) in
    let w : AreMarks c.self.inside.vars (set c.self.inside.table.items c.place.result 2) c.self.inside.touched.items = rw c.place.ensures.value (marks_again c.self.invariant c.args.lit 2 here (λ e. omega (arith, e))) in
    rw (← c.self.view_is) (after_unmark c.self.invariant w c.args.lit c.place.result c.place.ensures.value refl (touched_inside c.self.invariant c.args.lit here))
