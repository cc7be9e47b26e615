use Rattle.std.proofs.Common.{◌≡◌, ℕ, ◌++◌, length, ap, ◌∙◌, arith}
use Rattle.prv_text.specs.Entries.{more_text}
use Rattle.prv_text.proofs.Conditions.{shown, begins, goes-on, ends}
use Rattle.prv_text.proofs.literals.push_condition.Goals as goal

pub loop-place-init : goal.loop-place-init
loop-place-init g c =
    begins c.args.names.now (g.L.Literals.terms c.args.literals.now) c.args.out.now.items c.push_at.new.out.items (λ none. c.if-count-eq0.false (c.count-count.ensures ∙ none)) c.in_ok-push_at.ensures

pub loop-place-preserved : goal.loop-place-preserved
loop-place-preserved g c =
    let names = c.args.names.now in
    let ts = g.L.Literals.terms c.args.literals.now in
    goes-on names ts c.loop-place.place c.loop-place.out.items c.extend_from_slice-in-loop-place.new.self.items c.push_at-in-loop-place.new.out.items (c.args.out.now.items ++ shown names ts)
    (omega (arith, c.loop-place-test.true, c.min-place-end.ensures, c.count-count.ensures)) (omega (arith, c.loop-place-test.true, c.min-place-end.ensures)) c.loop-place.invariant c.in_ok-extend_from_slice-2.ensures.items c.in_ok-push_at-2.ensures

pub returns : goal.returns
returns g c =
    let mid = c.loop-place.out.items in
    ends c.args.names.now (g.L.Literals.terms c.args.literals.now) c.loop-place.place c.args.out.now.items mid c.push_more.new.out.items (λ none. c.if-count-eq0.false (c.count-count.ensures ∙ none))
    (omega (arith, c.loop-place-test.false, c.min-place-end.ensures, c.count-count.ensures)) c.loop-place.invariant (c.in_ok-push_more.ensures ∙ ap (λ (n : ℕ). mid ++ more_text n) c.count-count.ensures)
