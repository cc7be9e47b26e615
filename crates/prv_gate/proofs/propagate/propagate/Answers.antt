use Rattle.std.proofs.Common.{◌≡◌, ◌∙◌, ◌<◌, [], length, get_or, refl, ap, arith}
use Rattle.prv_cnf.specs.Literals.{negate}
use Rattle.prv_cnf.specs.Formulas.{Formula}
use Rattle.prv_gate.specs.Occurrences.{occurrences_of}
use Rattle.prv_gate.proofs.Learning.{pass-learns, pass-conflict, any_default}
use Rattle.prv_gate.proofs.Pending.{popped-below, forced-inside, pending-forces, work-less}
use Rattle.prv_gate.proofs.propagate.propagate.Goals as goal

pub negated-requires : goal.negated-requires
negated-requires c =
    let f : Formula = record { vars = length c.args.known.now; clauses = c.args.clauses.now } in
    let at : c.in-Some.number < length c.args.clauses.now =
    popped-below c.args.clauses.now c.loop-number.known c.loop-number.pending.items c.pop.new.self.items c.in-Some.number c.in-Some.ensures.items c.loop-number.invariant.pending in
    let same : c.lits.result.now ≡ get_or c.args.clauses.now c.in-Some.number [] =
    c.lits.ensures ∙ c.index-clauses-number.is ∙ any_default c.args.clauses.now c.in-Some.number c.index-clauses-number.result [] at in
    let inside = forced-inside f c.requires.literals c.loop-number.known c.visit.new.known c.loop-number.invariant.learns.size
    c.loop-number.pending.items c.pop.new.self.items c.in-Some.number c.in-Some.ensures.items c.loop-number.invariant.pending c.lits.result.now same c.visit.ensures.known c.in-Forces.lit c.in-Forces.ensures.value in
    omega (arith, inside.1, c.requires.vars)

pub loop-number-smaller : goal.loop-number-smaller
loop-number-smaller c =
    let f : Formula = record { vars = length c.args.known.now; clauses = c.args.clauses.now } in
    let at : c.in-Some.number < length c.args.clauses.now =
    popped-below c.args.clauses.now c.loop-number.known c.loop-number.pending.items c.pop.new.self.items c.in-Some.number c.in-Some.ensures.items c.loop-number.invariant.pending in
    let same : c.lits.result.now ≡ get_or c.args.clauses.now c.in-Some.number [] =
    c.lits.ensures ∙ c.index-clauses-number.is ∙ any_default c.args.clauses.now c.in-Some.number c.index-clauses-number.result [] at in
    let listed : c.list.result.now ≡ occurrences_of c.args.occurrences.now (negate c.in-Forces.lit) = c.list.ensures ∙ ap (occurrences_of c.args.occurrences.now) c.negated.ensures in
    work-less f c.requires.literals c.loop-number.known c.visit.new.known c.loop-number.invariant.learns.size
    c.loop-number.pending.items c.pop.new.self.items c.in-Some.number c.in-Some.ensures.items c.loop-number.invariant.pending c.lits.result.now same c.visit.ensures.known
    c.in-Forces.lit c.in-Forces.ensures.value c.args.occurrences.now c.list.result.now listed c.extend_from_slice.new.self.items c.in_ok-extend_from_slice-in-Forces.ensures.items

pub loop-number-preserved : goal.loop-number-preserved
loop-number-preserved c =
    let f : Formula = record { vars = length c.args.known.now; clauses = c.args.clauses.now } in
    let at : c.in-Some.number < length c.args.clauses.now =
    popped-below c.args.clauses.now c.loop-number.known c.loop-number.pending.items c.pop.new.self.items c.in-Some.number c.in-Some.ensures.items c.loop-number.invariant.pending in
    let same : c.lits.result.now ≡ get_or c.args.clauses.now c.in-Some.number [] =
    c.lits.ensures ∙ c.index-clauses-number.is ∙ any_default c.args.clauses.now c.in-Some.number c.index-clauses-number.result [] at in
    let listed : c.list.result.now ≡ occurrences_of c.args.occurrences.now (negate c.in-Forces.lit) = c.list.ensures ∙ ap (occurrences_of c.args.occurrences.now) c.negated.ensures in
    record {
      learns = pass-learns f c.requires.literals c.args.known.now c.loop-number.known c.visit.new.known refl c.loop-number.invariant.learns c.lits.result.now c.in-Some.number at same c.visit.ensures.known;
      pending = pending-forces f c.requires.literals c.loop-number.known c.visit.new.known c.loop-number.invariant.learns.size
          c.loop-number.pending.items c.pop.new.self.items c.in-Some.number c.in-Some.ensures.items c.loop-number.invariant.pending c.lits.result.now same c.visit.ensures.known
          c.in-Forces.lit c.in-Forces.ensures.value c.args.occurrences.now c.requires.entered c.list.result.now listed c.extend_from_slice.new.self.items c.in_ok-extend_from_slice-in-Forces.ensures.items;
    }

pub returns-in-Conflict-clause-conflict : goal.returns-in-Conflict-clause-conflict
returns-in-Conflict-clause-conflict c _ =
    let f : Formula = record { vars = length c.args.known.now; clauses = c.args.clauses.now } in
    let at : c.in-Some.number < length c.args.clauses.now =
    popped-below c.args.clauses.now c.loop-number.known c.loop-number.pending.items c.pop.new.self.items c.in-Some.number c.in-Some.ensures.items c.loop-number.invariant.pending in
    let same : c.lits.result.now ≡ get_or c.args.clauses.now c.in-Some.number [] =
    c.lits.ensures ∙ c.index-clauses-number.is ∙ any_default c.args.clauses.now c.in-Some.number c.index-clauses-number.result [] at in
    pass-conflict f c.requires.literals c.args.known.now c.loop-number.known c.visit.new.known refl c.loop-number.invariant.learns c.lits.result.now c.in-Some.number at same c.visit.ensures.known
    c.in-Conflict.ensures.value
