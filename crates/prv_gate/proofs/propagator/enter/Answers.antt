use Rattle.std.proofs.Common.{◌≡◌, ◌∙◌, ◌<◌, [], length, get_or, sym, subst, arith, List}
use Rattle.std.specs.List.{AllByRecursion}
use Rattle.prv_cnf.specs.declared.literal.Lit.{Lit}
use Rattle.prv_cnf.specs.Places.{place_of}
use Rattle.prv_gate.proofs.Learning.{any_default}
use Rattle.prv_gate.proofs.Entering.{all-below, entered-next, numbers-more, numbers-rise, places-at, places-kept}
use Rattle.prv_gate.proofs.propagator.enter.Goals as goal

pub enter-requires : goal.enter-requires
enter-requires c =
    let at : c.loop-number.number < length c.args.clauses.now = omega (arith, c.loop-number-test.true, c.requires.to) in
    let same : c.lits.result.now ≡ get_or c.args.clauses.now c.loop-number.number [] =
    c.lits.ensures ∙ c.index-clauses-number.is ∙ any_default c.args.clauses.now c.loop-number.number c.index-clauses-number.result [] at in
    subst (λ (ls : List Lit). AllByRecursion (λ l. place_of l < length c.loop-number.occurrences) ls) (sym same)
    (places-at (length c.loop-number.occurrences) c.args.clauses.now c.loop-number.number c.loop-number.invariant.inside)

pub loop-number-preserved : goal.loop-number-preserved
loop-number-preserved c =
    let inv = c.loop-number.invariant in
    let at : c.loop-number.number < length c.args.clauses.now = omega (arith, c.loop-number-test.true, c.requires.to) in
    let same : c.lits.result.now ≡ get_or c.args.clauses.now c.loop-number.number [] =
    c.lits.ensures ∙ c.index-clauses-number.is ∙ any_default c.args.clauses.now c.loop-number.number c.index-clauses-number.result [] at in
    let places : AllByRecursion (λ l. place_of l < length c.loop-number.occurrences) c.lits.result.now =
    subst (λ (ls : List Lit). AllByRecursion (λ l. place_of l < length c.loop-number.occurrences) ls) (sym same)
    (places-at (length c.loop-number.occurrences) c.args.clauses.now c.loop-number.number inv.inside) in
    record {
      inside = places-kept c.loop-number.number c.lits.result.now c.loop-number.occurrences c.enter.new.self c.in_ok-enter.ensures c.args.clauses.now inv.inside;
      entered = entered-next c.args.clauses.now c.loop-number.number c.loop-number.occurrences c.enter.new.self c.lits.result.now inv.entered at same places c.in_ok-enter.ensures;
      below = numbers-rise c.loop-number.number c.loop-number.numbers.items c.push.new.self.items c.in_ok-push.ensures.items inv.below;
      new = numbers-more c.args.from c.loop-number.number c.loop-number.numbers.items c.push.new.self.items c.in_ok-push.ensures.items inv.new;
    }

pub returns-clause-below : goal.returns-clause-below
returns-clause-below c = all-below c.loop-number.number c.args.to (omega arith) c.loop-number.numbers.items c.loop-number.invariant.below
