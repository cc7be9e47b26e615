use Rattle.std.proofs.Common.{◌≡◌, ◌∙◌, List, Option, None, Some, option_map, subst, sym, ap, Vec, Global}
use Rattle.std.specs.List.{AllByRecursion}
use Rattle.prv_cnf.specs.declared.literal.Lit.{Lit}
use Rattle.prv_cnf.specs.Formulas.{IsLiteral}
use Rattle.prv_gate.specs.Assertions.{asserted, with_asserted, clause_of, Asserts}
use Rattle.prv_gate.proofs.Asserting.{asserted-ended, asserted-by_clause, asserted-asserts, clause-inside, ok_as, ok_along}
use Rattle.prv_gate.proofs.builder.Builder.assert_any.Goals as goal

pub returns-then-is_ended-clause-run : goal.returns-then-is_ended-clause-run
returns-then-is_ended-clause-run c = asserted-ended c.args.bits.now c.args.self.now (sym c.is_ended.ensures.value ∙ c.if-is_ended.true)

pub assert_clause-requires : goal.assert_clause-requires
assert_clause-requires c =
    let items : Option (Vec Lit Global) → Option (List Lit) = option_map (λ ls. ls.items) in
    let clause : Some c.in-Some.lits.items ≡ clause_of c.args.self.now.known c.args.bits.now = sym (ap items c.in-Some.is) ∙ c.in_ok-clause_of.ensures in
    let inside : AllByRecursion (IsLiteral c.args.self.now.formula.vars) c.in-Some.lits.items =
    clause-inside c.args.self.now.formula.vars c.args.self.now.known c.args.bits.now c.in-Some.lits.items c.requires clause in
    subst (AllByRecursion (IsLiteral c.args.self.now.formula.vars)) (sym c.as_slice.ensures.value) inside

pub returns-in-None-clause-run : goal.returns-in-None-clause-run
returns-in-None-clause-run c =
    let items : Option (Vec Lit Global) → Option (List Lit) = option_map (λ ls. ls.items) in
    asserted-by_clause c.args.bits.now c.args.self.now None (sym c.is_ended.ensures.value ∙ c.if-is_ended.false) (sym (ap items c.in-None.is) ∙ c.in_ok-clause_of.ensures)

pub returns-in-None-clause-asserts : goal.returns-in-None-clause-asserts
returns-in-None-clause-asserts c =
    subst (Asserts c.args.bits.now c.args.self.now) (sym (returns-in-None-clause-run c)) (asserted-asserts c.args.self.now c.is_ended.ensures.circuit c.args.bits.now c.requires)

pub returns-in-Some-clause-run : goal.returns-in-Some-clause-run
returns-in-Some-clause-run c =
    let items : Option (Vec Lit Global) → Option (List Lit) = option_map (λ ls. ls.items) in
    let clause : Some c.in-Some.lits.items ≡ clause_of c.args.self.now.known c.args.bits.now = sym (ap items c.in-Some.is) ∙ c.in_ok-clause_of.ensures in
    ok_as c.assert_clause.result c.assert_clause.new.self (with_asserted c.args.self.now c.as_slice.result.now) (asserted c.args.bits.now c.args.self.now) c.assert_clause.ensures
    (ap (with_asserted c.args.self.now) c.as_slice.ensures.value
    ∙ asserted-by_clause c.args.bits.now c.args.self.now (Some c.in-Some.lits.items) (sym c.is_ended.ensures.value ∙ c.if-is_ended.false) clause)

pub returns-in-Some-clause-asserts : goal.returns-in-Some-clause-asserts
returns-in-Some-clause-asserts c =
    ok_along (Asserts c.args.bits.now c.args.self.now) c.assert_clause.result c.assert_clause.new.self (asserted c.args.bits.now c.args.self.now) (returns-in-Some-clause-run c)
    (asserted-asserts c.args.self.now c.is_ended.ensures.circuit c.args.bits.now c.requires)
