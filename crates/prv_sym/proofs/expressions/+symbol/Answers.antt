use Rattle.std.proofs.Common.{ap, sym, ◌∙◌, rules, FitsSigned}
use Rattle.std.proofs.lemmas.Int.{to_z-of_z}
use Rattle.std.proofs.lemmas.Result.{err_from_is_err_and}
use Rattle.std.specs.Int.{w32}
use Rattle.prv_model.specs.declared.expr.Expr.{Expr, the_lemmas}
use Rattle.prv_sym.specs.Calls.{terms_of}
use Rattle.prv_sym.specs.Named.{named}
use Rattle.prv_sym.proofs.Naming.{grows-on, stands-in, still-in}
use Rattle.prv_sym.proofs.Slots.{slots-kept}
use Rattle.prv_sym.proofs.Composing.{names-of, names-moved, symbol-Var, named-Var, named-Un, named-Bin, named-Pick, moved, said-as, said-of, said-number, said-Un, said-Bin, said-Pick, first-refused, second-refused, third-refused}
use Rattle.prv_sym.proofs.expressions.+symbol.Goals as goal

pub returns-in-Num : goal.returns-in-Num
returns-in-Num t c =
    let env = terms_of c.args.pool.now.terms c.args.slots.now in
    let fits : FitsSigned w32 c.in-Num.n = search rules in
    let u = c.number.ensures in
    let s = said-of c.args.expr.now _ env _ _ _ c.in-Num.is (said-number _ c.in-Num.n env _ _ _ (to_z-of_z w32 c.in-Num.n fits) (record { value = u.value; safe = u.safe; names = u.names })) in
    record { value = s.value; safe = s.safe; names = s.names }

pub read-requires : goal.read-requires
read-requires t c = c.requires

pub returns-in-Var : goal.returns-in-Var
returns-in-Var t c =
    let env = terms_of c.args.pool.now.terms c.args.slots.now in
    let s = said-of c.args.expr.now _ env _ _ _ c.in-Var.is (said-as _ _ _ _ _ _ _ (sym (symbol-Var env c.in-Var.v)) (sym (named-Var env c.in-Var.v)) (record { value = c.read.ensures.value; safe = c.read.ensures.safe; names = c.read.ensures.names })) in
    record { value = s.value; safe = s.safe; names = s.names }

pub returns-in_err-x-in-Un : goal.returns-in_err-x-in-Un
returns-in_err-x-in-Un t c =
    let env = terms_of c.args.pool.now.terms c.args.slots.now in
    let passed = err_from_is_err_and c.from_residual.result c.from_residual.ensures.1 in
    let is = ap (λ (e : Expr). named e env) c.in-Un.is ∙ named-Un env c.in-Un.op c.in-Un.a in
    rw (passed.1, passed.2) (record { value = tt; safe = tt; names = first-refused _ _ _ _ _ _ is (rw c.get.ensures at c.in_err-x-in-Un.ensures.names) })

pub returns-in_ok-x-in-Un : goal.returns-in_ok-x-in-Un
returns-in_ok-x-in-Un t c =
    let env = terms_of c.args.pool.now.terms c.args.slots.now in
    let h = c.in_ok-x-in-Un.ensures in
    let one = said-of c.in-Un.a _ env _ _ _ (sym c.get.ensures) (record { value = h.value; safe = h.safe; names = h.names }) in
    let u = c.unary.ensures in
    let s = said-of c.args.expr.now _ env _ _ _ c.in-Un.is (said-Un c.in-Un.op c.in-Un.a env _ _ _ _ _ one (record { value = u.value; safe = u.safe; names = u.names })) in
    record { value = s.value; safe = s.safe; names = s.names }

pub returns-in_err-x-in-Bin : goal.returns-in_err-x-in-Bin
returns-in_err-x-in-Bin t c =
    let env = terms_of c.args.pool.now.terms c.args.slots.now in
    let passed = err_from_is_err_and c.from_residual-in_err-x-in-Bin.result c.from_residual-in_err-x-in-Bin.ensures.1 in
    let is = ap (λ (e : Expr). named e env) c.in-Bin.is ∙ named-Bin env c.in-Bin.op c.in-Bin.a c.in-Bin.b in
    rw (passed.1, passed.2) (record { value = tt; safe = tt; names = first-refused _ _ _ _ _ _ is (rw c.get-in-Bin.ensures at c.in_err-x-in-Bin.ensures.names) })

pub returns-in_err-y-in-Bin : goal.returns-in_err-y-in-Bin
returns-in_err-y-in-Bin t c =
    let env = terms_of c.args.pool.now.terms c.args.slots.now in
    let passed = err_from_is_err_and c.from_residual-in_err-y-in-Bin.result c.from_residual-in_err-y-in-Bin.ensures.1 in
    let is = ap (λ (e : Expr). named e env) c.in-Bin.is ∙ named-Bin env c.in-Bin.op c.in-Bin.a c.in-Bin.b in
    let h = c.in_ok-x-in-Bin.ensures in
    let one = names-of _ c.in-Bin.a env _ _ _ c.get-in-Bin.ensures h.names in
    let two = names-moved _ c.in-Bin.b c.args.slots.now c.args.pool.now _ _ _ c.get-in-Bin-2.ensures h.names.kept c.requires c.in_err-y-in-Bin.ensures.names in
    rw (passed.1, passed.2) (record { value = tt; safe = tt; names = second-refused _ _ _ _ _ _ _ _ _ is one two })

pub returns-in_ok-y-in-Bin : goal.returns-in_ok-y-in-Bin
returns-in_ok-y-in-Bin t c =
    let env = terms_of c.args.pool.now.terms c.args.slots.now in
    let h = c.in_ok-x-in-Bin.ensures in
    let k = c.in_ok-y-in-Bin.ensures in
    let one = said-of c.in-Bin.a _ env _ _ _ (sym c.get-in-Bin.ensures) (record { value = h.value; safe = h.safe; names = h.names }) in
    let two = moved c.in-Bin.b c.args.slots.now c.args.pool.now _ _ _ h.names.kept c.requires (said-of c.in-Bin.b _ _ _ _ _ (sym c.get-in-Bin-2.ensures) (record { value = k.value; safe = k.safe; names = k.names })) in
    let u = c.binary.ensures in
    let s = said-of c.args.expr.now _ env _ _ _ c.in-Bin.is (said-Bin c.in-Bin.op c.in-Bin.a c.in-Bin.b env _ _ _ _ _ _ _ one two (record { value = u.value; safe = u.safe; names = u.names })) in
    record { value = s.value; safe = s.safe; names = s.names }

pub returns-in_err-c-in-Pick : goal.returns-in_err-c-in-Pick
returns-in_err-c-in-Pick t c =
    let env = terms_of c.args.pool.now.terms c.args.slots.now in
    let passed = err_from_is_err_and c.from_residual-in_err-c-in-Pick.result c.from_residual-in_err-c-in-Pick.ensures.1 in
    let is = ap (λ (e : Expr). named e env) c.in-Pick.is ∙ named-Pick env c.in-Pick.test c.in-Pick.chosen c.in-Pick.other in
    rw (passed.1, passed.2) (record { value = tt; safe = tt; names = first-refused _ _ _ _ _ _ is (rw c.get-in-Pick.ensures at c.in_err-c-in-Pick.ensures.names) })

pub returns-in_err-x-in-Pick : goal.returns-in_err-x-in-Pick
returns-in_err-x-in-Pick t c =
    let env = terms_of c.args.pool.now.terms c.args.slots.now in
    let passed = err_from_is_err_and c.from_residual-in_err-x-in-Pick.result c.from_residual-in_err-x-in-Pick.ensures.1 in
    let is = ap (λ (e : Expr). named e env) c.in-Pick.is ∙ named-Pick env c.in-Pick.test c.in-Pick.chosen c.in-Pick.other in
    let h = c.in_ok-c-in-Pick.ensures in
    let one = names-of _ c.in-Pick.test env _ _ _ c.get-in-Pick.ensures h.names in
    let two = names-moved _ c.in-Pick.chosen c.args.slots.now c.args.pool.now _ _ _ c.get-in-Pick-2.ensures h.names.kept c.requires c.in_err-x-in-Pick.ensures.names in
    rw (passed.1, passed.2) (record { value = tt; safe = tt; names = second-refused _ _ _ _ _ _ _ _ _ is one two })

pub returns-in_err-y-in-Pick : goal.returns-in_err-y-in-Pick
returns-in_err-y-in-Pick t c =
    let env = terms_of c.args.pool.now.terms c.args.slots.now in
    let passed = err_from_is_err_and c.from_residual-in_err-y-in-Pick.result c.from_residual-in_err-y-in-Pick.ensures.1 in
    let is = ap (λ (e : Expr). named e env) c.in-Pick.is ∙ named-Pick env c.in-Pick.test c.in-Pick.chosen c.in-Pick.other in
    let h = c.in_ok-c-in-Pick.ensures in
    let k = c.in_ok-x-in-Pick.ensures in
    let one = names-of _ c.in-Pick.test env _ _ _ c.get-in-Pick.ensures h.names in
    let two = names-moved _ c.in-Pick.chosen c.args.slots.now c.args.pool.now _ _ _ c.get-in-Pick-2.ensures h.names.kept c.requires k.names in
    let three = names-moved _ c.in-Pick.other c.args.slots.now c.args.pool.now _ _ _ c.get-in-Pick-3.ensures (grows-on _ _ _ h.names.kept k.names.kept) c.requires c.in_err-y-in-Pick.ensures.names in
    rw (passed.1, passed.2) (record { value = tt; safe = tt; names = third-refused _ _ _ _ _ _ _ _ _ _ _ _ is one two three })

pub returns-in_ok-y-in-Pick : goal.returns-in_ok-y-in-Pick
returns-in_ok-y-in-Pick t c =
    let env = terms_of c.args.pool.now.terms c.args.slots.now in
    let h = c.in_ok-c-in-Pick.ensures in
    let k = c.in_ok-x-in-Pick.ensures in
    let m = c.in_ok-y-in-Pick.ensures in
    let one = said-of c.in-Pick.test _ env _ _ _ (sym c.get-in-Pick.ensures) (record { value = h.value; safe = h.safe; names = h.names }) in
    let two = moved c.in-Pick.chosen c.args.slots.now c.args.pool.now _ _ _ h.names.kept c.requires (said-of c.in-Pick.chosen _ _ _ _ _ (sym c.get-in-Pick-2.ensures) (record { value = k.value; safe = k.safe; names = k.names })) in
    let three = moved c.in-Pick.other c.args.slots.now c.args.pool.now _ _ _ (grows-on _ _ _ h.names.kept k.names.kept) c.requires
    (said-of c.in-Pick.other _ _ _ _ _ (sym c.get-in-Pick-3.ensures) (record { value = m.value; safe = m.safe; names = m.names })) in
    let u = c.pick.ensures in
    let s = said-of c.args.expr.now _ env _ _ _ c.in-Pick.is (said-Pick c.in-Pick.test c.in-Pick.chosen c.in-Pick.other env _ _ _ _ _ _ _ _ _ one two three (record { value = u.value; safe = u.safe; names = u.names })) in
    record { value = s.value; safe = s.safe; names = s.names }

-- what the calls require
pub symbol-requires : goal.symbol-requires
symbol-requires t c = (search (rules, the_lemmas), c.requires)

pub unary-requires : goal.unary-requires
unary-requires t c = let h = c.in_ok-x-in-Un.ensures in (stands-in _ _ _ h.value, stands-in _ _ _ h.safe)

pub symbol-requires-in-Bin : goal.symbol-requires-in-Bin
symbol-requires-in-Bin t c = (search (rules, the_lemmas), c.requires)

pub symbol-requires-in-Bin-2 : goal.symbol-requires-in-Bin-2
symbol-requires-in-Bin-2 t c = (search (rules, the_lemmas), slots-kept _ _ c.in_ok-x-in-Bin.ensures.names.kept c.args.slots.now c.requires)

pub binary-requires-clause-first : goal.binary-requires-clause-first
binary-requires-clause-first t c =
    let h = c.in_ok-x-in-Bin.ensures in
    let on = c.in_ok-y-in-Bin.ensures.names.kept in
    (still-in _ _ _ on (stands-in _ _ _ h.value), still-in _ _ _ on (stands-in _ _ _ h.safe))

pub binary-requires-clause-second : goal.binary-requires-clause-second
binary-requires-clause-second t c = let h = c.in_ok-y-in-Bin.ensures in (stands-in _ _ _ h.value, stands-in _ _ _ h.safe)

pub symbol-requires-in-Pick : goal.symbol-requires-in-Pick
symbol-requires-in-Pick t c = (search (rules, the_lemmas), c.requires)

pub symbol-requires-in-Pick-2 : goal.symbol-requires-in-Pick-2
symbol-requires-in-Pick-2 t c = (search (rules, the_lemmas), slots-kept _ _ c.in_ok-c-in-Pick.ensures.names.kept c.args.slots.now c.requires)

pub symbol-requires-in-Pick-3 : goal.symbol-requires-in-Pick-3
symbol-requires-in-Pick-3 t c = (search (rules, the_lemmas), slots-kept _ _ (grows-on _ _ _ c.in_ok-c-in-Pick.ensures.names.kept c.in_ok-x-in-Pick.ensures.names.kept) c.args.slots.now c.requires)

pub pick-requires-clause-test : goal.pick-requires-clause-test
pick-requires-clause-test t c =
    let h = c.in_ok-c-in-Pick.ensures in
    let on = grows-on _ _ _ c.in_ok-x-in-Pick.ensures.names.kept c.in_ok-y-in-Pick.ensures.names.kept in
    (still-in _ _ _ on (stands-in _ _ _ h.value), still-in _ _ _ on (stands-in _ _ _ h.safe))

pub pick-requires-clause-chosen : goal.pick-requires-clause-chosen
pick-requires-clause-chosen t c =
    let h = c.in_ok-x-in-Pick.ensures in
    let on = c.in_ok-y-in-Pick.ensures.names.kept in
    (still-in _ _ _ on (stands-in _ _ _ h.value), still-in _ _ _ on (stands-in _ _ _ h.safe))

pub pick-requires-clause-other : goal.pick-requires-clause-other
pick-requires-clause-other t c = let h = c.in_ok-y-in-Pick.ensures in (stands-in _ _ _ h.value, stands-in _ _ _ h.safe)
