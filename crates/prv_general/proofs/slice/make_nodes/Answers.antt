use Rattle.std.proofs.Common.{length, refl, ap, ◌∙◌}
use Rattle.std.proofs.lemmas.Result.{err_from_is_err_and}
use Rattle.prv_model.specs.declared.outcome.Outcome.{Outcome}
use Rattle.prv_sym.proofs.Naming.{answered, refused, names-stop}
use Rattle.prv_general.proofs.Making.{then-refused}
use Rattle.prv_general.proofs.Whole.{two-calls, three-calls}
use Rattle.prv_general.proofs.Stages.{told-of, values-fit, safes-fit, flags-fit, values-in, safes-in, literals-stand, literals-names, end-names, outs-stand}
use Rattle.prv_general.proofs.slice.make_nodes.Goals as goal

pub outs-requires : goal.outs-requires
outs-requires c =
    let r = c.requires in
    let s = c.in_ok-symbols.ensures in
    let t = told-of c.args.program.now r.1 r.0 c.terms.new.pool.terms _ _ _ _ c.in_ok-symbols.symbols.safes _ c.in_ok-symbols.symbols.safes r.2 r.3 c.as_slice-events.ensures c.as_slice-values.ensures refl (s.values r.0 r.1 r.2.events) (s.safes r.0 r.1 r.2.events) in
    values-fit _ _ _ _ _ _ _ _ t

pub literals-requires-clause-flags : goal.literals-requires-clause-flags
literals-requires-clause-flags c =
    let r = c.requires in
    let s = c.in_ok-symbols.ensures in
    let t = told-of c.args.program.now r.1 r.0 c.terms.new.pool.terms _ _ _ _ _ _ _ r.2 r.3 c.as_slice-events.ensures c.as_slice-values.ensures c.as_slice.ensures (s.values r.0 r.1 r.2.events) (s.safes r.0 r.1 r.2.events) in
    flags-fit _ _ _ _ _ _ _ _ t

pub literals-requires-clause-values : goal.literals-requires-clause-values
literals-requires-clause-values c =
    let r = c.requires in
    let s = c.in_ok-symbols.ensures in
    let t = told-of c.args.program.now r.1 r.0 c.terms.new.pool.terms _ _ _ _ _ _ _ r.2 r.3 c.as_slice-events.ensures c.as_slice-values.ensures c.as_slice.ensures (s.values r.0 r.1 r.2.events) (s.safes r.0 r.1 r.2.events) in
    values-fit _ _ _ _ _ _ _ _ t

pub literals-requires-clause-safes : goal.literals-requires-clause-safes
literals-requires-clause-safes c =
    let r = c.requires in
    let s = c.in_ok-symbols.ensures in
    let t = told-of c.args.program.now r.1 r.0 c.terms.new.pool.terms _ _ _ _ _ _ _ r.2 r.3 c.as_slice-events.ensures c.as_slice-values.ensures c.as_slice.ensures (s.values r.0 r.1 r.2.events) (s.safes r.0 r.1 r.2.events) in
    safes-fit _ _ _ _ _ _ _ _ t

pub literals-requires-clause-values_in : goal.literals-requires-clause-values_in
literals-requires-clause-values_in c =
    let r = c.requires in
    let s = c.in_ok-symbols.ensures in
    let t = told-of c.args.program.now r.1 r.0 c.terms.new.pool.terms _ _ _ _ _ _ _ r.2 r.3 c.as_slice-events.ensures c.as_slice-values.ensures c.as_slice.ensures (s.values r.0 r.1 r.2.events) (s.safes r.0 r.1 r.2.events) in
    values-in _ _ _ _ _ _ _ _ t c.add_end.new.pool.terms c.in_ok-add_end.ensures.names.kept

pub literals-requires-clause-safes_in : goal.literals-requires-clause-safes_in
literals-requires-clause-safes_in c =
    let r = c.requires in
    let s = c.in_ok-symbols.ensures in
    let t = told-of c.args.program.now r.1 r.0 c.terms.new.pool.terms _ _ _ _ _ _ _ r.2 r.3 c.as_slice-events.ensures c.as_slice-values.ensures c.as_slice.ensures (s.values r.0 r.1 r.2.events) (s.safes r.0 r.1 r.2.events) in
    safes-in _ _ _ _ _ _ _ _ t c.add_end.new.pool.terms c.in_ok-add_end.ensures.names.kept

pub returns-in_err-symbols-clause-names : goal.returns-in_err-symbols-clause-names
returns-in_err-symbols-clause-names c = λ x turns here flags.
    let passed = err_from_is_err_and c.from_residual.result c.from_residual.ensures.1 in
    rw (passed.1, passed.2) (names-stop _ _ _ _ _ (c.in_err-symbols.ensures.names x turns here.events))

pub returns-in_err-outs-clause-names : goal.returns-in_err-outs-clause-names
returns-in_err-outs-clause-names c = λ x turns here flags.
    let passed = err_from_is_err_and c.from_residual-in_err-outs.result c.from_residual-in_err-outs.ensures.1 in
    rw (passed.1, passed.2) (names-stop {A = Unit {0}} _ _ _ _ _ (then-refused {B = Unit {0}} _ _ _ _ (c.in_ok-symbols.ensures.names x turns here.events)))

pub returns-in_err-add_end-clause-names : goal.returns-in_err-add_end-clause-names
returns-in_err-add_end-clause-names c = λ x turns here flags.
    let s = c.in_ok-symbols.ensures in
    let t = told-of c.args.program.now turns x c.terms.new.pool.terms _ _ _ _ c.in_ok-symbols.symbols.safes _ c.in_ok-symbols.symbols.safes here flags c.as_slice-events.ensures c.as_slice-values.ensures refl (s.values x turns here.events) (s.safes x turns here.events) in
    let passed = err_from_is_err_and c.from_residual-in_err-add_end.result c.from_residual-in_err-add_end.ensures.1 in
    let count = c.len.ensures ∙ ap (λ (o : Outcome). length o.outs) here.outcome in
    let stand = c.in_ok-outs.ensures _ _ t.values in
    rw (passed.1, passed.2) (two-calls _ _ _ _ _ _ _ _ (s.names x turns here.events) (end-names _ _ _ _ _ _ _ _ t _ stand _ count _ _ _ c.in_err-add_end.ensures.names))

pub returns-in_err-literals-clause-names : goal.returns-in_err-literals-clause-names
returns-in_err-literals-clause-names c = λ x turns here flags.
    let s = c.in_ok-symbols.ensures in
    let t = told-of c.args.program.now turns x c.terms.new.pool.terms _ _ _ _ _ _ _ here flags c.as_slice-events.ensures c.as_slice-values.ensures c.as_slice.ensures (s.values x turns here.events) (s.safes x turns here.events) in
    let passed = err_from_is_err_and c.from_residual-in_err-literals.result c.from_residual-in_err-literals.ensures.1 in
    let count = c.len.ensures ∙ ap (λ (o : Outcome). length o.outs) here.outcome in
    let stand = c.in_ok-outs.ensures _ _ t.values in
    rw (passed.1, passed.2)
    (refused _ _ _ _
    (three-calls _ _ _ _ _ _ _ _ _ _ (s.names x turns here.events) (end-names _ _ _ _ _ _ _ _ t _ stand _ count _ _ _ c.in_ok-add_end.ensures.names)
    (literals-names _ _ _ _ _ _ _ _ t c.add_end.new.pool.terms c.in_ok-add_end.ensures.names.kept _ _ _ c.in_err-literals.ensures.names)))

pub returns-clause-literals : goal.returns-clause-literals
returns-clause-literals c = λ x turns here flags.
    let s = c.in_ok-symbols.ensures in
    let t = told-of c.args.program.now turns x c.terms.new.pool.terms _ _ _ _ _ _ _ here flags c.as_slice-events.ensures c.as_slice-values.ensures c.as_slice.ensures (s.values x turns here.events) (s.safes x turns here.events) in
    literals-stand _ _ _ _ _ _ _ _ t c.add_end.new.pool.terms c.in_ok-add_end.ensures.names.kept _ _ c.in_ok-literals.ensures.stand

pub returns-clause-outs : goal.returns-clause-outs
returns-clause-outs c = λ x turns here flags.
    let s = c.in_ok-symbols.ensures in
    let t = told-of c.args.program.now turns x c.terms.new.pool.terms _ _ _ _ _ _ _ here flags c.as_slice-events.ensures c.as_slice-values.ensures c.as_slice.ensures (s.values x turns here.events) (s.safes x turns here.events) in
    let count = c.len.ensures ∙ ap (λ (o : Outcome). length o.outs) here.outcome in
    let stand = c.in_ok-outs.ensures _ _ t.values in
    outs-stand _ _ _ _ _ _ _ _ t _ stand _ count _ _ _ c.in_ok-add_end.ensures.stands c.in_ok-literals.ensures.names.kept

pub returns-clause-names : goal.returns-clause-names
returns-clause-names c = λ x turns here flags.
    let s = c.in_ok-symbols.ensures in
    let t = told-of c.args.program.now turns x c.terms.new.pool.terms _ _ _ _ _ _ _ here flags c.as_slice-events.ensures c.as_slice-values.ensures c.as_slice.ensures (s.values x turns here.events) (s.safes x turns here.events) in
    let count = c.len.ensures ∙ ap (λ (o : Outcome). length o.outs) here.outcome in
    let stand = c.in_ok-outs.ensures _ _ t.values in
    answered _ _ _ _ _
    (three-calls _ _ _ _ _ _ _ _ _ _ (s.names x turns here.events) (end-names _ _ _ _ _ _ _ _ t _ stand _ count _ _ _ c.in_ok-add_end.ensures.names)
    (literals-names _ _ _ _ _ _ _ _ t c.add_end.new.pool.terms c.in_ok-add_end.ensures.names.kept _ _ _ c.in_ok-literals.ensures.names))
