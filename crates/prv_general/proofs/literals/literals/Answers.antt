use Rattle.std.proofs.Common.{◌<◌, ◌≤◌, ℕ, List, [], length, Ok, sym, subst, arith}
use Rattle.std.specs.Prelude.{filter}
use Rattle.std.proofs.lemmas.List.{take_all}
use Rattle.std.proofs.lemmas.Result.{err_from_is_err_and}
use Rattle.prv_run.specs.declared.event.Event.{Event}
use Rattle.prv_sym.specs.Calls.{Names, AllStand}
use Rattle.prv_sym.proofs.Naming.{answered, still-in}
use Rattle.prv_general.specs.Slices.{says_something}
use Rattle.prv_general.specs.Conditions.{conditions, condition_names, flagged, if_kept, along, symbols_at}
use Rattle.prv_general.proofs.Making.{named-none, conditions-next, names-next, names-refused}
use Rattle.prv_general.proofs.literals.literals.Goals as goal

pub loop-k-init : goal.loop-k-init
loop-k-init c = record { stand = subst (λ (ns : List ℕ). AllStand c.args.pool.now.terms ns []) (sym c.new-literals.ensures) tt; named = named-none _ }

pub add_if_kept-requires : goal.add_if_kept-requires
add_if_kept-requires c =
    let r = c.requires in
    let k = c.loop-k.k in
    let below : k < length c.args.events.now = omega (arith, c.loop-k-test.true) in
    let grows = c.loop-k.invariant.named.kept in
    (still-in _ _ _ grows (r.values_in k _ (omega (arith, below, r.values))), still-in _ _ _ grows (r.safes_in k _ (omega (arith, below, r.safes))))

pub loop-k-preserved : goal.loop-k-preserved
loop-k-preserved c =
    let r = c.requires in
    let k = c.loop-k.k in
    let below : k < length c.args.events.now = omega (arith, c.loop-k-test.true) in
    let before = c.loop-k.invariant in
    let first = c.args.pool.now.terms in
    record {
      stand = conditions-next c.args.events.now c.args.kept.now c.args.values.now c.args.safes.now first k below r.flags r.values r.safes r.values_in r.safes_in _ before.named.kept _ _ _ _ _ _ _ before.stand
          c.in_ok-add_if_kept.ensures.stand;
      named = answered _ _ _ _ _
          (names-next c.args.events.now c.args.kept.now c.args.values.now c.args.safes.now first k below r.flags r.values r.safes r.values_in r.safes_in _ before.named.kept _ _ _ _ _ _ _ _ _ before.named
          c.in_ok-add_if_kept.ensures.names);
    }

pub returns-in_err-add_if_kept-clause-names : goal.returns-in_err-add_if_kept-clause-names
returns-in_err-add_if_kept-clause-names c =
    let r = c.requires in
    let k = c.loop-k.k in
    let below : k < length c.args.events.now = omega (arith, c.loop-k-test.true) in
    let before = c.loop-k.invariant in
    let passed = err_from_is_err_and c.from_residual.result c.from_residual.ensures.1 in
    rw (passed.1, passed.2)
    (names-refused c.args.events.now c.args.kept.now c.args.values.now c.args.safes.now c.args.pool.now.terms k below r.flags r.values r.safes r.values_in r.safes_in _ before.named.kept _ _ _ _ _ _ _ _ _ before.named
    c.in_err-add_if_kept.ensures.names)

pub returns-clause-stand : goal.returns-clause-stand
returns-clause-stand c =
    let all : length c.args.events.now ≤ c.loop-k.k = omega (arith, c.loop-k-test.false) in
    subst (λ (es : List Event). AllStand c.loop-k.pool.terms c.loop-k.literals (filter says_something (along (if_kept conditions) es (flagged c.args.kept.now (symbols_at c.args.pool.now.terms c.args.values.now c.args.safes.now)))))
    (take_all c.loop-k.k c.args.events.now all) c.loop-k.invariant.stand

pub returns-clause-names : goal.returns-clause-names
returns-clause-names c =
    let all : length c.args.events.now ≤ c.loop-k.k = omega (arith, c.loop-k-test.false) in
    answered _ _ _ _ _
    (subst (λ (es : List Event). Names (along (if_kept condition_names) es (flagged c.args.kept.now (symbols_at c.args.pool.now.terms c.args.values.now c.args.safes.now))) c.args.pool.now c.loop-k.pool (Ok (tt {0})))
    (take_all c.loop-k.k c.args.events.now all) c.loop-k.invariant.named)
