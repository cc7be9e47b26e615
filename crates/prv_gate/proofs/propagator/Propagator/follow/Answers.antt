use Rattle.std.proofs.Common.{◌≡◌, ◌∙◌, ◌<◌, ℕ, List, length, drop, sym, subst, arith}
use Rattle.std.specs.List.{AllByRecursion}
use Rattle.prv_gate.specs.Knowledge.{known_value}
use Rattle.prv_gate.proofs.Asserting.{padded-value, written}
use Rattle.prv_gate.proofs.Following.{ends-calm, ends-closed, ends-contradicted}
use Rattle.prv_gate.proofs.Pending.{pending-new}
use Rattle.prv_gate.proofs.propagator.Propagator.follow.Goals as goal

pub propagate-requires-clause-pending : goal.propagate-requires-clause-pending
propagate-requires-clause-pending c =
    let size : length c.as_mut_slice-known.result.now ≡ c.args.vars = omega (arith, c.as_mut_slice-known.ensures.len, c.in_ok-resize.ensures.len) in
    let same : (k : ℕ) → known_value c.args.self.now.known.items k ≡ known_value c.as_mut_slice-known.result.now k =
    padded-value c.args.self.now.known.items c.as_mut_slice-known.result.now c.args.vars _ c.requires.size (c.as_mut_slice-known.ensures.value ∙ c.in_ok-resize.ensures.items) in
    let pending : List ℕ = c.in_ok-pending.pending.items in
    pending-new c.args.clauses.now c.args.self.now.known.items c.as_mut_slice-known.result.now c.args.self.now.entered c.args.self.now.occurrences pending same c.requires.open
    (subst (λ (n : ℕ). AllByRecursion (λ k. k < n) pending) c.in_ok-count.ensures c.in_ok-pending.ensures.below)
    (λ k at absent. c.in_ok-pending.ensures.new k (subst (λ (n : ℕ). k < n) (sym c.in_ok-count.ensures) at) absent)

pub returns-clause-calm : goal.returns-clause-calm
returns-clause-calm c calm =
    let size : length c.as_mut_slice-known.result.now ≡ c.args.vars = omega (arith, c.as_mut_slice-known.ensures.len, c.in_ok-resize.ensures.len) in
    let same : (k : ℕ) → known_value c.args.self.now.known.items k ≡ known_value c.as_mut_slice-known.result.now k =
    padded-value c.args.self.now.known.items c.as_mut_slice-known.result.now c.args.vars _ c.requires.size (c.as_mut_slice-known.ensures.value ∙ c.in_ok-resize.ensures.items) in
    ends-calm c.args.vars c.args.clauses.now c.args.self.now.known.items c.as_mut_slice-known.result.now c.propagate.new.known size c.requires.literals c.requires.size same c.in_ok-calm.ensures.learns (c.in_ok-calm.ensures.open calm)

pub returns-clause-closure : goal.returns-clause-closure
returns-clause-closure c calm =
    let size : length c.as_mut_slice-known.result.now ≡ c.args.vars = omega (arith, c.as_mut_slice-known.ensures.len, c.in_ok-resize.ensures.len) in
    let same : (k : ℕ) → known_value c.args.self.now.known.items k ≡ known_value c.as_mut_slice-known.result.now k =
    padded-value c.args.self.now.known.items c.as_mut_slice-known.result.now c.args.vars _ c.requires.size (c.as_mut_slice-known.ensures.value ∙ c.in_ok-resize.ensures.items) in
    let long : c.resize.new.self.len ≡ length c.propagate.new.known = omega (arith, c.as_mut_slice-known.ensures.len, c.in_ok-calm.ensures.learns.size) in
    written c.resize.new.self.len c.propagate.new.known (drop (length c.propagate.new.known) c.resize.new.self.items) long
    ∙ ends-closed c.args.vars c.args.clauses.now c.args.self.now.known.items c.as_mut_slice-known.result.now c.propagate.new.known size c.requires.literals c.requires.size same c.in_ok-calm.ensures.learns (c.in_ok-calm.ensures.open calm)

pub returns-clause-conflict : goal.returns-clause-conflict
returns-clause-conflict c conflict =
    let size : length c.as_mut_slice-known.result.now ≡ c.args.vars = omega (arith, c.as_mut_slice-known.ensures.len, c.in_ok-resize.ensures.len) in
    let same : (k : ℕ) → known_value c.args.self.now.known.items k ≡ known_value c.as_mut_slice-known.result.now k =
    padded-value c.args.self.now.known.items c.as_mut_slice-known.result.now c.args.vars _ c.requires.size (c.as_mut_slice-known.ensures.value ∙ c.in_ok-resize.ensures.items) in
    ends-contradicted c.args.vars c.args.clauses.now c.args.self.now.known.items c.as_mut_slice-known.result.now c.propagate.new.known size c.requires.literals c.requires.size same c.in_ok-calm.ensures.learns (c.in_ok-calm.ensures.conflict conflict)
