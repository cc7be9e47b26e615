use Rattle.std.proofs.Common.{◌≡◌, true, ap, arith}
use Rattle.prv_pool.specs.Folding.{is_folded}
use Rattle.prv_pool.specs.Tables.{Table}
use Rattle.prv_model.specs.declared.term.Term.{Term}
use Rattle.prv_pool.proofs.Shapes.{folded-Num}
use Rattle.prv_pool.proofs.TableLemmas.{IsClosed, pool-closed}
use Rattle.prv_pool.proofs.MakeLemmas.{makes-no-room, makes-no-memory, newest-folded, newest-lacks, makes-both, cut-back}
use Rattle.prv_pool.proofs.pool.Pool.add_with_zero.Goals as goal

pub returns-then-self-count-lt2 : goal.returns-then-self-count-lt2
returns-then-self-count-lt2 c =
    let old = c.args.self.now in
    let closed : IsClosed old.terms = rw (← c.self.view_is) (pool-closed c.self.invariant) in
    let max : c.self.inside.max_nodes ≡ old.max_nodes = ap (λ (t : Table). t.max_nodes) c.self.view_is in
    makes-no-room old c.args.op c.args.n c.len-count.result closed c.requires.over c.requires.is_new c.len-count.ensures.table.within c.len-count.ensures.value (omega (arith, max, c.if-self-count-lt2.true))

pub add-requires-clause-is_folded : goal.add-requires-clause-is_folded
add-requires-clause-is_folded c = folded-Num _

pub returns-in-Err : goal.returns-in-Err
returns-in-Err c =
    let old = c.args.self.now in
    let closed : IsClosed old.terms = rw (← c.self.view_is) (pool-closed c.self.invariant) in
    let max : c.self.inside.max_nodes ≡ old.max_nodes = ap (λ (t : Table). t.max_nodes) c.self.view_is in
    makes-no-memory old c.add.new.self c.args.op c.args.n c.len-count.result closed c.requires.over c.requires.is_new c.len-count.ensures.value (omega (arith, max, c.if-self-count-lt2.false)) c.in-Err.ensures.refused

pub add-requires-in-Ok-clause-is_folded : goal.add-requires-in-Ok-clause-is_folded
add-requires-in-Ok-clause-is_folded c =
    newest-folded (λ (t : Term). is_folded t ≡ true) c.args.self.now.terms c.add.new.self.terms c.args.op c.args.n c.in-Ok.zero c.requires.over c.in-Ok.ensures.grows c.in-Ok.ensures.number c.requires.is_folded

pub add-requires-in-Ok-clause-is_new : goal.add-requires-in-Ok-clause-is_new
add-requires-in-Ok-clause-is_new c =
    let closed : IsClosed c.args.self.now.terms = rw (← c.self.view_is) (pool-closed c.self.invariant) in
    newest-lacks c.args.self.now.terms c.add.new.self.terms c.args.op c.args.n c.in-Ok.zero closed c.requires.over c.requires.is_new c.in-Ok.ensures.grows c.in-Ok.ensures.number

pub returns-in-Ok-add : goal.returns-in-Ok-add
returns-in-Ok-add c =
    let old = c.args.self.now in
    let closed : IsClosed old.terms = rw (← c.self.view_is) (pool-closed c.self.invariant) in
    let max : c.self.inside.max_nodes ≡ old.max_nodes = ap (λ (t : Table). t.max_nodes) c.self.view_is in
    makes-both old c.add.new.self c.add-in-Ok.new.self c.args.op c.args.n c.in-Ok.zero c.in-Ok-add.made c.len-count.result closed c.requires.over c.requires.is_new c.len-count.ensures.value (omega (arith, max, c.if-self-count-lt2.false))
    c.in-Ok.ensures.number c.in-Ok.ensures.grows c.in-Ok.ensures.limit c.in-Ok-add.ensures.number c.in-Ok-add.ensures.grows c.in-Ok-add.ensures.limit

pub returns-in-Err-add : goal.returns-in-Err-add
returns-in-Err-add c =
    let old = c.args.self.now in
    let closed : IsClosed old.terms = rw (← c.self.view_is) (pool-closed c.self.invariant) in
    let max : c.self.inside.max_nodes ≡ old.max_nodes = ap (λ (t : Table). t.max_nodes) c.self.view_is in
    makes-no-memory old c.truncate.new.self c.args.op c.args.n c.len-count.result closed c.requires.over c.requires.is_new c.len-count.ensures.value (omega (arith, max, c.if-self-count-lt2.false))
    (cut-back old c.add.new.self c.add-in-Ok.new.self c.truncate.new.self c.len-count.result c.len-count.ensures.value c.in-Ok.ensures.grows c.in-Ok.ensures.limit c.in-Err-add.ensures.refused c.truncate.ensures)
