use Rattle.std.proofs.Common.{ℤ, sym, subst, w32}
use Rattle.std.proofs.lemmas.Int.{to_z-of_z}
use Rattle.prv_model.specs.Terms.{IsTerm}
use Rattle.prv_model.specs.declared.term.Term.TheVariants.{Num}
use Rattle.prv_model.proofs.WordLaws.{word-tested}
use Rattle.prv_blast.proofs.Pools.{num-term, known-where}
use Rattle.prv_rows.proofs.nodes.num.Goals as goal

pub returns : goal.returns
returns c =
    let P : ℤ → Type 0 = λ z. IsTerm 8 (Num z) in
    let term = subst P (sym (to_z-of_z w32 c.args.n c.ranges.n)) (num-term 8 c.args.n (word-tested c.args.n c.ranges.n)) in
    record { known = known-where _ c.args.pool.now c.num.new.self c.num.result c.num.ensures term c.requires.known }
