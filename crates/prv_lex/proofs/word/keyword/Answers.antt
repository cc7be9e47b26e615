use Rattle.std.proofs.Common.{rules, refl, arith}
use Rattle.std.specs.Prelude.{codes}
use Rattle.std.proofs.lemmas.Slice.Eq.{text_from_reads, HasBytesAt}
use Rattle.prv_lex.proofs.word.keyword.Goals as goal

pub returns-in-return : goal.returns-in-return
returns-in-return c =
    let bytes : HasBytesAt c.args.word.now 0 (codes "return") = search rules in
    rw (text_from_reads c.args.word.now (codes "return") (omega arith) bytes) refl

pub returns-in-assert : goal.returns-in-assert
returns-in-assert c =
    let bytes : HasBytesAt c.args.word.now 0 (codes "assert") = search rules in
    rw (text_from_reads c.args.word.now (codes "assert") (omega arith) bytes) refl
