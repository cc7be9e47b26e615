use Rattle.std.proofs.Common.{◌≡◌, ◌≤◌, take, length, fold}
use Rattle.prv_blast.specs.Subterms.{param_count}
use Rattle.prv_blast.specs.Encodings.{start, with_literal}
use Rattle.prv_blast.specs.Orders.{terms_at}
use Rattle.prv_blast.specs.Encoders.{encoding_at}
use Rattle.prv_blast.proofs.formula.encoded.Given as goal

abbrev pub invariant-loop-root : goal.invariant-loop-root
invariant-loop-root l = record {
  made : encoding_at l.pool.terms l.order l.encoder.words.items l.encoder.builder ≡ fold with_literal (start (param_count (terms_at l.pool.terms l.roots))) (take l.root-index (terms_at l.pool.terms l.roots));
  fits : length l.encoder.words.items ≤ length l.order;
}
