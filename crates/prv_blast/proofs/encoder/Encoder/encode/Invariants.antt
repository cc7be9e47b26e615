use Rattle.std.proofs.Common.{◌≡◌, length}
use Rattle.prv_blast.specs.Encoders.{encoding_at}
use Rattle.prv_blast.proofs.Roots.{IsPartWay}
use Rattle.prv_blast.proofs.encoder.Encoder.encode.Given as goal

abbrev pub invariant-loop-at : goal.invariant-loop-at
invariant-loop-at l = record {
  way : IsPartWay l.pool l.root (encoding_at l.pool.terms l.order l.fn.self.words.items l.fn.self.builder) (encoding_at l.pool.terms l.order l.self.words.items l.self.builder) l.at;
  long : length l.self.words.items ≡ l.at;
}
