use Rattle.std.proofs.Common.{◌≤◌, length, IfSome, ◌≡◌, arith}
use Rattle.std.proofs.lemmas.Grind.{common_steps}
use Rattle.prv_io.proofs.Limit.{all_within}
use Rattle.prv_io.proofs.host_files.read_to_limit.Goals as goal

pub returns-clause-bytes : goal.returns-clause-bytes
returns-clause-bytes g c =
    let all : length c.read_to_end.new.buf.items ≤ c.args.limit → IfSome (g.R.Read.remaining c.take.result.inner) (λ told. c.read_to_end.new.buf.items ≡ told) =
    all_within (g.R.Read.remaining c.take.result.inner) c.take.result.limit c.args.limit c.clear.new.self.items c.read_to_end.new.buf.items
    c.clear.ensures.items (omega arith) c.in_ok-read_to_end.ensures.bytes in
    grind (arith, common_steps, all)
