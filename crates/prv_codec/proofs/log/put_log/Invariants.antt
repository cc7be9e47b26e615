use Rattle.std.proofs.Common.{◌≡◌, ◌++◌, length, take}
use Rattle.std.specs.List.{All, flat_map}
use Rattle.prv_codec.specs.Forms.{number}
use Rattle.prv_codec.specs.Spelling.{line, IsLine}
use Rattle.prv_codec.proofs.log.put_log.Given as goal

abbrev pub invariant-loop-line : goal.invariant-loop-line
invariant-loop-line l = record {
  written : l.out.items ≡ l.fn.out.items ++ (number l.form (length l.lines) ++ flat_map (line l.form) (take l.line-index l.lines));
  fits : All IsLine (take l.line-index l.lines);
}
