use Rattle.std.proofs.Common.{◌≡◌, ◌++◌, length, take}
use Rattle.std.specs.List.{All, flat_map}
use Rattle.prv_codec.specs.Forms.{number}
use Rattle.prv_codec.specs.Spelling.{literal, IsLiteral}
use Rattle.prv_codec.proofs.list.put_literals.Given as goal

abbrev pub invariant-loop-lit : goal.invariant-loop-lit
invariant-loop-lit l = record {
  written : l.out.items ≡ l.fn.out.items ++ (number l.form (length l.lits) ++ flat_map (literal l.form) (take l.lit-index l.lits));
  fits : All IsLiteral (take l.lit-index l.lits);
}
