use Rattle.std.proofs.Common.{◌≡◌, ◌+◌, drop}
use Rattle.std.specs.List.{prefix_len}
use Rattle.prv_lex.specs.Bytes.{is_in}
use Rattle.prv_lex.proofs.class.run_len.Given as goal

abbrev pub invariant-loop-i : goal.invariant-loop-i
invariant-loop-i l = prefix_len (is_in l.class) l.text ≡ l.i + prefix_len (is_in l.class) (drop l.i l.text)
