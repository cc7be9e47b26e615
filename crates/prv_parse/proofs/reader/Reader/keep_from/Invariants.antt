use Rattle.std.proofs.Common.{◌≡◌, ◌++◌, take}
use Rattle.prv_rule.specs.Skeletons.{plain}
use Rattle.prv_parse.proofs.reader.Reader.keep_from.Given as goal

abbrev pub invariant-loop-token : goal.invariant-loop-token
invariant-loop-token l =
    (l.self.cursor ≡ l.initial.self.cursor)
    × (l.self.skeleton.items ≡ l.initial.self.skeleton.items ++ plain (take l.token-index l.tokens))
