use Rattle.std.proofs.Common.{◌≡◌, ◌-◌, ◌++◌, List}
use Rattle.prv_parse.specs.Reader.{params}
use Rattle.prv_parse.specs.Cursors.{left}
use Rattle.prv_parse.specs.MainFunctions.{behind_params}
use Rattle.prv_rule.specs.declared.skeleton.Skel.{Skel}
use Rattle.prv_parse.proofs.reader.Reader.params.Given as goal

abbrev pub invariant-loop-count : goal.invariant-loop-count
invariant-loop-count l =
    (l.self.cursor.tokens.now ≡ l.initial.self.cursor.tokens.now)
    × ((skeleton : List Skel) × (l.self.skeleton.items ≡ l.initial.self.skeleton.items ++ skeleton)
    × (params l.count-end (left l.initial.self.cursor) ≡ behind_params l.all.items skeleton (params (l.count-end - l.count) (left l.self.cursor))))
