use Rattle.std.proofs.Common.{◌≡◌, ◌+◌, ◌-◌, ◌*◌, ◌++◌, List}
use Rattle.prv_parse.specs.Reader.{statements, items, items_with, bind, Done}
use Rattle.prv_parse.specs.Cursors.{left}
use Rattle.prv_rule.specs.declared.skeleton.Skel.{Skel}
use Rattle.prv_parse.proofs.reader.Reader.+statement.Given as goal

abbrev pub decreases-statement : goal.decreases-statement
decreases-statement l = l.room * 16 + 3

abbrev pub decreases-keyword_statement : goal.decreases-keyword_statement
decreases-keyword_statement l = l.room * 16 + 2

abbrev pub decreases-symbol_statement : goal.decreases-symbol_statement
decreases-symbol_statement l = l.room * 16 + 2

abbrev pub decreases-branch : goal.decreases-branch
decreases-branch l = l.room * 16 + 1

abbrev pub decreases-repetition : goal.decreases-repetition
decreases-repetition l = l.room * 16 + 1

abbrev pub decreases-marked_statement : goal.decreases-marked_statement
decreases-marked_statement l = l.room * 16 + 1

abbrev pub decreases-block : goal.decreases-block
decreases-block l = l.room * 16 + 6

abbrev pub decreases-items : goal.decreases-items
decreases-items l = l.room * 16 + 5

abbrev pub decreases-item : goal.decreases-item
decreases-item l = l.room * 16 + 4

abbrev pub decreases-marked_item : goal.decreases-marked_item
decreases-marked_item l = l.room * 16 + 2

abbrev pub decreases-marked_body : goal.decreases-marked_body
decreases-marked_body l = l.room * 16 + 1

abbrev pub invariant-items-loop-count : goal.invariant-items-loop-count
invariant-items-loop-count l =
    (l.self.cursor.tokens.now ≡ l.initial.self.cursor.tokens.now)
    × ((skeleton : List Skel) × (l.self.skeleton.items ≡ l.initial.self.skeleton.items ++ skeleton)
    × (items l.room (statements l.room).here (statements l.room).deeper l.count-end (left l.initial.self.cursor)
    ≡ bind (items l.room (statements l.room).here (statements l.room).deeper (l.count-end - l.count) (left l.self.cursor))
    (λ others rest. Done (items_with (l.all.items ++ others.trees) (skeleton ++ others.skeleton)) rest)))
