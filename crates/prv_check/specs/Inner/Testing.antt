-- What is kept while the lines of a log are tested one after another.
use Rattle.std.specs.Prelude.{◌≡◌, ◌+◌, ◌*◌, ◌≤◌, List, [], length}
use Rattle.prv_cnf.specs.Formulas.{Formula}
use Rattle.prv_check.specs.LogLines.{LogLine}
use Rattle.prv_check.specs.Lines.{known}
use Rattle.prv_check.specs.declared.spent.Tests.{Tests}
use Rattle.prv_check.specs.Inner.Tables.{AreFlagged}
use Rattle.prv_check.specs.Inner.Indexing.{IsIndex}

-- the tests are at the line after these: the index is of the clauses so far, and the tables have places for the variables and for the clauses
pub record AreReady (f : Formula) (earlier : List LogLine) (t : Tests) : Type 0 where
  pub index : IsIndex (known f earlier) t.index
  pub places : length t.index.occurs ≡ 2 * f.vars + 1
  pub clean : t.assignment.trail ≡ []
  pub vars : t.assignment.vars ≡ f.vars
  pub table : length t.seen ≡ 2 * f.vars + 1

-- the tests have room for a line: its literals are looked up for, and its literals and hints fit
pub record HaveRoom (t : Tests) (s : LogLine) : Type 0 where
  pub occur : AreFlagged t.index.occurs s.clause
  pub room : length s.clause + length s.hints ≤ t.assignment.room

-- the room of the tests is that of others
pub record HaveSameRoom (old new : Tests) : Type 0 where
  pub occurs : new.index.occurs ≡ old.index.occurs
  pub room : new.assignment.room ≡ old.assignment.room
  pub named : length new.named ≡ length old.named
