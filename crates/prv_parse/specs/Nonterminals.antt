-- The nonterminals of the grammar: what stands inside a construct, one nesting deeper than what opens it, and of which type its value is.
use Rattle.std.specs.Prelude.{List}
use Rattle.prv_parse.specs.declared.tree.ExprTree.{ExprTree}
use Rattle.prv_parse.specs.declared.tree.StmtTree.{StmtTree}

pub data Nonterminal : Type 0 where
  -- behind an operator that stands before its operand
  Operand : Nonterminal
  -- behind the `(` of an expression
  Parenthesized : Nonterminal
  -- behind the `?` of a choice
  Choice : Nonterminal
  -- a branch, a body, or what is marked
  Statement : Nonterminal
  -- behind the `{` of a block
  Block : Nonterminal

abbrev pub Value : Nonterminal → Type 0
Value Operand = ExprTree
Value Parenthesized = ExprTree
Value Choice = ExprTree × ExprTree
Value Statement = StmtTree
Value Block = List StmtTree
