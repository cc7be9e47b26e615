-- Which tokens have a tree within the limits, and where the first refusal is.
use Rattle.std.specs.Prelude.{◌≡◌, ℕ, true, List}
use Rattle.prv_lex.specs.declared.token.Token.{Token}
use Rattle.prv_rule.specs.Texts.{Laid, tokens_of}
use Rattle.prv_rule.specs.Limits.{is_within}
use Rattle.prv_rule.specs.Rules.{Attributes, attributes, IsWhole}
use Rattle.prv_rule.specs.Refusals as rule
use Rattle.prv_rule.specs.declared.skeleton.Skel.{Skel}
use Rattle.prv_parse.specs.Grammar.{table, program}
use Rattle.prv_parse.specs.declared.tree.Ident.{Ident}
use Rattle.prv_parse.specs.declared.tree.StmtTree.{StmtTree}

-- a text is a program of this tree and this skeleton, whatever the limits
abbrev pub IsProgram : List Laid → List Ident → List StmtTree → List Skel → Type 0
IsProgram text params body skeleton = (before : ℕ) × IsWhole table program text (attributes (params, body) before skeleton)

-- a text is a program
abbrev pub IsText : List Laid → Type 0
IsText text = (found : Attributes (List Ident × List StmtTree)) × IsWhole table program text found

-- tokens are those of a program within the limits
pub record HasTree (tokens : List Token) (params : List Ident) (body : List StmtTree) (skeleton : List Skel) : Type 0 where
  pub text : List Laid
  pub reads : IsProgram text params body skeleton
  pub tokens_are : tokens_of text ≡ tokens
  pub within : is_within text ≡ true

-- the first refusal is for syntax, at this place
abbrev pub IsSyntaxAt : List Token → ℕ → ℕ → Type 0
IsSyntaxAt tokens end place = rule.IsSyntaxAt IsText tokens end place

-- the first refusal is for a limit, at this place
abbrev pub IsDeepAt : List Token → ℕ → Type 0
IsDeepAt tokens place = rule.IsDeepAt IsText tokens place
