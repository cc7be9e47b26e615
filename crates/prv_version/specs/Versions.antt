-- Which version of a program a file gives, or why it gives none.
use Rattle.std.specs.Prelude.{◌≡◌, ℕ, Bool, true, false, List, length, Some, ⊤}
use Rattle.prv_lex.specs.declared.token.Token.{Token}
use Rattle.prv_lex.specs.declared.error.LexError.{LexError}
use Rattle.prv_lex.specs.declared.error.LexError.TheVariants as lex
use Rattle.prv_lex.specs.Readings.{HasTokens, IsRefused}
use Rattle.prv_parse.specs.declared.program.Tree.{Tree}
use Rattle.prv_parse.specs.declared.error.ParseError.{ParseError}
use Rattle.prv_parse.specs.declared.error.ParseError.TheVariants as parse
use Rattle.prv_parse.specs.Refusals.{HasTree, IsSyntaxAt, IsDeepAt}
use Rattle.prv_names.specs.Versions.{refusal, IsVersionOf}
use Rattle.prv_names.specs.declared.version.Version.{Version}
use Rattle.prv_names.specs.declared.error.NameError.{NameError}
use Rattle.prv_names.specs.declared.error.NameError.TheVariants as name
use Rattle.prv_version.specs.declared.error.VersionError.{VersionError}
use Rattle.prv_version.specs.declared.error.VersionError.TheVariants as version

-- a file has a tree, by its tokens
pub record HasTreeOf (file : List ℕ) (tokens : List Token) (tree : Tree) : Type 0 where
  pub has_tokens : HasTokens file tokens
  pub has_tree : HasTree tokens tree.params tree.body tree.skeleton

-- a file gives a version: that of its tree, in which each name is right
pub record GivesVersion (file : List ℕ) (given : Version) : Type 0 where
  pub tokens : List Token
  pub tree : Tree
  pub has : HasTreeOf file tokens tree
  pub is : IsVersionOf tree given

-- a file has no tokens: something in it is none, or memory ran out
abbrev pub HasNoTokens : List ℕ → LexError → Type 0
HasNoTokens file (lex.Refused place why) = IsRefused file place why
HasNoTokens file lex.Memory = ⊤

-- tokens have no tree: they can be no program, or are past a limit, or memory ran out
abbrev pub HasNoTree : List Token → ℕ → ParseError → Type 0
HasNoTree tokens end (parse.Syntax place) = IsSyntaxAt tokens end place
HasNoTree tokens end (parse.Deep place) = IsDeepAt tokens place
HasNoTree tokens end parse.Memory = ⊤

-- a tree gives no version: its names are wrong, or memory ran out
abbrev pub HasNoVersion : Tree → NameError → Type 0
HasNoVersion tree name.Memory = ⊤
HasNoVersion tree why = refusal tree.params tree.body ≡ Some why

-- why a file gives no version
abbrev pub GivesNone : List ℕ → VersionError → Type 0
GivesNone file (version.Lex why) = HasNoTokens file why
GivesNone file (version.Parse why) = (tokens : List Token) × HasTokens file tokens × HasNoTree tokens (length file) why
GivesNone file (version.Name why) = (tokens : List Token) × (tree : Tree) × HasTreeOf file tokens tree × HasNoVersion tree why

-- memory ran out
abbrev pub is_memory : VersionError → Bool
is_memory (version.Lex lex.Memory) = true
is_memory (version.Parse parse.Memory) = true
is_memory (version.Name name.Memory) = true
is_memory _ = false

-- a file is refused for this reason, whatever the memory
abbrev pub IsFileRefused : List ℕ → VersionError → Type 0
IsFileRefused file why = (is_memory why ≡ false) × GivesNone file why
