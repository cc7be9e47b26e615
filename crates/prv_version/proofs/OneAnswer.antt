-- A file gives one version or is refused, for one reason.
use Rattle.std.proofs.Common.{◌≡◌, ℕ, false, List, length, Some, sym, ap, ◌∙◌, subst}
use Rattle.prv_lex.specs.declared.token.Token.{Token}
use Rattle.prv_lex.specs.declared.error.LexError.{LexError}
use Rattle.prv_lex.specs.declared.error.LexError.TheVariants as lex
use Rattle.prv_lex.specs.Readings.{HasTokens}
use Rattle.prv_lex.proofs.FileLemmas.{tokens-one, tokens-not_refused, refusal-one}
use Rattle.prv_parse.specs.declared.program.Tree.{Tree}
use Rattle.prv_parse.specs.declared.error.ParseError.{ParseError}
use Rattle.prv_parse.specs.declared.error.ParseError.TheVariants as parse
use Rattle.prv_parse.specs.Refusals.{IsText, HasTree}
use Rattle.prv_rule.proofs.Laws.{one-kind, one-syntax, one-deep}
use Rattle.prv_parse.proofs.Parsed.{one-tree as tree-unique, no-syntax as tree-no-syntax, no-deep as tree-no-deep}
use Rattle.prv_names.specs.Versions.{refusal}
use Rattle.prv_names.specs.declared.error.NameError.{NameError}
use Rattle.prv_names.specs.declared.error.NameError.TheVariants as name
use Rattle.prv_names.specs.declared.version.Version.{Version}
use Rattle.prv_version.specs.Versions.{HasTreeOf, GivesVersion, HasNoTokens, HasNoTree, HasNoVersion, is_memory, IsFileRefused}
use Rattle.prv_version.specs.declared.error.VersionError.{VersionError}
use Rattle.prv_version.specs.declared.error.VersionError.TheVariants as version

-- a file has one tree
pub one-tree : (text : List ℕ) (some others : List Token) (tree other : Tree) → HasTreeOf text some tree → HasTreeOf text others other
    → (tree.params ≡ other.params) × (tree.body ≡ other.body) × (tree.skeleton ≡ other.skeleton)
one-tree text some others tree other has too =
    let same : others ≡ some = tokens-one text others some too.has_tokens has.has_tokens in
    tree-unique some tree.params other.params tree.body other.body tree.skeleton other.skeleton has.has_tree
    (subst (λ l. HasTree l other.params other.body other.skeleton) same too.has_tree)

-- so one thing is wrong with its names
one-names : (text : List ℕ) (some others : List Token) (tree other : Tree) → HasTreeOf text some tree → HasTreeOf text others other
    → refusal tree.params tree.body ≡ refusal other.params other.body
one-names text some others tree other has too =
    let one = one-tree text some others tree other has too in
    ap (λ p. refusal p tree.body) one.0 ∙ ap (λ b. refusal other.params b) one.1

-- which is the error, where memory suffices
wrong-names : (tree : Tree) (why : NameError) → is_memory (version.Name why) ≡ false → HasNoVersion tree why → refusal tree.params tree.body ≡ Some why
wrong-names tree (name.Unknown place) told wrong = wrong
wrong-names tree (name.Twice place) told wrong = wrong
wrong-names tree (name.NotInScope place) told wrong = wrong
wrong-names tree (name.TooMany what count) told wrong = wrong
wrong-names tree name.Memory told wrong = cc

-- a file that has tokens isn't refused by the lexer
lexed : (text : List ℕ) (tokens : List Token) (why : LexError) → HasTokens text tokens → is_memory (version.Lex why) ≡ false → HasNoTokens text why → ⊥
lexed text tokens (lex.Refused place why) has told is = tokens-not_refused text tokens place why has is
lexed text tokens lex.Memory has told is = cc

-- tokens that have a tree aren't refused by the parser
parsed : (tokens : List Token) (tree : Tree) (end : ℕ) (why : ParseError) → HasTree tokens tree.params tree.body tree.skeleton
    → is_memory (version.Parse why) ≡ false → HasNoTree tokens end why → ⊥
parsed tokens tree end (parse.Syntax place) has told is = tree-no-syntax tokens tree.params tree.body tree.skeleton end place has is
parsed tokens tree end (parse.Deep place) has told is = tree-no-deep tokens tree.params tree.body tree.skeleton place has is
parsed tokens tree end parse.Memory has told is = cc

-- a file that has a tree isn't refused by the parser
treed : (text : List ℕ) (some others : List Token) (tree : Tree) (why : ParseError) → HasTreeOf text some tree
    → HasTokens text others → is_memory (version.Parse why) ≡ false → HasNoTree others (length text) why → ⊥
treed text some others tree why has too told is =
    let same : others ≡ some = tokens-one text others some too has.has_tokens in
    parsed some tree (length text) why has.has_tree told (subst (λ l. HasNoTree l (length text) why) same is)

pub given-not_refused : (text : List ℕ) (given : Version) (why : VersionError) → GivesVersion text given → IsFileRefused text why → ⊥
given-not_refused text given (version.Lex why) gives (told, is) = lexed text gives.tokens why gives.has.has_tokens told is
given-not_refused text given (version.Parse why) gives (told, (tokens, has, is)) = treed text gives.tokens tokens gives.tree why gives.has has told is
given-not_refused text given (version.Name why) gives (told, (tokens, tree, has, is)) =
    let same = one-names text gives.tokens tokens gives.tree tree gives.has has in
    let right = gives.is.right in let wrong = wrong-names tree why told is in cc

-- the lexer refuses a file for one reason
one-lex : (text : List ℕ) (why how : LexError) → is_memory (version.Lex why) ≡ false → is_memory (version.Lex how) ≡ false
    → HasNoTokens text why → HasNoTokens text how → why ≡ how
one-lex text (lex.Refused p a) (lex.Refused q b) told also x y =
    let one = refusal-one text p q a b x y in ap (λ k. lex.Refused k a) one.0 ∙ ap (λ w. lex.Refused q w) one.1
one-lex text (lex.Refused p a) lex.Memory told also x y = cc
one-lex text lex.Memory how told also x y = cc

-- the parser refuses tokens for one reason
one-parse : (tokens : List Token) (end : ℕ) (why how : ParseError) → is_memory (version.Parse why) ≡ false → is_memory (version.Parse how) ≡ false
    → HasNoTree tokens end why → HasNoTree tokens end how → why ≡ how
one-parse tokens end (parse.Syntax p) (parse.Syntax q) told also x y = ap parse.Syntax (one-syntax IsText tokens end p q x y)
one-parse tokens end (parse.Syntax p) (parse.Deep q) told also x y = absurd (one-kind IsText tokens end p q x y)
one-parse tokens end (parse.Syntax p) parse.Memory told also x y = cc
one-parse tokens end (parse.Deep p) (parse.Syntax q) told also x y = absurd (one-kind IsText tokens end q p y x)
one-parse tokens end (parse.Deep p) (parse.Deep q) told also x y = ap parse.Deep (one-deep IsText tokens p q x y)
one-parse tokens end (parse.Deep p) parse.Memory told also x y = cc
one-parse tokens end parse.Memory how told also x y = cc

pub refused-one : (text : List ℕ) (why how : VersionError) → IsFileRefused text why → IsFileRefused text how → why ≡ how
refused-one text (version.Lex a) (version.Lex b) (told, x) (also, y) = ap version.Lex (one-lex text a b told also x y)
refused-one text (version.Lex a) (version.Parse b) (told, x) (also, (tokens, has, y)) = absurd (lexed text tokens a has told x)
refused-one text (version.Lex a) (version.Name b) (told, x) (also, (tokens, tree, has, y)) = absurd (lexed text tokens a has.has_tokens told x)
refused-one text (version.Parse a) (version.Lex b) (told, (tokens, has, x)) (also, y) = absurd (lexed text tokens b has also y)
refused-one text (version.Parse a) (version.Parse b) (told, (some, has, x)) (also, (others, too, y)) =
    let same : others ≡ some = tokens-one text others some too has in
    ap version.Parse (one-parse some (length text) a b told also x (subst (λ l. HasNoTree l (length text) b) same y))
refused-one text (version.Parse a) (version.Name b) (told, (some, has, x)) (also, (others, tree, too, y)) = absurd (treed text others some tree a too has told x)
refused-one text (version.Name a) (version.Lex b) (told, (tokens, tree, has, x)) (also, y) = absurd (lexed text tokens b has.has_tokens also y)
refused-one text (version.Name a) (version.Parse b) (told, (some, tree, has, x)) (also, (others, too, y)) = absurd (treed text some others tree b has too also y)
refused-one text (version.Name a) (version.Name b) (told, (some, tree, has, x)) (also, (others, other, too, y)) =
    let same = one-names text some others tree other has too in
    let left = wrong-names tree a told x in let right = wrong-names other b also y in
    let one : a ≡ b = cc in ap version.Name one
