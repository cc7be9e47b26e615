-- Refusals: their statuses and their lines.
use Rattle.std.specs.Prelude.{ℕ, List, ◌++◌, codes, decimal}
use Rattle.prv_lex.specs.declared.error.LexError.{LexError}
use Rattle.prv_lex.specs.declared.error.LexError.TheVariants as lex
use Rattle.prv_lex.specs.declared.error.LexWhy.{LexWhy}
use Rattle.prv_lex.specs.declared.error.LexWhy.TheVariants.{Long, Byte, Number, NameLong, Comment}
use Rattle.prv_parse.specs.declared.error.ParseError.{ParseError}
use Rattle.prv_parse.specs.declared.error.ParseError.TheVariants as parse
use Rattle.prv_names.specs.declared.error.NameError.{NameError}
use Rattle.prv_names.specs.declared.error.NameError.TheVariants as name
use Rattle.prv_names.specs.declared.error.What.{What}
use Rattle.prv_names.specs.declared.error.What.TheVariants.{Params, Vars, Stmts}
use Rattle.prv_marks.specs.declared.error.Side.{Side}
use Rattle.prv_marks.specs.declared.error.Side.TheVariants.{Before, After}
use Rattle.prv_marks.specs.declared.error.PairError.{PairError}
use Rattle.prv_marks.specs.declared.error.PairError.TheVariants as pair
use Rattle.prv_version.specs.declared.error.VersionError.{VersionError}
use Rattle.prv_version.specs.declared.error.VersionError.TheVariants as version
use Rattle.prv_text.specs.Lines.{line}
use Rattle.prv_cli.specs.declared.refusal.Who.{Who}
use Rattle.prv_cli.specs.declared.refusal.Who.TheVariants.{Old, New, Only}
use Rattle.prv_cli.specs.declared.refusal.Bound.{Bound}
use Rattle.prv_cli.specs.declared.refusal.Bound.TheVariants.{Nodes, Literals}
use Rattle.prv_cli.specs.declared.refusal.Refusal.{Refusal}
use Rattle.prv_cli.specs.declared.refusal.Refusal.TheVariants as refusal

-- the number with which the program ends after a refusal
abbrev pub refusal_number : Refusal → ℕ
refusal_number (refusal.Usage word) = 3
refusal_number refusal.Later = 3
refusal_number (refusal.File who why) = 4
refusal_number (refusal.Pair why) = 4
refusal_number (refusal.Inputs given wanted) = 4
refusal_number (refusal.Slice bound) = 4
refusal_number refusal.Read = 5
refusal_number refusal.Write = 6
refusal_number refusal.Memory = 9

-- a file, as a refusal names it
abbrev pub who_text : Who → List ℕ
who_text Old = codes "old"
who_text New = codes "new"
who_text Only = codes "file"

abbrev pub lex_text : LexWhy → List ℕ
lex_text Long = codes "long"
lex_text Byte = codes "byte"
lex_text Number = codes "number"
lex_text NameLong = codes "name"
lex_text Comment = codes "comment"

abbrev pub what_text : What → List ℕ
what_text Params = codes "params"
what_text Vars = codes "vars"
what_text Stmts = codes "stmts"

abbrev pub lexer_text : LexError → List ℕ
lexer_text (lex.Refused place why) = codes "lex " ++ lex_text why ++ codes " at " ++ decimal place
lexer_text lex.Memory = codes "memory"

abbrev pub parser_text : ParseError → List ℕ
parser_text (parse.Syntax place) = codes "syntax at " ++ decimal place
parser_text (parse.Deep place) = codes "deep at " ++ decimal place
parser_text parse.Memory = codes "memory"

abbrev pub names_text : NameError → List ℕ
names_text (name.Unknown place) = codes "name unknown at " ++ decimal place
names_text (name.Twice place) = codes "name twice at " ++ decimal place
names_text (name.NotInScope place) = codes "name scope at " ++ decimal place
names_text (name.TooMany what count) = codes "too many " ++ what_text what ++ codes " " ++ decimal count
names_text name.Memory = codes "memory"

abbrev pub version_text : VersionError → List ℕ
version_text (version.Lex why) = lexer_text why
version_text (version.Parse why) = parser_text why
version_text (version.Name why) = names_text why

abbrev pub side_text : Side → List ℕ
side_text Before = codes "old"
side_text After = codes "new"

abbrev pub bound_text : Bound → List ℕ
bound_text Nodes = codes "nodes"
bound_text Literals = codes "literals"

abbrev pub pair_text : PairError → List ℕ
pair_text (pair.Params before after) = codes "pair: params " ++ decimal before ++ codes " and " ++ decimal after
pair_text (pair.MarkTwice side mark) = side_text side ++ codes ": mark " ++ decimal mark ++ codes " twice"
pair_text (pair.MarkInside side place) = side_text side ++ codes ": mark inside mark at " ++ decimal place
pair_text (pair.Unmarked before after) = codes "pair: unmarked at " ++ decimal before ++ codes " and " ++ decimal after

abbrev pub refusal_text : Refusal → List ℕ
refusal_text (refusal.Usage word) = codes "usage: word " ++ decimal word
refusal_text refusal.Later = codes "later"
refusal_text (refusal.File who why) = who_text who ++ codes ": " ++ version_text why
refusal_text (refusal.Pair why) = pair_text why
refusal_text (refusal.Inputs given wanted) = codes "inputs " ++ decimal given ++ codes " wanted " ++ decimal wanted
refusal_text (refusal.Slice bound) = codes "slice " ++ bound_text bound
refusal_text refusal.Read = codes "read fault"
refusal_text refusal.Write = codes "write fault"
refusal_text refusal.Memory = codes "memory"

-- the line of a refusal
abbrev pub refusal_line : Refusal → List ℕ
refusal_line why = line (codes "prv: " ++ refusal_text why)
