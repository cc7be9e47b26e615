-- The table can be read by one token.
use Rattle.std.proofs.Common.{◌≡◌, ℕ, zero, suc, Bool, true, false, ◌&&◌, ◌||◌, Option, Some, None, pos, refl, sym, ap, ◌∙◌, true≢false}
use Rattle.std.proofs.lemmas.Bool.{or_from, and_left}
use Rattle.prv_lex.specs.declared.token.Token.{Token}
use Rattle.prv_lex.specs.declared.token.Tok.{Tok}
use Rattle.prv_lex.specs.declared.token.Tok.TheVariants as tok
use Rattle.prv_lex.specs.declared.token.Sym.{Sym}
use Rattle.prv_lex.specs.declared.token.Sym.TheVariants as sy
use Rattle.prv_model.specs.declared.op.UnOp.{UnOp}
use Rattle.prv_model.specs.declared.op.BinOp.{BinOp}
use Rattle.prv_rule.specs.Operators.{is_operator, is_operation, unary_of, binary_of, is_there}
use Rattle.prv_parse.specs.Reader.{of_precedence, operator_of, is_question, is_else}
use Rattle.prv_rule.specs.Rules.{nullable}
use Rattle.prv_rule.proofs.Means.{goes}
use Rattle.prv_rule.proofs.Examples.{heads, is_good, is_flat, opens_closed, IsFit}
use Rattle.prv_parse.specs.Nonterminals.{Nonterminal, Operand, Parenthesized, Choice, Statement, Block}
use Rattle.prv_parse.specs.Terminals.{at_start, unit_if, between_of}
use Rattle.prv_parse.specs.Grammar.{level, expression, table, program}

-- with which tokens what stands inside a construct may go on
abbrev pub later : Nonterminal → Token → Bool
later Choice t = is_operator t.tok
later Statement t = is_else t.tok
later _ t = false

-- with which token it may begin
abbrev pub starts : Nonterminal → Token
starts Statement = at_start (tok.Sym sy.Semicolon)
starts Block = at_start (tok.Sym sy.CloseBrace)
starts _ = at_start (tok.Num (pos 0))

is-operation : (s : Sym) (u : Option UnOp) (b : Option BinOp) (op : BinOp) → b ≡ Some op → is_operation s u b ≡ true
is-operation sy.Question u b op e = refl
is-operation s (Some x) b op e = refl
is-operation s None (Some y) op e = refl
is-operation s None None op e = absurd (cc)

-- what is no operator is none of a precedence
none-of : (k : ℕ) (s : Sym) (u : Option UnOp) (b : Option BinOp) → is_operation s u b ≡ false → is_there (of_precedence k b) ≡ false
none-of k s u None e = refl
none-of k s u (Some op) e = absurd (true≢false (sym (is-operation s u (Some op) op refl) ∙ e))

none-between : (k : ℕ) (t : Tok) → is_operator t ≡ false → is_there (operator_of k t) ≡ false
none-between k (tok.Sym s) e = none-of k s (unary_of s) (binary_of s) e
none-between k (tok.Num n) e = refl
none-between k (tok.Name n) e = refl
none-between k (tok.Key n) e = refl

nullable-level : (k : ℕ) → nullable (level k) ≡ false
nullable-level zero = refl
nullable-level (suc k) = and_left (nullable (level k)) true (nullable-level k)

goes-level : (k : ℕ) (t : Token) → is_operator t.tok ≡ false → goes later (level k) t ≡ false
goes-level zero t e = refl
goes-level (suc k) t e =
    or_from _ (goes later (level k) t)
    (or_from _ _ (or_from (is_there (between_of (suc k) t)) false (none-between (suc k) t.tok e) refl)
    (or_from (goes later (level k) t) (nullable (level k) && false) (goes-level k t e) (and_left (nullable (level k)) false (nullable-level k))))
    (goes-level k t e)

no-question : (t : Tok) → is_operator t ≡ false → is_question t ≡ false
no-question (tok.Sym sy.Question) e = absurd (true≢false e)
no-question _ e = refl

goes-expression : (t : Token) → is_operator t.tok ≡ false → goes later expression t ≡ false
goes-expression t e =
    or_from (((is_operator t.tok || false) || false) || is_there (unit_if (is_question t.tok))) (goes later (level 10) t)
    (or_from ((is_operator t.tok || false) || false) (is_there (unit_if (is_question t.tok)))
    (or_from (is_operator t.tok || false) false (or_from (is_operator t.tok) false e refl) refl) (ap (λ b. is_there (unit_if b)) (no-question t.tok e)))
    (goes-level 10 t e)

good : (k : Nonterminal) → is_good later starts (table k) ≡ true
good Operand = refl
good Parenthesized = refl
good Choice = refl
good Statement = refl
good Block = refl

flat : (k : Nonterminal) → is_flat false (table k) ≡ true
flat Operand = refl
flat Parenthesized = refl
flat Choice = refl
flat Statement = refl
flat Block = refl

closed : (k : Nonterminal) → opens_closed (table k) ≡ true
closed Operand = refl
closed Parenthesized = refl
closed Choice = refl
closed Statement = refl
closed Block = refl

filled : (k : Nonterminal) → nullable (table k) ≡ false
filled Operand = refl
filled Parenthesized = refl
filled Choice = refl
filled Statement = refl
filled Block = refl

starts-are : (k : Nonterminal) → heads starts (table k) ≡ Some (starts k)
starts-are Operand = refl
starts-are Parenthesized = refl
starts-are Choice = refl
starts-are Statement = refl
starts-are Block = refl

later-is : (k : Nonterminal) (t : Token) → later k t ≡ false → goes later (table k) t ≡ false
later-is Operand t e = refl
later-is Parenthesized t e = refl
later-is Choice t e = or_from (goes later expression t || false) false (or_from (goes later expression t) false (goes-expression t e) refl) refl
later-is Statement t e = rw e refl
later-is Block t e = refl

pub fit : IsFit table later starts
fit = record { good = good; flat = flat; closed = closed; filled = filled; starts_are = starts-are; later_is = later-is }

pub good-program : is_good later starts program ≡ true
good-program = refl

pub flat-program : is_flat true program ≡ true
flat-program = refl

pub closed-program : opens_closed program ≡ true
closed-program = refl
