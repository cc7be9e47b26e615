-- A program has no more parameters, variables and statements than tokens: each of its values is weighed against the tokens that were read.
use Rattle.std.proofs.Common.{◌≡◌, ℕ, zero, suc, ◌+◌, ◌-◌, ◌<◌, ◌≤◌, ◌^◌, Bool, List, [], ◌∷◌, ◌++◌, length, map, refl, ap, sym, subst, ◌∙◌, arith, Option, Some, None, pos}
use Rattle.std.proofs.lemmas.List.Sums.{sum_by-cons}
use Rattle.prv_lex.specs.declared.token.Token.{Token}
use Rattle.prv_lex.specs.declared.token.Tok.{Tok}
use Rattle.prv_rule.specs.declared.skeleton.Skel.{Skel}
use Rattle.prv_rule.specs.Rules.{Rule, Sequence, Repetition, Full, Attributes, attributes, joined, Out, Done, Stop, derives, derives_with, IsSequence, read_with, readers, at_end, bind}
use Rattle.prv_rule.specs.Combinators.{preceded, terminated, mapped, optional, separated, nested}
use Rattle.prv_rule.proofs.Weights.{Weighs, IsLight, reads-light, readers-light}
use Rattle.prv_parse.specs.Refusals.{HasTree}
use Rattle.prv_parse.specs.Trees.{node_count, stmt_count, body_count, node_declarations, declaration_count, body_declarations, IsTree}
use Rattle.prv_parse.specs.declared.tree.Ident.{Ident}
use Rattle.prv_parse.specs.declared.tree.Mark.{Mark}
use Rattle.prv_parse.specs.declared.tree.ExprTree.{ExprTree}
use Rattle.prv_parse.specs.declared.tree.ExprTree.TheVariants as expr
use Rattle.prv_parse.specs.declared.tree.StmtTree.{StmtTree, StmtTree-F, fold-roll-StmtTree}
use Rattle.prv_parse.specs.declared.tree.StmtTree.TheVariants as stmt
use Rattle.prv_parse.specs.Nonterminals.{Nonterminal, Operand, Parenthesized, Choice, Statement, Block, Value}
use Rattle.prv_parse.specs.Terminals.{open_paren, close_paren, open_brace, close_brace, colon, comma, equals, semicolon, int_word, main_word, if_word, else_word, while_word, return_word, out_word, assert_word, name}
use Rattle.prv_parse.specs.Grammar.{table, operand, level, expression, test, ended, assigned, mark, initial, declaration, skip, braced, branch, loop, returned, output, assertion, marked_statement, assignment, statement, marked_item, item, block, parameter, program}
use Rattle.prv_parse.proofs.Parsed.{read, has-read}

-- an empty statement is one statement
count-skip : stmt_count stmt.Skip ≡ 1
count-skip = ap stmt_count (sym stmt.rolls-Skip) ∙ fold-roll-StmtTree ℕ node_count StmtTree-F.Skip

-- a declaration counts as one
count-declare : (x : Ident) (e : ExprTree) → stmt_count (stmt.Declare x e) ≡ 1
count-declare x e = ap stmt_count (sym (stmt.rolls-Declare x e)) ∙ fold-roll-StmtTree ℕ node_count (StmtTree-F.Declare x e)

-- an assignment is one
count-set : (x : Ident) (e : ExprTree) → stmt_count (stmt.Set x e) ≡ 1
count-set x e = ap stmt_count (sym (stmt.rolls-Set x e)) ∙ fold-roll-StmtTree ℕ node_count (StmtTree-F.Set x e)

-- an `if` with no `else` is one more than its branch
count-if_only : (c : ExprTree) (a : StmtTree) → stmt_count (stmt.If c a None) ≡ 1 + (stmt_count a + 0)
count-if_only c a = ap stmt_count (sym (stmt.rolls-If c a None)) ∙ fold-roll-StmtTree ℕ node_count (StmtTree-F.If c a None)

-- with an `else` it is one more than both
count-if_else : (c : ExprTree) (a b : StmtTree) → stmt_count (stmt.If c a (Some b)) ≡ 1 + (stmt_count a + stmt_count b)
count-if_else c a b = ap stmt_count (sym (stmt.rolls-If c a (Some b))) ∙ fold-roll-StmtTree ℕ node_count (StmtTree-F.If c a (Some b))

-- a loop is one more than its body
count-while : (c : ExprTree) (a : StmtTree) → stmt_count (stmt.While c a) ≡ 1 + stmt_count a
count-while c a = ap stmt_count (sym (stmt.rolls-While c a)) ∙ fold-roll-StmtTree ℕ node_count (StmtTree-F.While c a)

-- a `return` is one
count-return : (e : ExprTree) → stmt_count (stmt.Return e) ≡ 1
count-return e = ap stmt_count (sym (stmt.rolls-Return e)) ∙ fold-roll-StmtTree ℕ node_count (StmtTree-F.Return e)

-- an `out` is one
count-out : (e : ExprTree) → stmt_count (stmt.Out e) ≡ 1
count-out e = ap stmt_count (sym (stmt.rolls-Out e)) ∙ fold-roll-StmtTree ℕ node_count (StmtTree-F.Out e)

-- an `assert` is one
count-assert : (e : ExprTree) → stmt_count (stmt.Assert e) ≡ 1
count-assert e = ap stmt_count (sym (stmt.rolls-Assert e)) ∙ fold-roll-StmtTree ℕ node_count (StmtTree-F.Assert e)

-- a block is one more than all that it has
count-block : (all : List StmtTree) → stmt_count (stmt.Block all) ≡ 1 + body_count all
count-block all = ap stmt_count (sym (stmt.rolls-Block all)) ∙ fold-roll-StmtTree ℕ node_count (StmtTree-F.Block all)

-- a mark is one more than what it marks
count-marked : (m : Mark) (a : StmtTree) → stmt_count (stmt.Marked m a) ≡ 1 + stmt_count a
count-marked m a = ap stmt_count (sym (stmt.rolls-Marked m a)) ∙ fold-roll-StmtTree ℕ node_count (StmtTree-F.Marked m a)

-- an empty statement has no declaration
declares-skip : declaration_count stmt.Skip ≡ 0
declares-skip = ap declaration_count (sym stmt.rolls-Skip) ∙ fold-roll-StmtTree ℕ node_declarations StmtTree-F.Skip

-- a declaration is one
declares-declare : (x : Ident) (e : ExprTree) → declaration_count (stmt.Declare x e) ≡ 1
declares-declare x e = ap declaration_count (sym (stmt.rolls-Declare x e)) ∙ fold-roll-StmtTree ℕ node_declarations (StmtTree-F.Declare x e)

-- an assignment has none
declares-set : (x : Ident) (e : ExprTree) → declaration_count (stmt.Set x e) ≡ 0
declares-set x e = ap declaration_count (sym (stmt.rolls-Set x e)) ∙ fold-roll-StmtTree ℕ node_declarations (StmtTree-F.Set x e)

-- an `if` with no `else` has those of its branch
declares-if_only : (c : ExprTree) (a : StmtTree) → declaration_count (stmt.If c a None) ≡ declaration_count a + 0
declares-if_only c a = ap declaration_count (sym (stmt.rolls-If c a None)) ∙ fold-roll-StmtTree ℕ node_declarations (StmtTree-F.If c a None)

-- with an `else` it has those of both
declares-if_else : (c : ExprTree) (a b : StmtTree) → declaration_count (stmt.If c a (Some b)) ≡ declaration_count a + declaration_count b
declares-if_else c a b = ap declaration_count (sym (stmt.rolls-If c a (Some b))) ∙ fold-roll-StmtTree ℕ node_declarations (StmtTree-F.If c a (Some b))

-- a loop has those of its body
declares-while : (c : ExprTree) (a : StmtTree) → declaration_count (stmt.While c a) ≡ declaration_count a
declares-while c a = ap declaration_count (sym (stmt.rolls-While c a)) ∙ fold-roll-StmtTree ℕ node_declarations (StmtTree-F.While c a)

-- a `return` has none
declares-return : (e : ExprTree) → declaration_count (stmt.Return e) ≡ 0
declares-return e = ap declaration_count (sym (stmt.rolls-Return e)) ∙ fold-roll-StmtTree ℕ node_declarations (StmtTree-F.Return e)

-- an `out` has none
declares-out : (e : ExprTree) → declaration_count (stmt.Out e) ≡ 0
declares-out e = ap declaration_count (sym (stmt.rolls-Out e)) ∙ fold-roll-StmtTree ℕ node_declarations (StmtTree-F.Out e)

-- an `assert` has none
declares-assert : (e : ExprTree) → declaration_count (stmt.Assert e) ≡ 0
declares-assert e = ap declaration_count (sym (stmt.rolls-Assert e)) ∙ fold-roll-StmtTree ℕ node_declarations (StmtTree-F.Assert e)

-- a block has those of all that it has
declares-block : (all : List StmtTree) → declaration_count (stmt.Block all) ≡ body_declarations all
declares-block all = ap declaration_count (sym (stmt.rolls-Block all)) ∙ fold-roll-StmtTree ℕ node_declarations (StmtTree-F.Block all)

-- a mark has those of what it marks
declares-marked : (m : Mark) (a : StmtTree) → declaration_count (stmt.Marked m a) ≡ declaration_count a
declares-marked m a = ap declaration_count (sym (stmt.rolls-Marked m a)) ∙ fold-roll-StmtTree ℕ node_declarations (StmtTree-F.Marked m a)

-- a body's count is its first statement's and that of the others
count-more : (s : StmtTree) (all : List StmtTree) → body_count (s ∷ all) ≡ stmt_count s + body_count all
count-more s all = sum_by-cons (λ n. n) (stmt_count s) (map (λ s. stmt_count s) all)

-- and so are its declarations
declares-more : (s : StmtTree) (all : List StmtTree) → body_declarations (s ∷ all) ≡ declaration_count s + body_declarations all
declares-more s all = sum_by-cons (λ n. n) (declaration_count s) (map (λ s. declaration_count s) all)

-- the weight of a statement: the statements and the declarations that it has
abbrev weight : StmtTree → ℕ
weight s = stmt_count s + declaration_count s

abbrev body_weight : List StmtTree → ℕ
body_weight all = body_count all + body_declarations all

abbrev other_weight : Option StmtTree → ℕ
other_weight None = 0
other_weight (Some s) = weight s

-- of what stands inside constructs; expressions have no weight
abbrev w : (k : Nonterminal) → Value k → ℕ
w Operand e = 0
w Parenthesized e = 0
w Choice e = 0
w Statement s = weight s
w Block all = body_weight all

if-weight : (c : ExprTree) (a : StmtTree) (o : Option StmtTree) → weight (stmt.If c a o) ≤ (1 + weight a) + other_weight o
if-weight c a None = omega (arith, count-if_only c a, declares-if_only c a)
if-weight c a (Some b) = omega (arith, count-if_else c a b, declares-if_else c a b)

-- a rule behind a token without weight, or with it, and before one
preceded-by : {A : Type 0} (t : Rule Value (Unit {0})) (a : Rule Value A) (m : A → ℕ) → Weighs w t (λ u. 0) → Weighs w a m → Weighs w (preceded t a) m
preceded-by t a m h g = (λ u. 0, m, h, g, λ u v. omega arith)

counted-by : {A : Type 0} (t : Rule Value (Unit {0})) (a : Rule Value A) (m : A → ℕ) → Weighs w t (λ u. 1) → Weighs w a m → Weighs w (preceded t a) (λ v. 1 + m v)
counted-by t a m h g = (λ u. 1, m, h, g, λ u v. omega arith)

terminated-by : {A : Type 0} (t : Rule Value (Unit {0})) (a : Rule Value A) (m : A → ℕ) → Weighs w t (λ u. 0) → Weighs w a m → Weighs w (terminated a t) m
terminated-by t a m h g = (m, λ u. 0, g, h, λ v u. omega arith)

-- with another value
mapped-by : {A B : Type 0} (f : A → B) (a : Rule Value A) (m : B → ℕ) → Weighs w a (λ v. m (f v)) → Weighs w (mapped f a) m
mapped-by f a m g = (λ u. 0, λ v. m (f v), refl, g, λ u v. omega arith)

-- what a token opens
nested-by : (k : Nonterminal) (t : Rule Value (Unit {0})) (m : Value k → ℕ) → Weighs w t (λ u. 1) → ((v : Value k) → m v ≤ 1 + w k v) → Weighs w (nested k t) m
nested-by k t m g h = (λ u. 1, g, tt, λ u v. h v)

-- expressions
light-operand : Weighs w operand (λ e. 0)
light-operand = (λ t v e. omega arith, ((λ op. 0, λ t v e. omega arith, tt, λ op e. omega arith), (λ u. 0, λ t v e. omega arith, tt, λ u e. omega arith)))

light-level : (k : ℕ) → Weighs w (level k) (λ e. 0)
light-level zero = light-operand
light-level (suc k) = (λ e. 0, λ ps. 0, light-level k, (λ p. 0, (λ op. 0, λ e. 0, λ t v e. omega arith, light-level k, λ op e. omega arith), refl, λ p ps. omega arith), λ e ps. omega arith)

light-expression : Weighs w expression (λ e. 0)
light-expression = (λ e. 0, λ o. 0, light-level 10, ((λ u. 0, λ p. 0, refl, (λ u. 0, λ t v e. omega arith, tt, λ u p. omega arith), λ u p. omega arith), refl), λ e o. omega arith)

light-ended : Weighs w ended (λ e. 0)
light-ended = terminated-by semicolon (Full expression) (λ e. 0) (λ t v e. omega arith) light-expression

light-assigned : Weighs w assigned (λ e. 0)
light-assigned = preceded-by equals ended (λ e. 0) (λ t v e. omega arith) light-ended

light-test : Weighs w test (λ e. 0)
light-test = preceded-by open_paren (terminated (Full expression) close_paren) (λ e. 0) (λ t v e. omega arith) (terminated-by close_paren (Full expression) (λ e. 0) (λ t v e. omega arith) light-expression)

light-mark : Weighs w mark (λ m. 1)
light-mark = (λ n. 1, λ n. 0, λ t v e. omega arith, λ t v e. omega arith, λ m n. omega arith)

-- statements
light-skip : Weighs w skip weight
light-skip = mapped-by (λ (u : Unit {0}). stmt.Skip) semicolon weight (λ t v e. omega (arith, count-skip, declares-skip))

light-braced : Weighs w braced weight
light-braced = mapped-by (λ all. stmt.Block all) (nested Block open_brace) weight (nested-by Block open_brace (λ all. weight (stmt.Block all)) (λ t v e. omega arith) (λ all. omega (arith, count-block all, declares-block all)))

light-branch : Weighs w branch weight
light-branch = (
  λ (p : ExprTree × StmtTree). 1 + weight p.1,
  other_weight,
  (λ c. 1, counted-by if_word test (λ e. 0) (λ t v e. omega arith) light-test, tt, λ c s. omega arith),
  (mapped-by (λ s. Some s) (nested Statement else_word) other_weight (nested-by Statement else_word (λ s. weight s) (λ t v e. omega arith) (λ s. omega arith)), refl),
  λ (p : ExprTree × StmtTree) other. if-weight p.0 p.1 other,
)

light-loop : Weighs w loop weight
light-loop = (λ c. 1, counted-by while_word test (λ e. 0) (λ t v e. omega arith) light-test, tt, λ c s. omega (arith, count-while c s, declares-while c s))

light-returned : Weighs w returned weight
light-returned = mapped-by (λ e. stmt.Return e) (preceded return_word ended) weight (λ u. 1, λ e. 0, λ t v e. omega arith, light-ended, λ u e. omega (arith, count-return e, declares-return e))

light-output : Weighs w output weight
light-output = mapped-by (λ e. stmt.Out e) (preceded out_word (terminated test semicolon)) weight (λ u. 1, λ e. 0, λ t v e. omega arith, terminated-by semicolon test (λ e. 0) (λ t v e. omega arith) light-test, λ u e. omega (arith, count-out e, declares-out e))

light-assertion : Weighs w assertion weight
light-assertion = mapped-by (λ e. stmt.Assert e) (preceded assert_word (terminated test semicolon)) weight (λ u. 1, λ e. 0, λ t v e. omega arith, terminated-by semicolon test (λ e. 0) (λ t v e. omega arith) light-test, λ u e. omega (arith, count-assert e, declares-assert e))

light-marked_statement : Weighs w marked_statement weight
light-marked_statement = (λ (p : Mark × StmtTree). 1 + weight p.1, (λ m. 1, light-mark, tt, λ m s. omega arith), λ (p : Mark × StmtTree). omega (arith, count-marked p.0 p.1, declares-marked p.0 p.1))

light-assignment : Weighs w assignment weight
light-assignment = (λ x. 1, λ e. 0, λ t v e. omega arith, light-assigned, λ x e. omega (arith, count-set x e, declares-set x e))

light-statement : Weighs w statement weight
light-statement = (light-skip, (light-braced, (light-branch, (light-loop, (light-returned, (light-output, (light-assertion, (light-marked_statement, light-assignment))))))))

-- declarations and blocks
light-initial : Weighs w initial (λ e. 0)
light-initial = (mapped-by (λ (u : Unit {0}). expr.Num (pos 0)) semicolon (λ e. 0) (λ t v e. omega arith), light-assigned)

light-declaration : Weighs w declaration weight
light-declaration = (
  λ u. 1,
  λ s. weight s - 1,
  λ t v e. omega arith,
  (λ x. 1, λ e. 0, λ t v e. omega arith, light-initial, λ x e. omega (arith, count-declare x e, declares-declare x e)),
  λ u s. omega arith,
)

light-item : Weighs w item weight
light-item = (
  light-declaration,
  (
    (λ (p : Mark × StmtTree). 1 + weight p.1, (λ m. 1, light-mark, light-declaration, λ m s. omega arith), λ (p : Mark × StmtTree). omega (arith, count-marked p.0 p.1, declares-marked p.0 p.1)),
    light-statement,
  ),
)

light-block : Weighs w block body_weight
light-block = terminated-by close_brace (Repetition item) body_weight (λ t v e. omega arith) (weight, light-item, refl, λ s all. omega (arith, count-more s all, declares-more s all))

light-table : (k : Nonterminal) → Weighs w (table k) (w k)
light-table Operand = light-operand
light-table Parenthesized = terminated-by close_paren expression (λ e. 0) (λ t v e. omega arith) light-expression
light-table Choice = (λ e. 0, λ e. 0, light-expression, preceded-by colon expression (λ e. 0) (λ t v e. omega arith) light-expression, λ a b. omega arith)
light-table Statement = light-statement
light-table Block = light-block

-- programs
light-parameter : Weighs w parameter (λ x. 1)
light-parameter = preceded-by int_word name (λ x. 1) (λ t v e. omega arith) (λ t v e. omega arith)

abbrev program_weight : List Ident × List StmtTree → ℕ
program_weight p = length p.0 + body_weight p.1

light-parameters : Weighs w (separated parameter comma) (λ xs. length xs)
light-parameters = (λ x. 1, λ xs. length xs, light-parameter, (λ x. 1, preceded-by comma parameter (λ x. 1) (λ t v e. omega arith) light-parameter, refl, λ x xs. omega arith), λ x xs. omega arith)

abbrev function : Rule Value (List Ident × List StmtTree)
function = Sequence (λ params body. (params, body)) (separated parameter comma) (preceded close_paren (nested Block open_brace))

light-function : Weighs w function program_weight
light-function = (λ params. length params, body_weight, light-parameters, preceded-by close_paren (nested Block open_brace) body_weight (λ t v e. omega arith) (nested-by Block open_brace body_weight (λ t v e. omega arith) (λ all. omega arith)), λ params body. omega arith)

light-program : Weighs w program program_weight
light-program =
    preceded-by int_word (preceded main_word (preceded open_paren function)) program_weight (λ t v e. omega arith)
    (preceded-by main_word (preceded open_paren function) program_weight (λ t v e. omega arith) (preceded-by open_paren function program_weight (λ t v e. omega arith) light-function))

-- what a file is read as weighs no more than its tokens
light : (tokens : List Token) (u : Attributes (List Ident × List StmtTree)) → read tokens ≡ Done u [] → program_weight u.value ≤ length tokens
light tokens u e = at (read_with (readers table 100) program 0 tokens) (reads-light w (readers table 100) (readers-light table w light-table 100) program program_weight light-program 0 tokens) e
  where
    ends : (v : Attributes (List Ident × List StmtTree)) (rest : List Token) → program_weight v.value + length rest ≤ length tokens → at_end v rest ≡ Done u [] → program_weight u.value ≤ length tokens
    ends v [] l e = let same : v ≡ u = cc in subst (λ u. program_weight u.value ≤ length tokens) same (let k : program_weight v.value + 0 ≤ length tokens = l in omega arith)
    ends v (t ∷ rest) l e = absurd (cc)

    at : (o : Out (List Ident × List StmtTree)) → IsLight program_weight tokens o → bind o (λ u rest. at_end u rest) ≡ Done u [] → program_weight u.value ≤ length tokens
    at (Done v rest) l e = ends v rest l e
    at (Stop y rest) l e = absurd (cc)

-- there is a parameter
some-params : (tokens : List Token) (params : List Ident) (body : List StmtTree) (skeleton : List Skel) → HasTree tokens params body skeleton → 0 < length params
some-params tokens params body skeleton t =
    let main = t.reads.1.derived.derives_other in
    let open_paren = main.derives_other in
    let both = open_paren.derives_other in
    let list = both.derives_one in
    let is : params ≡ list.one.value ∷ list.other.value =
    ap (λ (g : Attributes (List Ident × List StmtTree)). g.value.0) (t.reads.1.derived.got_is) ∙ ap (λ (g : Attributes (List Ident × List StmtTree)). g.value.0) main.got_is ∙ ap (λ (g : Attributes (List Ident × List StmtTree)). g.value.0) open_paren.got_is
    ∙ ap (λ (g : Attributes (List Ident × List StmtTree)). g.value.0) both.got_is ∙ ap (λ (g : Attributes (List Ident)). g.value) list.got_is in
    let count : length params ≡ suc (length list.other.value) = ap length is in omega arith

-- fewer than 2^28 tokens have a small tree
pub tree-small : (tokens : List Token) (params : List Ident) (body : List StmtTree) (skeleton : List Skel) → HasTree tokens params body skeleton → length tokens < 2 ^ 28 → IsTree params body
tree-small tokens params body skeleton has few =
    let x = has-read tokens params body skeleton has in
    let l : length params + (body_count body + body_declarations body) ≤ length tokens = light tokens (attributes (params, body) x.0 skeleton) x.1 in
    record { some_params = some-params tokens params body skeleton has; few_params = omega arith; few_variables = omega arith; few_statements = omega arith }
