-- The readers of expressions by hand are the table's.
use Rattle.std.proofs.Common.{◌≡◌, ℕ, zero, suc, ◌+◌, ◌<◌, ◌≤◌, nat_le, Bool, true, false, ◌&&◌, ◌||◌, List, [], ◌∷◌, ◌++◌, length, Option, Some, None, refl, sym, ap, subst, ◌∙◌, arith, true≢false, leb-true, leb-false, if◌then◌else◌}
use Rattle.prv_lex.specs.declared.token.Token.{Token}
use Rattle.prv_lex.specs.declared.token.Tok.{Tok}
use Rattle.prv_lex.specs.declared.token.Tok.TheVariants as tok
use Rattle.prv_lex.specs.declared.token.Sym.{Sym}
use Rattle.prv_lex.specs.declared.token.Sym.TheVariants as sy
use Rattle.prv_model.specs.declared.op.UnOp.{UnOp}
use Rattle.prv_model.specs.declared.op.UnOp.TheVariants.{Neg, Not, Flip}
use Rattle.prv_model.specs.declared.op.BinOp.{BinOp}
use Rattle.prv_rule.specs.Operators.{is_operator, is_operation, unary_of, binary_of, is_there}
use Rattle.prv_rule.specs.Skeletons.{kept}
use Rattle.prv_rule.specs.Rules.{Attributes, attributes, joined, first, Out, Done, Stop, Syntax, Depth, Operators, Reader, bind, spent, valued, sequence, alternative, no_more, repetition, head_is, read_with, readers}
use Rattle.prv_rule.specs.Texts.{more_by}
use Rattle.prv_rule.proofs.Follow.{On, pick_out, read-flat, bind-bind}
use Rattle.prv_rule.proofs.Spans.{has_token, is_plain, Spans, IsSpan, reads-span, readers-span}
use Rattle.prv_parse.specs.Reader as hand
use Rattle.prv_parse.specs.Reader.{expect, is_close_paren, is_colon, of_precedence, operator_of, Read, ReadExpr}
use Rattle.prv_parse.specs.declared.tree.ExprTree.{ExprTree}
use Rattle.prv_parse.specs.declared.tree.ExprTree.TheVariants as expr
use Rattle.prv_parse.specs.Nonterminals.{Nonterminal, Operand, Parenthesized, Choice, Statement, Block, Value}
use Rattle.prv_rule.specs.Combinators.{optional, nested, preceded}
use Rattle.prv_parse.specs.Terminals.{question, close_paren, colon}
use Rattle.prv_parse.specs.Grammar.{table, operand, grouped, applied, level, picked, expression}
use Rattle.prv_parse.proofs.Shapes.{unit, hand-same, shape, shape-bind, shape-map, shape-operator, shape-fixed, plain-close_paren, plain-colon}

-- what the readers by hand give of an expression
abbrev pub as_read : Attributes ExprTree → Read
as_read u = record { tree = u.value; before = u.before }

abbrev pub as_choice : ExprTree → Attributes (ExprTree × ExprTree) → Read
as_choice c u = record { tree = expr.Pick c u.value.0 u.value.1; before = u.before }

-- expressions leave no hole
abbrev pub is_expression : Nonterminal → Bool
is_expression Operand = true
is_expression Parenthesized = true
is_expression Choice = true
is_expression _ = false

plain-table : (k : Nonterminal) → is_expression k ≡ true → is_plain is_expression (table k) ≡ true
plain-table Operand e = refl
plain-table Parenthesized e = refl
plain-table Choice e = refl
plain-table Statement e = absurd (true≢false (sym e))
plain-table Block e = absurd (true≢false (sym e))

pub spans : (room : ℕ) (k : Nonterminal) (n : ℕ) (ts : List Token) → Spans false (is_expression k) n ts (readers table room k n ts)
spans room k n ts = readers-span table is_expression plain-table room k n ts

-- an operator of a precedence is an operator
is-operation : (s : Sym) (u : Option UnOp) (b : Option BinOp) (op : BinOp) → b ≡ Some op → is_operation s u b ≡ true
is-operation sy.Question u b op e = refl
is-operation s (Some x) b op e = refl
is-operation s None (Some y) op e = refl
is-operation s None None op e = absurd (cc)

some-of : (k : ℕ) (s : Sym) (u : Option UnOp) (b : Option BinOp) (op : BinOp) → of_precedence k b ≡ Some op → is_operation s u b ≡ true
some-of k s u None op e = absurd (cc)
some-of k s u (Some x) op e = is-operation s u (Some x) x refl

operator-between : (k : ℕ) (t : Tok) (op : BinOp) → operator_of k t ≡ Some op → is_operator t ≡ true
operator-between k (tok.Sym s) op e = some-of k s (unary_of s) (binary_of s) op e
operator-between k (tok.Num n) op e = absurd (cc)
operator-between k (tok.Name n) op e = absurd (cc)
operator-between k (tok.Key n) op e = absurd (cc)

-- one of two readers, by what each comes to
pub alternative-at : {A : Type 0} (x : Bool) (q r : Reader A) (n : ℕ) (ts : List Token) → alternative x q r n ts ≡ pick_out x (q n ts) (r n ts)
alternative-at true q r n ts = refl
alternative-at false q r n ts = refl

-- the readers of what stands inside the constructs of expressions
pub record Agrees (room : ℕ) : Type 0 where
  pub operands : (n : ℕ) (ts : List Token) → shape as_read (readers table room Operand n ts) ≡ (hand.readers room).operand n ts
  pub parens : (n : ℕ) (ts : List Token) → shape as_read (readers table room Parenthesized n ts) ≡ hand.in_parens (hand.readers room).expression n ts
  pub choices : (c : ExprTree) (n : ℕ) (ts : List Token) → shape (as_choice c) (readers table room Choice n ts) ≡ hand.chosen (hand.readers room).expression c n ts

module _ (room : ℕ) (inner : Agrees room) where
  abbrev p : (k : Nonterminal) → Reader (Value k)
  p = readers table room

  abbrev here : ReadExpr
  here = hand.operand_of (hand.readers room).expression (hand.readers room).operand

  -- an operand, by its first token
  unary-same : (s : Sym) (op : UnOp) (n place : ℕ) (rest : List Token) → is_operator (tok.Sym s) ≡ true
      → shape as_read (bind (spent (is_operator (tok.Sym s) && nat_le 256 n) op n (record { tok = tok.Sym s; place = place }) rest) (λ u r. bind (p Operand u.before r) (λ w s. Done (joined (λ op e. expr.Un op e) u w) s)))
      ≡ hand.operator n (record { tok = tok.Sym s; place = place }) rest (λ m r. hand.bind ((hand.readers room).operand m r) (λ e r'. hand.Done (record { tree = expr.Un op e.tree; before = e.before }) r'))
  unary-same s op n place rest o =
      let t : Token = record { tok = tok.Sym s; place = place } in
      let K : On UnOp ExprTree = λ u r. bind (p Operand u.before r) (λ w s. Done (joined (λ op e. expr.Un op e) u w) s) in
      let k : ℕ → List Token → hand.Out Read = λ m r. hand.bind ((hand.readers room).operand m r) (λ e r'. hand.Done (record { tree = expr.Un op e.tree; before = e.before }) r') in
      shape-operator as_read op n t rest K k o
      (shape-bind as_read as_read (p Operand (suc n) rest) ((hand.readers room).operand (suc n) rest) (λ w s. Done (joined (λ op e. expr.Un op e) (attributes op (suc n) (kept t ∷ [])) w) s)
      (λ e r'. hand.Done (record { tree = expr.Un op e.tree; before = e.before }) r') (inner.operands (suc n) rest) (λ u r i. refl))

  operand-at : (k : Tok) (place n : ℕ) (rest : List Token) → shape as_read (read_with p operand n (record { tok = k; place = place } ∷ rest)) ≡ here n (record { tok = k; place = place } ∷ rest)
  operand-at (tok.Num w) place n rest = refl
  operand-at (tok.Name x) place n rest = refl
  operand-at (tok.Key k) place n rest = refl
  operand-at (tok.Sym sy.Minus) place n rest = ap (shape as_read) (read-flat p operand n (record { tok = tok.Sym sy.Minus; place = place } ∷ rest)) ∙ unary-same sy.Minus Neg n place rest refl
  operand-at (tok.Sym sy.Bang) place n rest = ap (shape as_read) (read-flat p operand n (record { tok = tok.Sym sy.Bang; place = place } ∷ rest)) ∙ unary-same sy.Bang Not n place rest refl
  operand-at (tok.Sym sy.Tilde) place n rest = ap (shape as_read) (read-flat p operand n (record { tok = tok.Sym sy.Tilde; place = place } ∷ rest)) ∙ unary-same sy.Tilde Flip n place rest refl
  operand-at (tok.Sym sy.OpenParen) place n rest =
      let t : Token = record { tok = tok.Sym sy.OpenParen; place = place } in
      let opened : Attributes (Unit {0}) = attributes unit n (kept t ∷ []) in
      ap (shape as_read) (read-flat p operand n (t ∷ rest)) ∙ shape-map as_read (λ w. joined (λ (u : Unit {0}) (v : ExprTree). v) opened w) (p Parenthesized n rest) ∙ inner.parens n rest
  operand-at (tok.Sym _) place n rest = refl

  operand-same : (n : ℕ) (ts : List Token) → shape as_read (read_with p operand n ts) ≡ here n ts
  operand-same n [] = refl
  operand-same n (t ∷ rest) = operand-at t.tok t.place n rest

  level-span : (k n : ℕ) (ts : List Token) → Spans (has_token (level k)) (is_plain is_expression (level k)) n ts (read_with p (level k) n ts)
  level-span k n ts = reads-span is_expression p (spans room) (level k) n ts

  -- operators of a precedence behind a first operand
  module _ (k : ℕ) (tighter : (n : ℕ) (ts : List Token) → shape as_read (read_with p (level k) n ts) ≡ hand.precedence_of k here n ts) where
    abbrev loop : ℕ → Reader (List (BinOp × ExprTree))
    loop g = repetition (first (applied k (level k))) (read_with p (applied k (level k))) g

    abbrev with_tail : ExprTree → Attributes (List (BinOp × ExprTree)) → Read
    with_tail a w = record { tree = grouped a w.value; before = w.before }

    -- one operator with its operand, and then others
    abbrev applied_on : Option BinOp → ℕ → ℕ → Token → List Token → Out (List (BinOp × ExprTree))
    applied_on o g m t rest = bind (bind (valued o m t rest) (λ u r. bind (read_with p (level k) u.before r) (λ w s. Done (joined (λ op e. (op, e)) u w) s))) (λ u r. bind (loop g u.before r) (λ w s. Done (joined (λ v vs. v ∷ vs) u w) s))

    right : (g f : ℕ) (a : ExprTree) (op : BinOp) (m : ℕ) (t : Token) (rest : List Token) → (o : Out ExprTree) → Spans (has_token (level k)) (is_plain is_expression (level k)) (suc m) rest o → suc m ≤ 256 → 257 ≤ suc f + m → length rest ≤ g
        → ((a : ExprTree) (m : ℕ) (ts : List Token) → 257 ≤ f + m → 1 ≤ f → length ts ≤ g → shape (with_tail a) (loop g m ts) ≡ hand.tail (suc k) (hand.precedence_of k here) f (record { tree = a; before = m }) ts)
        → shape (with_tail a) (bind (bind o (λ w s. Done (joined (λ op e. (op, e)) (attributes op (suc m) (kept t ∷ [])) w) s)) (λ u r. bind (loop g u.before r) (λ w s. Done (joined (λ v vs. v ∷ vs) u w) s)))
        ≡ hand.bind (shape as_read o) (λ right s. hand.tail (suc k) (hand.precedence_of k here) f (record { tree = expr.Bin op a right.tree; before = right.before }) s)
    right g f a op m t rest (Stop Syntax r) x l e h ih = refl
    right g f a op m t rest (Stop Depth r) x l e h ih = refl
    right g f a op m t rest (Stop Operators r) x l e h ih = refl
    right g f a op m t rest (Done w s) x l e h ih =
        let few : w.before ≤ 256 = x.few l in let more : suc m ≤ w.before = x.more in let shorter : length s ≤ length rest = x.shorter in
        shape-map (with_tail a) (λ v. joined (λ v vs. v ∷ vs) (joined (λ op e. (op, e)) (attributes op (suc m) (kept t ∷ [])) w) v) (loop g w.before s)
        ∙ ih (expr.Bin op a w.value) w.before s (omega arith) (omega arith) (omega arith)

    tail-at : (g f : ℕ) (a : ExprTree) (m : ℕ) (t : Token) (rest : List Token) → 257 ≤ suc f + m → length rest ≤ g
        → ((a : ExprTree) (m : ℕ) (ts : List Token) → 257 ≤ f + m → 1 ≤ f → length ts ≤ g → shape (with_tail a) (loop g m ts) ≡ hand.tail (suc k) (hand.precedence_of k here) f (record { tree = a; before = m }) ts)
        → (o : Option BinOp) → operator_of (suc k) t.tok ≡ o
        → shape (with_tail a) (pick_out (is_there o || (false && first (level k) t)) (applied_on o g m t rest) (no_more m (t ∷ rest))) ≡ hand.tail_at o (record { tree = a; before = m }) (hand.precedence_of k here) (hand.tail (suc k) (hand.precedence_of k here) f) t rest
    tail-at g f a m t rest e h ih None i = refl
    tail-at g f a m t rest e h ih (Some op) i = ap (λ b. shape (with_tail a) (bind (bind (spent (b && nat_le 256 m) op m t rest) pairs) others)) is ∙ by (nat_le 256 m) refl
      where
        is : is_operator t.tok ≡ true
        is = operator-between (suc k) t.tok op i

        pairs : On BinOp (BinOp × ExprTree)
        pairs u r = bind (read_with p (level k) u.before r) (λ w s. Done (joined (λ op e. (op, e)) u w) s)

        others : On (BinOp × ExprTree) (List (BinOp × ExprTree))
        others u r = bind (loop g u.before r) (λ w s. Done (joined (λ v vs. v ∷ vs) u w) s)

        by : (b : Bool) → nat_le 256 m ≡ b → shape (with_tail a) (bind (bind (spent b op m t rest) pairs) others)
            ≡ (if b then hand.Many (t ∷ rest) else hand.bind (hand.precedence_of k here (suc m) rest) (λ right s. hand.tail (suc k) (hand.precedence_of k here) f (record { tree = expr.Bin op a right.tree; before = right.before }) s))
        by true j = refl
        by false j =
            let under : m < 256 = leb-false 256 m j in
            ap (λ b. shape (with_tail a) (bind (bind (read_with p (level k) (more_by b m) rest) (λ w s. Done (joined (λ op e. (op, e)) (attributes op (more_by b m) (kept t ∷ [])) w) s)) others)) is
            ∙ right g f a op m t rest (read_with p (level k) (suc m) rest) (level-span k (suc m) rest) (omega arith) e h ih
            ∙ ap (λ o. hand.bind o (λ right s. hand.tail (suc k) (hand.precedence_of k here) f (record { tree = expr.Bin op a right.tree; before = right.before }) s)) (tighter (suc m) rest)

    tail-same : (f g : ℕ) (a : ExprTree) (m : ℕ) (ts : List Token) → 257 ≤ f + m → 1 ≤ f → length ts ≤ g → shape (with_tail a) (loop g m ts) ≡ hand.tail (suc k) (hand.precedence_of k here) f (record { tree = a; before = m }) ts
    tail-same zero g a m ts e l h = absurd (omega arith)
    tail-same (suc f) zero a m [] e l h = refl
    tail-same (suc f) zero a m (t ∷ rest) e l h = absurd (omega arith)
    tail-same (suc f) (suc g) a m [] e l h = refl
    tail-same (suc f) (suc g) a m (t ∷ rest) e l h =
        ap (shape (with_tail a)) (alternative-at (head_is (first (applied k (level k))) (t ∷ rest)) (sequence (λ v vs. v ∷ vs) (read_with p (applied k (level k))) (loop g)) no_more m (t ∷ rest))
        ∙ tail-at g f a m t rest e (omega arith) (tail-same f g) (operator_of (suc k) t.tok) refl

  -- expressions of a precedence
  level-same : (k n : ℕ) (ts : List Token) → shape as_read (read_with p (level k) n ts) ≡ hand.precedence_of k here n ts
  level-same zero n ts = operand-same n ts
  level-same (suc k) n ts =
      shape-bind as_read as_read (read_with p (level k) n ts) (hand.precedence_of k here n ts)
      (λ u r. bind (repetition (first (applied k (level k))) (read_with p (applied k (level k))) (length r) u.before r) (λ w s. Done (joined grouped u w) s))
      (λ left rest. hand.tail (suc k) (hand.precedence_of k here) 257 left rest) (level-same k n ts)
      (λ u r i. shape-map as_read (λ w. joined grouped u w) (repetition (first (applied k (level k))) (read_with p (applied k (level k))) (length r) u.before r)
      ∙ tail-same k (level-same k) 257 (length r) u.value u.before r (omega arith) (omega arith) (omega arith))

  -- a choice behind its test
  choice-at : (u : Attributes ExprTree) (k : Tok) (place : ℕ) (rest : List Token) → shape as_read (bind (read_with p (optional (nested Choice question)) u.before (record { tok = k; place = place } ∷ rest)) (λ w s. Done (joined picked u w) s))
      ≡ hand.choice_behind (hand.readers room).expression (as_read u) (record { tok = k; place = place } ∷ rest)
  choice-at u (tok.Sym sy.Question) place rest =
      let t : Token = record { tok = tok.Sym sy.Question; place = place } in
      let last : On (Option (ExprTree × ExprTree)) ExprTree = λ w s. Done (joined picked u w) s in
      ap (λ o. shape as_read (bind o last)) (read-flat p (optional (nested Choice question)) u.before (t ∷ rest))
      ∙ by (nat_le 256 u.before)
    where
      by : (b : Bool) → shape as_read (bind (bind (spent b unit u.before (record { tok = tok.Sym sy.Question; place = place }) rest) (λ o r. bind (p Choice o.before r) (λ w s. Done (joined (λ (x : Unit {0}) v. Some v) (attributes unit u.before []) (joined (λ x v. v) o w)) s))) (λ w s. Done (joined picked u w) s))
          ≡ (if b then hand.Many (record { tok = tok.Sym sy.Question; place = place } ∷ rest) else hand.chosen (hand.readers room).expression u.value (suc u.before) rest)
      by true = refl
      by false = chosen (p Choice (suc u.before) rest) ∙ inner.choices u.value (suc u.before) rest
        where
          chosen : (o : Out (ExprTree × ExprTree)) → shape as_read (bind (bind o (λ w s. Done (joined (λ (x : Unit {0}) v. Some v) (attributes unit u.before []) (joined (λ x v. v) (attributes unit (suc u.before) (kept (record { tok = tok.Sym sy.Question; place = place }) ∷ [])) w)) s)) (λ w s. Done (joined picked u w) s))
              ≡ shape (as_choice u.value) o
          chosen (Done w s) = refl
          chosen (Stop Syntax s) = refl
          chosen (Stop Depth s) = refl
          chosen (Stop Operators s) = refl
  choice-at u _ place rest = refl

  choice-same : (u : Attributes ExprTree) (r : List Token) → shape as_read (bind (read_with p (optional (nested Choice question)) u.before r) (λ w s. Done (joined picked u w) s)) ≡ hand.choice_behind (hand.readers room).expression (as_read u) r
  choice-same u [] = refl
  choice-same u (t ∷ rest) = choice-at u t.tok t.place rest

  pub expression-same : (n : ℕ) (ts : List Token) → shape as_read (read_with p expression n ts) ≡ (hand.readers (suc room)).expression n ts
  expression-same n ts =
      shape-bind as_read as_read (read_with p (level 10) n ts) (hand.precedence_of 10 here n ts) (λ u r. bind (read_with p (optional (nested Choice question)) u.before r) (λ w s. Done (joined picked u w) s))
      (λ c rest. hand.choice_behind (hand.readers room).expression c rest) (level-same 10 n ts) (λ u r i. choice-same u r)

  parens-same : (n : ℕ) (ts : List Token) → shape as_read (read_with p (table Parenthesized) n ts) ≡ hand.in_parens (hand.readers (suc room)).expression n ts
  parens-same n ts =
      shape-bind as_read as_read (read_with p expression n ts) ((hand.readers (suc room)).expression n ts) (λ u r. bind (read_with p close_paren u.before r) (λ w s. Done (joined (λ v u. v) u w) s))
      (λ e r. hand.bind (expect is_close_paren r) (λ _ s. hand.Done e s)) (expression-same n ts) (λ u r i. shape-fixed as_read is_close_paren plain-close_paren u.before r (λ w s. Done (joined (λ v u. v) u w) s))

  others-same : (c : ExprTree) (n : ℕ) (ts : List Token) → shape (as_choice c) (read_with p (table Choice) n ts) ≡ hand.chosen (hand.readers (suc room)).expression c n ts
  others-same c n ts =
      shape-bind as_read (as_choice c) (read_with p expression n ts) ((hand.readers (suc room)).expression n ts) (λ u r. bind (read_with p (preceded colon expression) u.before r) (λ w s. Done (joined (λ a b. (a, b)) u w) s))
      (λ a r. hand.bind (expect is_colon r) (λ _ s. hand.bind ((hand.readers (suc room)).expression a.before s) (λ b v. hand.Done (record { tree = expr.Pick c a.tree b.tree; before = b.before }) v))) (expression-same n ts) (λ u r i. behind u r)
    where
      behind : (u : Attributes ExprTree) (r : List Token) → shape (as_choice c) (bind (read_with p (preceded colon expression) u.before r) (λ w s. Done (joined (λ a b. (a, b)) u w) s))
          ≡ hand.bind (expect is_colon r) (λ _ s. hand.bind ((hand.readers (suc room)).expression u.before s) (λ b v. hand.Done (record { tree = expr.Pick c u.value b.tree; before = b.before }) v))
      behind u r =
          let second : On (Unit {0}) ExprTree = λ o s. bind (read_with p expression o.before s) (λ b v. Done (joined (λ (x : Unit {0}) (y : ExprTree). y) o b) v) in
          let last : On ExprTree (ExprTree × ExprTree) = λ w s. Done (joined (λ a b. (a, b)) u w) s in
          ap (shape (as_choice c)) (bind-bind (read_with p colon u.before r) second last)
          ∙ shape-fixed (as_choice c) is_colon plain-colon u.before r (λ o s. bind (second o s) last)
          ∙ hand-same (expect is_colon r) (λ k s. shape (as_choice c) (bind (second (attributes unit u.before k) s) last)) _
          (λ k s. ap (shape (as_choice c)) (bind-bind (read_with p expression u.before s) (λ b v. Done (joined (λ (x : Unit {0}) (y : ExprTree). y) (attributes unit u.before k) b) v) last)
          ∙ shape-bind as_read (as_choice c) (read_with p expression u.before s) ((hand.readers (suc room)).expression u.before s) (λ b v. bind (Done (joined (λ (x : Unit {0}) (y : ExprTree). y) (attributes unit u.before k) b) v) last)
          (λ b v. hand.Done (record { tree = expr.Pick c u.value b.tree; before = b.before }) v) (expression-same u.before s) (λ b v i. refl))

  deeper : Agrees (suc room)
  deeper = record { operands = operand-same; parens = parens-same; choices = others-same }

-- inside as many constructs as may be open
pub agrees : (room : ℕ) → Agrees room
agrees zero = record { operands = λ n ts. none n ts; parens = λ n ts. in_none n ts; choices = λ c n ts. choice_none c n ts }
  where
    none : (n : ℕ) (ts : List Token) → shape as_read (readers table zero Operand n ts) ≡ (hand.readers zero).operand n ts
    none n [] = refl
    none n (t ∷ ts) = refl

    in_none : (n : ℕ) (ts : List Token) → shape as_read (readers table zero Parenthesized n ts) ≡ hand.in_parens (hand.readers zero).expression n ts
    in_none n [] = refl
    in_none n (t ∷ ts) = refl

    choice_none : (c : ExprTree) (n : ℕ) (ts : List Token) → shape (as_choice c) (readers table zero Choice n ts) ≡ hand.chosen (hand.readers zero).expression c n ts
    choice_none c n [] = refl
    choice_none c n (t ∷ ts) = refl
agrees (suc room) = deeper room (agrees room)
