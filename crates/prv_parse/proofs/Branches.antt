-- The reader of statements by hand is the table's, where those inside constructs are.
use Rattle.std.proofs.Common.{◌≡◌, ℕ, suc, List, [], ◌∷◌, ◌++◌, Option, Some, None, refl, sym, ap, ◌∙◌, append_assoc, append-nil}
use Rattle.prv_lex.specs.declared.token.Token.{Token}
use Rattle.prv_lex.specs.declared.token.Tok.{Tok}
use Rattle.prv_lex.specs.declared.token.Tok.TheVariants as tok
use Rattle.prv_lex.specs.declared.token.Key.TheVariants as key
use Rattle.prv_lex.specs.declared.token.Sym.TheVariants as sy
use Rattle.prv_rule.specs.declared.skeleton.Skel.{Skel}
use Rattle.prv_rule.specs.Skeletons.{kept}
use Rattle.prv_rule.specs.Rules.{Attributes, attributes, joined, Done, Reader, bind, terminal, read_with, readers}
use Rattle.prv_rule.specs.Combinators.{optional, nested}
use Rattle.prv_rule.proofs.Follow.{On, follow, pick_out, read-flat}
use Rattle.prv_parse.specs.Reader as hand
use Rattle.prv_parse.specs.Reader.{is_semicolon, Part, ReadStmt, stmt_with, ReadItems, items_with}
use Rattle.prv_parse.specs.Places.{ident, mark_at}
use Rattle.prv_parse.specs.declared.tree.Mark.{Mark}
use Rattle.prv_parse.specs.declared.tree.ExprTree.{ExprTree}
use Rattle.prv_parse.specs.declared.tree.StmtTree.{StmtTree}
use Rattle.prv_parse.specs.declared.tree.StmtTree.TheVariants as stmt
use Rattle.prv_parse.specs.Nonterminals.{Nonterminal, Statement, Block, Value}
use Rattle.prv_parse.specs.Terminals.{fixed_of, number_of, else_word}
use Rattle.prv_parse.specs.Grammar.{table, statement}
use Rattle.prv_parse.proofs.Shapes.{shape, shape-bind, fixed-step, plain-semicolon, hand-bind}
use Rattle.prv_parse.proofs.Parts.{assigned-step, ended-step, test-step, mark-same}

abbrev pub as_stmt : Attributes StmtTree → ReadStmt
as_stmt u = stmt_with u.value u.skeleton

abbrev pub as_items : Attributes (List StmtTree) → ReadItems
as_items u = items_with u.value u.skeleton

-- the readers of what stands inside the constructs of statements
pub record Agrees (room : ℕ) : Type 0 where
  pub statements : (n : ℕ) (ts : List Token) → shape as_stmt (readers table room Statement n ts) ≡ (hand.statements room).here ts
  pub blocks : (n : ℕ) (ts : List Token) → shape as_items (readers table room Block n ts) ≡ hand.block room (hand.statements room).here (hand.statements room).deeper ts

pub mark-step : {B Y : Type 0} (at : Token) (G : Attributes B → Y) (n : ℕ) (ts : List Token) (K : On ℕ B) (k : Mark → List Token → hand.Out Y) → ((u : Attributes ℕ) (r : List Token) → shape G (K u r) ≡ k (mark_at u.value at.place) r)
    → shape G (bind (terminal number_of n ts) K) ≡ hand.bind (hand.mark_behind at ts) k
mark-step at G n ts K k h = shape-bind (λ w. mark_at w.value at.place) G (terminal number_of n ts) (hand.mark_behind at ts) K k (mark-same at n ts) (λ u r i. h u r)

module _ (room : ℕ) (inner : Agrees room) where
  abbrev p : (k : Nonterminal) → Reader (Value k)
  p = readers table room

  abbrev deeper : hand.Statement
  deeper = (hand.statements room).here

  abbrev within : List Token → hand.Out ReadItems
  within = hand.block room (hand.statements room).here (hand.statements room).deeper

  pub stmt-step : {B Y : Type 0} (G : Attributes B → Y) (n : ℕ) (ts : List Token) (K : On StmtTree B) (k : ReadStmt → List Token → hand.Out Y) → ((u : Attributes StmtTree) (r : List Token) → shape G (K u r) ≡ k (as_stmt u) r)
      → shape G (bind (p Statement n ts) K) ≡ hand.bind (deeper ts) k
  stmt-step G n ts K k h = shape-bind as_stmt G (p Statement n ts) (deeper ts) K k (inner.statements n ts) (λ u r i. h u r)

  items-step : {B Y : Type 0} (G : Attributes B → Y) (n : ℕ) (ts : List Token) (K : On (List StmtTree) B) (k : ReadItems → List Token → hand.Out Y) → ((u : Attributes (List StmtTree)) (r : List Token) → shape G (K u r) ≡ k (as_items u) r)
      → shape G (bind (p Block n ts) K) ≡ hand.bind (within ts) k
  items-step G n ts K k h = shape-bind as_items G (p Block n ts) (within ts) K k (inner.blocks n ts) (λ u r i. h u r)

  -- what follows the branch of an `if`: c is the test with the `if`, a the branch
  abbrev branched : Attributes ExprTree → Attributes StmtTree → On (Option StmtTree) StmtTree
  branched c a o s = Done (joined (λ (p : ExprTree × StmtTree) other. stmt.If p.0 p.1 other) (joined (λ c s. (c, s)) c a) o) s

  abbrev made : List Skel → ReadStmt → List Token → hand.Out ReadStmt
  made front s u = hand.Done (stmt_with s.tree (front ++ s.skeleton)) u

  else-at : (c : Attributes ExprTree) (a : Attributes StmtTree) (k : Tok) (place : ℕ) (rest : List Token)
      → shape as_stmt (follow p (optional (nested Statement else_word)) a.before (record { tok = k; place = place } ∷ rest) (branched c a)) ≡ hand.bind (hand.else_behind deeper c.value (as_stmt a) (record { tok = k; place = place } ∷ rest)) (made c.skeleton)
  else-at c a (tok.Key key.Else) place rest =
      let t : Token = record { tok = tok.Key key.Else; place = place } in
      stmt-step as_stmt a.before rest _ _ (λ b s. ap (λ l. hand.Done (stmt_with (stmt.If c.value a.value (Some b.value)) l) s) (append_assoc c.skeleton a.skeleton (kept t ∷ b.skeleton)))
      ∙ sym (hand-bind (deeper rest) (λ b r. hand.Done (stmt_with (stmt.If c.value a.value (Some b.tree)) (a.skeleton ++ kept t ∷ b.skeleton)) r) (made c.skeleton))
  else-at c a k place rest = ap (λ l. hand.Done (stmt_with (stmt.If c.value a.value None) l) (record { tok = k; place = place } ∷ rest)) (append-nil (c.skeleton ++ a.skeleton))

  else-same : (c : Attributes ExprTree) (a : Attributes StmtTree) (ts : List Token) → shape as_stmt (follow p (optional (nested Statement else_word)) a.before ts (branched c a)) ≡ hand.bind (hand.else_behind deeper c.value (as_stmt a) ts) (made c.skeleton)
  else-same c a [] = ap (λ l. hand.Done (stmt_with (stmt.If c.value a.value None) l) []) (append-nil (c.skeleton ++ a.skeleton))
  else-same c a (t ∷ rest) = else-at c a t.tok t.place rest

  -- the `;` behind the test of a statement
  abbrev behind : (ExprTree → StmtTree) → Token → On ExprTree StmtTree
  behind f t e s = bind (terminal (fixed_of is_semicolon) e.before s) (λ c u. Done (attributes (f e.value) c.before (kept t ∷ (e.skeleton ++ c.skeleton))) u)

  -- a statement, by its first token
  flat : (t : Token) (n : ℕ) (rest : List Token) → shape as_stmt (read_with p statement n (t ∷ rest)) ≡ shape as_stmt (follow p statement n (t ∷ rest) (λ u r. Done u r))
  flat t n rest = ap (shape as_stmt) (read-flat p statement n (t ∷ rest))

  statement-at : (k : Tok) (place n : ℕ) (rest : List Token) → shape as_stmt (read_with p statement n (record { tok = k; place = place } ∷ rest)) ≡ hand.statement_at k (suc room) deeper within (record { tok = k; place = place }) rest
  statement-at (tok.Sym sy.Semicolon) place n rest = refl
  statement-at (tok.Sym sy.OpenBrace) place n rest = flat (record { tok = tok.Sym sy.OpenBrace; place = place }) n rest ∙ items-step as_stmt n rest _ _ (λ all r. refl)
  statement-at (tok.Sym sy.At) place n rest =
      flat (record { tok = tok.Sym sy.At; place = place }) n rest ∙ mark-step (record { tok = tok.Sym sy.At; place = place }) as_stmt n rest _ _ (λ u r. stmt-step as_stmt u.before r _ _ (λ a s. refl))
  statement-at (tok.Name x) place n rest =
      let t : Token = record { tok = tok.Name x; place = place } in
      flat t n rest ∙ assigned-step room as_stmt n rest (λ e s. Done (attributes (stmt.Set (ident x place) e.value) e.before (kept t ∷ e.skeleton)) s) _ (λ e r. refl)
  statement-at (tok.Key key.If) place n rest =
      let t : Token = record { tok = tok.Key key.If; place = place } in
      let K : On ExprTree StmtTree = λ c r. bind (p Statement c.before r) (λ a s. follow p (optional (nested Statement else_word)) a.before s (branched (attributes c.value c.before (kept t ∷ c.skeleton)) a)) in
      flat t n rest ∙ test-step room as_stmt n rest K _ (λ c r. stmt-step as_stmt n r _ _ (λ a s. else-same (attributes c.tree n (kept t ∷ c.skeleton)) a s))
  statement-at (tok.Key key.While) place n rest =
      let t : Token = record { tok = tok.Key key.While; place = place } in
      let K : On ExprTree StmtTree = λ c r. bind (p Statement c.before r) (λ a s. Done (attributes (stmt.While c.value a.value) a.before ((kept t ∷ c.skeleton) ++ a.skeleton)) s) in
      flat t n rest ∙ test-step room as_stmt n rest K _ (λ c r. stmt-step as_stmt n r _ _ (λ a s. refl))
  statement-at (tok.Key key.Return) place n rest =
      let t : Token = record { tok = tok.Key key.Return; place = place } in
      flat t n rest ∙ ended-step room as_stmt n rest (λ e s. Done (attributes (stmt.Return e.value) e.before (kept t ∷ e.skeleton)) s) _ (λ e r. refl)
  statement-at (tok.Key key.Out) place n rest =
      let t : Token = record { tok = tok.Key key.Out; place = place } in
      flat t n rest ∙ test-step room as_stmt n rest (behind (λ e. stmt.Out e) t) _ (λ e r. fixed-step as_stmt is_semicolon plain-semicolon n r _ _ (λ c s. refl))
  statement-at (tok.Key key.Assert) place n rest =
      let t : Token = record { tok = tok.Key key.Assert; place = place } in
      flat t n rest ∙ test-step room as_stmt n rest (behind (λ e. stmt.Assert e) t) _ (λ e r. fixed-step as_stmt is_semicolon plain-semicolon n r _ _ (λ c s. refl))
  statement-at _ place n rest = refl

  pub statement-same : (n : ℕ) (ts : List Token) → shape as_stmt (read_with p statement n ts) ≡ (hand.statements (suc room)).here ts
  statement-same n [] = refl
  statement-same n (t ∷ rest) = statement-at t.tok t.place n rest
