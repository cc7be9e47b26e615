-- The readers of blocks by hand are the table's.
use Rattle.std.proofs.Common.{◌≡◌, ℕ, zero, suc, ◌+◌, ◌<◌, ◌≤◌, Bool, true, false, List, [], ◌∷◌, ◌++◌, length, refl, sym, ap, subst, ◌∙◌, arith, append_assoc, true≢false}
use Rattle.prv_lex.specs.declared.token.Token.{Token}
use Rattle.prv_lex.specs.declared.token.Tok.{Tok}
use Rattle.prv_lex.specs.declared.token.Tok.TheVariants as tok
use Rattle.prv_lex.specs.declared.token.Key.TheVariants as key
use Rattle.prv_lex.specs.declared.token.Sym.TheVariants as sy
use Rattle.prv_rule.specs.declared.skeleton.Skel.{Skel}
use Rattle.prv_rule.specs.Skeletons.{kept, hole}
use Rattle.prv_rule.specs.Rules.{Attributes, attributes, joined, first, head_is, Out, Done, Stop, Syntax, Depth, Operators, Reader, bind, terminal, sequence, no_more, repetition, read_with, readers}
use Rattle.prv_rule.proofs.Follow.{On, follow, pick_out, read-flat}
use Rattle.prv_rule.proofs.Spans.{Spans, IsSpan, has_token, is_plain, reads-span, readers-span}
use Rattle.prv_parse.specs.Reader as hand
use Rattle.prv_parse.specs.Reader.{expect, is_close_brace, ReadStmt, stmt_with, ReadItems, items_with, item_then}
use Rattle.prv_parse.specs.Places.{mark_at}
use Rattle.prv_parse.specs.declared.tree.Mark.{Mark}
use Rattle.prv_parse.specs.declared.tree.StmtTree.{StmtTree}
use Rattle.prv_parse.specs.declared.tree.StmtTree.TheVariants as stmt
use Rattle.prv_parse.specs.Nonterminals.{Nonterminal, Operand, Parenthesized, Choice, Statement, Block, Value}
use Rattle.prv_parse.specs.Terminals.{close_brace}
use Rattle.prv_parse.specs.Grammar.{table, declaration, item, block}
use Rattle.prv_parse.proofs.Shapes.{shape, shape-bind}
use Rattle.prv_parse.proofs.Declarations.{declaration-step}
use Rattle.prv_parse.proofs.Branches.{as_stmt, as_items, Agrees, mark-step, stmt-step, statement-same}

pub hand-done : {X : Type 0} (o : hand.Out X) → hand.bind o (λ x r. hand.Done x r) ≡ o
hand-done (hand.Done x r) = refl
hand-done (hand.Bad r) = refl
hand-done (hand.Deep r) = refl
hand-done (hand.Many r) = refl

-- what stands inside constructs, holes or none
abbrev pub none : Nonterminal → Bool
none k = false

pub inside-span : (room : ℕ) (k : Nonterminal) (n : ℕ) (ts : List Token) → Spans false (none k) n ts (readers table room k n ts)
inside-span room k n ts = readers-span table none (λ k e. absurd (true≢false (sym e))) room k n ts

-- at the end of the tokens there is no statement
no-statement : (room : ℕ) → (hand.statements room).here [] ≡ hand.Bad []
no-statement zero = refl
no-statement (suc room) = refl

-- a marked statement or declaration
abbrev filled : Token → Attributes ℕ → Attributes StmtTree → Attributes StmtTree
filled at u w = attributes (stmt.Marked (mark_at u.value at.place) w.value) w.before (hole u.value at.place ∷ [])

module _ (room : ℕ) (inner : Agrees room) where
  abbrev p : (k : Nonterminal) → Reader (Value k)
  p = readers table room

  abbrev here : hand.Statement
  here = (hand.statements (suc room)).here

  abbrev deeper : hand.Statement
  deeper = (hand.statements room).here

  -- what a mark stands before
  abbrev marked_behind : Token → Attributes ℕ → List Token → Out StmtTree
  marked_behind at u r =
      pick_out (head_is (first declaration) r) (follow p declaration u.before r (λ w s. Done (filled at u w) s)) (bind (p Statement u.before r) (λ w s. Done (filled at u w) s))

  marked-at : (at : Token) (u : Attributes ℕ) (k : Tok) (place : ℕ) (rest : List Token) → shape as_stmt (marked_behind at u (record { tok = k; place = place } ∷ rest)) ≡ hand.marked_item (suc room) deeper (mark_at u.value at.place) (record { tok = k; place = place } ∷ rest)
  marked-at at u (tok.Key key.Int) place rest = declaration-step room as_stmt u.before place rest (λ w s. Done (filled at u w) s) _ (λ s r. refl)
  marked-at at u k place rest = stmt-step room inner as_stmt u.before (record { tok = k; place = place } ∷ rest) _ _ (λ a s. refl)

  marked-same : (at : Token) (u : Attributes ℕ) (ts : List Token) → shape as_stmt (marked_behind at u ts) ≡ hand.marked_item (suc room) deeper (mark_at u.value at.place) ts
  marked-same at u [] = stmt-step room inner as_stmt u.before [] _ (λ s r. hand.Done (stmt_with (stmt.Marked (mark_at u.value at.place) s.tree) (hole u.value at.place ∷ [])) r) (λ a s. refl)
      ∙ ap (λ o. hand.bind o (λ s r. hand.Done (stmt_with (stmt.Marked (mark_at u.value at.place) s.tree) (hole u.value at.place ∷ [])) r)) (no-statement room)
  marked-same at u (t ∷ rest) = marked-at at u t.tok t.place rest

  -- an item, by its first token
  item-at : (k : Tok) (place n : ℕ) (rest : List Token) → shape as_stmt (read_with p item n (record { tok = k; place = place } ∷ rest)) ≡ hand.item_at k (suc room) here deeper (record { tok = k; place = place }) rest
  item-at (tok.Key key.Int) place n rest =
      let t : Token = record { tok = tok.Key key.Int; place = place } in
      ap (shape as_stmt) (read-flat p item n (t ∷ rest)) ∙ declaration-step room as_stmt n place rest (λ u r. Done u r) (λ s r. hand.Done s r) (λ s r. refl) ∙ hand-done (hand.declaration (suc room) t rest)
  item-at (tok.Sym sy.At) place n rest =
      let t : Token = record { tok = tok.Sym sy.At; place = place } in
      ap (shape as_stmt) (read-flat p item n (t ∷ rest)) ∙ mark-step t as_stmt n rest (λ u r. marked_behind t u r) _ (λ u r. marked-same t u r)
  item-at k place n rest = statement-same room inner n (record { tok = k; place = place } ∷ rest)

  item-same : (t : Token) (n : ℕ) (rest : List Token) → shape as_stmt (read_with p item n (t ∷ rest)) ≡ hand.item_at t.tok (suc room) here deeper t rest
  item-same t n rest = item-at t.tok t.place n rest

  -- the brace behind the items of a block
  abbrev closed : On (List StmtTree) (List StmtTree)
  closed u r = bind (read_with p close_brace u.before r) (λ c s. Done (joined (λ v w. v) u c) s)

  abbrev hand_closed : ReadItems → List Token → hand.Out ReadItems
  hand_closed all r = hand.bind (expect is_close_brace r) (λ c s. hand.Done (items_with all.trees (all.skeleton ++ c)) s)

  abbrev more : Attributes StmtTree → ReadItems → List Token → hand.Out ReadItems
  more u all r = hand.Done (items_with (u.value ∷ all.trees) (u.skeleton ++ all.skeleton)) r

  -- an item before the others, which the brace is behind
  closed-more : (u : Attributes StmtTree) (o : Out (List StmtTree)) → shape as_items (bind (bind o (λ w s. Done (joined (λ v vs. v ∷ vs) u w) s)) closed) ≡ hand.bind (shape as_items (bind o closed)) (more u)
  closed-more u (Stop Syntax r) = refl
  closed-more u (Stop Depth r) = refl
  closed-more u (Stop Operators r) = refl
  closed-more u (Done w s) = by (read_with p close_brace w.before s)
    where
      by : (c : Out (Unit {0})) → shape as_items (bind c (λ c v. Done (joined (λ x y. x) (joined (λ v vs. v ∷ vs) u w) c) v)) ≡ hand.bind (shape as_items (bind c (λ c v. Done (joined (λ x y. x) w c) v))) (more u)
      by (Done c v) = ap (λ l. hand.Done (items_with (u.value ∷ w.value) l) v) (append_assoc u.skeleton w.skeleton c.skeleton)
      by (Stop Syntax r) = refl
      by (Stop Depth r) = refl
      by (Stop Operators r) = refl

  more-closed : (u : Attributes StmtTree) (h : hand.Out ReadItems) → hand.bind (hand.bind h (more u)) hand_closed ≡ hand.bind (hand.bind h hand_closed) (more u)
  more-closed u (hand.Bad r) = refl
  more-closed u (hand.Deep r) = refl
  more-closed u (hand.Many r) = refl
  more-closed u (hand.Done all r) = by (expect is_close_brace r)
    where
      by : (c : hand.Out (List Skel)) → hand.bind c (λ c s. hand.Done (items_with (u.value ∷ all.trees) ((u.skeleton ++ all.skeleton) ++ c)) s) ≡ hand.bind (hand.bind c (λ c s. hand.Done (items_with all.trees (all.skeleton ++ c)) s)) (more u)
      by (hand.Done c s) = ap (λ l. hand.Done (items_with (u.value ∷ all.trees) l) s) (append_assoc u.skeleton all.skeleton c)
      by (hand.Bad s) = refl
      by (hand.Deep s) = refl
      by (hand.Many s) = refl

  abbrev loop : ℕ → Reader (List StmtTree)
  loop g = repetition (first item) (read_with p item) g

  abbrev hand_loop : ℕ → List Token → hand.Out ReadItems
  hand_loop f = hand.items (suc room) here deeper f

  -- an item goes over some token
  first-more : (f g n : ℕ) (t : Token) (rest : List Token) → length rest ≤ f → length rest ≤ g → ((n : ℕ) (ts : List Token) → length ts ≤ f → length ts ≤ g → shape as_items (bind (loop g n ts) closed) ≡ hand.bind (hand_loop f ts) hand_closed)
      → shape as_items (bind (sequence (λ v vs. v ∷ vs) (read_with p item) (loop g) n (t ∷ rest)) closed) ≡ hand.bind (item_then (hand.item_at t.tok (suc room) here deeper t rest) (hand_loop f)) hand_closed
  first-more f g n t rest l m ih = by (read_with p item n (t ∷ rest)) (reads-span none p (inside-span room) item n (t ∷ rest)) ∙ ap (λ h. hand.bind (item_then h (hand_loop f)) hand_closed) (item-same t n rest)
    where
      by : (o : Out StmtTree) → Spans true (is_plain none item) n (t ∷ rest) o → shape as_items (bind (bind o (λ u r. bind (loop g u.before r) (λ w s. Done (joined (λ v vs. v ∷ vs) u w) s))) closed) ≡ hand.bind (item_then (shape as_stmt o) (hand_loop f)) hand_closed
      by (Stop Syntax r) x = refl
      by (Stop Depth r) x = refl
      by (Stop Operators r) x = refl
      by (Done u r) x =
          let short : length r < length (t ∷ rest) = x.strict refl in
          closed-more u (loop g u.before r) ∙ ap (λ o. hand.bind o (more u)) (ih u.before r (omega arith) (omega arith)) ∙ sym (more-closed u (hand_loop f r))

  items-same : (f g n : ℕ) (ts : List Token) → length ts ≤ f → length ts ≤ g → shape as_items (bind (loop g n ts) closed) ≡ hand.bind (hand_loop f ts) hand_closed
  items-same zero zero n [] l m = refl
  items-same zero (suc g) n [] l m = refl
  items-same zero g n (t ∷ rest) l m = absurd (omega arith)
  items-same (suc f) zero n [] l m = refl
  items-same (suc f) (suc g) n [] l m = refl
  items-same (suc f) zero n (t ∷ rest) l m = absurd (omega arith)
  items-same (suc f) (suc g) n (t ∷ rest) l m = at t.tok t.place (first-more f g n t rest (omega arith) (omega arith) (items-same f g))
    where
      at : (k : Tok) (place : ℕ) → (shape as_items (bind (sequence (λ v vs. v ∷ vs) (read_with p item) (loop g) n (record { tok = k; place = place } ∷ rest)) closed) ≡ hand.bind (item_then (hand.item_at k (suc room) here deeper (record { tok = k; place = place }) rest) (hand_loop f)) hand_closed)
          → shape as_items (bind (loop (suc g) n (record { tok = k; place = place } ∷ rest)) closed) ≡ hand.bind (hand_loop (suc f) (record { tok = k; place = place } ∷ rest)) hand_closed
      at (tok.Name x) place e = e
      at (tok.Key key.Int) place e = e
      at (tok.Key key.If) place e = e
      at (tok.Key key.While) place e = e
      at (tok.Key key.Return) place e = e
      at (tok.Key key.Out) place e = e
      at (tok.Key key.Assert) place e = e
      at (tok.Sym sy.Semicolon) place e = e
      at (tok.Sym sy.OpenBrace) place e = e
      at (tok.Sym sy.At) place e = e
      at _ place e = refl

  pub block-same : (n : ℕ) (ts : List Token) → shape as_items (read_with p block n ts) ≡ hand.block (suc room) here deeper ts
  block-same n ts = items-same (length ts) (length ts) n ts (omega arith) (omega arith)

-- inside as many constructs as may be open
pub agrees : (room : ℕ) → Agrees room
agrees zero = record { statements = λ n ts. none n ts; blocks = λ n ts. in_none n ts }
  where
    none : (n : ℕ) (ts : List Token) → shape as_stmt (readers table zero Statement n ts) ≡ (hand.statements zero).here ts
    none n [] = refl
    none n (t ∷ ts) = refl

    in_none : (n : ℕ) (ts : List Token) → shape as_items (readers table zero Block n ts) ≡ hand.block zero (hand.statements zero).here (hand.statements zero).deeper ts
    in_none n [] = refl
    in_none n (t ∷ ts) = refl
agrees (suc room) = let inner : Agrees room = agrees room in record { statements = statement-same room inner; blocks = block-same room inner }
