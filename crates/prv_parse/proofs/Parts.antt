-- The readers by hand of what statements are made of are the table's: full expressions, tests, values, marks and declarations.
use Rattle.std.proofs.Common.{◌≡◌, ℕ, zero, suc, ◌+◌, ◌-◌, nat_le, Bool, true, false, ◌&&◌, List, [], ◌∷◌, ◌++◌, length, take, Option, Some, None, refl, sym, ap, subst, ◌∙◌, arith, append_assoc, append-nil, length-append, pos, if◌then◌else◌}
use Rattle.std.proofs.Math.Seq.{take-append_seam}
use Rattle.prv_lex.specs.declared.token.Token.{Token}
use Rattle.prv_lex.specs.declared.token.Tok.{Tok}
use Rattle.prv_lex.specs.declared.token.Tok.TheVariants as tok
use Rattle.prv_lex.specs.declared.token.Key.TheVariants as key
use Rattle.prv_lex.specs.declared.token.Sym.TheVariants as sy
use Rattle.prv_rule.specs.declared.skeleton.Skel.{Skel}
use Rattle.prv_rule.specs.Skeletons.{kept, plain}
use Rattle.prv_rule.specs.Rules.{Full, Attributes, attributes, joined, full, Out, Done, Stop, Syntax, Depth, Operators, Reader, bind, terminal, valued, read_with, readers}
use Rattle.prv_rule.proofs.Follow.{On, follow, bind-bind}
use Rattle.prv_rule.proofs.Spans.{IsPlain, Spans, reads-span}
use Rattle.prv_parse.specs.Reader as hand
use Rattle.prv_parse.specs.Reader.{expect, is_open_paren, is_close_paren, is_semicolon, is_assign, Part, Named, mark_number}
use Rattle.prv_parse.specs.Places.{mark_at}
use Rattle.prv_parse.specs.declared.tree.Ident.{Ident}
use Rattle.prv_parse.specs.declared.tree.ExprTree.{ExprTree}
use Rattle.prv_parse.specs.declared.tree.ExprTree.TheVariants as expr
use Rattle.prv_parse.specs.declared.tree.StmtTree.{StmtTree}
use Rattle.prv_parse.specs.declared.tree.StmtTree.TheVariants as stmt
use Rattle.prv_parse.specs.Nonterminals.{Nonterminal, Value}
use Rattle.prv_parse.specs.Terminals.{named_of, number_of}
use Rattle.prv_parse.specs.Grammar.{table, expression, test, ended, assigned}
use Rattle.prv_parse.proofs.Shapes.{unit, shape, shape-bind, shape-fixed, fixed-step, hand-bind, hand-same, hand-two, hand-three, plain-open_paren, plain-close_paren, plain-semicolon, plain-assign}
use Rattle.prv_parse.proofs.Expressions.{as_read, is_expression, spans, agrees, expression-same}

-- a skeleton with no hole is the tokens that were read
read-plain : (ts rest : List Token) (s : List Skel) → IsPlain ts s rest → s ≡ plain (hand.read ts rest)
read-plain ts rest s is =
    let count : length ts - length rest ≡ length is.front = let l : length ts ≡ length is.front + length rest = ap length is.tokens_are ∙ length-append is.front rest in omega arith in
    let front : hand.read ts rest ≡ is.front = ap (λ n. take n ts) count ∙ ap (λ l. take (length is.front) l) is.tokens_are ∙ take-append_seam is.front rest in
    is.skeleton_is ∙ ap (λ l. plain l) (sym front)

module _ (room : ℕ) where
  abbrev p : (k : Nonterminal) → Reader (Value k)
  p = readers table room

  skeleton-is : (ts : List Token) (u : Attributes ExprTree) (r : List Token) → read_with p expression 0 ts ≡ Done u r → u.skeleton ≡ plain (hand.read ts r)
  skeleton-is ts u r e = let s : Spans true true 0 ts (Done u r) = subst (Spans true true 0 ts) e (reads-span is_expression p (spans room) expression 0 ts) in read-plain ts r u.skeleton (s.tokens refl)

  -- a full expression
  pub full-same : {B Y : Type 0} (G : Attributes B → Y) (n : ℕ) (ts : List Token) (K : On ExprTree B) → shape G (bind (read_with p (Full expression) n ts) K) ≡ hand.bind (hand.full (suc room) ts) (λ e r. shape G (K (attributes e.tree n e.skeleton) r))
  full-same G n ts K =
      ap (shape G) (bind-bind (read_with p expression 0 ts) (λ u r. Done (full n u) r) K)
      ∙ shape-bind as_read G (read_with p expression 0 ts) ((hand.readers (suc room)).expression 0 ts) (λ u r. K (full n u) r) (λ x r. shape G (K (attributes x.tree n (plain (hand.read ts r))) r))
      (expression-same room (agrees room) 0 ts) (λ u r e. ap (λ s. shape G (K (attributes u.value n s) r)) (skeleton-is ts u r e))
      ∙ sym (hand-bind ((hand.readers (suc room)).expression 0 ts) (λ e rest. hand.Done (record { tree = e.tree; skeleton = plain (hand.read ts rest) }) rest) (λ e r. shape G (K (attributes e.tree n e.skeleton) r)))

  pub full-step : {B Y : Type 0} (G : Attributes B → Y) (n : ℕ) (ts : List Token) (K : On ExprTree B) (k : Part → List Token → hand.Out Y) → ((e : Part) (r : List Token) → shape G (K (attributes e.tree n e.skeleton) r) ≡ k e r)
      → shape G (bind (read_with p (Full expression) n ts) K) ≡ hand.bind (hand.full (suc room) ts) k
  full-step G n ts K k h = full-same G n ts K ∙ hand-same (hand.full (suc room) ts) (λ e r. shape G (K (attributes e.tree n e.skeleton) r)) k h

  -- an expression up to its `;`
  pub ended-step : {B Y : Type 0} (G : Attributes B → Y) (n : ℕ) (ts : List Token) (K : On ExprTree B) (k : Part → List Token → hand.Out Y) → ((e : Part) (r : List Token) → shape G (K (attributes e.tree n e.skeleton) r) ≡ k e r)
      → shape G (follow p ended n ts K) ≡ hand.bind (hand.ended (suc room) ts) k
  ended-step G n ts K k h =
      full-step G n ts _ _ (λ e r. fixed-step G is_semicolon plain-semicolon n r _ _ (λ c s. h (record { tree = e.tree; skeleton = e.skeleton ++ c }) s))
      ∙ sym (hand-two (hand.full (suc room) ts) (λ e r. expect is_semicolon r) (λ e c. record { tree = e.tree; skeleton = e.skeleton ++ c }) k)

  -- an expression behind `=`, up to its `;`
  pub assigned-step : {B Y : Type 0} (G : Attributes B → Y) (n : ℕ) (ts : List Token) (K : On ExprTree B) (k : Part → List Token → hand.Out Y) → ((e : Part) (r : List Token) → shape G (K (attributes e.tree n e.skeleton) r) ≡ k e r)
      → shape G (follow p assigned n ts K) ≡ hand.bind (hand.assigned (suc room) ts) k
  assigned-step G n ts K k h =
      fixed-step G is_assign plain-assign n ts _ _ (λ a r. ended-step G n r (λ e s. K (attributes e.value e.before (a ++ e.skeleton)) s) _ (λ e s. h (record { tree = e.tree; skeleton = a ++ e.skeleton }) s))
      ∙ sym (hand-two (expect is_assign ts) (λ a r. hand.ended (suc room) r) (λ a e. record { tree = e.tree; skeleton = a ++ e.skeleton }) k)

  -- an expression in parentheses
  pub test-step : {B Y : Type 0} (G : Attributes B → Y) (n : ℕ) (ts : List Token) (K : On ExprTree B) (k : Part → List Token → hand.Out Y) → ((e : Part) (r : List Token) → shape G (K (attributes e.tree n e.skeleton) r) ≡ k e r)
      → shape G (follow p test n ts K) ≡ hand.bind (hand.test (suc room) ts) k
  test-step G n ts K k h =
      fixed-step G is_open_paren plain-open_paren n ts _ _ (λ o r. full-step G n r _ _ (λ e s. fixed-step G is_close_paren plain-close_paren n s _ _ (λ c u.
      ap (λ l. shape G (K (attributes e.tree n l) u)) (sym (append_assoc o e.skeleton c)) ∙ h (record { tree = e.tree; skeleton = o ++ e.skeleton ++ c }) u)))
      ∙ sym (hand-three (expect is_open_paren ts) (λ o r. hand.full (suc room) r) (λ o e s. expect is_close_paren s) (λ o e c. record { tree = e.tree; skeleton = o ++ e.skeleton ++ c }) k)

-- a name
name-at : {B Y : Type 0} (G : Attributes B → Y) (n : ℕ) (k : Tok) (place : ℕ) (rest : List Token) (K : On Ident B)
    → shape G (bind (terminal named_of n (record { tok = k; place = place } ∷ rest)) K) ≡ hand.bind (hand.name_at k (record { tok = k; place = place }) rest) (λ x r. shape G (K (attributes x.name n x.skeleton) r))
name-at G n (tok.Name x) place rest K = refl
name-at G n (tok.Num x) place rest K = refl
name-at G n (tok.Key x) place rest K = refl
name-at G n (tok.Sym x) place rest K = refl

name-same : {B Y : Type 0} (G : Attributes B → Y) (n : ℕ) (ts : List Token) (K : On Ident B) → shape G (bind (terminal named_of n ts) K) ≡ hand.bind (hand.name ts) (λ x r. shape G (K (attributes x.name n x.skeleton) r))
name-same G n [] K = refl
name-same G n (t ∷ rest) K = name-at G n t.tok t.place rest K

pub name-step : {B Y : Type 0} (G : Attributes B → Y) (n : ℕ) (ts : List Token) (K : On Ident B) (k : Named → List Token → hand.Out Y) → ((x : Named) (r : List Token) → shape G (K (attributes x.name n x.skeleton) r) ≡ k x r)
    → shape G (bind (terminal named_of n ts) K) ≡ hand.bind (hand.name ts) k
name-step G n ts K k h = name-same G n ts K ∙ hand-same (hand.name ts) (λ x r. shape G (K (attributes x.name n x.skeleton) r)) k h

-- the number of a mark
number-at : (at : Token) (n : ℕ) (k : Tok) (place : ℕ) (rest : List Token)
    → shape (λ w. mark_at w.value at.place) (terminal number_of n (record { tok = k; place = place } ∷ rest)) ≡ hand.mark_of (mark_number k) at (record { tok = k; place = place }) rest
number-at at n (tok.Num (pos m)) place rest = by (nat_le 1 m && nat_le m 255)
  where
    by : (b : Bool) → shape (λ w. mark_at w.value at.place) (valued (if b then Some m else None) n (record { tok = tok.Num (pos m); place = place }) rest) ≡ hand.mark_of (if b then Some m else None) at (record { tok = tok.Num (pos m); place = place }) rest
    by true = refl
    by false = refl
number-at at n _ place rest = refl

pub mark-same : (at : Token) (n : ℕ) (ts : List Token) → shape (λ w. mark_at w.value at.place) (terminal number_of n ts) ≡ hand.mark_behind at ts
mark-same at n [] = refl
mark-same at n (t ∷ rest) = number-at at n t.tok t.place rest
