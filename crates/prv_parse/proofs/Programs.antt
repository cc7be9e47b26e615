-- The reader of programs by hand is the table's.
use Rattle.std.proofs.Common.{◌≡◌, ℕ, zero, suc, ◌+◌, ◌<◌, ◌≤◌, Bool, true, false, List, [], ◌∷◌, ◌++◌, length, refl, sym, ap, subst, ◌∙◌, arith, append_assoc, append-nil}
use Rattle.prv_lex.specs.declared.token.Token.{Token}
use Rattle.prv_lex.specs.declared.token.Tok.{Tok}
use Rattle.prv_lex.specs.declared.token.Tok.TheVariants as tok
use Rattle.prv_lex.specs.declared.token.Sym.TheVariants as sy
use Rattle.prv_rule.specs.declared.skeleton.Skel.{Skel}
use Rattle.prv_rule.specs.Skeletons.{kept}
use Rattle.prv_rule.specs.Rules.{Attributes, attributes, joined, first, Out, Done, Stop, Syntax, Depth, Operators, Reader, bind, terminal, repetition, read_with, readers, at_end, whole}
use Rattle.prv_rule.specs.Combinators.{preceded, separated}
use Rattle.prv_rule.proofs.Follow.{On, follow, follows, read-flat, bind-bind}
use Rattle.prv_rule.proofs.Spans.{Spans, is_plain, reads-span}
use Rattle.prv_parse.specs.Reader as hand
use Rattle.prv_parse.specs.Reader.{expect, is_int, is_main, is_open_paren, is_close_paren, is_open_brace, is_comma, Named, ReadItems, ReadParams, params_with, ReadProgram}
use Rattle.prv_parse.specs.declared.tree.Ident.{Ident}
use Rattle.prv_parse.specs.declared.tree.StmtTree.{StmtTree}
use Rattle.prv_parse.specs.Nonterminals.{Nonterminal, Block, Value}
use Rattle.prv_parse.specs.Terminals.{fixed_of, comma}
use Rattle.prv_parse.specs.Grammar.{table, parameter, program}
use Rattle.prv_parse.proofs.Shapes.{unit, shape, shape-bind, fixed-step, plain-int, plain-main, plain-open_paren, plain-close_paren, plain-open_brace, hand-bind}
use Rattle.prv_parse.proofs.Parts.{name-step}
use Rattle.prv_parse.proofs.Branches.{Agrees, as_items}
use Rattle.prv_parse.proofs.Items.{hand-done, none, inside-span, agrees}

abbrev as_named : Attributes Ident → Named
as_named u = record { name = u.value; skeleton = u.skeleton }

abbrev as_params : Attributes (List Ident) → ReadParams
as_params u = params_with u.value u.skeleton

abbrev pub as_program : Attributes (List Ident × List StmtTree) → ReadProgram
as_program u = record { params = u.value.0; body = u.value.1; skeleton = u.skeleton }

abbrev comma_at : ℕ → Token
comma_at place = record { tok = tok.Sym sy.Comma; place = place }

-- skeletons in a row
regroup : {A : Type 0} (i m o n c b a : List A) → (((((i ++ m) ++ o) ++ n) ++ c) ++ b) ++ a ≡ i ++ (m ++ (o ++ (n ++ (c ++ (b ++ a)))))
regroup i m o n c b a = simp append_assoc

module _ (room : ℕ) where
  abbrev p : (k : Nonterminal) → Reader (Value k)
  p = readers table room

  -- a parameter
  parameter-same : (n : ℕ) (ts : List Token) → shape as_named (read_with p parameter n ts) ≡ hand.param ts
  parameter-same n ts = ap (shape as_named) (read-flat p parameter n ts) ∙ fixed-step as_named is_int plain-int n ts _ _ (λ i r. name-step as_named n r _ _ (λ x s. refl))

  parameter-span : (n : ℕ) (ts : List Token) → Spans true (is_plain none parameter) n ts (read_with p parameter n ts)
  parameter-span n ts = reads-span none p (inside-span room) parameter n ts

  abbrev loop : ℕ → Reader (List Ident)
  loop g = repetition (first (preceded comma parameter)) (read_with p (preceded comma parameter)) g

  abbrev more : Attributes Ident → Token → ReadParams → List Token → hand.Out ReadParams
  more u t all r = hand.Done (params_with (u.value ∷ all.names) (u.skeleton ++ kept t ∷ all.skeleton)) r

  -- what follows a parameter
  behind-same : {B Y : Type 0} (f g : ℕ) (u : Attributes Ident) (n : ℕ) (ts : List Token) (G : Attributes B → Y) (K : On (List Ident) B) (k : ReadParams → List Token → hand.Out Y) → length ts ≤ f → length ts ≤ g
      → ((all : ReadParams) (m : ℕ) (r : List Token) → shape G (K (attributes all.names m all.skeleton) r) ≡ k all r)
      → shape G (bind (loop g n ts) (λ w s. K (joined (λ x xs. x ∷ xs) u w) s)) ≡ hand.bind (hand.params_behind (as_named u) (hand.params f) ts) k
  behind-same f zero u n [] G K k l m h = ap (λ s. shape G (K (attributes (u.value ∷ []) n s) [])) (append-nil u.skeleton) ∙ h (params_with (u.value ∷ []) u.skeleton) n []
  behind-same f (suc g) u n [] G K k l m h = ap (λ s. shape G (K (attributes (u.value ∷ []) n s) [])) (append-nil u.skeleton) ∙ h (params_with (u.value ∷ []) u.skeleton) n []
  behind-same f zero u n (t ∷ rest) G K k l m h = absurd (omega arith)
  behind-same zero (suc g) u n (t ∷ rest) G K k l m h = absurd (omega arith)
  behind-same {B = B} {Y = Y} (suc f) (suc g) u n (t ∷ rest) G K k l m h = at t.tok t.place (behind-same f g)
    where
      at : (token : Tok) (place : ℕ) → ((u : Attributes Ident) (n : ℕ) (ts : List Token) (G : Attributes B → Y) (K : On (List Ident) B) (k : ReadParams → List Token → hand.Out Y) → length ts ≤ f → length ts ≤ g
          → ((all : ReadParams) (m : ℕ) (r : List Token) → shape G (K (attributes all.names m all.skeleton) r) ≡ k all r)
          → shape G (bind (loop g n ts) (λ w s. K (joined (λ x xs. x ∷ xs) u w) s)) ≡ hand.bind (hand.params_behind (as_named u) (hand.params f) ts) k)
          → shape G (bind (loop (suc g) n (record { tok = token; place = place } ∷ rest)) (λ w s. K (joined (λ x xs. x ∷ xs) u w) s)) ≡ hand.bind (hand.params_behind (as_named u) (hand.params (suc f)) (record { tok = token; place = place } ∷ rest)) k
      at (tok.Sym sy.Comma) place ih =
          by (read_with p parameter n rest) (parameter-span n rest) ∙ ap (λ o. hand.bind (hand.bind (hand.bind o (λ x r. hand.params_behind x (hand.params f) r)) (more u (comma_at place))) k) (parameter-same n rest)
        where
          by : (o : Out Ident) → Spans true (is_plain none parameter) n rest o
              → shape G (bind (bind (bind o (λ w s. Done (joined (λ (x : Unit {0}) (y : Ident). y) (attributes unit n (kept (comma_at place) ∷ [])) w) s)) (λ v r. bind (loop g v.before r) (λ w s. Done (joined (λ x xs. x ∷ xs) v w) s))) (λ w s. K (joined (λ x xs. x ∷ xs) u w) s))
              ≡ hand.bind (hand.bind (hand.bind (shape as_named o) (λ x r. hand.params_behind x (hand.params f) r)) (more u (comma_at place))) k
          by (Stop Syntax r) x = refl
          by (Stop Depth r) x = refl
          by (Stop Operators r) x = refl
          by (Done w s) x =
              let short : length s < length rest = x.strict refl in
              let one : Attributes Ident = attributes w.value w.before (kept (comma_at place) ∷ w.skeleton) in
              let K' : On (List Ident) B = λ v z. K (joined (λ x xs. x ∷ xs) u (attributes v.value v.before (kept (comma_at place) ∷ v.skeleton))) z in
              ap (shape G) (bind-bind (loop g w.before s) (λ v z. Done (joined (λ x xs. x ∷ xs) one v) z) (λ v z. K (joined (λ x xs. x ∷ xs) u v) z))
              ∙ ih w w.before s G K' (λ all r. k (params_with (u.value ∷ all.names) (u.skeleton ++ kept (comma_at place) ∷ all.skeleton)) r) (omega arith) (omega arith) (λ all m r. h (params_with (u.value ∷ all.names) (u.skeleton ++ kept (comma_at place) ∷ all.skeleton)) m r)
              ∙ sym (hand-bind (hand.params_behind (as_named w) (hand.params f) s) (more u (comma_at place)) k)
      at token place ih = ap (λ s. shape G (K (attributes (u.value ∷ []) n s) (record { tok = token; place = place } ∷ rest))) (append-nil u.skeleton) ∙ h (params_with (u.value ∷ []) u.skeleton) n (record { tok = token; place = place } ∷ rest)

  -- parameters
  params-same : (f n : ℕ) (ts : List Token) → length ts ≤ f → shape as_params (read_with p (separated parameter comma) n ts) ≡ hand.params f ts
  params-same zero n [] l = refl
  params-same zero n (t ∷ rest) l = absurd (omega arith)
  params-same (suc f) n ts l =
      shape-bind as_named as_params (read_with p parameter n ts) (hand.param ts) (λ u r. bind (loop (length r) u.before r) (λ w s. Done (joined (λ x xs. x ∷ xs) u w) s)) (λ x r. hand.params_behind x (hand.params f) r) (parameter-same n ts)
      (λ u r i. let span : Spans true (is_plain none parameter) n ts (Done u r) = subst (Spans true (is_plain none parameter) n ts) i (parameter-span n ts) in let short : length r < length ts = span.strict refl in
      behind-same f (length r) u u.before r as_params (λ v s. Done v s) (λ x s. hand.Done x s) (omega arith) (omega arith) (λ all m s. refl) ∙ hand-done (hand.params_behind (as_named u) (hand.params f) r))

  params-step : {B Y : Type 0} (G : Attributes B → Y) (n : ℕ) (ts : List Token) (K : On (List Ident) B) (k : ReadParams → List Token → hand.Out Y) → ((u : Attributes (List Ident)) (r : List Token) → shape G (K u r) ≡ k (as_params u) r)
      → shape G (follow p (separated parameter comma) n ts K) ≡ hand.bind (hand.params (length ts) ts) k
  params-step G n ts K k h =
      ap (shape G) (follows p (separated parameter comma) n ts K)
      ∙ shape-bind as_params G (read_with p (separated parameter comma) n ts) (hand.params (length ts) ts) K k (params-same (length ts) n ts (omega arith)) (λ u r i. h u r)

  block-step : {B Y : Type 0} (G : Attributes B → Y) (n : ℕ) (ts : List Token) (K : On (List StmtTree) B) (k : ReadItems → List Token → hand.Out Y) → ((u : Attributes (List StmtTree)) (r : List Token) → shape G (K u r) ≡ k (as_items u) r)
      → shape G (bind (p Block n ts) K) ≡ hand.bind (hand.block room (hand.statements room).here (hand.statements room).deeper ts) k
  block-step G n ts K k h = shape-bind as_items G (p Block n ts) (hand.block room (hand.statements room).here (hand.statements room).deeper ts) K k ((agrees room).blocks n ts) (λ u r i. h u r)

  -- the end of a program
  last : (i m o c b : List Skel) (names : Attributes (List Ident)) (all : Attributes (List StmtTree)) (ts : List Token)
      → shape as_program (at_end (attributes (names.value, all.value) all.before (i ++ (m ++ (o ++ (names.skeleton ++ (c ++ (b ++ all.skeleton))))))) ts)
      ≡ hand.at_end (record { params = names.value; body = all.value; skeleton = i ++ m ++ o ++ names.skeleton ++ c ++ b ++ all.skeleton }) ts
  last i m o c b names all [] = ap (λ l. hand.Done (record { params = names.value; body = all.value; skeleton = l }) []) (sym (regroup i m o names.skeleton c b all.skeleton))
  last i m o c b names all (t ∷ ts) = refl

  program-in : (ts : List Token) → shape as_program (bind (read_with p program 0 ts) (λ u rest. at_end u rest)) ≡ hand.bind (expect is_int ts) (λ i r. hand.bind (expect is_main r) (λ m s. hand.bind (expect is_open_paren s) (λ o u.
      hand.bind (hand.params (length u) u) (λ names v. hand.bind (expect is_close_paren v) (λ c w. hand.bind (expect is_open_brace w) (λ b x.
      hand.bind (hand.block room (hand.statements room).here (hand.statements room).deeper x) (λ all y.
      hand.at_end (record { params = names.names; body = all.trees; skeleton = i ++ m ++ o ++ names.skeleton ++ c ++ b ++ all.skeleton }) y)))))))
  program-in ts =
      ap (shape as_program) (sym (follows p program 0 ts (λ u rest. at_end u rest)))
      ∙ fixed-step as_program is_int plain-int 0 ts _ _ (λ i r. fixed-step as_program is_main plain-main 0 r _ _ (λ m s. fixed-step as_program is_open_paren plain-open_paren 0 s _ _ (λ o u.
      params-step as_program 0 u (behind i m o) _ (λ names v. fixed-step as_program is_close_paren plain-close_paren names.before v _ _ (λ c w. fixed-step as_program is_open_brace plain-open_brace names.before w _ _ (λ b x.
      block-step as_program names.before x _ _ (λ all y. last i m o c b names all y)))))))
    where
      behind : List Skel → List Skel → List Skel → On (List Ident) (List Ident × List StmtTree)
      behind i m o names v = bind (terminal (fixed_of is_close_paren) names.before v) (λ c w. bind (terminal (fixed_of is_open_brace) c.before w) (λ b x. bind (p Block b.before x) (λ all y.
          at_end (attributes (names.value, all.value) all.before (i ++ (m ++ (o ++ (names.skeleton ++ (c.skeleton ++ (b.skeleton ++ all.skeleton))))))) y)))

-- a whole file
pub program-same : (ts : List Token) → shape as_program (whole table program ts) ≡ hand.program ts
program-same ts = program-in 100 ts
