-- Outcomes of the table's readers in the words of the readers by hand, and how steps of both go together.
use Rattle.std.proofs.Common.{◌≡◌, ℕ, suc, nat_le, Bool, true, false, ◌&&◌, List, [], ◌∷◌, ◌++◌, refl, sym, ap, ◌∙◌, true≢false}
use Rattle.std.specs.Prelude.{if◌then◌else◌}
use Rattle.prv_lex.specs.declared.token.Token.{Token}
use Rattle.prv_lex.specs.declared.token.Tok.{Tok}
use Rattle.prv_lex.specs.declared.token.Tok.TheVariants as tok
use Rattle.prv_lex.specs.declared.token.Key.TheVariants as key
use Rattle.prv_lex.specs.declared.token.Sym.TheVariants as sy
use Rattle.prv_rule.specs.Operators.{is_operator}
use Rattle.prv_rule.specs.Texts.{more_by}
use Rattle.prv_rule.specs.Skeletons.{kept}
use Rattle.prv_rule.specs.declared.skeleton.Skel.{Skel}
use Rattle.prv_rule.specs.Rules.{Attributes, attributes, Out, Done, Stop, Syntax, Depth, Operators, bind, terminal, spent, valued}
use Rattle.prv_rule.proofs.Follow.{On}
use Rattle.prv_parse.specs.Reader as hand
use Rattle.prv_parse.specs.Reader.{expect, wanted, is_open_paren, is_close_paren, is_open_brace, is_close_brace, is_semicolon, is_comma, is_assign, is_colon, is_int, is_main, is_else}
use Rattle.prv_parse.specs.Terminals.{unit_if, fixed_of}

-- what a fixed token gives
abbrev pub unit : Unit {0}
unit = tt

-- an outcome in the words of the readers by hand
abbrev pub shape : {A X : Type 0} → (Attributes A → X) → Out A → hand.Out X
shape F (Done u r) = hand.Done (F u) r
shape F (Stop Syntax r) = hand.Bad r
shape F (Stop Depth r) = hand.Deep r
shape F (Stop Operators r) = hand.Many r

-- one reader behind another, where the first ones agree
pub shape-bind : {A B X Y : Type 0} (F : Attributes A → X) (G : Attributes B → Y) (o : Out A) (h : hand.Out X) (K : On A B) (k : X → List Token → hand.Out Y) → shape F o ≡ h → ((u : Attributes A) (r : List Token) → o ≡ Done u r → shape G (K u r) ≡ k (F u) r) → shape G (bind o K) ≡ hand.bind h k
shape-bind F G o h K k e g = by o refl g ∙ ap (λ h. hand.bind h k) e
  where
    by : (x : Out _) → o ≡ x → ((u : Attributes _) (r : List Token) → o ≡ Done u r → shape G (K u r) ≡ k (F u) r) → shape G (bind x K) ≡ hand.bind (shape F x) k
    by (Done u r) i g = g u r i
    by (Stop Syntax r) i g = refl
    by (Stop Depth r) i g = refl
    by (Stop Operators r) i g = refl

-- with other attributes
pub shape-map : {A B X : Type 0} (G : Attributes B → X) (H : Attributes A → Attributes B) (o : Out A) → shape G (bind o (λ u r. Done (H u) r)) ≡ shape (λ u. G (H u)) o
shape-map G H (Done u r) = refl
shape-map G H (Stop Syntax r) = refl
shape-map G H (Stop Depth r) = refl
shape-map G H (Stop Operators r) = refl

-- an operator
pub shape-operator : {A B Y : Type 0} (G : Attributes B → Y) (v : A) (n : ℕ) (t : Token) (ts : List Token) (K : On A B) (k : ℕ → List Token → hand.Out Y) → is_operator t.tok ≡ true → shape G (K (attributes v (suc n) (kept t ∷ [])) ts) ≡ k (suc n) ts
    → shape G (bind (spent (is_operator t.tok && nat_le 256 n) v n t ts) K) ≡ hand.operator n t ts k
shape-operator G v n t ts K k o e = ap (λ b. shape G (bind (spent (b && nat_le 256 n) v n t ts) K)) o ∙ by (nat_le 256 n)
  where
    by : (b : Bool) → shape G (bind (spent b v n t ts) K) ≡ (if b then hand.Many (t ∷ ts) else k (suc n) ts)
    by true = refl
    by false = ap (λ b. shape G (K (attributes v (more_by b n) (kept t ∷ [])) ts)) o ∙ e

spent-plain : {A : Type 0} (v : A) (n : ℕ) (t : Token) (ts : List Token) → is_operator t.tok ≡ false → spent (is_operator t.tok && nat_le 256 n) v n t ts ≡ Done (attributes v n (kept t ∷ [])) ts
spent-plain v n t ts h = ap (λ b. spent (b && nat_le 256 n) v n t ts) h ∙ ap (λ b. Done (attributes v (more_by b n) (kept t ∷ [])) ts) h

-- a fixed token that is no operator
pub shape-fixed : {B Y : Type 0} (G : Attributes B → Y) (is : Tok → Bool) → ((k : Tok) → is k ≡ true → is_operator k ≡ false) → (n : ℕ) (ts : List Token) (K : On (Unit {0}) B) → shape G (bind (terminal (fixed_of is) n ts) K) ≡ hand.bind (expect is ts) (λ s r. shape G (K (attributes unit n s) r))
shape-fixed G is plain n [] K = refl
shape-fixed G is plain n (t ∷ ts) K = by (is t.tok) refl
  where
    by : (b : Bool) → is t.tok ≡ b → shape G (bind (valued (unit_if b) n t ts) K) ≡ hand.bind (wanted b t ts) (λ s r. shape G (K (attributes unit n s) r))
    by false e = refl
    by true e = ap (λ o. shape G (bind o K)) (spent-plain tt n t ts (plain t.tok e))

-- the fixed tokens are no operators
pub plain-open_paren : (k : Tok) → is_open_paren k ≡ true → is_operator k ≡ false
plain-open_paren (tok.Sym sy.OpenParen) e = refl
plain-open_paren _ e = absurd (true≢false (sym e))

pub plain-close_paren : (k : Tok) → is_close_paren k ≡ true → is_operator k ≡ false
plain-close_paren (tok.Sym sy.CloseParen) e = refl
plain-close_paren _ e = absurd (true≢false (sym e))

pub plain-open_brace : (k : Tok) → is_open_brace k ≡ true → is_operator k ≡ false
plain-open_brace (tok.Sym sy.OpenBrace) e = refl
plain-open_brace _ e = absurd (true≢false (sym e))

pub plain-close_brace : (k : Tok) → is_close_brace k ≡ true → is_operator k ≡ false
plain-close_brace (tok.Sym sy.CloseBrace) e = refl
plain-close_brace _ e = absurd (true≢false (sym e))

pub plain-semicolon : (k : Tok) → is_semicolon k ≡ true → is_operator k ≡ false
plain-semicolon (tok.Sym sy.Semicolon) e = refl
plain-semicolon _ e = absurd (true≢false (sym e))

pub plain-comma : (k : Tok) → is_comma k ≡ true → is_operator k ≡ false
plain-comma (tok.Sym sy.Comma) e = refl
plain-comma _ e = absurd (true≢false (sym e))

pub plain-assign : (k : Tok) → is_assign k ≡ true → is_operator k ≡ false
plain-assign (tok.Sym sy.Assign) e = refl
plain-assign _ e = absurd (true≢false (sym e))

pub plain-colon : (k : Tok) → is_colon k ≡ true → is_operator k ≡ false
plain-colon (tok.Sym sy.Colon) e = refl
plain-colon _ e = absurd (true≢false (sym e))

pub plain-int : (k : Tok) → is_int k ≡ true → is_operator k ≡ false
plain-int (tok.Key k) e = refl
plain-int _ e = absurd (true≢false (sym e))

pub plain-main : (k : Tok) → is_main k ≡ true → is_operator k ≡ false
plain-main (tok.Key k) e = refl
plain-main _ e = absurd (true≢false (sym e))

-- the law of readers in a row, by hand
pub hand-bind : {X Y Z : Type 0} (o : hand.Out X) (f : X → List Token → hand.Out Y) (g : Y → List Token → hand.Out Z) → hand.bind (hand.bind o f) g ≡ hand.bind o (λ x r. hand.bind (f x r) g)
hand-bind (hand.Done x r) f g = refl
hand-bind (hand.Bad r) f g = refl
hand-bind (hand.Deep r) f g = refl
hand-bind (hand.Many r) f g = refl

pub hand-same : {X Y : Type 0} (o : hand.Out X) (f g : X → List Token → hand.Out Y) → ((x : X) (r : List Token) → f x r ≡ g x r) → hand.bind o f ≡ hand.bind o g
hand-same (hand.Done x r) f g h = h x r
hand-same (hand.Bad r) f g h = refl
hand-same (hand.Deep r) f g h = refl
hand-same (hand.Many r) f g h = refl

-- a reader by hand that puts together what two, or three, in a row read
pub hand-two : {X Y V Z : Type 0} (o : hand.Out X) (f : X → List Token → hand.Out Y) (made : X → Y → V) (k : V → List Token → hand.Out Z)
    → hand.bind (hand.bind o (λ x r. hand.bind (f x r) (λ y s. hand.Done (made x y) s))) k ≡ hand.bind o (λ x r. hand.bind (f x r) (λ y s. k (made x y) s))
hand-two o f made k =
    hand-bind o (λ x r. hand.bind (f x r) (λ y s. hand.Done (made x y) s)) k
    ∙ hand-same o (λ x r. hand.bind (hand.bind (f x r) (λ y s. hand.Done (made x y) s)) k) (λ x r. hand.bind (f x r) (λ y s. k (made x y) s)) (λ x r. hand-bind (f x r) (λ y s. hand.Done (made x y) s) k)

pub hand-three : {X Y W V Z : Type 0} (o : hand.Out X) (f : X → List Token → hand.Out Y) (g : X → Y → List Token → hand.Out W) (made : X → Y → W → V) (k : V → List Token → hand.Out Z)
    → hand.bind (hand.bind o (λ x r. hand.bind (f x r) (λ y s. hand.bind (g x y s) (λ w u. hand.Done (made x y w) u)))) k ≡ hand.bind o (λ x r. hand.bind (f x r) (λ y s. hand.bind (g x y s) (λ w u. k (made x y w) u)))
hand-three o f g made k =
    hand-bind o (λ x r. hand.bind (f x r) (λ y s. hand.bind (g x y s) (λ w u. hand.Done (made x y w) u))) k
    ∙ hand-same o (λ x r. hand.bind (hand.bind (f x r) (λ y s. hand.bind (g x y s) (λ w u. hand.Done (made x y w) u))) k) (λ x r. hand.bind (f x r) (λ y s. hand.bind (g x y s) (λ w u. k (made x y w) u)))
    (λ x r. hand-two (f x r) (g x) (made x) k)

-- the step of a fixed token
pub fixed-step : {B Y : Type 0} (G : Attributes B → Y) (is : Tok → Bool) → ((t : Tok) → is t ≡ true → is_operator t ≡ false) → (n : ℕ) (ts : List Token) (K : On (Unit {0}) B) (k : List Skel → List Token → hand.Out Y)
    → ((s : List Skel) (r : List Token) → shape G (K (attributes unit n s) r) ≡ k s r) → shape G (bind (terminal (fixed_of is) n ts) K) ≡ hand.bind (expect is ts) k
fixed-step G is plain n ts K k h = shape-fixed G is plain n ts K ∙ hand-same (expect is ts) (λ s r. shape G (K (attributes unit n s) r)) k h
