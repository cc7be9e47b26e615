-- A text of a rule begins inside so many constructs, or is no token.
use Rattle.std.proofs.Common.{◌≡◌, ℕ, zero, suc, ◌<◌, ◌≤◌, nat_le, Bool, true, false, ◌&&◌, ◌||◌, List, [], ◌∷◌, ◌++◌, length, refl, sym, ap, ap₂, subst, ◌∙◌, arith, true≢false, ◌⊎◌, inl, inr, leb-true, le-leb}
use Rattle.std.proofs.lemmas.Bool.{or_left, or_right}
use Rattle.prv_lex.specs.declared.token.Token.{Token}
use Rattle.prv_rule.specs.Texts.{Laid, tokens_of}
use Rattle.prv_rule.proofs.Tools.{cons-nil}
use Rattle.prv_rule.specs.Rules.{Rule, Empty, Terminal, Sequence, Alternative, Repetition, Full, Hole, Construct, Fail, Attributes, nullable, first, head_is, choose, Derived, IsRepetition, none, more, derives_with, Table, derives}

-- the first token is inside so many constructs
abbrev pub opens : ℕ → List Laid → Bool
opens d [] = false
opens d (t ∷ text) = nat_le d t.depth

abbrev pub Firm : Bool → ℕ → List Laid → Type 0
Firm s d text = ((text ≡ []) × (s ≡ true)) ⊎ (opens d text ≡ true)

-- some token, then
pub firm-some : (s : Bool) (d : ℕ) (text : List Laid) → Firm s d text → s ≡ false → opens d text ≡ true
firm-some s d text (inl e) f = absurd (true≢false (sym e.1 ∙ f))
firm-some s d text (inr e) f = e

-- no token, then
pub firm-none : (s : Bool) (d : ℕ) (text : List Laid) → Firm s d text → text ≡ [] → s ≡ true
firm-none s d text (inl e) f = e.1
firm-none s d text (inr e) f = absurd (true≢false (sym (sym (ap (opens d) f) ∙ e)))

pub opens-some : (d : ℕ) (text : List Laid) → opens d text ≡ true → 0 < length text
opens-some d [] e = absurd (true≢false (sym e))
opens-some d (t ∷ text) e = omega arith

pub opens-less : (d : ℕ) (text : List Laid) → opens (suc d) text ≡ true → opens d text ≡ true
opens-less d [] e = e
opens-less d (t ∷ text) e = let l : suc d ≤ t.depth = leb-true (suc d) t.depth e in le-leb d t.depth (omega arith)

opens-front : (d : ℕ) (x y : List Laid) → opens d x ≡ true → opens d (x ++ y) ≡ true
opens-front d [] y e = absurd (true≢false (sym e))
opens-front d (t ∷ x) y e = e

firm-both : (a b : Bool) (d : ℕ) (x y : List Laid) → Firm a d x → Firm b d y → Firm (a && b) d (x ++ y)
firm-both a b d x y (inl e) (inl f) = inl (ap₂ (λ x y. x ++ y) e.0 f.0, ap₂ (λ a b. a && b) e.1 f.1)
firm-both a b d x y (inl e) (inr f) = inr (ap (λ x. opens d (x ++ y)) e.0 ∙ f)
firm-both a b d x y (inr e) f = inr (opens-front d x y e)

firm-left : (a b : Bool) (d : ℕ) (x : List Laid) → Firm a d x → Firm (a || b) d x
firm-left a b d x (inl e) = inl (e.0, or_left a b e.1)
firm-left a b d x (inr e) = inr e

firm-right : (a b : Bool) (d : ℕ) (x : List Laid) → Firm b d x → Firm (a || b) d x
firm-right a b d x (inl e) = inl (e.0, or_right a b e.1)
firm-right a b d x (inr e) = inr e

pub firm-or : (c : Bool) (P Q R : Type 0) → (P → R) → (Q → R) → choose c P Q → R
firm-or true P Q R f g x = f x
firm-or false P Q R f g x = g x

firm-many : {A : Type 0} (P : Derived A) (b : Token → Bool) (a : Bool) (d : ℕ) → ((n : ℕ) (text : List Laid) (rest : List Token) (g : Attributes A) → P n text rest g → Firm a d text)
    → (n : ℕ) (text : List Laid) (rest : List Token) (g : Attributes (List A)) → IsRepetition P b n text rest g → Firm true d text
firm-many P b a d h n text rest g (none e) = inl (refl, refl)
firm-many P b a d h n text rest g (more x y u w l e p ps) = inr (opens-front d x y (some x l (h n x (tokens_of y ++ rest) u p)))
  where
    some : (x : List Laid) → 0 < length x → Firm a d x → opens d x ≡ true
    some [] l f = absurd (omega arith)
    some (t ∷ x) l (inl e) = absurd (cons-nil t x e.0)
    some (t ∷ x) l (inr e) = e

module _ {K : Type 0} {V : K → Type 0} (P : (k : K) → ℕ → Derived (V k)) (h : (k : K) (d n : ℕ) (text : List Laid) (rest : List Token) (g : Attributes (V k)) → P k d n text rest g → opens d text ≡ true) where
  pub firm : {A : Type 0} (r : Rule V A) (d n : ℕ) (text : List Laid) (rest : List Token) (g : Attributes A) → derives_with P r d n text rest g → Firm (nullable r) d text
  firm (Empty v) d n text rest g x = inl (x.0, refl)
  firm (Terminal f e) d n text rest g x = inr (ap (opens d) x.text_is ∙ le-leb d d (omega arith))
  firm (Sequence f a b) d n text rest g x = subst (Firm (nullable a && nullable b) d) (sym x.text_is)
      (firm-both (nullable a) (nullable b) d x.front x.back (firm a d n x.front (tokens_of x.back ++ rest) x.one x.derives_one) (firm b d x.one.before x.back rest x.other x.derives_other))
  firm (Alternative a b) d n text rest g x = firm-or (head_is (first a) (tokens_of text ++ rest)) _ _ (Firm (nullable a || nullable b) d text)
      (λ y. firm-left (nullable a) (nullable b) d text (firm a d n text rest g y)) (λ y. firm-right (nullable a) (nullable b) d text (firm b d n text rest g y)) x
  firm (Repetition a) d n text rest g x = firm-many (derives_with P a d) (first a) (nullable a) d (λ n text rest g y. firm a d n text rest g y) n text rest g x
  firm (Full a) d n text rest g x = firm a d 0 text rest x.one x.derives_one
  firm (Hole s f a) d n text rest g x = firm a d n text rest x.one x.derives_one
  firm (Construct k f a b) d n text rest g x = subst (Firm (nullable a && nullable b) d) (sym x.text_is)
      (firm-both (nullable a) (nullable b) d x.front x.back (firm a d n x.front (tokens_of x.back ++ rest) x.one x.derives_one)
      (firm-or (head_is (first b) (tokens_of x.back ++ rest)) _ _ (Firm (nullable b) d x.back) (λ y. firm b d x.one.before x.back rest x.other y)
      (λ y. inr (opens-less d x.back (h k (suc d) x.one.before x.back rest x.other y))) x.derives_other))
  firm Fail d n text rest g x = absurd x

-- the texts of nonterminals are some token
pub named-firm : {K : Type 0} {V : K → Type 0} (table : Table V) → ((k : K) → nullable (table k) ≡ false) → (h : ℕ) (k : K) (d n : ℕ) (text : List Laid) (rest : List Token) (g : Attributes (V k)) → derives table h k d n text rest g → opens d text ≡ true
named-firm table s zero k d n text rest g x = absurd x
named-firm table s (suc h) k d n text rest g x = firm-some (nullable (table k)) d text (firm (derives table h) (named-firm table s h) (table k) d n text rest g x) (s k)
