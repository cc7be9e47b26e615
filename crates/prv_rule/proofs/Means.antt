-- What an outcome means: what was read is a text, and behind what was read before a stop some text goes on.
use Rattle.std.proofs.Common.{◌≡◌, ℕ, Bool, true, false, ◌&&◌, ◌||◌, List, [], ◌∷◌, ◌++◌, ◌⊎◌}
use Rattle.prv_lex.specs.declared.token.Token.{Token}
use Rattle.prv_rule.specs.Texts.{Laid, tokens_of}
use Rattle.prv_rule.specs.Limits.{is_deep, is_many, is_within}
use Rattle.prv_rule.specs.Rules.{Rule, Empty, Terminal, Sequence, Alternative, Repetition, Full, Hole, Construct, Fail, Attributes, nullable, first, head_is, Derived, Why, Syntax, Depth, Operators, Out, Done, Stop}

-- tokens with which a text of a rule may go on; `later` says it of the nonterminals
abbrev pub goes : {K : Type 0} {V : K → Type 0} → (K → Token → Bool) → {A : Type 0} → Rule V A → Token → Bool
goes later (Empty v) t = false
goes later (Terminal f e) t = false
goes later (Sequence f a b) t = goes later b t || (nullable b && goes later a t)
goes later (Alternative a b) t = goes later a t || (goes later b t || (nullable b && first a t))
goes later (Repetition a) t = first a t || goes later a t
goes later (Full a) t = goes later a t
goes later (Hole s f a) t = goes later a t
goes later (Construct k f a b) t = later k t || goes later b t
goes later Fail t = false

-- a rest in place of another one: no text goes on with it, or both begin alike
abbrev pub Ok : (Token → Bool) → List Token → List Token → Type 0
Ok b rest rest' = (head_is b rest' ≡ false) ⊎ ((p : Token → Bool) → head_is p rest' ≡ head_is p rest)

-- a text was read
pub record IsRead {A : Type 0} (P : Derived A) (b f : Token → Bool) (n : ℕ) (ts : List Token) (g : Attributes A) (rest : List Token) : Type 0 where
  pub text : List Laid
  pub tokens_are : ts ≡ tokens_of text ++ rest
  pub within : is_within text ≡ true
  pub idle : text ≡ [] → head_is f ts ≡ false
  pub derived : (R : List Token) → Ok b rest R → P n text R g

-- why a reader stops behind a text, before a rest, where some text has these tokens in place of the rest
pub data Cause : Why → List Laid → List Token → List Laid → Type 0 where
  syntax : (x : Laid) (front : List Laid) (rest : List Token) (back : List Laid) → Cause Syntax (x ∷ front) rest back
  depth : (x : Laid) (front : List Laid) (t : Token) (rest : List Token) (o : Laid) (back : List Laid) → is_deep o ≡ true → Cause Depth (x ∷ front) (t ∷ rest) (o ∷ back)
  operators : (front : List Laid) (rest : List Token) (o : Laid) (back : List Laid) → is_many o ≡ true → Cause Operators front (o.token ∷ rest) (o ∷ back)

-- what was read before a stop begins a text
pub record IsBegun {A : Type 0} (P : Derived A) (b : Token → Bool) (n : ℕ) (ts : List Token) (w : Why) (rest : List Token) : Type 0 where
  pub front : List Laid
  pub back : List Laid
  pub found : Attributes A
  pub tokens_are : ts ≡ tokens_of front ++ rest
  pub within : is_within front ≡ true
  pub cause : Cause w front rest back
  pub same : (p : Token → Bool) (R : List Token) → head_is p (tokens_of (front ++ back) ++ R) ≡ head_is p ts
  pub derived : (R : List Token) → head_is b R ≡ false → P n (front ++ back) R found

-- the first token begins no text
pub record IsRefused (f : Token → Bool) (s : Bool) (ts : List Token) (w : Why) (rest : List Token) : Type 0 where
  pub rest_is : rest ≡ ts
  pub why_is : w ≡ Syntax
  pub off : head_is f ts ≡ false
  pub filled : s ≡ false

-- of a rule
abbrev pub Means : {A : Type 0} → Derived A → (Token → Bool) → (Token → Bool) → Bool → ℕ → List Token → Out A → Type 0
Means P b f s n ts (Done g rest) = IsRead P b f n ts g rest
Means P b f s n ts (Stop w rest) = IsRefused f s ts w rest ⊎ IsBegun P b n ts w rest

-- inside a construct the first token may be inside too many already
pub record IsShut {A : Type 0} (P : Derived A) (n : ℕ) (ts : List Token) (w : Why) (rest : List Token) : Type 0 where
  pub rest_is : rest ≡ ts
  pub cause : (x : Laid) (front text : List Laid) (R : List Token) (g : Attributes A) → P n text R g → Cause w (x ∷ front) rest text

-- of what stands behind an opening; an example of it is known
abbrev pub Second : {A : Type 0} → Derived A → (Token → Bool) → List Laid → ℕ → List Token → Out A → Type 0
Second P b text n ts (Done g rest) = IsRead P b (λ t. false) n ts g rest
Second P b text n ts (Stop w rest) = ((rest ≡ ts) × ((x : Laid) (front : List Laid) → Cause w (x ∷ front) rest text)) ⊎ IsBegun P b n ts w rest

-- of a nonterminal
abbrev pub Inside : {A : Type 0} → Derived A → (Token → Bool) → ℕ → List Token → Out A → Type 0
Inside P b n ts (Done g rest) = IsRead P b (λ t. false) n ts g rest
Inside P b n ts (Stop w rest) = IsShut P n ts w rest ⊎ IsBegun P b n ts w rest
