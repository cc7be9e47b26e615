-- Rules of a grammar as data: what they derive, and what reading them comes to.
use Rattle.std.specs.Prelude.{◌≡◌, ℕ, zero, suc, ◌<◌, nat_le, Bool, true, false, ◌&&◌, ◌||◌, List, [], ◌∷◌, ◌++◌, length, Option, Some, None}
use Rattle.prv_model.specs.declared.limits.TheConstants.{MAX_OPEN, MAX_OPERATORS}
use Rattle.prv_lex.specs.declared.token.Token.{Token}
use Rattle.prv_rule.specs.Operators.{is_operator, is_there}
use Rattle.prv_rule.specs.Texts.{Laid, more_by, tokens_of}
use Rattle.prv_rule.specs.Skeletons.{kept}
use Rattle.prv_rule.specs.declared.skeleton.Skel.{Skel}

-- rules, each with what its value is, over nonterminals, which are what stands inside constructs
pub data Rule {K : Type 0} (V : K → Type 0) : Type 0 → Type 1 where
  -- no token
  Empty : {A : Type 0} → A → Rule V A
  -- a token that has a value; the second one is such a token
  Terminal : {A : Type 0} → (Token → Option A) → Token → Rule V A
  -- one behind another
  Sequence : {A B C : Type 0} → (A → B → C) → Rule V A → Rule V B → Rule V C
  -- the first where the next token begins it, else the second
  Alternative : {A : Type 0} → Rule V A → Rule V A → Rule V A
  -- as long as the next token begins one more
  Repetition : {A : Type 0} → Rule V A → Rule V (List A)
  -- a full expression: its operators are counted anew
  Full : {A : Type 0} → Rule V A → Rule V A
  -- in the skeleton it is one item
  Hole : {A B : Type 0} → (A → Skel) → (A → B) → Rule V A → Rule V B
  -- what opens a construct, and then the second rule where the next token begins it, else what stands inside the construct
  Construct : {A C : Type 0} (k : K) → (A → V k → C) → Rule V A → Rule V (V k) → Rule V C
  -- no text at all
  Fail : {A : Type 0} → Rule V A

-- the attributes of a derivation: its value, how many operators of its full expression stand before what follows, and its skeleton
pub record Attributes (A : Type 0) : Type 0 where
  pub value : A
  pub before : ℕ
  pub skeleton : List Skel

abbrev pub attributes : {A : Type 0} → A → ℕ → List Skel → Attributes A
attributes v n s = record { value = v; before = n; skeleton = s }

-- one behind another
abbrev pub joined : {A B C : Type 0} → (A → B → C) → Attributes A → Attributes B → Attributes C
joined f u w = attributes (f u.value w.value) w.before (u.skeleton ++ w.skeleton)

-- a full expression, before which n operators of the one around it stood
abbrev pub full : {A : Type 0} → ℕ → Attributes A → Attributes A
full n u = attributes u.value n u.skeleton

abbrev pub hole_in : {A B : Type 0} → (A → Skel) → (A → B) → Attributes A → Attributes B
hole_in s f u = attributes (f u.value) u.before (s u.value ∷ [])

-- a rule may be no token; what stands inside a construct never is
abbrev pub nullable : {K : Type 0} {V : K → Type 0} {A : Type 0} → Rule V A → Bool
nullable (Empty v) = true
nullable (Terminal f e) = false
nullable (Sequence f a b) = nullable a && nullable b
nullable (Alternative a b) = nullable a || nullable b
nullable (Repetition a) = true
nullable (Full a) = nullable a
nullable (Hole s f a) = nullable a
nullable (Construct k f a b) = nullable a && nullable b
nullable Fail = false

-- a token begins a rule; a construct is begun by what opens it
abbrev pub first : {K : Type 0} {V : K → Type 0} {A : Type 0} → Rule V A → Token → Bool
first (Empty v) t = false
first (Terminal f e) t = is_there (f t)
first (Sequence f a b) t = first a t || (nullable a && first b t)
first (Alternative a b) t = first a t || first b t
first (Repetition a) t = first a t
first (Full a) t = first a t
first (Hole s f a) t = first a t
first (Construct k f a b) t = first a t
first Fail t = false

-- the next token passes a test
abbrev pub head_is : (Token → Bool) → List Token → Bool
head_is p [] = false
head_is p (t ∷ ts) = p t

abbrev pub choose : Bool → Type 0 → Type 0 → Type 0
choose true P Q = P
choose false P Q = Q

-- a token inside so many constructs, behind so many operators of its full expression
abbrev pub laid : Token → ℕ → ℕ → Laid
laid t d n = record { token = t; depth = d; before = n }

-- what is derived: behind n operators, a text, before a rest, with what it gives
abbrev pub Derived : Type 0 → Type 1
Derived A = ℕ → List Laid → List Token → Attributes A → Type 0

pub record IsTerminal {A : Type 0} (f : Token → Option A) (d n : ℕ) (text : List Laid) (g : Attributes A) : Type 0 where
  pub token : Token
  pub value : A
  pub text_is : text ≡ laid token d n ∷ []
  pub value_is : f token ≡ Some value
  pub got_is : g ≡ attributes value (more_by (is_operator token.tok) n) (kept token ∷ [])

pub record IsSequence {A B C : Type 0} (P : Derived A) (Q : Derived B) (f : A → B → C) (n : ℕ) (text : List Laid) (rest : List Token) (g : Attributes C) : Type 0 where
  pub front : List Laid
  pub back : List Laid
  pub one : Attributes A
  pub other : Attributes B
  pub text_is : text ≡ front ++ back
  pub derives_one : P n front (tokens_of back ++ rest) one
  pub derives_other : Q one.before back rest other
  pub got_is : g ≡ joined f one other

pub data IsRepetition {A : Type 0} (P : Derived A) (p : Token → Bool) : ℕ → List Laid → List Token → Attributes (List A) → Type 0 where
  none : {n : ℕ} {rest : List Token} → head_is p rest ≡ false → IsRepetition P p n [] rest (attributes [] n [])
  more : {n : ℕ} {rest : List Token} (x y : List Laid) (u : Attributes A) (w : Attributes (List A)) → 0 < length x → head_is p (tokens_of x ++ (tokens_of y ++ rest)) ≡ true
      → P n x (tokens_of y ++ rest) u → IsRepetition P p u.before y rest w → IsRepetition P p n (x ++ y) rest (joined (λ v vs. v ∷ vs) u w)

-- what is derived, with another value
pub record IsMapped {A B : Type 0} (P : List Laid → List Token → Attributes A → Type 0) (f : Attributes A → Attributes B) (text : List Laid) (rest : List Token) (g : Attributes B) : Type 0 where
  pub one : Attributes A
  pub derives_one : P text rest one
  pub got_is : g ≡ f one

-- what a rule derives inside d constructs, over what the nonterminals derive
abbrev pub derives_with : {K : Type 0} {V : K → Type 0} → ((k : K) → ℕ → Derived (V k)) → {A : Type 0} → Rule V A → ℕ → Derived A
derives_with inner (Empty v) d n text rest g = (text ≡ []) × (g ≡ attributes v n [])
derives_with inner (Terminal f e) d n text rest g = IsTerminal f d n text g
derives_with inner (Sequence f a b) d n text rest g = IsSequence (derives_with inner a d) (derives_with inner b d) f n text rest g
derives_with inner (Alternative a b) d n text rest g = choose (head_is (first a) (tokens_of text ++ rest)) (derives_with inner a d n text rest g) (derives_with inner b d n text rest g)
derives_with inner (Repetition a) d n text rest g = IsRepetition (derives_with inner a d) (first a) n text rest g
derives_with inner (Full a) d n text rest g = IsMapped (derives_with inner a d 0) (full n) text rest g
derives_with inner (Hole s f a) d n text rest g = IsMapped (derives_with inner a d n) (hole_in s f) text rest g
derives_with inner (Construct k f a b) d n text rest g = IsSequence (derives_with inner a d) (λ n text rest g. choose (head_is (first b) (tokens_of text ++ rest)) (derives_with inner b d n text rest g) (inner k (suc d) n text rest g)) f n text rest g
derives_with inner Fail d n text rest g = ⊥

-- a table: a rule for each nonterminal
abbrev pub Table : {K : Type 0} → (K → Type 0) → Type 1
Table {K = K} V = (k : K) → Rule V (V k)

-- what the nonterminals derive, where so many constructs at most stand one inside another
abbrev pub derives : {K : Type 0} {V : K → Type 0} → Table V → ℕ → (k : K) → ℕ → Derived (V k)
derives table zero k d n text rest g = ⊥
derives table (suc h) k d n text rest g = derives_with (derives table h) (table k) d n text rest g

-- a text of a rule, with what it gives
pub record IsWhole {K : Type 0} {V : K → Type 0} (table : Table V) {A : Type 0} (r : Rule V A) (text : List Laid) (g : Attributes A) : Type 0 where
  pub height : ℕ
  pub derived : derives_with (derives table height) r 0 0 text [] g

-- why a reader stops: the token fits no text, is inside too many constructs, or is an operator too many
pub data Why : Type 0 where
  Syntax : Why
  Depth : Why
  Operators : Why

-- what a reader comes to: what it read and what is left, or a stop at the front of what is left
pub data Out (A : Type 0) : Type 0 where
  Done : Attributes A → List Token → Out A
  Stop : Why → List Token → Out A

abbrev pub bind : {A B : Type 0} → Out A → (Attributes A → List Token → Out B) → Out B
bind (Done u rest) next = next u rest
bind (Stop w rest) next = Stop w rest

-- from the count of operators and the tokens
abbrev pub Reader : Type 0 → Type 0
Reader A = ℕ → List Token → Out A

abbrev pub too_deep : {A : Type 0} → List Token → Out A
too_deep [] = Stop Syntax []
too_deep (t ∷ ts) = Stop Depth (t ∷ ts)

abbrev pub spent : {A : Type 0} → Bool → A → ℕ → Token → List Token → Out A
spent true v n t ts = Stop Operators (t ∷ ts)
spent false v n t ts = Done (attributes v (more_by (is_operator t.tok) n) (kept t ∷ [])) ts

abbrev pub valued : {A : Type 0} → Option A → ℕ → Token → List Token → Out A
valued None n t ts = Stop Syntax (t ∷ ts)
valued (Some v) n t ts = spent (is_operator t.tok && nat_le MAX_OPERATORS n) v n t ts

abbrev pub terminal : {A : Type 0} → (Token → Option A) → Reader A
terminal f n [] = Stop Syntax []
terminal f n (t ∷ ts) = valued (f t) n t ts

abbrev pub sequence : {A B C : Type 0} → (A → B → C) → Reader A → Reader B → Reader C
sequence f p q n ts = bind (p n ts) (λ u r. bind (q u.before r) (λ w s. Done (joined f u w) s))

abbrev pub alternative : {A : Type 0} → Bool → Reader A → Reader A → Reader A
alternative true p q = p
alternative false p q = q

abbrev pub no_more : {A : Type 0} → Reader (List A)
no_more n ts = Done (attributes [] n []) ts

-- at most so many
abbrev pub repetition : {A : Type 0} → (Token → Bool) → Reader A → ℕ → Reader (List A)
repetition b p zero n ts = no_more n ts
repetition b p (suc fuel) n ts = alternative (head_is b ts) (sequence (λ v vs. v ∷ vs) p (repetition b p fuel)) no_more n ts

abbrev pub read_with : {K : Type 0} {V : K → Type 0} → ((k : K) → Reader (V k)) → {A : Type 0} → Rule V A → Reader A
read_with inner (Empty v) n ts = Done (attributes v n []) ts
read_with inner (Terminal f e) n ts = terminal f n ts
read_with inner (Sequence f a b) n ts = sequence f (read_with inner a) (read_with inner b) n ts
read_with inner (Alternative a b) n ts = alternative (head_is (first a) ts) (read_with inner a) (read_with inner b) n ts
read_with inner (Repetition a) n ts = repetition (first a) (read_with inner a) (length ts) n ts
read_with inner (Full a) n ts = bind (read_with inner a 0 ts) (λ u r. Done (full n u) r)
read_with inner (Hole s f a) n ts = bind (read_with inner a n ts) (λ u r. Done (hole_in s f u) r)
read_with inner (Construct k f a b) n ts = sequence f (read_with inner a) (λ n ts. alternative (head_is (first b) ts) (read_with inner b) (inner k) n ts) n ts
read_with inner Fail n ts = Stop Syntax ts

-- the readers of what stands inside constructs, where so many more may be open
abbrev pub readers : {K : Type 0} {V : K → Type 0} → Table V → ℕ → (k : K) → Reader (V k)
readers table zero k n ts = too_deep ts
readers table (suc room) k n ts = read_with (readers table room) (table k) n ts

-- nothing follows
abbrev pub at_end : {A : Type 0} → Attributes A → List Token → Out A
at_end u [] = Done u []
at_end u (t ∷ ts) = Stop Syntax (t ∷ ts)

-- a whole file
abbrev pub whole : {K : Type 0} {V : K → Type 0} → Table V → {A : Type 0} → Rule V A → List Token → Out A
whole table r ts = bind (read_with (readers table MAX_OPEN) r 0 ts) (λ u rest. at_end u rest)
