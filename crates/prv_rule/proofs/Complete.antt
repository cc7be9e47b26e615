-- What is derived is read, up to its first token past a limit.
use Rattle.std.proofs.Common.{◌≡◌, ℕ, zero, suc, ◌+◌, ◌≤◌, nat_le, nat_lt, Bool, true, false, ◌&&◌, List, [], ◌∷◌, ◌++◌, length, Option, Some, refl, sym, ap, ap₂, ◌∙◌, arith, true≢false, leb-true, lt-ltb, le-ltb, length-append}
use Rattle.prv_lex.specs.declared.token.Token.{Token}
use Rattle.prv_rule.specs.Operators.{is_operator}
use Rattle.prv_rule.specs.Skeletons.{kept}
use Rattle.prv_rule.specs.Texts.{Laid, tokens_of, more_by}
use Rattle.prv_rule.specs.Limits.{is_many}
use Rattle.prv_rule.specs.Rules.{Rule, Empty, Terminal, Sequence, Alternative, Repetition, Full, Hole, Construct, Fail, Attributes, attributes, joined, full, hole_in, nullable, first, head_is, choose, laid, Derived, IsSequence, IsRepetition, none, more, IsMapped, derives_with, Table, derives, Out, Done, Reader, bind, too_deep, spent, valued, terminal, sequence, alternative, no_more, repetition, read_with, readers}
use Rattle.prv_rule.proofs.Tools.{tokens-append, tokens-length}
use Rattle.prv_rule.proofs.Firm.{opens, named-firm}
use Rattle.prv_rule.proofs.Shown.{shown, shown_at, shown-append, bind-shown}

abbrev pub IsShown : {A : Type 0} → Derived A → Reader A → Type 0
IsShown {A} P p = (n : ℕ) (text : List Laid) (rest : List Token) (g : Attributes A) → P n text rest g → p n (tokens_of text ++ rest) ≡ shown text rest (Done g rest)

-- one token
shown-spent : {A : Type 0} (b : Bool) (v : A) (n : ℕ) (t : Token) (rest : List Token) → spent b v n t rest ≡ shown_at false b (t ∷ rest) (Done (attributes v (more_by (is_operator t.tok) n) (kept t ∷ [])) rest)
shown-spent true v n t rest = refl
shown-spent false v n t rest = refl

shown-one : {A : Type 0} (f : Token → Option A) (d : ℕ) → nat_lt 100 d ≡ false → (n : ℕ) (rest : List Token) (g : Attributes A) (t : Token) (v : A) → f t ≡ Some v → g ≡ attributes v (more_by (is_operator t.tok) n) (kept t ∷ [])
    → terminal f n (t ∷ rest) ≡ shown (laid t d n ∷ []) rest (Done g rest)
shown-one f d s n rest g t v e q =
    ap (λ o. valued o n t rest) e ∙ shown-spent (is_operator t.tok && nat_le 256 n) v n t rest
    ∙ ap₂ (λ b g. shown_at b (is_operator t.tok && nat_le 256 n) (t ∷ rest) (Done g rest)) (sym s) (sym q)

module _ {A B C : Type 0} (P : Derived A) (Q : Derived B) (f : A → B → C) (p : Reader A) (q : Reader B) (h : IsShown P p) (k : IsShown Q q) where
  -- one behind another
  pub shown-joined : (n : ℕ) (x y : List Laid) (rest : List Token) (u : Attributes A) (w : Attributes B) → P n x (tokens_of y ++ rest) u → Q u.before y rest w
      → sequence f p q n (tokens_of (x ++ y) ++ rest) ≡ shown (x ++ y) rest (Done (joined f u w) rest)
  shown-joined n x y rest u w d e =
      ap (λ ts. sequence f p q n ts) (tokens-append x y rest)
      ∙ ap (λ o. bind o (λ u r. bind (q u.before r) (λ w s. Done (joined f u w) s))) (h n x (tokens_of y ++ rest) u d)
      ∙ bind-shown x (tokens_of y ++ rest) (Done u (tokens_of y ++ rest)) (λ u r. bind (q u.before r) (λ w s. Done (joined f u w) s))
      ∙ ap (λ o. shown x (tokens_of y ++ rest) (bind o (λ w s. Done (joined f u w) s))) (k u.before y rest w e)
      ∙ ap (λ o. shown x (tokens_of y ++ rest) o) (bind-shown y rest (Done w rest) (λ w s. Done (joined f u w) s))
      ∙ sym (shown-append x y rest (Done (joined f u w) rest))

  pub shown-both : IsShown (IsSequence P Q f) (sequence f p q)
  shown-both n text rest g d =
      ap (λ t. sequence f p q n (tokens_of t ++ rest)) d.text_is
      ∙ shown-joined n d.front d.back rest d.one d.other d.derives_one d.derives_other
      ∙ ap₂ (λ t g. shown t rest (Done g rest)) (sym d.text_is) (sym d.got_is)

shown-either : {A : Type 0} (s : Bool) (P Q : Type 0) (p q : Reader A) (n : ℕ) (ts : List Token) (o : Out A) → (P → p n ts ≡ o) → (Q → q n ts ≡ o) → choose s P Q → alternative s p q n ts ≡ o
shown-either true P Q p q n ts o h k d = h d
shown-either false P Q p q n ts o h k d = k d

shown-many : {A : Type 0} (P : Derived A) (p : Reader A) (b : Token → Bool) → IsShown P p → (fuel n : ℕ) (text : List Laid) (rest : List Token) (g : Attributes (List A)) → IsRepetition P b n text rest g → length text ≤ fuel
    → repetition b p fuel n (tokens_of text ++ rest) ≡ shown text rest (Done g rest)
shown-many P p b h zero n text rest g (none e) l = refl
shown-many P p b h (suc fuel) n text rest g (none e) l = ap (λ s. alternative s (sequence (λ v vs. v ∷ vs) p (repetition b p fuel)) no_more n rest) e
shown-many P p b h zero n text rest g (more x y u w s e d ds) l = let k : length (x ++ y) ≡ length x + length y = length-append x y in absurd (omega arith)
shown-many P p b h (suc fuel) n text rest g (more x y u w s e d ds) l =
    let k : length (x ++ y) ≡ length x + length y = length-append x y in
    let on : head_is b (tokens_of (x ++ y) ++ rest) ≡ true = ap (head_is b) (tokens-append x y rest) ∙ e in
    let others : repetition b p fuel u.before (tokens_of y ++ rest) ≡ shown y rest (Done w rest) = shown-many P p b h fuel u.before y rest w ds (omega arith) in
    ap (λ s. alternative s (sequence (λ v vs. v ∷ vs) p (repetition b p fuel)) no_more n (tokens_of (x ++ y) ++ rest)) on
    ∙ ap (λ ts. sequence (λ v vs. v ∷ vs) p (repetition b p fuel) n ts) (tokens-append x y rest)
    ∙ ap (λ o. bind o (λ u r. bind (repetition b p fuel u.before r) (λ w s. Done (joined (λ v vs. v ∷ vs) u w) s))) (h n x (tokens_of y ++ rest) u d)
    ∙ bind-shown x (tokens_of y ++ rest) (Done u (tokens_of y ++ rest)) (λ u r. bind (repetition b p fuel u.before r) (λ w s. Done (joined (λ v vs. v ∷ vs) u w) s))
    ∙ ap (λ o. shown x (tokens_of y ++ rest) (bind o (λ w s. Done (joined (λ v vs. v ∷ vs) u w) s))) others
    ∙ ap (λ o. shown x (tokens_of y ++ rest) o) (bind-shown y rest (Done w rest) (λ w s. Done (joined (λ v vs. v ∷ vs) u w) s))
    ∙ sym (shown-append x y rest (Done (joined (λ v vs. v ∷ vs) u w) rest))

-- with another value
shown-as : {A B : Type 0} (P : List Laid → List Token → Attributes A → Type 0) (f : Attributes A → Attributes B) (text : List Laid) (rest : List Token) (o : Out A) (g : Attributes B) (d : IsMapped P f text rest g) → o ≡ shown text rest (Done d.one rest)
    → bind o (λ u r. Done (f u) r) ≡ shown text rest (Done g rest)
shown-as P f text rest o g d e = ap (λ o. bind o (λ u r. Done (f u) r)) e ∙ bind-shown text rest (Done d.one rest) (λ u r. Done (f u) r) ∙ ap (λ g. shown text rest (Done g rest)) (sym d.got_is)

module _ {K : Type 0} {V : K → Type 0} (P : (k : K) → ℕ → Derived (V k)) (p : (k : K) → Reader (V k)) (d : ℕ) (shallow : nat_lt 100 d ≡ false) (h : (k : K) → IsShown (P k (suc d)) (p k)) where
  -- what a rule derives is read by its reader
  pub complete : {A : Type 0} (r : Rule V A) → IsShown (derives_with P r d) (read_with p r)
  complete (Empty v) n text rest g x = ap (λ t. Done (attributes v n []) (tokens_of t ++ rest)) x.0 ∙ ap (λ g. Done g rest) (sym x.1) ∙ ap (λ t. shown t rest (Done g rest)) (sym x.0)
  complete (Terminal f e) n text rest g x =
      ap (λ t. terminal f n (tokens_of t ++ rest)) x.text_is ∙ shown-one f d shallow n rest g x.token x.value x.value_is x.got_is ∙ ap (λ t. shown t rest (Done g rest)) (sym x.text_is)
  complete (Sequence f a b) n text rest g x = shown-both (derives_with P a d) (derives_with P b d) f (read_with p a) (read_with p b) (complete a) (complete b) n text rest g x
  complete (Alternative a b) n text rest g x =
      shown-either (head_is (first a) (tokens_of text ++ rest)) _ _ (read_with p a) (read_with p b) n (tokens_of text ++ rest) (shown text rest (Done g rest)) (complete a n text rest g) (complete b n text rest g) x
  complete (Repetition a) n text rest g x = shown-many (derives_with P a d) (read_with p a) (first a) (complete a) (length (tokens_of text ++ rest)) n text rest g x
      (let k : length (tokens_of text ++ rest) ≡ length text + length rest = tokens-length text rest in omega arith)
  complete (Full a) n text rest g x = shown-as (derives_with P a d 0) (full n) text rest (read_with p a 0 (tokens_of text ++ rest)) g x (complete a 0 text rest x.one x.derives_one)
  complete (Hole s f a) n text rest g x = shown-as (derives_with P a d n) (hole_in s f) text rest (read_with p a n (tokens_of text ++ rest)) g x (complete a n text rest x.one x.derives_one)
  complete (Construct k f a b) n text rest g x =
      shown-both (derives_with P a d) (λ n text rest g. choose (head_is (first b) (tokens_of text ++ rest)) (derives_with P b d n text rest g) (P k (suc d) n text rest g)) f
      (read_with p a) (λ n ts. alternative (head_is (first b) ts) (read_with p b) (p k) n ts) (complete a)
      (λ n text rest g y. shown-either (head_is (first b) (tokens_of text ++ rest)) _ _ (read_with p b) (p k) n (tokens_of text ++ rest) (shown text rest (Done g rest)) (complete b n text rest g) (h k n text rest g) y)
      n text rest g x
  complete Fail n text rest g x = absurd x

-- a text inside too many constructs
deep-text : {A : Type 0} (d : ℕ) (text : List Laid) (rest : List Token) (o : Out A) → d ≡ 101 → opens d text ≡ true → too_deep (tokens_of text ++ rest) ≡ shown text rest o
deep-text d [] rest o e f = absurd (true≢false (sym f))
deep-text d (t ∷ text) rest o e f =
    let l : d ≤ t.depth = leb-true d t.depth f in
    ap (λ b. shown_at b (is_many t) (tokens_of (t ∷ text) ++ rest) (shown text rest o)) (sym (lt-ltb 100 t.depth (omega arith)))

-- and so are those of nonterminals
pub named-complete : {K : Type 0} {V : K → Type 0} (table : Table V) → ((k : K) → nullable (table k) ≡ false) → (h room d : ℕ) → room + d ≡ 101 → (k : K) → IsShown (derives table h k d) (readers table room k)
named-complete table s zero room d e k n text rest g x = absurd x
named-complete table s (suc h) zero d e k n text rest g x = deep-text d text rest (Done g rest) (omega arith) (named-firm table s (suc h) k d n text rest g x)
named-complete table s (suc h) (suc room) d e k n text rest g x =
    complete (derives table h) (readers table room) d (le-ltb 100 d (omega arith)) (named-complete table s h room (suc d) (omega arith)) (table k) n text rest g x
