-- A text of each rule, by its first token; and what a table has to be for what is proved of it.
use Rattle.std.proofs.Common.{◌≡◌, ℕ, suc, Bool, true, false, not, ◌&&◌, ◌||◌, List, [], ◌∷◌, ◌++◌, Option, Some, None, refl, sym, ap, subst, ◌∙◌, true≢false}
use Rattle.std.proofs.lemmas.Bool.{and_parts}
use Rattle.prv_lex.specs.declared.token.Token.{Token}
use Rattle.prv_rule.specs.Operators.{is_operator, is_there}
use Rattle.prv_rule.specs.Skeletons.{kept}
use Rattle.prv_rule.specs.Texts.{Laid, tokens_of, more_by}
use Rattle.prv_rule.specs.Rules.{Rule, Empty, Terminal, Sequence, Alternative, Repetition, Full, Hole, Construct, Fail, Attributes, attributes, joined, full, hole_in, nullable, first, head_is, choose, laid, Derived, IsSequence, none, derives_with, Table, derives}
use Rattle.prv_rule.proofs.Tools.{not_true, there, head-or, head-and}
use Rattle.prv_rule.proofs.Firm.{opens, opens-less, firm, firm-or, firm-some, firm-none, named-firm}
use Rattle.prv_rule.proofs.Means.{goes}
use Rattle.prv_rule.proofs.Joins.{head_token, IsExample, clear}

abbrev pub or_else : Option Token → Option Token → Option Token
or_else None b = b
or_else (Some t) b = Some t

abbrev pub pick : {X : Type 0} → Bool → X → X → X
pick true x y = x
pick false x y = y

-- the first token of a rule's example, if it has one; `starts` says it of the nonterminals
abbrev pub heads : {K : Type 0} {V : K → Type 0} → (K → Token) → {A : Type 0} → Rule V A → Option Token
heads starts (Empty v) = None
heads starts (Terminal f e) = Some e
heads starts (Sequence f a b) = or_else (heads starts a) (heads starts b)
heads starts (Alternative a b) = pick (nullable b) (heads starts b) (heads starts a)
heads starts (Repetition a) = None
heads starts (Full a) = heads starts a
heads starts (Hole s f a) = heads starts a
heads starts (Construct k f a b) = or_else (heads starts a) (Some (starts k))
heads starts Fail = None

-- it begins so
abbrev pub begins : (Token → Bool) → Option Token → Bool
begins b None = false
begins b (Some t) = b t

-- it has an example; one that stands inside constructs only if they may have one
abbrev pub is_flat : {K : Type 0} {V : K → Type 0} → Bool → {A : Type 0} → Rule V A → Bool
is_flat has (Empty v) = true
is_flat has (Terminal f e) = true
is_flat has (Sequence f a b) = is_flat has a && is_flat has b
is_flat has (Alternative a b) = pick (nullable b) (is_flat has b) (is_flat has a)
is_flat has (Repetition a) = true
is_flat has (Full a) = is_flat has a
is_flat has (Hole s f a) = is_flat has a
is_flat has (Construct k f a b) = is_flat has a && has
is_flat has Fail = false

-- one token decides how a rule is read, and each part of it can be brought to an end
abbrev pub is_good : {K : Type 0} {V : K → Type 0} → (K → Token → Bool) → (K → Token) → {A : Type 0} → Rule V A → Bool
is_good later starts (Empty v) = true
is_good later starts (Terminal f e) = is_there (f e)
is_good later starts (Sequence f a b) = is_good later starts a && (is_good later starts b && (is_flat true b && clear (goes later a) (heads starts b)))
is_good later starts (Alternative a b) = is_good later starts a && (is_good later starts b && (not (nullable a) && pick (nullable b) (clear (first a) (heads starts b)) (begins (first a) (heads starts a))))
is_good later starts (Repetition a) = is_good later starts a && not (nullable a)
is_good later starts (Full a) = is_good later starts a
is_good later starts (Hole s f a) = is_good later starts a
is_good later starts (Construct k f a b) = is_good later starts a && (not (nullable a) && (is_good later starts b && (not (nullable b) && (clear (goes later a) (Some (starts k)) && clear (first b) (Some (starts k))))))
is_good later starts Fail = true

-- nothing ends on what goes on: an opening is closed
abbrev pub is_closed : {K : Type 0} {V : K → Type 0} {A : Type 0} → Rule V A → Bool
is_closed (Empty v) = true
is_closed (Terminal f e) = true
is_closed (Sequence f a b) = is_closed b && not (nullable b)
is_closed (Alternative a b) = is_closed a && (is_closed b && not (nullable b))
is_closed (Repetition a) = false
is_closed (Full a) = is_closed a
is_closed (Hole s f a) = is_closed a
is_closed (Construct k f a b) = false
is_closed Fail = true

abbrev pub opens_closed : {K : Type 0} {V : K → Type 0} {A : Type 0} → Rule V A → Bool
opens_closed (Empty v) = true
opens_closed (Terminal f e) = true
opens_closed (Sequence f a b) = opens_closed a && opens_closed b
opens_closed (Alternative a b) = opens_closed a && opens_closed b
opens_closed (Repetition a) = opens_closed a
opens_closed (Full a) = opens_closed a
opens_closed (Hole s f a) = opens_closed a
opens_closed (Construct k f a b) = opens_closed a && (opens_closed b && is_closed a)
opens_closed Fail = true

-- a table that can be read by one token
pub record IsFit {K : Type 0} {V : K → Type 0} (table : Table V) (later : K → Token → Bool) (starts : K → Token) : Type 0 where
  pub good : (k : K) → is_good later starts (table k) ≡ true
  pub flat : (k : K) → is_flat false (table k) ≡ true
  pub closed : (k : K) → opens_closed (table k) ≡ true
  pub filled : (k : K) → nullable (table k) ≡ false
  pub starts_are : (k : K) → heads starts (table k) ≡ Some (starts k)
  pub later_is : (k : K) (t : Token) → later k t ≡ false → goes later (table k) t ≡ false

head-joined : (x y : List Laid) (a b : Option Token) → head_token x ≡ a → head_token y ≡ b → head_token (x ++ y) ≡ or_else a b
head-joined [] y a b e f = f ∙ ap (λ a. or_else a b) e
head-joined (t ∷ x) y a b e f = ap (λ a. or_else a b) e

pub none-some : (s : Token) → Some s ≡ None → ⊥
none-some s e = absurd (cc)

-- the head of an example that goes on
pub ok-clear : (g : Token → Bool) (y : List Laid) (hd : Option Token) (R : List Token) → head_token y ≡ hd → clear g hd ≡ true → (y ≡ [] → head_is g R ≡ false) → head_is g (tokens_of y ++ R) ≡ false
ok-clear g [] hd R e c h = h refl
ok-clear g (t ∷ y) hd R e c h = not_true (g t.token) (ap (clear g) e ∙ c)

ok-begins : (g : Token → Bool) (y : List Laid) (hd : Option Token) (R : List Token) → head_token y ≡ hd → begins g hd ≡ true → head_is g (tokens_of y ++ R) ≡ true
ok-begins g [] hd R e c = absurd (true≢false (sym (ap (begins g) e ∙ c)))
ok-begins g (t ∷ y) hd R e c = ap (begins g) e ∙ c

example-both : {A B C : Type 0} (P : Derived A) (Q : Derived B) (f : A → B → C) (ga gb gt : Token → Bool) (sb : Bool) (ha hb : Option Token) → clear ga hb ≡ true
    → ((R : List Token) → head_is gt R ≡ false → head_is gb R ≡ false) → ((R : List Token) → sb ≡ true → head_is gt R ≡ false → head_is ga R ≡ false)
    → ((m : ℕ) (text : List Laid) (R : List Token) (w : Attributes B) → Q m text R w → text ≡ [] → sb ≡ true)
    → (n : ℕ) (a : IsExample P ga ha n) → IsExample Q gb hb a.found.before → IsExample (IsSequence P Q f) gt (or_else ha hb) n
example-both P Q f ga gb gt sb ha hb c to_b to_a firm n a b =
    record {
      text = a.text ++ b.text;
      found = joined f a.found b.found;
      head_is_so = head-joined a.text b.text ha hb a.head_is_so b.head_is_so;
      derived = λ R o. record {
        front = a.text;
        back = b.text;
        one = a.found;
        other = b.found;
        text_is = refl;
        got_is = refl;
        derives_one = a.derived (tokens_of b.text ++ R) (ok-clear ga b.text hb R b.head_is_so c (λ e. to_a R (firm a.found.before b.text R b.found (b.derived R (to_b R o)) e) o));
        derives_other = b.derived R (to_b R o);
      };
    }

-- behind an opening
abbrev pub second-example : {A : Type 0} (P Q : Derived A) (fb gb gk : Token → Bool) (s : Token) (n : ℕ) → clear fb (Some s) ≡ true → IsExample P gk (Some s) n
    → IsExample (λ n text rest g. choose (head_is fb (tokens_of text ++ rest)) (Q n text rest g) (P n text rest g)) (λ t. gk t || gb t) (Some s) n
second-example P Q fb gb gk s n c e =
    record {
      text = e.text;
      found = e.found;
      head_is_so = e.head_is_so;
      derived = λ R o. subst (λ b. choose b (Q n e.text R e.found) (P n e.text R e.found)) (sym (ok-clear fb e.text (Some s) R e.head_is_so c (λ i. absurd (none-some s (sym e.head_is_so ∙ ap head_token i))))) (e.derived R (head-or gk gb R o).0);
    }

-- what is good of an opening
pub open-parts : {K : Type 0} {V : K → Type 0} (later : K → Token → Bool) (starts : K → Token) {A C : Type 0} (k : K) (f : A → V k → C) (a : Rule V A) (b : Rule V (V k)) → is_good later starts (Construct k f a b) ≡ true
    → (is_good later starts a ≡ true) × (not (nullable a) ≡ true) × (is_good later starts b ≡ true) × (not (nullable b) ≡ true) × (clear (goes later a) (Some (starts k)) ≡ true) × (clear (first b) (Some (starts k)) ≡ true)
open-parts later starts k f a b w =
    let p = and_parts (is_good later starts a) (not (nullable a) && (is_good later starts b && (not (nullable b) && (clear (goes later a) (Some (starts k)) && clear (first b) (Some (starts k)))))) w in
    let q = and_parts (not (nullable a)) (is_good later starts b && (not (nullable b) && (clear (goes later a) (Some (starts k)) && clear (first b) (Some (starts k))))) p.1 in
    let r = and_parts (is_good later starts b) (not (nullable b) && (clear (goes later a) (Some (starts k)) && clear (first b) (Some (starts k)))) q.1 in
    let s = and_parts (not (nullable b)) (clear (goes later a) (Some (starts k)) && clear (first b) (Some (starts k))) r.1 in
    let t = and_parts (clear (goes later a) (Some (starts k))) (clear (first b) (Some (starts k))) s.1 in
    (p.0, q.0, r.0, s.0, t.0, t.1)

-- what stands behind an opening is some token
pub second-some : {K : Type 0} {V : K → Type 0} (P : (k : K) → ℕ → Derived (V k)) (d : ℕ) (h : (k : K) (d n : ℕ) (text : List Laid) (rest : List Token) (g : Attributes (V k)) → P k d n text rest g → opens d text ≡ true) (k : K) (b : Rule V (V k)) → nullable b ≡ false
    → (n : ℕ) (text : List Laid) (rest : List Token) (g : Attributes (V k)) → choose (head_is (first b) (tokens_of text ++ rest)) (derives_with P b d n text rest g) (P k (suc d) n text rest g) → opens d text ≡ true
second-some P d h k b s n text rest g x =
    firm-or (head_is (first b) (tokens_of text ++ rest)) _ _ (opens d text ≡ true) (λ y. firm-some (nullable b) d text (firm P h b d n text rest g y) s) (λ y. opens-less d text (h k (suc d) n text rest g y)) x

module _ {K : Type 0} {V : K → Type 0} (later : K → Token → Bool) (starts : K → Token) (P : (k : K) → ℕ → Derived (V k)) (d : ℕ)
    (h : (k : K) (d n : ℕ) (text : List Laid) (rest : List Token) (g : Attributes (V k)) → P k d n text rest g → opens d text ≡ true)
    (has : Bool) (inner : has ≡ true → (k : K) (n : ℕ) → IsExample (P k (suc d)) (later k) (Some (starts k)) n) where
  example-or : {A : Type 0} (a b : Rule V A) (n : ℕ) (s : Bool) → nullable b ≡ s → pick s (clear (first a) (heads starts b)) (begins (first a) (heads starts a)) ≡ true
      → (s ≡ true → IsExample (derives_with P b d) (goes later b) (heads starts b) n) → (s ≡ false → IsExample (derives_with P a d) (goes later a) (heads starts a) n)
      → IsExample (derives_with P (Alternative a b) d) (goes later (Alternative a b)) (pick s (heads starts b) (heads starts a)) n
  example-or a b n true e c x y =
      let z : IsExample (derives_with P b d) (goes later b) (heads starts b) n = x refl in
      record {
        text = z.text;
        found = z.found;
        head_is_so = z.head_is_so;
        derived = λ R o.
            let p = head-or (goes later a) (λ t. goes later b t || (nullable b && first a t)) R o in let q = head-or (goes later b) (λ t. nullable b && first a t) R p.1 in
            subst (λ s. choose s (derives_with P a d n z.text R z.found) (derives_with P b d n z.text R z.found))
            (sym (ok-clear (first a) z.text (heads starts b) R z.head_is_so c (λ _. head-and (nullable b) (first a) R e q.1))) (z.derived R q.0);
      }
  example-or a b n false e c x y =
      let z : IsExample (derives_with P a d) (goes later a) (heads starts a) n = y refl in
      record {
        text = z.text;
        found = z.found;
        head_is_so = z.head_is_so;
        derived = λ R o. subst (λ s. choose s (derives_with P a d n z.text R z.found) (derives_with P b d n z.text R z.found))
            (sym (ok-begins (first a) z.text (heads starts a) R z.head_is_so c)) (z.derived R (head-or (goes later a) (λ t. goes later b t || (nullable b && first a t)) R o).0);
      }

  -- a text of a rule
  pub example : {A : Type 0} (r : Rule V A) → is_good later starts r ≡ true → is_flat has r ≡ true → (n : ℕ) → IsExample (derives_with P r d) (goes later r) (heads starts r) n
  example (Empty v) w l n = record { text = []; found = attributes v n []; head_is_so = refl; derived = λ R o. (refl, refl) }
  example (Terminal f e) w l n =
      let v = there (f e) w in
      record { text = laid e d n ∷ []; found = attributes v.0 (more_by (is_operator e.tok) n) (kept e ∷ []); head_is_so = refl; derived = λ R o. record { token = e; value = v.0; text_is = refl; value_is = v.1; got_is = refl } }
  example (Sequence f a b) w l n =
      let w = and_parts (is_good later starts a) (is_good later starts b && (is_flat true b && clear (goes later a) (heads starts b))) w in
      let v = and_parts (is_good later starts b) (is_flat true b && clear (goes later a) (heads starts b)) w.1 in
      let u = and_parts (is_flat true b) (clear (goes later a) (heads starts b)) v.1 in
      let l = and_parts (is_flat has a) (is_flat has b) l in
      let x : IsExample (derives_with P a d) (goes later a) (heads starts a) n = example a w.0 l.0 n in
      example-both (derives_with P a d) (derives_with P b d) f (goes later a) (goes later b) (goes later (Sequence f a b)) (nullable b) (heads starts a) (heads starts b) u.1
      (λ R o. (head-or (goes later b) (λ t. nullable b && goes later a t) R o).0) (λ R s o. head-and (nullable b) (goes later a) R s (head-or (goes later b) (λ t. nullable b && goes later a t) R o).1)
      (λ m text R u y e. firm-none (nullable b) d text (firm P h b d m text R u y) e) n x (example b v.0 l.1 x.found.before)
  example (Alternative a b) w l n =
      let w = and_parts (is_good later starts a) (is_good later starts b && (not (nullable a) && pick (nullable b) (clear (first a) (heads starts b)) (begins (first a) (heads starts a)))) w in
      let v = and_parts (is_good later starts b) (not (nullable a) && pick (nullable b) (clear (first a) (heads starts b)) (begins (first a) (heads starts a))) w.1 in
      example-or a b n (nullable b) refl (and_parts (not (nullable a)) (pick (nullable b) (clear (first a) (heads starts b)) (begins (first a) (heads starts a))) v.1).1
      (λ s. example b v.0 (sym (ap (λ s. pick s (is_flat has b) (is_flat has a)) s) ∙ l) n) (λ s. example a w.0 (sym (ap (λ s. pick s (is_flat has b) (is_flat has a)) s) ∙ l) n)
  example (Repetition a) w l n = record { text = []; found = attributes [] n []; head_is_so = refl; derived = λ R o. none (head-or (first a) (goes later a) R o).0 }
  example (Full a) w l n =
      let x : IsExample (derives_with P a d) (goes later a) (heads starts a) 0 = example a w l 0 in
      record { text = x.text; found = full n x.found; head_is_so = x.head_is_so; derived = λ R o. record { one = x.found; derives_one = x.derived R o; got_is = refl } }
  example (Hole s f a) w l n =
      let x : IsExample (derives_with P a d) (goes later a) (heads starts a) n = example a w l n in
      record { text = x.text; found = hole_in s f x.found; head_is_so = x.head_is_so; derived = λ R o. record { one = x.found; derives_one = x.derived R o; got_is = refl } }
  example (Construct k f a b) w l n =
      let w = open-parts later starts k f a b w in
      let l = and_parts (is_flat has a) has l in
      let x : IsExample (derives_with P a d) (goes later a) (heads starts a) n = example a w.0 l.0 n in
      example-both (derives_with P a d) (λ n text rest g. choose (head_is (first b) (tokens_of text ++ rest)) (derives_with P b d n text rest g) (P k (suc d) n text rest g)) f (goes later a) (λ t. later k t || goes later b t) (λ t. later k t || goes later b t) false
      (heads starts a) (Some (starts k)) w.4
      (λ R o. o) (λ R s o. absurd (true≢false (sym s)))
      (λ m text R u y e. absurd (true≢false (sym (sym (ap (opens d) e) ∙ second-some P d h k b (not_true (nullable b) w.3) m text R u y)))) n x
      (second-example (P k (suc d)) (derives_with P b d) (first b) (goes later b) (later k) (starts k) x.found.before w.5 (inner l.1 k x.found.before))
  example Fail w l n = absurd (true≢false (sym l))

-- where a test is weaker
pub off-later : (p q : Token → Bool) → ((t : Token) → p t ≡ false → q t ≡ false) → (R : List Token) → head_is p R ≡ false → head_is q R ≡ false
off-later p q h [] e = refl
off-later p q h (t ∷ R) e = h t e

-- and of a nonterminal
pub named-example : {K : Type 0} {V : K → Type 0} (table : Table V) (later : K → Token → Bool) (starts : K → Token) → IsFit table later starts → (j : ℕ) (k : K) (d n : ℕ) → IsExample (derives table (suc j) k d) (later k) (Some (starts k)) n
named-example table later starts fit j k d n =
    let x : IsExample (derives_with (derives table j) (table k) d) (goes later (table k)) (heads starts (table k)) n =
    example later starts (derives table j) d (named-firm table fit.filled j) false (λ e. absurd (true≢false (sym e))) (table k) (fit.good k) (fit.flat k) n in
    record { text = x.text; found = x.found; head_is_so = x.head_is_so ∙ fit.starts_are k; derived = λ R o. x.derived R (off-later (later k) (goes later (table k)) (fit.later_is k) R o) }
