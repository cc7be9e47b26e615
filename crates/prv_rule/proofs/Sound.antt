-- What a reader comes to means what it says.
use Rattle.std.proofs.Common.{◌≡◌, ℕ, zero, suc, ◌+◌, ◌<◌, ◌≤◌, nat_le, nat_lt, Bool, true, false, not, ◌&&◌, ◌||◌, List, [], ◌∷◌, ◌++◌, length, Option, Some, None, refl, sym, ap, ap₂, subst, ◌∙◌, arith, true≢false, ◌⊎◌, inl, inr, leb-true, lt-ltb, le-ltb}
use Rattle.std.proofs.lemmas.Bool.{and_parts, or_from, and_left}
use Rattle.prv_lex.specs.declared.token.Token.{Token}
use Rattle.prv_rule.specs.Operators.{is_operator, is_there}
use Rattle.prv_rule.specs.Skeletons.{kept}
use Rattle.prv_rule.specs.Texts.{Laid, tokens_of, more_by}
use Rattle.prv_rule.specs.Limits.{is_within}
use Rattle.prv_rule.specs.Rules.{Rule, Empty, Terminal, Sequence, Alternative, Repetition, Full, Hole, Construct, Fail, Attributes, attributes, joined, full, hole_in, nullable, first, head_is, choose, laid, Derived, IsTerminal, IsSequence, IsRepetition, none, more, derives_with, Table, derives, Why, Depth, Out, Done, Stop, Reader, bind, spent, valued, sequence, alternative, no_more, repetition, read_with, readers}
use Rattle.prv_rule.proofs.Tools.{not_true, tokens-append, tokens-length, head-or, head-or-from, head-and, head-and-none, head-and-off, head-none}
use Rattle.prv_rule.proofs.Firm.{opens, firm, firm-none, firm-some, opens-some, named-firm}
use Rattle.prv_rule.proofs.Means.{goes, Ok, IsRead, IsBegun, IsRefused, Means, Second, Inside, Cause, syntax, depth, operators}
use Rattle.prv_rule.proofs.Joins.{IsExample, clear, join-read, join-begun, join-once, join-first}
use Rattle.prv_rule.proofs.Examples.{heads, begins, pick, is_flat, is_good, IsFit, example, second-example, open-parts, second-some, named-example, off-later}

-- a text of some token begins as the tokens do
same-some : (x : List Laid) (ts r R : List Token) → 0 < length x → ts ≡ tokens_of x ++ r → (p : Token → Bool) → head_is p (tokens_of x ++ R) ≡ head_is p ts
same-some [] ts r R l e p = absurd (omega arith)
same-some (t ∷ x) ts r R l e p = sym (ap (head_is p) e)

-- what was read is some token where the next one begins it
pub some-read : (f : Token → Bool) (ts : List Token) (x : List Laid) → head_is f ts ≡ true → (x ≡ [] → head_is f ts ≡ false) → 0 < length x
some-read f ts [] e h = absurd (true≢false (sym e ∙ h refl))
some-read f ts (t ∷ x) e h = omega arith

-- one token
within-one : (d n : ℕ) (t : Token) → nat_lt 100 d ≡ false → (is_operator t.tok && nat_le 256 n) ≡ false → is_within (laid t d n ∷ []) ≡ true
within-one d n t s e = ap₂ (λ b c. not (b || c) && true) s e

sound-spent : {A : Type 0} (f : Token → Option A) (b : Token → Bool) (d n : ℕ) (t : Token) (ts : List Token) (v : A) → nat_lt 100 d ≡ false → f t ≡ Some v → (s : Bool) → (is_operator t.tok && nat_le 256 n) ≡ s
    → Means (λ n text rest g. IsTerminal f d n text g) b (λ t. is_there (f t)) false n (t ∷ ts) (spent s v n t ts)
sound-spent f b d n t ts v k e true o = inr (record {
  front = [];
  back = laid t d n ∷ [];
  found = attributes v (more_by (is_operator t.tok) n) (kept t ∷ []);
  tokens_are = refl;
  within = refl;
  cause = operators [] ts (laid t d n) [] o;
  same = λ p R. refl;
  derived = λ R x. record { token = t; value = v; text_is = refl; value_is = e; got_is = refl };
})
sound-spent f b d n t ts v k e false o = record {
  text = laid t d n ∷ [];
  tokens_are = refl;
  within = within-one d n t k o;
  idle = λ x. absurd (cc);
  derived = λ R x. record { token = t; value = v; text_is = refl; value_is = e; got_is = refl };
}

sound-one : {A : Type 0} (f : Token → Option A) (b : Token → Bool) (d n : ℕ) (t : Token) (ts : List Token) → nat_lt 100 d ≡ false → (o : Option A) → f t ≡ o → Means (λ n text rest g. IsTerminal f d n text g) b (λ t. is_there (f t)) false n (t ∷ ts) (valued o n t ts)
sound-one f b d n t ts k None e = inl (record { rest_is = refl; why_is = refl; off = ap is_there e; filled = refl })
sound-one f b d n t ts k (Some v) e = sound-spent f b d n t ts v k e (is_operator t.tok && nat_le 256 n) refl

-- one behind another
module _ {A B C : Type 0} (P : Derived A) (Q : Derived B) (f : A → B → C) (ga gb gt fa fb ft : Token → Bool) (sa sb st : Bool) (hd : Option Token) (c : clear ga hd ≡ true)
    (to_b : (R : List Token) → head_is gt R ≡ false → head_is gb R ≡ false) (to_a : (R : List Token) → sb ≡ true → head_is gt R ≡ false → head_is ga R ≡ false)
    (firm : (m : ℕ) (text : List Laid) (R : List Token) (w : Attributes B) → Q m text R w → text ≡ [] → sb ≡ true)
    (ex : (m : ℕ) → IsExample Q gb hd m) (p : Reader A) (q : Reader B) where
  -- the second one is a rule
  pub sound-then : ((ts : List Token) → head_is fa ts ≡ false → (sa ≡ false) ⊎ (head_is fb ts ≡ false) → head_is ft ts ≡ false) → (sa ≡ false → st ≡ false) → (sb ≡ false → st ≡ false)
      → ((m : ℕ) (r : List Token) → Means Q gb fb sb m r (q m r)) → (n : ℕ) (ts : List Token) (o : Out A) → Means P ga fa sa n ts o
      → Means (IsSequence P Q f) gt ft st n ts (bind o (λ u r. bind (q u.before r) (λ w s. Done (joined f u w) s)))
  sound-then to_t left right k n ts (Stop w r) (inl a) = inl (record { rest_is = a.rest_is; why_is = a.why_is; off = to_t ts a.off (inl a.filled); filled = left a.filled })
  sound-then to_t left right k n ts (Stop w r) (inr a) = inr (join-first P Q f ga gb gt sb to_b to_a firm hd c n ts r w a (ex a.found.before))
  sound-then to_t left right k n ts (Done u r) a = go (q u.before r) (k u.before r)
    where
      -- tokens where nothing was read before
      idle : (x : List Laid) → (x ≡ [] → head_is fa ts ≡ false) → ts ≡ tokens_of x ++ r → x ≡ [] → head_is fb r ≡ false → head_is ft ts ≡ false
      idle x h e z l = to_t ts (h z) (inr (ap (head_is fb) (e ∙ ap (λ x. tokens_of x ++ r) z) ∙ l))

      once : (s : List Token) (w : Why) → IsRefused fb sb r w s → (x : List Laid) → a.text ≡ x → IsRefused ft st ts w s ⊎ IsBegun (IsSequence P Q f) gt n ts w s
      once s w b [] e = inl (record { rest_is = b.rest_is ∙ sym (a.tokens_are ∙ ap (λ x. tokens_of x ++ r) e); why_is = b.why_is; off = idle a.text a.idle a.tokens_are e b.off; filled = right b.filled })
      once s w b (t ∷ x) e =
          let l : 0 < length a.text = subst (λ x. 0 < length x) (sym e) (let m : 0 < length (t ∷ x) = omega arith in m) in
          inr (join-once P Q f ga gb gt sb to_b to_a firm hd c fa n ts r s u w a l b.rest_is (ex u.before)
          (subst (λ z. Cause w z s (ex u.before).text) (sym e) (subst (λ w. Cause w (t ∷ x) s (ex u.before).text) (sym b.why_is) (syntax t x s (ex u.before).text))))

      go : (o : Out B) → Means Q gb fb sb u.before r o → Means (IsSequence P Q f) gt ft st n ts (bind o (λ w s. Done (joined f u w) s))
      go (Done w s) b = join-read P Q f ga gb gt sb to_b to_a firm fa fb ft n ts r s u w a b (λ e. idle a.text a.idle a.tokens_are (empty-front a.text b.text e) (b.idle (empty-back a.text b.text e)))
        where
          empty-front : (x y : List Laid) → x ++ y ≡ [] → x ≡ []
          empty-front [] y e = refl
          empty-front (t ∷ x) y e = absurd (cc)

          empty-back : (x y : List Laid) → x ++ y ≡ [] → y ≡ []
          empty-back [] y e = e
          empty-back (t ∷ x) y e = absurd (cc)
      go (Stop w s) (inl b) = once s w b a.text refl
      go (Stop w s) (inr b) = inr (join-begun P Q f ga gb gt sb to_b to_a firm fa n ts r s u w a b)

  -- the second one stands inside a construct
  pub sound-open : ((ts : List Token) → head_is fa ts ≡ false → head_is ft ts ≡ false) → sa ≡ false → st ≡ false → ((n : ℕ) (text : List Laid) (R : List Token) (g : Attributes A) → P n text R g → 0 < length text)
      → ((m : ℕ) (r : List Token) → Second Q gb (ex m).text m r (q m r)) → (n : ℕ) (ts : List Token) (o : Out A) → Means P ga fa sa n ts o
      → Means (IsSequence P Q f) gt ft st n ts (bind o (λ u r. bind (q u.before r) (λ w s. Done (joined f u w) s)))
  sound-open to_t sa_is st_is some k n ts (Stop w r) (inl a) = inl (record { rest_is = a.rest_is; why_is = a.why_is; off = to_t ts a.off; filled = st_is })
  sound-open to_t sa_is st_is some k n ts (Stop w r) (inr a) = inr (join-first P Q f ga gb gt sb to_b to_a firm hd c n ts r w a (ex a.found.before))
  sound-open to_t sa_is st_is some k n ts (Done u r) a = go (q u.before r) (k u.before r)
    where
      long : 0 < length a.text
      long = some n a.text r u (a.derived r (inr (λ p. refl)))

      shut : (s : List Token) (w : Why) → ((x : Laid) (front : List Laid) → Cause w (x ∷ front) s (ex u.before).text) → (x : List Laid) → a.text ≡ x → 0 < length x → Cause w a.text s (ex u.before).text
      shut s w b [] e l = absurd (omega arith)
      shut s w b (t ∷ x) e l = subst (λ z. Cause w z s (ex u.before).text) (sym e) (b t x)

      none : (x y : List Laid) → 0 < length x → x ++ y ≡ [] → head_is ft ts ≡ false
      none [] y l e = absurd (omega arith)
      none (t ∷ x) y l e = absurd (cc)

      go : (o : Out B) → Second Q gb (ex u.before).text u.before r o → Means (IsSequence P Q f) gt ft st n ts (bind o (λ w s. Done (joined f u w) s))
      go (Done w s) b = join-read P Q f ga gb gt sb to_b to_a firm fa (λ t. false) ft n ts r s u w a b (λ e. none a.text b.text long e)
      go (Stop w s) (inl b) = inr (join-once P Q f ga gb gt sb to_b to_a firm hd c fa n ts r s u w a long b.0 (ex u.before) (shut s w b.1 a.text refl long))
      go (Stop w s) (inr b) = inr (join-begun P Q f ga gb gt sb to_b to_a firm fa n ts r s u w a b)

-- a choice by the next token
module _ {A : Type 0} (P Q : Derived A) (ga gb gt fa fb ft : Token → Bool) (sa sb st : Bool) (n : ℕ)
    (to_a : (R : List Token) → head_is gt R ≡ false → head_is ga R ≡ false) (to_b : (R : List Token) → head_is gt R ≡ false → head_is gb R ≡ false)
    (to_f : (R : List Token) → sb ≡ true → head_is gt R ≡ false → head_is fa R ≡ false)
    (firm : (text : List Laid) (R : List Token) (w : Attributes A) → Q n text R w → text ≡ [] → sb ≡ true) (ts : List Token) where
  sound-first : (head_is fa ts ≡ true) → (o : Out A) → Means P ga fa sa n ts o → Means (λ n text rest g. choose (head_is fa (tokens_of text ++ rest)) (P n text rest g) (Q n text rest g)) gt ft st n ts o
  sound-first on (Done g r) a =
      let l : 0 < length a.text = some-read fa ts a.text on a.idle in
      record {
        text = a.text;
        tokens_are = a.tokens_are;
        within = a.within;
        idle = λ e. absurd (true≢false (sym on ∙ a.idle e));
        derived = λ R o. subst (λ s. choose s (P n a.text R g) (Q n a.text R g)) (sym (same-some a.text ts r R l a.tokens_are fa ∙ on)) (a.derived R (part r R o));
      }
    where
      part : (r R : List Token) → Ok gt r R → Ok ga r R
      part r R (inl o) = inl (to_a R o)
      part r R (inr o) = inr o
  sound-first on (Stop w r) (inl a) = absurd (true≢false (sym on ∙ a.off))
  sound-first on (Stop w r) (inr a) = inr (record {
    front = a.front;
    back = a.back;
    found = a.found;
    tokens_are = a.tokens_are;
    within = a.within;
    cause = a.cause;
    same = a.same;
    derived = λ R o. subst (λ s. choose s (P n (a.front ++ a.back) R a.found) (Q n (a.front ++ a.back) R a.found)) (sym (a.same fa R ∙ on)) (a.derived R (to_a R o));
  })

  sound-second : head_is fa ts ≡ false → (head_is fb ts ≡ false → head_is ft ts ≡ false) → (sb ≡ false → st ≡ false) → (o : Out A) → Means Q gb fb sb n ts o
      → Means (λ n text rest g. choose (head_is fa (tokens_of text ++ rest)) (P n text rest g) (Q n text rest g)) gt ft st n ts o
  sound-second off to_t right (Done g r) b =
      record {
        text = b.text;
        tokens_are = b.tokens_are;
        within = b.within;
        idle = λ e. to_t (b.idle e);
        derived = λ R o. subst (λ s. choose s (P n b.text R g) (Q n b.text R g)) (sym (other r R b.text b.tokens_are o (firm b.text R g (b.derived R (part r R o))))) (b.derived R (part r R o));
      }
    where
      part : (r R : List Token) → Ok gt r R → Ok gb r R
      part r R (inl o) = inl (to_b R o)
      part r R (inr o) = inr o

      other : (r R : List Token) (x : List Laid) → ts ≡ tokens_of x ++ r → Ok gt r R → (x ≡ [] → sb ≡ true) → head_is fa (tokens_of x ++ R) ≡ false
      other r R [] e (inl o) k = to_f R (k refl) o
      other r R [] e (inr o) k = o fa ∙ sym (ap (head_is fa) e) ∙ off
      other r R (t ∷ x) e o k = sym (ap (head_is fa) e) ∙ off
  sound-second off to_t right (Stop w r) (inl b) = inl (record { rest_is = b.rest_is; why_is = b.why_is; off = to_t b.off; filled = right b.filled })
  sound-second off to_t right (Stop w r) (inr b) = inr (record {
    front = b.front;
    back = b.back;
    found = b.found;
    tokens_are = b.tokens_are;
    within = b.within;
    cause = b.cause;
    same = b.same;
    derived = λ R o. subst (λ s. choose s (P n (b.front ++ b.back) R b.found) (Q n (b.front ++ b.back) R b.found)) (sym (b.same fa R ∙ off)) (b.derived R (to_b R o));
  })

  pub sound-or : (s : Bool) → head_is fa ts ≡ s → (p q : Reader A) → Means P ga fa sa n ts (p n ts) → Means Q gb fb sb n ts (q n ts) → (head_is fa ts ≡ false → head_is fb ts ≡ false → head_is ft ts ≡ false) → (sb ≡ false → st ≡ false)
      → Means (λ n text rest g. choose (head_is fa (tokens_of text ++ rest)) (P n text rest g) (Q n text rest g)) gt ft st n ts (alternative s p q n ts)
  sound-or true e p q a b to_t right = sound-first e (p n ts) a
  sound-or false e p q a b to_t right = sound-second e (to_t e) right (q n ts) b

-- repeated
module _ {A : Type 0} (P : Derived A) (p : Reader A) (ga b : Token → Bool)
    (some : (n : ℕ) (text : List Laid) (R : List Token) (g : Attributes A) → P n text R g → 0 < length text) (h : (n : ℕ) (ts : List Token) → Means P ga b false n ts (p n ts)) where
  -- none
  read-none : (n : ℕ) (ts : List Token) → head_is b ts ≡ false → IsRead (IsRepetition P b) (λ t. b t || ga t) b n ts (attributes [] n []) ts
  read-none n ts e = record { text = []; tokens_are = refl; within = refl; idle = λ _. e; derived = λ R o. none (off R o) }
    where
      off : (R : List Token) → Ok (λ t. b t || ga t) ts R → head_is b R ≡ false
      off R (inl o) = (head-or b ga R o).0
      off R (inr o) = o b ∙ e

  -- one behind another is one more
  as-more : (n : ℕ) (text : List Laid) (R : List Token) (g : Attributes (List A)) → head_is b (tokens_of text ++ R) ≡ true → IsSequence P (IsRepetition P b) (λ v vs. v ∷ vs) n text R g → IsRepetition P b n text R g
  as-more n text R g on d =
      let e : head_is b (tokens_of d.front ++ (tokens_of d.back ++ R)) ≡ true = ap (head_is b) (sym (ap (λ t. tokens_of t ++ R) d.text_is ∙ tokens-append d.front d.back R)) ∙ on in
      subst (λ t. IsRepetition P b n t R g) (sym d.text_is) (subst (λ g. IsRepetition P b n (d.front ++ d.back) R g) (sym d.got_is)
      (more d.front d.back d.one d.other (some n d.front (tokens_of d.back ++ R) d.one d.derives_one) e d.derives_one d.derives_other))

  means-more : (n : ℕ) (ts : List Token) → head_is b ts ≡ true → (o : Out (List A)) → Means (IsSequence P (IsRepetition P b) (λ v vs. v ∷ vs)) (λ t. b t || ga t) b false n ts o → Means (IsRepetition P b) (λ t. b t || ga t) b true n ts o
  means-more n ts on (Done g r) a =
      let l : 0 < length a.text = some-read b ts a.text on a.idle in
      record { text = a.text; tokens_are = a.tokens_are; within = a.within; idle = a.idle; derived = λ R o. as-more n a.text R g (same-some a.text ts r R l a.tokens_are b ∙ on) (a.derived R o) }
  means-more n ts on (Stop w r) (inl a) = absurd (true≢false (sym on ∙ a.off))
  means-more n ts on (Stop w r) (inr a) = inr (record {
    front = a.front;
    back = a.back;
    found = a.found;
    tokens_are = a.tokens_are;
    within = a.within;
    cause = a.cause;
    same = a.same;
    derived = λ R o. as-more n (a.front ++ a.back) R a.found (a.same b R ∙ on) (a.derived R o);
  })

  pub sound-many : (fuel n : ℕ) (ts : List Token) → length ts ≤ fuel → Means (IsRepetition P b) (λ t. b t || ga t) b true n ts (repetition b p fuel n ts)
  sound-many zero n [] l = read-none n [] refl
  sound-many zero n (t ∷ ts) l = absurd (omega arith)
  sound-many (suc fuel) n ts l = go (sound-many fuel) (head_is b ts) refl
    where
      step : ((n : ℕ) (ts : List Token) → length ts ≤ fuel → Means (IsRepetition P b) (λ t. b t || ga t) b true n ts (repetition b p fuel n ts)) → head_is b ts ≡ true → (o : Out A) → Means P ga b false n ts o
          → Means (IsSequence P (IsRepetition P b) (λ v vs. v ∷ vs)) (λ t. b t || ga t) b false n ts (bind o (λ u r. bind (repetition b p fuel u.before r) (λ w s. Done (joined (λ v vs. v ∷ vs) u w) s)))
      step ih on (Stop w r) (inl a) = absurd (true≢false (sym on ∙ a.off))
      step ih on (Stop w r) (inr a) = inr (join-first P (IsRepetition P b) (λ v vs. v ∷ vs) ga (λ t. b t || ga t) (λ t. b t || ga t) true (λ R o. o) (λ R s o. (head-or b ga R o).1) (λ m text R u y e. refl) None refl n ts r w a
          (record { text = []; found = attributes [] a.found.before []; head_is_so = refl; derived = λ R o. none (head-or b ga R o).0 }))
      step ih on (Done u r) a =
          let l1 : 0 < length a.text = some-read b ts a.text on a.idle in
          let l2 : length ts ≡ length a.text + length r = ap length a.tokens_are ∙ tokens-length a.text r in
          last (repetition b p fuel u.before r) (ih u.before r (omega arith))
        where
          last : (o : Out (List A)) → Means (IsRepetition P b) (λ t. b t || ga t) b true u.before r o → Means (IsSequence P (IsRepetition P b) (λ v vs. v ∷ vs)) (λ t. b t || ga t) b false n ts (bind o (λ w s. Done (joined (λ v vs. v ∷ vs) u w) s))
          last (Done w s) c = join-read P (IsRepetition P b) (λ v vs. v ∷ vs) ga (λ t. b t || ga t) (λ t. b t || ga t) true (λ R o. o) (λ R s o. (head-or b ga R o).1) (λ m text R u y e. refl) b b b n ts r s u w a c
              (λ e. absurd (not-empty a.text c.text (some-read b ts a.text on a.idle) e))
            where
              not-empty : (x y : List Laid) → 0 < length x → x ++ y ≡ [] → ⊥
              not-empty [] y l e = absurd (omega arith)
              not-empty (t ∷ x) y l e = absurd (cc)
          last (Stop w s) (inl c) = absurd (true≢false c.filled)
          last (Stop w s) (inr c) = inr (join-begun P (IsRepetition P b) (λ v vs. v ∷ vs) ga (λ t. b t || ga t) (λ t. b t || ga t) true (λ R o. o) (λ R s o. (head-or b ga R o).1) (λ m text R u y e. refl) b n ts r s u w a c)

      go : ((n : ℕ) (ts : List Token) → length ts ≤ fuel → Means (IsRepetition P b) (λ t. b t || ga t) b true n ts (repetition b p fuel n ts)) → (s : Bool) → head_is b ts ≡ s
          → Means (IsRepetition P b) (λ t. b t || ga t) b true n ts (alternative s (sequence (λ v vs. v ∷ vs) p (repetition b p fuel)) no_more n ts)
      go ih true e = means-more n ts e (sequence (λ v vs. v ∷ vs) p (repetition b p fuel) n ts) (step ih e (p n ts) (h n ts))
      go ih false e = read-none n ts e

-- with another value
sound-as : {A B : Type 0} (P : Derived A) (Q : Derived B) (F : Attributes A → Attributes B) (b f : Token → Bool) (s : Bool) (m n : ℕ) (ts : List Token) → ((text : List Laid) (R : List Token) (g : Attributes A) → P m text R g → Q n text R (F g)) → (o : Out A) → Means P b f s m ts o
    → Means Q b f s n ts (bind o (λ u r. Done (F u) r))
sound-as P Q F b f s m n ts k (Done u r) a = record { text = a.text; tokens_are = a.tokens_are; within = a.within; idle = a.idle; derived = λ R o. k a.text R u (a.derived R o) }
sound-as P Q F b f s m n ts k (Stop w r) (inl a) = inl a
sound-as P Q F b f s m n ts k (Stop w r) (inr a) = inr (record {
  front = a.front;
  back = a.back;
  found = F a.found;
  tokens_are = a.tokens_are;
  within = a.within;
  cause = a.cause;
  same = a.same;
  derived = λ R o. k (a.front ++ a.back) R a.found (a.derived R o);
})

-- what stands behind an opening: the rule where the next token begins it, else what stands inside the construct
module _ {A : Type 0} (P Q : Derived A) (fb gb gk : Token → Bool) (m : ℕ) (ts : List Token) (text : List Laid) (some : (text : List Laid) (R : List Token) (g : Attributes A) → P m text R g → 0 < length text) where
  second-rule : head_is fb ts ≡ true → (o : Out A) → Means Q gb fb false m ts o → Second (λ n text rest g. choose (head_is fb (tokens_of text ++ rest)) (Q n text rest g) (P n text rest g)) (λ t. gk t || gb t) text m ts o
  second-rule on (Done g r) a =
      let l : 0 < length a.text = some-read fb ts a.text on a.idle in
      record {
        text = a.text;
        tokens_are = a.tokens_are;
        within = a.within;
        idle = λ _. head-none (λ t. false) (λ t. refl) ts;
        derived = λ R o. subst (λ s. choose s (Q m a.text R g) (P m a.text R g)) (sym (same-some a.text ts r R l a.tokens_are fb ∙ on)) (a.derived R (part r R o));
      }
    where
      part : (r R : List Token) → Ok (λ t. gk t || gb t) r R → Ok gb r R
      part r R (inl o) = inl (head-or gk gb R o).1
      part r R (inr o) = inr o
  second-rule on (Stop w r) (inl a) = absurd (true≢false (sym on ∙ a.off))
  second-rule on (Stop w r) (inr a) = inr (record {
    front = a.front;
    back = a.back;
    found = a.found;
    tokens_are = a.tokens_are;
    within = a.within;
    cause = a.cause;
    same = a.same;
    derived = λ R o. subst (λ s. choose s (Q m (a.front ++ a.back) R a.found) (P m (a.front ++ a.back) R a.found)) (sym (a.same fb R ∙ on)) (a.derived R (head-or gk gb R o).1);
  })

  second-name : head_is fb ts ≡ false → (R : List Token) (g : Attributes A) → P m text R g → (o : Out A) → Inside P gk m ts o → Second (λ n text rest g. choose (head_is fb (tokens_of text ++ rest)) (Q n text rest g) (P n text rest g)) (λ t. gk t || gb t) text m ts o
  second-name off R g x (Done u r) a =
      let l : 0 < length a.text = some a.text r u (a.derived r (inr (λ p. refl))) in
      record {
        text = a.text;
        tokens_are = a.tokens_are;
        within = a.within;
        idle = λ _. head-none (λ t. false) (λ t. refl) ts;
        derived = λ R o. subst (λ s. choose s (Q m a.text R u) (P m a.text R u)) (sym (same-some a.text ts r R l a.tokens_are fb ∙ off)) (a.derived R (part r R o));
      }
    where
      part : (r R : List Token) → Ok (λ t. gk t || gb t) r R → Ok gk r R
      part r R (inl o) = inl (head-or gk gb R o).0
      part r R (inr o) = inr o
  second-name off R g x (Stop w r) (inl a) = inl (a.rest_is, λ y front. a.cause y front text R g x)
  second-name off R g x (Stop w r) (inr a) = inr (record {
    front = a.front;
    back = a.back;
    found = a.found;
    tokens_are = a.tokens_are;
    within = a.within;
    cause = a.cause;
    same = a.same;
    derived = λ R o. subst (λ s. choose s (Q m (a.front ++ a.back) R a.found) (P m (a.front ++ a.back) R a.found)) (sym (a.same fb R ∙ off)) (a.derived R (head-or gk gb R o).0);
  })

  pub second-sound : (s : Bool) → head_is fb ts ≡ s → (R : List Token) (g : Attributes A) → P m text R g → (p q : Reader A) → Inside P gk m ts (p m ts) → Means Q gb fb false m ts (q m ts)
      → Second (λ n text rest g. choose (head_is fb (tokens_of text ++ rest)) (Q n text rest g) (P n text rest g)) (λ t. gk t || gb t) text m ts (alternative s q p m ts)
  second-sound true e R g x p q a b = second-rule e (q m ts) b
  second-sound false e R g x p q a b = second-name e R g x (p m ts) a

module _ {K : Type 0} {V : K → Type 0} (later : K → Token → Bool) (starts : K → Token) (P : (k : K) → ℕ → Derived (V k)) (p : (k : K) → Reader (V k)) (d : ℕ) (shallow : nat_lt 100 d ≡ false)
    (h : (k : K) (d n : ℕ) (text : List Laid) (rest : List Token) (g : Attributes (V k)) → P k d n text rest g → opens d text ≡ true)
    (inner : (k : K) (n : ℕ) → IsExample (P k (suc d)) (later k) (Some (starts k)) n)
    (sounds : (k : K) (n : ℕ) (ts : List Token) → Inside (P k (suc d)) (later k) n ts (p k n ts)) where
  pub is_some : {A : Type 0} (a : Rule V A) → not (nullable a) ≡ true → (n : ℕ) (text : List Laid) (R : List Token) (g : Attributes A) → derives_with P a d n text R g → 0 < length text
  is_some a s n text R g x = opens-some d text (firm-some (nullable a) d text (firm P h a d n text R g x) (not_true (nullable a) s))

  is_none : {A : Type 0} (b : Rule V A) → (n : ℕ) (text : List Laid) (R : List Token) (g : Attributes A) → derives_with P b d n text R g → text ≡ [] → nullable b ≡ true
  is_none b n text R g x e = firm-none (nullable b) d text (firm P h b d n text R g x) e

  every : {A : Type 0} (r : Rule V A) → is_good later starts r ≡ true → is_flat true r ≡ true → (n : ℕ) → IsExample (derives_with P r d) (goes later r) (heads starts r) n
  every r w l n = example later starts P d h true (λ _. inner) r w l n

  second-with : (k : K) (b : Rule V (V k)) → clear (first b) (Some (starts k)) ≡ true → (m : ℕ) (r : List Token) → Means (derives_with P b d) (goes later b) (first b) false m r (read_with p b m r)
      → Second (λ n text rest g. choose (head_is (first b) (tokens_of text ++ rest)) (derives_with P b d n text rest g) (P k (suc d) n text rest g)) (λ t. later k t || goes later b t) (inner k m).text m r (alternative (head_is (first b) r) (read_with p b) (p k) m r)
  second-with k b w m r x =
      second-sound (P k (suc d)) (derives_with P b d) (first b) (goes later b) (later k) m r (inner k m).text (λ text R g y. opens-some (suc d) text (h k (suc d) m text R g y)) (head_is (first b) r) refl [] (inner k m).found ((inner k m).derived [] refl)
      (p k) (read_with p b) (sounds k m r) x

  -- what a rule's reader comes to means what it says
  pub sound : {A : Type 0} (r : Rule V A) → is_good later starts r ≡ true → (n : ℕ) (ts : List Token) → Means (derives_with P r d) (goes later r) (first r) (nullable r) n ts (read_with p r n ts)
  sound (Empty v) w n ts = record { text = []; tokens_are = refl; within = refl; idle = λ _. head-none (λ t. false) (λ t. refl) ts; derived = λ R o. (refl, refl) }
  sound (Terminal f e) w n [] = inl (record { rest_is = refl; why_is = refl; off = refl; filled = refl })
  sound (Terminal f e) w n (t ∷ ts) = sound-one f (λ t. false) d n t ts shallow (f t) refl
  sound (Sequence f a b) w n ts =
      let w = and_parts (is_good later starts a) (is_good later starts b && (is_flat true b && clear (goes later a) (heads starts b))) w in
      let v = and_parts (is_good later starts b) (is_flat true b && clear (goes later a) (heads starts b)) w.1 in
      let x = and_parts (is_flat true b) (clear (goes later a) (heads starts b)) v.1 in
      sound-then (derives_with P a d) (derives_with P b d) f (goes later a) (goes later b) (goes later (Sequence f a b)) (first a) (first b) (first (Sequence f a b)) (nullable a) (nullable b) (nullable (Sequence f a b)) (heads starts b) x.1
      (λ R o. (head-or (goes later b) (λ t. nullable b && goes later a t) R o).0) (λ R s o. head-and (nullable b) (goes later a) R s (head-or (goes later b) (λ t. nullable b && goes later a t) R o).1)
      (is_none b) (every b v.0 x.0) (read_with p a) (read_with p b)
      (λ ts e k. head-or-from (first a) (λ t. nullable a && first b t) ts e (neither (nullable a) (first b) ts k)) (λ s. and_left (nullable a) (nullable b) s) (λ s. none-right (nullable a) (nullable b) s)
      (sound b v.0) n ts (read_with p a n ts) (sound a w.0 n ts)
    where
      neither : (s : Bool) (q : Token → Bool) (ts : List Token) → (s ≡ false) ⊎ (head_is q ts ≡ false) → head_is (λ t. s && q t) ts ≡ false
      neither s q ts (inl e) = head-and-none s q ts e
      neither s q ts (inr e) = head-and-off s q ts e

      none-right : (x y : Bool) → y ≡ false → (x && y) ≡ false
      none-right true y e = e
      none-right false y e = refl
  sound (Alternative a b) w n ts =
      let w = and_parts (is_good later starts a) (is_good later starts b && (not (nullable a) && pick (nullable b) (clear (first a) (heads starts b)) (begins (first a) (heads starts a)))) w in
      let v = and_parts (is_good later starts b) (not (nullable a) && pick (nullable b) (clear (first a) (heads starts b)) (begins (first a) (heads starts a))) w.1 in
      let u = and_parts (not (nullable a)) (pick (nullable b) (clear (first a) (heads starts b)) (begins (first a) (heads starts a))) v.1 in
      sound-or (derives_with P a d) (derives_with P b d) (goes later a) (goes later b) (goes later (Alternative a b)) (first a) (first b) (first (Alternative a b)) (nullable a) (nullable b) (nullable (Alternative a b)) n
      (λ R o. (head-or (goes later a) (λ t. goes later b t || (nullable b && first a t)) R o).0)
      (λ R o. (head-or (goes later b) (λ t. nullable b && first a t) R (head-or (goes later a) (λ t. goes later b t || (nullable b && first a t)) R o).1).0)
      (λ R s o. head-and (nullable b) (first a) R s (head-or (goes later b) (λ t. nullable b && first a t) R (head-or (goes later a) (λ t. goes later b t || (nullable b && first a t)) R o).1).1)
      (is_none b n) ts (head_is (first a) ts) refl (read_with p a) (read_with p b) (sound a w.0 n ts) (sound b v.0 n ts)
      (λ e k. head-or-from (first a) (first b) ts e k) (λ s. or_from (nullable a) (nullable b) (not_true (nullable a) u.0) s)
  sound (Repetition a) w n ts = let w = and_parts (is_good later starts a) (not (nullable a)) w in
      sound-many (derives_with P a d) (read_with p a) (goes later a) (first a) (is_some a w.1)
      (λ n ts. subst (λ s. Means (derives_with P a d) (goes later a) (first a) s n ts (read_with p a n ts)) (not_true (nullable a) w.1) (sound a w.0 n ts)) (length ts) n ts (omega arith)
  sound (Full a) w n ts = sound-as (derives_with P a d) (derives_with P (Full a) d) (full n) (goes later a) (first a) (nullable a) 0 n ts (λ text R g x. record { one = g; derives_one = x; got_is = refl }) (read_with p a 0 ts) (sound a w 0 ts)
  sound (Hole s f a) w n ts = sound-as (derives_with P a d) (derives_with P (Hole s f a) d) (hole_in s f) (goes later a) (first a) (nullable a) n n ts (λ text R g x. record { one = g; derives_one = x; got_is = refl }) (read_with p a n ts) (sound a w n ts)
  sound (Construct k f a b) w n ts =
      let w = open-parts later starts k f a b w in
      sound-open (derives_with P a d) (λ n text rest g. choose (head_is (first b) (tokens_of text ++ rest)) (derives_with P b d n text rest g) (P k (suc d) n text rest g)) f
      (goes later a) (λ t. later k t || goes later b t) (λ t. later k t || goes later b t) (first a) (λ t. false) (first a) (nullable a) false (nullable a && nullable b) (Some (starts k)) w.4
      (λ R o. o) (λ R s o. absurd (true≢false (sym s))) (λ m text R u y e. absurd (true≢false (sym (sym (ap (opens d) e) ∙ second-some P d h k b (not_true (nullable b) w.3) m text R u y))))
      (λ m. second-example (P k (suc d)) (derives_with P b d) (first b) (goes later b) (later k) (starts k) m w.5 (inner k m))
      (read_with p a) (λ n ts. alternative (head_is (first b) ts) (read_with p b) (p k) n ts)
      (λ ts e. e) (not_true (nullable a) w.1) (and_left (nullable a) (nullable b) (not_true (nullable a) w.1)) (is_some a w.1)
      (λ m r. second-with k b w.5 m r (subst (λ s. Means (derives_with P b d) (goes later b) (first b) s m r (read_with p b m r)) (not_true (nullable b) w.3) (sound b w.2 m r)))
      n ts (read_with p a n ts) (sound a w.0 n ts)
  sound Fail w n ts = inl (record { rest_is = refl; why_is = refl; off = head-none (λ t. false) (λ t. refl) ts; filled = refl })

  -- and so does what stands behind an opening
  pub second : (k : K) (b : Rule V (V k)) → is_good later starts b ≡ true → not (nullable b) ≡ true → clear (first b) (Some (starts k)) ≡ true → (m : ℕ) (r : List Token)
      → Second (λ n text rest g. choose (head_is (first b) (tokens_of text ++ rest)) (derives_with P b d n text rest g) (P k (suc d) n text rest g)) (λ t. later k t || goes later b t) (inner k m).text m r (alternative (head_is (first b) r) (read_with p b) (p k) m r)
  second k b x y w m r = second-with k b w m r (subst (λ s. Means (derives_with P b d) (goes later b) (first b) s m r (read_with p b m r)) (not_true (nullable b) y) (sound b x m r))

-- a text inside too many constructs
deep-cause : (d : ℕ) (x : Laid) (front : List Laid) (t : Token) (ts : List Token) (text : List Laid) → d ≡ 101 → opens d text ≡ true → Cause Depth (x ∷ front) (t ∷ ts) text
deep-cause d x front t ts [] e f = absurd (true≢false (sym f))
deep-cause d x front t ts (o ∷ text) e f = let l : d ≤ o.depth = leb-true d o.depth f in depth x front t ts o text (lt-ltb 100 o.depth (omega arith))

-- a rule's outcome as that of a nonterminal
as-inside : {A : Type 0} (P : Derived A) (b b' f : Token → Bool) (s : Bool) (n : ℕ) (ts : List Token) → ((t : Token) → b' t ≡ false → b t ≡ false) → (o : Out A) → Means P b f s n ts o → Inside P b' n ts o
as-inside P b b' f s n ts h (Done g r) a = record { text = a.text; tokens_are = a.tokens_are; within = a.within; idle = λ _. head-none (λ t. false) (λ t. refl) ts; derived = λ R o. a.derived R (wide r R o) }
  where
    wide : (r R : List Token) → Ok b' r R → Ok b r R
    wide r R (inl o) = inl (off-later b' b h R o)
    wide r R (inr o) = inr o
as-inside P b b' f s n ts h (Stop w r) (inl a) = inl (record { rest_is = a.rest_is; cause = λ x front text R g y. subst (λ w. Cause w (x ∷ front) r text) (sym a.why_is) (syntax x front r text) })
as-inside P b b' f s n ts h (Stop w r) (inr a) = inr (record {
  front = a.front;
  back = a.back;
  found = a.found;
  tokens_are = a.tokens_are;
  within = a.within;
  cause = a.cause;
  same = a.same;
  derived = λ R o. a.derived R (off-later b' b h R o);
})

-- and so are those of nonterminals
pub named-sound : {K : Type 0} {V : K → Type 0} (table : Table V) (later : K → Token → Bool) (starts : K → Token) → IsFit table later starts → (room d : ℕ) → room + d ≡ 101 → (k : K) (n : ℕ) (ts : List Token)
    → Inside (derives table (suc room) k d) (later k) n ts (readers table room k n ts)
named-sound table later starts fit zero d e k n [] = inl (record { rest_is = refl; cause = λ x front text R g y. syntax x front [] text })
named-sound table later starts fit zero d e k n (t ∷ ts) = inl (record { rest_is = refl; cause = λ x front text R g y. deep-cause d x front t ts text (omega arith) (named-firm table fit.filled (suc zero) k d n text R g y) })
named-sound table later starts fit (suc room) d e k n ts =
    as-inside (derives table (suc (suc room)) k d) (goes later (table k)) (later k) (first (table k)) (nullable (table k)) n ts (fit.later_is k) (readers table (suc room) k n ts)
    (sound later starts (derives table (suc room)) (readers table room) d (le-ltb 100 d (omega arith)) (named-firm table fit.filled (suc room)) (λ k n. named-example table later starts fit room k (suc d) n)
    (λ k n ts. named-sound table later starts fit room (suc d) (omega arith) k n ts) (table k) (fit.good k) n ts)
