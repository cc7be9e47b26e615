-- One behind another: what the outcomes mean together.
use Rattle.std.proofs.Common.{◌≡◌, ℕ, ◌<◌, Bool, true, false, not, List, [], ◌∷◌, ◌++◌, length, Option, Some, None, refl, sym, ap, subst, ◌∙◌, arith, inl, inr, append_assoc}
use Rattle.prv_lex.specs.declared.token.Token.{Token}
use Rattle.prv_rule.specs.Texts.{Laid, tokens_of}
use Rattle.prv_rule.specs.Rules.{Attributes, joined, head_is, Derived, IsSequence, Why}
use Rattle.prv_rule.proofs.Tools.{not_true, tokens-append, within-append}
use Rattle.prv_rule.proofs.Means.{Ok, IsRead, IsBegun, Cause, syntax, depth, operators}

-- the first token of a text
abbrev pub head_token : List Laid → Option Token
head_token [] = None
head_token (t ∷ text) = Some t.token

-- a text that a rule derives before each rest with which it doesn't go on, by its first token
pub record IsExample {A : Type 0} (P : Derived A) (b : Token → Bool) (hd : Option Token) (n : ℕ) : Type 0 where
  pub text : List Laid
  pub found : Attributes A
  pub head_is_so : head_token text ≡ hd
  pub derived : (R : List Token) → head_is b R ≡ false → P n text R found

-- no text goes on with this token
abbrev pub clear : (Token → Bool) → Option Token → Bool
clear g None = true
clear g (Some t) = not (g t)

pub grown : (w : Why) (front : List Laid) (rest : List Token) (back more : List Laid) → Cause w front rest back → Cause w front rest (back ++ more)
grown w front rest back more (syntax x f r b) = syntax x f r (b ++ more)
grown w front rest back more (depth x f t r o b e) = depth x f t r o (b ++ more) e
grown w front rest back more (operators f r o b e) = operators f r o (b ++ more) e

behind : (w : Why) (x front : List Laid) (rest : List Token) (back : List Laid) → Cause w front rest back → Cause w (x ++ front) rest back
behind w [] front rest back (syntax y f r b) = syntax y f r b
behind w (z ∷ x) front rest back (syntax y f r b) = syntax z (x ++ y ∷ f) r b
behind w [] front rest back (depth y f t r o b e) = depth y f t r o b e
behind w (z ∷ x) front rest back (depth y f t r o b e) = depth z (x ++ y ∷ f) t r o b e
behind w x front rest back (operators f r o b e) = operators (x ++ f) r o b e

-- tests of the first token look no further
pub same-front : (x : List Laid) (ts r R : List Token) → ts ≡ tokens_of x ++ r → ((p : Token → Bool) → head_is p R ≡ head_is p r) → (p : Token → Bool) → head_is p (tokens_of x ++ R) ≡ head_is p ts
same-front [] ts r R e s p = s p ∙ ap (head_is p) (sym e)
same-front (t ∷ x) ts r R e s p = sym (ap (head_is p) e)

module _ {A B C : Type 0} (P : Derived A) (Q : Derived B) (f : A → B → C) (ga gb gt : Token → Bool) (sb : Bool)
    (to_b : (R : List Token) → head_is gt R ≡ false → head_is gb R ≡ false) (to_a : (R : List Token) → sb ≡ true → head_is gt R ≡ false → head_is ga R ≡ false)
    (firm : (m : ℕ) (text : List Laid) (R : List Token) (w : Attributes B) → Q m text R w → text ≡ [] → sb ≡ true) where
  ok-back : (s R : List Token) → Ok gt s R → Ok gb s R
  ok-back s R (inl e) = inl (to_b R e)
  ok-back s R (inr e) = inr e

  ok-front : (y : List Laid) (r s R : List Token) → (y ≡ [] → sb ≡ true) → r ≡ tokens_of y ++ s → Ok gt s R → Ok ga r (tokens_of y ++ R)
  ok-front [] r s R h e (inl o) = inl (to_a R (h refl) o)
  ok-front [] r s R h e (inr o) = inr (same-front [] r s R e o)
  ok-front (t ∷ y) r s R h e o = inr (λ p. sym (ap (head_is p) e))

  -- behind an example
  ok-example : (hd : Option Token) → clear ga hd ≡ true → (y : List Laid) → head_token y ≡ hd → (y ≡ [] → sb ≡ true) → (R : List Token) → head_is gt R ≡ false → head_is ga (tokens_of y ++ R) ≡ false
  ok-example hd c [] e h R o = to_a R (h refl) o
  ok-example hd c (t ∷ y) e h R o = not_true (ga t.token) (ap (clear ga) e ∙ c)

  both-as : (n : ℕ) (x y : List Laid) (R : List Token) (u : Attributes A) (w : Attributes B) → P n x (tokens_of y ++ R) u → Q u.before y R w → IsSequence P Q f n (x ++ y) R (joined f u w)
  both-as n x y R u w d e = record { front = x; back = y; one = u; other = w; text_is = refl; derives_one = d; derives_other = e; got_is = refl }

  -- both were read
  pub join-read : (fa fb ft : Token → Bool) (n : ℕ) (ts r s : List Token) (u : Attributes A) (w : Attributes B) (a : IsRead P ga fa n ts u r) (b : IsRead Q gb fb u.before r w s)
      → (a.text ++ b.text ≡ [] → head_is ft ts ≡ false) → IsRead (IsSequence P Q f) gt ft n ts (joined f u w) s
  join-read fa fb ft n ts r s u w a b idle =
      record {
        text = a.text ++ b.text;
        tokens_are = a.tokens_are ∙ ap (λ r. tokens_of a.text ++ r) b.tokens_are ∙ sym (tokens-append a.text b.text s);
        within = within-append a.text b.text a.within b.within;
        idle = idle;
        derived = λ R o. both-as n a.text b.text R u w
            (a.derived (tokens_of b.text ++ R) (ok-front b.text r s R (firm u.before b.text s w (b.derived s (inr (λ p. refl)))) b.tokens_are o))
            (b.derived R (ok-back s R o));
      }

  -- the second one is begun
  pub join-begun : (fa : Token → Bool) (n : ℕ) (ts r s : List Token) (u : Attributes A) (v : Why) (a : IsRead P ga fa n ts u r) (b : IsBegun Q gb u.before r v s) → IsBegun (IsSequence P Q f) gt n ts v s
  join-begun fa n ts r s u v a b =
      record {
        front = a.text ++ b.front;
        back = b.back;
        found = joined f u b.found;
        tokens_are = a.tokens_are ∙ ap (λ r. tokens_of a.text ++ r) b.tokens_are ∙ sym (tokens-append a.text b.front s);
        within = within-append a.text b.front a.within b.within;
        cause = behind v a.text b.front s b.back b.cause;
        same = λ p R. ap (λ x. head_is p (tokens_of x ++ R)) (append_assoc a.text b.front b.back) ∙ ap (head_is p) (tokens-append a.text (b.front ++ b.back) R)
            ∙ same-front a.text ts r (tokens_of (b.front ++ b.back) ++ R) a.tokens_are (λ p. b.same p R) p;
        derived = λ R o. subst (λ x. IsSequence P Q f n x R (joined f u b.found)) (sym (append_assoc a.text b.front b.back))
            (both-as n a.text (b.front ++ b.back) R u b.found (a.derived (tokens_of (b.front ++ b.back) ++ R) (inr (λ p. b.same p R))) (b.derived R (to_b R o)));
      }

  module _ (hd : Option Token) (c : clear ga hd ≡ true) where
    -- the second one stops at its first token
    pub join-once : (fa : Token → Bool) (n : ℕ) (ts r s : List Token) (u : Attributes A) (v : Why) (a : IsRead P ga fa n ts u r) → 0 < length a.text → s ≡ r → (e : IsExample Q gb hd u.before) → Cause v a.text s e.text → IsBegun (IsSequence P Q f) gt n ts v s
    join-once fa n ts r s u v a l same e cause =
        record {
          front = a.text;
          back = e.text;
          found = joined f u e.found;
          tokens_are = a.tokens_are ∙ ap (λ r. tokens_of a.text ++ r) (sym same);
          within = a.within;
          cause = cause;
          same = λ p R. first a.text l a.tokens_are p R;
          derived = λ R o. both-as n a.text e.text R u e.found
              (a.derived (tokens_of e.text ++ R) (inl (ok-example hd c e.text e.head_is_so (firm u.before e.text R e.found (e.derived R (to_b R o))) R o)))
              (e.derived R (to_b R o));
        }
      where
        first : (x : List Laid) → 0 < length x → ts ≡ tokens_of x ++ r → (p : Token → Bool) (R : List Token) → head_is p (tokens_of (x ++ e.text) ++ R) ≡ head_is p ts
        first [] l q p R = absurd (omega arith)
        first (t ∷ x) l q p R = sym (ap (head_is p) q)

    -- the first one is begun
    pub join-first : (n : ℕ) (ts rest : List Token) (v : Why) (a : IsBegun P ga n ts v rest) → (e : IsExample Q gb hd a.found.before) → IsBegun (IsSequence P Q f) gt n ts v rest
    join-first n ts rest v a e =
        let one : (a.front ++ a.back) ++ e.text ≡ a.front ++ (a.back ++ e.text) = append_assoc a.front a.back e.text in
        record {
          front = a.front;
          back = a.back ++ e.text;
          found = joined f a.found e.found;
          tokens_are = a.tokens_are;
          within = a.within;
          cause = grown v a.front rest a.back e.text a.cause;
          same = λ p R. ap (λ x. head_is p (tokens_of x ++ R)) (sym one) ∙ ap (head_is p) (tokens-append (a.front ++ a.back) e.text R) ∙ a.same p (tokens_of e.text ++ R);
          derived = λ R o. subst (λ x. IsSequence P Q f n x R (joined f a.found e.found)) one
              (both-as n (a.front ++ a.back) e.text R a.found e.found
              (a.derived (tokens_of e.text ++ R) (ok-example hd c e.text e.head_is_so (firm a.found.before e.text R e.found (e.derived R (to_b R o))) R o))
              (e.derived R (to_b R o)));
        }
