-- A stop is the same whatever stands behind its token; for depth, whatever its token is.
use Rattle.std.proofs.Common.{◌≡◌, ℕ, zero, suc, ◌+◌, ◌<◌, ◌≤◌, nat_le, nat_lt, Bool, true, false, not, ◌&&◌, ◌||◌, List, [], ◌∷◌, ◌++◌, length, Option, Some, None, refl, sym, ap, ap₂, subst, ◌∙◌, arith, le_trans, true≢false, ◌⊎◌, inl, inr, append_assoc, le-ltb, length-append}
use Rattle.std.proofs.lemmas.Bool.{and_parts, or_from, and_left}
use Rattle.std.proofs.lemmas.List.{append_cancel_right, length-map}
use Rattle.prv_lex.specs.declared.token.Token.{Token}
use Rattle.prv_rule.specs.Operators.{is_operator}
use Rattle.prv_rule.specs.Texts.{Laid, tokens_of}
use Rattle.prv_rule.specs.Rules.{Rule, Empty, Terminal, Sequence, Alternative, Repetition, Full, Hole, Construct, Fail, Attributes, joined, full, hole_in, nullable, first, head_is, choose, Derived, IsRepetition, derives_with, Table, derives, Why, Syntax, Depth, Operators, Out, Done, Stop, Reader, bind, too_deep, spent, valued, terminal, sequence, alternative, no_more, repetition, read_with, readers}
use Rattle.prv_rule.proofs.Tools.{not_true, tokens-length, head-none}
use Rattle.prv_rule.proofs.Firm.{opens, named-firm}
use Rattle.prv_rule.proofs.Shown.{shown-within}
use Rattle.prv_rule.proofs.Complete.{IsShown, complete, named-complete}
use Rattle.prv_rule.proofs.Means.{goes, Ok, IsRead, IsBegun, IsRefused, Means, Second, Inside, Cause, syntax, depth, operators}
use Rattle.prv_rule.proofs.Joins.{IsExample, clear}
use Rattle.prv_rule.proofs.Examples.{heads, begins, pick, is_flat, is_good, open-parts, is_closed, opens_closed, IsFit, named-example}
use Rattle.prv_rule.proofs.Sound.{some-read, sound-many, is_some, second, sound, named-sound}

-- nothing goes on with a closed rule
pub closed-goes : {K : Type 0} {V : K → Type 0} (later : K → Token → Bool) {A : Type 0} (r : Rule V A) → is_closed r ≡ true → (t : Token) → goes later r t ≡ false
closed-goes later (Empty v) w t = refl
closed-goes later (Terminal f e) w t = refl
closed-goes later (Sequence f a b) w t = let w = and_parts (is_closed b) (not (nullable b)) w in
    or_from (goes later b t) (nullable b && goes later a t) (closed-goes later b w.0 t) (and_left (nullable b) (goes later a t) (not_true (nullable b) w.1))
closed-goes later (Alternative a b) w t = let w = and_parts (is_closed a) (is_closed b && not (nullable b)) w in let v = and_parts (is_closed b) (not (nullable b)) w.1 in
    or_from (goes later a t) (goes later b t || (nullable b && first a t)) (closed-goes later a w.0 t)
    (or_from (goes later b t) (nullable b && first a t) (closed-goes later b v.0 t) (and_left (nullable b) (first a t) (not_true (nullable b) v.1)))
closed-goes later (Repetition a) w t = absurd (true≢false (sym w))
closed-goes later (Full a) w t = closed-goes later a w t
closed-goes later (Hole s f a) w t = closed-goes later a w t
closed-goes later (Construct k f a b) w t = absurd (true≢false (sym w))
closed-goes later Fail w t = refl

-- the parts of an outcome
abbrev pub why : {A : Type 0} → Out A → Why
why (Done u r) = Syntax
why (Stop w r) = w

abbrev pub left : {A : Type 0} → Out A → List Token
left (Done u r) = r
left (Stop w r) = r

-- a stop for depth stands behind a token
cause-some : (w : Why) (front : List Laid) (rest : List Token) (back : List Laid) → Cause w front rest back → front ≡ [] → w ≡ Depth → ⊥
cause-some w front rest back (syntax x f r b) e k = absurd (cc)
cause-some w front rest back (depth x f t r o b s) e k = absurd (cc)
cause-some w front rest back (operators f r o b s) e k = absurd (cc)

none-longer : (x : List Laid) (ts : List Token) → ts ≡ tokens_of x ++ ts → x ≡ []
none-longer [] ts e = refl
none-longer (t ∷ x) ts e = let l : length ts ≡ length (tokens_of (t ∷ x)) + length ts = ap length e ∙ length-append (tokens_of (t ∷ x)) ts in let m : length (tokens_of (t ∷ x)) ≡ suc (length x) = length-map (t ∷ x) (λ t. t.token) in absurd (omega arith)

-- what was read is read before each other rest with which it doesn't go on
pub read-again : {A : Type 0} (P : Derived A) (p : Reader A) (b f : Token → Bool) (n : ℕ) (ts : List Token) (u : Attributes A) (r : List Token) → IsShown P p → (a : IsRead P b f n ts u r) → (R : List Token) → Ok b r R → p n (tokens_of a.text ++ R) ≡ Done u R
read-again P p b f n ts u r h a R o = h n a.text R u (a.derived R o) ∙ shown-within a.text R (Done u R) a.within

abbrev pub stop_here : (A : Type 0) → List Token → Out A
stop_here A ts = Stop Syntax ts

-- what is left where a value is made
left-done : {A B : Type 0} (o : Out A) (F : Attributes A → Attributes B) → left (bind o (λ u r. Done (F u) r)) ≡ left o
left-done (Done u r) F = refl
left-done (Stop w r) F = refl

-- a reader leaves no more than it finds
abbrev pub Spans : {A : Type 0} → Reader A → Type 0
Spans p = (n : ℕ) (ts : List Token) → length (left (p n ts)) ≤ length ts

span-of : (x : List Laid) (ts r : List Token) → ts ≡ tokens_of x ++ r → length r ≤ length ts
span-of x ts r e = let k : length ts ≡ length x + length r = ap length e ∙ tokens-length x r in omega arith

span-means : {A : Type 0} (P : Derived A) (b f : Token → Bool) (k : Bool) (n : ℕ) (ts : List Token) (o : Out A) → Means P b f k n ts o → length (left o) ≤ length ts
span-means P b f k n ts (Done u r) a = span-of a.text ts r a.tokens_are
span-means P b f k n ts (Stop w r) (inl a) = let e : length r ≡ length ts = ap length a.rest_is in omega arith
span-means P b f k n ts (Stop w r) (inr a) = span-of a.front ts r a.tokens_are

span-inside : {A : Type 0} (P : Derived A) (b : Token → Bool) (n : ℕ) (ts : List Token) (o : Out A) → Inside P b n ts o → length (left o) ≤ length ts
span-inside P b n ts (Done u r) a = span-of a.text ts r a.tokens_are
span-inside P b n ts (Stop w r) (inl a) = let e : length r ≡ length ts = ap length a.rest_is in omega arith
span-inside P b n ts (Stop w r) (inr a) = span-of a.front ts r a.tokens_are

span-bind : {A B : Type 0} (N : ℕ) (o : Out A) (K : Attributes A → List Token → Out B) → length (left o) ≤ N → ((u : Attributes A) (r : List Token) → length (left (K u r)) ≤ length r) → length (left (bind o K)) ≤ N
span-bind N (Done u r) K h k = le_trans (k u r) h
span-bind N (Stop w r) K h k = h

span-both : {A B C : Type 0} (f : A → B → C) (p : Reader A) (q : Reader B) → Spans p → Spans q → Spans (sequence f p q)
span-both f p q h k n ts = span-bind (length ts) (p n ts) _ (h n ts) (λ u r. span-bind (length r) (q u.before r) _ (k u.before r) (λ w s. omega arith))

span-either : {A : Type 0} (b : Bool) (p q : Reader A) → Spans p → Spans q → Spans (alternative b p q)
span-either true p q h k = h
span-either false p q h k = k

span-many : {A : Type 0} (b : Token → Bool) (p : Reader A) (fuel : ℕ) → Spans p → Spans (repetition b p fuel)
span-many b p zero h n ts = omega arith
span-many b p (suc fuel) h n ts = span-either (head_is b ts) (sequence (λ v vs. v ∷ vs) p (repetition b p fuel)) no_more (span-both (λ v vs. v ∷ vs) p (repetition b p fuel) h (span-many b p fuel h)) (λ n ts. omega arith) n ts

module _ (t t' : Token) (s s' : List Token) (w : Why) (c : (t' ≡ t) ⊎ (w ≡ Depth)) where
  -- no stop for syntax and no end of what is read, but past the token
  abbrev pub Loose : {A : Type 0} → Out A → Type 0
  Loose (Done u r) = length r ≤ length s'
  Loose (Stop Syntax r) = length r ≤ length s'
  Loose (Stop Depth r) = Unit {0}
  Loose (Stop Operators r) = Unit {0}

  -- what follows of a stop there: the same stop where the token is the same
  abbrev pub Goal : {A : Type 0} → ((t' ≡ t) ⊎ (w ≡ Depth)) → Out A → Type 0
  Goal (inl i) o = o ≡ Stop w (t' ∷ s')
  Goal (inr i) o = Loose o

  loose-of : {A : Type 0} (o : Out A) → length (left o) ≤ length s' → Loose o
  loose-of (Done u r) l = l
  loose-of (Stop Syntax r) l = l
  loose-of (Stop Depth r) l = tt
  loose-of (Stop Operators r) l = tt

  loose-bind : {A B : Type 0} (o : Out A) (K : Attributes A → List Token → Out B) → ((u : Attributes A) (r : List Token) → length (left (K u r)) ≤ length r) → Loose o → Loose (bind o K)
  loose-bind (Done u r) K h l = loose-of (K u r) (le_trans (h u r) l)
  loose-bind (Stop Syntax r) K h l = l
  loose-bind (Stop Depth r) K h l = l
  loose-bind (Stop Operators r) K h l = l

  pub goal-bind : {A B : Type 0} (c : (t' ≡ t) ⊎ (w ≡ Depth)) (o : Out A) (K : Attributes A → List Token → Out B) → ((u : Attributes A) (r : List Token) → length (left (K u r)) ≤ length r) → Goal c o → Goal c (bind o K)
  goal-bind (inl i) o K h e = ap (λ o. bind o K) e
  goal-bind (inr i) o K h e = loose-bind o K h e

  goal-as : {A B : Type 0} (F : Attributes A → Attributes B) (o : Out A) → Goal c o → Goal c (bind o (λ u r. Done (F u) r))
  goal-as F o g = goal-bind c o (λ u r. Done (F u) r) (λ u r. omega arith) g

  -- what was read before a stop, and that nothing goes on with that where it is no token and the stop is for depth
  pub record Front (ga : Token → Bool) (r : List Token) : Type 0 where
    pub y : List Laid
    pub is : r ≡ tokens_of y ++ t ∷ s
    pub shut : y ≡ [] → w ≡ Depth → (R : List Token) → head_is ga R ≡ false

  abbrev pub Carries : {A : Type 0} → Reader A → Type 0
  Carries p = (n : ℕ) (front : List Token) → p n (front ++ t ∷ s) ≡ Stop w (t ∷ s) → Goal c (p n (front ++ t' ∷ s'))

  front-then : {B : Type 0} (Q : Derived B) (ga gb fb : Token → Bool) (sb : Bool) (m : ℕ) (r : List Token) (o : Out B) → o ≡ Stop w (t ∷ s) → Means Q gb fb sb m r o → Front ga r
  front-then Q ga gb fb sb m r (Done u x) e b = absurd (cc)
  front-then Q ga gb fb sb m r (Stop v x) e (inl b) = record { y = []; is = sym b.rest_is ∙ ap left e; shut = λ _ k. let q : v ≡ w = ap why e in let z : v ≡ Syntax = b.why_is in absurd (cc) }
  front-then Q ga gb fb sb m r (Stop v x) e (inr b) = record { y = b.front; is = b.tokens_are ∙ ap (λ x. tokens_of b.front ++ x) (ap left e); shut = λ z k. absurd (cause-some v b.front x b.back b.cause z (ap why e ∙ k)) }

  front-open : {B : Type 0} (Q : Derived B) (ga gb : Token → Bool) (closed : (t : Token) → ga t ≡ false) (text : List Laid) (m : ℕ) (r : List Token) (o : Out B) → o ≡ Stop w (t ∷ s) → Second Q gb text m r o → Front ga r
  front-open Q ga gb closed text m r (Done u x) e b = absurd (cc)
  front-open Q ga gb closed text m r (Stop v x) e (inl b) = record { y = []; is = sym b.0 ∙ ap left e; shut = λ _ _ R. head-none ga closed R }
  front-open Q ga gb closed text m r (Stop v x) e (inr b) = record { y = b.front; is = b.tokens_are ∙ ap (λ x. tokens_of b.front ++ x) (ap left e); shut = λ _ _ R. head-none ga closed R }

  module _ {A B C : Type 0} (P : Derived A) (f : A → B → C) (p : Reader A) (q q' : Reader B) (ga fa : Token → Bool) (sa : Bool) (n : ℕ) (front : List Token)
      (again : IsShown P p) (spans : Spans q') (cp : p n (front ++ t ∷ s) ≡ Stop w (t ∷ s) → Goal c (p n (front ++ t' ∷ s')))
      (fronts : (u : Attributes A) (r : List Token) → IsRead P ga fa n (front ++ t ∷ s) u r → q u.before r ≡ Stop w (t ∷ s) → Front ga r)
      (cq : (u : Attributes A) (r : List Token) (a : IsRead P ga fa n (front ++ t ∷ s) u r) (y : List Token) → front ≡ tokens_of a.text ++ y → q u.before (y ++ t ∷ s) ≡ Stop w (t ∷ s) → Goal c (q' u.before (y ++ t' ∷ s'))) where
    ok : (y : List Laid) (r : List Token) → r ≡ tokens_of y ++ t ∷ s → (y ≡ [] → w ≡ Depth → (R : List Token) → head_is ga R ≡ false) → (t' ≡ t) ⊎ (w ≡ Depth) → Ok ga r (tokens_of y ++ t' ∷ s')
    ok [] r z h (inl i) = inr (λ p. ap p i ∙ sym (ap (head_is p) z))
    ok [] r z h (inr i) = inl (h refl i (t' ∷ s'))
    ok (x ∷ y) r z h k = inr (λ p. sym (ap (head_is p) z))

    read-both : (u : Attributes A) (r : List Token) → IsRead P ga fa n (front ++ t ∷ s) u r → q u.before r ≡ Stop w (t ∷ s) → Goal c (sequence f p q' n (front ++ t' ∷ s'))
    read-both u r a z =
        let y : Front ga r = fronts u r a z in
        let shape : front ≡ tokens_of a.text ++ tokens_of y.y = append_cancel_right front (tokens_of a.text ++ tokens_of y.y) (t ∷ s)
        (a.tokens_are ∙ ap (λ r. tokens_of a.text ++ r) y.is ∙ sym (append_assoc (tokens_of a.text) (tokens_of y.y) (t ∷ s))) in
        let one : p n (front ++ t' ∷ s') ≡ Done u (tokens_of y.y ++ t' ∷ s') = ap (λ l. p n (l ++ t' ∷ s')) shape ∙ ap (p n) (append_assoc (tokens_of a.text) (tokens_of y.y) (t' ∷ s'))
        ∙ read-again P p ga fa n (front ++ t ∷ s) u r again a (tokens_of y.y ++ t' ∷ s') (ok y.y r y.is y.shut c) in
        subst (Goal c) (sym (ap (λ o. bind o (λ u r. bind (q' u.before r) (λ w s. Done (joined f u w) s))) one))
        (goal-as (λ w. joined f u w) (q' u.before (tokens_of y.y ++ t' ∷ s')) (cq u r a (tokens_of y.y) shape (ap (q u.before) (sym y.is) ∙ z)))

    -- one behind another
    pub carry-both : (o : Out A) → p n (front ++ t ∷ s) ≡ o → Means P ga fa sa n (front ++ t ∷ s) o → bind o (λ u r. bind (q u.before r) (λ w s. Done (joined f u w) s)) ≡ Stop w (t ∷ s)
        → Goal c (sequence f p q' n (front ++ t' ∷ s'))
    carry-both (Stop v r) e a k = goal-bind c (p n (front ++ t' ∷ s')) (λ u r. bind (q' u.before r) (λ w s. Done (joined f u w) s))
        (λ u r. span-bind (length r) (q' u.before r) _ (spans u.before r) (λ w s. omega arith)) (cp (e ∙ ap₂ (λ v r. Stop v r) (ap why k) (ap left k)))
    carry-both (Done u r) e a k = last (q u.before r) refl k
      where
        last : (o : Out B) → q u.before r ≡ o → bind o (λ w s. Done (joined f u w) s) ≡ Stop w (t ∷ s) → Goal c (sequence f p q' n (front ++ t' ∷ s'))
        last (Done x y) z k = absurd (cc)
        last (Stop v y) z k = read-both u r a (z ∙ ap₂ (λ v r. Stop v r) (ap why k) (ap left k))

  -- a choice by the next token
  head-carry : {A : Type 0} (P : Derived A) (b f : Token → Bool) (n : ℕ) (k : Bool) (o : Out A) → Means P b f k n (t ∷ s) o → o ≡ Stop w (t ∷ s) → (p : Token → Bool) → p t' ≡ p t
  head-carry P b f n k (Done u r) a e p = absurd (cc)
  head-carry P b f n k (Stop v r) a e p = by c a
    where
      by : (t' ≡ t) ⊎ (w ≡ Depth) → IsRefused f k (t ∷ s) v r ⊎ IsBegun P b n (t ∷ s) v r → p t' ≡ p t
      by (inl i) a = ap p i
      by (inr i) (inl a) = let q : v ≡ w = ap why e in let z : v ≡ Syntax = a.why_is in absurd (cc)
      by (inr i) (inr a) = absurd (cause-some v a.front r a.back a.cause (none-longer a.front (t ∷ s) (a.tokens_are ∙ ap (λ r. tokens_of a.front ++ r) (ap left e))) (ap why e ∙ i))

  heads-carry : {A : Type 0} (P : Derived A) (b f : Token → Bool) (n : ℕ) (k : Bool) (front : List Token) (o : Out A) → Means P b f k n (front ++ t ∷ s) o → o ≡ Stop w (t ∷ s) → (p : Token → Bool) → head_is p (front ++ t' ∷ s') ≡ head_is p (front ++ t ∷ s)
  heads-carry P b f n k [] o a e p = head-carry P b f n k o a e p
  heads-carry P b f n k (x ∷ front) o a e p = refl

  carry-either : {A : Type 0} (b b' : Bool) (p q : Reader A) (n : ℕ) (front : List Token) → b' ≡ b → Carries p → Carries q → alternative b p q n (front ++ t ∷ s) ≡ Stop w (t ∷ s) → Goal c (alternative b' p q n (front ++ t' ∷ s'))
  carry-either true true p q n front e h k z = h n front z
  carry-either false false p q n front e h k z = k n front z
  carry-either true false p q n front e h k z = absurd (true≢false (sym e))
  carry-either false true p q n front e h k z = absurd (true≢false e)

  -- behind an opening
  module _ {A : Type 0} (Q : Derived A) (fb gb : Token → Bool) (p q : Reader A) (mb : (n : ℕ) (ts : List Token) → Means Q gb fb false n ts (q n ts)) (cp : Carries p) (cq : Carries q) where
    loose-rule : (n : ℕ) → fb t' ≡ true → (o : Out A) → Means Q gb fb false n (t' ∷ s') o → Loose o
    loose-rule n on (Done u r) a = let l : 0 < length a.text = some-read fb (t' ∷ s') a.text on a.idle in let k : suc (length s') ≡ length a.text + length r = ap length a.tokens_are ∙ tokens-length a.text r in omega arith
    loose-rule n on (Stop v r) (inl a) = absurd (true≢false (sym on ∙ a.off))
    loose-rule n on (Stop v r) (inr a) = by v a.front r a.back a.cause a.tokens_are
      where
        by : (v : Why) (front : List Laid) (r : List Token) (back : List Laid) → Cause v front r back → t' ∷ s' ≡ tokens_of front ++ r → Loose {A = A} (Stop v r)
        by v front r back (syntax x f r2 b) e = let k : suc (length s') ≡ length (x ∷ f) + length r2 = ap length e ∙ tokens-length (x ∷ f) r2 in let l : length (x ∷ f) ≡ suc (length f) = refl in omega arith
        by v front r back (depth x f y r2 o b d) e = tt
        by v front r back (operators f r2 o b d) e = tt

    no-rule : (n : ℕ) → w ≡ Depth → q n (t ∷ s) ≡ Stop w (t ∷ s) → ⊥
    no-rule n i e = by (q n (t ∷ s)) (mb n (t ∷ s)) e
      where
        by : (o : Out A) → Means Q gb fb false n (t ∷ s) o → o ≡ Stop w (t ∷ s) → ⊥
        by (Done u r) a e = absurd (cc)
        by (Stop v r) (inl a) e = let k : v ≡ w = ap why e in let z : v ≡ Syntax = a.why_is in absurd (cc)
        by (Stop v r) (inr a) e = cause-some v a.front r a.back a.cause (none-longer a.front (t ∷ s) (a.tokens_are ∙ ap (λ r. tokens_of a.front ++ r) (ap left e))) (ap why e ∙ i)

    pub carry-second : (n : ℕ) (front : List Token) → alternative (head_is fb (front ++ t ∷ s)) q p n (front ++ t ∷ s) ≡ Stop w (t ∷ s) → Goal c (alternative (head_is fb (front ++ t' ∷ s')) q p n (front ++ t' ∷ s'))
    carry-second n (x ∷ front) e = carry-either (fb x) (fb x) q p n (x ∷ front) refl cq cp e
    carry-second n [] e = by c refl (fb t) (fb t') refl refl e
      where
        by : (k : (t' ≡ t) ⊎ (w ≡ Depth)) → c ≡ k → (x y : Bool) → fb t ≡ x → fb t' ≡ y → alternative x q p n (t ∷ s) ≡ Stop w (t ∷ s) → Goal c (alternative y q p n (t' ∷ s'))
        by (inl i) k x y a b e = carry-either x y q p n [] (sym b ∙ ap fb i ∙ a) cq cp e
        by (inr i) k true y a b e = absurd (no-rule n i e)
        by (inr i) k false false a b e = cp n [] e
        by (inr i) k false true a b e = subst (λ k. Goal k (q n (t' ∷ s'))) (sym k) (loose-rule n b (q n (t' ∷ s')) (mb n (t' ∷ s')))

  -- repeated
  module _ {A : Type 0} (P : Derived A) (p : Reader A) (ga b : Token → Bool) (again : IsShown P p) (h : (n : ℕ) (ts : List Token) → Means P ga b false n ts (p n ts)) (cp : Carries p)
      (some : (n : ℕ) (text : List Laid) (R : List Token) (g : Attributes A) → P n text R g → 0 < length text) where
    carry-step : (fuel fuel' n : ℕ) (front : List Token) → ((n : ℕ) (front : List Token) → length (front ++ t ∷ s) ≤ fuel → length (front ++ t' ∷ s') ≤ fuel' → repetition b p fuel n (front ++ t ∷ s) ≡ Stop w (t ∷ s) → Goal c (repetition b p fuel' n (front ++ t' ∷ s')))
        → length (front ++ t ∷ s) ≤ suc fuel → length (front ++ t' ∷ s') ≤ suc fuel' → head_is b (front ++ t ∷ s) ≡ true → sequence (λ v vs. v ∷ vs) p (repetition b p fuel) n (front ++ t ∷ s) ≡ Stop w (t ∷ s)
        → Goal c (sequence (λ v vs. v ∷ vs) p (repetition b p fuel') n (front ++ t' ∷ s'))
    carry-step fuel fuel' n front ih l l' on e =
        carry-both P (λ v vs. v ∷ vs) p (repetition b p fuel) (repetition b p fuel') ga b false n front again (span-many b p fuel' (λ n ts. span-means P ga b false n ts (p n ts) (h n ts))) (cp n front)
        (λ u r a z. front-then (IsRepetition P b) ga (λ t. b t || ga t) b true u.before r (repetition b p fuel u.before r) z (sound-many P p ga b some h fuel u.before r (shorter u r a)))
        (λ u r a y q z. let k = counts u r a y q in ih u.before y (omega (arith, k)) (omega (arith, k)) z)
        (p n (front ++ t ∷ s)) refl (h n (front ++ t ∷ s)) e
      where
        shorter : (u : Attributes A) (r : List Token) → IsRead P ga b n (front ++ t ∷ s) u r → length r ≤ fuel
        shorter u r a =
            let x : 0 < length a.text = some-read b (front ++ t ∷ s) a.text on a.idle in
            let i : length (front ++ t ∷ s) ≡ length a.text + length r = ap length a.tokens_are ∙ tokens-length a.text r in
            omega arith

        counts : (u : Attributes A) (r : List Token) (a : IsRead P ga b n (front ++ t ∷ s) u r) (y : List Token) → front ≡ tokens_of a.text ++ y → (length (y ++ t ∷ s) ≤ fuel) × (length (y ++ t' ∷ s') ≤ fuel')
        counts u r a y q =
            let x : 0 < length a.text = some-read b (front ++ t ∷ s) a.text on a.idle in
            let i : length (front ++ t ∷ s) ≡ length a.text + length (y ++ t ∷ s) = ap (λ f. length (f ++ t ∷ s)) q ∙ ap length (append_assoc (tokens_of a.text) y (t ∷ s)) ∙ tokens-length a.text (y ++ t ∷ s) in
            let j : length (front ++ t' ∷ s') ≡ length a.text + length (y ++ t' ∷ s') = ap (λ f. length (f ++ t' ∷ s')) q ∙ ap length (append_assoc (tokens_of a.text) y (t' ∷ s')) ∙ tokens-length a.text (y ++ t' ∷ s') in
            (omega arith, omega arith)

    pub carry-many : (fuel fuel' n : ℕ) (front : List Token) → length (front ++ t ∷ s) ≤ fuel → length (front ++ t' ∷ s') ≤ fuel' → repetition b p fuel n (front ++ t ∷ s) ≡ Stop w (t ∷ s) → Goal c (repetition b p fuel' n (front ++ t' ∷ s'))
    carry-many zero fuel' n front l l' e = absurd (cc)
    carry-many (suc fuel) zero n front l l' e = let k : length (front ++ t' ∷ s') ≡ length front + length (t' ∷ s') = length-append front (t' ∷ s') in absurd (omega arith)
    carry-many (suc fuel) (suc fuel') n front l l' e = go (carry-many fuel fuel') (head_is b (front ++ t ∷ s)) refl e
      where
        go : ((n : ℕ) (front : List Token) → length (front ++ t ∷ s) ≤ fuel → length (front ++ t' ∷ s') ≤ fuel' → repetition b p fuel n (front ++ t ∷ s) ≡ Stop w (t ∷ s) → Goal c (repetition b p fuel' n (front ++ t' ∷ s')))
            → (k : Bool) → head_is b (front ++ t ∷ s) ≡ k → alternative k (sequence (λ v vs. v ∷ vs) p (repetition b p fuel)) no_more n (front ++ t ∷ s) ≡ Stop w (t ∷ s)
            → Goal c (alternative (head_is b (front ++ t' ∷ s')) (sequence (λ v vs. v ∷ vs) p (repetition b p fuel')) no_more n (front ++ t' ∷ s'))
        go ih false i e = absurd (cc)
        go ih true i e =
            let m = sound-many P p ga b some h (suc fuel) n (front ++ t ∷ s) l in
            let same : head_is b (front ++ t' ∷ s') ≡ head_is b (front ++ t ∷ s) = heads-carry (IsRepetition P b) (λ t. b t || ga t) b n true front (repetition b p (suc fuel) n (front ++ t ∷ s)) m (ap (λ k. alternative k (sequence (λ v vs. v ∷ vs) p (repetition b p fuel)) no_more n (front ++ t ∷ s)) i ∙ e) b in
            subst (λ k. Goal c (alternative k (sequence (λ v vs. v ∷ vs) p (repetition b p fuel')) no_more n (front ++ t' ∷ s'))) (sym (same ∙ i)) (carry-step fuel fuel' n front ih l l' i e)

  -- with another value
  carry-as : {A B : Type 0} (F : Attributes A → Attributes B) (o o' : Out A) → (o ≡ Stop w (t ∷ s) → Goal c o') → bind o (λ u r. Done (F u) r) ≡ Stop w (t ∷ s) → Goal c (bind o' (λ u r. Done (F u) r))
  carry-as F (Done u r) o' h e = absurd (cc)
  carry-as F (Stop v r) o' h e = goal-as F o' (h (ap₂ (λ v r. Stop v r) (ap why e) (ap left e)))

  -- a stop at the first token
  long-rest : (x : Token) (front r : List Token) → r ≡ x ∷ (front ++ t ∷ s) → r ≡ t ∷ s → ⊥
  long-rest x front r i j = let k : length (x ∷ (front ++ t ∷ s)) ≡ length (t ∷ s) = ap length (sym i ∙ j) in let m : length (front ++ t ∷ s) ≡ length front + length (t ∷ s) = length-append front (t ∷ s) in absurd (omega arith)

  pub goal-at : (A : Type 0) (v : Why) (k : (t' ≡ t) ⊎ (w ≡ Depth)) → v ≡ w → Goal {A = A} k (Stop v (t' ∷ s'))
  goal-at A v (inl i) e = ap (λ w. Stop w (t' ∷ s')) e
  goal-at A Syntax (inr i) e = let z : Syntax ≡ Depth = e ∙ i in absurd (cc)
  goal-at A Depth (inr i) e = tt
  goal-at A Operators (inr i) e = tt

  -- one token
  not-syntax : (v : Why) (k : (t' ≡ t) ⊎ (w ≡ Depth)) → v ≡ w → (v ≡ Depth → ⊥) → t' ≡ t
  not-syntax v (inl i) e n = i
  not-syntax v (inr i) e n = absurd (n (e ∙ i))

  carry-one : {A : Type 0} (f : Token → Option A) → Carries (terminal f)
  carry-one {A} f n [] e = by (f t) refl e
    where
      same : (v : Why) → v ≡ w → (v ≡ Depth → ⊥) → ((z : Token) → z ≡ t → terminal f n (z ∷ s') ≡ Stop v (z ∷ s')) → Goal c (terminal f n (t' ∷ s'))
      same v e n k = subst (λ o. Goal c o) (sym (k t' (not-syntax v c e n))) (goal-at A v c e)

      spends : (v : A) (k : Bool) → (is_operator t.tok && nat_le 256 n) ≡ k → f t ≡ Some v → spent k v n t s ≡ Stop w (t ∷ s) → Goal c (terminal f n (t' ∷ s'))
      spends v true k i e = same Operators (ap why e) (λ z. absurd (cc))
          (λ z q. subst (λ z. terminal f n (z ∷ s') ≡ Stop Operators (z ∷ s')) (sym q) (ap (λ o. valued o n t s') i ∙ ap (λ b. spent b v n t s') k))
      spends v false k i e = absurd (cc)

      by : (o : Option A) → f t ≡ o → valued o n t s ≡ Stop w (t ∷ s) → Goal c (terminal f n (t' ∷ s'))
      by None i e = same Syntax (ap why e) (λ z. absurd (cc)) (λ z q. subst (λ z. terminal f n (z ∷ s') ≡ Stop Syntax (z ∷ s')) (sym q) (ap (λ o. valued o n t s') i))
      by (Some v) i e = spends v (is_operator t.tok && nat_le 256 n) refl i e
  carry-one f n (x ∷ front) e = absurd (by (f x) e)
    where
      spends : {A : Type 0} (v : A) (k : Bool) → spent k v n x (front ++ t ∷ s) ≡ Stop w (t ∷ s) → ⊥
      spends v true e = long-rest x front (x ∷ (front ++ t ∷ s)) refl (ap left e)
      spends v false e = absurd (cc)

      by : {A : Type 0} (o : Option A) → valued o n x (front ++ t ∷ s) ≡ Stop w (t ∷ s) → ⊥
      by None e = long-rest x front (x ∷ (front ++ t ∷ s)) refl (ap left e)
      by (Some v) e = spends v (is_operator x.tok && nat_le 256 n) e

  -- no token at all
  carry-never : (A : Type 0) (front : List Token) → stop_here A (front ++ t ∷ s) ≡ Stop w (t ∷ s) → Goal c (stop_here A (front ++ t' ∷ s'))
  carry-never A [] e = goal-at A Syntax c (ap why e)
  carry-never A (x ∷ front) e = absurd (long-rest x front (x ∷ (front ++ t ∷ s)) refl (ap left e))

  module _ {K : Type 0} {V : K → Type 0} (later : K → Token → Bool) (starts : K → Token) (P : (k : K) → ℕ → Derived (V k)) (p : (k : K) → Reader (V k)) (d : ℕ) (shallow : nat_lt 100 d ≡ false)
      (firm : (k : K) (d n : ℕ) (text : List Laid) (rest : List Token) (g : Attributes (V k)) → P k d n text rest g → opens d text ≡ true)
      (inner : (k : K) (n : ℕ) → IsExample (P k (suc d)) (later k) (Some (starts k)) n)
      (sounds : (k : K) (n : ℕ) (ts : List Token) → Inside (P k (suc d)) (later k) n ts (p k n ts))
      (completes : (k : K) → IsShown (P k (suc d)) (p k)) (carries : (k : K) → Carries (p k)) where
    meaning : {A : Type 0} (r : Rule V A) → is_good later starts r ≡ true → (n : ℕ) (ts : List Token) → Means (derives_with P r d) (goes later r) (first r) (nullable r) n ts (read_with p r n ts)
    meaning r x n ts = sound later starts P p d shallow firm inner sounds r x n ts

    spanning : {A : Type 0} (r : Rule V A) → is_good later starts r ≡ true → Spans (read_with p r)
    spanning r x n ts = span-means (derives_with P r d) (goes later r) (first r) (nullable r) n ts (read_with p r n ts) (meaning r x n ts)

    -- a rule's reader
    pub carry : {A : Type 0} (r : Rule V A) → is_good later starts r ≡ true → opens_closed r ≡ true → Carries (read_with p r)
    carry (Empty v) x y n front e = absurd (cc)
    carry (Terminal f z) x y n front e = carry-one f n front e
    carry (Sequence f a b) x y n front e =
        let x = and_parts (is_good later starts a) (is_good later starts b && (is_flat true b && clear (goes later a) (heads starts b))) x in
        let v = and_parts (is_good later starts b) (is_flat true b && clear (goes later a) (heads starts b)) x.1 in
        let y = and_parts (opens_closed a) (opens_closed b) y in
        carry-both (derives_with P a d) f (read_with p a) (read_with p b) (read_with p b) (goes later a) (first a) (nullable a) n front (complete P p d shallow completes a) (spanning b v.0) (carry a x.0 y.0 n front)
        (λ u r i z. front-then (derives_with P b d) (goes later a) (goes later b) (first b) (nullable b) u.before r (read_with p b u.before r) z (meaning b v.0 u.before r))
        (λ u r i l q z. carry b v.0 y.1 u.before l z) (read_with p a n (front ++ t ∷ s)) refl (meaning a x.0 n (front ++ t ∷ s)) e
    carry (Alternative a b) x y n front e =
        let same : head_is (first a) (front ++ t' ∷ s') ≡ head_is (first a) (front ++ t ∷ s) =
        heads-carry (derives_with P (Alternative a b) d) (goes later (Alternative a b)) (first (Alternative a b)) n (nullable (Alternative a b)) front (read_with p (Alternative a b) n (front ++ t ∷ s)) (meaning (Alternative a b) x n (front ++ t ∷ s)) e (first a) in
        let x = and_parts (is_good later starts a) (is_good later starts b && (not (nullable a) && pick (nullable b) (clear (first a) (heads starts b)) (begins (first a) (heads starts a)))) x in
        let v = and_parts (is_good later starts b) (not (nullable a) && pick (nullable b) (clear (first a) (heads starts b)) (begins (first a) (heads starts a))) x.1 in
        let y = and_parts (opens_closed a) (opens_closed b) y in
        carry-either (head_is (first a) (front ++ t ∷ s)) (head_is (first a) (front ++ t' ∷ s')) (read_with p a) (read_with p b) n front same (carry a x.0 y.0) (carry b v.0 y.1) e
    carry (Repetition a) x y n front e =
        let x = and_parts (is_good later starts a) (not (nullable a)) x in
        carry-many (derives_with P a d) (read_with p a) (goes later a) (first a) (complete P p d shallow completes a)
        (λ n ts. subst (λ s. Means (derives_with P a d) (goes later a) (first a) s n ts (read_with p a n ts)) (not_true (nullable a) x.1) (meaning a x.0 n ts)) (carry a x.0 y)
        (is_some later starts P p d shallow firm inner sounds a x.1) (length (front ++ t ∷ s)) (length (front ++ t' ∷ s')) n front (omega arith) (omega arith) e
    carry (Full a) x y n front e = carry-as (full n) (read_with p a 0 (front ++ t ∷ s)) (read_with p a 0 (front ++ t' ∷ s')) (carry a x y 0 front) e
    carry (Hole h f a) x y n front e = carry-as (hole_in h f) (read_with p a n (front ++ t ∷ s)) (read_with p a n (front ++ t' ∷ s')) (carry a x y n front) e
    carry (Construct k f a b) x y n front e =
        let x = open-parts later starts k f a b x in
        let y = and_parts (opens_closed a) (opens_closed b && is_closed a) y in
        let z = and_parts (opens_closed b) (is_closed a) y.1 in
        carry-both (derives_with P a d) f (read_with p a) (λ n ts. alternative (head_is (first b) ts) (read_with p b) (p k) n ts) (λ n ts. alternative (head_is (first b) ts) (read_with p b) (p k) n ts) (goes later a) (first a) (nullable a) n front
        (complete P p d shallow completes a) (λ n ts. span-either (head_is (first b) ts) (read_with p b) (p k) (spanning b x.2) (λ n ts. span-inside (P k (suc d)) (later k) n ts (p k n ts) (sounds k n ts)) n ts) (carry a x.0 y.0 n front)
        (λ u r i q. front-open (λ n text rest g. choose (head_is (first b) (tokens_of text ++ rest)) (derives_with P b d n text rest g) (P k (suc d) n text rest g)) (goes later a) (λ t. later k t || goes later b t) (closed-goes later a z.1)
        (inner k u.before).text u.before r (alternative (head_is (first b) r) (read_with p b) (p k) u.before r) q (second later starts P p d shallow firm inner sounds k b x.2 x.3 x.5 u.before r))
        (λ u r i l q z2. carry-second (derives_with P b d) (first b) (goes later b) (p k) (read_with p b)
        (λ n ts. subst (λ s. Means (derives_with P b d) (goes later b) (first b) s n ts (read_with p b n ts)) (not_true (nullable b) x.3) (meaning b x.2 n ts)) (carries k) (carry b x.2 z.0) u.before l z2)
        (read_with p a n (front ++ t ∷ s)) refl (meaning a x.0 n (front ++ t ∷ s)) e
    carry Fail x y n front e = carry-never _ front e

  -- and those of nonterminals
  carry-zero : {A : Type 0} (front : List Token) → too_deep {A = A} (front ++ t ∷ s) ≡ Stop w (t ∷ s) → Goal {A = A} c (too_deep (front ++ t' ∷ s'))
  carry-zero [] e = goal-at _ Depth c (ap why e)
  carry-zero (x ∷ front) e = absurd (long-rest x front (x ∷ (front ++ t ∷ s)) refl (ap left e))

  pub named-carry : {K : Type 0} {V : K → Type 0} (table : Table V) (later : K → Token → Bool) (starts : K → Token) → IsFit table later starts → (room d : ℕ) → room + d ≡ 101 → (k : K) → Carries (readers table room k)
  named-carry table later starts fit zero d e k n front x = carry-zero front x
  named-carry table later starts fit (suc room) d e k n front x =
      carry later starts (derives table (suc room)) (readers table room) d (le-ltb 100 d (omega arith)) (named-firm table fit.filled (suc room)) (λ k n. named-example table later starts fit room k (suc d) n)
      (λ k n ts. named-sound table later starts fit room (suc d) (omega arith) k n ts) (λ k. named-complete table fit.filled (suc room) room (suc d) (omega arith) k)
      (λ k. named-carry table later starts fit room (suc d) (omega arith) k) (table k) (fit.good k) (fit.closed k) n front x
