-- Reading by a rule and going on, with no reader inside another: what a reader written by hand comes to.
use Rattle.std.proofs.Common.{◌≡◌, ℕ, Bool, true, false, not, ◌&&◌, List, [], ◌∷◌, length, refl, sym, ap, ◌∙◌}
use Rattle.prv_lex.specs.declared.token.Token.{Token}
use Rattle.prv_rule.specs.Rules.{Rule, Empty, Terminal, Sequence, Alternative, Repetition, Full, Hole, Construct, Fail, Attributes, attributes, joined, hole_in, first, head_is, Syntax, Out, Done, Stop, Reader, bind, terminal, alternative, repetition, read_with}

abbrev pub On : Type 0 → Type 0 → Type 0
On A C = Attributes A → List Token → Out C

abbrev pub pick_out : {C : Type 0} → Bool → Out C → Out C → Out C
pick_out true x y = x
pick_out false x y = y

abbrev pub is_never : {K : Type 0} {V : K → Type 0} {A : Type 0} → Rule V A → Bool
is_never Fail = true
is_never _ = false

-- the reader of a rule, and what comes behind it
abbrev pub follow : {K : Type 0} {V : K → Type 0} {C : Type 0} → ((k : K) → Reader (V k)) → {A : Type 0} → Rule V A → ℕ → List Token → On A C → Out C
follow p (Empty v) n ts K = K (attributes v n []) ts
follow p (Terminal f e) n ts K = bind (terminal f n ts) K
follow p (Sequence f a b) n ts K = follow p a n ts (λ u r. follow p b u.before r (λ w s. K (joined f u w) s))
follow p (Alternative a b) n ts K = pick_out (head_is (first a) ts) (follow p a n ts K) (follow p b n ts K)
follow p (Repetition a) n ts K = bind (repetition (first a) (read_with p a) (length ts) n ts) K
follow p (Full a) n ts K = bind (read_with p (Full a) n ts) K
follow p (Hole s f a) n ts K = follow p a n ts (λ u r. K (hole_in s f u) r)
follow p (Construct k f a b) n ts K =
    follow p a n ts (λ u r. pick_out (not (is_never b) && head_is (first b) r) (follow p b u.before r (λ w s. K (joined f u w) s)) (bind (p k u.before r) (λ w s. K (joined f u w) s)))
follow p Fail n ts K = Stop Syntax ts

-- the law of readers in a row
pub bind-bind : {A B C : Type 0} (o : Out A) (f : On A B) (g : On B C) → bind (bind o f) g ≡ bind o (λ u r. bind (f u r) g)
bind-bind (Done u r) f g = refl
bind-bind (Stop w r) f g = refl

pub bind-same : {A B : Type 0} (o : Out A) (f g : On A B) → ((u : Attributes A) (r : List Token) → f u r ≡ g u r) → bind o f ≡ bind o g
bind-same (Done u r) f g h = h u r
bind-same (Stop w r) f g h = refl

pick-bind : {A C : Type 0} (b : Bool) (p q : Reader A) (n : ℕ) (ts : List Token) (K : On A C) (x y : Out C) → x ≡ bind (p n ts) K → y ≡ bind (q n ts) K → pick_out b x y ≡ bind (alternative b p q n ts) K
pick-bind true p q n ts K x y e f = e
pick-bind false p q n ts K x y e f = f

never-takes : {K : Type 0} {V : K → Type 0} {A : Type 0} (b : Rule V A) (ts : List Token) → not (is_never b) && head_is (first b) ts ≡ head_is (first b) ts
never-takes Fail [] = refl
never-takes Fail (t ∷ ts) = refl
never-takes _ ts = refl

module _ {K : Type 0} {V : K → Type 0} {C : Type 0} (p : (k : K) → Reader (V k)) where
  pub follows : {A : Type 0} (r : Rule V A) (n : ℕ) (ts : List Token) (K : On A C) → follow p r n ts K ≡ bind (read_with p r n ts) K
  follows (Empty v) n ts K = refl
  follows (Terminal f e) n ts K = refl
  follows (Sequence f a b) n ts K =
      follows a n ts (λ u r. follow p b u.before r (λ w s. K (joined f u w) s))
      ∙ bind-same (read_with p a n ts) _ _ (λ u r. follows b u.before r (λ w s. K (joined f u w) s) ∙ sym (bind-bind (read_with p b u.before r) (λ w s. Done (joined f u w) s) K))
      ∙ sym (bind-bind (read_with p a n ts) (λ u r. bind (read_with p b u.before r) (λ w s. Done (joined f u w) s)) K)
  follows (Alternative a b) n ts K = pick-bind (head_is (first a) ts) (read_with p a) (read_with p b) n ts K _ _ (follows a n ts K) (follows b n ts K)
  follows (Repetition a) n ts K = refl
  follows (Full a) n ts K = refl
  follows (Hole s f a) n ts K = follows a n ts (λ u r. K (hole_in s f u) r) ∙ sym (bind-bind (read_with p a n ts) (λ u r. Done (hole_in s f u) r) K)
  follows (Construct k f a b) n ts K =
      follows a n ts (λ u r. pick_out (not (is_never b) && head_is (first b) r) (follow p b u.before r (λ w s. K (joined f u w) s)) (bind (p k u.before r) (λ w s. K (joined f u w) s)))
      ∙ bind-same (read_with p a n ts) _ _ (λ u r.
      ap (λ x. pick_out x (follow p b u.before r (λ w s. K (joined f u w) s)) (bind (p k u.before r) (λ w s. K (joined f u w) s))) (never-takes b r)
      ∙ pick-bind (head_is (first b) r) (read_with p b) (p k) u.before r (λ w s. K (joined f u w) s) _ _ (follows b u.before r (λ w s. K (joined f u w) s)) refl
      ∙ sym (bind-bind (alternative (head_is (first b) r) (read_with p b) (p k) u.before r) (λ w s. Done (joined f u w) s) K))
      ∙ sym (bind-bind (read_with p a n ts) (λ u r. bind (alternative (head_is (first b) r) (read_with p b) (p k) u.before r) (λ w s. Done (joined f u w) s)) K)
  follows Fail n ts K = refl

done-all : {A : Type 0} (o : Out A) → o ≡ bind o (λ u r. Done u r)
done-all (Done u r) = refl
done-all (Stop w r) = refl

-- what a rule's reader comes to, with no reader inside another
pub read-flat : {K : Type 0} {V : K → Type 0} (p : (k : K) → Reader (V k)) {A : Type 0} (r : Rule V A) (n : ℕ) (ts : List Token) → read_with p r n ts ≡ follow p r n ts (λ u rest. Done u rest)
read-flat p r n ts = done-all (read_with p r n ts) ∙ sym (follows p r n ts (λ u rest. Done u rest))
