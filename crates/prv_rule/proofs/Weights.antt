-- What was read weighs no more than the tokens that were gone over, where each rule of a table keeps to that.
use Rattle.std.proofs.Common.{◌≡◌, ℕ, zero, suc, ◌+◌, ◌≤◌, nat_le, Bool, true, false, ◌&&◌, List, [], ◌∷◌, length, Option, Some, None, refl, arith}
use Rattle.prv_lex.specs.declared.token.Token.{Token}
use Rattle.prv_rule.specs.declared.skeleton.Skel.{Skel}
use Rattle.prv_rule.specs.Operators.{is_operator}
use Rattle.prv_rule.specs.Rules.{Rule, Empty, Terminal, Sequence, Alternative, Repetition, Full, Hole, Construct, Fail, joined, full, hole_in, first, head_is, Table, Out, Done, Stop, Reader, bind, terminal, valued, spent, sequence, alternative, repetition, no_more, read_with, readers}

-- a weight of a rule's values: a token weighs at most one, and what is made weighs no more than its parts
abbrev pub Weighs : {K : Type 0} {V : K → Type 0} → ((k : K) → V k → ℕ) → {A : Type 0} → Rule V A → (A → ℕ) → Type 0
Weighs w (Empty v) m = m v ≡ 0
Weighs w (Terminal {A = A} f e) m = (t : Token) (v : A) → f t ≡ Some v → m v ≤ 1
Weighs w (Sequence {A = A} {B = B} f a b) m = (i : A → ℕ) × (j : B → ℕ) × Weighs w a i × Weighs w b j × ((x : A) (y : B) → m (f x y) ≤ i x + j y)
Weighs w (Alternative a b) m = Weighs w a m × Weighs w b m
Weighs w (Repetition {A = A} a) m = (i : A → ℕ) × Weighs w a i × (m [] ≡ 0) × ((x : A) (xs : List A) → m (x ∷ xs) ≤ i x + m xs)
Weighs w (Full a) m = Weighs w a m
Weighs w (Hole {A = A} s f a) m = (i : A → ℕ) × Weighs w a i × ((x : A) → m (f x) ≤ i x)
Weighs {V = V} w (Construct {A = A} k f a b) m = (i : A → ℕ) × Weighs w a i × Weighs w b (w k) × ((x : A) (y : V k) → m (f x y) ≤ i x + w k y)
Weighs w Fail m = Unit {0}

-- of an outcome
abbrev pub IsLight : {A : Type 0} → (A → ℕ) → List Token → Out A → Type 0
IsLight m ts (Done u rest) = m u.value + length rest ≤ length ts
IsLight m ts (Stop w rest) = Unit {0}

terminal-light : {A : Type 0} (f : Token → Option A) (m : A → ℕ) (n : ℕ) (ts : List Token) → ((t : Token) (v : A) → f t ≡ Some v → m v ≤ 1) → IsLight m ts (terminal f n ts)
terminal-light f m n [] h = tt
terminal-light {A = A} f m n (t ∷ ts) h = by (f t) refl
  where
    spends : (v : A) → m v ≤ 1 → (s : Bool) → IsLight m (t ∷ ts) (spent s v n t ts)
    spends v l true = tt
    spends v l false = omega arith

    by : (o : Option A) → f t ≡ o → IsLight m (t ∷ ts) (valued o n t ts)
    by None e = tt
    by (Some v) e = spends v (h t v e) (is_operator t.tok && nat_le 256 n)

sequence-light : {A B C : Type 0} (f : A → B → C) (i : A → ℕ) (j : B → ℕ) (m : C → ℕ) (ts : List Token) (o : Out A) (q : Reader B) → ((x : A) (y : B) → m (f x y) ≤ i x + j y) → IsLight i ts o → ((n : ℕ) (r : List Token) → IsLight j r (q n r))
    → IsLight m ts (bind o (λ u r. bind (q u.before r) (λ w s. Done (joined f u w) s)))
sequence-light f i j m ts (Stop w r) q g x h = tt
sequence-light {B = B} f i j m ts (Done u r) q g x h = by (q u.before r) (h u.before r)
  where
    by : (o : Out B) → IsLight j r o → IsLight m ts (bind o (λ w s. Done (joined f u w) s))
    by (Stop w s) y = tt
    by (Done w s) y = let l : m (f u.value w.value) ≤ i u.value + j w.value = g u.value w.value in let k : i u.value + length r ≤ length ts = x in let p : j w.value + length s ≤ length r = y in omega arith

repetition-light : {A : Type 0} (t : Token → Bool) (p : Reader A) (i : A → ℕ) (m : List A → ℕ) → m [] ≡ 0 → ((x : A) (xs : List A) → m (x ∷ xs) ≤ i x + m xs) → ((n : ℕ) (ts : List Token) → IsLight i ts (p n ts)) → (fuel n : ℕ) (ts : List Token) → IsLight m ts (repetition t p fuel n ts)
repetition-light t p i m e g h zero n ts = omega (arith, e)
repetition-light t p i m e g h (suc fuel) n ts = by (repetition-light t p i m e g h fuel) (head_is t ts)
  where
    by : ((n : ℕ) (ts : List Token) → IsLight m ts (repetition t p fuel n ts)) → (x : Bool) → IsLight m ts (alternative x (sequence (λ v vs. v ∷ vs) p (repetition t p fuel)) no_more n ts)
    by ih true = sequence-light (λ v vs. v ∷ vs) i m m ts (p n ts) (repetition t p fuel) g (h n ts) ih
    by ih false = omega (arith, e)

full-light : {A : Type 0} (m : A → ℕ) (n : ℕ) (ts : List Token) (o : Out A) → IsLight m ts o → IsLight m ts (bind o (λ u r. Done (full n u) r))
full-light m n ts (Done u r) x = x
full-light m n ts (Stop w r) x = tt

hole-light : {A B : Type 0} (s : A → Skel) (f : A → B) (i : A → ℕ) (m : B → ℕ) (ts : List Token) (o : Out A) → ((x : A) → m (f x) ≤ i x) → IsLight i ts o → IsLight m ts (bind o (λ u r. Done (hole_in s f u) r))
hole-light s f i m ts (Done u r) g x = let l : m (f u.value) ≤ i u.value = g u.value in let k : i u.value + length r ≤ length ts = x in omega arith
hole-light s f i m ts (Stop w r) g x = tt

module _ {K : Type 0} {V : K → Type 0} (w : (k : K) → V k → ℕ) (inner : (k : K) → Reader (V k)) (h : (k : K) (n : ℕ) (ts : List Token) → IsLight (w k) ts (inner k n ts)) where
  pub reads-light : {A : Type 0} (r : Rule V A) (m : A → ℕ) → Weighs w r m → (n : ℕ) (ts : List Token) → IsLight m ts (read_with inner r n ts)
  reads-light (Empty v) m g n ts = omega (arith, g)
  reads-light (Terminal f e) m g n ts = terminal-light f m n ts g
  reads-light (Sequence f a b) m g n ts = sequence-light f g.0 g.1 m ts (read_with inner a n ts) (read_with inner b) g.4 (reads-light a g.0 g.2 n ts) (reads-light b g.1 g.3)
  reads-light (Alternative a b) m g n ts = by (head_is (first a) ts) (reads-light a m g.0 n ts) (reads-light b m g.1 n ts)
    where
      by : (x : Bool) → IsLight m ts (read_with inner a n ts) → IsLight m ts (read_with inner b n ts) → IsLight m ts (alternative x (read_with inner a) (read_with inner b) n ts)
      by true x y = x
      by false x y = y
  reads-light (Repetition a) m g n ts = repetition-light (first a) (read_with inner a) g.0 m g.2 g.3 (reads-light a g.0 g.1) (length ts) n ts
  reads-light (Full a) m g n ts = full-light m n ts (read_with inner a 0 ts) (reads-light a m g 0 ts)
  reads-light (Hole s f a) m g n ts = hole-light s f g.0 m ts (read_with inner a n ts) g.2 (reads-light a g.0 g.1 n ts)
  reads-light (Construct k f a b) m g n ts =
      sequence-light f g.0 (w k) m ts (read_with inner a n ts) (λ n ts. alternative (head_is (first b) ts) (read_with inner b) (inner k) n ts) g.3 (reads-light a g.0 g.1 n ts) (λ n r. by n r (head_is (first b) r) (reads-light b (w k) g.2 n r))
    where
      by : (n : ℕ) (r : List Token) (x : Bool) → IsLight (w k) r (read_with inner b n r) → IsLight (w k) r (alternative x (read_with inner b) (inner k) n r)
      by n r true x = x
      by n r false x = h k n r
  reads-light Fail m g n ts = tt

pub readers-light : {K : Type 0} {V : K → Type 0} (table : Table V) (w : (k : K) → V k → ℕ) → ((k : K) → Weighs w (table k) (w k)) → (room : ℕ) (k : K) (n : ℕ) (ts : List Token) → IsLight (w k) ts (readers table room k n ts)
readers-light table w h zero k n [] = tt
readers-light table w h zero k n (t ∷ ts) = tt
readers-light table w h (suc room) k n ts = reads-light w (readers table room) (readers-light table w h room) (table k) (w k) (h k) n ts
