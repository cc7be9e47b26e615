-- What a list is that a term was added to.
use Rattle.std.proofs.Common.{◌≡◌, ℕ, ◌+◌, ◌<◌, ◌≤◌, Bool, true, false, ◌||◌, List, [], ◌∷◌, ◌++◌, length, refl, sym, ap, ◌∙◌, subst, arith, append_assoc, append-nil, length-append, if◌then◌else◌}
use Rattle.prv_model.specs.TermOrder.{same_term}
use Rattle.prv_model.specs.declared.op.TermOp.{TermOp}
use Rattle.prv_model.specs.declared.term.Term.{Term}
use Rattle.prv_model.specs.declared.term.Term.TheVariants.{Param, Op, Pick, Num, rolls-Op, rolls-Pick}
use Rattle.prv_model.specs.declared.term.Term.TheOpen.{Term-F}
use Rattle.prv_model.specs.declared.term.Term.TheFolds.{fold-Term, fold-roll-Term}
use Rattle.prv_pool.specs.Tables.{Grown, has_term, add_term}
use Rattle.prv_pool.proofs.Shapes.{add-Param, add-Op, add-Pick, add-Num}
use Rattle.prv_pool.proofs.TableLemmas.{by-term, same-itself, same-not, has-append, has-more, add-there, else-is, IsClosed}

-- ---- a list that goes on from another

pub grown-not : (ts : List Term) → Grown ts ts
grown-not ts = record { more = []; is = sym (append-nil ts) }

pub grown-by : (ts : List Term) (t : Term) → Grown ts (ts ++ t ∷ [])
grown-by ts t = record { more = t ∷ []; is = refl }

pub grown-twice : (ts us vs : List Term) → Grown ts us → Grown us vs → Grown ts vs
grown-twice ts us vs g h = record { more = g.more ++ h.more; is = h.is ∙ ap (λ (xs : List Term). xs ++ h.more) g.is ∙ append_assoc ts g.more h.more }

pub grown-longer : (ts us : List Term) → Grown ts us → length ts ≤ length us
grown-longer ts us g = omega (arith, ap length g.is, length-append ts g.more)

grown-has : (ts us : List Term) (t : Term) → Grown ts us → has_term ts t ≡ true → has_term us t ≡ true
grown-has ts us t g h = ap (λ (xs : List Term). has_term xs t) g.is ∙ has-more ts g.more t h

grown-if : (b : Bool) (ts us : List Term) (t : Term) → Grown ts us → Grown ts (if b then ts else us ++ t ∷ [])
grown-if true ts us t g = grown-not ts
grown-if false ts us t g = grown-twice ts us _ g (grown-by us t)

-- a term that is added leaves the list as it was in front
pub add-grows : (t : Term) (ts : List Term) → Grown ts (add_term t ts)
add-grows =
    by-term (λ t. (ts : List Term) → Grown ts (add_term t ts))
    (λ k ts. subst (Grown ts) (sym (add-Param k ts)) (grown-if (has_term ts (Param k)) ts ts _ (grown-not ts)))
    (λ o a b ga gb ts. subst (Grown ts) (sym (add-Op o a b ts)) (grown-if (has_term ts (Op o a b)) ts _ _ (grown-twice ts _ _ (ga ts) (gb (add_term a ts)))))
    (λ t a b gt ga gb ts.
    subst (Grown ts) (sym (add-Pick t a b ts))
    (grown-if (has_term ts (Pick t a b)) ts _ _ (grown-twice ts _ _ (grown-twice ts _ _ (gt ts) (ga (add_term t ts))) (gb (add_term a (add_term t ts))))))
    (λ n ts. subst (Grown ts) (sym (add-Num n ts)) (grown-if (has_term ts (Num n)) ts ts _ (grown-not ts)))

-- ---- a term that is added is there

has-end : (ts : List Term) (t : Term) → has_term (ts ++ t ∷ []) t ≡ true
has-end ts t = has-append ts (t ∷ []) t ∙ by (has_term ts t)
  where
    by : (b : Bool) → (b || (same_term t t || false)) ≡ true
    by true = refl
    by false = ap (λ (c : Bool). c || false) (same-itself t)

has-if : (b : Bool) (ts us : List Term) (t : Term) → has_term ts t ≡ b → has_term (if b then ts else us ++ t ∷ []) t ≡ true
has-if true ts us t e = e
has-if false ts us t e = has-end us t

pub add-has : (t : Term) (ts : List Term) → has_term (add_term t ts) t ≡ true
add-has =
    by-term (λ t. (ts : List Term) → has_term (add_term t ts) t ≡ true)
    (λ k ts. ap (λ (us : List Term). has_term us (Param k)) (add-Param k ts) ∙ has-if _ ts ts _ refl)
    (λ o a b _ _ ts. ap (λ (us : List Term). has_term us (Op o a b)) (add-Op o a b ts) ∙ has-if _ ts _ _ refl)
    (λ t a b _ _ _ ts. ap (λ (us : List Term). has_term us (Pick t a b)) (add-Pick t a b ts) ∙ has-if _ ts _ _ refl)
    (λ n ts. ap (λ (us : List Term). has_term us (Num n)) (add-Num n ts) ∙ has-if _ ts ts _ refl)

-- ---- what is added is no larger than the term

abbrev node_size : Term-F ℕ → ℕ
node_size (Term-F.Param k) = 1
node_size (Term-F.Op o a b) = 1 + (a + b)
node_size (Term-F.Pick t a b) = 1 + (t + (a + b))
node_size (Term-F.Num n) = 1

-- how many nodes a term has as a tree
abbrev size : Term → ℕ
size = fold-Term ℕ node_size

size-Op : (o : TermOp) (a b : Term) → size (Op o a b) ≡ 1 + (size a + size b)
size-Op o a b = ap size (sym (rolls-Op o a b)) ∙ fold-roll-Term ℕ node_size (Term-F.Op o a b)

size-Pick : (t a b : Term) → size (Pick t a b) ≡ 1 + (size t + (size a + size b))
size-Pick t a b = ap size (sym (rolls-Pick t a b)) ∙ fold-roll-Term ℕ node_size (Term-F.Pick t a b)

lacks-end : (ts : List Term) (t u : Term) → size t < size u → has_term ts u ≡ false → has_term (ts ++ t ∷ []) u ≡ false
lacks-end ts t u less h =
    let other = same-not u t (λ e. let same = ap size e in omega arith) in
    has-append ts (t ∷ []) u ∙ (λ i. h i || (other i || false))

lacks-if : (b : Bool) (ts us : List Term) (t u : Term) → size t < size u → has_term ts u ≡ false → has_term us u ≡ false → has_term (if b then ts else us ++ t ∷ []) u ≡ false
lacks-if true ts us t u less h k = h
lacks-if false ts us t u less h k = lacks-end us t u less k

add-lacks : (u t : Term) (ts : List Term) → size t < size u → has_term ts u ≡ false → has_term (add_term t ts) u ≡ false
add-lacks u =
    by-term (λ t. (ts : List Term) → size t < size u → has_term ts u ≡ false → has_term (add_term t ts) u ≡ false)
    (λ k ts less h. ap (λ (us : List Term). has_term us u) (add-Param k ts) ∙ lacks-if _ ts ts _ u less h h)
    (λ o a b la lb ts less h.
    let n = size-Op o a b in
    ap (λ (us : List Term). has_term us u) (add-Op o a b ts) ∙ lacks-if _ ts _ _ u less h (lb (add_term a ts) (omega arith) (la ts (omega arith) h)))
    (λ t a b lt la lb ts less h.
    let n = size-Pick t a b in
    ap (λ (us : List Term). has_term us u) (add-Pick t a b ts)
    ∙ lacks-if _ ts _ _ u less h (lb (add_term a (add_term t ts)) (omega arith) (la (add_term t ts) (omega arith) (lt ts (omega arith) h))))
    (λ n ts less h. ap (λ (us : List Term). has_term us u) (add-Num n ts) ∙ lacks-if _ ts ts _ u less h h)

-- ---- an operand that is added first changes nothing

again : (t : Term) (ts : List Term) → add_term t (add_term t ts) ≡ add_term t ts
again t ts = add-there t (add_term t ts) (add-has t ts)

skip : (s t : Term) (ts : List Term) → has_term ts s ≡ true → add_term s (add_term t ts) ≡ add_term t ts
skip s t ts h = add-there s (add_term t ts) (grown-has ts _ s (add-grows t ts) h)

abbrev IsFirst : Term → Term → List Term → Type 0
IsFirst t operand ts = add_term t (add_term operand ts) ≡ add_term t ts

-- where the list has the term, it has the operand
first-there : (t s : Term) (ts : List Term) → has_term ts s ≡ true → IsFirst t s ts
first-there t s ts h = ap (add_term t) (add-there s ts h)

op-first : (o : TermOp) (a b s : Term) (ts : List Term) → size s < size (Op o a b) → (has_term ts (Op o a b) ≡ true → has_term ts s ≡ true)
    → add_term b (add_term a (add_term s ts)) ≡ add_term b (add_term a ts) → IsFirst (Op o a b) s ts
op-first o a b s ts less there same = by (has_term ts (Op o a b)) refl
  where
    by : (h : Bool) → has_term ts (Op o a b) ≡ h → IsFirst (Op o a b) s ts
    by true e = first-there _ s ts (there e)
    by false e =
        add-Op o a b (add_term s ts) ∙ else-is _ _ _ (add-lacks (Op o a b) s ts less e) ∙ ap (λ (us : List Term). us ++ Op o a b ∷ []) same ∙ sym (else-is _ _ _ e) ∙ sym (add-Op o a b ts)

pub op-first-left : (o : TermOp) (a b : Term) (ts : List Term) → IsClosed ts → IsFirst (Op o a b) a ts
op-first-left o a b ts closed =
    op-first o a b a ts (let n = size-Op o a b in omega arith) (λ h. (closed.0 o a b h).0) (ap (add_term b) (again a ts))

pub op-first-right : (o : TermOp) (a b : Term) (ts : List Term) → IsClosed ts → has_term ts a ≡ true → IsFirst (Op o a b) b ts
op-first-right o a b ts closed h =
    op-first o a b b ts (let n = size-Op o a b in omega arith) (λ e. (closed.0 o a b e).1) (ap (add_term b) (skip a b ts h) ∙ again b ts ∙ ap (add_term b) (sym (add-there a ts h)))

pick-first : (t a b s : Term) (ts : List Term) → size s < size (Pick t a b) → (has_term ts (Pick t a b) ≡ true → has_term ts s ≡ true)
    → add_term b (add_term a (add_term t (add_term s ts))) ≡ add_term b (add_term a (add_term t ts)) → IsFirst (Pick t a b) s ts
pick-first t a b s ts less there same = by (has_term ts (Pick t a b)) refl
  where
    by : (h : Bool) → has_term ts (Pick t a b) ≡ h → IsFirst (Pick t a b) s ts
    by true e = first-there _ s ts (there e)
    by false e =
        add-Pick t a b (add_term s ts) ∙ else-is _ _ _ (add-lacks (Pick t a b) s ts less e) ∙ ap (λ (us : List Term). us ++ Pick t a b ∷ []) same ∙ sym (else-is _ _ _ e) ∙ sym (add-Pick t a b ts)

pub pick-first-test : (t a b : Term) (ts : List Term) → IsClosed ts → IsFirst (Pick t a b) t ts
pick-first-test t a b ts closed =
    pick-first t a b t ts (let n = size-Pick t a b in omega arith) (λ h. (closed.1 t a b h).0) (ap (λ (us : List Term). add_term b (add_term a us)) (again t ts))

pub pick-first-left : (t a b : Term) (ts : List Term) → IsClosed ts → has_term ts t ≡ true → IsFirst (Pick t a b) a ts
pick-first-left t a b ts closed h =
    pick-first t a b a ts (let n = size-Pick t a b in omega arith) (λ e. (closed.1 t a b e).1)
    (ap (add_term b) (ap (add_term a) (skip t a ts h) ∙ again a ts ∙ ap (add_term a) (sym (add-there t ts h))))

pub pick-first-right : (t a b : Term) (ts : List Term) → IsClosed ts → has_term ts t ≡ true → has_term ts a ≡ true → IsFirst (Pick t a b) b ts
pick-first-right t a b ts closed h k =
    pick-first t a b b ts (let n = size-Pick t a b in omega arith) (λ e. (closed.1 t a b e).2)
    (ap (λ (us : List Term). add_term b (add_term a us)) (skip t b ts h) ∙ ap (add_term b) (skip a b ts k) ∙ again b ts
    ∙ ap (add_term b) (sym (add-there a ts k)) ∙ ap (λ (us : List Term). add_term b (add_term a us)) (sym (add-there t ts h)))
