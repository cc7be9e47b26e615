-- The order of terms is total, and only equal terms are equal in it.
use Rattle.std.proofs.Common.{◌≡◌, ◌≢◌, ◌↔◌, ℕ, ◌<◌, ◌≤◌, ◌<ℤ◌, true, List, [], ◌∷◌, ◌++◌, ℤ, pos, refl, sym, ap, ◌∙◌, subst, arith, append_assoc, append-nil, Some, slice_get}
use Rattle.std.specs.declared.cmp.Ordering.{Ordering}
use Rattle.std.specs.declared.cmp.Ordering.TheVariants.{Less, Equal, Greater}
use Rattle.std.specs.Ordering.{ordering_then, nat_cmp, int_cmp, MatchOrdering}
use Rattle.std.specs.Cmp.{IsTotalOrder, Equal-is, ranks, int_ranks, one_rank, below_irrefl, below_chain}
use Rattle.std.proofs.lemmas.Int.{ints}
use Rattle.std.proofs.lemmas.Cmp.{nat_cmp_total, int_cmp_total, lists_total, on_total, tied_itself}
use Rattle.std.specs.Cmp.Lexicographic.{slice_cmp}
use Rattle.prv_model.specs.TermOrder.{op_rank, rank, node_cmp, term_cmp, same_term}
use Rattle.prv_model.specs.declared.op.TermOp.{TermOp}
use Rattle.prv_model.specs.declared.op.TermOp.TheVariants.{Add, Sub, Mul, Div, Rem, Shl, Shr, And, Or, Xor, Lt, Le, Eq, Ne}
use Rattle.prv_model.specs.declared.term.Term.{Term, roll-Term, map-Term, out-Term, out-roll-Term, roll-out-Term}
use Rattle.prv_model.specs.declared.term.Term.TheOpen.{Term-F}
use Rattle.prv_model.specs.declared.term.Term.TheFolds.{fold-Term, fold-roll-Term, ind-Term}

-- ---- orderings one after another

then-assoc : (p q r : Ordering) → ordering_then (ordering_then p q) r ≡ ordering_then p (ordering_then q r)
then-assoc Less q r = refl
then-assoc Equal q r = refl
then-assoc Greater q r = refl

then-first : (p q : Ordering) → ordering_then p q ≡ Equal → p ≡ Equal
then-first Less q e = cc
then-first Equal q e = refl
then-first Greater q e = cc

then-second : (p q : Ordering) → ordering_then p q ≡ Equal → q ≡ Equal
then-second Less q e = cc
then-second Equal q e = e
then-second Greater q e = cc

nat-equal : (m n : ℕ) (o : Ordering) → MatchOrdering o (m < n) (m ≡ n) (n < m) → o ≡ Equal → m ≡ n
nat-equal m n Less h e = cc
nat-equal m n Equal h e = h
nat-equal m n Greater h e = cc

pub nat_cmp-Equal : (m n : ℕ) → nat_cmp m n ≡ Equal → m ≡ n
nat_cmp-Equal m n e = nat-equal m n (nat_cmp m n) (ranks m n) e

pub nat_cmp-same : (m n : ℕ) → m ≡ n → nat_cmp m n ≡ Equal
nat_cmp-same m n e = subst (λ k. nat_cmp m k ≡ Equal) e (tied_itself nat_cmp_total m)

int-equal : (m n : ℤ) (o : Ordering) → MatchOrdering o (m <ℤ n) (m ≡ n) (n <ℤ m) → o ≡ Equal → m ≡ n
int-equal m n Less h e = cc
int-equal m n Equal h e = h
int-equal m n Greater h e = cc

int_cmp-Equal : (m n : ℤ) → int_cmp m n ≡ Equal → m ≡ n
int_cmp-Equal m n e = int-equal m n (int_cmp m n) (int_ranks m n) e

-- numbers that differ decide, whatever comes behind
decided : (m n : ℕ) → m ≢ n → (o p : Ordering) → ordering_then (nat_cmp m n) o ≡ ordering_then (nat_cmp m n) p
decided m n differ o p = by (nat_cmp m n) refl
  where
    by : (k : Ordering) → nat_cmp m n ≡ k → ordering_then k o ≡ ordering_then k p
    by Less e = refl
    by Equal e = absurd (differ (nat_cmp-Equal m n e))
    by Greater e = refl

op_rank-above : (op : TermOp) → 1 ≤ op_rank op
op_rank-above Add = omega arith
op_rank-above Sub = omega arith
op_rank-above Mul = omega arith
op_rank-above Div = omega arith
op_rank-above Rem = omega arith
op_rank-above Shl = omega arith
op_rank-above Shr = omega arith
op_rank-above And = omega arith
op_rank-above Or = omega arith
op_rank-above Xor = omega arith
op_rank-above Lt = omega arith
op_rank-above Le = omega arith
op_rank-above Eq = omega arith
op_rank-above Ne = omega arith

op_rank-below : (op : TermOp) → op_rank op ≤ 14
op_rank-below Add = omega arith
op_rank-below Sub = omega arith
op_rank-below Mul = omega arith
op_rank-below Div = omega arith
op_rank-below Rem = omega arith
op_rank-below Shl = omega arith
op_rank-below Shr = omega arith
op_rank-below And = omega arith
op_rank-below Or = omega arith
op_rank-below Xor = omega arith
op_rank-below Lt = omega arith
op_rank-below Le = omega arith
op_rank-below Eq = omega arith
op_rank-below Ne = omega arith

ranked_ops : List TermOp
ranked_ops = Add ∷ Add ∷ Sub ∷ Mul ∷ Div ∷ Rem ∷ Shl ∷ Shr ∷ And ∷ Or ∷ Xor ∷ Lt ∷ Le ∷ Eq ∷ Ne ∷ []

op_rank-decoded : (op : TermOp) → slice_get ranked_ops (op_rank op) ≡ Some op
unfolding ranked_ops
op_rank-decoded Add = refl
op_rank-decoded Sub = refl
op_rank-decoded Mul = refl
op_rank-decoded Div = refl
op_rank-decoded Rem = refl
op_rank-decoded Shl = refl
op_rank-decoded Shr = refl
op_rank-decoded And = refl
op_rank-decoded Or = refl
op_rank-decoded Xor = refl
op_rank-decoded Lt = refl
op_rank-decoded Le = refl
op_rank-decoded Eq = refl
op_rank-decoded Ne = refl

op_rank-injective : (o p : TermOp) → op_rank o ≡ op_rank p → o ≡ p
op_rank-injective o p e = let a = op_rank-decoded o in let b = op_rank-decoded p in cc

-- ---- a term as the list of its constructors and numbers, from left to right

node_code : Term-F (List ℤ) → List ℤ
node_code (Term-F.Param k) = pos 0 ∷ pos k ∷ []
node_code (Term-F.Op op a b) = pos (op_rank op) ∷ (a ++ b)
node_code (Term-F.Pick t a b) = pos 15 ∷ (t ++ (a ++ b))
node_code (Term-F.Num n) = pos 16 ∷ n ∷ []

code : Term → List ℤ
code = fold-Term (List ℤ) node_code

code_cmp : List ℤ → List ℤ → Ordering
code_cmp = slice_cmp int_cmp

int_cmp-pos : (m n : ℕ) → int_cmp (pos m) (pos n) ≡ nat_cmp m n
int_cmp-pos m n = one_rank (λ (x y : ℕ). x < y) below_irrefl below_chain m n (int_cmp (pos m) (pos n)) (nat_cmp m n) (by (int_cmp (pos m) (pos n)) (int_ranks (pos m) (pos n))) (ranks m n)
  where
    by : (o : Ordering) → MatchOrdering o (pos m <ℤ pos n) (pos m ≡ pos n) (pos n <ℤ pos m) → MatchOrdering o (m < n) (m ≡ n) (n < m)
    by Less h = omega (arith, ints)
    by Equal h = cc
    by Greater h = omega (arith, ints)

-- numbers at the head that differ decide
heads : (m n : ℕ) → m ≢ n → (xs ys : List ℤ) (o p : Ordering) → code_cmp (pos m ∷ xs) (pos n ∷ ys) ≡ ordering_then (ordering_then (nat_cmp m n) o) p
unfolding code_cmp
heads m n differ xs ys o p =
    ap (λ k. ordering_then k (slice_cmp int_cmp xs ys)) (int_cmp-pos m n) ∙ decided m n differ (slice_cmp int_cmp xs ys) (ordering_then o p) ∙ sym (then-assoc (nat_cmp m n) o p)

abbrev Along : Term → Type 0
Along t = (u : Term) (xs ys : List ℤ) → code_cmp (code t ++ xs) (code u ++ ys) ≡ ordering_then (term_cmp t u) (code_cmp xs ys)

abbrev applied : (Term → Ordering) → Term → Ordering
applied compared child = compared child

abbrev terms_of : Term-F ((t : Term) × Along t) → Term-F Term
terms_of = map-Term ((t : Term) × Along t) Term (λ e. e.0)

coded : Term-F Term → List ℤ
coded x = node_code (map-Term Term (List ℤ) code x)

abbrev nodes_cmp : Term-F Term → Term-F Term → Ordering
nodes_cmp x z = node_cmp applied (map-Term Term (Term → Ordering) term_cmp x) z

-- two lists with heads that differ
apart : (m n : ℕ) → m ≢ n → (xs ys : List ℤ) (o p : Ordering) → slice_cmp int_cmp (pos m ∷ xs) (pos n ∷ ys) ≡ ordering_then (ordering_then (nat_cmp m n) o) p
unfolding code_cmp
apart m n differ xs ys o p = heads m n differ xs ys o p

below-op : (op : TermOp) → 0 ≢ op_rank op
below-op op e = omega (arith, op_rank-above op)

op-below : (op : TermOp) → op_rank op ≢ 0
op-below op e = omega (arith, op_rank-above op)

op-pick : (op : TermOp) → op_rank op ≢ 15
op-pick op e = omega (arith, op_rank-below op)

pick-op : (op : TermOp) → 15 ≢ op_rank op
pick-op op e = omega (arith, op_rank-below op)

op-num : (op : TermOp) → op_rank op ≢ 16
op-num op e = omega (arith, op_rank-below op)

num-op : (op : TermOp) → 16 ≢ op_rank op
num-op op e = omega (arith, op_rank-below op)

-- two operands, and what comes behind them
along-two : (a b : (t : Term) × Along t) (c d : Term) (xs ys : List ℤ)
    → code_cmp ((code a.0 ++ code b.0) ++ xs) ((code c ++ code d) ++ ys) ≡ ordering_then (ordering_then (term_cmp a.0 c) (term_cmp b.0 d)) (code_cmp xs ys)
along-two a b c d xs ys =
    rw (append_assoc (code a.0) (code b.0) xs, append_assoc (code c) (code d) ys)
    (a.1 c (code b.0 ++ xs) (code d ++ ys) ∙ ap (ordering_then (term_cmp a.0 c)) (b.1 d xs ys) ∙ sym (then-assoc (term_cmp a.0 c) (term_cmp b.0 d) (code_cmp xs ys)))

along-three : (t a b : (t : Term) × Along t) (u c d : Term) (xs ys : List ℤ)
    → code_cmp ((code t.0 ++ (code a.0 ++ code b.0)) ++ xs) ((code u ++ (code c ++ code d)) ++ ys)
    ≡ ordering_then (ordering_then (term_cmp t.0 u) (ordering_then (term_cmp a.0 c) (term_cmp b.0 d))) (code_cmp xs ys)
along-three t a b u c d xs ys =
    rw (append_assoc (code t.0) (code a.0 ++ code b.0) xs, append_assoc (code u) (code c ++ code d) ys)
    (t.1 u ((code a.0 ++ code b.0) ++ xs) ((code c ++ code d) ++ ys) ∙ ap (ordering_then (term_cmp t.0 u)) (along-two a b c d xs ys)
    ∙ sym (then-assoc (term_cmp t.0 u) (ordering_then (term_cmp a.0 c) (term_cmp b.0 d)) (code_cmp xs ys)))

along-node : (y : Term-F ((t : Term) × Along t)) (z : Term-F Term) (xs ys : List ℤ) → code_cmp (coded (terms_of y) ++ xs) (coded z ++ ys) ≡ ordering_then (nodes_cmp (terms_of y) z) (code_cmp xs ys)
unfolding coded node_code code_cmp
along-node (Term-F.Param j) (Term-F.Param k) xs ys = ap (λ o. ordering_then o (slice_cmp int_cmp xs ys)) (int_cmp-pos j k)
along-node (Term-F.Param j) (Term-F.Op p c d) xs ys = apart 0 (op_rank p) (below-op p) (pos j ∷ xs) ((code c ++ code d) ++ ys) Equal (slice_cmp int_cmp xs ys)
along-node (Term-F.Param j) (Term-F.Pick u c d) xs ys = refl
along-node (Term-F.Param j) (Term-F.Num n) xs ys = refl
along-node (Term-F.Op o a b) (Term-F.Param k) xs ys = apart (op_rank o) 0 (op-below o) ((code a.0 ++ code b.0) ++ xs) (pos k ∷ ys) Equal (slice_cmp int_cmp xs ys)
along-node (Term-F.Op o a b) (Term-F.Op p c d) xs ys =
    (λ i. ordering_then (int_cmp-pos (op_rank o) (op_rank p) i) (along-two a b c d xs ys i))
    ∙ sym (then-assoc (nat_cmp (op_rank o) (op_rank p)) (ordering_then (term_cmp a.0 c) (term_cmp b.0 d)) (slice_cmp int_cmp xs ys))
along-node (Term-F.Op o a b) (Term-F.Pick u c d) xs ys = apart (op_rank o) 15 (op-pick o) ((code a.0 ++ code b.0) ++ xs) ((code u ++ (code c ++ code d)) ++ ys) Equal (slice_cmp int_cmp xs ys)
along-node (Term-F.Op o a b) (Term-F.Num n) xs ys = apart (op_rank o) 16 (op-num o) ((code a.0 ++ code b.0) ++ xs) (n ∷ ys) Equal (slice_cmp int_cmp xs ys)
along-node (Term-F.Pick t a b) (Term-F.Param k) xs ys = refl
along-node (Term-F.Pick t a b) (Term-F.Op p c d) xs ys = apart 15 (op_rank p) (pick-op p) ((code t.0 ++ (code a.0 ++ code b.0)) ++ xs) ((code c ++ code d) ++ ys) Equal (slice_cmp int_cmp xs ys)
along-node (Term-F.Pick t a b) (Term-F.Pick u c d) xs ys = along-three t a b u c d xs ys
along-node (Term-F.Pick t a b) (Term-F.Num n) xs ys = refl
along-node (Term-F.Num m) (Term-F.Param k) xs ys = refl
along-node (Term-F.Num m) (Term-F.Op p c d) xs ys = apart 16 (op_rank p) (num-op p) (m ∷ xs) ((code c ++ code d) ++ ys) Equal (slice_cmp int_cmp xs ys)
along-node (Term-F.Num m) (Term-F.Pick u c d) xs ys = refl
along-node (Term-F.Num m) (Term-F.Num n) xs ys = refl

code-roll : (x : Term-F Term) → code (roll-Term x) ≡ coded x
unfolding code coded
code-roll x = fold-roll-Term (List ℤ) node_code x

pub term_cmp-roll : (x z : Term-F Term) → term_cmp (roll-Term x) (roll-Term z) ≡ nodes_cmp x z
term_cmp-roll x z =
    ap (λ (f : Term → Ordering). f (roll-Term z)) (fold-roll-Term (Term → Ordering) (λ s t. node_cmp applied s (out-Term t)) x)
    ∙ ap (λ (w : Term-F Term). node_cmp applied (map-Term Term (Term → Ordering) term_cmp x) w) (out-roll-Term z)

along-rolled : (y : Term-F ((t : Term) × Along t)) (z : Term-F Term) (xs ys : List ℤ) → code_cmp (code (roll-Term (terms_of y)) ++ xs) (code (roll-Term z) ++ ys) ≡ ordering_then (term_cmp (roll-Term (terms_of y)) (roll-Term z)) (code_cmp xs ys)
along-rolled y z xs ys =
    (λ i. code_cmp (code-roll (terms_of y) i ++ xs) (code-roll z i ++ ys)) ∙ along-node y z xs ys ∙ sym (ap (λ o. ordering_then o (code_cmp xs ys)) (term_cmp-roll (terms_of y) z))

along-step : (y : Term-F ((t : Term) × Along t)) → Along (roll-Term (terms_of y))
along-step y u xs ys = subst (λ v. code_cmp (code (roll-Term (terms_of y)) ++ xs) (code v ++ ys) ≡ ordering_then (term_cmp (roll-Term (terms_of y)) v) (code_cmp xs ys)) (roll-out-Term u) (along-rolled y (out-Term u) xs ys)

along : (t : Term) → Along t
along t = ind-Term Along (λ z y is. subst (λ w. Along (roll-Term w)) is (along-step y)) t

pub then-Equal : (o : Ordering) → ordering_then o Equal ≡ o
then-Equal Less = refl
then-Equal Equal = refl
then-Equal Greater = refl

code_cmp-empty : code_cmp [] [] ≡ Equal
unfolding code_cmp
code_cmp-empty = refl

code-compared : (t u : Term) → code_cmp (code t) (code u) ≡ term_cmp t u
code-compared t u =
    (λ i. code_cmp (sym (append-nil (code t)) i) (sym (append-nil (code u)) i)) ∙ along t u [] [] ∙ ap (ordering_then (term_cmp t u)) code_cmp-empty ∙ then-Equal (term_cmp t u)

code_cmp_total : IsTotalOrder code_cmp
unfolding code_cmp
code_cmp_total = lists_total int_cmp_total

pub term_cmp_total : IsTotalOrder term_cmp
term_cmp_total = subst IsTotalOrder (λ i t u. code-compared t u i) (on_total code code_cmp_total)

-- ---- what is equal in the order is one term

abbrev Single : Term → Type 0
Single t = (u : Term) → term_cmp t u ≡ Equal → t ≡ u

abbrev singles_of : Term-F ((t : Term) × Single t) → Term-F Term
singles_of = map-Term ((t : Term) × Single t) Term (λ e. e.0)

ranks-equal : {A B : Type 0} (cmp : A → B → Ordering) (s : Term-F A) (t : Term-F B) → node_cmp cmp s t ≡ Equal → rank s ≡ rank t
ranks-equal cmp s t e = nat_cmp-Equal _ _ (then-first _ _ e)

single-node : (y : Term-F ((t : Term) × Single t)) (z : Term-F Term) → nodes_cmp (singles_of y) z ≡ Equal → singles_of y ≡ z
single-node (Term-F.Param j) (Term-F.Param k) e = ap Term-F.Param (nat_cmp-Equal j k e)
single-node (Term-F.Param j) (Term-F.Op p c d) e = absurd (below-op p (nat_cmp-Equal _ _ (then-first _ _ e)))
single-node (Term-F.Param j) (Term-F.Pick u c d) e = cc
single-node (Term-F.Param j) (Term-F.Num n) e = cc
single-node (Term-F.Op o a b) (Term-F.Param k) e = absurd (op-below o (nat_cmp-Equal _ _ (then-first _ _ e)))
single-node (Term-F.Op o a b) (Term-F.Op p c d) e =
    let f = then-second _ _ e in
    let ops = op_rank-injective o p (nat_cmp-Equal _ _ (then-first _ _ e)) in
    let first = a.1 c (then-first _ _ f) in
    let second = b.1 d (then-second _ _ f) in
    λ i. Term-F.Op (ops i) (first i) (second i)
single-node (Term-F.Op o a b) (Term-F.Pick u c d) e = absurd (op-pick o (nat_cmp-Equal _ _ (then-first _ _ e)))
single-node (Term-F.Op o a b) (Term-F.Num n) e = absurd (op-num o (nat_cmp-Equal _ _ (then-first _ _ e)))
single-node (Term-F.Pick t a b) (Term-F.Param k) e = cc
single-node (Term-F.Pick t a b) (Term-F.Op p c d) e = absurd (pick-op p (nat_cmp-Equal _ _ (then-first _ _ e)))
single-node (Term-F.Pick t a b) (Term-F.Pick u c d) e =
    let test = t.1 u (then-first _ _ e) in
    let f = then-second _ _ e in
    let first = a.1 c (then-first _ _ f) in
    let second = b.1 d (then-second _ _ f) in
    λ i. Term-F.Pick (test i) (first i) (second i)
single-node (Term-F.Pick t a b) (Term-F.Num n) e = cc
single-node (Term-F.Num m) (Term-F.Param k) e = cc
single-node (Term-F.Num m) (Term-F.Op p c d) e = absurd (num-op p (nat_cmp-Equal _ _ (then-first _ _ e)))
single-node (Term-F.Num m) (Term-F.Pick u c d) e = cc
single-node (Term-F.Num m) (Term-F.Num n) e = ap Term-F.Num (int_cmp-Equal m n e)

single-step : (y : Term-F ((t : Term) × Single t)) → Single (roll-Term (singles_of y))
single-step y u e =
    ap roll-Term (single-node y (out-Term u) (sym (term_cmp-roll (singles_of y) (out-Term u)) ∙ ap (term_cmp (roll-Term (singles_of y))) (roll-out-Term u) ∙ e)) ∙ roll-out-Term u

pub term_cmp-Equal : (t u : Term) → term_cmp t u ≡ Equal → t ≡ u
term_cmp-Equal t = ind-Term Single (λ z y is. subst (λ w. Single (roll-Term w)) is (single-step y)) t

pub term_cmp-itself : (t : Term) → term_cmp t t ≡ Equal
term_cmp-itself t = tied_itself term_cmp_total t

pub term_cmp-equal : (t u : Term) → (term_cmp t u ≡ Equal) ↔ (t ≡ u)
term_cmp-equal t u = (term_cmp-Equal t u, λ e. subst (λ v. term_cmp t v ≡ Equal) e (term_cmp-itself t))

pub same_term-same : (t u : Term) → (same_term t u ≡ true) ↔ (t ≡ u)
same_term-same t u = (λ e. term_cmp-Equal t u ((Equal-is (term_cmp t u)).0 e), λ e. (Equal-is (term_cmp t u)).1 ((term_cmp-equal t u).1 e))

-- the order of two terms by their nodes
pub term_cmp-out : (x z : Term-F Term) (t u : Term) → out-Term t ≡ x → out-Term u ≡ z → term_cmp t u ≡ nodes_cmp x z
term_cmp-out x z t u e f = (λ i. term_cmp (sym (roll-out-Term t) i) (sym (roll-out-Term u) i)) ∙ term_cmp-roll (out-Term t) (out-Term u) ∙ (λ i. nodes_cmp (e i) (f i))
