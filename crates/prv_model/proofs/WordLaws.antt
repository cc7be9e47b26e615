-- Each operator gives a word on words, and so does each term.
use Rattle.std.proofs.Common.{◌≡◌, ℕ, zero, suc, ◌^◌, Bool, true, false, ◌&&◌, List, [], ◌∷◌, Some, None, ℤ, pos, negsuc, refl, sym, ◌∙◌, subst, arith, slice_get, unwrap_or, if◌then◌else◌, All, int_rem, lit<}
use Rattle.std.specs.Int.{w32, int_shr}
use Rattle.std.proofs.lemmas.Int.{SFits-int_wrap, rem_is}
use borrow.Author.Gap.{read_sfits}
use lib.Signed.{mag_shr}
use Rattle.prv_model.specs.Words.{IsWord, is_word, is_zero, flag, amount}
use Rattle.prv_model.specs.Terms.{term_value, node_term_value, node_is_term, IsTerm, total}
use Rattle.prv_model.specs.declared.op.TermOp.{TermOp}
use Rattle.prv_model.specs.declared.op.TermOp.TheVariants.{Add, Sub, Mul, Div, Rem, Shl, Shr, And, Or, Xor, Lt, Le, Eq, Ne}
use Rattle.prv_model.specs.declared.term.Term.{Term, roll-Term, map-Term}
use Rattle.prv_model.specs.declared.term.Term.TheOpen.{Term-F}
use Rattle.prv_model.specs.declared.term.Term.TheFolds.{fold-roll-Term, ind-Term}

-- the test of words says that a number is one
pub word-tested : (n : ℤ) → IsWord n → is_word n ≡ true
word-tested (pos n) h = grind (arith, h.sfits)
word-tested (negsuc n) h = grind (arith, h.sfits)

pub tested-word : (n : ℤ) → is_word n ≡ true → IsWord n
tested-word (pos n) h = record { sfits = grind (arith, h) }
tested-word (negsuc n) h = record { sfits = grind (arith, h) }

pub zero-word : IsWord (pos 0)
zero-word = record { sfits = lit< tt }

pub flag-word : (b : Bool) → IsWord (flag b)
flag-word true = record { sfits = lit< tt }
flag-word false = record { sfits = lit< tt }

-- a choice of nothing or a word, with 0 for nothing
chosen-word : (b : Bool) (z : ℤ) → IsWord z → IsWord (unwrap_or (if b then None else Some z) (pos 0))
chosen-word true z h = zero-word
chosen-word false z h = h

rem-word : (x y : ℤ) → IsWord x → IsWord y → IsWord (int_rem x y)
rem-word x y h k = subst IsWord (rem_is w32 x y h k) (read_sfits w32 _)

shr-word : (x : ℤ) (k : ℕ) → IsWord x → IsWord (int_shr x k)
shr-word x k h = record { sfits = omega (arith, mag_shr x (2 ^ k), h.sfits) }

pub total-word : (op : TermOp) (x y : ℤ) → IsWord x → IsWord y → IsWord (total op x y)
total-word Add x y h k = SFits-int_wrap w32 _
total-word Sub x y h k = SFits-int_wrap w32 _
total-word Mul x y h k = SFits-int_wrap w32 _
total-word Div x y h k = chosen-word (is_zero y) _ (SFits-int_wrap w32 _)
total-word Rem x y h k = chosen-word (is_zero y) _ (rem-word x y h k)
total-word Shl x y h k = read_sfits w32 _
total-word Shr x y h k = shr-word x (amount y) h
total-word And x y h k = read_sfits w32 _
total-word Or x y h k = read_sfits w32 _
total-word Xor x y h k = read_sfits w32 _
total-word Lt x y h k = flag-word _
total-word Le x y h k = flag-word _
total-word Eq x y h k = flag-word _
total-word Ne x y h k = flag-word _

-- a word of an input, with 0 past its end
param-word : (x : List ℤ) (k : ℕ) → All IsWord x → IsWord (unwrap_or (slice_get x k) (pos 0))
param-word [] k h = zero-word
param-word (y ∷ x) zero h = h 0 (pos 0) (omega arith)
param-word (y ∷ x) (suc k) h = param-word x k (λ i d below. h (suc i) d (omega arith))

pick-word : (b : Bool) (m n : ℤ) → IsWord m → IsWord n → IsWord (if b then m else n)
pick-word true m n h k = h
pick-word false m n h k = k

abbrev HasWord : ℕ → List ℤ → Term → Type 0
HasWord n x t = IsTerm n t → IsWord (term_value t x)

and-left : (a b : Bool) → (a && b) ≡ true → a ≡ true
and-left true b e = refl
and-left false b e = e

and-right : (a b : Bool) → (a && b) ≡ true → b ≡ true
and-right true b e = e
and-right false b e = cc

step : (n : ℕ) (x : List ℤ) → All IsWord x → (y : Term-F ((t : Term) × HasWord n x t)) → HasWord n x (roll-Term (map-Term ((t : Term) × HasWord n x t) Term (λ e. e.0) y))
step n x h (Term-F.Param k) = λ e. rw (fold-roll-Term (List ℤ → ℤ) node_term_value (Term-F.Param k)) (param-word x k h)
step n x h (Term-F.Op op a b) = λ e.
    let f = sym (fold-roll-Term Bool (node_is_term n) (Term-F.Op op a.0 b.0)) ∙ e in
    rw (fold-roll-Term (List ℤ → ℤ) node_term_value (Term-F.Op op a.0 b.0))
    (total-word op _ _ (a.1 (and-left _ _ f)) (b.1 (and-right _ _ f)))
step n x h (Term-F.Pick test chosen other) = λ e.
    let f = sym (fold-roll-Term Bool (node_is_term n) (Term-F.Pick test.0 chosen.0 other.0)) ∙ e in
    let g = and-right _ _ f in
    rw (fold-roll-Term (List ℤ → ℤ) node_term_value (Term-F.Pick test.0 chosen.0 other.0))
    (pick-word (is_zero (term_value test.0 x)) _ _ (other.1 (and-right _ _ g)) (chosen.1 (and-left _ _ g)))
step n x h (Term-F.Num w) = λ e.
    rw (fold-roll-Term (List ℤ → ℤ) node_term_value (Term-F.Num w))
    (tested-word w (sym (fold-roll-Term Bool (node_is_term n) (Term-F.Num w)) ∙ e))

pub term_has_a_word : (n : ℕ) (t : Term) (x : List ℤ) → IsTerm n t → All IsWord x → IsWord (term_value t x)
term_has_a_word n t x e h = ind-Term (HasWord n x) (λ z y is. subst (λ w. HasWord n x (roll-Term w)) is (step n x h y)) t e
