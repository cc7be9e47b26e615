-- What the symbol of an expression says on an input: its safety is 1 exactly where the expression has a value in the
-- state of the variables' terms there, and its term has that value.
use Rattle.std.proofs.Common.{◌≡◌, ℕ, zero, suc, ◌<◌, Bool, true, false, ◌&&◌, ◌||◌, not, List, [], ◌∷◌, length, Option, Some, None, ℤ, pos, negsuc, All, if◌then◌else◌, refl, sym, ap, ◌∙◌, subst, arith, slice_get, unwrap_or, nat_lt, ◌-ℤ◌, neg_ℤ, inl, inr, int_div, int_rem, ◌+◌, ◌-◌, ◌^◌, ◌%◌, ◌≤◌, ◌⊎◌}
use Rattle.std.specs.Option.{option_map, option_and_then}
use Rattle.std.specs.Ordering.{int_eq}
use Rattle.std.specs.Int.{w32, int_bit_xor, int_bit_not, bit_not, cast_unsigned, cast_signed}
use Rattle.std.specs.Int.{bit_at}
use Rattle.std.specs.Int.Bits.{bit_xor}
use Rattle.std.proofs.lemmas.Int.{ints}
use Rattle.std.proofs.lemmas.Nat.Bits.{bit_at_xor, bit_at_ones, bit_at_ones_above, bit_at_above, bit_at_not, bit_at-lt, same_from_bits}
use Rattle.prv_model.specs.Words.{IsWord, is_word, is_zero, flag, truth, unary, binary, wrap}
use Rattle.prv_model.specs.Expressions.{value, node_value, operate, pick}
use Rattle.prv_model.specs.Programs.{expr_over, node_expr_over}
use Rattle.prv_model.specs.Terms.{IsTerm, term_value, total, node_is_term}
use Rattle.prv_model.specs.declared.op.UnOp.{UnOp}
use Rattle.prv_model.specs.declared.op.UnOp.TheVariants.{Neg, Not, Flip}
use Rattle.prv_model.specs.declared.op.BinOp.{BinOp}
use Rattle.prv_model.specs.declared.op.BinOp.TheVariants as b
use Rattle.prv_model.specs.declared.op.TermOp.{TermOp}
use Rattle.prv_model.specs.declared.op.TermOp.TheVariants.{Add, Sub, Mul, Div, Rem, Shl, Shr, And, Or, Xor, Lt, Le, Eq, Ne}
use Rattle.prv_model.specs.declared.expr.Expr.{Expr, roll-Expr, map-Expr}
use Rattle.prv_model.specs.declared.expr.Expr.TheOpen.{Expr-F}
use Rattle.prv_model.specs.declared.expr.Expr.TheFolds.{fold-roll-Expr, ind-Expr}
use Rattle.prv_model.specs.declared.term.Term.{Term, fold-roll-Term, Term-F}
use Rattle.prv_model.specs.declared.term.Term.TheVariants.{Num, rolls-Num}
use Rattle.prv_model.proofs.TermLemmas.{term_value-Num}
use Rattle.prv_model.proofs.WordLaws.{term_has_a_word}
use Rattle.prv_pool.specs.Folding.{folded, folded_pick, negation, truth as truth_of}
use Rattle.prv_pool.proofs.FoldLaws.{folded-value, pick-value, negation-value, truth-value, folded-term, pick-term, negation-term, truth-term}
use Rattle.prv_sym.specs.Judgements.{has_value, Judged, AreOver, AreTerms, state_of, IsSaid}
use Rattle.prv_sym.specs.Symbols.{Symbol, symbol, node_symbol, unary_term, binary_term, binary_safe, both_safe, pick_safe}

pub num-term : (n : ℕ) (w : ℤ) → is_word w ≡ true → IsTerm n (Num w)
num-term n w h = let P : Term → Type 0 = λ t. IsTerm n t in subst P (rolls-Num w) (fold-roll-Term Bool (node_is_term n) (Term-F.Num w) ∙ h)

-- flags as words
and-flags : (p q : Bool) → total And (flag p) (flag q) ≡ flag (p && q)
and-flags true true = refl
and-flags true false = refl
and-flags false true = refl
and-flags false false = refl

or-flags : (p q : Bool) → total Or (flag p) (flag q) ≡ flag (p || q)
or-flags true true = refl
or-flags true false = refl
or-flags false true = refl
or-flags false false = refl

pub zero-flag : (p : Bool) → is_zero (flag p) ≡ not p
zero-flag true = refl
zero-flag false = refl

pub not-not : (p : Bool) → not (not p) ≡ p
not-not true = refl
not-not false = refl

-- what follows where both operands have values, for an operator that has a value on every two words
plain : (y : List ℤ) (t : Term) (safe : Term) (combine : ℤ → ℤ → Option ℤ) (p q : Option ℤ) →
    term_value safe y ≡ flag (has_value p && has_value q) →
    ((m n : ℤ) → p ≡ Some m → q ≡ Some n → combine m n ≡ Some (term_value t y)) →
    Judged y (record { term = t; safe = safe }) (option_and_then (λ m. option_and_then (combine m) q) p)
plain y t safe combine None q s h = record { safe = s; term = λ n e. cc }
plain y t safe combine (Some m) None s h = record { safe = s; term = λ n e. cc }
plain y t safe combine (Some m) (Some n) s h =
    let e = h m n refl refl in
    record { safe = s ∙ ap (λ (o : Option ℤ). flag (has_value o)) (sym e); term = λ k f. cc (e, f) }

pub zero-eq : (v : ℤ) → int_eq v (pos 0) ≡ is_zero v
zero-eq (pos zero) = refl
zero-eq (pos (suc n)) = grind arith
zero-eq (negsuc n) = refl

zero-minus : (m : ℤ) → pos 0 -ℤ m ≡ neg_ℤ m
zero-minus (pos zero) = refl
zero-minus (pos (suc n)) = omega (arith, ints)
zero-minus (negsuc n) = omega (arith, ints)

below-word : (m : ℤ) → IsWord m → cast_unsigned w32 m < 2 ^ 32
below-word (pos n) h = omega (arith, h.sfits)
below-word (negsuc n) h = omega (arith, h.sfits)

below_or_not : (a b : ℕ) → (a < b) ⊎ (b ≤ a)
below_or_not a b = elim (nat_lt a b) as (λ t. nat_lt a b ≡ t → (a < b) ⊎ (b ≤ a)) [ true ↦ λ e. inl (grind (arith, e)) | false ↦ λ e. inr (grind (arith, e)) ] refl

flip-bit : (x i : ℕ) → x < 2 ^ 32 → bit_at (bit_xor x (2 ^ 32 - 1)) i ≡ bit_at (bit_not w32 x) i
flip-bit x i h = elim (below_or_not i 32) [
  | inl low ↦ bit_at_xor x (2 ^ 32 - 1) i ∙ rw (bit_at_ones 32 i low, bit_at_not w32 x i h low) (flipped (bit_at x i) (bit_at-lt x i))
  | inr high ↦ bit_at_xor x (2 ^ 32 - 1) i ∙ rw (bit_at_ones_above 32 i high, bit_at_above x 32 i h high) (sym (bit_at_above (bit_not w32 x) 32 i (omega arith) high))
]
  where
    flipped : (b : ℕ) → b < 2 → (b + 1) % 2 ≡ 1 - b
    flipped zero k = refl
    flipped (suc zero) k = refl
    flipped (suc (suc b)) k = omega arith

xor-ones : (m : ℤ) → IsWord m → int_bit_xor w32 m (negsuc 0) ≡ int_bit_not w32 m
xor-ones m h = ap (cast_signed w32) (same_from_bits (bit_xor (cast_unsigned w32 m) (2 ^ 32 - 1)) (bit_not w32 (cast_unsigned w32 m)) (λ i. flip-bit (cast_unsigned w32 m) i (below-word m h)))

-- the second of two words divides the first, unless it is 0
split : (y : List ℤ) (t safe : Term) (z : Bool) (w : ℤ) → term_value safe y ≡ flag (not z) →
    term_value t y ≡ unwrap_or (if z then None else Some w) (pos 0) → Judged y (record { term = t; safe = safe }) (if z then None else Some w)
split y t safe true w s e = record { safe = s; term = λ n f. cc }
split y t safe false w s e = record { safe = s; term = λ n f. cc (e, f) }

divided : (y : List ℤ) (t safe : Term) (f : ℤ → ℤ → ℤ) (p q : Option ℤ) (v : ℤ) →
    ((k : ℤ) → q ≡ Some k → v ≡ k) →
    term_value safe y ≡ flag ((has_value p && has_value q) && not (is_zero v)) →
    ((m k : ℤ) → p ≡ Some m → q ≡ Some k → term_value t y ≡ unwrap_or (if is_zero k then None else Some (f m k)) (pos 0)) →
    Judged y (record { term = t; safe = safe }) (option_and_then (λ m. option_and_then (λ k. if is_zero k then None else Some (f m k)) q) p)
divided y t safe f None q v is s h = record { safe = s; term = λ n e. cc }
divided y t safe f (Some m) None v is s h = record { safe = s; term = λ n e. cc }
divided y t safe f (Some m) (Some k) v is s h =
    split y t safe (is_zero k) (f m k) (s ∙ ap (λ (x : ℤ). flag (not (is_zero x))) (is k refl)) (h m k refl refl)

also-at : (y : List ℤ) (t safe : Term) (z : Bool) (q : Option ℤ) (v : ℤ) →
    ((k : ℤ) → q ≡ Some k → v ≡ k) →
    term_value safe y ≡ flag (z || has_value q) → term_value t y ≡ flag (not z && not (is_zero v)) →
    Judged y (record { term = t; safe = safe }) (if z then Some (pos 0) else option_map truth q)
also-at y t safe true q v is s e = record { safe = s; term = λ n f. cc (e, f) }
also-at y t safe false None v is s e = record { safe = s; term = λ n f. cc }
also-at y t safe false (Some k) v is s e =
    let at : term_value t y ≡ truth k = e ∙ ap truth (is k refl) in record { safe = s; term = λ n f. cc (at, f) }

and-also : (y : List ℤ) (t safe : Term) (p q : Option ℤ) (u v : ℤ) →
    ((m : ℤ) → p ≡ Some m → u ≡ m) → ((k : ℤ) → q ≡ Some k → v ≡ k) →
    term_value safe y ≡ flag (has_value p && (is_zero u || has_value q)) → term_value t y ≡ flag (not (is_zero u) && not (is_zero v)) →
    Judged y (record { term = t; safe = safe }) (pick p (option_map truth q) (Some (pos 0)))
and-also y t safe None q u v is js s e = record { safe = s; term = λ n f. cc }
and-also y t safe (Some m) q u v is js s e =
    let same : is_zero u ≡ is_zero m = ap is_zero (is m refl) in
    also-at y t safe (is_zero m) q v js (s ∙ ap (λ (z : Bool). flag (z || has_value q)) same) (e ∙ ap (λ (z : Bool). flag (not z && not (is_zero v))) same)

else-at : (y : List ℤ) (t safe : Term) (z : Bool) (q : Option ℤ) (v : ℤ) →
    ((k : ℤ) → q ≡ Some k → v ≡ k) →
    term_value safe y ≡ flag (not z || has_value q) → term_value t y ≡ flag (not z || not (is_zero v)) →
    Judged y (record { term = t; safe = safe }) (if z then option_map truth q else Some (pos 1))
else-at y t safe false q v is s e = record { safe = s; term = λ n f. cc (e, f) }
else-at y t safe true None v is s e = record { safe = s; term = λ n f. cc }
else-at y t safe true (Some k) v is s e =
    let at : term_value t y ≡ truth k = e ∙ ap truth (is k refl) in record { safe = s; term = λ n f. cc (at, f) }

or-else : (y : List ℤ) (t safe : Term) (p q : Option ℤ) (u v : ℤ) →
    ((m : ℤ) → p ≡ Some m → u ≡ m) → ((k : ℤ) → q ≡ Some k → v ≡ k) →
    term_value safe y ≡ flag (has_value p && (not (is_zero u) || has_value q)) → term_value t y ≡ flag (not (is_zero u) || not (is_zero v)) →
    Judged y (record { term = t; safe = safe }) (pick p (Some (pos 1)) (option_map truth q))
or-else y t safe None q u v is js s e = record { safe = s; term = λ n f. cc }
or-else y t safe (Some m) q u v is js s e =
    let same : is_zero u ≡ is_zero m = ap is_zero (is m refl) in
    else-at y t safe (is_zero m) q v js (s ∙ ap (λ (z : Bool). flag (not z || has_value q)) same) (e ∙ ap (λ (z : Bool). flag (not z || not (is_zero v))) same)

pick-at : (y : List ℤ) (t safe : Term) (z : Bool) (p q : Option ℤ) (u v : ℤ) →
    ((m : ℤ) → p ≡ Some m → u ≡ m) → ((k : ℤ) → q ≡ Some k → v ≡ k) →
    term_value safe y ≡ flag ((z || has_value p) && (not z || has_value q)) → term_value t y ≡ (if z then v else u) →
    Judged y (record { term = t; safe = safe }) (if z then q else p)
pick-at y t safe true p q u v is js s e = record { safe = s; term = λ n f. e ∙ js n f }
pick-at y t safe false None q u v is js s e = record { safe = s; term = λ n f. cc }
pick-at y t safe false (Some m) q u v is js s e = record { safe = s; term = λ n f. e ∙ is n f }

picked : (y : List ℤ) (t safe : Term) (c p q : Option ℤ) (w u v : ℤ) →
    ((m : ℤ) → c ≡ Some m → w ≡ m) → ((m : ℤ) → p ≡ Some m → u ≡ m) → ((k : ℤ) → q ≡ Some k → v ≡ k) →
    term_value safe y ≡ flag ((has_value c && (is_zero w || has_value p)) && (not (is_zero w) || has_value q)) →
    term_value t y ≡ (if is_zero w then v else u) →
    Judged y (record { term = t; safe = safe }) (pick c p q)
picked y t safe None p q w u v hs is js s e = record { safe = s; term = λ n f. cc }
picked y t safe (Some m) p q w u v hs is js s e =
    let same : is_zero w ≡ is_zero m = ap is_zero (hs m refl) in
    pick-at y t safe (is_zero m) p q u v is js
    (s ∙ ap (λ (z : Bool). flag ((z || has_value p) && (not z || has_value q))) same)
    (e ∙ ap (λ (z : Bool). if z then v else u) same)

-- a unary operator
unary-judged : (n : ℕ) (y : List ℤ) → All IsWord y → (op : UnOp) (s : Symbol) (p : Option ℤ) → AreOver n s → Judged y s p →
    Judged y (record { term = unary_term op s.term; safe = s.safe }) (option_map (unary op) p)
unary-judged n y w op s None o j = record { safe = j.safe; term = λ k e. cc }
unary-judged n y w Neg s (Some m) o j =
    let at : term_value (unary_term Neg s.term) y ≡ unary Neg m =
    folded-value n Sub (Num (pos 0)) s.term y (num-term n (pos 0) refl) o.term w
    ∙ rw (term_value-Num (pos 0) y, j.term m refl, zero-minus m) refl in
    record { safe = j.safe; term = λ k e. cc (at, e) }
unary-judged n y w Not s (Some m) o j =
    let at : term_value (unary_term Not s.term) y ≡ unary Not m =
    negation-value n (truth_of s.term) y (truth-term n s.term o.term) w
    ∙ rw (truth-value n s.term y o.term w, j.term m refl, zero-flag (not (is_zero m)), not-not (is_zero m)) refl in
    record { safe = j.safe; term = λ k e. cc (at, e) }
unary-judged n y w Flip s (Some m) o j =
    let word : IsWord m = let P : ℤ → Type 0 = IsWord in subst P (j.term m refl) (term_has_a_word n s.term y o.term w) in
    let at : term_value (unary_term Flip s.term) y ≡ unary Flip m =
    folded-value n Xor s.term (Num (negsuc 0)) y o.term (num-term n (negsuc 0) refl) w
    ∙ rw (term_value-Num (negsuc 0) y, j.term m refl) (xor-ones m word) in
    record { safe = j.safe; term = λ k e. cc (at, e) }

unary-over : (n : ℕ) (op : UnOp) (s : Symbol) → AreOver n s → AreOver n (record { term = unary_term op s.term; safe = s.safe })
unary-over n Neg s o = record { term = folded-term n Sub (Num (pos 0)) s.term (num-term n (pos 0) refl) o.term; safe = o.safe }
unary-over n Not s o = record { term = negation-term n (truth_of s.term) (truth-term n s.term o.term); safe = o.safe }
unary-over n Flip s o = record { term = folded-term n Xor s.term (Num (negsuc 0)) o.term (num-term n (negsuc 0) refl); safe = o.safe }

-- the value of a binary term, where both operands have values
value-two : (n : ℕ) (y : List ℤ) → All IsWord y → (op : TermOp) (s t : Symbol) (p q : Option ℤ) → AreOver n s → AreOver n t → Judged y s p → Judged y t q →
    (m k : ℤ) → p ≡ Some m → q ≡ Some k → term_value (folded op s.term t.term) y ≡ total op m k
value-two n y w op s t p q o r j h m k e f = folded-value n op s.term t.term y o.term r.term w ∙ rw (j.term m e, h.term k f) refl

safe-two : (n : ℕ) (y : List ℤ) → All IsWord y → (s t : Symbol) (p q : Option ℤ) → AreOver n s → AreOver n t → Judged y s p → Judged y t q →
    term_value (both_safe s t) y ≡ flag (has_value p && has_value q)
safe-two n y w s t p q o r j h = folded-value n And s.safe t.safe y o.safe r.safe w ∙ rw (j.safe, h.safe) (and-flags (has_value p) (has_value q))

safe-two-over : (n : ℕ) (s t : Symbol) → AreOver n s → AreOver n t → IsTerm n (both_safe s t)
safe-two-over n s t o r = folded-term n And s.safe t.safe o.safe r.safe

truth-two : (n : ℕ) (y : List ℤ) → All IsWord y → (op : TermOp) (s t : Symbol) → AreOver n s → AreOver n t →
    term_value (folded op (truth_of s.term) (truth_of t.term)) y ≡ total op (flag (not (is_zero (term_value s.term y)))) (flag (not (is_zero (term_value t.term y))))
truth-two n y w op s t o r =
    folded-value n op (truth_of s.term) (truth_of t.term) y (truth-term n s.term o.term) (truth-term n t.term r.term) w
    ∙ rw (truth-value n s.term y o.term w, truth-value n t.term y r.term w) refl

-- an operator whose term goes by a term's operator on both operands, as they stand or exchanged
straight : (n : ℕ) (y : List ℤ) → All IsWord y → (op : TermOp) (combine : ℤ → ℤ → Option ℤ) (s t : Symbol) (p q : Option ℤ) → AreOver n s → AreOver n t → Judged y s p → Judged y t q →
    ((m k : ℤ) → combine m k ≡ Some (total op m k)) →
    Judged y (record { term = folded op s.term t.term; safe = both_safe s t }) (option_and_then (λ m. option_and_then (combine m) q) p)
straight n y w op combine s t p q o r j h same =
    plain y (folded op s.term t.term) (both_safe s t) combine p q (safe-two n y w s t p q o r j h)
    (λ m k e f. same m k ∙ ap (λ (v : ℤ). Some v) (sym (value-two n y w op s t p q o r j h m k e f)))

exchanged : (n : ℕ) (y : List ℤ) → All IsWord y → (op : TermOp) (combine : ℤ → ℤ → Option ℤ) (s t : Symbol) (p q : Option ℤ) → AreOver n s → AreOver n t → Judged y s p → Judged y t q →
    ((m k : ℤ) → combine m k ≡ Some (total op k m)) →
    Judged y (record { term = folded op t.term s.term; safe = both_safe s t }) (option_and_then (λ m. option_and_then (combine m) q) p)
exchanged n y w op combine s t p q o r j h same =
    plain y (folded op t.term s.term) (both_safe s t) combine p q (safe-two n y w s t p q o r j h)
    (λ m k e f. same m k ∙ ap (λ (v : ℤ). Some v) (sym (value-two n y w op t s q p r o h j k m f e)))

-- a division
over-zero : (n : ℕ) (y : List ℤ) → All IsWord y → (op : TermOp) (f : ℤ → ℤ → ℤ) (s t : Symbol) (p q : Option ℤ) → AreOver n s → AreOver n t → Judged y s p → Judged y t q →
    ((m k : ℤ) → total op m k ≡ unwrap_or (if is_zero k then None else Some (f m k)) (pos 0)) →
    Judged y (record { term = folded op s.term t.term; safe = folded And (both_safe s t) (folded Ne t.term (Num (pos 0))) })
    (option_and_then (λ m. option_and_then (λ k. if is_zero k then None else Some (f m k)) q) p)
over-zero n y w op f s t p q o r j h same =
    let num = num-term n (pos 0) refl in
    let nonzero : term_value (folded Ne t.term (Num (pos 0))) y ≡ flag (not (is_zero (term_value t.term y))) =
    folded-value n Ne t.term (Num (pos 0)) y r.term num w ∙ rw (term_value-Num (pos 0) y, zero-eq (term_value t.term y)) refl in
    let safe = folded-value n And (both_safe s t) (folded Ne t.term (Num (pos 0))) y (safe-two-over n s t o r) (folded-term n Ne t.term (Num (pos 0)) r.term num) w
    ∙ rw (safe-two n y w s t p q o r j h, nonzero) (and-flags (has_value p && has_value q) (not (is_zero (term_value t.term y)))) in
    divided y _ _ f p q (term_value t.term y) h.term safe (λ m k e g. value-two n y w op s t p q o r j h m k e g ∙ same m k)

-- the safety of a second operand that is evaluated only where a test is so
guarded : (n : ℕ) (y : List ℤ) → All IsWord y → (g : Term) (z : Bool) (t : Symbol) (q : Option ℤ) → IsTerm n g → AreOver n t → term_value g y ≡ flag z → Judged y t q →
    term_value (folded Or g t.safe) y ≡ flag (z || has_value q)
guarded n y w g z t q o r e h = folded-value n Or g t.safe y o r.safe w ∙ rw (e, h.safe) (or-flags z (has_value q))

not-truth : (n : ℕ) (y : List ℤ) → All IsWord y → (s : Symbol) → AreOver n s → term_value (negation (truth_of s.term)) y ≡ flag (is_zero (term_value s.term y))
not-truth n y w s o =
    negation-value n (truth_of s.term) y (truth-term n s.term o.term) w
    ∙ rw (truth-value n s.term y o.term w, zero-flag (not (is_zero (term_value s.term y))), not-not (is_zero (term_value s.term y))) refl

binary-judged : (n : ℕ) (y : List ℤ) → All IsWord y → (op : BinOp) (s t : Symbol) (p q : Option ℤ) → AreOver n s → AreOver n t → Judged y s p → Judged y t q →
    Judged y (record { term = binary_term op s.term t.term; safe = binary_safe op s t }) (operate op p q)
binary-judged n y w b.Add s t p q o r j h = straight n y w Add (binary b.Add) s t p q o r j h (λ m k. refl)
binary-judged n y w b.Sub s t p q o r j h = straight n y w Sub (binary b.Sub) s t p q o r j h (λ m k. refl)
binary-judged n y w b.Mul s t p q o r j h = straight n y w Mul (binary b.Mul) s t p q o r j h (λ m k. refl)
binary-judged n y w b.Shl s t p q o r j h = straight n y w Shl (binary b.Shl) s t p q o r j h (λ m k. refl)
binary-judged n y w b.Shr s t p q o r j h = straight n y w Shr (binary b.Shr) s t p q o r j h (λ m k. refl)
binary-judged n y w b.And s t p q o r j h = straight n y w And (binary b.And) s t p q o r j h (λ m k. refl)
binary-judged n y w b.Or s t p q o r j h = straight n y w Or (binary b.Or) s t p q o r j h (λ m k. refl)
binary-judged n y w b.Xor s t p q o r j h = straight n y w Xor (binary b.Xor) s t p q o r j h (λ m k. refl)
binary-judged n y w b.Lt s t p q o r j h = straight n y w Lt (binary b.Lt) s t p q o r j h (λ m k. refl)
binary-judged n y w b.Le s t p q o r j h = straight n y w Le (binary b.Le) s t p q o r j h (λ m k. refl)
binary-judged n y w b.Eq s t p q o r j h = straight n y w Eq (binary b.Eq) s t p q o r j h (λ m k. refl)
binary-judged n y w b.Ne s t p q o r j h = straight n y w Ne (binary b.Ne) s t p q o r j h (λ m k. refl)
binary-judged n y w b.Gt s t p q o r j h = exchanged n y w Lt (binary b.Gt) s t p q o r j h (λ m k. refl)
binary-judged n y w b.Ge s t p q o r j h = exchanged n y w Le (binary b.Ge) s t p q o r j h (λ m k. refl)
binary-judged n y w b.Div s t p q o r j h = over-zero n y w Div (λ m k. wrap (int_div m k)) s t p q o r j h (λ m k. refl)
binary-judged n y w b.Rem s t p q o r j h = over-zero n y w Rem (λ m k. int_rem m k) s t p q o r j h (λ m k. refl)
binary-judged n y w b.AndAlso s t p q o r j h =
    let guard = guarded n y w (negation (truth_of s.term)) (is_zero (term_value s.term y)) t q (negation-term n _ (truth-term n s.term o.term)) r (not-truth n y w s o) h in
    let safe = folded-value n And s.safe (folded Or (negation (truth_of s.term)) t.safe) y o.safe (folded-term n Or _ _ (negation-term n _ (truth-term n s.term o.term)) r.safe) w
    ∙ rw (j.safe, guard) (and-flags (has_value p) (is_zero (term_value s.term y) || has_value q)) in
    and-also y _ _ p q (term_value s.term y) (term_value t.term y) j.term h.term safe
    (truth-two n y w And s t o r ∙ and-flags (not (is_zero (term_value s.term y))) (not (is_zero (term_value t.term y))))
binary-judged n y w b.OrElse s t p q o r j h =
    let guard = guarded n y w (truth_of s.term) (not (is_zero (term_value s.term y))) t q (truth-term n s.term o.term) r (truth-value n s.term y o.term w) h in
    let safe = folded-value n And s.safe (folded Or (truth_of s.term) t.safe) y o.safe (folded-term n Or _ _ (truth-term n s.term o.term) r.safe) w
    ∙ rw (j.safe, guard) (and-flags (has_value p) (not (is_zero (term_value s.term y)) || has_value q)) in
    or-else y _ _ p q (term_value s.term y) (term_value t.term y) j.term h.term safe
    (truth-two n y w Or s t o r ∙ or-flags (not (is_zero (term_value s.term y))) (not (is_zero (term_value t.term y))))

binary-over : (n : ℕ) (op : BinOp) (s t : Symbol) → AreOver n s → AreOver n t → AreOver n (record { term = binary_term op s.term t.term; safe = binary_safe op s t })
binary-over n b.Add s t o r = record { term = folded-term n Add _ _ o.term r.term; safe = safe-two-over n s t o r }
binary-over n b.Sub s t o r = record { term = folded-term n Sub _ _ o.term r.term; safe = safe-two-over n s t o r }
binary-over n b.Mul s t o r = record { term = folded-term n Mul _ _ o.term r.term; safe = safe-two-over n s t o r }
binary-over n b.Shl s t o r = record { term = folded-term n Shl _ _ o.term r.term; safe = safe-two-over n s t o r }
binary-over n b.Shr s t o r = record { term = folded-term n Shr _ _ o.term r.term; safe = safe-two-over n s t o r }
binary-over n b.And s t o r = record { term = folded-term n And _ _ o.term r.term; safe = safe-two-over n s t o r }
binary-over n b.Or s t o r = record { term = folded-term n Or _ _ o.term r.term; safe = safe-two-over n s t o r }
binary-over n b.Xor s t o r = record { term = folded-term n Xor _ _ o.term r.term; safe = safe-two-over n s t o r }
binary-over n b.Lt s t o r = record { term = folded-term n Lt _ _ o.term r.term; safe = safe-two-over n s t o r }
binary-over n b.Le s t o r = record { term = folded-term n Le _ _ o.term r.term; safe = safe-two-over n s t o r }
binary-over n b.Eq s t o r = record { term = folded-term n Eq _ _ o.term r.term; safe = safe-two-over n s t o r }
binary-over n b.Ne s t o r = record { term = folded-term n Ne _ _ o.term r.term; safe = safe-two-over n s t o r }
binary-over n b.Gt s t o r = record { term = folded-term n Lt _ _ r.term o.term; safe = safe-two-over n s t o r }
binary-over n b.Ge s t o r = record { term = folded-term n Le _ _ r.term o.term; safe = safe-two-over n s t o r }
binary-over n b.Div s t o r = record {
  term = folded-term n Div _ _ o.term r.term;
  safe = folded-term n And _ _ (safe-two-over n s t o r) (folded-term n Ne _ _ r.term (num-term n (pos 0) refl));
}
binary-over n b.Rem s t o r = record {
  term = folded-term n Rem _ _ o.term r.term;
  safe = folded-term n And _ _ (safe-two-over n s t o r) (folded-term n Ne _ _ r.term (num-term n (pos 0) refl));
}
binary-over n b.AndAlso s t o r = record {
  term = folded-term n And _ _ (truth-term n s.term o.term) (truth-term n t.term r.term);
  safe = folded-term n And _ _ o.safe (folded-term n Or _ _ (negation-term n _ (truth-term n s.term o.term)) r.safe);
}
binary-over n b.OrElse s t o r = record {
  term = folded-term n Or _ _ (truth-term n s.term o.term) (truth-term n t.term r.term);
  safe = folded-term n And _ _ o.safe (folded-term n Or _ _ (truth-term n s.term o.term) r.safe);
}

pick-judged : (n : ℕ) (y : List ℤ) → All IsWord y → (c s t : Symbol) (o p q : Option ℤ) → AreOver n c → AreOver n s → AreOver n t → Judged y c o → Judged y s p → Judged y t q →
    Judged y (record { term = folded_pick (truth_of c.term) s.term t.term; safe = pick_safe c s t }) (pick o p q)
pick-judged n y w c s t o p q oc os ot jc js jt =
    let v = term_value c.term y in
    let tc = truth-term n c.term oc.term in
    let chosen = guarded n y w (negation (truth_of c.term)) (is_zero v) s p (negation-term n _ tc) os (not-truth n y w c oc) js in
    let other = guarded n y w (truth_of c.term) (not (is_zero v)) t q tc ot (truth-value n c.term y oc.term w) jt in
    let left : term_value (folded And c.safe (folded Or (negation (truth_of c.term)) s.safe)) y ≡ flag (has_value o && (is_zero v || has_value p)) =
    folded-value n And c.safe (folded Or (negation (truth_of c.term)) s.safe) y oc.safe (folded-term n Or _ _ (negation-term n _ tc) os.safe) w
    ∙ rw (jc.safe, chosen) (and-flags (has_value o) (is_zero v || has_value p)) in
    let one = folded And c.safe (folded Or (negation (truth_of c.term)) s.safe) in
    let two = folded Or (truth_of c.term) t.safe in
    let safe : term_value (pick_safe c s t) y ≡ flag ((has_value o && (is_zero v || has_value p)) && (not (is_zero v) || has_value q)) =
    folded-value n And one two y (folded-term n And _ _ oc.safe (folded-term n Or _ _ (negation-term n _ tc) os.safe)) (folded-term n Or _ _ tc ot.safe) w
    ∙ rw (left, other) (and-flags (has_value o && (is_zero v || has_value p)) (not (is_zero v) || has_value q)) in
    let value : term_value (folded_pick (truth_of c.term) s.term t.term) y ≡ (if is_zero v then term_value t.term y else term_value s.term y) =
    pick-value n (truth_of c.term) s.term t.term y tc os.term ot.term w ∙ rw (truth-value n c.term y oc.term w, zero-flag (not (is_zero v)), not-not (is_zero v)) refl in
    picked y _ _ o p q v (term_value s.term y) (term_value t.term y) jc.term js.term jt.term safe
    value

pick-over : (n : ℕ) (c s t : Symbol) → AreOver n c → AreOver n s → AreOver n t → AreOver n (record { term = folded_pick (truth_of c.term) s.term t.term; safe = pick_safe c s t })
pick-over n c s t oc os ot =
    let tc = truth-term n c.term oc.term in
    record {
      term = pick-term n _ _ _ tc os.term ot.term;
      safe = folded-term n And _ _ (folded-term n And _ _ oc.safe (folded-term n Or _ _ (negation-term n _ tc) os.safe)) (folded-term n Or _ _ tc ot.safe);
    }

num-judged : (y : List ℤ) (w : ℤ) → Judged y (record { term = Num w; safe = Num (pos 1) }) (Some w)
num-judged y w = record { safe = term_value-Num (pos 1) y; term = λ n e. term_value-Num w y ∙ cc e }

var-judged : (env : List Term) (y : List ℤ) (v : ℕ) → nat_lt v (length env) ≡ true →
    Judged y (record { term = unwrap_or (slice_get env v) (Num (pos 0)); safe = Num (pos 1) }) (slice_get (state_of env y) v)
var-judged [] y v e = absurd (grind (arith, e))
var-judged (t ∷ env) y zero e = record { safe = term_value-Num (pos 1) y; term = λ n f. cc f }
var-judged (t ∷ env) y (suc v) e = var-judged env y v (grind (arith, e))

and-left : (p q : Bool) → (p && q) ≡ true → p ≡ true
and-left true q e = refl
and-left false q e = e

and-right : (p q : Bool) → (p && q) ≡ true → q ≡ true
and-right true q e = e
and-right false q e = cc

abbrev Says : ℕ → List ℤ → List Term → Expr → Type 0
Says n y env e = expr_over (length env) e ≡ true → IsSaid n y env e

said : (n : ℕ) (y : List ℤ) (env : List Term) (z : Expr-F Expr) →
    AreOver n (node_symbol (map-Expr Expr (List Term → Symbol) symbol z) env) →
    Judged y (node_symbol (map-Expr Expr (List Term → Symbol) symbol z) env) (node_value (map-Expr Expr (List ℤ → Option ℤ) value z) (state_of env y)) →
    IsSaid n y env (roll-Expr z)
said n y env z o j =
    let s = sym (ap (λ (f : List Term → Symbol). f env) (fold-roll-Expr (List Term → Symbol) node_symbol z)) in
    let v = sym (ap (λ (f : List ℤ → Option ℤ). f (state_of env y)) (fold-roll-Expr (List ℤ → Option ℤ) node_value z)) in
    record { over = subst (AreOver n) s o; judged = subst (λ (p : Symbol × Option ℤ). Judged y p.0 p.1) (λ i. (s i, v i)) j }

step : (n : ℕ) (y : List ℤ) → All IsWord y → (env : List Term) → AreTerms n env → (z : Expr-F ((e : Expr) × Says n y env e)) →
    Says n y env (roll-Expr (map-Expr ((e : Expr) × Says n y env e) Expr (λ e. e.0) z))
step n y w env ts (Expr-F.Num k) = λ e.
    let f = sym (fold-roll-Expr Bool (node_expr_over (length env)) (Expr-F.Num k)) ∙ e in
    said n y env (Expr-F.Num k) (record { term = num-term n k f; safe = num-term n (pos 1) refl }) (num-judged y k)
step n y w env ts (Expr-F.Var v) = λ e.
    let f = sym (fold-roll-Expr Bool (node_expr_over (length env)) (Expr-F.Var v)) ∙ e in
    said n y env (Expr-F.Var v) (record { term = ts v; safe = num-term n (pos 1) refl }) (var-judged env y v f)
step n y w env ts (Expr-F.Un op a) = λ e.
    let f = sym (fold-roll-Expr Bool (node_expr_over (length env)) (Expr-F.Un op a.0)) ∙ e in
    let one = a.1 f in
    said n y env (Expr-F.Un op a.0) (unary-over n op _ one.over) (unary-judged n y w op _ _ one.over one.judged)
step n y w env ts (Expr-F.Bin op a c) = λ e.
    let f = sym (fold-roll-Expr Bool (node_expr_over (length env)) (Expr-F.Bin op a.0 c.0)) ∙ e in
    let one = a.1 (and-left _ _ f) in
    let two = c.1 (and-right _ _ f) in
    said n y env (Expr-F.Bin op a.0 c.0) (binary-over n op _ _ one.over two.over) (binary-judged n y w op _ _ _ _ one.over two.over one.judged two.judged)
step n y w env ts (Expr-F.Pick a c d) = λ e.
    let f = sym (fold-roll-Expr Bool (node_expr_over (length env)) (Expr-F.Pick a.0 c.0 d.0)) ∙ e in
    let g = and-right _ _ f in
    let one = a.1 (and-left _ _ f) in
    let two = c.1 (and-left _ _ g) in
    let three = d.1 (and-right _ _ g) in
    said n y env (Expr-F.Pick a.0 c.0 d.0) (pick-over n _ _ _ one.over two.over three.over)
    (pick-judged n y w _ _ _ _ _ _ one.over two.over three.over one.judged two.judged three.judged)

pub symbol-said : (n : ℕ) (y : List ℤ) → All IsWord y → (env : List Term) → AreTerms n env → (e : Expr) → expr_over (length env) e ≡ true → IsSaid n y env e
symbol-said n y w env ts e h = ind-Expr (Says n y env) (λ x z is. subst (λ c. Says n y env (roll-Expr c)) is (step n y w env ts z)) e h
