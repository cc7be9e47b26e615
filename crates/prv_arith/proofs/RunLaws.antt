-- The runs of circuits that are made step by step.
use Rattle.std.proofs.Common.{◌≡◌, ℕ, zero, suc, ◌+◌, ◌-◌, ◌*◌, ◌^◌, ◌<◌, ◌≤◌, List, [], ◌∷◌, ◌++◌, length, take, drop, replicate, get_or, refl, sym, ap, ap₂, subst, ◌∙◌, arith, drop-cons, length-drop}
use Rattle.std.proofs.Math.ListN.{drop_of_length-le}
use Rattle.std.proofs.Math.Seq.{take-append-add, take-append_seam}
use Rattle.std.proofs.lemmas.List.{append-nil, take-replicate, length-replicate, drop-append-le, drop-replicate}
use Rattle.prv_gate.specs.Bits.{negate_bit}
use Rattle.prv_gate.specs.Circuits.{Circuit, Run, give, and_then, opposite}
use Rattle.prv_gate.specs.Folding.{and_gate, xor_gate, mux_gate}
use Rattle.prv_gate.specs.declared.bit.Bit.{Bit}
use Rattle.prv_gate.specs.declared.bit.Bit.TheVariants.{False, True}
use Rattle.prv_bits.specs.Places.{low, high, raised, lowered}
use Rattle.prv_arith.specs.declared.pairs.PairGate.TheVariants.{And, Xor, Mux}
use Rattle.prv_arith.specs.Lists.{unset_bits, opposites, IsReady}
use Rattle.prv_arith.specs.Pairs.{or_gate, paired, some}
use Rattle.prv_arith.specs.Sums.{summed, added, negated}
use Rattle.prv_arith.specs.Orders.{less, signed_less, unlike, flag}
use Rattle.prv_arith.specs.Words.{flag_word, pick_bits}
use Rattle.prv_arith.specs.Products.{row_added, times}
use Rattle.prv_arith.specs.Shifts.{shifted_up, shifted_down}
use Rattle.prv_arith.specs.Quotients.{fitting, divided_step}

abbrev Answers : (A : Type 0) → A → Circuit → Run A → Type 0
Answers A a t q = record { out = a; circuit = t } ≡ q

-- a step, and what is made of its answer
pub joins : {A B : Type 0} (r q : Run A) (next : A → Circuit → Run B) (p : Run B) → r ≡ q → p ≡ next r.out r.circuit → p ≡ and_then q next
joins {A} r q next p e f = f ∙ ap (λ (x : Run A). next x.out x.circuit) e

pub some-step : (c : Bit) (bits : List Bit) (k : ℕ) (s : Circuit) → k < length bits →
    some c (drop k bits) s ≡ and_then (or_gate c (get_or bits k False) s) (λ d t. some d (drop (suc k) bits) t)
some-step c bits k s lt = ap (λ (l : List Bit). some c l s) (drop-cons bits k False lt)

pub some-next : (c d : Bit) (bits : List Bit) (k : ℕ) (s t : Circuit) → k < length bits → Answers Bit d t (or_gate c (get_or bits k False) s) →
    some d (drop (suc k) bits) t ≡ some c (drop k bits) s
some-next c d bits k s t lt e = ap (λ (r : Run Bit). some r.out (drop (suc k) bits) r.circuit) e ∙ sym (some-step c bits k s lt)

pub negated-run : (n : ℕ) (c : Bit) (bs flipped out : List Bit) (s t u : Circuit) → n ≡ length bs →
    Answers (List Bit) flipped t (paired Xor (replicate n c) bs s) → Answers (List Bit) out u (added c flipped (unset_bits n) t) → Answers (List Bit) out u (negated c bs s)
unfolding negated
negated-run n c bs flipped out s t u e one two =
    joins (record { out = flipped; circuit = t }) (paired Xor (replicate (length bs) c) bs s) (λ f w. added c f (unset_bits (length bs)) w) (record { out = out; circuit = u })
    (one ∙ ap (λ (k : ℕ). paired Xor (replicate k c) bs s) e) (two ∙ ap (λ (k : ℕ). added c flipped (unset_bits k) t) e)

pub signed_less-run : (xs ys : List Bit) (s t u w : Circuit) (c d out : Bit) → 0 < length xs → length ys ≡ length xs →
    Answers Bit c t (less (drop 1 xs) (drop 1 ys) s) → Answers Bit d u (xor_gate (get_or ys 0 False) (get_or xs 0 False) t) →
    Answers Bit out w (mux_gate d (get_or xs 0 False) c u) → Answers Bit out w (signed_less xs ys s)
signed_less-run [] ys s t u w c d out lt e one two three = absurd (omega arith)
signed_less-run (x ∷ xs) [] s t u w c d out lt e one two three = cc
signed_less-run (x ∷ xs) (y ∷ ys) s t u w c d out lt e one two three =
    joins (record { out = c; circuit = t }) (less xs ys s) (λ l z. and_then (xor_gate y x z) (λ b a. mux_gate b x l a)) (record { out = out; circuit = w }) one
    (joins (record { out = d; circuit = u }) (xor_gate y x t) (λ b a. mux_gate b x c a) (record { out = out; circuit = w }) two three)

pub unlike-run : (xs ys places : List Bit) (s t u : Circuit) (out : Bit) →
    Answers (List Bit) places t (paired Xor xs ys s) → Answers Bit out u (some False places t) → Answers Bit out u (unlike xs ys s)
unfolding unlike
unlike-run xs ys places s t u out one two =
    joins (record { out = places; circuit = t }) (paired Xor xs ys s) (λ p w. some False p w) (record { out = out; circuit = u }) one two

pub row_added-run : (y : Bit) (row bs gated sum : List Bit) (s t u : Circuit) →
    Answers (List Bit) gated t (paired And (replicate (length row) y) row s) → Answers (List Bit) sum u (added False gated (take (length row) bs) t) →
    Answers (List Bit) (sum ++ drop (length row) bs) u (row_added y row bs s)
unfolding row_added
row_added-run y row bs gated sum s t u one two =
    joins (record { out = gated; circuit = t }) (paired And (replicate (length row) y) row s)
    (λ g w. and_then (added False g (take (length row) bs) w) (λ b z. give (b ++ drop (length row) bs) z)) (record { out = sum ++ drop (length row) bs; circuit = u }) one
    (joins (record { out = sum; circuit = u }) (added False gated (take (length row) bs) t) (λ b z. give (b ++ drop (length row) bs) z) (record { out = sum ++ drop (length row) bs; circuit = u }) two refl)

pub fitting-run : (d r : List Bit) (m n : ℕ) (carry over above opposite within out : Bit) (s t u w z : Circuit) → m ≡ length r - length d → n ≡ length d - length r →
    Answers Bit over t (some False (take m r) s) → Answers Bit above u (some False (take n d) t) → opposite ≡ negate_bit above →
    Answers Bit within w (and_gate opposite carry u) → Answers Bit out z (or_gate over within w) → Answers Bit out z (fitting d r carry s)
unfolding fitting
fitting-run d r m n carry over above opposite within out s t u w z em en one' two' e three four =
    let end : Run Bit = record { out = out; circuit = z } in
    let one = one' ∙ ap (λ (k : ℕ). some False (take k r) s) em in
    let two = two' ∙ ap (λ (k : ℕ). some False (take k d) t) en in
    joins (record { out = over; circuit = t }) (some False (high (length d) r) s)
    (λ o y. and_then (some False (high (length r) d) y) (λ a x. and_then (and_gate (negate_bit a) carry x) (λ i v. or_gate o i v))) end one
    (joins (record { out = above; circuit = u }) (some False (high (length r) d) t) (λ a x. and_then (and_gate (negate_bit a) carry x) (λ i v. or_gate over i v)) end two
    (joins (record { out = within; circuit = w }) (and_gate (negate_bit above) carry u) (λ i v. or_gate over i v) end (three ∙ ap (λ (b : Bit). and_gate b carry u) e) four))

pub divided_step-run : (d r difference rest : List Bit) (carry fits : Bit) (s t u w : Circuit) →
    Answers (Bit × List Bit) (carry, difference) t (summed True (low (length d) r) (low (length r) (opposites d)) s) →
    Answers Bit fits u (fitting d r carry t) → Answers (List Bit) rest w (paired (Mux fits) difference (low (length d) r) u) →
    Answers (Bit × List Bit) (fits, rest) w (divided_step d r s)
unfolding divided_step
divided_step-run d r difference rest carry fits s t u w one two three =
    let end : Run (Bit × List Bit) = record { out = (fits, rest); circuit = w } in
    joins (record { out = (carry, difference); circuit = t }) (summed True (low (length d) r) (low (length r) (opposites d)) s)
    (λ p y. and_then (fitting d r p.0 y) (λ f x. and_then (paired (Mux f) p.1 (low (length d) r) x) (λ b v. give (f, b) v))) end one
    (joins (record { out = fits; circuit = u }) (fitting d r carry t) (λ f x. and_then (paired (Mux f) difference (low (length d) r) x) (λ b v. give (f, b) v)) end two
    (joins (record { out = rest; circuit = w }) (paired (Mux fits) difference (low (length d) r) u) (λ b v. give (fits, b) v) end three refl))

pub times-none : (n : ℕ) (xs ys : List Bit) (s : Circuit) → n ≡ length xs → length ys ≤ n → Answers (List Bit) (unset_bits n) s (times xs (drop n ys) s)
times-none n xs ys s e le = ap (λ (k : ℕ). give (unset_bits k) s) e ∙ sym (ap (λ (l : List Bit). times xs l s) (drop_of_length-le ys le))

-- lists moved by places
pub raise-is : (n by : ℕ) (bits copied : List Bit) → by ≤ n → length bits ≡ n → copied ≡ drop by bits → copied ++ drop (n - by) (replicate n False) ≡ raised False by bits
raise-is n by bits copied le w e =
    ap₂ (λ (a b : List Bit). a ++ b) e (drop-replicate (n - by) n False ∙ ap (λ (k : ℕ). replicate k False) (omega arith))
    ∙ sym (drop-append-le by bits (replicate by False) (omega arith))

pub lower-is : (n by : ℕ) (c : Bit) (bits copied : List Bit) → by ≤ n → length bits ≡ n → copied ≡ take (n - by) bits →
    take by (replicate n c) ++ (copied ++ drop (n - by) (drop by (replicate n c))) ≡ lowered c by bits
lower-is n by c bits copied le w e =
    let none : drop (n - by) (drop by (replicate n c)) ≡ [] = drop_of_length-le (drop by (replicate n c)) (omega (arith, length-drop by (replicate n c), length-replicate n c)) in
    ap₂ (λ (a b : List Bit). a ++ (copied ++ b)) (take-replicate by n c le) none
    ∙ ap (λ (b : List Bit). replicate by c ++ b) (append-nil copied ∙ e)
    ∙ sym (take-append-add (replicate by c) bits (n - by))
    ∙ ap (λ (k : ℕ). take k (replicate by c ++ bits)) (omega (arith, length-replicate by c))

-- the stages of shifts
pub up-next : (amount bits moved up out : List Bit) (i j by : ℕ) (s b t : Circuit) → i ≡ suc j → i ≤ length amount → by ≡ 2 ^ (length amount - i) → up ≡ raised False by moved →
    Answers (List Bit) moved b (shifted_up (drop i amount) bits s) → Answers (List Bit) out t (paired (Mux (get_or amount j False)) up moved b) →
    Answers (List Bit) out t (shifted_up (drop j amount) bits s)
up-next amount bits moved up out i j by s b t at high p u one two =
    let k = get_or amount j False in
    let rest = drop (suc j) amount in
    let lt : j < length amount = omega arith in
    let w : length amount - i ≡ length rest = omega (arith, length-drop (suc j) amount) in
    joins (record { out = moved; circuit = b }) (shifted_up rest bits s) (λ m z. paired (Mux k) (raised False (2 ^ length rest) m) m z) (record { out = out; circuit = t })
    (one ∙ ap (λ (n : ℕ). shifted_up (drop n amount) bits s) at)
    (two ∙ ap (λ (l : List Bit). paired (Mux k) l moved b) (u ∙ ap (λ (n : ℕ). raised False n moved) (p ∙ ap (λ (n : ℕ). 2 ^ n) w)))
    ∙ sym (ap (λ (l : List Bit). shifted_up l bits s) (drop-cons amount j False lt))

pub down-next : (c : Bit) (amount bits moved down out : List Bit) (i j by : ℕ) (s b t : Circuit) → i ≡ suc j → i ≤ length amount → by ≡ 2 ^ (length amount - i) → down ≡ lowered c by moved →
    Answers (List Bit) moved b (shifted_down c (drop i amount) bits s) → Answers (List Bit) out t (paired (Mux (get_or amount j False)) down moved b) →
    Answers (List Bit) out t (shifted_down c (drop j amount) bits s)
down-next c amount bits moved down out i j by s b t at high p u one two =
    let k = get_or amount j False in
    let rest = drop (suc j) amount in
    let lt : j < length amount = omega arith in
    let w : length amount - i ≡ length rest = omega (arith, length-drop (suc j) amount) in
    joins (record { out = moved; circuit = b }) (shifted_down c rest bits s) (λ m z. paired (Mux k) (lowered c (2 ^ length rest) m) m z) (record { out = out; circuit = t })
    (one ∙ ap (λ (n : ℕ). shifted_down c (drop n amount) bits s) at)
    (two ∙ ap (λ (l : List Bit). paired (Mux k) l moved b) (u ∙ ap (λ (n : ℕ). lowered c n moved) (p ∙ ap (λ (n : ℕ). 2 ^ n) w)))
    ∙ sym (ap (λ (l : List Bit). shifted_down c l bits s) (drop-cons amount j False lt))

-- a part that goes to the end of a list
pub take-whole : (n : ℕ) (l : List Bit) → length l ≤ n → take n l ≡ l
take-whole zero [] h = refl
take-whole zero (x ∷ l) h = absurd (omega arith)
take-whole (suc n) [] h = refl
take-whole (suc n) (x ∷ l) h = ap (λ (t : List Bit). x ∷ t) (take-whole n l (omega arith))

pub take-rest : (k n : ℕ) (xs : List Bit) → length xs ≤ n + k → take n (drop k xs) ≡ drop k xs
take-rest k n xs h = take-whole n (drop k xs) (omega (arith, length-drop k xs))

pub ready-part : (c k n : ℕ) (xs ys : List Bit) (s : Circuit) → length xs ≤ n + k → IsReady (c * length (drop k xs)) s (drop k xs) ys → IsReady (c * length (take n (drop k xs))) s (take n (drop k xs)) ys
ready-part c k n xs ys s le h = let P : List Bit → Type 0 = λ l. IsReady (c * length l) s l ys in subst P (sym (take-rest k n xs le)) h

pub ready-parts : (c k n m : ℕ) (xs ys : List Bit) (s : Circuit) → length xs ≤ n + k → length ys ≤ m + k → IsReady (c * length (drop k xs)) s (drop k xs) (drop k ys) →
    IsReady (c * length (take n (drop k xs))) s (take n (drop k xs)) (take m (drop k ys))
ready-parts c k n m xs ys s le lf h =
    let P : List Bit → Type 0 = λ l. IsReady (c * length (take n (drop k xs))) s (take n (drop k xs)) l in
    subst P (sym (take-rest k m ys lf)) (ready-part c k n xs (drop k ys) s le h)

pub less-parts : (n m : ℕ) (xs ys : List Bit) (s t : Circuit) (c : Bit) → length xs ≤ n + 1 → length ys ≤ m + 1 →
    Answers Bit c t (less (take n (drop 1 xs)) (take m (drop 1 ys)) s) → Answers Bit c t (less (drop 1 xs) (drop 1 ys) s)
less-parts n m xs ys s t c le lf e = e ∙ ap₂ (λ (a b : List Bit). less a b s) (take-rest 1 n xs le) (take-rest 1 m ys lf)

pub front : (k : ℕ) (a b : List Bit) → length a ≡ k → take k (a ++ b) ≡ a
front k a b e = ap (λ (n : ℕ). take n (a ++ b)) (sym e) ∙ take-append_seam a b

pub low-five : (w n k : ℕ) (ys : List Bit) → length ys ≡ w → n + k ≡ w → take n (drop k ys) ≡ low n ys
low-five w n k ys l e = take-rest k n ys (omega arith) ∙ ap (λ (i : ℕ). drop i ys) (omega arith)

pub flag-run : (n m : ℕ) (b : Bit) (word : List Bit) (t : Circuit) (q : Run Bit) → n ≡ m → record { out = b; circuit = t } ≡ q → word ≡ flag n b → Answers (List Bit) word t (flag_word m q)
flag-run n m b word t q e one two =
    ap (λ (l : List Bit). record { out = l; circuit = t }) (two ∙ ap (λ (k : ℕ). flag k b) e) ∙ ap (λ (r : Run Bit). flag_word m r) one

pub opposite-flag-run : (n m : ℕ) (b other : Bit) (word : List Bit) (t : Circuit) (q : Run Bit) → n ≡ m → record { out = b; circuit = t } ≡ q → other ≡ negate_bit b → word ≡ flag n other →
    Answers (List Bit) word t (flag_word m (opposite q))
opposite-flag-run n m b other word t q e one two three =
    flag-run n m other word t (opposite q) e (ap (λ (x : Bit). record { out = x; circuit = t }) two ∙ ap (λ (r : Run Bit). opposite r) one) three

pub pick-run : (cs xs ys bits : List Bit) (c : Bit) (s t u : Circuit) → Answers Bit c t (some False cs s) → Answers (List Bit) bits u (paired (Mux c) xs ys t) → Answers (List Bit) bits u (pick_bits cs xs ys s)
unfolding pick_bits
pick-run cs xs ys bits c s t u one two = joins (record { out = c; circuit = t }) (some False cs s) (λ d w. paired (Mux d) xs ys w) (record { out = bits; circuit = u }) one two
