-- Gates over bits: constants, equal and opposite inputs fold, and the others are made once each,
-- with their inputs in order and signs at the output where the gate allows it.
use Rattle.std.specs.Prelude.{◌+◌, ◌==◌, nat_lt, true, false, if◌then◌else◌}
use Rattle.prv_cnf.specs.declared.literal.Lit.{Lit}
use Rattle.prv_cnf.specs.declared.formula.TheConstants.{MAX_VARS}
use Rattle.prv_cnf.specs.Literals.{variable, negate, same_literal}
use Rattle.prv_gate.specs.Bits.{constant, negate_bit}
use Rattle.prv_gate.specs.Gates.{differ, is_negative, positive, ordered}
use Rattle.prv_gate.specs.Knowledge.{reduced}
use Rattle.prv_gate.specs.Circuits.{Circuit, Run, give, and_then, made, flipped, opposite}
use Rattle.prv_gate.specs.declared.bit.Bit.{Bit}
use Rattle.prv_gate.specs.declared.bit.Bit.TheVariants.{False, True, Lit as Literal}
use Rattle.prv_gate.specs.declared.gate.Gate.TheVariants.{And, Xor, Mux, Majority, Parity}

-- both literals are true
unfoldable pub and_of : Lit → Lit → Circuit → Run Bit
and_of a b s =
    if same_literal a b then give (Literal a) s
    else if same_literal a (negate b) then give False s
    else flipped false (made (And (ordered a b).0 (ordered a b).1) s)

-- one of the literals is true
unfoldable pub or_of : Lit → Lit → Circuit → Run Bit
or_of a b s = opposite (and_of (negate a) (negate b) s)

-- both bits are true, where nothing is known of them
unfoldable pub and_bits : Bit → Bit → Circuit → Run Bit
and_bits False b s = give False s
and_bits True b s = give b s
and_bits (Literal a) False s = give False s
and_bits (Literal a) True s = give (Literal a) s
and_bits (Literal a) (Literal b) s = and_of a b s

-- one of the bits is true, where nothing is known of them
unfoldable pub or_bits : Bit → Bit → Circuit → Run Bit
or_bits a b s = opposite (and_bits (negate_bit a) (negate_bit b) s)

-- the literals differ
unfoldable pub xor_of : Lit → Lit → Circuit → Run Bit
xor_of a b s =
    if variable a == variable b then give (constant (differ (is_negative a) (is_negative b))) s
    else flipped (differ (is_negative a) (is_negative b)) (made (Xor (positive (ordered a b).0) (positive (ordered a b).1)) s)

-- the bits differ, where nothing is known of them
unfoldable pub xor_bits : Bit → Bit → Circuit → Run Bit
xor_bits False b s = give b s
xor_bits True b s = give (negate_bit b) s
xor_bits (Literal a) False s = give (Literal a) s
xor_bits (Literal a) True s = give (Literal (negate a)) s
xor_bits (Literal a) (Literal b) s = xor_of a b s

-- a choice between two literals whose first is positive, or negated with the output
unfoldable pub mux_made : Lit → Lit → Lit → Circuit → Run Bit
mux_made c a b s =
    if is_negative a then flipped true (made (Mux c (negate a) (negate b)) s) else flipped false (made (Mux c a b) s)

-- a choice between two literals, by a selector made positive
unfoldable pub mux_signed : Lit → Lit → Lit → Circuit → Run Bit
mux_signed c a b s = if is_negative c then mux_made (negate c) b a s else mux_made c a b s

-- the first literal chooses between the others
unfoldable pub mux_of : Lit → Lit → Lit → Circuit → Run Bit
mux_of c a b s =
    if same_literal a b then give (Literal a) s
    else if same_literal a (negate b) then opposite (xor_of c a s)
    else if same_literal a c then or_of c b s
    else if same_literal a (negate c) then and_of a b s
    else if same_literal b c then and_of c a s
    else if same_literal b (negate c) then or_of b a s
    else mux_signed c a b s

-- the first bit chooses between the others, where nothing is known of them
unfoldable pub mux_bits : Bit → Bit → Bit → Circuit → Run Bit
mux_bits False a b s = give b s
mux_bits True a b s = give a s
mux_bits (Literal c) False b s = and_bits (Literal (negate c)) b s
mux_bits (Literal c) True b s = or_bits (Literal c) b s
mux_bits (Literal c) (Literal a) False s = and_of c a s
mux_bits (Literal c) (Literal a) True s = or_of (negate c) a s
mux_bits (Literal c) (Literal a) (Literal b) s = mux_of c a b s

-- the majority of literals in order, of which the first is made positive
unfoldable pub majority_made : Lit → Lit → Lit → Circuit → Run Bit
majority_made a b c s =
    if is_negative a then flipped true (made (Majority (negate a) (negate b) (negate c)) s)
    else flipped false (made (Majority a b c) s)

-- the majority of literals, put in order: the greater of the first two and the third, then the lesser ones
unfoldable pub majority_ordered : Lit → Lit → Lit → Circuit → Run Bit
majority_ordered a b c s =
    let pair = ordered a b in
    let high = ordered pair.1 c in
    let low = ordered pair.0 high.0 in
    majority_made low.0 low.1 high.1 s

-- at least two of the literals are true
unfoldable pub majority_of : Lit → Lit → Lit → Circuit → Run Bit
majority_of a b c s =
    if same_literal a b then give (Literal a) s
    else if same_literal a (negate b) then give (Literal c) s
    else if same_literal a c then give (Literal a) s
    else if same_literal a (negate c) then give (Literal b) s
    else if same_literal b c then give (Literal b) s
    else if same_literal b (negate c) then give (Literal a) s
    else majority_ordered a b c s

-- at least two of the bits are true, where nothing is known of them
unfoldable pub majority_bits : Bit → Bit → Bit → Circuit → Run Bit
majority_bits False b c s = and_bits b c s
majority_bits True b c s = or_bits b c s
majority_bits (Literal a) False c s = and_bits (Literal a) c s
majority_bits (Literal a) True c s = or_bits (Literal a) c s
majority_bits (Literal a) (Literal b) False s = and_of a b s
majority_bits (Literal a) (Literal b) True s = or_of a b s
majority_bits (Literal a) (Literal b) (Literal c) s = majority_of a b c s

-- the bits are equal, where nothing is known of them
unfoldable pub equal_bits : Bit → Bit → Circuit → Run Bit
equal_bits a b s = opposite (xor_bits a b s)

-- an odd number of the literals is true
unfoldable pub parity_of : Lit → Lit → Lit → Circuit → Run Bit
parity_of a b c s = flipped false (made (Parity a b c) s)

-- an odd number of the bits is true, where nothing is known of them: by one gate
unfoldable pub parity_bits : Bit → Bit → Bit → Circuit → Run Bit
parity_bits False b c s = xor_bits b c s
parity_bits True b c s = equal_bits b c s
parity_bits (Literal a) False c s = xor_bits (Literal a) c s
parity_bits (Literal a) True c s = equal_bits (Literal a) c s
parity_bits (Literal a) (Literal b) False s = xor_bits (Literal a) (Literal b) s
parity_bits (Literal a) (Literal b) True s = equal_bits (Literal a) (Literal b) s
parity_bits (Literal a) (Literal b) (Literal c) s = parity_of a b c s

-- both bits are true
unfoldable pub and_gate : Bit → Bit → Circuit → Run Bit
and_gate a b s = and_bits (reduced s.known a) (reduced s.known b) s

-- the bits differ
unfoldable pub xor_gate : Bit → Bit → Circuit → Run Bit
xor_gate a b s = xor_bits (reduced s.known a) (reduced s.known b) s

-- the first bit chooses between the others
unfoldable pub mux_gate : Bit → Bit → Bit → Circuit → Run Bit
mux_gate c a b s = mux_bits (reduced s.known c) (reduced s.known a) (reduced s.known b) s

-- at least two of the bits are true
unfoldable pub majority_gate : Bit → Bit → Bit → Circuit → Run Bit
majority_gate a b c s = majority_bits (reduced s.known a) (reduced s.known b) (reduced s.known c) s

-- an odd number of the bits is true: by two gates that others may share, or by one where the
-- variables run out
unfoldable pub sum_gate : Bit → Bit → Bit → Circuit → Run Bit
sum_gate a b c s =
    if nat_lt (s.formula.vars + 2) MAX_VARS then and_then (xor_gate a b s) (λ x. xor_gate x c)
    else parity_bits (reduced s.known a) (reduced s.known b) (reduced s.known c) s

-- the sum of three bits: its low bit, and its carry
unfoldable pub full_adder : Bit → Bit → Bit → Circuit → Run (Bit × Bit)
full_adder a b c s =
    and_then (sum_gate a b c s) (λ low t. and_then (majority_gate a b c t) (λ carry u. give (low, carry) u))
