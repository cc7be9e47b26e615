-- What a gate at each place gives, and a gate over all bits.
use Rattle.std.proofs.Common.{◌≡◌, ℕ, zero, suc, ◌+◌, ◌*◌, ◌≤◌, Bool, ◌||◌, List, [], ◌∷◌, length, map, replicate, refl, ap, arith}
use Rattle.prv_cnf.specs.declared.formula.TheConstants.{MAX_VARS}
use Rattle.prv_gate.specs.Bits.{IsBit, bit_value}
use Rattle.prv_gate.specs.Circuits.{Circuit, IsCircuit}
use Rattle.prv_gate.specs.Growth.{Gives}
use Rattle.prv_gate.specs.declared.bit.Bit.{Bit}
use Rattle.prv_gate.proofs.Composing.{gives-here, bit-more}
use Rattle.prv_bits.specs.Numbers.{pairwise, any_from}
use Rattle.prv_arith.specs.declared.pairs.PairGate.{PairGate}
use Rattle.prv_arith.specs.Lists.{AllBits, values, with_top, IsReady}
use Rattle.prv_arith.specs.Pairs.{or_gate, pair_gate, pair_value, IsPairGate, paired, some}
use Rattle.prv_arith.proofs.ListLaws.{bits-more}
use Rattle.prv_arith.proofs.Joining.{gives-then, top-gives}
use Rattle.prv_arith.proofs.GateLaws.{or-gives, pair_gate-gives, pair_gate-more}

pub ready-tail : (c d : ℕ) (x y : Bit) (xs ys : List Bit) (s : Circuit) → d ≤ c → IsReady c s (x ∷ xs) (y ∷ ys) → IsReady d s xs ys
ready-tail c d x y xs ys s le h = record { circuit = h.circuit; first = h.first.1; second = h.second.1; room = omega (arith, h.room) }

pub paired-gives : (gate : PairGate) (xs ys : List Bit) (s : Circuit) → IsPairGate s.formula.vars gate → IsReady (4 * length xs) s xs ys →
    Gives AllBits values (4 * length xs) s (paired gate xs ys s) (λ v. pairwise (pair_value gate v) (values v xs) (values v ys))
paired-gives gate [] ys s g h = gives-here AllBits values _ s [] _ h.circuit tt (λ v model. refl)
paired-gives gate (x ∷ xs) [] s g h = gives-here AllBits values _ s [] _ h.circuit tt (λ v model. refl)
paired-gives gate (x ∷ xs) (y ∷ ys) s g h =
    let n = s.formula.vars in
    let r = paired gate xs ys s in
    let first = paired-gives gate xs ys s g (ready-tail _ _ x y xs ys s (omega arith) h) in
    let t = r.circuit in
    let kept = first.grows.vars_kept in
    let second =
    pair_gate-gives gate x y t (pair_gate-more n t.formula.vars gate kept g) first.grows.circuit
    (bit-more n t.formula.vars x kept h.first.0) (bit-more n t.formula.vars y kept h.second.0)
    (omega (arith, first.grows.vars_cost, h.room)) in
    gives-then AllBits values AllBits values (4 * length xs) 4 (4 * length (x ∷ xs)) s r (λ bs u. with_top (pair_gate gate x y u) bs)
    (λ v. pairwise (pair_value gate v) (values v xs) (values v ys)) (λ v bs. pair_value gate v (bit_value v x) (bit_value v y) ∷ bs)
    (omega arith) first (top-gives 4 t (pair_gate gate x y t) r.out _ second first.inside)

pub some-gives : (c : Bit) (bs : List Bit) (s : Circuit) → IsCircuit s → IsBit s.formula.vars c → AllBits s.formula.vars bs → s.formula.vars + 3 * length bs ≤ MAX_VARS →
    Gives IsBit bit_value (3 * length bs) s (some c bs s) (λ v. any_from (bit_value v c) (values v bs))
some-gives c [] s h hc hbs room = gives-here IsBit bit_value _ s c _ h hc (λ v model. refl)
some-gives c (b ∷ bs) s h hc hbs room =
    let n = s.formula.vars in
    let r = or_gate c b s in
    let first = or-gives c b s h hc hbs.0 (omega (arith, room)) in
    let second = some-gives r.out bs r.circuit first.grows.circuit first.inside (bits-more n r.circuit.formula.vars bs first.grows.vars_kept hbs.1) (omega (arith, room, first.grows.vars_cost)) in
    gives-then IsBit bit_value IsBit bit_value 3 (3 * length bs) (3 * length (b ∷ bs)) s r (λ d t. some d bs t)
    (λ v. bit_value v c || bit_value v b) (λ v x. any_from x (values v bs)) (omega arith) first second

-- one bit beside each of a list
pub pairwise-replicate : (gate : Bool → Bool → Bool) (n : ℕ) (c : Bool) (bs : List Bool) → n ≡ length bs → pairwise gate (replicate n c) bs ≡ map (gate c) bs
pairwise-replicate gate zero c [] h = refl
pairwise-replicate gate zero c (b ∷ bs) h = cc
pairwise-replicate gate (suc n) c [] h = cc
pairwise-replicate gate (suc n) c (b ∷ bs) h = ap (λ (t : List Bool). gate c b ∷ t) (pairwise-replicate gate n c bs (omega arith))

pub length-paired : (gate : PairGate) (xs ys : List Bit) (s : Circuit) → length xs ≡ length ys → length (paired gate xs ys s).out ≡ length xs
length-paired gate [] ys s e = refl
length-paired gate (x ∷ xs) [] s e = cc
length-paired gate (x ∷ xs) (y ∷ ys) s e = ap suc (length-paired gate xs ys s (omega arith))
