-- What comparisons give.
use Rattle.std.proofs.Common.{◌≡◌, ℕ, ◌-◌, ◌*◌, Bool, false, List, [], ◌∷◌, ◌++◌, length, replicate, refl, ap, ◌∙◌, arith}
use Rattle.std.proofs.lemmas.List.{map-append}
use Rattle.prv_gate.specs.Bits.{IsBit, bit_value}
use Rattle.prv_gate.specs.Circuits.{Circuit, and_then}
use Rattle.prv_gate.specs.Folding.{xor_gate, mux_gate}
use Rattle.prv_gate.specs.Growth.{Gives}
use Rattle.prv_gate.specs.declared.bit.Bit.{Bit}
use Rattle.prv_gate.specs.declared.bit.Bit.TheVariants.{False}
use Rattle.prv_gate.proofs.Composing.{gives-here, bit-more}
use Rattle.prv_bits.specs.Gates.{xor, mux}
use Rattle.prv_bits.specs.Numbers.{pairwise, any_from}
use Rattle.prv_bits.specs.Orders.{below, signed_below, differ, flag_bits}
use Rattle.prv_bits.proofs.PlaceLaws.{map-replicate}
use Rattle.prv_arith.specs.declared.pairs.PairGate.TheVariants.{Xor}
use Rattle.prv_arith.specs.Lists.{AllBits, values, IsReady}
use Rattle.prv_arith.specs.Pairs.{paired, some}
use Rattle.prv_arith.specs.Orders.{less, signed_less, unlike, flag}
use Rattle.prv_arith.proofs.ListLaws.{bits-append, bits-replicate}
use Rattle.prv_arith.proofs.Joining.{gives-then}
use Rattle.prv_arith.proofs.GateLaws.{xor-gives, mux-gives}
use Rattle.prv_arith.proofs.PairLaws.{ready-tail, paired-gives, some-gives, length-paired}

pub less-gives : (xs ys : List Bit) (s : Circuit) → IsReady (8 * length xs) s xs ys →
    Gives IsBit bit_value (8 * length xs) s (less xs ys s) (λ v. below (values v xs) (values v ys))
less-gives [] ys s h = gives-here IsBit bit_value _ s False _ h.circuit tt (λ v model. refl)
less-gives (x ∷ xs) [] s h = gives-here IsBit bit_value _ s False _ h.circuit tt (λ v model. refl)
less-gives (x ∷ xs) (y ∷ ys) s h =
    let n = s.formula.vars in
    let r = less xs ys s in
    let first = less-gives xs ys s (ready-tail _ _ x y xs ys s (omega arith) h) in
    let t = r.circuit in
    let kept = first.grows.vars_kept in
    let one =
    xor-gives x y t first.grows.circuit (bit-more n t.formula.vars x kept h.first.0) (bit-more n t.formula.vars y kept h.second.0)
    (omega (arith, first.grows.vars_cost, h.room)) in
    let d = xor_gate x y t in
    let u = d.circuit in
    let two =
    mux-gives d.out y r.out u one.grows.circuit one.inside
    (bit-more n u.formula.vars y (omega (arith, kept, one.grows.vars_kept)) h.second.0)
    (bit-more t.formula.vars u.formula.vars r.out one.grows.vars_kept first.inside)
    (omega (arith, one.grows.vars_cost, first.grows.vars_cost, h.room)) in
    gives-then IsBit bit_value IsBit bit_value (8 * length xs) 8 (8 * length (x ∷ xs)) s r
    (λ c w. and_then (xor_gate x y w) (λ e z. mux_gate e y c z))
    (λ v. below (values v xs) (values v ys)) (λ v c. mux (xor (bit_value v x) (bit_value v y)) (bit_value v y) c)
    (omega arith) first
    (gives-then IsBit bit_value IsBit bit_value 4 4 8 t d (λ e z. mux_gate e y r.out z)
    (λ v. xor (bit_value v x) (bit_value v y)) (λ v e. mux e (bit_value v y) (bit_value v r.out)) (omega arith) one two)

pub signed_less-gives : (xs ys : List Bit) (s : Circuit) → IsReady (8 * length xs) s xs ys →
    Gives IsBit bit_value (8 * length xs) s (signed_less xs ys s) (λ v. signed_below (values v xs) (values v ys))
signed_less-gives [] ys s h = gives-here IsBit bit_value _ s False _ h.circuit tt (λ v model. refl)
signed_less-gives (x ∷ xs) [] s h = gives-here IsBit bit_value _ s False _ h.circuit tt (λ v model. refl)
signed_less-gives (x ∷ xs) (y ∷ ys) s h =
    less-gives (y ∷ xs) (x ∷ ys) s (record { circuit = h.circuit; first = (h.second.0, h.first.1); second = (h.first.0, h.second.1); room = h.room })

pub unlike-gives : (xs ys : List Bit) (s : Circuit) → length xs ≡ length ys → IsReady (7 * length xs) s xs ys →
    Gives IsBit bit_value (7 * length xs) s (unlike xs ys s) (λ v. differ (values v xs) (values v ys))
unfolding unlike
unlike-gives xs ys s e h =
    let r = paired Xor xs ys s in
    let first = paired-gives Xor xs ys s tt (record { circuit = h.circuit; first = h.first; second = h.second; room = omega (arith, h.room) }) in
    let l = length-paired Xor xs ys s e in
    let second = some-gives False r.out r.circuit first.grows.circuit tt first.inside (omega (arith, first.grows.vars_cost, h.room)) in
    gives-then AllBits values IsBit bit_value (4 * length xs) (3 * length r.out) (7 * length xs) s r (λ places t. some False places t)
    (λ v. pairwise xor (values v xs) (values v ys)) (λ v ps. any_from false ps) (omega arith) first second

-- a flag as a list of bits
pub values-flag : (v : ℕ → Bool) (n : ℕ) (b : Bit) → values v (flag n b) ≡ flag_bits n (bit_value v b)
values-flag v n b = map-append (bit_value v) (replicate (n - 1) False) (b ∷ []) ∙ ap (λ (t : List Bool). t ++ bit_value v b ∷ []) (map-replicate (bit_value v) (n - 1) False)

pub flag-inside : (m n : ℕ) (b : Bit) → IsBit m b → AllBits m (flag n b)
flag-inside m n b h = bits-append m (replicate (n - 1) False) (b ∷ []) (bits-replicate m (n - 1) False tt) (h, tt)
