-- The derived `==` of gates is `same_gate`.
use Rattle.std.proofs.Common.{◌≡◌, refl}
use Rattle.prv_gate.specs.Gates.{same_gate}
use Rattle.prv_gate.specs.declared.gate.Gate.{Gate}
use Rattle.prv_gate.specs.declared.gate.Gate.TheVariants.{And, Xor, Mux, Majority, Parity}
use Rattle.prv_gate.specs.contracts.gate.GatePartialEq.TheImpl.{eq-value}

pub eq-same : (g h : Gate) → (eq-value).it g h ≡ same_gate g h
eq-same (And a b) (And c d) = refl
eq-same (And a b) h = refl
eq-same (Xor a b) (Xor c d) = refl
eq-same (Xor a b) h = refl
eq-same (Mux s a b) (Mux t c d) = refl
eq-same (Mux s a b) h = refl
eq-same (Majority a b c) (Majority d e f) = refl
eq-same (Majority a b c) h = refl
eq-same (Parity a b c) (Parity d e f) = refl
eq-same (Parity a b c) h = refl
