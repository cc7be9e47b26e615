-- Parts of lists of bits: which variables they are of, and their values.
use Rattle.std.proofs.Common.{◌≡◌, ℕ, zero, suc, ◌-◌, ◌≤◌, Bool, true, false, List, [], ◌∷◌, ◌++◌, length, take, drop, replicate, set, refl, sym, ap, ap₂, ◌∙◌, arith, if◌then◌else◌}
use Rattle.std.proofs.lemmas.List.{length-map}
use Rattle.prv_gate.specs.Bits.{IsBit, bit_value}
use Rattle.prv_gate.specs.Knowledge.{reduced}
use Rattle.prv_gate.specs.Circuits.{Circuit, IsCircuit}
use Rattle.prv_cnf.specs.Models.{IsModel}
use Rattle.prv_gate.specs.declared.bit.Bit.{Bit}
use Rattle.prv_gate.specs.declared.bit.Bit.TheVariants.{False, True, Lit as Literal}
use Rattle.prv_gate.proofs.Composing.{bit-more}
use Rattle.prv_gate.proofs.Steps.{IsBit-negate, bit_value-negate, reduced-value}
use Rattle.prv_bits.specs.Places.{low, high, padded, raised, lowered}
use Rattle.prv_bits.specs.Numbers.{number, zeros, flip, sign}
use Rattle.prv_bits.proofs.PlaceLaws.{map-low, map-high, map-replicate}
use Rattle.prv_bits.proofs.NumberLaws.{number-append, number-zeros}
use Rattle.prv_arith.specs.Lists.{AllBits, values, unset_bits, opposites, top_bit, is_unset, leading}

pub bits-more : (m n : ℕ) (bs : List Bit) → m ≤ n → AllBits m bs → AllBits n bs
bits-more m n [] le h = tt
bits-more m n (b ∷ bs) le h = (bit-more m n b le h.0, bits-more m n bs le h.1)

module _ (n : ℕ) where
  pub bits-append : (xs ys : List Bit) → AllBits n xs → AllBits n ys → AllBits n (xs ++ ys)
  bits-append [] ys h k = k
  bits-append (x ∷ xs) ys h k = (h.0, bits-append xs ys h.1 k)

  pub bits-replicate : (k : ℕ) (c : Bit) → IsBit n c → AllBits n (replicate k c)
  bits-replicate zero c h = tt
  bits-replicate (suc k) c h = (h, bits-replicate k c h)

  pub bits-opposites : (bs : List Bit) → AllBits n bs → AllBits n (opposites bs)
  bits-opposites [] h = tt
  bits-opposites (b ∷ bs) h = (IsBit-negate n b h.0, bits-opposites bs h.1)

  pub bits-take : (k : ℕ) (bs : List Bit) → AllBits n bs → AllBits n (take k bs)
  bits-take zero [] h = tt
  bits-take zero (b ∷ bs) h = tt
  bits-take (suc k) [] h = tt
  bits-take (suc k) (b ∷ bs) h = (h.0, bits-take k bs h.1)

  pub bits-drop : (k : ℕ) (bs : List Bit) → AllBits n bs → AllBits n (drop k bs)
  bits-drop zero [] h = tt
  bits-drop zero (b ∷ bs) h = h
  bits-drop (suc k) [] h = tt
  bits-drop (suc k) (b ∷ bs) h = bits-drop k bs h.1

  pub bits-low : (k : ℕ) (bs : List Bit) → AllBits n bs → AllBits n (low k bs)
  bits-low k bs h = bits-drop (length bs - k) bs h

  pub bits-high : (k : ℕ) (bs : List Bit) → AllBits n bs → AllBits n (high k bs)
  bits-high k bs h = bits-take (length bs - k) bs h

  pub bits-padded : (k : ℕ) (bs : List Bit) → AllBits n bs → AllBits n (padded False k bs)
  bits-padded k bs h = bits-append (replicate (k - length bs) False) bs (bits-replicate (k - length bs) False tt) h

  pub bits-raised : (k : ℕ) (bs : List Bit) → AllBits n bs → AllBits n (raised False k bs)
  bits-raised k bs h = bits-drop k (bs ++ replicate k False) (bits-append bs (replicate k False) h (bits-replicate k False tt))

  pub bits-lowered : (c : Bit) (k : ℕ) (bs : List Bit) → IsBit n c → AllBits n bs → AllBits n (lowered c k bs)
  bits-lowered c k bs hc h = bits-take (length bs) (replicate k c ++ bs) (bits-append (replicate k c) bs (bits-replicate k c hc) h)

  pub top-inside : (bs : List Bit) → AllBits n bs → IsBit n (top_bit bs)
  top-inside [] h = tt
  top-inside (b ∷ bs) h = h.0

-- values of parts
module _ (v : ℕ → Bool) where
  pub values-opposites : (n : ℕ) (bs : List Bit) → AllBits n bs → values v (opposites bs) ≡ flip (values v bs)
  values-opposites n [] h = refl
  values-opposites n (b ∷ bs) h = ap₂ (λ (x : Bool) (xs : List Bool). x ∷ xs) (bit_value-negate n v b h.0) (values-opposites n bs h.1)

  pub values-top : (bs : List Bit) → bit_value v (top_bit bs) ≡ sign (values v bs)
  values-top [] = refl
  values-top (b ∷ bs) = refl

  pub values-unset : (k : ℕ) → values v (unset_bits k) ≡ zeros k
  values-unset k = map-replicate (bit_value v) k False

  pub values-high : (d r : List Bit) → values v (high (length d) r) ≡ high (length (values v d)) (values v r)
  values-high d r = map-high (bit_value v) (length d) r ∙ ap (λ (k : ℕ). high k (values v r)) (sym (length-map d (bit_value v)))

  pub values-low : (d r : List Bit) → values v (low (length d) r) ≡ low (length (values v d)) (values v r)
  values-low d r = map-low (bit_value v) (length d) r ∙ ap (λ (k : ℕ). low k (values v r)) (sym (length-map d (bit_value v)))

-- zeros before bits count nothing
pub number-zeros-append : (k : ℕ) (bs : List Bool) → number (zeros k ++ bs) ≡ number bs
number-zeros-append k bs = number-append (zeros k) bs ∙ rw number-zeros (omega arith)

pub unset-value : (v : ℕ → Bool) (b : Bit) → is_unset b ≡ true → bit_value v b ≡ false
unset-value v False h = refl
unset-value v True h = cc
unset-value v (Literal l) h = cc

-- bits that are known to be unset are zeros, and the others follow
module _ (s : Circuit) (h : IsCircuit s) (v : ℕ → Bool) (model : IsModel v s.formula) where
  pub values-leading : (bs : List Bit) → AllBits s.formula.vars bs → values v bs ≡ zeros (leading s.known bs) ++ values v (drop (leading s.known bs) bs)
  values-leading [] inside = refl
  values-leading (b ∷ bs) inside = by inside.0 (values-leading bs inside.1) (is_unset (reduced s.known b)) refl
    where
      by : IsBit s.formula.vars b → values v bs ≡ zeros (leading s.known bs) ++ values v (drop (leading s.known bs) bs) →
          (t : Bool) → is_unset (reduced s.known b) ≡ t →
          bit_value v b ∷ values v bs ≡ zeros (if t then suc (leading s.known bs) else 0) ++ values v (drop (if t then suc (leading s.known bs) else 0) (b ∷ bs))
      by hb later true e =
          ap₂ (λ (x : Bool) (xs : List Bool). x ∷ xs) (sym (reduced-value s h v model b hb) ∙ unset-value v (reduced s.known b) e) later
      by hb later false e = refl

  pub number-leading : (bs : List Bit) → AllBits s.formula.vars bs → number (values v (drop (leading s.known bs) bs)) ≡ number (values v bs)
  number-leading bs inside = sym (ap number (values-leading bs inside) ∙ number-zeros-append (leading s.known bs) _)

-- a list in which one bit is another
pub bits-set : (n : ℕ) (bs : List Bit) (i : ℕ) (b : Bit) → AllBits n bs → IsBit n b → AllBits n (set bs i b)
bits-set n [] i b h hb = tt
bits-set n (x ∷ bs) zero b h hb = (hb, h.1)
bits-set n (x ∷ bs) (suc i) b h hb = (h.0, bits-set n bs i b h.1 hb)
