-- What has few bytes has few items: each number has a byte at least.
use Rattle.std.proofs.Common.{◌≡◌, ℕ, zero, suc, ◌+◌, ◌≤◌, ◌<◌, ◌^◌, List, [], ◌∷◌, ◌++◌, length, inl, inr, refl, sym, ap, arith}
use Rattle.std.specs.List.{flat_map, AllByRecursion}
use Rattle.std.proofs.lemmas.Bool.{cases_lt, lt-ltb}
use Rattle.std.proofs.lemmas.List.{length-append}
use Rattle.std.proofs.lemmas.List.Elements.{All-from_recursion}
use Rattle.prv_cnf.specs.declared.literal.Lit.{Lit}
use Rattle.prv_check.specs.LogLines.{LogLine}
use Rattle.prv_codec.specs.declared.form.Form.{Form}
use Rattle.prv_codec.specs.declared.form.Form.TheVariants.{One, Two}
use Rattle.prv_codec.specs.Forms.{groups, number}
use Rattle.prv_codec.specs.Spelling.{counted, literal, line, log, IsSized, AreSized}
use Rattle.prv_codec.proofs.Numbers.{groups-low, groups-high}

groups-some : (more n : ℕ) → 1 ≤ length (groups more n)
unfolding groups
groups-some zero n = omega arith
groups-some (suc more) n =
    elim (cases_lt n 128) [
      | inl low ↦ let e = ap length (groups-low more n low) in omega (arith, e)
      | inr high ↦ let e = ap length (groups-high more n high) in omega (arith, e)
    ]

number-some : (form : Form) (n : ℕ) → 1 ≤ length (number form n)
number-some One n = omega arith
number-some Two n = groups-some 4 n

-- no more items than bytes
flat-some : {A : Type 0} (spell : A → List ℕ) → ((x : A) → 1 ≤ length (spell x)) → (xs : List A) → length xs ≤ length (flat_map spell xs)
flat-some spell some [] = omega arith
flat-some spell some (x ∷ xs) =
    let others = flat-some spell some xs in
    let first = some x in
    omega (arith, length-append (spell x) (flat_map spell xs))

-- each item has as few bytes as all of them
flat-each : {A : Type 0} (spell : A → List ℕ) (P : A → Type 0) (m : ℕ) → ((x : A) → length (spell x) < m → P x) → (xs : List A) → length (flat_map spell xs) < m → AllByRecursion P xs
flat-each spell P m each [] h = tt
flat-each spell P m each (x ∷ xs) h =
    let size = length-append (spell x) (flat_map spell xs) in
    (each x (omega (arith, size)), flat-each spell P m each xs (omega (arith, size)))

module _ (form : Form) where
  counted-few : {A : Type 0} (spell : A → List ℕ) → ((x : A) → 1 ≤ length (spell x)) → (xs : List A) → length xs ≤ length (counted form spell xs)
  counted-few spell some xs =
      let few = flat-some spell some xs in
      omega (arith, length-append (number form (length xs)) (flat_map spell xs))

  line-some : (s : LogLine) → 1 ≤ length (line form s)
  line-some s =
      let count = number-some form (length s.clause) in
      omega (arith, length-append (counted form (literal form) s.clause) (counted form (number form) s.hints), length-append (number form (length s.clause)) (flat_map (literal form) s.clause))

  pub sized_line : (s : LogLine) → length (line form s) < 2 ^ 32 → IsSized s
  sized_line s h =
      let lits = counted-few (literal form) (λ l. number-some form _) s.clause in
      let hints = counted-few (number form) (number-some form) s.hints in
      let size = length-append (counted form (literal form) s.clause) (counted form (number form) s.hints) in
      record { clause = omega (arith, size); hints = omega (arith, size) }

  pub sized_log : (lines : List LogLine) → length (log form lines) < 2 ^ 32 → AreSized lines
  sized_log lines h =
      let few = counted-few (line form) line-some lines in
      let size = length-append (number form (length lines)) (flat_map (line form) lines) in
      record { few = omega arith; each = All-from_recursion IsSized lines (flat-each (line form) IsSized (2 ^ 32) sized_line lines (omega (arith, size))) }
