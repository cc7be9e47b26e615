-- When a list of entries says only what is true, of every input.
use Rattle.std.specs.Prelude.{◌≡◌, ◌↔◌, ℕ, ◌+◌, Bool, true, false, List, [], ◌∷◌, length, ℤ, All, map}
use Rattle.std.specs.List.{AllByRecursion}
use Rattle.prv_model.specs.Words.{IsWord}
use Rattle.prv_model.specs.Terms.{holds}
use Rattle.prv_model.specs.Comparison.{verdict}
use Rattle.prv_model.specs.declared.term.Term.{Term}
use Rattle.prv_model.specs.declared.program.Pair.{Pair}
use Rattle.prv_model.specs.declared.verdict.Verdict.{Verdict}
use Rattle.prv_model.specs.declared.verdict.Verdict.TheVariants as v
use Rattle.prv_model.specs.declared.entry.Entry.{Entry}
use Rattle.prv_model.specs.declared.entry.Kind.{Kind}
use Rattle.prv_model.specs.declared.entry.Kind.TheVariants.{Same, Different, Empty, Beyond, Unexplored, Undecided}

-- an input has one word for each of n parameters
pub record IsInput (n : ℕ) (x : List ℤ) : Type 0 where
  pub long : length x ≡ n
  pub words : All IsWord x

-- 1 where a test passed, and 0 elsewhere
abbrev pub one_if : Bool → ℕ
one_if true = 1
one_if false = 0

-- in how many of the regions an input lies
abbrev pub places : List (List Term) → List ℤ → ℕ
places [] x = 0
places (region ∷ rest) x = one_if (holds region x) + places rest x

-- the regions cover a space: each input of n words that lies in the space lies in exactly one of them, and no other in any
abbrev pub Covers : ℕ → List Term → List (List Term) → Type 0
Covers n space regions = (x : List ℤ) → IsInput n x → places regions x ≡ one_if (holds space x)

-- what a kind claims of an input on which the versions compare so
abbrev pub Claims : Kind → Verdict → Type 0
Claims Same w = w ≡ v.Same
Claims (Different sample) w = w ≡ v.Differ
Claims Empty w = ⊥
Claims Beyond w = w ≡ v.Beyond
Claims Unexplored w = Unit {0}
Claims (Undecided reason) w = Unit {0}

-- the sample that a kind shows, if it shows one, is an input of n words in the region
abbrev pub ShowsMember : ℕ → Kind → List Term → Type 0
ShowsMember n (Different sample) region = IsInput n sample × (holds region sample ≡ true)
ShowsMember n _ region = Unit {0}

-- a kind is true of a region: what it claims is true of every input of the region, and its sample lies there
pub record IsTrueOf (pair : Pair) (kind : Kind) (region : List Term) : Type 0 where
  pub claims : (x : List ℤ) → IsInput pair.before.params x → holds region x ≡ true → Claims kind (verdict pair x)
  pub sample : ShowsMember pair.before.params kind region

-- a list of entries is legal for a pair: they cover all inputs, and each says what is true
pub record IsLegal (pair : Pair) (entries : List Entry) : Type 0 where
  pub once : Covers pair.before.params [] (map (λ e. e.terms) entries)
  pub true_kinds : AllByRecursion (λ e. IsTrueOf pair e.kind e.terms) entries

-- the first entry of a list has the number 1, x is an input of n words, and the entry holds it and no other
abbrev pub FirstHoldsOnly : ℕ → List Entry → List ℤ → Type 0
FirstHoldsOnly n [] x = ⊥
FirstHoldsOnly n (first ∷ rest) x =
    (first.number ≡ 1) × IsInput n x × ((y : List ℤ) → IsInput n y → (holds first.terms y ≡ true) ↔ (y ≡ x))
