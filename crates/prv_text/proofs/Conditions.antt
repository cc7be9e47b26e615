-- The literals of a condition, written one after the other.
use Rattle.std.proofs.Common.{◌≡◌, ◌==◌, if◌then◌else◌, false, ℕ, zero, suc, pos, get_or, map, Option, Some, unwrap_or, slice_get, ◌+◌, ◌<◌, ◌≤◌, min, List, [], ◌∷◌, ◌++◌, length, take, drop, flat_map, refl, sym, ap, ◌∙◌, codes, arith, append_assoc}
use Rattle.std.proofs.lemmas.Bool.Decides.{nat_tests}
use Rattle.std.proofs.lemmas.List.{append-nil, drop_all, length-take}
use Rattle.std.proofs.lemmas.Option.{slice_get-get_or, slice_get-map}
use Rattle.std.specs.Option.{option_map}
use Rattle.prv_model.specs.declared.term.Term.{Term}
use Rattle.prv_model.specs.declared.term.Term.TheVariants.{Num}
use Rattle.prv_pool.specs.Tables.{term_at}
use Rattle.prv_text.specs.Lines.{listed}
use Rattle.prv_text.specs.Terms.{literal_text}
use Rattle.prv_text.specs.Entries.{more_text, condition}

-- the term at a place, of a list of terms and of one of their numbers
pub term_at-read : (ts : List Term) (k : ℕ) (d : Term) → k < length ts → term_at ts k ≡ get_or ts k d
term_at-read ts k d less = ap (λ (o : Option Term). unwrap_or o (Num (pos 0))) (slice_get-get_or ts k d less)

pub term_at-mapped : (at : ℕ → Term) (roots : List ℕ) (k d : ℕ) → k < length roots → term_at (map at roots) k ≡ at (get_or roots k d)
term_at-mapped at roots k d less = ap (λ (o : Option Term). unwrap_or o (Num (pos 0))) (slice_get-map at roots k ∙ ap (option_map at) (slice_get-get_or roots k d less))

drop-at : (ts : List Term) (k : ℕ) → k < length ts → drop k ts ≡ term_at ts k ∷ drop (suc k) ts
drop-at [] k less = absurd (omega arith)
drop-at (t ∷ ts) zero less = refl
drop-at (t ∷ ts) (suc k) less = drop-at ts k (omega arith)

term_at-take : (n k : ℕ) (ts : List Term) → k < n → term_at (take n ts) k ≡ term_at ts k
term_at-take zero k ts less = absurd (omega arith)
term_at-take (suc n) k [] less = refl
term_at-take (suc n) zero (t ∷ ts) less = refl
term_at-take (suc n) (suc k) (t ∷ ts) less = term_at-take n k ts (omega arith)

-- the first literals of a condition from a place on, each behind what stands between two
abbrev pub behind : List (List ℕ) → ℕ → List Term → List ℕ
behind names k ts = flat_map (λ next. codes " ; " ++ literal_text names next) (drop k (take 32 ts))

-- the first literals of a condition
abbrev pub shown : List (List ℕ) → List Term → List ℕ
shown names ts = listed (literal_text names) (codes " ; ") (take 32 ts)

-- the first one is written
pub begins : (names : List (List ℕ)) (ts : List Term) (old new : List ℕ) → (length ts ≡ 0 → ⊥) → new ≡ old ++ literal_text names (term_at ts 0) → new ++ behind names 1 ts ≡ old ++ shown names ts
begins names [] old new some is = absurd (some refl)
begins names (t ∷ ts) old new some is = ap (λ (zs : List ℕ). zs ++ behind names 1 (t ∷ ts)) is ∙ append_assoc old (literal_text names t) (behind names 1 (t ∷ ts))

-- one more is written
pub goes-on : (names : List (List ℕ)) (ts : List Term) (k : ℕ) (old mid new all : List ℕ) → k < length ts → k < 32 → old ++ behind names k ts ≡ all → mid ≡ old ++ codes " ; " → new ≡ mid ++ literal_text names (term_at ts k) → new ++ behind names (k + 1) ts ≡ all
goes-on names ts k old mid new all within few before between is =
    let texts = λ (us : List Term). flat_map (λ next. codes " ; " ++ literal_text names next) us in
    let text = literal_text names (term_at ts k) in
    let next : suc k ≡ k + 1 = omega arith in
    let here : drop k (take 32 ts) ≡ term_at ts k ∷ drop (k + 1) (take 32 ts) =
    drop-at (take 32 ts) k (omega (arith, length-take 32 ts))
    ∙ ap (λ (t : Term). t ∷ drop (suc k) (take 32 ts)) (term_at-take 32 k ts few)
    ∙ ap (λ (n : ℕ). term_at ts k ∷ drop n (take 32 ts)) next in
    ap (λ (zs : List ℕ). zs ++ behind names (k + 1) ts) (is ∙ ap (λ (zs : List ℕ). zs ++ text) between ∙ append_assoc old (codes " ; ") text)
    ∙ append_assoc old (codes " ; " ++ text) (behind names (k + 1) ts)
    ∙ ap (λ (zs : List ℕ). old ++ zs) (sym (ap texts here))
    ∙ before

nonzero : (n : ℕ) → (suc n == 0) ≡ false
nonzero n = grind (arith, nat_tests)

-- all that are shown are written
pub ends : (names : List (List ℕ)) (ts : List Term) (k : ℕ) (old mid new : List ℕ) → (length ts ≡ 0 → ⊥) → min (length ts) 32 ≤ k → mid ++ behind names k ts ≡ old ++ shown names ts → new ≡ mid ++ more_text (length ts) → new ≡ old ++ condition names ts
ends names ts k old mid new some past before is =
    let texts = λ (us : List Term). flat_map (λ next. codes " ; " ++ literal_text names next) us in
    let none : behind names k ts ≡ [] = ap texts (drop_all k (take 32 ts) (omega (arith, length-take 32 ts))) in
    let written : mid ≡ old ++ shown names ts = sym (append-nil mid) ∙ ap (λ (zs : List ℕ). mid ++ zs) (sym none) ∙ before in
    is ∙ ap (λ (zs : List ℕ). zs ++ more_text (length ts)) written ∙ append_assoc old (shown names ts) (more_text (length ts)) ∙ ap (λ (zs : List ℕ). old ++ zs) (sym (whole ts some))
  where
    whole : (us : List Term) → (length us ≡ 0 → ⊥) → condition names us ≡ shown names us ++ more_text (length us)
    whole [] never = absurd (never refl)
    whole (u ∷ us) never = ap (λ b. if b then codes "true" else (shown names (u ∷ us) ++ more_text (length (u ∷ us)))) (nonzero (length us))

-- none is there
pub nothing : (names : List (List ℕ)) (ts : List Term) → length ts ≡ 0 → codes "true" ≡ condition names ts
nothing names ts none = sym (ap (λ (n : ℕ). if n == 0 then codes "true" else (shown names ts ++ more_text n)) none)
