-- What the solver's answers say of a condition.
use Rattle.std.proofs.Common.{◌≡◌, ◌≢◌, ◌↔◌, ℕ, zero, suc, ◌+◌, ◌-◌, ◌<◌, ◌≤◌, ◌++◌, ◌∷◌, [], Bool, true, false, nat_lt, List, length, Option, Some, None, IfSome, MatchOption, Result, Ok, Err, IfOk, ℤ, pos, All, drop, replicate, map, refl, sym, ap, ◌∙◌, subst, arith, append_assoc}
use Rattle.std.proofs.lemmas.List.{length-append, length-replicate, replicate-append-replicate}
use Rattle.std.proofs.lemmas.List.FromFn.{length-map-range_with_len}
use Rattle.std.proofs.Math.Seq.{drop-append_seam}
use Rattle.prv_bits.specs.Numbers.{word}
use Rattle.prv_model.specs.Boards.{IsInput}
use Rattle.prv_model.specs.Terms.{IsTerm, holds}
use Rattle.prv_model.specs.declared.entry.Reason.{Reason}
use Rattle.prv_model.specs.declared.entry.Reason.TheVariants as r
use Rattle.prv_model.specs.declared.term.Term.{Term}
use Rattle.prv_cnf.specs.Formulas.{Formula}
use Rattle.prv_cnf.specs.Models.{IsModel}
use Rattle.prv_check.specs.LogLines.{LogLine}
use Rattle.prv_check.specs.Spending.{IsSpent}
use Rattle.prv_blast.specs.Formulas.{formula}
use Rattle.prv_blast.specs.Inputs.{input_at, variables}
use Rattle.prv_blast.specs.Subterms.{cost, param_count}
use Rattle.prv_blast.specs.declared.error.BlastError.{BlastError}
use Rattle.prv_blast.specs.declared.error.BlastError.TheVariants.{Clauses, Memory}
use Rattle.prv_blast.specs.declared.formula.Blasted.{Blasted}
use Rattle.prv_blast.proofs.Growing.{all-recursive, recursive-all}
use Rattle.prv_blast.proofs.Standing.{encodes-formula, formula-within, params-over, params-least}
use Rattle.prv_record.specs.declared.raw.Proof.TheVariants as p
use Rattle.prv_settle.specs.Probes.{first_probe}
use Rattle.prv_settle.specs.Answers.{IsSolved, IsSearched}
use Rattle.prv_settle.specs.Asking.{IsAsked}
use Rattle.prv_settle.specs.declared.answer.Answer.TheVariants.{Held, Undecided}
use Rattle.prv_settle.proofs.Fronts.{Alike, holds-alike, all-wider}

-- ---- the formula

-- a cost within the limit is answered by a formula
within : (r : Result Blasted BlastError) (n : ℕ) → (r ≢ Err Memory → (count : ℕ) → (r ≡ Err (Clauses count)) ↔ ((1500000 < n) × (count ≡ n))) → (b : Blasted) → r ≡ Ok b → n ≤ 1500000
within r n says b is = by (nat_lt 1500000 n) refl
  where
    some : r ≢ Err Memory
    some e = let wrong : Ok b ≡ Err Memory = sym is ∙ e in cc wrong

    over : 1500000 < n → ⊥
    over more = let wrong : Ok b ≡ Err (Clauses n) = sym is ∙ (says some n).1 (more, refl) in cc wrong

    by : (z : Bool) → nat_lt 1500000 n ≡ z → n ≤ 1500000
    by true e = absurd (over (grind (arith, e)))
    by false e = grind (arith, e)

pub asked : (n : ℕ) (condition : List Term) (r : Result Blasted BlastError) (b : Blasted) → r ≡ Ok b → n ≤ 8 → All (IsTerm n) condition → first_probe n condition ≡ None →
    IfOk r (λ b. b.cnf ≡ formula condition) → IfOk r (λ b. b.params ≡ param_count condition) →
    (r ≢ Err Memory → (count : ℕ) → (r ≡ Err (Clauses count)) ↔ ((1500000 < cost condition) × (count ≡ cost condition))) → IsAsked n condition b
asked n condition r b is words known unmet made count says = record {
  words = words;
  params = known;
  unmet = unmet;
  cheap = within r (cost condition) says b is;
  formula_of = let P : Result Blasted BlastError → Type 0 = λ q. IfOk q (λ d. d.cnf ≡ formula condition) in subst P is made;
  count = let P : Result Blasted BlastError → Type 0 = λ q. IfOk q (λ d. d.params ≡ param_count condition) in subst P is count;
}

pub costly : (n lines : ℕ) (condition : List Term) (result : Result Blasted BlastError) (count : ℕ) → result ≡ Err (Clauses count) → first_probe n condition ≡ None →
    (result ≢ Err Memory → (k : ℕ) → (result ≡ Err (Clauses k)) ↔ ((1500000 < cost condition) × (k ≡ cost condition))) → IsSearched n lines condition (Undecided (r.Clauses count) p.None)
costly n lines condition result count is unmet says =
    let refused : BlastError → Result Blasted BlastError = λ e. Err e in
    let some : result ≢ Err Memory = λ e. let wrong : refused (Clauses count) ≡ refused Memory = sym is ∙ e in cc wrong in
    let over = (says some count).0 is in
    record { shown = (unmet, (over.1, omega (arith, over.0, over.1))); first = tt }

-- the formula has few clauses, and no more parameters than there are words
pub few-clauses : (n : ℕ) (condition : List Term) (b : Blasted) → IsAsked n condition b → length b.cnf.clauses ≤ 1500000
few-clauses n condition b a =
    let eight = all-wider n 8 a.words condition (all-recursive (IsTerm n) condition a.params) in
    let size = formula-within condition eight a.cheap in
    let within : length (formula condition).clauses ≤ 1500000 = omega (arith, size.clauses, a.cheap) in
    subst (λ (f : Formula). length f.clauses ≤ 1500000) (sym a.formula_of) within

pub few-words : (n : ℕ) (condition : List Term) (b : Blasted) → IsAsked n condition b → b.params ≤ n
few-words n condition b a = omega (arith, a.count, params-least n condition (all-recursive (IsTerm n) condition a.params))

pub all-eight : (n : ℕ) (condition : List Term) → n ≤ 8 → All (IsTerm n) condition → All (IsTerm 8) condition
all-eight n condition le h = recursive-all (IsTerm 8) condition (all-wider n 8 le condition (all-recursive (IsTerm n) condition h))

-- ---- inputs that are made word by word

pub replicate-more : (k : ℕ) (w : ℤ) → replicate (k + 1) w ≡ replicate k w ++ w ∷ []
replicate-more k w = sym (replicate-append-replicate k 1 w)

-- ---- values

front-alike : (x y : List ℤ) → Alike (length x) x (x ++ y)
front-alike [] y k below = absurd (omega (arith, below))
front-alike (w ∷ x) y zero below = refl
front-alike (w ∷ x) y (suc k) below = front-alike x y k (omega (arith, below))

length-input : (n : ℕ) (v : ℕ → Bool) → length (input_at n v) ≡ n
length-input n v = length-map-range_with_len (λ k. word (map v (variables k))) 0 n

pub held : (n lines : ℕ) (condition : List Term) (b : Blasted) (v : ℕ → Bool) (x : List ℤ) → IsAsked n condition b → IsModel v b.cnf → x ≡ input_at b.params v ++ replicate (n - b.params) (pos 0) → IsInput n x →
    IsSearched n lines condition (Held x)
held n lines condition b v x a model is input =
    let m = param_count condition in
    let known = all-recursive (IsTerm n) condition a.params in
    let eight = all-wider n 8 a.words condition known in
    let own = params-over n condition known in
    let met = (encodes-formula condition eight a.cheap).meets v (subst (IsModel v) a.formula_of model) in
    let front : x ≡ input_at m v ++ replicate (n - b.params) (pos 0) = is ∙ ap (λ (k : ℕ). input_at k v ++ replicate (n - b.params) (pos 0)) a.count in
    let alike : Alike m (input_at m v) x = subst (Alike m (input_at m v)) (sym front) (subst (λ (k : ℕ). Alike k (input_at m v) (input_at m v ++ replicate (n - b.params) (pos 0))) (length-input m v) (front-alike (input_at m v) (replicate (n - b.params) (pos 0)))) in
    let inside : holds condition x ≡ true = sym (holds-alike m (input_at m v) x alike condition own) ∙ met in
    let others : drop m x ≡ replicate (n - m) (pos 0) =
    ap (λ (xs : List ℤ). drop m xs) front ∙ ap (λ (k : ℕ). drop k (input_at m v ++ replicate (n - b.params) (pos 0))) (sym (length-input m v)) ∙ drop-append_seam (input_at m v) (replicate (n - b.params) (pos 0))
    ∙ ap (λ (k : ℕ). replicate (n - k) (pos 0)) a.count in
    record { shown = (input, inside); first = let P : Option (List ℤ) → Type 0 = λ o. MatchOption o (IsSolved n condition x) (λ probe. x ≡ probe) in subst P (sym a.unmet) (record { cheap = a.cheap; others = others }) }

pub length-made : (m n : ℕ) (v : ℕ → Bool) (x : List ℤ) → m ≤ n → x ≡ input_at m v ++ replicate (n - m) (pos 0) → length x ≡ n
length-made m n v x le is =
    let all = ap (λ (xs : List ℤ). length xs) is ∙ length-append (input_at m v) (replicate (n - m) (pos 0)) in
    omega (arith, all, length-input m v, length-replicate (n - m) (pos 0), le)

-- one more word
pub made-more : (m k : ℕ) (v : ℕ → Bool) (x : List ℤ) → m ≤ k → x ≡ input_at m v ++ replicate (k - m) (pos 0) → x ++ pos 0 ∷ [] ≡ input_at m v ++ replicate (k + 1 - m) (pos 0)
made-more m k v x le is =
    let next : (k - m) + 1 ≡ k + 1 - m = omega (arith, le) in
    ap (λ (xs : List ℤ). xs ++ pos 0 ∷ []) is
    ∙ append_assoc (input_at m v) (replicate (k - m) (pos 0)) (pos 0 ∷ [])
    ∙ ap (λ (xs : List ℤ). input_at m v ++ xs) (sym (replicate-more (k - m) (pos 0)) ∙ ap (λ (j : ℕ). replicate j (pos 0)) next)

-- ---- spent budgets

pub spent : (n lines : ℕ) (condition : List Term) (b : Blasted) (log : List LogLine) (next : Option LogLine) (why : Reason) → IsAsked n condition b → 1 ≤ lines → lines ≤ 50000 → IsSpent b.cnf log next lines 1000000 →
    IfSome next (λ s. length log < lines) → MatchOption next (why ≡ r.Lines lines) (λ _. why ≡ r.Numbers (length log)) → IsSearched n lines condition (Undecided why (p.Spent log next))
spent n lines condition b log None why a some budget h few is =
    let P : Reason → Type 0 = λ w. IsSearched n lines condition (Undecided w (p.Spent log None)) in
    let made = subst (λ (f : Formula). IsSpent f log None lines 1000000) a.formula_of h in
    subst P (sym is) (record { shown = (a.unmet, (some, budget, a.cheap, made)); first = refl })
spent n lines condition b log (Some s) why a some budget h few is =
    let P : Reason → Type 0 = λ w. IsSearched n lines condition (Undecided w (p.Spent log (Some s))) in
    let made = subst (λ (f : Formula). IsSpent f log (Some s) lines 1000000) a.formula_of h in
    subst P (sym is) (record { shown = (a.unmet, (refl, a.cheap, record { learnt = made.learnt; within = made.within; reached = made.reached })); first = few })
