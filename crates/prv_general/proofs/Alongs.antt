-- What is had along a list of evaluations: by one evaluation more, by two parts, and along a run.
use Rattle.std.proofs.Common.{◌≡◌, ℕ, zero, suc, ◌+◌, ◌<◌, Bool, true, false, List, [], ◌∷◌, ◌++◌, length, replicate, map, take, get_or, slice_get, Option, Some, None, ℤ, refl, sym, ap, ◌∙◌, arith, if◌then◌else◌, append_assoc, append-nil, length-append, unwrap_or}
use Rattle.std.proofs.lemmas.List.{map-append}
use Rattle.prv_model.specs.declared.expr.Expr.{Expr}
use Rattle.prv_model.specs.declared.stmt.Stmt.{Stmt}
use Rattle.prv_model.specs.declared.term.Term.{Term}
use Rattle.prv_run.specs.Runs.{Run, Use, events, event, what_of}
use Rattle.prv_run.specs.declared.event.Event.{Event}
use Rattle.prv_sym.specs.Named.{run_symbols}
use Rattle.prv_sym.specs.Symbols.{Symbol, symbol, after}
use Rattle.prv_select.specs.Choices.{Chosen, keeps, needs, matters, choose, count, no_mark}
use Rattle.prv_select.proofs.Flags.{one-flag-each}
use Rattle.prv_general.specs.Slices.{literals_of, literals, conditions_named, literals_named, outs_of, out_terms}
use Rattle.prv_general.specs.Conditions.{conditions, condition_names, event_outs, Flagged, flagged, if_kept, along}

-- ---- lists

module _ {A : Type 0} (f : Event → A → List Term) where
  pub along-append : (es fs : List Event) (xs ys : List A) → length es ≡ length xs → along f (es ++ fs) (xs ++ ys) ≡ along f es xs ++ along f fs ys
  along-append [] fs [] ys h = refl
  along-append [] fs (x ∷ xs) ys h = absurd (omega (arith, h))
  along-append (e ∷ es) fs [] ys h = absurd (omega (arith, h))
  along-append (e ∷ es) fs (x ∷ xs) ys h =
      ap (λ (ts : List Term). f e x ++ ts) (along-append es fs xs ys (omega (arith, h))) ∙ sym (append_assoc (f e x) (along f es xs) (along f fs ys))

  -- one evaluation more
  along-next : (es : List Event) (xs : List A) (i : ℕ) (d : Event) (x : A) → i < length es → slice_get xs i ≡ Some x →
      along f (take (suc i) es) xs ≡ along f (take i es) xs ++ f (get_or es i d) x
  along-next [] xs i d x h is = absurd (omega (arith, h))
  along-next (e ∷ es) [] i d x h is = cc is
  along-next (e ∷ es) (y ∷ xs) zero d x h is = let same : y ≡ x = ap (λ (o : Option A). unwrap_or o y) is in append-nil (f e y) ∙ ap (λ (z : A). f e z) same
  along-next (e ∷ es) (y ∷ xs) (suc i) d x h is =
      ap (λ (ts : List Term). f e y ++ ts) (along-next es xs i d x (omega (arith, h)) is) ∙ sym (append_assoc (f e y) (along f (take i es) xs) (f (get_or es i d) x))

  pub along-more : (es : List Event) (xs : List A) (i : ℕ) (d : Event) (x : A) → i < length es → slice_get xs i ≡ Some x →
      along f (take (i + 1) es) xs ≡ along f (take i es) xs ++ f (get_or es i d) x
  along-more es xs i d x h is = let more : i + 1 ≡ suc i = omega arith in ap (λ (n : ℕ). along f (take n es) xs) more ∙ along-next es xs i d x h is

  -- what is had of a front is had first
  pub along-rest : (es : List Event) (xs : List A) (i : ℕ) → (rest : List Term) × (along f es xs ≡ along f (take i es) xs ++ rest)
  along-rest [] xs zero = ([], refl)
  along-rest [] xs (suc i) = ([], refl)
  along-rest (e ∷ es) [] zero = ([], refl)
  along-rest (e ∷ es) [] (suc i) = ([], refl)
  along-rest (e ∷ es) (x ∷ xs) zero = (along f (e ∷ es) (x ∷ xs), refl)
  along-rest (e ∷ es) (x ∷ xs) (suc i) =
      let more = along-rest es xs i in
      (more.0, ap (λ (ts : List Term). f e x ++ ts) more.1 ∙ sym (append_assoc (f e x) (along f (take i es) xs) more.0))

pub flagged-append : (bs cs : List Bool) (ss ts : List Symbol) → length bs ≡ length ss → flagged (bs ++ cs) (ss ++ ts) ≡ flagged bs ss ++ flagged cs ts
flagged-append [] cs [] ts h = refl
flagged-append [] cs (s ∷ ss) ts h = absurd (omega (arith, h))
flagged-append (b ∷ bs) cs [] ts h = absurd (omega (arith, h))
flagged-append (b ∷ bs) cs (s ∷ ss) ts h = ap (λ (l : List Flagged). record { kept = b; symbol = s } ∷ l) (flagged-append bs cs ss ts (omega (arith, h)))

pub flagged-length : (bs : List Bool) (ss : List Symbol) → length bs ≡ length ss → length (flagged bs ss) ≡ length bs
flagged-length [] ss h = refl
flagged-length (b ∷ bs) [] h = absurd (omega (arith, h))
flagged-length (b ∷ bs) (s ∷ ss) h = ap (λ (n : ℕ). suc n) (flagged-length bs ss (omega (arith, h)))

-- ---- runs

pub symbols-length : (run : Run) (env : List Term) → length (run_symbols run env) ≡ length (events run)
symbols-length Run.Idle env = refl
symbols-length (Run.Eval k why e v) env = refl
symbols-length (Run.Then a b) env =
    omega (arith, symbols-length a env, symbols-length b (after a env), length-append (run_symbols a env) (run_symbols b (after a env)), length-append (events a) (events b))
symbols-length (Run.Choice k test chosen other inner) env = symbols-length inner env
symbols-length (Run.Mark mark inner) env = symbols-length inner env

-- nothing is had where nothing is kept
none-kept : (f : Event → Symbol → List Term) (n : ℕ) (es : List Event) (ss : List Symbol) → along (if_kept f) es (flagged (replicate n false) ss) ≡ []
none-kept f n [] ss = refl
none-kept f zero (e ∷ es) ss = refl
none-kept f (suc n) (e ∷ es) [] = refl
none-kept f (suc n) (e ∷ es) (s ∷ ss) = none-kept f n es ss

-- what is had of a run by its structure, by what is had of an evaluation
record IsOf (f : Event → Symbol → List Term) (of : Use → Expr → Option ℤ → List Term → List Term) (all : Run → List Term → (ℕ → Bool) → List Term) : Type 0 where
  leaf : (k : ℕ) (why : Use) (e : Expr) (v : Option ℤ) (env : List Term) → f (event k (what_of why) v) (symbol e env) ≡ of why e v env
  idle : (env : List Term) (needed : ℕ → Bool) → all Run.Idle env needed ≡ []
  eval : (k : ℕ) (why : Use) (e : Expr) (v : Option ℤ) (env : List Term) (needed : ℕ → Bool) → all (Run.Eval k why e v) env needed ≡ (if keeps why e v needed then of why e v env else [])
  both : (a b : Run) (env : List Term) (needed : ℕ → Bool) → all (Run.Then a b) env needed ≡ all a env (choose b needed).needed ++ all b (after a env) needed
  choice : (k : ℕ) (test : Expr) (chosen : Stmt) (other : Option Stmt) (inner : Run) (env : List Term) (needed : ℕ → Bool) →
      all (Run.Choice k test chosen other inner) env needed ≡ (if matters test chosen other needed then all inner env needed else [])
  mark : (m : ℕ) (inner : Run) (env : List Term) (needed : ℕ → Bool) → all (Run.Mark m inner) env needed ≡ all inner env needed

along-run : (f : Event → Symbol → List Term) (of : Use → Expr → Option ℤ → List Term → List Term) (all : Run → List Term → (ℕ → Bool) → List Term) → IsOf f of all →
    (run : Run) (env : List Term) (needed : ℕ → Bool) → along (if_kept f) (events run) (flagged (choose run needed).kept (run_symbols run env)) ≡ all run env needed
along-run f of all is Run.Idle env needed = sym (is.idle env needed)
along-run f of all is (Run.Eval k why e v) env needed = elim (keeps why e v needed) as (λ z.
    along (if_kept f) (event k (what_of why) v ∷ [])
    (flagged (Chosen.kept (if z then record { needed = needs why e v needed; kept = true ∷ []; marks = no_mark } else record { needed = needed; kept = false ∷ []; marks = no_mark })) (symbol e env ∷ []))
    ≡ (if z then of why e v env else [])) [
      | true ↦ append-nil (f (event k (what_of why) v) (symbol e env)) ∙ is.leaf k why e v env
      | false ↦ refl
    ] ∙ sym (is.eval k why e v env needed)
along-run f of all is (Run.Then a b) env needed =
    let later = (choose b needed).needed in
    let ka = (choose a later).kept in
    let sa = run_symbols a env in
    let flags = one-flag-each a later in
    let symbols = symbols-length a env in
    let pairs : length ka ≡ length sa = flags ∙ sym symbols in
    let long : length (events a) ≡ length (flagged ka sa) = sym (flagged-length ka sa pairs ∙ flags) in
    ap (λ (l : List Flagged). along (if_kept f) (events a ++ events b) l) (flagged-append ka (choose b needed).kept sa (run_symbols b (after a env)) pairs)
    ∙ along-append (if_kept f) (events a) (events b) (flagged ka sa) (flagged (choose b needed).kept (run_symbols b (after a env))) long
    ∙ (λ i. along-run f of all is a env later i ++ along-run f of all is b (after a env) needed i)
    ∙ sym (is.both a b env needed)
along-run f of all is (Run.Choice k test chosen other inner) env needed = elim (matters test chosen other needed) as (λ z.
    along (if_kept f) (events inner) (flagged (Chosen.kept (if z then choose inner needed else record { needed = needed; kept = replicate (count inner) false; marks = no_mark })) (run_symbols inner env))
    ≡ (if z then all inner env needed else [])) [
      | true ↦ along-run f of all is inner env needed
      | false ↦ none-kept f (count inner) (events inner) (run_symbols inner env)
    ] ∙ sym (is.choice k test chosen other inner env needed)
along-run f of all is (Run.Mark m inner) env needed = along-run f of all is inner env needed ∙ sym (is.mark m inner env needed)

literals-leaf : (k : ℕ) (why : Use) (e : Expr) (v : Option ℤ) (env : List Term) → conditions (event k (what_of why) v) (symbol e env) ≡ literals_of why e v env
literals-leaf k (Use.Sets var) e None env = refl
literals-leaf k Use.Puts e None env = refl
literals-leaf k Use.Returns e None env = refl
literals-leaf k Use.Asserts e None env = refl
literals-leaf k Use.Tests e None env = refl
literals-leaf k (Use.Sets var) e (Some n) env = refl
literals-leaf k Use.Puts e (Some n) env = refl
literals-leaf k Use.Returns e (Some n) env = refl
literals-leaf k Use.Asserts e (Some n) env = refl
literals-leaf k Use.Tests e (Some n) env = refl

named-leaf : (k : ℕ) (why : Use) (e : Expr) (v : Option ℤ) (env : List Term) → condition_names (event k (what_of why) v) (symbol e env) ≡ conditions_named why e v env
named-leaf k (Use.Sets var) e None env = refl
named-leaf k Use.Puts e None env = refl
named-leaf k Use.Returns e None env = refl
named-leaf k Use.Asserts e None env = refl
named-leaf k Use.Tests e None env = refl
named-leaf k (Use.Sets var) e (Some n) env = refl
named-leaf k Use.Puts e (Some n) env = refl
named-leaf k Use.Returns e (Some n) env = refl
named-leaf k Use.Asserts e (Some n) env = refl
named-leaf k Use.Tests e (Some n) env = refl

-- the conditions of a run are those of its evaluations
pub literals-run : (run : Run) (env : List Term) (needed : ℕ → Bool) → along (if_kept conditions) (events run) (flagged (choose run needed).kept (run_symbols run env)) ≡ literals run env needed
literals-run = along-run conditions literals_of literals (record {
  leaf = literals-leaf;
  idle = λ env needed. refl;
  eval = λ k why e v env needed. refl;
  both = λ a b env needed. refl;
  choice = λ k test chosen other inner env needed. refl;
  mark = λ m inner env needed. refl;
})

pub named-run : (run : Run) (env : List Term) (needed : ℕ → Bool) → along (if_kept condition_names) (events run) (flagged (choose run needed).kept (run_symbols run env)) ≡ literals_named run env needed
named-run = along-run condition_names conditions_named literals_named (record {
  leaf = named-leaf;
  idle = λ env needed. refl;
  eval = λ k why e v env needed. refl;
  both = λ a b env needed. refl;
  choice = λ k test chosen other inner env needed. refl;
  mark = λ m inner env needed. refl;
})

outs-leaf : (k : ℕ) (why : Use) (e : Expr) (v : Option ℤ) (env : List Term) → event_outs (event k (what_of why) v) (symbol e env).term ++ [] ≡ outs_of why e v env
outs-leaf k (Use.Sets var) e None env = refl
outs-leaf k Use.Puts e None env = refl
outs-leaf k Use.Returns e None env = refl
outs-leaf k Use.Asserts e None env = refl
outs-leaf k Use.Tests e None env = refl
outs-leaf k (Use.Sets var) e (Some n) env = refl
outs-leaf k Use.Puts e (Some n) env = refl
outs-leaf k Use.Returns e (Some n) env = refl
outs-leaf k Use.Asserts e (Some n) env = refl
outs-leaf k Use.Tests e (Some n) env = refl

abbrev terms_of : List Symbol → List Term
terms_of ss = map (λ s. s.term) ss

map-length : (ss : List Symbol) → length (terms_of ss) ≡ length ss
map-length [] = refl
map-length (s ∷ ss) = ap (λ (n : ℕ). suc n) (map-length ss)

-- what a run puts out is what its evaluations put out
pub outs-run : (run : Run) (env : List Term) → along event_outs (events run) (map (λ s. s.term) (run_symbols run env)) ≡ out_terms run env
outs-run Run.Idle env = refl
outs-run (Run.Eval k why e v) env = outs-leaf k why e v env
outs-run (Run.Then a b) env =
    let sa = run_symbols a env in
    let sb = run_symbols b (after a env) in
    let long : length (events a) ≡ length (terms_of sa) = sym (map-length sa ∙ symbols-length a env) in
    ap (λ (l : List Term). along event_outs (events a ++ events b) l) (map-append (λ s. s.term) sa sb)
    ∙ along-append event_outs (events a) (events b) (terms_of sa) (terms_of sb) long
    ∙ (λ i. outs-run a env i ++ outs-run b (after a env) i)
outs-run (Run.Choice k test chosen other inner) env = outs-run inner env
outs-run (Run.Mark mark inner) env = outs-run inner env
