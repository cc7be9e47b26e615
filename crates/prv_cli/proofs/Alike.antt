-- Steps whose answers agree or are related in another way, put together.
use Rattle.std.proofs.Common.{◌≡◌, ◌⊎◌, inl, inr, ℕ, List, ◌++◌, Result, Ok, Err, sym, ap, ◌∙◌, subst, append_assoc}
use Rattle.prv_cli.specs.Steps.{Told, Trace, ◌∙∙◌, Step, Passes, ◌>>=◌}
use Rattle.prv_cli.specs.Answers.{Agree}
use Rattle.prv_cli.specs.declared.refusal.Refusal.{Refusal}
use Rattle.prv_cli.proofs.OneAnswer.{Single}

-- a relation of two answers and of what was done before them
abbrev pub Relation : Type 0 → Type 1
Relation A = Trace → Result A Refusal → Trace → Result A Refusal → Type 0

-- two answers of a step agree or are so related
abbrev pub Related : {A : Type 0} → Relation A → Told → Step A → Type 0
Related {A} R told step = (t u : Trace) (a b : Result A Refusal) → step told t a → step told u b → Agree t a u b ⊎ R t a u b

-- none are related
abbrev pub unrelated : {A : Type 0} → Relation A
unrelated t a u b = ⊥

-- two that are related stay so where the same was done before both
abbrev pub Stays : {A : Type 0} → Relation A → Type 0
Stays {A} R = (before t u : Trace) (a b : Result A Refusal) → R t a u b → R (before ∙∙ t) a (before ∙∙ u) b

-- neither is a refusal
abbrev pub AreOk : {A : Type 0} → Result A Refusal → Result A Refusal → Type 0
AreOk {A} a b = (v : A) × (w : A) × (a ≡ Ok v) × (b ≡ Ok w)

pub related-single : {A : Type 0} (R : Relation A) (told : Told) (step : Step A) → Single told step → Related R told step
related-single R told step single t u a b x y = inl (single t u a b x y)

pub single-related : {A : Type 0} (told : Told) (step : Step A) → Related unrelated told step → Single told step
single-related {A} told step related t u a b x y = by (related t u a b x y)
  where
    by : Agree t a u b ⊎ ⊥ → Agree t a u b
    by (inl agree) = agree
    by (inr never) = absurd never

-- a step, and then those that take its value: where the first's answers are related by Q, those of both are by R
module _ {A B : Type 0} (Q : Relation A) (R : Relation B) (told : Told) (first : Step A) (next : A → Step B)
    (firsts : Related Q told first) (oks : (t u : Trace) (a b : Result A Refusal) → Q t a u b → AreOk a b) (stays : Stays R)
    (values : (value : A) (s : Trace) → first told s (Ok value) → Related R told (next value))
    (joins : (t u p q : Trace) (v w : A) (a b : Result B Refusal) → Q t (Ok v) u (Ok w) → next v told p a → next w told q b → Agree (t ∙∙ p) a (u ∙∙ q) b ⊎ R (t ∙∙ p) a (u ∙∙ q) b) where
  both-pass : (t u : Trace) (a b : Result B Refusal) → Passes first next told t a → Passes first next told u b → Agree t a u b ⊎ R t a u b
  both-pass t u a b p q = by (firsts p.before q.before (Ok p.value) (Ok q.value) p.passed q.passed)
    where
      T : Trace → Trace → Type 0
      T x y = Agree x a y b ⊎ R x a y b

      whole : T (p.before ∙∙ p.behind) (q.before ∙∙ q.behind) → T t u
      whole h = subst (λ x. T x u) (sym p.trace_is) (subst (λ y. T (p.before ∙∙ p.behind) y) (sym q.trace_is) h)

      behind : p.before ≡ q.before → T p.behind q.behind → T t u
      behind same (inl (inl (rest, equal))) = whole (inl (inl (ap (λ (x : Trace). x ∙∙ p.behind) same ∙ ap (λ (y : Trace). q.before ∙∙ y) rest, equal)))
      behind same (inl (inr free)) = inl (inr free)
      behind same (inr related) = whole (inr (subst (λ x. R (x ∙∙ p.behind) a (q.before ∙∙ q.behind) b) (sym same) (stays q.before p.behind q.behind a b related)))

      by : Agree p.before (Ok p.value) q.before (Ok q.value) ⊎ Q p.before (Ok p.value) q.before (Ok q.value) → T t u
      by (inl (inl (same, equal))) =
          let one : p.value ≡ q.value = cc in
          behind same (values q.value q.before q.passed p.behind q.behind a b (subst (λ w. next w told p.behind a) one p.answered) q.answered)
      by (inl (inr (inl never))) = absurd never
      by (inl (inr (inr never))) = absurd never
      by (inr related) = whole (joins p.before q.before p.behind q.behind p.value q.value a b related p.answered q.answered)

  pass-stop : (t u : Trace) (a : Result B Refusal) (e : Refusal) → Passes first next told t a → first told u (Err e) → Agree t a u (Err e)
  pass-stop t u a e p stop = by (firsts p.before u (Ok p.value) (Err e) p.passed stop)
    where
      by : Agree p.before (Ok p.value) u (Err e) ⊎ Q p.before (Ok p.value) u (Err e) → Agree t a u (Err e)
      by (inl (inl (same, equal))) = absurd (cc equal)
      by (inl (inr (inl never))) = absurd never
      by (inl (inr (inr free))) = inr (inr free)
      by (inr related) = let ok = oks p.before u (Ok p.value) (Err e) related in absurd (cc ok.3)

  stop-pass : (t u : Trace) (e : Refusal) (b : Result B Refusal) → first told t (Err e) → Passes first next told u b → Agree t (Err e) u b
  stop-pass t u e b stop q = by (firsts t q.before (Err e) (Ok q.value) stop q.passed)
    where
      by : Agree t (Err e) q.before (Ok q.value) ⊎ Q t (Err e) q.before (Ok q.value) → Agree t (Err e) u b
      by (inl (inl (same, equal))) = absurd (cc equal)
      by (inl (inr (inl free))) = inr (inl free)
      by (inl (inr (inr never))) = absurd never
      by (inr related) = let ok = oks t q.before (Err e) (Ok q.value) related in absurd (cc ok.2)

  both-stop : (t u : Trace) (e f : Refusal) → first told t (Err e) → first told u (Err f) → Agree {A = B} t (Err e) u (Err f)
  both-stop t u e f x y = by (firsts t u (Err e) (Err f) x y)
    where
      by : Agree {A = A} t (Err e) u (Err f) ⊎ Q t (Err e) u (Err f) → Agree {A = B} t (Err e) u (Err f)
      by (inl (inl (same, equal))) = let one : e ≡ f = cc in inl (same, ap (λ (z : Refusal). Err z) one)
      by (inl (inr free)) = inr free
      by (inr related) = let ok = oks t u (Err e) (Err f) related in absurd (cc ok.2)

  pub related-then : Related R told (first >>= next)
  related-then t u (Ok x) (Ok y) p q = both-pass t u (Ok x) (Ok y) p q
  related-then t u (Ok x) (Err f) p (inl stop) = inl (pass-stop t u (Ok x) f p stop)
  related-then t u (Ok x) (Err f) p (inr q) = both-pass t u (Ok x) (Err f) p q
  related-then t u (Err e) (Ok y) (inl stop) q = inl (stop-pass t u e (Ok y) stop q)
  related-then t u (Err e) (Ok y) (inr p) q = both-pass t u (Err e) (Ok y) p q
  related-then t u (Err e) (Err f) (inl x) (inl y) = inl (both-stop t u e f x y)
  related-then t u (Err e) (Err f) (inl x) (inr q) = inl (stop-pass t u e (Err f) x q)
  related-then t u (Err e) (Err f) (inr p) (inl y) = inl (pass-stop t u (Err e) f p y)
  related-then t u (Err e) (Err f) (inr p) (inr q) = both-pass t u (Err e) (Err f) p q

-- the first step has one answer
pub after-single : {A B : Type 0} (R : Relation B) (told : Told) (first : Step A) (next : A → Step B) → Single told first → Stays R → ((value : A) (s : Trace) → first told s (Ok value) → Related R told (next value)) → Related R told (first >>= next)
after-single {A} R told first next single stays values =
    related-then unrelated R told first next (related-single unrelated told first single) (λ t u a b never. absurd never) stays values (λ t u p q v w a b never. absurd never)

pub unrelated-stays : {A : Type 0} → Stays {A = A} unrelated
unrelated-stays before t u a b never = never

-- three things done one after the other
pub in-turn : (x y z : Trace) → x ∙∙ (y ∙∙ z) ≡ (x ∙∙ y) ∙∙ z
in-turn x y z =
    ap (λ (r : List (List ℕ)). let t : Trace = record { reads = r; writes = x.writes ++ (y.writes ++ z.writes) } in t) (sym (append_assoc x.reads y.reads z.reads))
    ∙ ap (λ (w : List ℕ). let t : Trace = record { reads = (x.reads ++ y.reads) ++ z.reads; writes = w } in t) (sym (append_assoc x.writes y.writes z.writes))
