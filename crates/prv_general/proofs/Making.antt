-- How conditions are made one after another.
use Rattle.std.proofs.Common.{◌≡◌, ℕ, zero, suc, ◌+◌, ◌<◌, Bool, true, false, List, [], ◌∷◌, ◌++◌, length, take, get_or, slice_get, Some, Result, Ok, Err, ℤ, All, if◌then◌else◌, refl, sym, ap, ◌∙◌, subst, arith}
use Rattle.std.specs.Prelude.{filter}
use Rattle.prv_model.specs.Words.{is_zero}
use Rattle.prv_model.specs.declared.term.Term.{Term}
use Rattle.prv_pool.specs.Tables.{Table, Makes, has_term, add_term}
use Rattle.prv_pool.specs.Folding.{negation, truth}
use Rattle.prv_pool.specs.declared.error.PoolError.{PoolError}
use Rattle.prv_pool.specs.declared.error.PoolError.TheVariants.{Memory}
use Rattle.prv_pool.proofs.TableLemmas.{has-at, add-there}
use Rattle.prv_run.specs.declared.event.Event.{Event}
use Rattle.prv_sym.specs.Calls.{Names, AllStand, symbol_at}
use Rattle.prv_sym.specs.Symbols.{Symbol}
use Rattle.prv_sym.proofs.Naming.{Grows, grows-none, only-all, symbol-kept, names-as, names-then, names-stop, names-one}
use Rattle.prv_general.specs.Slices.{says_something, branch_condition, branch_condition_named}
use Rattle.prv_general.specs.Conditions.{decides, decision, decision_names, conditions, condition_names, Flagged, flagged, if_kept, along, symbols_at}
use Rattle.prv_general.proofs.Alongs.{along-more, along-rest}

-- what is said of an evaluation by cases
pub named-zero : (n : ℤ) (t : Term) → is_zero n ≡ true → branch_condition_named n t ≡ truth t ∷ negation (truth t) ∷ []
named-zero n t e = ap (λ (b : Bool). truth t ∷ (if b then negation (truth t) else truth t) ∷ []) e

pub named-other : (n : ℤ) (t : Term) → is_zero n ≡ false → branch_condition_named n t ≡ truth t ∷ truth t ∷ []
named-other n t e = ap (λ (b : Bool). truth t ∷ (if b then negation (truth t) else truth t) ∷ []) e

pub decision-is : (event : Event) (t : Term) → decides event.what ≡ true → decision event t ≡ branch_condition event.value t ∷ []
decision-is event t e = ap (λ (b : Bool). if b then branch_condition event.value t ∷ [] else []) e

pub fault-conditions : (event : Event) (s : Symbol) → event.safe ≡ false → conditions event s ≡ negation s.safe ∷ []
fault-conditions event s e = ap (λ (b : Bool). if b then s.safe ∷ decision event s.term else negation s.safe ∷ []) e

pub fault-names : (event : Event) (s : Symbol) → event.safe ≡ false → condition_names event s ≡ negation s.safe ∷ []
fault-names event s e = ap (λ (b : Bool). if b then decision_names event s.term else negation s.safe ∷ []) e

-- a term that was made is named once more
pub named-twice : (t : Term) (old new : Table) (n : ℕ) → Makes t old new (Ok n) → Names (t ∷ t ∷ []) old new (Ok n)
named-twice t old new n m =
    let once = names-one t old new (Ok n) m in
    let again : add_term t (add_term t old.terms) ≡ add_term t old.terms = add-there t (add_term t old.terms) (subst (λ (ts : List Term). has_term ts t ≡ true) m.grows (has-at new.terms n t m.stands)) in
    let grows = m.grows ∙ sym again in
    record { grows = grows; kept = once.kept; only = only-all (t ∷ t ∷ []) old.terms new.terms grows; limit = once.limit; wide = λ e. absurd (cc) }

-- the evaluation at a place, with whether it is kept and its symbol
pub flagged-at : (terms : List Term) (kept : List Bool) (values safes : List ℕ) (k : ℕ) (b : Bool) (d e : ℕ) → k < length kept → length values ≡ length kept → length safes ≡ length kept →
    slice_get (flagged kept (symbols_at terms values safes)) k ≡ Some (record { kept = get_or kept k b; symbol = symbol_at terms (record { value = get_or values k d; safe = get_or safes k e }) })
flagged-at terms [] values safes k b d e h v s = absurd (omega (arith, h))
flagged-at terms (x ∷ kept) [] safes k b d e h v s = absurd (omega (arith, v))
flagged-at terms (x ∷ kept) (y ∷ values) [] k b d e h v s = absurd (omega (arith, s))
flagged-at terms (x ∷ kept) (y ∷ values) (z ∷ safes) zero b d e h v s = refl
flagged-at terms (x ∷ kept) (y ∷ values) (z ∷ safes) (suc k) b d e h v s = flagged-at terms kept values safes k b d e (omega (arith, h)) (omega (arith, v)) (omega (arith, s))

-- what is named with one evaluation more
pub named-next : {A B : Type 0} (f : Event → Flagged → List Term) (es : List Event) (xs : List Flagged) (i : ℕ) (d : Event) (x : Flagged) (first old new : Table) (a : A) (r : Result B PoolError) →
    i < length es → slice_get xs i ≡ Some x → Names (along f (take i es) xs) first old (Ok a) → Names (f (get_or es i d) x) old new r → Names (along f (take (i + 1) es) xs) first new r
named-next f es xs i d x first old new a r h is one two =
    names-as _ _ first new r (sym (along-more f es xs i d x h is)) (names-then (along f (take i es) xs) (f (get_or es i d) x) first old new a r one two)

-- one evaluation is refused, and those behind it are not reached
pub refused-at : {A B C : Type 0} (f : Event → Flagged → List Term) (es : List Event) (xs : List Flagged) (i : ℕ) (d : Event) (x : Flagged) (first old new : Table) (a : A) (e : PoolError) →
    i < length es → slice_get xs i ≡ Some x → Names (along f (take i es) xs) first old (Ok a) → Names {A = B} (f (get_or es i d) x) old new (Err e) → Names {A = C} (along f es xs) first new (Err e)
refused-at {B = B} {C = C} f es xs i d x first old new a e h is one two =
    let more = along-rest f es xs (i + 1) in
    names-as _ _ first new (Err e) (sym more.1) (names-stop (along f (take (i + 1) es) xs) more.0 first new e (named-next {B = B} f es xs i d x first old new a (Err e) h is one two))

-- what was named is named, though there was no memory then
pub then-refused : {A B : Type 0} (more : List Term) (old new : Table) (x : A) → Names more old new (Ok x) → Names {A = B} more old new (Err Memory)
then-refused more old new x n = record { grows = tt; kept = n.kept; only = n.only; limit = n.limit; wide = λ e. absurd (cc) }

pub named-none : (table : Table) → Names [] table table (Ok (tt {0}))
named-none table = record { grows = refl; kept = grows-none table.terms; only = grows-none table.terms; limit = refl; wide = λ e. absurd (cc) }

-- one evaluation of a run whose nodes are those of a first table, of which the present one has grown
module _ (es : List Event) (kept : List Bool) (values safes : List ℕ) (first : List Term) (k : ℕ) (below : k < length es) (flags : length kept ≡ length es) (vs : length values ≡ length es) (ss : length safes ≡ length es)
    (vin : All (λ n. n < length first) values) (sin : All (λ n. n < length first) safes) (now : List Term) (grows : Grows first now) (b : Bool) (v s : ℕ) where
  abbrev here : Flagged
  here = record { kept = get_or kept k b; symbol = symbol_at now (record { value = get_or values k v; safe = get_or safes k s }) }

  is-here : slice_get (flagged kept (symbols_at first values safes)) k ≡ Some here
  is-here =
      flagged-at first kept values safes k b v s (omega (arith, below, flags)) (vs ∙ sym flags) (ss ∙ sym flags)
      ∙ (λ i. Some (record {
        kept = get_or kept k b;
        symbol = sym (symbol-kept first now (record { value = get_or values k v; safe = get_or safes k s }) grows (vin k v (omega (arith, below, vs)), sin k s (omega (arith, below, ss)))) i;
      }))

  pub conditions-next : (d : Event) (lits more : List ℕ) (new : List Term) → AllStand now lits (filter says_something (along (if_kept conditions) (take k es) (flagged kept (symbols_at first values safes)))) →
      ((ts : List Term) → AllStand now lits (filter says_something ts) → AllStand new more (filter says_something (ts ++ if_kept conditions (get_or es k d) here))) →
      AllStand new more (filter says_something (along (if_kept conditions) (take (k + 1) es) (flagged kept (symbols_at first values safes))))
  conditions-next d lits more new stand next =
      subst (λ (ts : List Term). AllStand new more (filter says_something ts)) (sym (along-more (if_kept conditions) es (flagged kept (symbols_at first values safes)) k d here below is-here)) (next _ stand)

  pub names-next : {A B : Type 0} (d : Event) (start old new : Table) (a : A) (r : Result B PoolError) →
      Names (along (if_kept condition_names) (take k es) (flagged kept (symbols_at first values safes))) start old (Ok a) → Names (if_kept condition_names (get_or es k d) here) old new r →
      Names (along (if_kept condition_names) (take (k + 1) es) (flagged kept (symbols_at first values safes))) start new r
  names-next d start old new a r one two = named-next (if_kept condition_names) es (flagged kept (symbols_at first values safes)) k d here start old new a r below is-here one two

  pub names-refused : {A B C : Type 0} (d : Event) (start old new : Table) (a : A) (e : PoolError) →
      Names (along (if_kept condition_names) (take k es) (flagged kept (symbols_at first values safes))) start old (Ok a) → Names {A = B} (if_kept condition_names (get_or es k d) here) old new (Err e) →
      Names {A = C} (along (if_kept condition_names) es (flagged kept (symbols_at first values safes))) start new (Err e)
  names-refused {B = B} {C = C} d start old new a e one two = refused-at {B = B} {C = C} (if_kept condition_names) es (flagged kept (symbols_at first values safes)) k d here start old new a e below is-here one two
