-- Each clause that is examined teaches what follows, and where all are open nothing more does.
use Rattle.std.proofs.Common.{◌≡◌, ℕ, suc, zero, ◌+◌, ◌-◌, ◌<◌, ◌≤◌, ◌≢◌, Bool, true, false, not, cond, ◌||◌, List, [], ◌∷◌, Option, None, Some, option_map, length, get_or, ℤ, pos, negsuc, unsigned_abs, refl, ap, sym, ◌∙◌, subst, arith, if◌then◌else◌, ⊎_elim, get_or-set_same, get_or-set_other}
use Rattle.std.specs.List.{list_all, list_any, AllByRecursion}
use Rattle.std.specs.Option.{option_map_or, option_or, is_none}
use Rattle.std.proofs.lemmas.List.{ext_get_or}
use Rattle.std.proofs.lemmas.List.Sums.{sum_by-set, count_by-le-length}
use Rattle.std.proofs.lemmas.Bool.Decides.{eqb_tells}
use Rattle.std.proofs.Math.ListN.{length-set}
use Rattle.prv_cnf.specs.declared.literal.Lit.{Lit}
use Rattle.prv_cnf.specs.Literals.{variable, negate, has_literal}
use Rattle.prv_cnf.specs.Formulas.{Formula, IsLiteral}
use Rattle.prv_gate.specs.Gates.{is_negative, is_negative_number}
use Rattle.prv_gate.specs.Knowledge.{known_value, signed_known, known_literal}
use Rattle.prv_gate.specs.Propagation.{is_known_true, is_known_false, forces, known_after, closure, has_conflict}
use Rattle.prv_gate.specs.Examining.{examined, known_by, learned, unknown_count, Within, IsReached, Learns}
use Rattle.prv_gate.specs.declared.propagate.Examined.{Examined}
use Rattle.prv_gate.specs.declared.propagate.Examined.TheVariants.{Open, Forces, Conflict}
use Rattle.prv_gate.proofs.Frames.{and-second}
use Rattle.prv_gate.proofs.Asserting.{known_value-next, closure-length}
use Rattle.prv_gate.proofs.Examination.{known_literal-negate, others_false, conflict-all_false, forces-one, open-closed, open-no_conflict}
use Rattle.prv_gate.proofs.Reaching.{within-refl, within-trans, others-within, conflict-within, any-at, clause-at, rounds-inside, rounds-more, rounds-up, forced}

pub learns-refl : (f : Formula) (a : List (Option Bool)) → Learns f a a
learns-refl f a = record { size = refl; fewer = omega arith; keeps = within-refl a; reached = λ start short r. r }

pub learns-trans : (f : Formula) (a b c : List (Option Bool)) → Learns f a b → Learns f b c → Learns f a c
learns-trans f a b c g h = record {
  size = h.size ∙ g.size;
  fewer = omega (arith, g.fewer, h.fewer);
  keeps = within-trans a b c g.keeps h.keeps;
  reached = λ start short r. h.reached start short (g.reached start short r);
}

signed-value : (known : List (Option Bool)) (z : ℤ) → signed_known known z ≡ Some true → known_value known (unsigned_abs z) ≡ Some (not (is_negative_number z))
signed-value known (pos n) e = e
signed-value known (negsuc n) e = by (known_value known (suc n)) e
  where
    by : (r : Option Bool) → option_map not r ≡ Some true → r ≡ Some false
    by None e = absurd cc
    by (Some true) e = absurd cc
    by (Some false) e = refl

pub signed-none : (known : List (Option Bool)) (z : ℤ) → signed_known known z ≡ None → known_value known (unsigned_abs z) ≡ None
signed-none known (pos n) e = e
signed-none known (negsuc n) e = by (known_value known (suc n)) e
  where
    by : (r : Option Bool) → option_map not r ≡ None → r ≡ None
    by None e = refl
    by (Some x) e = absurd cc

-- the value of a variable after a literal was learned
pub learned-same : (known : List (Option Bool)) (l : Lit) → IsLiteral (length known) l → known_value (learned known l) (variable l) ≡ Some (not (is_negative l))
learned-same known l h = let at : variable l - 1 < length known = omega arith in get_or-set_same known (variable l - 1) (Some (not (is_negative l))) None at

pub learned-other : (known : List (Option Bool)) (l : Lit) (k : ℕ) → IsLiteral (length known) l → 0 < k → k ≢ variable l → known_value (learned known l) k ≡ known_value known k
learned-other known l k h some apart = let other : k - 1 ≢ variable l - 1 = omega arith in get_or-set_other known (variable l - 1) (k - 1) (Some (not (is_negative l))) None other

module _ (f : Formula) (inside : AllByRecursion (AllByRecursion (IsLiteral f.vars)) f.clauses) (known : List (Option Bool)) (size : length known ≡ f.vars)
    (k : ℕ) (at : k < length f.clauses) (l : Lit) (e : examined known None (get_or f.clauses k []) ≡ Forces l) where
  one : (has_literal (get_or f.clauses k []) l ≡ true) × (known_literal known l ≡ None) × (others_false known l (get_or f.clauses k []) ≡ true) × IsLiteral f.vars l
  one = forces-one known f.vars l (get_or f.clauses k []) (clause-at f.vars f.clauses k inside) e

  here : IsLiteral (length known) l
  here = (one.3.0, omega (arith, one.3.1))

  was_none : known_value known (variable l) ≡ None
  was_none = signed-none known l.0 one.1

  pub learned-count : unknown_count (learned known l) + 1 ≡ unknown_count known
  learned-count =
      let at_place : variable l - 1 < length known = omega (arith, here.0, here.1) in
      let sum = sum_by-set (λ (o : Option Bool). cond (is_none o) 1 0) known (variable l - 1) (Some (not (is_negative l))) None at_place in
      let weight : Option Bool → ℕ = λ o. cond (is_none o) 1 0 in
      let none : weight (get_or known (variable l - 1) None) ≡ weight None = ap weight was_none in
      omega (arith, sum, none)

  keeps_known : Within known (learned known l)
  keeps_known j x some is =
      ⊎_elim (λ same. let here_none : known_value known j ≡ None = ap (known_value known) same.1 ∙ was_none in absurd cc)
      (λ apart. learned-other known l j here some apart.1 ∙ is) (eqb_tells j (variable l))

  reaches : (start : List (Option Bool)) → length start ≤ f.vars → IsReached f start known → IsReached f start (learned known l)
  reaches start short r calm =
      let i : ℕ = f.vars + 1 - unknown_count known in
      let count : unknown_count known ≤ length known = count_by-le-length is_none known in
      let next : suc (f.vars + 1 - unknown_count known) ≡ f.vars + 1 - unknown_count (learned known l) = omega (arith, learned-count, count, size) in
      let old : Within known (known_after f (f.vars + 1 - unknown_count known) start) = r calm in
      let le : suc (f.vars + 1 - unknown_count known) ≤ f.vars + 1 = omega (arith, learned-count) in
      let found : known_literal (known_after f (suc (f.vars + 1 - unknown_count known)) start) l ≡ Some true =
      forced f inside start short calm (f.vars + 1 - unknown_count known) k le at l one.3 one.0
      (others-within known (known_after f (f.vars + 1 - unknown_count known) start) old f.vars l (get_or f.clauses k []) (clause-at f.vars f.clauses k inside) one.2) in
      subst (λ (n : ℕ). Within (learned known l) (known_after f n start)) next
      (λ j x some is. ⊎_elim
      (λ same.
      let value : known_value (learned known l) j ≡ Some (not (is_negative l)) = ap (known_value (learned known l)) same.1 ∙ learned-same known l here in
      let there : known_value (known_after f (suc (f.vars + 1 - unknown_count known)) start) (variable l) ≡ Some (not (is_negative l)) =
      signed-value (known_after f (suc (f.vars + 1 - unknown_count known)) start) l.0 found in
      ap (known_value (known_after f (suc (f.vars + 1 - unknown_count known)) start)) same.1 ∙ there ∙ sym value ∙ is)
      (λ apart. rounds-more f start short (f.vars + 1 - unknown_count known) j x some (old j x some (sym (learned-other known l j here some apart.1) ∙ is)))
      (eqb_tells j (variable l)))

  learned-learns : Learns f known (learned known l)
  learned-learns = record { size = length-set known (variable l - 1) (Some (not (is_negative l))); fewer = omega (arith, learned-count); keeps = keeps_known; reached = reaches }

-- a clause that is examined teaches what follows
pub examined-learns : (f : Formula) → AllByRecursion (AllByRecursion (IsLiteral f.vars)) f.clauses → (known : List (Option Bool)) → length known ≡ f.vars → (k : ℕ) → k < length f.clauses →
    Learns f known (known_by known (examined known None (get_or f.clauses k [])))
examined-learns f inside known size k at = by (examined known None (get_or f.clauses k [])) refl
  where
    by : (e : Examined) → examined known None (get_or f.clauses k []) ≡ e → Learns f known (known_by known e)
    by Open is = learns-refl f known
    by (Forces l) is = learned-learns f inside known size k at l is
    by Conflict is = learns-refl f known

pub examined-conflict : (f : Formula) → AllByRecursion (AllByRecursion (IsLiteral f.vars)) f.clauses → (known : List (Option Bool)) → (k : ℕ) → k < length f.clauses →
    examined known None (get_or f.clauses k []) ≡ Conflict → has_conflict f.clauses known ≡ true
examined-conflict f inside known k at is =
    any-at (list_all (is_known_false known)) f.clauses k at (conflict-all_false known f.vars (get_or f.clauses k []) (clause-at f.vars f.clauses k inside) is)

-- where all clauses are open, what some clause forces is known
forces-known : (known : List (Option Bool)) (n : ℕ) (now : List (Option Bool)) → Within now known → (l : Lit) (cs : List (List Lit)) → AllByRecursion (AllByRecursion (IsLiteral n)) cs →
    ((k : ℕ) → k < length cs → examined known None (get_or cs k []) ≡ Open) → list_any (forces now l) cs ≡ true → is_known_true known l ≡ true
forces-known known n now h l [] inside opened some = absurd cc
forces-known known n now h l (c ∷ cs) inside opened some =
    by (forces now l c) refl some (forces-known known n now h l cs inside.1 (λ k at. opened (suc k) (omega arith)))
  where
    by : (t : Bool) → forces now l c ≡ t → (t || list_any (forces now l) cs) ≡ true → (list_any (forces now l) cs ≡ true → is_known_true known l ≡ true) → is_known_true known l ≡ true
    by true is any rest =
        open-closed known n l c inside.0 (opened 0 (omega arith)) (others-within now known h n l c inside.0 (and-second (has_literal c l) (others_false now l c) is))
    by false is any rest = rest any

no_conflict : (known : List (Option Bool)) (n : ℕ) (cs : List (List Lit)) → AllByRecursion (AllByRecursion (IsLiteral n)) cs →
    ((k : ℕ) → k < length cs → examined known None (get_or cs k []) ≡ Open) → has_conflict cs known ≡ false
no_conflict known n [] inside opened = refl
no_conflict known n (c ∷ cs) inside opened =
    by (list_all (is_known_false known) c) refl (no_conflict known n cs inside.1 (λ k at. opened (suc k) (omega arith)))
  where
    by : (t : Bool) → list_all (is_known_false known) c ≡ t → has_conflict cs known ≡ false → (t || has_conflict cs known) ≡ false
    by true is rest = absurd (open-no_conflict known n c inside.0 (opened 0 (omega arith)) is)
    by false is rest = rest

some_true : (r : Option Bool) → option_map_or (λ b. b) r false ≡ true → r ≡ Some true
some_true None e = absurd cc
some_true (Some true) e = refl
some_true (Some false) e = absurd cc

not_true : (r : Option Bool) → option_map_or (λ b. b) (option_map not r) false ≡ true → r ≡ Some false
not_true None e = absurd cc
not_true (Some true) e = absurd cc
not_true (Some false) e = refl

module _ (f : Formula) (inside : AllByRecursion (AllByRecursion (IsLiteral f.vars)) f.clauses) (start known : List (Option Bool)) (short : length start ≤ f.vars)
    (begins : Within start known) (opened : (k : ℕ) → k < length f.clauses → examined known None (get_or f.clauses k []) ≡ Open) where
  -- no round finds more
  rounds-within : (n : ℕ) → Within (known_after f n start) known
  rounds-within zero j x some is = begins j x some is
  rounds-within (suc n) j x some is =
      by (known_value (known_after f n start) j) (list_any (forces (known_after f n start) (record { 0 = pos j })) f.clauses)
      (list_any (forces (known_after f n start) (negate (record { 0 = pos j }))) f.clauses) refl refl refl
      (sym (known_value-next f (known_after f n start) j some (rounds-inside f start short (suc n) j x some is)) ∙ is) (rounds-within n)
    where
      by : (r : Option Bool) (t u : Bool) → known_value (known_after f n start) j ≡ r → list_any (forces (known_after f n start) (record { 0 = pos j })) f.clauses ≡ t →
          list_any (forces (known_after f n start) (negate (record { 0 = pos j }))) f.clauses ≡ u →
          option_or r (if t then Some true else if u then Some false else None) ≡ Some x → Within (known_after f n start) known → known_value known j ≡ Some x
      by (Some y) t u er et eu e rest = rest j y some er ∙ e
      by None true u er et eu e rest = some_true (known_value known j) (forces-known known f.vars (known_after f n start) rest (record { 0 = pos j }) f.clauses inside opened et) ∙ e
      by None false true er et eu e rest =
          let found : is_known_true known (negate (record { 0 = pos j })) ≡ true = forces-known known f.vars (known_after f n start) rest (negate (record { 0 = pos j })) f.clauses inside opened eu in
          let value : known_literal known (negate (record { 0 = pos j })) ≡ option_map not (known_value known j) = known_literal-negate known (record { 0 = pos j }) some in
          not_true (known_value known j) (ap (λ (r : Option Bool). option_map_or (λ b. b) r false) (sym value) ∙ found) ∙ e
      by None false false er et eu e rest = absurd cc

  -- then the clauses don't contradict each other
  pub open-calm : has_conflict f.clauses (closure f start) ≡ false
  unfolding closure
  open-calm = by (has_conflict f.clauses (known_after f (f.vars + 1) start)) refl
    where
      by : (t : Bool) → has_conflict f.clauses (known_after f (f.vars + 1) start) ≡ t → t ≡ false
      by true is =
          let conflict : has_conflict f.clauses known ≡ true = conflict-within (known_after f (f.vars + 1) start) known (rounds-within (f.vars + 1)) f.vars f.clauses inside is in
          let calm : has_conflict f.clauses known ≡ false = no_conflict known f.vars f.clauses inside opened in absurd cc
      by false is = refl

  -- and what was found is the closure
  pub open-closure : length known ≡ f.vars → IsReached f start known → known ≡ closure f start
  unfolding closure
  open-closure size reached =
      ext_get_or None known (known_after f (f.vars + 1) start) (size ∙ sym (closure-length f start))
      (λ i lt. same (get_or known i None) (get_or (known_after f (f.vars + 1) start) i None)
      (λ x is. let back : i + 1 - 1 ≡ i = omega arith in
      sym (ap (λ (n : ℕ). get_or (known_after f (f.vars + 1) start) n None) back)
      ∙ rounds-up f start short (f.vars + 1 - unknown_count known) (f.vars + 1) (omega arith) (i + 1) x (omega arith)
      (reached open-calm (i + 1) x (omega arith) (ap (λ (n : ℕ). get_or known n None) back ∙ is)))
      (λ x is. let back : i + 1 - 1 ≡ i = omega arith in
      sym (ap (λ (n : ℕ). get_or known n None) back)
      ∙ rounds-within (f.vars + 1) (i + 1) x (omega arith) (ap (λ (n : ℕ). get_or (known_after f (f.vars + 1) start) n None) back ∙ is)))
    where
      same : (r q : Option Bool) → ((x : Bool) → r ≡ Some x → q ≡ Some x) → ((x : Bool) → q ≡ Some x → r ≡ Some x) → r ≡ q
      same None None g h = refl
      same None (Some x) g h = h x refl
      same (Some x) q g h = sym (g x refl)

-- a conflict in what was found is one in the closure
pub conflict-closure : (f : Formula) → AllByRecursion (AllByRecursion (IsLiteral f.vars)) f.clauses → (start known : List (Option Bool)) → length start ≤ f.vars →
    IsReached f start known → has_conflict f.clauses known ≡ true → has_conflict f.clauses (closure f start) ≡ true
unfolding closure
conflict-closure f inside start known short reached conflict = by (has_conflict f.clauses (known_after f (f.vars + 1) start)) refl
  where
    by : (t : Bool) → has_conflict f.clauses (known_after f (f.vars + 1) start) ≡ t → t ≡ true
    by true is = refl
    by false is =
        let there : has_conflict f.clauses (known_after f (f.vars + 1) start) ≡ true =
        conflict-within known (known_after f (f.vars + 1) start)
        (within-trans known (known_after f (f.vars + 1 - unknown_count known) start) (known_after f (f.vars + 1) start) (reached is)
        (rounds-up f start short (f.vars + 1 - unknown_count known) (f.vars + 1) (omega arith))) f.vars f.clauses inside conflict in absurd cc

-- one clause more of a pass
module _ (f : Formula) (inside : AllByRecursion (AllByRecursion (IsLiteral f.vars)) f.clauses) (first now next : List (Option Bool)) (size : length first ≡ f.vars) (so_far : Learns f first now)
    (lits : List Lit) (k : ℕ) (at : k < length f.clauses) (same : lits ≡ get_or f.clauses k []) (after : next ≡ known_by now (examined now None lits)) where
  after_at : next ≡ known_by now (examined now None (get_or f.clauses k []))
  after_at = after ∙ ap (λ (c : List Lit). known_by now (examined now None c)) same

  pub pass-learns : Learns f first next
  pass-learns = learns-trans f first now next so_far (subst (Learns f now) (sym after_at) (examined-learns f inside now (so_far.size ∙ size) k at))

  pub pass-conflict : Conflict ≡ examined now None lits → has_conflict f.clauses next ≡ true
  pass-conflict e =
      let conflict = examined-conflict f inside now k at (ap (examined now None) (sym same) ∙ sym e) in
      let stays : next ≡ now = after ∙ ap (known_by now) (sym e) in
      ap (has_conflict f.clauses) stays ∙ conflict

-- an item of a list, whatever stands for one past its end
pub any_default : {A : Type 0} (xs : List A) (i : ℕ) (d e : A) → i < length xs → get_or xs i d ≡ get_or xs i e
any_default [] i d e h = absurd (omega arith)
any_default (x ∷ xs) zero d e h = refl
any_default (x ∷ xs) (suc i) d e h = any_default xs i d e (omega arith)
