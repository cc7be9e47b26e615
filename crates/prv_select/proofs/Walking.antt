-- The flat walk backward along a run's evaluations keeps what the choice keeps.
use Rattle.std.proofs.Common.{◌≡◌, ℕ, suc, ◌+◌, ◌-◌, ◌<◌, ◌≤◌, nat_eq, Bool, true, false, List, [], ◌∷◌, ◌++◌, replicate, ℤ, Option, Some, None, if◌then◌else◌, refl, sym, ap, ◌∙◌, subst, arith}
use Rattle.std.proofs.lemmas.List.{replicate-append-replicate}
use Rattle.std.proofs.lemmas.Bool.Decides.{nat_tests}
use Rattle.prv_model.specs.declared.expr.Expr.{Expr}
use Rattle.prv_model.specs.declared.stmt.Stmt.{Stmt}
use Rattle.prv_dep.specs.Dependences.{vars, may_fault}
use Rattle.prv_dep.specs.Tables.{bit, mask, row_at}
use Rattle.prv_dep.specs.declared.writes.Row.{Row}
use Rattle.prv_run.specs.Runs.{Run, Use, Idle, Eval, Then, Choice, Mark, Sets, Tests, event, what_of, events}
use Rattle.prv_run.specs.declared.event.Event.{Event}
use Rattle.prv_run.specs.declared.event.What.TheVariants as w
use Rattle.prv_select.specs.declared.places.Scope.{Scope}
use Rattle.prv_select.specs.declared.places.Place.{Place}
use Rattle.prv_select.specs.declared.walk.Walk.{Walk}
use Rattle.prv_select.specs.Choices.{matters, count}
use Rattle.prv_select.specs.Places.{place_at}
use Rattle.prv_select.specs.BackwardWalks.{is_relevant, or_else, outermost, skips, Passed, chosen, passed_by, pass, Back, back}
use Rattle.prv_select.proofs.Masks.{AreNeeded, HaveBits}
use Rattle.prv_select.proofs.PlaceLaws.{part, marked}
use Rattle.prv_select.proofs.Lying.{Lies, branch_writes}

-- what is known of the rows of a run: each evaluation's row is of its expression, and each `if` has what it may write
pub record IsOfSet (row : Row) (var : ℕ) (e : Expr) : Type 0 where
  pub writes : row.writes ≡ bit var
  pub overwrites : row.overwrites ≡ bit var
  pub leaves : row.leaves ≡ may_fault e

abbrev pub SetsRow : Row → Use → Expr → Type 0
SetsRow row (Sets var) e = IsOfSet row var e
SetsRow row _ e = Unit {0}

pub record IsOfEval (row : Row) (why : Use) (e : Expr) : Type 0 where
  pub reads : row.reads ≡ mask (vars e)
  pub set : SetsRow row why e

abbrev pub IsOfChoice : Row → Expr → Stmt → Option Stmt → Type 0
IsOfChoice row test chosen other = (n : ℕ) (needed : ℕ → Bool) → HaveBits (branch_writes chosen other) → AreNeeded n needed → is_relevant row n ≡ matters test chosen other needed

abbrev pub Rows : List Row → Run → Type 0
Rows rows Idle = Unit {0}
Rows rows (Eval k why e x) = IsOfEval (row_at rows k) why e
Rows rows (Then a b) = Rows rows a × Rows rows b
Rows rows (Choice k test chosen other inner) = IsOfChoice (row_at rows k) test chosen other × Rows rows inner
Rows rows (Mark m inner) = Rows rows inner

-- ---- small laws of the walk
pub or-none : (a b : Option ℕ) → or_else a b ≡ None → a ≡ None
or-none None b e = refl
or-none (Some k) b e = cc

or-rest : (a b : Option ℕ) → a ≡ None → or_else a b ≡ b
or-rest a b e = rw e refl

or-assoc : (a b d : Option ℕ) → or_else a (or_else b d) ≡ or_else (or_else a b) d
or-assoc None b d = refl
or-assoc (Some k) b d = refl

pub number-is : (k : ℕ) (why : Use) (v : Option ℤ) → (event k (what_of why) v).stmt ≡ k
number-is k why None = refl
number-is k why (Some n) = refl

pub one-false : (n : ℕ) → false ∷ replicate n false ≡ replicate (1 + n) false
one-false n = let more : suc n ≡ 1 + n = omega arith in ap (λ (m : ℕ). replicate m false) more

module _ (places : List Place) (rows : List Row) where
  -- one evaluation, where the statement stands as it is said
  pub pass-here : (x : Event) (k : ℕ) (outer inner : Scope) (walk : Walk) (skipped : Option ℕ) → x.stmt ≡ k → place_at places k ≡ record { outer = outer; inner = inner } → skips places rows walk inner ≡ skipped →
      pass places rows x walk ≡ passed_by skipped (record x { stmt = k }) (row_at rows k) (record { outer = outer; inner = inner }) walk
  pass-here x k outer inner walk skipped is stands how =
      let here : place_at places x.stmt ≡ record { outer = outer; inner = inner } = ap (λ (j : ℕ). place_at places j) is ∙ stands in
      ap (λ (p : Place). passed_by (skips places rows walk p.inner) x (row_at rows x.stmt) p walk) here
      ∙ ap (λ (o : Option ℕ). passed_by o x (row_at rows x.stmt) (record { outer = outer; inner = inner }) walk) how
      ∙ ap (λ (j : ℕ). passed_by skipped (record x { stmt = j }) (row_at rows j) (record { outer = outer; inner = inner }) walk) is

  pub back-append : (a b : List Event) (walk : Walk) →
      back places rows (a ++ b) walk ≡ record { walk = (back places rows a (back places rows b walk).walk).walk; kept = (back places rows a (back places rows b walk).walk).kept ++ (back places rows b walk).kept }
  back-append [] b walk = refl
  back-append (x ∷ a) b walk =
      ap (λ (later : Back). let one = pass places rows x later.walk in record { walk = one.walk; kept = one.kept ∷ later.kept }) (back-append a b walk)

  -- the scope inside an `if`, one step further in
  inward : (s : Scope) (k : ℕ) (walk : Walk) → place_at places k ≡ record { outer = s; inner = part s k } → walk.entered ≤ s.depth →
      skips places rows walk (part s k) ≡ or_else (skips places rows walk s) (if is_relevant (row_at rows k) walk.needed then None else Some k)
  inward s k walk stands low =
      let one = if is_relevant (row_at rows k) walk.needed then None else Some k in
      let more : s.depth + 1 - walk.entered ≡ suc (s.depth - walk.entered) = omega arith in
      ap (λ (n : ℕ). or_else walk.skipped (outermost places rows walk.needed n (Some k))) more
      ∙ ap (λ (p : Place). or_else walk.skipped (or_else (outermost places rows walk.needed (s.depth - walk.entered) p.outer.nearest) one)) stands
      ∙ or-assoc walk.skipped (outermost places rows walk.needed (s.depth - walk.entered) s.nearest) one

  inward-skip : (s : Scope) (k j : ℕ) (walk : Walk) → place_at places k ≡ record { outer = s; inner = part s k } → walk.entered ≤ s.depth → skips places rows walk s ≡ Some j → skips places rows walk (part s k) ≡ Some j
  inward-skip s k j walk stands low is = inward s k walk stands low ∙ ap (λ (o : Option ℕ). or_else o (if is_relevant (row_at rows k) walk.needed then None else Some k)) is

  pub inward-own : (s : Scope) (k : ℕ) (walk : Walk) (b : Bool) → place_at places k ≡ record { outer = s; inner = part s k } → walk.entered ≤ s.depth → skips places rows walk s ≡ None →
      is_relevant (row_at rows k) walk.needed ≡ b → skips places rows walk (part s k) ≡ (if b then None else Some k)
  inward-own s k walk b stands low is how =
      inward s k walk stands low ∙ ap (λ (o : Option ℕ). or_else o (if is_relevant (row_at rows k) walk.needed then None else Some k)) is ∙ ap (λ (z : Bool). if z then None else Some k) how

  -- a walk that has just passed an evaluation of a scope passes nothing over there
  pub shown : (s : Scope) (walk : Walk) → walk.skipped ≡ None → walk.entered ≡ s.depth → skips places rows walk s ≡ None
  shown s walk is same =
      let none : s.depth - walk.entered ≡ 0 = omega arith in
      or-rest walk.skipped _ is ∙ ap (λ (n : ℕ). outermost places rows walk.needed n s.nearest) none

  -- ---- what is passed over
  pub record Hidden (s : Scope) (j : ℕ) (run : Run) (walk : Walk) (after : Back) : Type 0 where
    pub kept : after.kept ≡ replicate (count run) false
    pub needed : after.walk.needed ≡ walk.needed
    pub marks : after.walk.marks ≡ walk.marks
    pub entered : after.walk.entered ≡ walk.entered
    pub still : skips places rows after.walk s ≡ Some j

  differ : (j k : ℕ) (outer inner : Scope) → place_at places k ≡ record { outer = outer; inner = inner } → (place_at places j).outer.depth < outer.depth → nat_eq k j ≡ false
  differ j k outer inner stands deep = by (nat_eq k j) refl
    where
      by : (z : Bool) → nat_eq k j ≡ z → nat_eq k j ≡ false
      by true e =
          let same : k ≡ j = grind (arith, nat_tests) in
          let one : (place_at places j).outer.depth ≡ outer.depth = ap (λ (n : ℕ). (place_at places n).outer.depth) (sym same) ∙ ap (λ (p : Place). p.outer.depth) stands in
          absurd (omega arith)
      by false e = e

  hide : (x : Event) (k j : ℕ) (outer inner : Scope) (walk : Walk) → x.stmt ≡ k → place_at places k ≡ record { outer = outer; inner = inner } → skips places rows walk inner ≡ Some j → nat_eq k j ≡ false →
      back places rows (x ∷ []) walk ≡ record { walk = record walk { skipped = Some j }; kept = false ∷ [] }
  hide x k j outer inner walk is stands how other =
      ap (λ (one : Passed). record { walk = one.walk; kept = one.kept ∷ [] })
      (pass-here x k outer inner walk (Some j) is stands how
      ∙ ap (λ (z : Bool). record { walk = if z then record walk { entered = outer.depth; skipped = None } else record walk { skipped = Some j }; kept = false }) other)

  pub hidden : (s : Scope) (run : Run) → Lies places s run → (j : ℕ) (walk : Walk) → walk.entered ≤ s.depth → skips places rows walk s ≡ Some j → (place_at places j).outer.depth < s.depth →
      Hidden s j run walk (back places rows (events run) walk)
  hidden s run (Lies.is_idle s') j walk low is deep = record { kept = refl; needed = refl; marks = refl; entered = refl; still = is }
  hidden s run (Lies.is_eval s' k why e x stands bit) j walk low is deep =
      let one = hide (event k (what_of why) x) k j s s walk (number-is k why x) stands is (differ j k s s stands deep) in
      record {
        kept = ap (λ (b : Back). b.kept) one;
        needed = ap (λ (b : Back). b.walk.needed) one;
        marks = ap (λ (b : Back). b.walk.marks) one;
        entered = ap (λ (b : Back). b.walk.entered) one;
        still = ap (λ (b : Back). skips places rows b.walk s) one;
      }
  hidden s run (Lies.is_next s' a b la lb) j walk low is deep =
      let hb = hidden s b lb j walk low is deep in
      let mid = (back places rows (events b) walk).walk in
      let ha = hidden s a la j mid (subst (λ (n : ℕ). n ≤ s.depth) (sym hb.entered) low) hb.still deep in
      subst (λ (after : Back). Hidden s j (Then a b) walk after) (sym (back-append (events a) (events b) walk)) (record {
        kept = (λ i. ha.kept i ++ hb.kept i) ∙ replicate-append-replicate (count a) (count b) false;
        needed = ha.needed ∙ hb.needed;
        marks = ha.marks ∙ hb.marks;
        entered = ha.entered ∙ hb.entered;
        still = ha.still;
      })
  hidden s run (Lies.is_choice s' k test chosen other x rest stands bits lr) j walk low is deep =
      let more : walk.entered ≤ s.depth + 1 = omega arith in
      let deeper : (place_at places j).outer.depth < s.depth + 1 = omega arith in
      let hr = hidden (part s k) rest lr j walk more (inward-skip s k j walk stands low is) deeper in
      let mid = (back places rows (events rest) walk).walk in
      let one = hide (event k w.Test x) k j s (part s k) mid (number-is k Tests x) stands hr.still (differ j k s (part s k) stands deep) in
      subst (λ (after : Back). Hidden s j (Choice k test chosen other (Then (Eval k Tests test x) rest)) walk after) (sym (back-append (event k w.Test x ∷ []) (events rest) walk)) (record {
        kept = (λ i. (ap (λ (b : Back). b.kept) one) i ++ hr.kept i) ∙ one-false (count rest);
        needed = ap (λ (b : Back). b.walk.needed) one ∙ hr.needed;
        marks = ap (λ (b : Back). b.walk.marks) one ∙ hr.marks;
        entered = ap (λ (b : Back). b.walk.entered) one ∙ hr.entered;
        still = ap (λ (b : Back). skips places rows b.walk s) one;
      })
  hidden s run (Lies.is_mark s' m inner lies) j walk low is deep =
      let h = hidden (marked s m) inner lies j walk low is deep in
      record { kept = h.kept; needed = h.needed; marks = h.marks; entered = h.entered; still = h.still }
