-- The flat walk backward along a run's evaluations keeps what the choice keeps.
use Rattle.std.proofs.Common.{◌≡◌, ℕ, zero, suc, ◌+◌, ◌<◌, ◌≤◌, nat_eq, Bool, true, false, ◌&&◌, ◌||◌, not, List, [], ◌∷◌, ◌++◌, replicate, ℤ, Option, Some, None, if◌then◌else◌, refl, sym, ap, ◌∙◌, subst, arith, bit_and, bit_or}
use Rattle.std.proofs.lemmas.List.Folds.{list_any-append}
use Rattle.std.proofs.lemmas.Bool.Decides.{nat_tests}
use Rattle.std.specs.Int.{w64, bit_not}
use Rattle.std.specs.List.{list_any}
use Rattle.prv_model.specs.declared.expr.Expr.{Expr}
use Rattle.prv_model.specs.declared.stmt.Stmt.{Stmt}
use Rattle.prv_dep.specs.Dependences.{vars, may_fault}
use Rattle.prv_dep.specs.Tables.{bit, mask, row_at}
use Rattle.prv_dep.specs.declared.writes.Row.{Row}
use Rattle.prv_dep.proofs.MaskLaws.{mask-one}
use Rattle.prv_run.specs.Runs.{Run, Use, Eval, Then, Choice, Sets, Puts, Returns, Asserts, Tests, event, what_of, events}
use Rattle.prv_run.specs.declared.event.Event.{Event}
use Rattle.prv_run.specs.declared.event.What.TheVariants as w
use Rattle.prv_select.specs.declared.places.Scope.{Scope}
use Rattle.prv_select.specs.declared.places.Place.{Place}
use Rattle.prv_select.specs.declared.mark_set.MarkSet.{MarkSet}
use Rattle.prv_select.specs.declared.walk.Walk.{Walk}
use Rattle.prv_select.specs.Choices.{Chosen, with_vars, without, no_mark, matters, count, before, choose}
use Rattle.prv_select.specs.MarkSets.{one_mark, both_marks, has_mark}
use Rattle.prv_select.specs.Places.{place_at}
use Rattle.prv_select.specs.BackwardWalks.{is_relevant, skips, Passed, sets, needs_before, is_kept, chosen, Back, back}
use Rattle.prv_select.proofs.Masks.{AreNeeded, needed-vars, needed-set, some-needed}
use Rattle.prv_select.proofs.MarkLaws.{has-both, has-one}
use Rattle.prv_select.proofs.PlaceLaws.{part, marked}
use Rattle.prv_select.proofs.Lying.{SetsBit, Lies}
use Rattle.prv_select.proofs.Walking.{Rows, IsOfEval, number-is, or-none, pass-here, back-append, inward-own, shown, one-false, hidden}

or_false : (b : Bool) → (b || false) ≡ b
or_false true = refl
or_false false = refl

and_false : (b : Bool) → (b && false) ≡ false
and_false true = refl
and_false false = refl

or_swap : (a b : Bool) → (a || b) ≡ (b || a)
or_swap true true = refl
or_swap true false = refl
or_swap false true = refl
or_swap false false = refl

-- what marks contribute: before, in what is kept, and round what is kept
abbrev contribute : Bool → Bool → Bool → Bool → Bool
contribute was own round any = was || (own || (round && any))

none-more : (was round : Bool) → was ≡ contribute was false round false
none-more was true = sym (or_false was)
none-more was false = sym (or_false was)

one-more : (was round : Bool) → (was || round) ≡ contribute was false round true
one-more was true = refl
one-more was false = refl

both-more : (was first second round one two : Bool) → contribute (contribute was second round two) first round one ≡ contribute was (first || second) round (one || two)
both-more true first second round one two = refl
both-more false true true round one two = refl
both-more false false true round one two = refl
both-more false true false true one true = refl
both-more false true false true one false = refl
both-more false true false false one two = refl
both-more false false false true one two = or_swap two one
both-more false false false false one two = refl

inner-more : (was own round here any : Bool) → contribute was own (round || here) any ≡ contribute was (own || (here && any)) round any
inner-more true own round here any = refl
inner-more false true round here any = refl
inner-more false false true true any = by any
  where
    by : (b : Bool) → b ≡ (b || b)
    by true = refl
    by false = refl
inner-more false false true false any = refl
inner-more false false false here any = sym (or_false (here && any))

any-none : (n : ℕ) → list_any (λ b. b) (replicate n false) ≡ false
any-none zero = refl
any-none (suc n) = any-none n

module _ (places : List Place) (rows : List Row) where
  -- one evaluation that nothing hides: kept, and not kept
  taken : (x : Event) (k : ℕ) (outer inner : Scope) (walk : Walk) (b : Bool) → x.stmt ≡ k → place_at places k ≡ record { outer = outer; inner = inner } → skips places rows walk inner ≡ None →
      sets x ≡ b → is_kept b (row_at rows k) walk.needed ≡ true →
      back places rows (x ∷ []) walk
      ≡ record { walk = record walk { entered = outer.depth; needed = needs_before b (row_at rows k) walk.needed; marks = both_marks walk.marks outer.marks }; kept = true ∷ [] }
  taken x k outer inner walk b is stands how set kept =
      let row = row_at rows k in
      let next : Bool → Passed = λ z. record { walk = record walk { entered = outer.depth; needed = needs_before z row walk.needed; marks = both_marks walk.marks outer.marks }; kept = true } in
      let stays : Passed = record { walk = record walk { entered = outer.depth }; kept = false } in
      ap (λ (one : Passed). record { walk = one.walk; kept = one.kept ∷ [] })
      (pass-here places rows x k outer inner walk None is stands how
      ∙ ap (λ (z : Bool). if is_kept z row walk.needed then next z else stays) set ∙ ap (λ (z : Bool). if z then next b else stays) kept)

  left : (x : Event) (k : ℕ) (outer inner : Scope) (walk : Walk) (b : Bool) → x.stmt ≡ k → place_at places k ≡ record { outer = outer; inner = inner } → skips places rows walk inner ≡ None →
      sets x ≡ b → is_kept b (row_at rows k) walk.needed ≡ false →
      back places rows (x ∷ []) walk ≡ record { walk = record walk { entered = outer.depth }; kept = false ∷ [] }
  left x k outer inner walk b is stands how set kept =
      let row = row_at rows k in
      let next : Bool → Passed = λ z. record { walk = record walk { entered = outer.depth; needed = needs_before z row walk.needed; marks = both_marks walk.marks outer.marks }; kept = true } in
      let stays : Passed = record { walk = record walk { entered = outer.depth }; kept = false } in
      ap (λ (one : Passed). record { walk = one.walk; kept = one.kept ∷ [] })
      (pass-here places rows x k outer inner walk None is stands how
      ∙ ap (λ (z : Bool). if is_kept z row walk.needed then next z else stays) set ∙ ap (λ (z : Bool). if z then next b else stays) kept)

  -- a walk in a scope keeps what the choice keeps
  pub record Keeps (s : Scope) (walk : Walk) (choice : Chosen) (after : Back) : Type 0 where
    pub needed : AreNeeded after.walk.needed choice.needed
    pub kept : after.kept ≡ choice.kept
    pub entered : after.walk.entered ≤ s.depth
    pub passes : skips places rows after.walk s ≡ None
    pub marks : (m : ℕ) → m < 256 → has_mark after.walk.marks m ≡ contribute (has_mark walk.marks m) (choice.marks m) (has_mark s.marks m) (list_any (λ b. b) choice.kept)

  keeps-taken : (x : Event) (k : ℕ) (s inner : Scope) (walk : Walk) (b : Bool) (needed : ℕ → Bool) → x.stmt ≡ k → place_at places k ≡ record { outer = s; inner = inner } → skips places rows walk inner ≡ None →
      sets x ≡ b → is_kept b (row_at rows k) walk.needed ≡ true → AreNeeded (needs_before b (row_at rows k) walk.needed) needed →
      Keeps s walk (record { needed = needed; kept = true ∷ []; marks = no_mark }) (back places rows (x ∷ []) walk)
  keeps-taken x k s inner walk b needed is stands how set kept need =
      subst (λ (after : Back). Keeps s walk (record { needed = needed; kept = true ∷ []; marks = no_mark }) after) (sym (taken x k s inner walk b is stands how set kept)) (record {
        needed = need;
        kept = refl;
        entered = omega arith;
        passes = shown places rows s (record { needed = needs_before b (row_at rows k) walk.needed; entered = s.depth; skipped = walk.skipped; marks = both_marks walk.marks s.marks }) (or-none walk.skipped _ how) refl;
        marks = λ m low. has-both walk.marks s.marks m low ∙ one-more (has_mark walk.marks m) (has_mark s.marks m);
      })

  keeps-left : (x : Event) (k : ℕ) (s inner : Scope) (walk : Walk) (b : Bool) (needed : ℕ → Bool) → x.stmt ≡ k → place_at places k ≡ record { outer = s; inner = inner } → skips places rows walk inner ≡ None →
      sets x ≡ b → is_kept b (row_at rows k) walk.needed ≡ false → AreNeeded walk.needed needed →
      Keeps s walk (record { needed = needed; kept = false ∷ []; marks = no_mark }) (back places rows (x ∷ []) walk)
  keeps-left x k s inner walk b needed is stands how set kept need =
      subst (λ (after : Back). Keeps s walk (record { needed = needed; kept = false ∷ []; marks = no_mark }) after) (sym (left x k s inner walk b is stands how set kept)) (record {
        needed = need;
        kept = refl;
        entered = omega arith;
        passes = shown places rows s (record { needed = walk.needed; entered = s.depth; skipped = walk.skipped; marks = walk.marks }) (or-none walk.skipped _ how) refl;
        marks = λ m low. none-more (has_mark walk.marks m) (has_mark s.marks m);
      })

  -- an evaluation that sets nothing, or faults
  keeps-plain : (x : Event) (k : ℕ) (s inner : Scope) (walk : Walk) (e : Expr) (needed : ℕ → Bool) → x.stmt ≡ k → place_at places k ≡ record { outer = s; inner = inner } → skips places rows walk inner ≡ None →
      sets x ≡ false → (row_at rows k).reads ≡ mask (vars e) → AreNeeded walk.needed needed →
      Keeps s walk (record { needed = with_vars e needed; kept = true ∷ []; marks = no_mark }) (back places rows (x ∷ []) walk)
  keeps-plain x k s inner walk e needed is stands how set reads need =
      keeps-taken x k s inner walk false (with_vars e needed) is stands how set refl
      (subst (λ (r : ℕ). AreNeeded (bit_or walk.needed r) (with_vars e needed)) (sym reads) (needed-vars walk.needed needed e need))

  -- an evaluation that sets a variable
  keeps-set : (x : Event) (k var : ℕ) (s : Scope) (walk : Walk) (e : Expr) (n : ℤ) (needed : ℕ → Bool) → x.stmt ≡ k → place_at places k ≡ record { outer = s; inner = s } → skips places rows walk s ≡ None →
      sets x ≡ true → var < 64 → IsOfEval (row_at rows k) (Sets var) e → AreNeeded walk.needed needed →
      Keeps s walk (choose (Eval k (Sets var) e (Some n)) needed) (back places rows (x ∷ []) walk)
  keeps-set x k var s walk e n needed is stands how set low row need = by (needed var || may_fault e) refl
    where
      relevant : is_relevant (row_at rows k) walk.needed ≡ (needed var || may_fault e)
      relevant =
          (λ i. row.set.leaves i || not (nat_eq (bit_and (row.set.writes i) walk.needed) 0))
          ∙ ap (λ (b : Bool). may_fault e || b) (ap (λ (m : ℕ). not (nat_eq (bit_and m walk.needed) 0)) (sym (mask-one var)) ∙ some-needed walk.needed needed (var ∷ []) need (low, tt) ∙ or_false (needed var))
          ∙ or_swap (may_fault e) (needed var)

      before_it : AreNeeded (needs_before true (row_at rows k) walk.needed) (with_vars e (without var needed))
      before_it =
          subst (λ (m : ℕ). AreNeeded (bit_or (bit_and walk.needed (bit_not w64 m)) (row_at rows k).reads) (with_vars e (without var needed))) (sym row.set.overwrites)
          (subst (λ (r : ℕ). AreNeeded (bit_or (bit_and walk.needed (bit_not w64 (bit var))) r) (with_vars e (without var needed))) (sym row.reads) (needed-set walk.needed needed var e low need))

      by : (z : Bool) → (needed var || may_fault e) ≡ z → Keeps s walk (choose (Eval k (Sets var) e (Some n)) needed) (back places rows (x ∷ []) walk)
      by true z =
          subst (λ (b : Bool). Keeps s walk (if b then record { needed = with_vars e (without var needed); kept = true ∷ []; marks = no_mark } else record { needed = needed; kept = false ∷ []; marks = no_mark }) (back places rows (x ∷ []) walk))
          (sym z) (keeps-taken x k s s walk true _ is stands how set (relevant ∙ z) before_it)
      by false z =
          subst (λ (b : Bool). Keeps s walk (if b then record { needed = with_vars e (without var needed); kept = true ∷ []; marks = no_mark } else record { needed = needed; kept = false ∷ []; marks = no_mark }) (back places rows (x ∷ []) walk))
          (sym z) (keeps-left x k s s walk true _ is stands how set (relevant ∙ z) need)

  keeps-eval : (s : Scope) (k : ℕ) (why : Use) (e : Expr) (v : Option ℤ) (walk : Walk) (needed : ℕ → Bool) → place_at places k ≡ record { outer = s; inner = s } → SetsBit why → IsOfEval (row_at rows k) why e →
      skips places rows walk s ≡ None → AreNeeded walk.needed needed → Keeps s walk (choose (Eval k why e v) needed) (back places rows (event k (what_of why) v ∷ []) walk)
  keeps-eval s k (Sets var) e (Some n) walk needed stands low row how need = keeps-set (event k w.Set (Some n)) k var s walk e n needed refl stands how refl low row need
  keeps-eval s k (Sets var) e None walk needed stands low row how need = keeps-plain (event k w.Set None) k s s walk e needed refl stands how refl row.reads need
  keeps-eval s k Puts e None walk needed stands low row how need = keeps-plain (event k w.Out None) k s s walk e needed refl stands how refl row.reads need
  keeps-eval s k Puts e (Some n) walk needed stands low row how need = keeps-plain (event k w.Out (Some n)) k s s walk e needed refl stands how refl row.reads need
  keeps-eval s k Returns e None walk needed stands low row how need = keeps-plain (event k w.Return None) k s s walk e needed refl stands how refl row.reads need
  keeps-eval s k Returns e (Some n) walk needed stands low row how need = keeps-plain (event k w.Return (Some n)) k s s walk e needed refl stands how refl row.reads need
  keeps-eval s k Asserts e None walk needed stands low row how need = keeps-plain (event k w.Assert None) k s s walk e needed refl stands how refl row.reads need
  keeps-eval s k Asserts e (Some n) walk needed stands low row how need = keeps-plain (event k w.Assert (Some n)) k s s walk e needed refl stands how refl row.reads need
  keeps-eval s k Tests e None walk needed stands low row how need = keeps-plain (event k w.Test None) k s s walk e needed refl stands how refl row.reads need
  keeps-eval s k Tests e (Some n) walk needed stands low row how need = keeps-plain (event k w.Test (Some n)) k s s walk e needed refl stands how refl row.reads need

  -- the test of an `if`, which ends its part
  keeps-test : (s : Scope) (k : ℕ) (e : Expr) (v : Option ℤ) (walk : Walk) (needed : ℕ → Bool) → place_at places k ≡ record { outer = s; inner = part s k } → (row_at rows k).reads ≡ mask (vars e) →
      skips places rows walk (part s k) ≡ None → AreNeeded walk.needed needed → Keeps s walk (choose (Eval k Tests e v) needed) (back places rows (event k w.Test v ∷ []) walk)
  keeps-test s k e None walk needed stands reads how need = keeps-plain (event k w.Test None) k s (part s k) walk e needed refl stands how refl reads need
  keeps-test s k e (Some n) walk needed stands reads how need = keeps-plain (event k w.Test (Some n)) k s (part s k) walk e needed refl stands how refl reads need

  -- one run and then another
  keeps-both : (s t : Scope) (a b : List Event) (walk : Walk) (ca cb : Chosen) → t.marks ≡ s.marks → Keeps t walk cb (back places rows b walk) → Keeps s (back places rows b walk).walk ca (back places rows a (back places rows b walk).walk) →
      Keeps s walk (before ca cb) (back places rows (a ++ b) walk)
  keeps-both s t a b walk ca cb same hb ha =
      subst (λ (after : Back). Keeps s walk (before ca cb) after) (sym (back-append places rows a b walk)) (record {
        needed = ha.needed;
        kept = λ i. ha.kept i ++ hb.kept i;
        entered = ha.entered;
        passes = ha.passes;
        marks = λ m low.
            let round = has_mark s.marks m in
            ha.marks m low
            ∙ ap (λ (was : Bool). contribute was (ca.marks m) round (list_any (λ b. b) ca.kept)) (hb.marks m low ∙ ap (λ (q : MarkSet). contribute (has_mark walk.marks m) (cb.marks m) (has_mark q m) (list_any (λ b. b) cb.kept)) same)
            ∙ both-more (has_mark walk.marks m) (ca.marks m) (cb.marks m) round (list_any (λ b. b) ca.kept) (list_any (λ b. b) cb.kept)
            ∙ ap (λ (any : Bool). contribute (has_mark walk.marks m) (ca.marks m || cb.marks m) round any) (sym (list_any-append (λ b. b) ca.kept cb.kept));
      })

  -- an `if` that doesn't matter
  keeps-hidden : (s : Scope) (k : ℕ) (test : Expr) (x : Option ℤ) (rest : Run) (walk : Walk) (needed : ℕ → Bool) → place_at places k ≡ record { outer = s; inner = part s k } → Lies places (part s k) rest → walk.entered ≤ s.depth →
      skips places rows walk (part s k) ≡ Some k → AreNeeded walk.needed needed →
      Keeps s walk (record { needed = needed; kept = replicate (1 + count rest) false; marks = no_mark }) (back places rows (event k w.Test x ∷ events rest) walk)
  keeps-hidden s k test x rest walk needed stands lies low how need =
      let here : (place_at places k).outer.depth ≡ s.depth = ap (λ (p : Place). p.outer.depth) stands in
      let deep : (place_at places k).outer.depth < s.depth + 1 = omega arith in
      let more : walk.entered ≤ s.depth + 1 = omega arith in
      let h = hidden places rows (part s k) rest lies k walk more how deep in
      let mid = (back places rows (events rest) walk).walk in
      let own : nat_eq k k ≡ true = grind (arith, nat_tests) in
      let ending : back places rows (event k w.Test x ∷ []) mid ≡ record { walk = record mid { entered = s.depth; skipped = None }; kept = false ∷ [] } =
      ap (λ (one : Passed). record { walk = one.walk; kept = one.kept ∷ [] })
      (pass-here places rows (event k w.Test x) k s (part s k) mid (Some k) (number-is k Tests x) stands h.still
      ∙ ap (λ (z : Bool). record { walk = if z then record mid { entered = s.depth; skipped = None } else record mid { skipped = Some k }; kept = false }) own) in
      subst (λ (after : Back). Keeps s walk (record { needed = needed; kept = replicate (1 + count rest) false; marks = no_mark }) after) (sym (back-append places rows (event k w.Test x ∷ []) (events rest) walk))
      (subst (λ (one : Back). Keeps s walk (record { needed = needed; kept = replicate (1 + count rest) false; marks = no_mark }) (record { walk = one.walk; kept = one.kept ++ (back places rows (events rest) walk).kept })) (sym ending) (record {
        needed = subst (λ (n : ℕ). AreNeeded n needed) (sym h.needed) need;
        kept = ap (λ (bs : List Bool). false ∷ bs) h.kept ∙ one-false (count rest);
        entered = omega arith;
        passes = shown places rows s (record mid { entered = s.depth; skipped = None }) refl refl;
        marks = λ m small.
            ap (λ (q : MarkSet). has_mark q m) h.marks ∙ none-more (has_mark walk.marks m) (has_mark s.marks m)
            ∙ ap (λ (any : Bool). contribute (has_mark walk.marks m) false (has_mark s.marks m) any) (sym (any-none (1 + count rest)));
      }))

  keeps-choice : (s : Scope) (k : ℕ) (test : Expr) (chosen : Stmt) (other : Option Stmt) (x : Option ℤ) (rest : Run) (walk : Walk) (needed : ℕ → Bool) → place_at places k ≡ record { outer = s; inner = part s k } →
      Lies places (part s k) rest → (row_at rows k).reads ≡ mask (vars test) → is_relevant (row_at rows k) walk.needed ≡ matters test chosen other needed → walk.entered ≤ s.depth → skips places rows walk s ≡ None → AreNeeded walk.needed needed →
      (skips places rows walk (part s k) ≡ None → Keeps (part s k) walk (choose rest needed) (back places rows (events rest) walk)) →
      Keeps s walk (choose (Choice k test chosen other (Then (Eval k Tests test x) rest)) needed) (back places rows (event k w.Test x ∷ events rest) walk)
  keeps-choice s k test chosen other x rest walk needed stands lies reads relevant low how need inside = by (matters test chosen other needed) refl
    where
      inner : Chosen
      inner = choose (Then (Eval k Tests test x) rest) needed

      none : Chosen
      none = record { needed = needed; kept = replicate (1 + count rest) false; marks = no_mark }

      by : (z : Bool) → matters test chosen other needed ≡ z → Keeps s walk (if matters test chosen other needed then inner else none) (back places rows (event k w.Test x ∷ events rest) walk)
      by true z =
          let hr = inside (inward-own places rows s k walk true stands low how (relevant ∙ z)) in
          let ht = keeps-test s k test x (back places rows (events rest) walk).walk (choose rest needed).needed stands reads hr.passes hr.needed in
          subst (λ (b : Bool). Keeps s walk (if b then inner else none) (back places rows (event k w.Test x ∷ events rest) walk)) (sym z)
          (keeps-both s (part s k) (event k w.Test x ∷ []) (events rest) walk (choose (Eval k Tests test x) (choose rest needed).needed) (choose rest needed) refl hr ht)
      by false z =
          subst (λ (b : Bool). Keeps s walk (if b then inner else none) (back places rows (event k w.Test x ∷ events rest) walk)) (sym z)
          (keeps-hidden s k test x rest walk needed stands lies low (inward-own places rows s k walk false stands low how (relevant ∙ z)) need)

  -- a walk along a run that lies in a scope
  pub keeps-run : (s : Scope) (run : Run) → Lies places s run → Rows rows run → (walk : Walk) (needed : ℕ → Bool) → AreNeeded walk.needed needed → walk.entered ≤ s.depth → skips places rows walk s ≡ None →
      Keeps s walk (choose run needed) (back places rows (events run) walk)
  keeps-run s run (Lies.is_idle s') own walk needed need low how = record { needed = need; kept = refl; entered = low; passes = how; marks = λ m small. none-more (has_mark walk.marks m) (has_mark s.marks m) }
  keeps-run s run (Lies.is_eval s' k why e x stands bit) own walk needed need low how = keeps-eval s k why e x walk needed stands bit own how need
  keeps-run s run (Lies.is_next s' a b la lb) own walk needed need low how =
      let hb = keeps-run s b lb own.1 walk needed need low how in
      let ha = keeps-run s a la own.0 (back places rows (events b) walk).walk (choose b needed).needed hb.needed hb.entered hb.passes in
      keeps-both s s (events a) (events b) walk (choose a (choose b needed).needed) (choose b needed) refl hb ha
  keeps-run s run (Lies.is_choice s' k test chosen other x rest stands bits lr) own walk needed need low how =
      let more : walk.entered ≤ s.depth + 1 = omega arith in
      keeps-choice s k test chosen other x rest walk needed stands lr own.1.0.reads (own.0 walk.needed needed bits need) low how need (λ is. keeps-run (part s k) rest lr own.1.1 walk needed need more is)
  keeps-run s run (Lies.is_mark s' m inner lies) own walk needed need low how =
      let h = keeps-run (marked s m) inner lies own walk needed need low how in
      record {
        needed = h.needed;
        kept = h.kept;
        entered = h.entered;
        passes = h.passes;
        marks = λ j small.
            h.marks j small
            ∙ ap (λ (round : Bool). contribute (has_mark walk.marks j) ((choose inner needed).marks j) round (list_any (λ b. b) (choose inner needed).kept)) (has-both s.marks (one_mark m) j small ∙ ap (λ (here : Bool). has_mark s.marks j || here) (has-one m j small))
            ∙ inner-more (has_mark walk.marks j) ((choose inner needed).marks j) (has_mark s.marks j) (nat_eq m j) (list_any (λ b. b) (choose inner needed).kept);
      }
