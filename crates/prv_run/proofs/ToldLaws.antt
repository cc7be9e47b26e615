-- What a recorder has been told behind a branch, behind one statement of a list, and behind one turn of a loop.
use Rattle.std.proofs.Common.{◌≡◌, ℕ, zero, suc, ◌+◌, ◌-◌, ◌≤◌, ◌==◌, true, false, List, [], ◌∷◌, ◌++◌, ℤ, Option, Some, None, refl, sym, ap, ◌∙◌, subst, arith}
use Rattle.std.proofs.lemmas.List.{append-nil}
use Rattle.std.proofs.lemmas.Bool.Decides.{nat_tests}
use Rattle.std.specs.Option.{option_map}
use Rattle.prv_model.specs.Words.{is_zero}
use Rattle.prv_model.specs.Expressions.{value}
use Rattle.prv_model.specs.Numbers.{inside, statements, statements_all, branch_inside}
use Rattle.prv_model.specs.Programs.{stmt_count}
use Rattle.prv_model.specs.Statements.{Frame, Step, exec, goes, ends, loop, spend}
use Rattle.prv_model.proofs.NumberLaws.{inside-If, inside-While, inside-Block, inside-Marked}
use Rattle.prv_model.specs.declared.expr.Expr.{Expr}
use Rattle.prv_model.specs.declared.outcome.Ending.{Ending}
use Rattle.prv_model.specs.declared.stmt.Stmt.{Stmt}
use Rattle.prv_model.specs.declared.stmt.Stmt.TheVariants.{If, While, Block, Marked}
use Rattle.prv_run.specs.declared.event.Event.{Event}
use Rattle.prv_run.specs.declared.event.What.TheVariants as w
use Rattle.prv_run.specs.declared.record.Recorder.{Recorder}
use Rattle.prv_run.specs.Runs.{Run, follow, branch, loop_run, otherwise_run, runs, runs_all, event, events}
use Rattle.prv_run.specs.Telling.{tell, Knows, Agrees}
use Rattle.prv_run.proofs.RunLaws.{runs-If}
use Rattle.prv_run.proofs.Tellings.{tell-nothing, tell-more, tell-agrees, knows-inside}

-- what is known inside a statement
pub knows-If : (r : Recorder) (k j : ℕ) (test : Expr) (chosen : Stmt) (other : Option Stmt) → Knows r k (statements (If test chosen other)) → Agrees r j (k + 1) →
    Knows r j (statements chosen ++ branch_inside (option_map (λ s. (s, inside s)) other))
knows-If r k j test chosen other known same = subst (λ (flat : List Stmt). Knows r j flat) (inside-If test chosen other) (knows-inside r k j _ _ known same)

pub knows-While : (r : Recorder) (k j : ℕ) (test : Expr) (body : Stmt) → Knows r k (statements (While test body)) → Agrees r j (k + 1) → Knows r j (statements body)
knows-While r k j test body known same = subst (λ (flat : List Stmt). Knows r j flat) (inside-While test body) (knows-inside r k j _ _ known same)

pub knows-Marked : (r : Recorder) (k j mark : ℕ) (body : Stmt) → Knows r k (statements (Marked mark body)) → Agrees r j (k + 1) → Knows r j (statements body)
knows-Marked r k j mark body known same = subst (λ (flat : List Stmt). Knows r j flat) (inside-Marked mark body) (knows-inside r k j _ _ known same)

pub knows-Block : (r : Recorder) (k j : ℕ) (all : List Stmt) → Knows r k (statements (Block all)) → Agrees r j (k + 1) → Knows r j (statements_all all)
knows-Block r k j all known same = subst (λ (flat : List Stmt). Knows r j flat) (inside-Block all) (knows-inside r k j _ _ known same)

-- an `if`: the test, and then what is run of the branch
told-If : (r0 r1 r2 : Recorder) (test : Expr) (chosen : Stmt) (other : Option Stmt) (k : ℕ) (f : Frame) (v : Option ℤ) (more : List Event) → value test f.state ≡ v →
    r1 ≡ tell r0 (event k w.Test (value test f.state) ∷ []) → r2 ≡ tell r1 more →
    events (branch v (runs chosen (k + 1) f) (otherwise_run (option_map (λ s. (s, runs s)) other) (k + 1 + stmt_count chosen) f)) ≡ more →
    r2 ≡ tell r0 (events (runs (If test chosen other) k f))
told-If r0 r1 r2 test chosen other k f v more found tested rest same =
    rest ∙ ap (λ (r : Recorder). tell r more) tested ∙ tell-more r0 _ more
    ∙ ap (λ (es : List Event). tell r0 (event k w.Test (value test f.state) ∷ es))
    (sym same ∙ ap (λ (o : Option ℤ). events (branch o (runs chosen (k + 1) f) (otherwise_run (option_map (λ s. (s, runs s)) other) (k + 1 + stmt_count chosen) f))) (sym found))
    ∙ ap (λ (run : Run). tell r0 (events run)) (sym (runs-If test chosen other k f))

pub told-fault : (r0 r1 : Recorder) (test : Expr) (chosen : Stmt) (other : Option Stmt) (k : ℕ) (f : Frame) → value test f.state ≡ None →
    r1 ≡ tell r0 (event k w.Test (value test f.state) ∷ []) → r1 ≡ tell r0 (events (runs (If test chosen other) k f))
told-fault r0 r1 test chosen other k f found tested = told-If r0 r1 r1 test chosen other k f None [] found tested (sym (tell-nothing r1)) refl

pub told-then : (r0 r1 r2 : Recorder) (test : Expr) (chosen : Stmt) (other : Option Stmt) (k j : ℕ) (f : Frame) (n : ℤ) → value test f.state ≡ Some n → is_zero n ≡ false →
    r1 ≡ tell r0 (event k w.Test (value test f.state) ∷ []) → Agrees r1 j (k + 1) → r2 ≡ tell r1 (events (runs chosen j f)) →
    r2 ≡ tell r0 (events (runs (If test chosen other) k f))
told-then r0 r1 r2 test chosen other k j f n found nonzero tested same rest =
    told-If r0 r1 r2 test chosen other k f (Some n) (events (runs chosen (k + 1) f)) found tested
    (rest ∙ tell-agrees r1 (λ i. events (runs chosen i f)) j (k + 1) same) (rw nonzero refl)

pub told-else : (r0 r1 r2 : Recorder) (test : Expr) (chosen : Stmt) (other : Option Stmt) (k i j : ℕ) (f : Frame) (n : ℤ) → value test f.state ≡ Some n → is_zero n ≡ true →
    r1 ≡ tell r0 (event k w.Test (value test f.state) ∷ []) → Agrees r1 i (k + 1) → Agrees r1 j (i + stmt_count chosen) →
    r2 ≡ tell r1 (events (otherwise_run (option_map (λ s. (s, runs s)) other) j f)) →
    r2 ≡ tell r0 (events (runs (If test chosen other) k f))
told-else r0 r1 r2 test chosen other k i j f n found zeroed tested first second rest =
    let run = otherwise_run (option_map (λ s. (s, runs s)) other) in
    told-If r0 r1 r2 test chosen other k f (Some n) (events (run (k + 1 + stmt_count chosen) f)) found tested
    (rest ∙ tell-agrees r1 (λ m. events (run m f)) j (i + stmt_count chosen) second
    ∙ tell-agrees r1 (λ m. events (run (m + stmt_count chosen) f)) i (k + 1) first) (rw zeroed refl)

-- one statement of a list, behind which the run goes on or ends
pub told-next : (r r1 : Recorder) (s : Stmt) (all : List Stmt) (k j : ℕ) (f g : Frame) → exec s f ≡ goes g → r1 ≡ tell r (events (runs s k f)) → Agrees r1 j (k + stmt_count s) →
    tell r1 (events (runs_all all j g)) ≡ tell r (events (runs_all (s ∷ all) k f))
told-next r r1 s all k j f g going told same =
    tell-agrees r1 (λ i. events (runs_all all i g)) j (k + stmt_count s) same
    ∙ ap (λ (q : Recorder). tell q (events (runs_all all (k + stmt_count s) g))) told ∙ tell-more r _ _
    ∙ ap (λ (step : Step). tell r (events (runs s k f) ++ events (follow step (runs_all all (k + stmt_count s))))) (sym going)

pub told-last : (r r1 : Recorder) (s : Stmt) (all : List Stmt) (k : ℕ) (f g : Frame) (how : Ending) → exec s f ≡ ends g how → r1 ≡ tell r (events (runs s k f)) →
    r1 ≡ tell r (events (runs_all (s ∷ all) k f))
told-last r r1 s all k f g how ending told =
    told ∙ ap (λ (es : List Event). tell r es) (sym (append-nil (events (runs s k f))))
    ∙ ap (λ (step : Step). tell r (events (runs s k f) ++ events (follow step (runs_all all (k + stmt_count s))))) (sym ending)

-- the last evaluation of a loop's test
pub loop-left : (k : ℕ) (test : Expr) (body : Frame → Step) (inner : Frame → Run) (more : ℕ) (f : Frame) → value test f.state ≡ None →
    events (loop_run k test body inner more f) ≡ event k w.Test (value test f.state) ∷ []
loop-left k test body inner zero f found = refl
loop-left k test body inner (suc more) f found = rw found refl

pub loop-done : (k : ℕ) (test : Expr) (body : Frame → Step) (inner : Frame → Run) (more : ℕ) (f : Frame) (n : ℤ) → value test f.state ≡ Some n → is_zero n ≡ true →
    events (loop_run k test body inner more f) ≡ event k w.Test (value test f.state) ∷ []
loop-done k test body inner zero f n found zeroed = refl
loop-done k test body inner (suc more) f n found zeroed = rw (found, zeroed) refl

pub loop-long : (k : ℕ) (test : Expr) (body : Frame → Step) (inner : Frame → Run) (more : ℕ) (f : Frame) (n : ℤ) → value test f.state ≡ Some n → is_zero n ≡ false → f.turns ≡ 0 →
    events (loop_run k test body inner more f) ≡ event k w.Test (value test f.state) ∷ []
loop-long k test body inner zero f n found nonzero none = refl
loop-long k test body inner (suc more) f n found nonzero none = rw (found, nonzero, none) refl

-- one turn of a loop, behind which it goes on or the run ends
loop-turned : (k : ℕ) (test : Expr) (body : Frame → Step) (inner : Frame → Run) (more : ℕ) (f : Frame) (n : ℤ) → value test f.state ≡ Some n → is_zero n ≡ false → (f.turns == 0) ≡ false →
    events (loop_run k test body inner (suc more) f)
    ≡ event k w.Test (value test f.state) ∷ (events (inner (spend f)) ++ events (follow (body (spend f)) (loop_run k test body inner more)))
loop-turned k test body inner more f n found nonzero some = rw (found, nonzero, some) refl

pub told-turn : (r r1 r2 : Recorder) (k j : ℕ) (test : Expr) (s : Stmt) (f g : Frame) (n : ℤ) (more : ℕ) (whole : Step) (said : Recorder) →
    value test f.state ≡ Some n → is_zero n ≡ false → (f.turns ≡ 0 → ⊥) → f.turns ≤ more →
    exec s (spend f) ≡ goes g → g.turns ≤ f.turns - 1 → loop test (λ h. exec s h) more f ≡ whole →
    r1 ≡ tell r (event k w.Test (value test f.state) ∷ []) → Agrees r1 j (k + 1) → r2 ≡ tell r1 (events (runs s j (spend f))) →
    tell r (events (loop_run k test (λ h. exec s h) (runs s (k + 1)) more f)) ≡ said →
    (less : ℕ) × (g.turns ≤ less) × (loop test (λ h. exec s h) less g ≡ whole) × (tell r2 (events (loop_run k test (λ h. exec s h) (runs s (k + 1)) less g)) ≡ said)
told-turn r r1 r2 k j test s f g n zero whole said found nonzero left enough going fewer same tested agrees told saying = absurd (left (omega arith))
told-turn r r1 r2 k j test s f g n (suc m) whole said found nonzero left enough going fewer same tested agrees told saying =
    let some : (f.turns == 0) ≡ false = grind (arith, nat_tests) in
    let step : loop test (λ h. exec s h) (suc m) f ≡ loop test (λ h. exec s h) m g = rw (found, nonzero, some, going) refl in
    let body = runs s (k + 1) (spend f) in
    let later = loop_run k test (λ h. exec s h) (runs s (k + 1)) m in
    let both : tell r2 (events (later g)) ≡ tell r1 (events body ++ events (later g)) =
    ap (λ (q : Recorder). tell q (events (later g))) (told ∙ tell-agrees r1 (λ i. events (runs s i (spend f))) j (k + 1) agrees) ∙ tell-more r1 (events body) (events (later g)) in (
      m,
      omega arith,
      sym step ∙ same,
      both ∙ ap (λ (q : Recorder). tell q (events body ++ events (later g))) tested ∙ tell-more r _ _
          ∙ ap (λ (t : Step). tell r (event k w.Test (value test f.state) ∷ (events body ++ events (follow t later)))) (sym going)
          ∙ ap (λ (es : List Event). tell r es) (sym (loop-turned k test (λ h. exec s h) (runs s (k + 1)) m f n found nonzero some)) ∙ saying,
    )

pub told-ending : (r r1 r2 : Recorder) (k j : ℕ) (test : Expr) (s : Stmt) (f g : Frame) (n : ℤ) (more : ℕ) (how : Ending) (said : Recorder) →
    value test f.state ≡ Some n → is_zero n ≡ false → (f.turns ≡ 0 → ⊥) → f.turns ≤ more →
    exec s (spend f) ≡ ends g how →
    r1 ≡ tell r (event k w.Test (value test f.state) ∷ []) → Agrees r1 j (k + 1) → r2 ≡ tell r1 (events (runs s j (spend f))) →
    tell r (events (loop_run k test (λ h. exec s h) (runs s (k + 1)) more f)) ≡ said → r2 ≡ said
told-ending r r1 r2 k j test s f g n zero how said found nonzero left enough ending tested agrees told saying = absurd (left (omega arith))
told-ending r r1 r2 k j test s f g n (suc m) how said found nonzero left enough ending tested agrees told saying =
    let some : (f.turns == 0) ≡ false = grind (arith, nat_tests) in
    let body = runs s (k + 1) (spend f) in
    let later = loop_run k test (λ h. exec s h) (runs s (k + 1)) m in
    told ∙ tell-agrees r1 (λ i. events (runs s i (spend f))) j (k + 1) agrees
    ∙ ap (λ (q : Recorder). tell q (events body)) tested ∙ tell-more r _ _
    ∙ ap (λ (es : List Event). tell r (event k w.Test (value test f.state) ∷ es)) (sym (append-nil (events body)))
    ∙ ap (λ (t : Step). tell r (event k w.Test (value test f.state) ∷ (events body ++ events (follow t later)))) (sym ending)
    ∙ ap (λ (es : List Event). tell r es) (sym (loop-turned k test (λ h. exec s h) (runs s (k + 1)) m f n found nonzero some)) ∙ saying

pub loop-ending : (test : Expr) (body : Frame → Step) (f g : Frame) (n : ℤ) (more : ℕ) (how : Ending) (whole : Step) → value test f.state ≡ Some n → is_zero n ≡ false → (f.turns ≡ 0 → ⊥) → f.turns ≤ more →
    body (spend f) ≡ ends g how → loop test body more f ≡ whole → whole ≡ ends g how
loop-ending test body f g n zero how whole found nonzero left enough ending same = absurd (left (omega arith))
loop-ending test body f g n (suc m) how whole found nonzero left enough ending same =
    let some : (f.turns == 0) ≡ false = grind (arith, nat_tests) in
    sym same ∙ rw (found, nonzero, some, ending) refl
