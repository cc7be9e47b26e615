-- The walk along the evaluations of a program's run has the choice of that run.
use Rattle.std.proofs.Common.{◌≡◌, ℕ, zero, suc, ◌+◌, ◌<◌, Bool, true, false, ◌||◌, ◌&&◌, List, ◌∷◌, ℤ, None, if◌then◌else◌, refl, ap, ◌∙◌, subst, arith, filter}
use Rattle.std.specs.List.{list_any}
use Rattle.prv_model.specs.declared.program.Program.{Program}
use Rattle.prv_dep.specs.Tables.{dependences}
use Rattle.prv_dep.specs.declared.writes.Row.{Row}
use Rattle.prv_run.specs.Runs.{events, run_of}
use Rattle.prv_run.specs.declared.event.Event.{Event}
use Rattle.prv_run.proofs.Fitting.{fits-program}
use Rattle.prv_select.specs.declared.mark_set.MarkSet.{MarkSet}
use Rattle.prv_select.specs.declared.places.Place.{Place}
use Rattle.prv_select.specs.declared.walk.Walk.{Walk}
use Rattle.prv_select.specs.Choices.{choose, nothing, numbers_from, rising_below}
use Rattle.prv_select.specs.MarkSets.{no_marks, has_mark}
use Rattle.prv_select.specs.Places.{outside, places_all}
use Rattle.prv_select.specs.BackwardWalks.{Back, back}
use Rattle.prv_select.proofs.Masks.{none-needed}
use Rattle.prv_select.proofs.MarkLaws.{has-none}
use Rattle.prv_select.proofs.Lying.{lies-program}
use Rattle.prv_select.proofs.RowFacts.{rows-run}
use Rattle.prv_select.proofs.Choosing.{Keeps, keeps-run}

-- behind a run
abbrev pub at_end : Walk
at_end = record { needed = 0; entered = 0; skipped = None; marks = no_marks }

keeps-program : (p : Program) (turns : ℕ) (x : List ℤ) (rows : List Row) → rows ≡ dependences p →
    Keeps (places_all p.body outside 0) rows outside at_end (choose (run_of p turns x) nothing) (back (places_all p.body outside 0) rows (events (run_of p turns x)) at_end)
keeps-program p turns x rows is =
    let places = places_all p.body outside 0 in
    let run = run_of p turns x in
    keeps-run places rows outside run (lies-program p turns x) (rows-run p rows is run (fits-program p turns x)) at_end nothing none-needed (omega arith) refl

back-same : (p : Program) (turns : ℕ) (x : List ℤ) (told : List Event) (places : List Place) (rows : List Row) (walk : Walk) → told ≡ events (run_of p turns x) → places ≡ places_all p.body outside 0 → walk ≡ at_end →
    back places rows told walk ≡ back (places_all p.body outside 0) rows (events (run_of p turns x)) at_end
back-same p turns x told places rows walk is stands begins = λ i. back (stands i) rows (is i) (begins i)

-- the evaluations that are kept
pub kept-program : (p : Program) (turns : ℕ) (x : List ℤ) (told : List Event) (places : List Place) (rows : List Row) (walk : Walk) → told ≡ events (run_of p turns x) → rows ≡ dependences p → places ≡ places_all p.body outside 0 → walk ≡ at_end →
    (back places rows told walk).kept ≡ (choose (run_of p turns x) nothing).kept
kept-program p turns x told places rows walk is deps stands begins = ap (λ (b : Back). b.kept) (back-same p turns x told places rows walk is stands begins) ∙ (keeps-program p turns x rows deps).kept

-- two sets that have the same numbers below a limit
filter-same : (f g : ℕ → Bool) (k n limit : ℕ) → k + n ≡ limit → ((m : ℕ) → m < limit → f m ≡ g m) → filter f (numbers_from k n) ≡ filter g (numbers_from k n)
filter-same f g k zero limit is same = refl
filter-same f g k (suc n) limit is same =
    let low : k < limit = omega arith in
    let next : suc k + n ≡ limit = omega arith in
    (λ i. if same k low i then k ∷ filter-same f g (suc k) n limit next same i else filter-same f g (suc k) n limit next same i)

alone : (own any : Bool) → (false || (own || (false && any))) ≡ own
alone true any = refl
alone false any = refl

marks-same : (after : MarkSet) (own : ℕ → Bool) (any : Bool) (n : ℕ) → ((m : ℕ) → m < n → has_mark after m ≡ (has_mark no_marks m || (own m || (has_mark no_marks m && any)))) → rising_below (λ m. has_mark after m) n ≡ rising_below own n
unfolding rising_below
marks-same after own any n same =
    filter-same (λ m. has_mark after m) own 0 n n (omega arith) (λ m low. same m low ∙ ap (λ (b : Bool). b || (own m || (b && any))) (has-none m) ∙ alone (own m) any)

-- the marks that contribute, in rising order
pub marks-program : (p : Program) (turns : ℕ) (x : List ℤ) (told : List Event) (places : List Place) (rows : List Row) (walk : Walk) (n : ℕ) → n ≡ 256 → told ≡ events (run_of p turns x) → rows ≡ dependences p → places ≡ places_all p.body outside 0 → walk ≡ at_end →
    rising_below (λ m. has_mark (back places rows told walk).walk.marks m) n ≡ rising_below (choose (run_of p turns x) nothing).marks n
marks-program p turns x told places rows walk n all is deps stands begins =
    let h = keeps-program p turns x rows deps in
    ap (λ (b : Back). rising_below (λ m. has_mark b.walk.marks m) n) (back-same p turns x told places rows walk is stands begins)
    ∙ marks-same _ (choose (run_of p turns x) nothing).marks (list_any (λ b. b) (choose (run_of p turns x) nothing).kept) n (λ m low. h.marks m (subst (λ (k : ℕ). m < k) all low))
