-- Where all files are told, words have one answer, but for faults, want of memory, and what a search finds.
use Rattle.std.proofs.Common.{◌≡◌, ◌⊎◌, inl, inr, ℕ, Bool, true, false, List, Result, Ok, Err, refl, sym, ap, ◌∙◌, subst, append-nil}
use Rattle.prv_model.specs.declared.program.Pair.{Pair}
use Rattle.prv_board.specs.Replays.{Replay}
use Rattle.prv_explore.specs.declared.plan.Plan.{Plan}
use Rattle.prv_gen.specs.Generated.{before_text, after_text}
use Rattle.prv_line.specs.declared.limits.TheConstants.{TURNS}
use Rattle.prv_line.specs.Commands.{defaults, Command, Run, Point, Slice, Explore, Live, Resume, Check, Gen}
use Rattle.prv_line.specs.Readings.{Reads}
use Rattle.prv_line.proofs.Uniqueness.{one_reading}
use Rattle.prv_text.specs.Boards.{board_report, generated_report}
use Rattle.prv_text.specs.declared.last.Last.{Last}
use Rattle.prv_cli.specs.Steps.{Told, Trace, nothing, writing, ◌∙∙◌, Step, ◌>>=◌, write, Shown, writes}
use Rattle.prv_cli.specs.Readings.{IsMemory}
use Rattle.prv_cli.specs.Pairings.{pair_of_files, pair_of_texts}
use Rattle.prv_cli.specs.Explores.{plan_of, is_plain, ShowsExploration, show_exploration, explore}
use Rattle.prv_cli.specs.Commands.{where_plain, does, command, says}
use Rattle.prv_cli.specs.Answers.{IsFree, IsFreeAnswer, Agree, Searches, MayShow, AreExplorations, AreAlike}
use Rattle.prv_cli.specs.declared.status.Status.{Status}
use Rattle.prv_cli.specs.declared.refusal.Refusal.{Refusal}
use Rattle.prv_cli.specs.declared.refusal.Refusal.TheVariants as refusal
use Rattle.prv_cli.proofs.OneAnswer.{Single, single-writes}
use Rattle.prv_cli.proofs.OneEach.{AllTold, single-files, single-texts, single-later, single-does, single-command}
use Rattle.prv_cli.proofs.Alike.{Related, unrelated, Stays, AreOk, related-single, single-related, related-then, after-single, unrelated-stays, in-turn}

-- words of a command that doesn't search have one answer
pub one-says : (told : Told) (words : List (List ℕ)) → AllTold told → ((c : Command) → Reads c words → Searches c → ⊥) → Single told (says words)
one-says told words all never =
    single-related told (says words) (after-single unrelated told (command words) does (single-command told words) unrelated-stays
    (λ c s passed. related-single unrelated told (does c) (single-does told c all (never c passed.1))))

-- two explorations of one pair are to be shown, and the same was done before
record BothShown (c : Command) (t : Trace) (a : Result Shown Refusal) (u : Trace) (b : Result Shown Refusal) : Type 0 where
  pair : Pair
  one : Shown
  two : Shown
  explored : MayShow c pair one
  also_explored : MayShow c pair two
  same : t ≡ u
  a_is : a ≡ Ok one
  b_is : b ≡ Ok two

both-stay : (c : Command) → Stays (BothShown c)
both-stay c before t u a b both = record {
  pair = both.pair;
  one = both.one;
  two = both.two;
  explored = both.explored;
  also_explored = both.also_explored;
  same = ap (λ (x : Trace). before ∙∙ x) both.same;
  a_is = both.a_is;
  b_is = both.b_is;
}

both-ok : (c : Command) (t u : Trace) (a b : Result Shown Refusal) → BothShown c t a u b → AreOk a b
both-ok c t u a b both = (both.one, both.two, both.a_is, both.b_is)

explorations-stay : (c : Command) → Stays (AreExplorations c)
explorations-stay c before t u a b are = record {
  pair = are.pair;
  first = are.first;
  second = are.second;
  explored = are.explored;
  also_explored = are.also_explored;
  front = before ∙∙ are.front;
  trace_is = ap (λ (x : Trace). before ∙∙ x) are.trace_is ∙ in-turn before are.front (writing are.first.text);
  other_is = ap (λ (x : Trace). before ∙∙ x) are.other_is ∙ in-turn before are.front (writing are.second.text);
  answer_is = are.answer_is;
  another_is = are.another_is;
}

memory-free : (e : Refusal) → IsMemory e → IsFree e
memory-free e is = subst (λ x. IsFree x) (sym is) tt

-- two explorations of one pair, as the solver finds them
shown-related : (c : Command) (told : Told) (text_of : Replay → Last → List ℕ) (plan : Plan) (pair : Pair) → ((shown : Shown) → ShowsExploration text_of plan pair shown → MayShow c pair shown)
    → Related (BothShown c) told (show_exploration text_of plan pair)
shown-related c told text_of plan pair may t u (Ok a) (Ok b) x y = inr (record {
  pair = pair;
  one = a;
  two = b;
  explored = may a x.1;
  also_explored = may b y.1;
  same = x.0 ∙ sym y.0;
  a_is = refl;
  b_is = refl;
})
shown-related c told text_of plan pair may t u (Ok a) (Err f) x y = inl (inr (inr (memory-free f y.1)))
shown-related c told text_of plan pair may t u (Err e) b x y = inl (inr (inl (memory-free e x.1)))

-- what is shown is written, unless that fails
abbrev IsWritten : Shown → Trace → Result Status Refusal → Type 0
IsWritten shown t a = IsFreeAnswer a ⊎ ((t ≡ writing shown.text) × (a ≡ Ok shown.status))

write-free : (told : Told) (bytes : List ℕ) (t : Trace) (e : Refusal) → write bytes told t (Err e) → IsFree e
write-free told bytes t refusal.Write h = tt
write-free told bytes t (refusal.Usage word) h = absurd h
write-free told bytes t refusal.Later h = absurd h
write-free told bytes t (refusal.File who why) h = absurd h
write-free told bytes t (refusal.Pair why) h = absurd h
write-free told bytes t (refusal.Inputs given wanted) h = absurd h
write-free told bytes t (refusal.Slice bound) h = absurd h
write-free told bytes t refusal.Read h = absurd h
write-free told bytes t refusal.Memory h = absurd h

-- nothing more is done behind
done-last : (bytes : List ℕ) → writing bytes ∙∙ nothing ≡ writing bytes
done-last bytes = ap (λ (w : List ℕ). writing w) (append-nil bytes)

written : (told : Told) (shown : Shown) (t : Trace) (a : Result Status Refusal) → writes shown told t a → IsWritten shown t a
written told shown t (Ok status) p =
    let whole : t ≡ writing shown.text ∙∙ nothing = p.trace_is ∙ ap (λ (x : Trace). x ∙∙ p.behind) p.passed ∙ ap (λ (x : Trace). writing shown.text ∙∙ x) p.answered.0 in
    inr (whole ∙ done-last shown.text, ap (λ (s : Status). Ok s) p.answered.1)
written told shown t (Err e) (inl stop) = inl (write-free told shown.text t e stop)
written told shown t (Err e) (inr p) = absurd p.answered.1

-- both are written
join-written : (c : Command) (told : Told) (t u p q : Trace) (v w : Shown) (a b : Result Status Refusal) → BothShown c t (Ok v) u (Ok w) → writes v told p a → writes w told q b
    → Agree (t ∙∙ p) a (u ∙∙ q) b ⊎ AreExplorations c (t ∙∙ p) a (u ∙∙ q) b
join-written c told t u p q v w a b both x y = by (written told v p a x) (written told w q b y)
  where
    by : IsWritten v p a → IsWritten w q b → Agree (t ∙∙ p) a (u ∙∙ q) b ⊎ AreExplorations c (t ∙∙ p) a (u ∙∙ q) b
    by (inl free) other = inl (inr (inl free))
    by (inr same) (inl free) = inl (inr (inr free))
    by (inr (took, status)) (inr (also, equal)) =
        let one : v ≡ both.one = let is = both.a_is in cc in
        let two : w ≡ both.two = let is = both.b_is in cc in
        inr (record {
          pair = both.pair;
          first = v;
          second = w;
          explored = subst (λ s. MayShow c both.pair s) (sym one) both.explored;
          also_explored = subst (λ s. MayShow c both.pair s) (sym two) both.also_explored;
          front = t;
          trace_is = ap (λ (z : Trace). t ∙∙ z) took;
          other_is = ap (λ (z : Trace). z ∙∙ q) (sym both.same) ∙ ap (λ (z : Trace). t ∙∙ z) also;
          answer_is = status;
          another_is = equal;
        })

-- a command that explores a pair that it finds in one way
explored-related : (c : Command) (told : Told) (pairs : Step Pair) (text_of : Replay → Last → List ℕ) (plan : Plan) → Single told pairs
    → ((pair : Pair) (shown : Shown) → ShowsExploration text_of plan pair shown → MayShow c pair shown)
    → Related (AreExplorations c) told ((pairs >>= show_exploration text_of plan) >>= writes)
explored-related c told pairs text_of plan single may =
    related-then (BothShown c) (AreExplorations c) told (pairs >>= show_exploration text_of plan) writes
    (after-single (BothShown c) told pairs (show_exploration text_of plan) single (both-stay c) (λ pair s passed. shown-related c told text_of plan pair (may pair)))
    (both-ok c) (explorations-stay c) (λ shown s passed. related-single (AreExplorations c) told (writes shown) (single-writes told shown))
    (join-written c told)

where-plain : (c : Command) (told : Told) (plain : Bool) (step : Step Status) → Related (AreExplorations c) told step → Related (AreExplorations c) told (where_plain plain step)
where-plain c told true step related = related
where-plain c told false step related = related-single (AreExplorations c) told (where_plain false step) (single-later told)

does-related : (told : Told) (c : Command) → AllTold told → Related (AreExplorations c) told (does c)
does-related told (Run file input) all = related-single (AreExplorations (Run file input)) told (does (Run file input)) (single-does told (Run file input) all (λ never. never))
does-related told (Point before after input) all =
    related-single (AreExplorations (Point before after input)) told (does (Point before after input)) (single-does told (Point before after input) all (λ never. never))
does-related told (Slice file input) all = related-single (AreExplorations (Slice file input)) told (does (Slice file input)) (single-does told (Slice file input) all (λ never. never))
does-related told (Explore before after settings) all =
    where-plain (Explore before after settings) told (is_plain settings) (explore before after settings >>= writes)
    (explored-related (Explore before after settings) told (pair_of_files settings.turns before after) board_report (plan_of settings) (single-files told settings.turns before after all) (λ pair shown shows. shows))
does-related told (Live before after settings) all =
    related-single (AreExplorations (Live before after settings)) told (does (Live before after settings)) (single-does told (Live before after settings) all (λ never. never))
does-related told (Resume journal lines settlements workers) all =
    related-single (AreExplorations (Resume journal lines settlements workers)) told (does (Resume journal lines settlements workers)) (single-does told (Resume journal lines settlements workers) all (λ never. never))
does-related told (Check journal) all = related-single (AreExplorations (Check journal)) told (does (Check journal)) (single-does told (Check journal) all (λ never. never))
does-related told (Gen number size) all =
    explored-related (Gen number size) told (pair_of_texts TURNS.default (before_text number size) (after_text number size)) (generated_report number size) (plan_of defaults)
    (single-texts told TURNS.default (before_text number size) (after_text number size)) (λ pair shown shows. shows)

-- two answers of a command's words are alike
pub alike-says : (told : Told) (words : List (List ℕ)) (c : Command) → AllTold told → Reads c words → (t u : Trace) (a b : Result Status Refusal) → says words told t a → says words told u b → AreAlike c t a u b
alike-says told words c all reads =
    after-single (AreExplorations c) told (command words) does (single-command told words) (explorations-stay c)
    (λ d s passed. subst (λ e. Related (AreExplorations c) told (does e)) (one_reading words c d reads passed.1) (does-related told c all))
