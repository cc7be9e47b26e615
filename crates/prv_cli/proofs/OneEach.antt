-- Where all files are told, each command does one thing and has one answer, but for faults and want of memory.
use Rattle.std.proofs.Common.{◌≡◌, ◌≢◌, ◌⊎◌, inl, inr, ℕ, List, ℤ, refl, sym, ap, ◌∙◌, subst, arith}
use Rattle.std.proofs.Props.{props}
use Rattle.prv_io.specs.Files.{Unknown}
use Rattle.prv_model.specs.Programs.{IsPair}
use Rattle.prv_model.specs.declared.program.Program.{Program}
use Rattle.prv_model.specs.declared.program.Pair.{Pair}
use Rattle.prv_model.specs.declared.entry.Entry.{Entry}
use Rattle.prv_line.specs.declared.limits.TheConstants.{TURNS}
use Rattle.prv_line.specs.Commands.{Command, Run, Point, Slice, Explore, Live, Resume, Check, Gen}
use Rattle.prv_line.specs.Readings.{Reads}
use Rattle.prv_line.specs.Usages.{IsUsage}
use Rattle.prv_line.proofs.Uniqueness.{one_reading, one_refusal, refused_or_read}
use Rattle.prv_names.specs.declared.version.Version.{Version}
use Rattle.prv_marks.specs.Pairs.{IsRefused}
use Rattle.prv_marks.specs.declared.error.PairError.{PairError}
use Rattle.prv_marks.proofs.PairLemmas.{pair_not_refused}
use Rattle.prv_marks.proofs.PairLemmas as marks
use Rattle.prv_text.specs.Reports.{point_report}
use Rattle.prv_cli.specs.Statuses.{entries_status}
use Rattle.prv_cli.specs.Steps.{Told, Shown, writes}
use Rattle.prv_cli.specs.Readings.{version, version_of, fits, IsMemory}
use Rattle.prv_cli.specs.Runs.{run}
use Rattle.prv_cli.specs.Pairings.{Makes, MakesNone, pair_of, pair_of_files, pair_of_texts}
use Rattle.prv_cli.specs.Points.{IsPoint, point}
use Rattle.prv_cli.specs.Slices.{ShowsSlice, PassesBound, ShowsNone, show_slice, slice}
use Rattle.prv_cli.specs.Commands.{not_built, does, ReadsNone, command}
use Rattle.prv_cli.specs.Answers.{IsFree, Searches}
use Rattle.prv_cli.specs.declared.refusal.Bound.{Bound}
use Rattle.prv_cli.specs.declared.refusal.Bound.TheVariants.{Nodes, Literals}
use Rattle.prv_cli.specs.declared.refusal.Refusal.{Refusal}
use Rattle.prv_cli.specs.declared.refusal.Refusal.TheVariants as refusal
use Rattle.prv_cli.specs.declared.refusal.Who.TheVariants.{Old, New, Only}
use Rattle.prv_cli.proofs.OneAnswer.{Single, AgreeRefusals, single-then, single-answers, single-value, single-writes, single-version, single-version_of, single-fits}

-- each file holds some bytes or is absent, as far as is told
abbrev pub AllTold : Told → Type 0
AllTold told = (name : List ℕ) → told name ≢ Unknown

single-run : (told : Told) (file : List ℕ) (input : List ℤ) → AllTold told → Single told (run file input)
single-run told file input all =
    single-then told (version Only file) _ (single-version told Only file (all file)) (λ v.
    single-then told (fits input v.program.params) _ (single-fits told input v.program.params) (λ _.
    single-value told _))

abbrev pair-from : (before after : Program) (turns : ℕ) → IsPair before.params after.params turns → Pair
pair-from before after turns kept = record { before = before; after = after; turns = turns; kept = kept }

-- two pairs with equal fields are one
same-pair : (a b c d : Program) (m n : ℕ) (k : IsPair a.params c.params m) (l : IsPair b.params d.params n) → a ≡ b → c ≡ d → m ≡ n → pair-from a c m k ≡ pair-from b d n l
same-pair a b c d m n k l e f g =
    let one : IsProp (IsPair a.params c.params m) = Prim.hlevel props in
    subst (λ (x : Program). (h : IsPair x.params d.params n) → pair-from a c m k ≡ pair-from x d n h) e
    (subst (λ (y : Program). (h : IsPair a.params y.params n) → pair-from a c m k ≡ pair-from a y n h) f
    (subst (λ (z : ℕ). (h : IsPair a.params c.params z) → pair-from a c m k ≡ pair-from a c z h) g
    (λ h. ap (λ j. pair-from a c m j) (one k h)))) l

one-pair : (turns : ℕ) (before after : Version) (a b : Pair) → Makes turns before after a → Makes turns before after b → a ≡ b
one-pair turns before after a b x y =
    same-pair a.before b.before a.after b.after a.turns b.turns a.kept b.kept (x.before_is ∙ sym y.before_is) (x.after_is ∙ sym y.after_is) (x.turns_are ∙ sym y.turns_are)

abbrev Unpaired : Version → Version → Refusal → Type 0
Unpaired before after e = (why : PairError) × (e ≡ refusal.Pair why) × IsRefused before after why

pair-refusal : (before after : Version) (e : Refusal) → MakesNone before after e → Unpaired before after e
pair-refusal before after (refusal.Pair why) h = (why, refl, h)
pair-refusal before after (refusal.File who why) h = absurd h
pair-refusal before after refusal.Memory h = absurd h
pair-refusal before after (refusal.Usage word) h = absurd h
pair-refusal before after refusal.Later h = absurd h
pair-refusal before after (refusal.Inputs given wanted) h = absurd h
pair-refusal before after (refusal.Slice bound) h = absurd h
pair-refusal before after refusal.Read h = absurd h
pair-refusal before after refusal.Write h = absurd h

single-pair : (told : Told) (turns : ℕ) (before after : Version) → Single told (pair_of turns before after)
single-pair told turns before after = single-answers told (Makes turns before after) (MakesNone before after) (one-pair turns before after) apart refused
  where
    apart : (p : Pair) (e : Refusal) → Makes turns before after p → MakesNone before after e → IsFree e
    apart p e makes h = let none = pair-refusal before after e h in absurd (pair_not_refused before after none.0 makes.made none.2)

    refused : (e f : Refusal) → MakesNone before after e → MakesNone before after f → AgreeRefusals e f
    refused e f x y =
        let one = pair-refusal before after e x in
        let other = pair-refusal before after f y in
        inl (one.1 ∙ ap (λ (w : PairError). refusal.Pair w) (marks.one_refusal before after one.0 other.0 one.2 other.2) ∙ sym other.1)

pub single-files : (told : Told) (turns : ℕ) (before after : List ℕ) → AllTold told → Single told (pair_of_files turns before after)
single-files told turns before after all =
    single-then told (version Old before) _ (single-version told Old before (all before)) (λ old.
    single-then told (version New after) _ (single-version told New after (all after)) (λ new.
    single-pair told turns old new))

pub single-texts : (told : Told) (turns : ℕ) (before after : List ℕ) → Single told (pair_of_texts turns before after)
single-texts told turns before after =
    single-then told (version_of Old before) _ (single-version_of told Old before) (λ old.
    single-then told (version_of New after) _ (single-version_of told New after) (λ new.
    single-pair told turns old new))

abbrev point-shown : Pair → List Entry → Shown
point-shown pair entries = record { text = point_report pair.before.names entries; status = entries_status entries }

one-point : (pair : Pair) (input : List ℤ) (a b : Shown) → IsPoint pair input a → IsPoint pair input b → a ≡ b
one-point pair input a b x y = x.shown_is ∙ ap (point-shown pair) (x.entries_are ∙ sym y.entries_are) ∙ sym y.shown_is

memory-free : (e : Refusal) → IsMemory e → IsFree e
memory-free e is = subst (λ x. IsFree x) (sym is) tt

single-point : (told : Told) (before after : List ℕ) (input : List ℤ) → AllTold told → Single told (point before after input)
single-point told before after input all =
    single-then told (pair_of_files TURNS.default before after) _ (single-files told TURNS.default before after all) (λ pair.
    single-then told (fits input pair.before.params) _ (single-fits told input pair.before.params) (λ _.
    single-answers told (IsPoint pair input) IsMemory (one-point pair input) (λ a e x y. memory-free e y) (λ e f x y. inr (inl (memory-free e x)))))

-- a bound that a slice passes, as a refusal
abbrev Unshown : Program → List ℤ → Refusal → Type 0
Unshown program input e = IsFree e ⊎ ((bound : Bound) × (e ≡ refusal.Slice bound) × PassesBound program input bound)

slice-refusal : (program : Program) (input : List ℤ) (e : Refusal) → ShowsNone program input e → Unshown program input e
slice-refusal program input (refusal.Slice bound) h = inr (bound, refl, h)
slice-refusal program input refusal.Memory h = inl tt
slice-refusal program input (refusal.Usage word) h = absurd h
slice-refusal program input refusal.Later h = absurd h
slice-refusal program input (refusal.File who why) h = absurd h
slice-refusal program input (refusal.Pair why) h = absurd h
slice-refusal program input (refusal.Inputs given wanted) h = absurd h
slice-refusal program input refusal.Read h = absurd h
slice-refusal program input refusal.Write h = absurd h

-- a slice that is shown passes no bound, and else it passes one
within-bounds : (program : Program) (input : List ℤ) (shown : Shown) (bound : Bound) → ShowsSlice program input shown → PassesBound program input bound → ⊥
within-bounds program input shown Nodes shows passed = omega (arith, shows.nodes)
within-bounds program input shown Literals shows passed = omega (arith, shows.literals, passed.1)

one-bound : (program : Program) (input : List ℤ) (a b : Bound) → PassesBound program input a → PassesBound program input b → a ≡ b
one-bound program input Nodes Nodes x y = refl
one-bound program input Nodes Literals x y = absurd (omega (arith, y.0))
one-bound program input Literals Nodes x y = absurd (omega (arith, x.0))
one-bound program input Literals Literals x y = refl

single-show_slice : (told : Told) (program : Program) (input : List ℤ) → Single told (show_slice program input)
single-show_slice told program input = single-answers told (ShowsSlice program input) (ShowsNone program input) (λ a b x y. x.shown_is ∙ sym y.shown_is) apart refused
  where
    apart : (a : Shown) (e : Refusal) → ShowsSlice program input a → ShowsNone program input e → IsFree e
    apart a e shows h = by (slice-refusal program input e h)
      where
        by : Unshown program input e → IsFree e
        by (inl free) = free
        by (inr (bound, _, passed)) = absurd (within-bounds program input a bound shows passed)

    refused : (e f : Refusal) → ShowsNone program input e → ShowsNone program input f → AgreeRefusals e f
    refused e f x y = by (slice-refusal program input e x) (slice-refusal program input f y)
      where
        by : Unshown program input e → Unshown program input f → AgreeRefusals e f
        by (inl free) other = inr (inl free)
        by (inr same) (inl free) = inr (inr free)
        by (inr (a, same, is)) (inr (b, equal, too)) = inl (same ∙ ap (λ (bound : Bound). refusal.Slice bound) (one-bound program input a b is too) ∙ sym equal)

single-slice : (told : Told) (file : List ℕ) (input : List ℤ) → AllTold told → Single told (slice file input)
single-slice told file input all =
    single-then told (version Only file) _ (single-version told Only file (all file)) (λ v.
    single-then told (fits input v.program.params) _ (single-fits told input v.program.params) (λ _.
    single-show_slice told v.program input))

pub single-later : (told : Told) → Single told not_built
single-later told = single-answers told (λ _. ⊥) (λ why. why ≡ refusal.Later) (λ a b x y. absurd x) (λ a e x y. absurd x) (λ e f x y. inl (x ∙ sym y))

-- a command that doesn't search does one thing
pub single-does : (told : Told) (c : Command) → AllTold told → (Searches c → ⊥) → Single told (does c)
single-does told (Run file input) all never = single-then told (run file input) writes (single-run told file input all) (single-writes told)
single-does told (Point before after input) all never = single-then told (point before after input) writes (single-point told before after input all) (single-writes told)
single-does told (Slice file input) all never = single-then told (slice file input) writes (single-slice told file input all) (single-writes told)
single-does told (Explore before after settings) all never = absurd (never tt)
single-does told (Live before after settings) all never = single-later told
single-does told (Resume journal lines settlements workers) all never = single-later told
single-does told (Check journal) all never = single-later told
single-does told (Gen number size) all never = absurd (never tt)

abbrev Unread : List (List ℕ) → Refusal → Type 0
Unread words e = IsFree e ⊎ ((word : ℕ) × (e ≡ refusal.Usage word) × IsUsage words word)

word-refusal : (words : List (List ℕ)) (e : Refusal) → ReadsNone words e → Unread words e
word-refusal words (refusal.Usage word) h = inr (word, refl, h)
word-refusal words refusal.Memory h = inl tt
word-refusal words (refusal.File who why) h = absurd h
word-refusal words (refusal.Pair why) h = absurd h
word-refusal words refusal.Later h = absurd h
word-refusal words (refusal.Inputs given wanted) h = absurd h
word-refusal words (refusal.Slice bound) h = absurd h
word-refusal words refusal.Read h = absurd h
word-refusal words refusal.Write h = absurd h

pub single-command : (told : Told) (words : List (List ℕ)) → Single told (command words)
single-command told words = single-answers told (λ c. Reads c words) (ReadsNone words) (one_reading words) apart refused
  where
    apart : (c : Command) (e : Refusal) → Reads c words → ReadsNone words e → IsFree e
    apart c e reads h = by (word-refusal words e h)
      where
        by : Unread words e → IsFree e
        by (inl free) = free
        by (inr (word, _, is)) = absurd (refused_or_read Reads words word c is reads)

    refused : (e f : Refusal) → ReadsNone words e → ReadsNone words f → AgreeRefusals e f
    refused e f x y = by (word-refusal words e x) (word-refusal words f y)
      where
        by : Unread words e → Unread words f → AgreeRefusals e f
        by (inl free) other = inr (inl free)
        by (inr same) (inl free) = inr (inr free)
        by (inr (j, same, is)) (inr (k, equal, too)) = inl (same ∙ ap (λ (n : ℕ). refusal.Usage n) (one_refusal Reads words j k is too) ∙ sym equal)
