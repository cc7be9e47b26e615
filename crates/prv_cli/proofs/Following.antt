-- Calls that follow steps, one after the other.
use Rattle.std.proofs.Common.{◌≡◌, ℕ, Bool, true, false, List, [], ◌∷◌, ◌++◌, take, Option, Some, None, Result, Ok, Err, inl, inr, refl, sym, ap, ◌∙◌, subst, append-nil}
use Rattle.std.specs.Io.KnownBytes.{append_known}
use Rattle.prv_io.specs.Files.{ReadsInTurn}
use Rattle.prv_io.specs.Sink.{TakesPart}
use Rattle.prv_cli.specs.Steps.{Told, Trace, nothing, reading, writing, Step, Passes, ◌>>=◌, Shown, writes}
use Rattle.prv_cli.specs.Readings.{IsRead, read_file}
use Rattle.prv_cli.specs.Answers.{Follows, Performs}
use Rattle.prv_cli.specs.Commands.{where_plain}
use Rattle.prv_cli.specs.declared.status.Status.{Status}
use Rattle.prv_cli.specs.declared.refusal.Who.{Who}
use Rattle.prv_cli.specs.declared.refusal.Refusal.{Refusal}
use Rattle.prv_cli.specs.declared.refusal.Refusal.TheVariants.{Write, Later}

-- reads in turn, and then more of them
reads-more : {S : Type 0} (reads : S → List ℕ → S → Type 0) (a b c : S) (names more : List (List ℕ)) → ReadsInTurn reads a names b → ReadsInTurn reads b more c → ReadsInTurn reads a (names ++ more) c
reads-more reads a b c [] more is behind = subst (λ s. ReadsInTurn reads s more c) is behind
reads-more reads a b c (name ∷ names) more (mid, first, rest) behind = (mid, first, reads-more reads mid b c names more rest behind)

-- what passes the first step is an answer of both
pub passes : {A B : Type 0} (first : Step A) (next : A → Step B) (told : Told) (trace : Trace) (answer : Result B Refusal) → Passes first next told trace answer → ◌>>=◌ first next told trace answer
passes first next told trace (Ok value) p = p
passes first next told trace (Err why) p = inr p

-- a step that does nothing passes, and those behind it do nothing
pub nothing-both : {A B : Type 0} (told : Told) (first : Step A) (next : A → Step B) (value : A) (answer : Result B Refusal) → first told nothing (Ok value) → next value told nothing answer → ◌>>=◌ first next told nothing answer
nothing-both told first next value answer passed did =
    passes first next told nothing answer (record { value = value; before = nothing; behind = nothing; trace_is = refl; passed = passed; answered = did })

-- a step that does nothing
pub follows-nothing : {S A : Type 0} (reads : S → List ℕ → S → Type 0) (told : Told) (a : S) (step : Step A) (answer : Result A Refusal) → step told nothing answer → Follows reads told a a step answer
follows-nothing reads told a step answer did = record { names = []; did = did; read = refl }

-- the first step is refused
pub follows-refused : {S A B : Type 0} (reads : S → List ℕ → S → Type 0) (told : Told) (a b : S) (first : Step A) (next : A → Step B) (why : Refusal)
    → Follows reads told a b first (Err why) → Follows reads told a b (first >>= next) (Err why)
follows-refused reads told a b first next why h = record { names = h.names; did = inl h.did; read = h.read }

-- the first step passes
pub follows-both : {S A B : Type 0} (reads : S → List ℕ → S → Type 0) (told : Told) (a b c : S) (first : Step A) (next : A → Step B) (value : A) (answer : Result B Refusal)
    → Follows reads told a b first (Ok value) → Follows reads told b c (next value) answer → Follows reads told a c (first >>= next) answer
follows-both reads told a b c first next value answer h k = record {
  names = h.names ++ k.names;
  did = passes first next told (reading (h.names ++ k.names)) answer (record { value = value; before = reading h.names; behind = reading k.names; trace_is = refl; passed = h.did; answered = k.did });
  read = reads-more reads a b c h.names k.names h.read k.read;
}

-- nothing more is taken
takes-nothing : (known : Option (List ℕ)) → known ≡ append_known known []
takes-nothing None = refl
takes-nothing (Some bytes) = ap (λ (b : List ℕ). Some b) (sym (append-nil bytes))

-- what is refused is not written
pub performs-refused : {S A B : Type 0} (reads : S → List ℕ → S → Type 0) (told : Told) (a b : S) (out : Option (List ℕ)) (first : Step A) (next : A → Step B) (why : Refusal)
    → Follows reads told a b first (Err why) → Performs reads told a b out out (first >>= next) (Err why)
performs-refused reads told a b out first next why h = record { trace = reading h.names; did = inl h.did; read = h.read; wrote = takes-nothing out }

-- what was done to show something: the output took it, or a part of it
abbrev pub Wrote : Told → Shown → Result Status Refusal → Option (List ℕ) → Option (List ℕ) → Type 0
Wrote told shown answer out new = (trace : Trace) × writes shown told trace answer × (trace.reads ≡ []) × (new ≡ append_known out trace.writes)

-- what is shown is written
pub performs-writes : {S : Type 0} (reads : S → List ℕ → S → Type 0) (told : Told) (a b : S) (out new : Option (List ℕ)) (first : Step Shown) (shown : Shown) (answer : Result Status Refusal)
    → Follows reads told a b first (Ok shown) → Wrote told shown answer out new
    → Performs reads told a b out new (first >>= writes) answer
performs-writes reads told a b out new first shown answer h (trace, did, none, wrote) =
    let whole : Trace = record { reads = h.names ++ trace.reads; writes = trace.writes } in
    record {
      trace = whole;
      did = passes first writes told whole answer (record { value = shown; before = reading h.names; behind = trace; trace_is = refl; passed = h.did; answered = did });
      read = subst (λ names. ReadsInTurn reads a names b) (sym (ap (λ (more : List (List ℕ)). h.names ++ more) none ∙ append-nil h.names)) h.read;
      wrote = wrote;
    }

-- a step that does nothing and is refused
pub performs-nothing : {S A : Type 0} (reads : S → List ℕ → S → Type 0) (told : Told) (a : S) (out : Option (List ℕ)) (step : Step A) (answer : Result A Refusal) → step told nothing answer → Performs reads told a a out out step answer
performs-nothing reads told a out step answer did = record { trace = nothing; did = did; read = refl; wrote = takes-nothing out }

-- a step that does nothing passes
pub performs-behind : {S A B : Type 0} (reads : S → List ℕ → S → Type 0) (told : Told) (a b : S) (out new : Option (List ℕ)) (first : Step A) (next : A → Step B) (value : A) (answer : Result B Refusal)
    → first told nothing (Ok value) → Performs reads told a b out new (next value) answer → Performs reads told a b out new (first >>= next) answer
performs-behind reads told a b out new first next value answer passed h = record {
  trace = h.trace;
  did = passes first next told h.trace answer (record { value = value; before = nothing; behind = h.trace; trace_is = refl; passed = passed; answered = h.did });
  read = h.read;
  wrote = h.wrote;
}

-- one read of a file
pub follows-read : {S : Type 0} (reads : S → List ℕ → S → Type 0) (told : Told) (a b : S) (who : Who) (name : List ℕ) (answer : Result (List ℕ) Refusal)
    → reads a name b → IsRead who (told name) answer → Follows reads told a b (read_file who name) answer
follows-read reads told a b who name answer once is = record { names = name ∷ []; did = (refl, is); read = (b, once, refl) }

pub wrote-all : (told : Told) (shown : Shown) (status : Status) (out new : Option (List ℕ)) → status ≡ shown.status → new ≡ append_known out shown.text → Wrote told shown (Ok status) out new
wrote-all told shown status out new same took = (
  writing shown.text,
  record { value = tt; before = writing shown.text; behind = nothing; trace_is = ap (λ (w : List ℕ). writing w) (sym (append-nil shown.text)); passed = refl; answered = (refl, same) },
  refl,
  took,
)

pub wrote-part : (told : Told) (shown : Shown) (out new : Option (List ℕ)) → TakesPart out new shown.text → Wrote told shown (Err Write) out new
wrote-part told shown out new (count, fewer, took) = (writing (take count shown.text), inl (count, fewer, refl), refl, took)

-- a step that is built for plain settings alone
pub performs-plain : {S : Type 0} (reads : S → List ℕ → S → Type 0) (told : Told) (a b : S) (out new : Option (List ℕ)) (plain : Bool) (step : Step Status) (answer : Result Status Refusal) → plain ≡ true
    → Performs reads told a b out new step answer → Performs reads told a b out new (where_plain plain step) answer
performs-plain reads told a b out new plain step answer is h = subst (λ p. Performs reads told a b out new (where_plain p step) answer) (sym is) h

pub performs-later : {S : Type 0} (reads : S → List ℕ → S → Type 0) (told : Told) (a : S) (out : Option (List ℕ)) (plain : Bool) (step : Step Status) → plain ≡ false → Performs reads told a a out out (where_plain plain step) (Err Later)
performs-later reads told a out plain step is =
    subst (λ p. Performs reads told a a out out (where_plain p step) (Err Later)) (sym is) (performs-nothing reads told a out (where_plain false step) (Err Later) (refl, refl))
