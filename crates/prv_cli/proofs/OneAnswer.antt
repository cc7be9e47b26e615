-- Where all files are told, each step does one thing and has one answer, but for faults and want of memory.
use Rattle.std.proofs.Common.{◌≡◌, ◌≢◌, ◌⊎◌, inl, inr, ℕ, ◌≤◌, List, length, ℤ, Result, Ok, Err, refl, sym, ap, ◌∙◌, subst, arith}
use Rattle.prv_io.specs.Files.{Known, Absent, Holds, Unknown, MayHold, MayBeLonger}
use Rattle.prv_model.specs.declared.limits.TheConstants.{MAX_FILE}
use Rattle.prv_lex.specs.declared.error.LexError.TheVariants as lex
use Rattle.prv_lex.specs.declared.error.LexWhy.TheVariants.{Long}
use Rattle.prv_names.specs.declared.version.Version.{Version}
use Rattle.prv_version.specs.Versions.{GivesVersion, IsFileRefused}
use Rattle.prv_version.specs.declared.error.VersionError.{VersionError}
use Rattle.prv_version.specs.declared.error.VersionError.TheVariants as file
use Rattle.prv_version.proofs.OneAnswer.{given-not_refused, refused-one}
use Rattle.prv_version.proofs.OneVersion.{one-version}
use Rattle.prv_cli.specs.Steps.{Told, Trace, ◌∙∙◌, Step, Passes, ◌>>=◌, answers, write, Shown, writes}
use Rattle.prv_cli.specs.Readings.{IsRead, read_file, GivesNone, version_of, version, FitsNot, fits, IsMemory}
use Rattle.prv_cli.specs.Answers.{IsFree, Agree}
use Rattle.prv_cli.specs.declared.refusal.Who.{Who}
use Rattle.prv_cli.specs.declared.refusal.Refusal.{Refusal}
use Rattle.prv_cli.specs.declared.refusal.Refusal.TheVariants as refusal

-- a step has one answer
abbrev pub Single : {A : Type 0} → Told → Step A → Type 0
Single {A} told step = (t u : Trace) (a b : Result A Refusal) → step told t a → step told u b → Agree t a u b

-- a step, and then those that take its value
module _ {A B : Type 0} (told : Told) (first : Step A) (next : A → Step B) (single : Single told first) (singles : (value : A) → Single told (next value)) where
  both-pass : (t u : Trace) (a b : Result B Refusal) → Passes first next told t a → Passes first next told u b → Agree t a u b
  both-pass t u a b p q = by (single p.before q.before (Ok p.value) (Ok q.value) p.passed q.passed)
    where
      behind : p.before ≡ q.before → Agree p.behind a q.behind b → Agree t a u b
      behind same (inl (rest, equal)) = inl (p.trace_is ∙ ap (λ (x : Trace). x ∙∙ p.behind) same ∙ ap (λ (y : Trace). q.before ∙∙ y) rest ∙ sym q.trace_is, equal)
      behind same (inr free) = inr free

      by : Agree p.before (Ok p.value) q.before (Ok q.value) → Agree t a u b
      by (inl (same, equal)) =
          let one : p.value ≡ q.value = cc in
          behind same (singles q.value p.behind q.behind a b (subst (λ w. next w told p.behind a) one p.answered) q.answered)
      by (inr (inl never)) = absurd never
      by (inr (inr never)) = absurd never

  pass-stop : (t u : Trace) (a : Result B Refusal) (e : Refusal) → Passes first next told t a → first told u (Err e) → Agree t a u (Err e)
  pass-stop t u a e p stop = by (single p.before u (Ok p.value) (Err e) p.passed stop)
    where
      by : Agree p.before (Ok p.value) u (Err e) → Agree t a u (Err e)
      by (inl (same, equal)) = absurd (cc equal)
      by (inr (inl never)) = absurd never
      by (inr (inr free)) = inr (inr free)

  stop-pass : (t u : Trace) (e : Refusal) (b : Result B Refusal) → first told t (Err e) → Passes first next told u b → Agree t (Err e) u b
  stop-pass t u e b stop q = by (single t q.before (Err e) (Ok q.value) stop q.passed)
    where
      by : Agree t (Err e) q.before (Ok q.value) → Agree t (Err e) u b
      by (inl (same, equal)) = absurd (cc equal)
      by (inr (inl free)) = inr (inl free)
      by (inr (inr never)) = absurd never

  both-stop : (t u : Trace) (e f : Refusal) → first told t (Err e) → first told u (Err f) → Agree {A = B} t (Err e) u (Err f)
  both-stop t u e f x y = by (single t u (Err e) (Err f) x y)
    where
      by : Agree {A = A} t (Err e) u (Err f) → Agree {A = B} t (Err e) u (Err f)
      by (inl (same, equal)) = let one : e ≡ f = cc in inl (same, ap (λ (z : Refusal). Err z) one)
      by (inr free) = inr free

  pub single-then : Single told (first >>= next)
  single-then t u (Ok x) (Ok y) p q = both-pass t u (Ok x) (Ok y) p q
  single-then t u (Ok x) (Err f) p (inl stop) = pass-stop t u (Ok x) f p stop
  single-then t u (Ok x) (Err f) p (inr q) = both-pass t u (Ok x) (Err f) p q
  single-then t u (Err e) (Ok y) (inl stop) q = stop-pass t u e (Ok y) stop q
  single-then t u (Err e) (Ok y) (inr p) q = both-pass t u (Err e) (Ok y) p q
  single-then t u (Err e) (Err f) (inl x) (inl y) = both-stop t u e f x y
  single-then t u (Err e) (Err f) (inl x) (inr q) = stop-pass t u e (Err f) x q
  single-then t u (Err e) (Err f) (inr p) (inl y) = pass-stop t u (Err e) f p y
  single-then t u (Err e) (Err f) (inr p) (inr q) = both-pass t u (Err e) (Err f) p q

-- two refusals are one, unless one is a fault or want of memory
abbrev pub AgreeRefusals : Refusal → Refusal → Type 0
AgreeRefusals e f = (e ≡ f) ⊎ (IsFree e ⊎ IsFree f)

-- a step that only answers
pub single-answers : {A : Type 0} (told : Told) (Gives : A → Type 0) (Refuses : Refusal → Type 0)
    → ((a b : A) → Gives a → Gives b → a ≡ b)
    → ((a : A) (e : Refusal) → Gives a → Refuses e → IsFree e)
    → ((e f : Refusal) → Refuses e → Refuses f → AgreeRefusals e f)
    → Single told (answers Gives Refuses)
single-answers {A} told Gives Refuses one apart refused t u (Ok a) (Ok b) (s, x) (s', y) = inl (s ∙ sym s', ap (λ (v : A). Ok v) (one a b x y))
single-answers told Gives Refuses one apart refused t u (Ok a) (Err f) (s, x) (s', y) = inr (inr (apart a f x y))
single-answers told Gives Refuses one apart refused t u (Err e) (Ok b) (s, x) (s', y) = inr (inl (apart b e y x))
single-answers {A} told Gives Refuses one apart refused t u (Err e) (Err f) (s, x) (s', y) = by (refused e f x y)
  where
    by : AgreeRefusals e f → Agree {A = A} t (Err e) u (Err f)
    by (inl same) = inl (s ∙ sym s', ap (λ (z : Refusal). Err z) same)
    by (inr free) = inr free

-- want of memory alone
memory-free : (e : Refusal) → IsMemory e → IsFree e
memory-free e is = subst (λ x. IsFree x) (sym is) tt

pub single-value : {A : Type 0} (told : Told) (value : A) → Single told (answers (λ (v : A). v ≡ value) IsMemory)
single-value {A} told value = single-answers told (λ (v : A). v ≡ value) IsMemory (λ a b x y. x ∙ sym y) (λ a e x y. memory-free e y) (λ e f x y. inr (inl (memory-free e x)))

-- the output
single-write : (told : Told) (bytes : List ℕ) → Single told (write bytes)
single-write told bytes t u (Ok a) (Ok b) x y = inl (x ∙ sym y, refl)
single-write told bytes t u (Ok a) (Err refusal.Write) x y = inr (inr tt)
single-write told bytes t u (Err refusal.Write) b x y = inr (inl tt)
single-write told bytes t u (Ok a) (Err (refusal.Usage word)) x y = absurd y
single-write told bytes t u (Ok a) (Err refusal.Later) x y = absurd y
single-write told bytes t u (Ok a) (Err (refusal.File who why)) x y = absurd y
single-write told bytes t u (Ok a) (Err (refusal.Pair why)) x y = absurd y
single-write told bytes t u (Ok a) (Err (refusal.Inputs given wanted)) x y = absurd y
single-write told bytes t u (Ok a) (Err (refusal.Slice bound)) x y = absurd y
single-write told bytes t u (Ok a) (Err refusal.Read) x y = absurd y
single-write told bytes t u (Ok a) (Err refusal.Memory) x y = absurd y
single-write told bytes t u (Err (refusal.Usage word)) b x y = absurd x
single-write told bytes t u (Err refusal.Later) b x y = absurd x
single-write told bytes t u (Err (refusal.File who why)) b x y = absurd x
single-write told bytes t u (Err (refusal.Pair why)) b x y = absurd x
single-write told bytes t u (Err (refusal.Inputs given wanted)) b x y = absurd x
single-write told bytes t u (Err (refusal.Slice bound)) b x y = absurd x
single-write told bytes t u (Err refusal.Read) b x y = absurd x
single-write told bytes t u (Err refusal.Memory) b x y = absurd x

pub single-writes : (told : Told) (shown : Shown) → Single told (writes shown)
single-writes told shown = single-then told (write shown.text) (λ _. answers (λ status. status ≡ shown.status) (λ _. ⊥)) (single-write told shown.text)
    (λ _. single-answers told (λ status. status ≡ shown.status) (λ _. ⊥) (λ a b x y. x ∙ sym y) (λ a e x y. absurd y) (λ e f x y. absurd x))

-- a refusal of a read: a fault or want of memory, or that the file is too long
abbrev TooLong : Who → Known → Refusal → Type 0
TooLong who known e = IsFree e ⊎ ((e ≡ refusal.File who (file.Lex (lex.Refused MAX_FILE Long))) × MayBeLonger MAX_FILE known)

read-refusal : (who : Who) (known : Known) (e : Refusal) → IsRead who known (Err e) → TooLong who known e
read-refusal who known (refusal.File w why) (one, same, long) = inr (ap (λ (x : Who). refusal.File x why) one ∙ ap (λ (y : VersionError). refusal.File who y) same, long)
read-refusal who known refusal.Read h = inl tt
read-refusal who known refusal.Memory h = inl tt
read-refusal who known (refusal.Usage word) h = absurd h
read-refusal who known refusal.Later h = absurd h
read-refusal who known (refusal.Pair why) h = absurd h
read-refusal who known (refusal.Inputs given wanted) h = absurd h
read-refusal who known (refusal.Slice bound) h = absurd h
read-refusal who known refusal.Write h = absurd h

-- a file that is told holds one text, within the limit or past it
one-text : (known : Known) (a b : List ℕ) → known ≢ Unknown → MayHold known a → MayHold known b → a ≡ b
one-text Absent a b told x y = absurd x
one-text (Holds c) a b told x y = x ∙ sym y
one-text Unknown a b told x y = absurd (told refl)

not-longer : (known : Known) (a : List ℕ) → known ≢ Unknown → MayHold known a → length a ≤ MAX_FILE → MayBeLonger MAX_FILE known → ⊥
not-longer Absent a told x short long = absurd x
not-longer (Holds c) a told x short long = omega (arith, ap length x)
not-longer Unknown a told x short long = absurd (told refl)

single-read : (told : Told) (who : Who) (name : List ℕ) → told name ≢ Unknown → Single told (read_file who name)
single-read told who name known t u (Ok a) (Ok b) (s, x) (s', y) = inl (s ∙ sym s', ap (λ (bytes : List ℕ). Ok bytes) (one-text (told name) a b known x.0 y.0))
single-read told who name known t u (Ok a) (Err f) (s, x) (s', y) = by (read-refusal who (told name) f y)
  where
    by : TooLong who (told name) f → Agree t (Ok a) u (Err f)
    by (inl free) = inr (inr free)
    by (inr (same, long)) = absurd (not-longer (told name) a known x.0 x.1 long)
single-read told who name known t u (Err e) (Ok b) (s, x) (s', y) = by (read-refusal who (told name) e x)
  where
    by : TooLong who (told name) e → Agree t (Err e) u (Ok b)
    by (inl free) = inr (inl free)
    by (inr (same, long)) = absurd (not-longer (told name) b known y.0 y.1 long)
single-read told who name known t u (Err e) (Err f) (s, x) (s', y) = by (read-refusal who (told name) e x) (read-refusal who (told name) f y)
  where
    by : TooLong who (told name) e → TooLong who (told name) f → Agree {A = List ℕ} t (Err e) u (Err f)
    by (inl free) other = inr (inl free)
    by (inr same) (inl free) = inr (inr free)
    by (inr (same, _)) (inr (equal, _)) = inl (s ∙ sym s', ap (λ (z : Refusal). Err z) (same ∙ sym equal))

-- a refusal of bytes: want of memory, or that the file is refused
abbrev Refused : Who → List ℕ → Refusal → Type 0
Refused who bytes e = IsFree e ⊎ ((why : VersionError) × (e ≡ refusal.File who why) × IsFileRefused bytes why)

version-refusal : (who : Who) (bytes : List ℕ) (e : Refusal) → GivesNone who bytes e → Refused who bytes e
version-refusal who bytes (refusal.File w why) (one, is) = inr (why, ap (λ (x : Who). refusal.File x why) one, is)
version-refusal who bytes refusal.Memory h = inl tt
version-refusal who bytes (refusal.Usage word) h = absurd h
version-refusal who bytes refusal.Later h = absurd h
version-refusal who bytes (refusal.Pair why) h = absurd h
version-refusal who bytes (refusal.Inputs given wanted) h = absurd h
version-refusal who bytes (refusal.Slice bound) h = absurd h
version-refusal who bytes refusal.Read h = absurd h
version-refusal who bytes refusal.Write h = absurd h

pub single-version_of : (told : Told) (who : Who) (bytes : List ℕ) → Single told (version_of who bytes)
single-version_of told who bytes = single-answers told (GivesVersion bytes) (GivesNone who bytes) (one-version bytes) apart refused
  where
    apart : (v : Version) (e : Refusal) → GivesVersion bytes v → GivesNone who bytes e → IsFree e
    apart v e gives h = by (version-refusal who bytes e h)
      where
        by : Refused who bytes e → IsFree e
        by (inl free) = free
        by (inr (why, _, is)) = absurd (given-not_refused bytes v why gives is)

    refused : (e f : Refusal) → GivesNone who bytes e → GivesNone who bytes f → AgreeRefusals e f
    refused e f x y = by (version-refusal who bytes e x) (version-refusal who bytes f y)
      where
        by : Refused who bytes e → Refused who bytes f → AgreeRefusals e f
        by (inl free) other = inr (inl free)
        by (inr same) (inl free) = inr (inr free)
        by (inr (why, same, is)) (inr (how, equal, too)) = inl (same ∙ ap (λ (w : VersionError). refusal.File who w) (refused-one bytes why how is too) ∙ sym equal)

pub single-version : (told : Told) (who : Who) (name : List ℕ) → told name ≢ Unknown → Single told (version who name)
single-version told who name known = single-then told (read_file who name) (version_of who) (single-read told who name known) (single-version_of told who)

pub single-fits : (told : Told) (input : List ℤ) (params : ℕ) → Single told (fits input params)
single-fits told input params = single-answers told (λ _. length input ≡ params) (FitsNot input params) (λ a b x y. refl) (λ a e x y. absurd (y.0 x)) (λ e f x y. inl (x.1 ∙ sym y.1))
