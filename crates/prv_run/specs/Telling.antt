-- What a recorder has been told of a run, and which numbers the statements have for it.
use Rattle.std.specs.Prelude.{◌≡◌, ℕ, ◌≤◌, List, [], ◌++◌, length, drop, map}
use Rattle.prv_model.specs.Programs.{stmt_count}
use Rattle.prv_model.specs.declared.limits.TheConstants.{MAX_STMTS}
use Rattle.prv_model.specs.declared.stmt.Stmt.{Stmt}
use Rattle.prv_run.specs.declared.event.Event.{Event}
use Rattle.prv_run.specs.declared.record.Recorder.{Recorder}
use Rattle.prv_run.specs.declared.record.Recorder.TheVariants.{Off, On}

-- a recorder that is told of more evaluations
abbrev pub tell : Recorder → List Event → Recorder
tell Off more = Off
tell (On sizes told) more = On sizes (told ++ more)

-- the evaluations of which a recorder was told
abbrev pub told_of : Recorder → List Event
told_of Off = []
told_of (On sizes told) = told

-- from the place k on the list has the sizes of these statements
pub record HasSizes (sizes : List ℕ) (k : ℕ) (flat : List Stmt) : Type 0 where
  pub few : length sizes ≤ MAX_STMTS
  pub behind : List ℕ
  pub placed : drop k sizes ≡ map (λ s. stmt_count s) flat ++ behind

-- a recorder that is on knows the statements from the number k on
abbrev pub Knows : Recorder → ℕ → List Stmt → Type 0
Knows Off k flat = Unit {0}
Knows (On sizes told) k flat = HasSizes sizes k flat

-- two numbers of statements are one, where they are told
abbrev pub Agrees : Recorder → ℕ → ℕ → Type 0
Agrees Off j k = Unit {0}
Agrees (On sizes told) j k = j ≡ k
