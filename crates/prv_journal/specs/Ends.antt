-- Where the records of a file end.
use Rattle.std.specs.Prelude.{◌≡◌, ◌≢◌, ℕ, ◌+◌, ◌<◌, List, [], ◌∷◌, ◌++◌, length}
use Rattle.prv_disk.specs.Crashes.{Only}
use Rattle.prv_journal.specs.Records.{Records, records_from, after_payload}

-- with these payloads before the others
abbrev pub after_all : List (List ℕ) → Records → Records
after_all [] found = found
after_all (first ∷ others) found = after_payload first (after_all others found)

-- these bytes are open gates with whole records of these payloads, whatever stands behind them
abbrev pub Opens : List ℕ → List (List ℕ) → Type 0
Opens front payloads =
    (offset : ℕ) (tail : List ℕ) → 0 < length tail → records_from 0 offset (front ++ tail) ≡ after_all payloads (records_from 0 (offset + length front) tail)

-- a file has these records, and its first closed gate stands at `end`
pub record EndsAt (file : List ℕ) (end : ℕ) (payloads : List (List ℕ)) : Type 0 where
  pub front : List ℕ
  pub gate : ℕ
  pub rest : List ℕ
  pub split : file ≡ front ++ (gate ∷ rest)
  pub closed : gate ≢ 1
  pub end_is : end ≡ length front
  pub opens : Opens front payloads

-- a file has records that end there, and all of it is lasting
pub record IsSettled (file : List ℕ) (may_leave : List ℕ → Type 0) (end : ℕ) : Type 0 where
  pub payloads : List (List ℕ)
  pub ends : EndsAt file end payloads
  pub lasting : Only file may_leave

-- what a journal that isn't broken keeps: a settled file with so many records
pub record HasSettled (file : List ℕ) (may_leave : List ℕ → Type 0) (end count : ℕ) : Type 0 where
  pub settled : IsSettled file may_leave end
  pub count_is : count ≡ length settled.payloads
