-- Calls of an object in memory, some of which are to fail.
use Rattle.std.specs.Prelude.{ℕ, List, Bool, ◌==◌, if◌then◌else◌}
use Rattle.std.specs.List.{list_any}
use Rattle.prv_io.specs.Faults.{one_more}

-- the numbers of the calls that are to fail, how many calls there were, and how many failed
pub record Plan : Type 0 where
  pub fail : List ℕ
  pub calls : ℕ
  pub faults : ℕ

-- before the first call
abbrev pub fresh : List ℕ → Plan
fresh fail = record { fail = fail; calls = 0; faults = 0 }

-- the next call is one of those that are to fail; the first is number 1
abbrev pub is_to_fail : Plan → Bool
is_to_fail plan = list_any (λ number. number == one_more plan.calls) plan.fail

-- after one more call, which fails or not
abbrev pub after_call : Bool → Plan → Plan
after_call fails plan = record plan {
  calls = one_more plan.calls;
  faults = if fails then one_more plan.faults else plan.faults;
}
