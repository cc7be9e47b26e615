use Rattle.std.proofs.Common.{ℕ, List, ap, sym, subst}
use Rattle.prv_line.specs.Usages.{IsUsage}
use Rattle.prv_line.specs.Views.{texts}
use Rattle.prv_line.proofs.CommandLemmas.{nothing_given, unknown_command}
use Rattle.prv_line.proofs.reader.read_any.Goals as goal

pub returns-in_default : goal.returns-in_default
returns-in_default c = nothing_given c.args.words.now c.in_default.ensures.cases

pub returns-in_default-first : goal.returns-in_default-first
returns-in_default-first c =
    let other = c.in_default-first in
    let F : List (List ℕ) → Type 0 = λ ws. IsUsage ws 0 in
    subst F (sym (ap texts c.in-Some.ensures.cases.0)) (unknown_command c.in-Some.first.now.now (texts c.in-Some.rest.now) (record {
      no_run = other.not-run;
      no_point = other.not-point;
      no_slice = other.not-slice;
      no_explore = other.not-explore;
      no_live = other.not-live;
      no_resume = other.not-resume;
      no_check = other.not-check;
      no_gen = other.not-gen;
    }))
