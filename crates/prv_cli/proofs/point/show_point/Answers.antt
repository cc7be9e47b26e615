use Rattle.std.proofs.Common.{refl, ◌≡◌, ℕ, suc, ◌+◌, ◌<◌, ◌^◌, List, [], ◌∷◌, length, ℤ, ap, arith}
use Rattle.prv_model.specs.Programs.{IsProgram}
use Rattle.prv_model.specs.declared.entry.Entry.{Entry}
use Rattle.prv_model.specs.declared.program.Program.{Program}
use Rattle.prv_model.specs.declared.term.Term.{Term}
use Rattle.prv_model.specs.declared.verdict.Verdict.{Verdict}
use Rattle.prv_run.specs.Points.{rests, point}
use Rattle.prv_cli.proofs.point.show_point.Goals as goal

length-rests : (number : ℕ) (front : List Term) (k : ℕ) (x : List ℤ) → length (rests number front k x) ≡ length x
length-rests number front k [] = refl
length-rests number front k (n ∷ x) = ap suc (length-rests (suc number) _ (suc k) x)

few-params : (p : Program) → p.params < 100
few-params p =
    let kept : IsProgram p.params p.names p.body = p.kept in
    omega (arith, kept.few_params)

-- a point has an entry for each parameter and one more
few-entries : (p : Program) (verdict : Verdict) (x : List ℤ) (entries : List Entry) → length x ≡ p.params → entries ≡ point verdict x → length entries < 2 ^ 32
few-entries p verdict x entries long are = omega (arith, few-params p, ap (λ (es : List Entry). length es) are, length-rests 2 [] 0 x)

pub report_entries-requires : goal.report_entries-requires
report_entries-requires c =
    let few = few-entries c.args.pair.now.before _ c.args.input.now c.in_ok-entries.entries.items c.requires c.in_ok-entries.ensures.list in
    omega (arith, few, ap (λ (es : List Entry). length es) c.as_slice-2.ensures.value)

pub entries_status-status-requires : goal.entries_status-status-requires
entries_status-status-requires c =
    let few = few-entries c.args.pair.now.before _ c.args.input.now c.in_ok-entries.entries.items c.requires c.in_ok-entries.ensures.list in
    omega (arith, few, ap (λ (es : List Entry). length es) c.as_slice-3.ensures.value)

pub returns-clause-shown : goal.returns-clause-shown
returns-clause-shown c = λ told. (
  refl,
  record {
    entries = c.in_ok-entries.entries.items;
    entries_are = c.in_ok-entries.ensures.list;
    legal = c.in_ok-entries.ensures.legal;
    first = c.in_ok-entries.ensures.first;
    shown_is = cc (c.in_ok-text.ensures, c.as_slice.ensures, c.as_slice-2.ensures.value, c.as_slice-3.ensures.value, c.entries_status-status.ensures);
  },
)
