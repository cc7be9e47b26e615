use Rattle.std.proofs.Common.{ℕ, ◌+◌, ◌*◌, ◌<◌, List, ap, sym, subst, rules, length, Bor}
use Rattle.std.proofs.lemmas.List.{length-map}
use Rattle.std.proofs.lemmas.Result.{err_from_is_err_and, IfOk-weaker, IfErr-weaker}
use Rattle.prv_line.specs.Options.{Options}
use Rattle.prv_line.specs.Steps.{Tells, option_count, TakesOption}
use Rattle.prv_line.specs.Views.{settings_of, texts}
use Rattle.prv_line.proofs.OptionSteps.{take_ok, take_value_refused, take_later, take_few, take_fewer}
use Rattle.prv_line.proofs.options.+read_options.Goals as goal

pub returns-in_err-taken-clause-err : goal.returns-in_err-taken-clause-err
returns-in_err-taken-clause-err t c =
    let passed = err_from_is_err_and c.from_residual.result c.from_residual.ensures.1 in
    let from = settings_of c.args.settings in
    let fault = c.in_err-taken.field-0.0 in
    let F : List (List ℕ) → Type 0 = λ ws. Tells (Options c.args.allowed from) ws c.args.at fault in
    rw (passed.1, passed.2) (subst F (sym (ap texts c.in-Some.ensures.cases.0)) (c.in_err-taken.ensures.err from))

pub returns-in-Some-with-clause-ok : goal.returns-in-Some-with-clause-ok
returns-in-Some-with-clause-ok t c =
    let taken = c.in_ok-taken.taken in
    let F : List (List ℕ) → Type 0 = λ ws. TakesOption c.args.allowed ws c.args.at taken.name taken.value.now taken.word (texts taken.behind.now) in
    let takes = subst F (sym (ap texts c.in-Some.ensures.cases.0)) c.in_ok-taken.ensures.ok in
    IfOk-weaker c.read_options.result _ _
    (λ made o. take_ok c.args.allowed (settings_of c.args.settings) (settings_of made) (texts c.args.words.now) c.args.at taken.name taken.value.now taken.word
    (texts taken.behind.now) takes c.in-Some-with.ensures.0 c.without.result (settings_of c.in-Some-with.next) c.without.ensures c.in-Some-with.ensures.1 o)
    c.read_options.ensures.ok

pub returns-in-Some-with-clause-err : goal.returns-in-Some-with-clause-err
returns-in-Some-with-clause-err t c =
    let taken = c.in_ok-taken.taken in
    let F : List (List ℕ) → Type 0 = λ ws. TakesOption c.args.allowed ws c.args.at taken.name taken.value.now taken.word (texts taken.behind.now) in
    let takes = subst F (sym (ap texts c.in-Some.ensures.cases.0)) c.in_ok-taken.ensures.ok in
    IfErr-weaker c.read_options.result _ _
    (λ e told. take_later c.args.allowed (settings_of c.args.settings) (texts c.args.words.now) c.args.at taken.name taken.value.now taken.word
    (texts taken.behind.now) takes c.in-Some-with.ensures.0 c.without.result (settings_of c.in-Some-with.next) c.without.ensures c.in-Some-with.ensures.1 e told)
    c.read_options.ensures.err

pub returns-in-None-clause-err : goal.returns-in-None-clause-err
returns-in-None-clause-err t c =
    let taken = c.in_ok-taken.taken in
    let F : List (List ℕ) → Type 0 = λ ws. TakesOption c.args.allowed ws c.args.at taken.name taken.value.now taken.word (texts taken.behind.now) in
    let takes = subst F (sym (ap texts c.in-Some.ensures.cases.0)) c.in_ok-taken.ensures.ok in
    take_value_refused c.args.allowed (settings_of c.args.settings) (texts c.args.words.now) c.args.at taken.name taken.value.now taken.word
    (texts taken.behind.now) takes c.in-None.ensures

pub read_options-requires : goal.read_options-requires
read_options-requires t c =
    let taken = c.in_ok-taken.taken in
    let F : List (List ℕ) → Type 0 = λ ws. TakesOption c.args.allowed ws c.args.at taken.name taken.value.now taken.word (texts taken.behind.now) in
    let takes = subst F (sym (ap texts c.in-Some.ensures.cases.0)) c.in_ok-taken.ensures.ok in
    let few : taken.word + 1 + 2 * option_count c.without.result < 100 =
    take_few c.args.allowed (texts c.args.words.now) c.args.at taken.name taken.value.now taken.word (texts taken.behind.now) c.without.result takes c.without.ensures c.requires in
    let fewer = take_fewer c.args.allowed (texts c.args.words.now) c.args.at taken.name taken.value.now taken.word (texts taken.behind.now) takes in
    let falls : length taken.behind.now < length c.args.words.now = rw (← length-map c.args.words.now (λ (w : Bor (List ℕ)). w.now), ← length-map taken.behind.now (λ (w : Bor (List ℕ)). w.now)) fewer in
    search rules
