-- There are as many flags as evaluations.
use Rattle.std.proofs.Common.{◌≡◌, ℕ, Bool, true, false, [], ◌∷◌, length, replicate, refl, ◌∙◌, arith, length-append, if◌then◌else◌}
use Rattle.std.proofs.lemmas.List.{length-replicate}
use Rattle.prv_run.specs.Runs.{Run, events}
use Rattle.prv_select.specs.Choices.{Chosen, choose, count, keeps, needs, matters, no_mark}

counted : (run : Run) → count run ≡ length (events run)
counted Run.Idle = refl
counted (Run.Eval k why e v) = refl
counted (Run.Then a b) = omega (arith, counted a, counted b, length-append (events a) (events b))
counted (Run.Choice k test chosen other inner) = counted inner
counted (Run.Mark mark inner) = counted inner

pub one-flag-each : (run : Run) (needed : ℕ → Bool) → length (choose run needed).kept ≡ length (events run)
one-flag-each Run.Idle needed = refl
one-flag-each (Run.Eval k why e v) needed = elim (keeps why e v needed) as (λ z.
    length (Chosen.kept (if z then record { needed = needs why e v needed; kept = true ∷ []; marks = no_mark } else record { needed = needed; kept = false ∷ []; marks = no_mark })) ≡ 1) [ true ↦ refl | false ↦ refl ]
one-flag-each (Run.Then a b) needed =
    omega (arith, one-flag-each a (choose b needed).needed, one-flag-each b needed, length-append (choose a (choose b needed).needed).kept (choose b needed).kept, length-append (events a) (events b))
one-flag-each (Run.Choice k test chosen other inner) needed = elim (matters test chosen other needed) as (λ z.
    length (Chosen.kept (if z then choose inner needed else record { needed = needed; kept = replicate (count inner) false; marks = no_mark })) ≡ length (events inner)) [
      | true ↦ one-flag-each inner needed
      | false ↦ length-replicate (count inner) false ∙ counted inner
    ]
one-flag-each (Run.Mark mark inner) needed = one-flag-each inner needed
