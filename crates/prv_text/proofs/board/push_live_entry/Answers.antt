use Rattle.std.proofs.Common.{◌≡◌, ℕ, List, ◌++◌, Some, None, sym, ap, ◌∙◌}
use Rattle.std.specs.Option.{option_copied}
use Rattle.prv_model.specs.declared.program.Pair.{Pair}
use Rattle.prv_board.specs.Slots.{part_at}
use Rattle.prv_board.specs.Replays.{slots}
use Rattle.prv_text.specs.Entries.{entry_line}
use Rattle.prv_text.specs.Boards.{numbered, names_of}
use Rattle.prv_text.proofs.Live.{live-one, live-none}
use Rattle.prv_text.proofs.Writing.{on-ok}
use Rattle.prv_text.proofs.board.push_live_entry.Goals as goal

pub returns-in-Some : goal.returns-in-Some
returns-in-Some c =
    let b = c.args.board.now.replay in
    let n = c.args.number in
    let old = c.args.out.now.items in
    let part = c.in-Some.part.now in
    let found : part_at (slots b) n ≡ Some part = sym c.entry.ensures.value ∙ ap (λ o. option_copied o) c.in-Some.is in
    let names_are = c.as_slice.ensures ∙ ap (λ (p : Pair). p.before.names) (c.deref.ensures ∙ c.pair.ensures) in
    on-ok c.push_line.result
    (λ written. live-one (names_of b) n (part_at (slots b) n) part old c.push_line.new.out.items found
    (written ∙ ap (λ (marks : List ℕ). old ++ entry_line c.as_slice.result.now (record { number = n; terms = part.region; kind = part.kind; marks = marks })) c.as_slice-in-Some.ensures
    ∙ ap (λ (names : List (List ℕ)). old ++ entry_line names (numbered n part)) names_are))
    c.push_line.ensures

pub returns-in-None : goal.returns-in-None
returns-in-None c =
    let b = c.args.board.now.replay in
    let n = c.args.number in
    let found : part_at (slots b) n ≡ None = sym c.entry.ensures.value ∙ ap (λ o. option_copied o) c.in-None.is in
    live-none (names_of b) n (part_at (slots b) n) c.args.out.now.items found
