-- The status of entries by their counts.
use Rattle.std.proofs.Common.{◌≡◌, ℕ, ◌+◌, Bool, true, false, ◌||◌, List, [], ◌∷◌, nat_lt, refl, sym, ap, ◌∙◌, arith, if◌then◌else◌}
use Rattle.std.proofs.lemmas.Bool.Decides.{nat_tests}
use Rattle.std.specs.List.{list_any}
use Rattle.prv_model.specs.Boards.{one_if}
use Rattle.prv_model.specs.declared.entry.Kind.{Kind}
use Rattle.prv_part.specs.declared.part.Part.{Part}
use Rattle.prv_board.specs.Replays.{count_kind, counts_of, is_different, is_beyond, is_unexplored, is_undecided}
use Rattle.prv_board.specs.declared.counts.Counts.{Counts}
use Rattle.prv_cli.specs.Statuses.{is_unsettled, parts_status, counts_status}
use Rattle.prv_cli.specs.declared.status.Status.{Status}
use Rattle.prv_cli.specs.declared.status.Status.TheVariants.{Done, Different, Unsettled}

abbrev pub any_kind : (Kind → Bool) → List Part → Bool
any_kind test parts = list_any (λ p. test p.kind) parts

positive-or : (b rest : Bool) (count : ℕ) → nat_lt 0 count ≡ rest → nat_lt 0 (one_if b + count) ≡ b || rest
positive-or true rest count e = grind (arith, nat_tests)
positive-or false rest count e = ap (λ (n : ℕ). nat_lt 0 n) (let z : 0 + count ≡ count = omega arith in z) ∙ e

-- a count is positive where something is counted
pub positive-any : (test : Kind → Bool) (parts : List Part) → nat_lt 0 (count_kind test parts) ≡ any_kind test parts
positive-any test [] = refl
positive-any test (p ∷ parts) = positive-or (test p.kind) (any_kind test parts) (count_kind test parts) (positive-any test parts)

either : (a b c d : Bool) → (a || b) || (c || d) ≡ (a || c) || (b || d)
either true b c d = refl
either false true true d = refl
either false true false d = refl
either false false true d = refl
either false false false d = refl

-- something passes one of two tests where something passes the first, or the second
any-or : (one two : Kind → Bool) (parts : List Part) → any_kind (λ k. one k || two k) parts ≡ any_kind one parts || any_kind two parts
any-or one two [] = refl
any-or one two (p ∷ parts) =
    ap (λ (b : Bool). (one p.kind || two p.kind) || b) (any-or one two parts) ∙ either (one p.kind) (two p.kind) (any_kind one parts) (any_kind two parts)

any-unsettled : (parts : List Part) → any_kind is_unsettled parts ≡ any_kind is_beyond parts || (any_kind is_unexplored parts || any_kind is_undecided parts)
any-unsettled parts =
    any-or is_beyond (λ k. is_unexplored k || is_undecided k) parts ∙ ap (λ (b : Bool). any_kind is_beyond parts || b) (any-or is_unexplored is_undecided parts)

abbrev chosen : Bool → Bool → Status
chosen different unsettled = if different then Different else (if unsettled then Unsettled else Done)

-- the status by counts is that of what is counted
pub status-counted : (parts : List Part) (c : Counts) → c ≡ counts_of parts → counts_status c ≡ parts_status parts
status-counted parts c is =
    let different = positive-any is_different parts in
    let unsettled : (nat_lt 0 (count_kind is_beyond parts) || (nat_lt 0 (count_kind is_unexplored parts) || nat_lt 0 (count_kind is_undecided parts))) ≡ any_kind is_unsettled parts =
    (λ i. positive-any is_beyond parts i || (positive-any is_unexplored parts i || positive-any is_undecided parts i)) ∙ sym (any-unsettled parts) in
    ap (λ (x : Counts). counts_status x) is ∙ (λ i. chosen (different i) (unsettled i))
