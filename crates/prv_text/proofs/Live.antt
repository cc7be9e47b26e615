-- The live entries of a board, one after the other.
use Rattle.std.proofs.Common.{◌≡◌, ℕ, zero, suc, ◌+◌, ◌≤◌, List, [], ◌∷◌, ◌++◌, length, map, drop, flat_map, Option, Some, None, option_to_list, refl, sym, ap, ◌∙◌, append_assoc, arith}
use Rattle.std.specs.Option.{option_map}
use Rattle.std.proofs.lemmas.List.{length-map, drop_all, append-nil}
use Rattle.std.proofs.lemmas.List.Concat.{flat_map-append}
use Rattle.prv_model.specs.declared.entry.Entry.{Entry}
use Rattle.prv_part.specs.declared.part.Part.{Part}
use Rattle.prv_board.specs.Slots.{Slot, live_part, live_parts, part_at}
use Rattle.prv_text.specs.Reports.{part_of}
use Rattle.prv_text.specs.Boards.{numbered, live_from}
use Rattle.prv_text.specs.Entries.{entry_line}

part-first : (number : ℕ) (o : Option Part) (es : List Entry) → map part_of (option_to_list (option_map (numbered number) o) ++ es) ≡ option_to_list o ++ map part_of es
part-first number None es = refl
part-first number (Some p) es = refl

-- what the live entries say is what the live parts are
pub parts-live : (number : ℕ) (slots : List Slot) → map part_of (live_from number slots) ≡ live_parts slots
parts-live number [] = refl
parts-live number (slot ∷ slots) =
    part-first number (live_part slot) (live_from (suc number) slots)
    ∙ ap (λ (ps : List Part). option_to_list (live_part slot) ++ ps) (parts-live (suc number) slots)

-- there are as many
pub length-live : (number : ℕ) (slots : List Slot) → length (live_from number slots) ≡ length (live_parts slots)
length-live number slots = sym (length-map (live_from number slots) part_of) ∙ ap (λ (ps : List Part). length ps) (parts-live number slots)

-- the entry of a number, if it is live, and then those behind it
live-step : (m n : ℕ) (slots : List Slot) → live_from m (drop n slots) ≡ option_to_list (option_map (numbered m) (part_at slots n)) ++ live_from (suc m) (drop (suc n) slots)
live-step m zero [] = refl
live-step m zero (slot ∷ slots) = refl
live-step m (suc n) [] = refl
live-step m (suc n) (slot ∷ slots) = live-step m n slots

live-behind : (n : ℕ) (slots : List Slot) → live_from n (drop n slots) ≡ option_to_list (option_map (numbered n) (part_at slots n)) ++ live_from (n + 1) (drop (n + 1) slots)
live-behind n slots =
    let next : suc n ≡ n + 1 = omega arith in
    live-step n n slots ∙ ap (λ (k : ℕ). option_to_list (option_map (numbered n) (part_at slots n)) ++ live_from k (drop k slots)) next

-- the lines of the entries from a number on, one entry further
pub live-next : (names : List (List ℕ)) (n : ℕ) (slots : List Slot) (old new all : List ℕ) →
    old ++ flat_map (entry_line names) (live_from n (drop n slots)) ≡ all →
    new ≡ old ++ flat_map (entry_line names) (option_to_list (option_map (numbered n) (part_at slots n))) →
    new ++ flat_map (entry_line names) (live_from (n + 1) (drop (n + 1) slots)) ≡ all
live-next names n slots old new all before is =
    let lines = λ (es : List Entry). flat_map (entry_line names) es in
    let here = option_to_list (option_map (numbered n) (part_at slots n)) in
    let rest = live_from (n + 1) (drop (n + 1) slots) in
    let split : lines (live_from n (drop n slots)) ≡ lines here ++ lines rest =
    ap lines (live-behind n slots) ∙ flat_map-append (entry_line names) here rest in
    ap (λ (zs : List ℕ). zs ++ lines rest) is
    ∙ append_assoc old (lines here) (lines rest)
    ∙ ap (λ (zs : List ℕ). old ++ zs) (sym split)
    ∙ before

-- no entries are left behind the last
pub live-end : (names : List (List ℕ)) (n : ℕ) (slots : List Slot) (old all : List ℕ) →
    length slots ≤ n → old ++ flat_map (entry_line names) (live_from n (drop n slots)) ≡ all → old ≡ all
live-end names n slots old all past is =
    sym (append-nil old) ∙ ap (λ (ss : List Slot). old ++ flat_map (entry_line names) (live_from n ss)) (sym (drop_all n slots past)) ∙ is

-- the line of an entry that is live
pub live-one : (names : List (List ℕ)) (n : ℕ) (o : Option Part) (p : Part) (old new : List ℕ) → o ≡ Some p →
    new ≡ old ++ entry_line names (numbered n p) → new ≡ old ++ flat_map (entry_line names) (option_to_list (option_map (numbered n) o))
live-one names n o p old new some is =
    is
    ∙ ap (λ (zs : List ℕ). old ++ zs) (sym (append-nil (entry_line names (numbered n p))))
    ∙ ap (λ (found : Option Part). old ++ flat_map (entry_line names) (option_to_list (option_map (numbered n) found))) (sym some)

-- no line where none is live
pub live-none : (names : List (List ℕ)) (n : ℕ) (o : Option Part) (old : List ℕ) → o ≡ None → old ≡ old ++ flat_map (entry_line names) (option_to_list (option_map (numbered n) o))
live-none names n o old none =
    sym (append-nil old)
    ∙ ap (λ (found : Option Part). old ++ flat_map (entry_line names) (option_to_list (option_map (numbered n) found))) (sym none)
