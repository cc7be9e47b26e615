-- What appending and opening leave of a journal's file.
use Rattle.std.proofs.Common.{◌≡◌, ℕ, ◌+◌, ◌≤◌, nat_le, Bool, true, if◌then◌else◌, List, [], ◌∷◌, ◌++◌, length, drop, refl, sym, ◌∙◌, ap, arith, length-append, length-drop}
use Rattle.std.proofs.lemmas.Bool.Decides.{nat_tests}
use Rattle.std.specs.Int.{w32, to_le_bytes}
use Rattle.prv_disk.specs.Bytes.{overwritten, Torn}
use Rattle.prv_disk.specs.Crashes.{Only}
use Rattle.prv_journal.specs.Records.{Payloads, records, records_from}
use Rattle.prv_journal.specs.Ends.{IsSettled}
use Rattle.prv_journal.specs.Journals.{Has}
use Rattle.prv_journal.proofs.RecordsRead.{opens-none}
use Rattle.prv_journal.proofs.RecordsWritten.{staged-file, staged-ends, open-gate}

-- a record behind the closed gate changes nothing
pub settled-staged : (file mid : List ℕ) (before after : List ℕ → Type 0) (end : ℕ) (payload piece : List ℕ) (s : IsSettled file before end) → length payload ≤ 17000000
    → piece ≡ to_le_bytes w32 (length payload) ++ payload ++ 0 ∷ [] → mid ≡ overwritten file (end + 1) piece → Only mid after → (t : IsSettled mid after end) × (t.payloads ≡ s.payloads)
settled-staged file mid before after end payload piece s short piece_is is lasting =
    (record { payloads = s.payloads; ends = staged-ends mid end s.payloads payload (staged-file file end s.payloads payload piece mid s.ends short piece_is is); lasting = lasting }, refl)

-- once the gate is open it counts
pub settled-opened : (file mid new : List ℕ) (before after : List ℕ → Type 0) (end : ℕ) (payload piece : List ℕ) (s : IsSettled file before end) → length payload ≤ 17000000
    → piece ≡ to_le_bytes w32 (length payload) ++ payload ++ 0 ∷ [] → mid ≡ overwritten file (end + 1) piece → new ≡ overwritten mid end (1 ∷ []) → Only new after
    → (t : IsSettled new after (end + 5 + length payload)) × (t.payloads ≡ s.payloads ++ payload ∷ [])
settled-opened file mid new before after end payload piece s short piece_is mid_is is lasting =
    (record { payloads = s.payloads ++ payload ∷ []; ends = open-gate mid end s.payloads payload new (staged-file file end s.payloads payload piece mid s.ends short piece_is mid_is) short is; lasting = lasting }, refl)

-- a file of no or one byte
pub records-short : (file : List ℕ) → length file ≤ 1 → records file ≡ Payloads []
records-short file short =
    let test : nat_le (length file) 1 ≡ true = grind (arith, nat_tests) in
    ap (λ (b : Bool). if b then Payloads [] else records_from 0 0 file) test

-- what a crash leaves of the write that makes it a fresh journal
pub fresh-left : (file image : List ℕ) → length file ≤ 1 → Torn 0 1 file image → Has (records file) image
fresh-left file image short torn =
    let long : length image ≡ length torn.part + length (drop 1 file) = ap length torn.others ∙ length-append torn.part (drop 1 file) in
    records-short image (omega (arith, long, length-drop 1 file, torn.within)) ∙ sym (records-short file short)

pub fresh-has : (file new : List ℕ) → length file ≤ 1 → new ≡ overwritten file 0 (0 ∷ []) → Has (records file) new
fresh-has file new short is =
    let long : length new ≡ 1 + length (drop 1 file) = ap length is ∙ length-append (0 ∷ []) (drop 1 file) in
    records-short new (omega (arith, long, length-drop 1 file)) ∙ sym (records-short file short)

pub fresh-settled : (file new : List ℕ) (after : List ℕ → Type 0) → new ≡ overwritten file 0 (0 ∷ []) → Only new after → (s : IsSettled new after 0) × (s.payloads ≡ [])
fresh-settled file new after is lasting =
    (record { payloads = []; ends = record { front = []; gate = 0; rest = drop 1 file; split = is; closed = omega arith; end_is = refl; opens = opens-none }; lasting = lasting }, refl)
