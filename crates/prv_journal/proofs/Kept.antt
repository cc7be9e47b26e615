-- What a journal says after an append, from what its file ended with before.
use Rattle.std.proofs.Common.{◌≡◌, inl, inr, ⊎_elim, ℕ, ◌+◌, List, [], ◌∷◌, ◌++◌, length, sym, ◌∙◌, ap, arith, length-append}
use Rattle.prv_journal.specs.Records.{Payloads, records, followed_by}
use Rattle.prv_journal.specs.Ends.{IsSettled, HasSettled}
use Rattle.prv_journal.specs.Journals.{Has, HasOrWith, HasBeforeOrWith}
use Rattle.prv_journal.proofs.RecordsRead.{records-end}

settled-records : (file : List ℕ) (before : List ℕ → Type 0) (end : ℕ) (s : IsSettled file before end) → records file ≡ Payloads s.payloads
settled-records file before end s = records-end file end s.payloads s.ends

-- a crash before the append leaves the records
pub has-before : (file : List ℕ) (before : List ℕ → Type 0) (end : ℕ) (image : List ℕ) → IsSettled file before end → before image → Has (records file) image
has-before file before end image s left = ap records (s.lasting image left)

pub has-payloads : (file : List ℕ) (before : List ℕ → Type 0) (end : ℕ) (image : List ℕ) (s : IsSettled file before end) → Has (Payloads s.payloads) image → Has (records file) image
has-payloads file before end image s has = has ∙ sym (settled-records file before end s)

pub has-or-with : (file : List ℕ) (before : List ℕ → Type 0) (end : ℕ) (payload image : List ℕ) (s : IsSettled file before end) → HasOrWith s.payloads payload image → HasBeforeOrWith (records file) payload image
has-or-with file before end payload image s has =
    let same = sym (settled-records file before end s) in
    ⊎_elim (λ was. inl (was ∙ same)) (λ is. inr (is ∙ ap (followed_by payload) same)) has

-- after it the file has one more
pub has-added : (file new : List ℕ) (before after : List ℕ → Type 0) (end next : ℕ) (payload : List ℕ) (s : IsSettled file before end) (t : IsSettled new after next) → t.payloads ≡ s.payloads ++ payload ∷ [] → Has (followed_by payload (records file)) new
has-added file new before after end next payload s t is =
    settled-records new after next t ∙ ap Payloads is ∙ ap (followed_by payload) (sym (settled-records file before end s))

pub has-same : (file new : List ℕ) (before after : List ℕ → Type 0) (end next : ℕ) (s : IsSettled file before end) (t : IsSettled new after next) → t.payloads ≡ s.payloads → Has (records file) new
has-same file new before after end next s t is = settled-records new after next t ∙ ap Payloads is ∙ sym (settled-records file before end s)

pub count-added : (file new : List ℕ) (before after : List ℕ → Type 0) (end next count : ℕ) (payload : List ℕ) (h : HasSettled file before end count) (t : IsSettled new after next) → t.payloads ≡ h.settled.payloads ++ payload ∷ [] → HasSettled new after next (count + 1)
count-added file new before after end next count payload h t is =
    record { settled = t; count_is = omega (arith, h.count_is, ap length is, length-append h.settled.payloads (payload ∷ [])) }

pub count-same : (file new : List ℕ) (before after : List ℕ → Type 0) (end count : ℕ) (h : HasSettled file before end count) (t : IsSettled new after end) → t.payloads ≡ h.settled.payloads → HasSettled new after end count
count-same file new before after end count h t is = record { settled = t; count_is = h.count_is ∙ ap length (sym is) }
