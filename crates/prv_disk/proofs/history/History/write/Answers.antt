use Rattle.std.proofs.Common.{◌≡◌, ℕ, List, [], ◌∷◌, ◌++◌, length, if◌then◌else◌, ap, ◌∙◌, sym, rules}
use Rattle.prv_disk.specs.Bytes.{overwritten}
use Rattle.prv_disk.specs.MemDisk.{Wrote, Written, Calls, content, then_quiet, then_writes}
use Rattle.prv_disk.proofs.Kept.{base-is, kept-written, seen-written}
use Rattle.prv_disk.proofs.history.History.write.Goals as goal

pub invariant_of-self-2 : goal.invariant_of-self-2
invariant_of-self-2 c =
    let h = c.self.inside in
    let w : Written = record { before = h.since; at = c.args.at; bytes = c.in_ok-bytes.bytes.items } in
    let copied : c.in_ok-bytes.bytes.items ≡ c.args.piece.now = search rules in
    let kept_one : c.keep.new.writes.items ≡ h.writes.items ++ w ∷ [] = c.keep.ensures ∙ ap (λ (ws : List Written). ws ++ w ∷ []) c.in_ok-reserve.ensures.items in
    let count : c.reserve.new.self.len ≡ length h.writes.items = c.in_ok-reserve.ensures.len ∙ h.writes.ok.0 in
    let base : c.copy_if.new.current.items ≡ content h.start.items (then_quiet h.since (then_writes h.writes.items [])) =
    c.in_ok-copy_if.ensures.ok
    ∙ (λ i. if c.is_empty.ensures i then c.deref.ensures.value i else h.current.items)
    ∙ base-is _ _ _ _ _ c.reserve.new.self.len c.self.invariant count in
    kept-written _ _ c.copy_if.new.current.items _ h.writes.items _ w h.synced c.self.invariant kept_one base
    (c.in_ok-overwrite.ensures.ok ∙ ap (λ (l : List ℕ). overwritten c.copy_if.new.current.items c.args.at l) (sym copied))

pub returns-clause-ok : goal.returns-clause-ok
returns-clause-ok c =
    let h = c.self.inside in
    let w : Written = record { before = h.since; at = c.args.at; bytes = c.in_ok-bytes.bytes.items } in
    let copied : c.in_ok-bytes.bytes.items ≡ c.args.piece.now = search rules in
    let kept_one : c.keep.new.writes.items ≡ h.writes.items ++ w ∷ [] = c.keep.ensures ∙ ap (λ (ws : List Written). ws ++ w ∷ []) c.in_ok-reserve.ensures.items in
    let log = then_quiet h.since (then_writes h.writes.items []) in
    let seen : List ℕ → Calls = λ (l : List ℕ). record { start = h.start.items; log = Wrote c.args.at l ∷ log } in
    rw (← c.self.view_is) (seen-written h.start.items h.writes.items c.keep.new.writes.items w kept_one ∙ ap seen copied)
