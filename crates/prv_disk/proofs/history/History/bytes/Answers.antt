use Rattle.std.proofs.Common.{◌≡◌, ◌==◌, Bool, true, if◌then◌else◌, ◌∙◌, sym, ap}
use Rattle.prv_disk.proofs.Kept.{base-is}
use Rattle.prv_disk.proofs.history.History.bytes.Goals as goal

pub returns-then-is_empty : goal.returns-then-is_empty
returns-then-is_empty c =
    let h = c.self.inside in
    let test : (h.writes.len == 0) ≡ true = sym c.is_empty.ensures ∙ c.if-is_empty.true in
    rw (← c.self.view_is)
    (c.deref.ensures.value
    ∙ ap (λ (b : Bool). if b then h.start.items else h.current.items) (sym test)
    ∙ base-is _ _ _ _ _ h.writes.len c.self.invariant h.writes.ok.0)
