-- What a statement overwrites it may write.
use Rattle.std.proofs.Common.{◌≡◌, ℕ, Bool, true, false, List, sym, ap, ◌∙◌}
use Rattle.prv_model.specs.declared.stmt.Stmt.{Stmt, roll-Stmt, map-Stmt, out-Stmt, roll-out-Stmt}
use Rattle.prv_model.specs.declared.stmt.Stmt.TheOpen.{Stmt-F}
use Rattle.prv_model.specs.declared.stmt.Stmt.TheFolds.{fold-roll-Stmt}
use Rattle.prv_dep.specs.Dependences.{has, writes, node_writes, overwrites, node_overwrites}

writes-as : (s : Stmt) (d : Stmt-F Stmt) → roll-Stmt d ≡ s → writes s ≡ node_writes (map-Stmt Stmt (List ℕ) (λ y. writes y) d)
writes-as s d is = ap (λ (x : Stmt). writes x) (sym is) ∙ fold-roll-Stmt (List ℕ) node_writes d

pub overwrites-as : (s : Stmt) (d : Stmt-F Stmt) → roll-Stmt d ≡ s → overwrites s ≡ node_overwrites (map-Stmt Stmt (List ℕ) (λ y. overwrites y) d)
overwrites-as s d is = ap (λ (x : Stmt). overwrites x) (sym is) ∙ fold-roll-Stmt (List ℕ) node_overwrites d

never : (b : Bool) → false ≡ true → b ≡ true
never b e = cc

by-node : (s : Stmt) (v : ℕ) (d : Stmt-F Stmt) → roll-Stmt d ≡ s → has (overwrites s) v ≡ true → has (writes s) v ≡ true
by-node s v (Stmt-F.Set var e) is h =
    ap (λ (vs : List ℕ). has vs v) (writes-as s (Stmt-F.Set var e) is ∙ sym (overwrites-as s (Stmt-F.Set var e) is)) ∙ h
by-node s v d is h = never _ (ap (λ (vs : List ℕ). has vs v) (sym (overwrites-as s d is)) ∙ h)

pub overwritten-written : (s : Stmt) (v : ℕ) → has (overwrites s) v ≡ true → has (writes s) v ≡ true
overwritten-written s v = by-node s v (out-Stmt s) (roll-out-Stmt s)
