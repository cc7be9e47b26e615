-- Counts of statements, variant by variant where a proof needs it by name.
use Rattle.std.proofs.Common.{◌≡◌, ℕ, ◌+◌, List, map, sum, sym, ap, ◌∙◌}
use Rattle.prv_model.specs.Programs.{stmt_count, node_count}
use Rattle.prv_model.specs.declared.stmt.Stmt.{Stmt, fold-roll-Stmt}
use Rattle.prv_model.specs.declared.stmt.Stmt.TheOpen.{Stmt-F}
use Rattle.prv_model.specs.declared.stmt.Stmt.TheVariants.{Block, rolls-Block}

pub stmt_count-Block : (all : List Stmt) → stmt_count (Block all) ≡ 1 + sum (map (λ s. stmt_count s) all)
stmt_count-Block all = ap (λ (s : Stmt). stmt_count s) (sym (rolls-Block all)) ∙ fold-roll-Stmt ℕ node_count (Stmt-F.Block all)
