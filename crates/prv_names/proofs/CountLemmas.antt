-- How many statements a block is, before and after its names are numbered.
use Rattle.std.proofs.Common.{◌≡◌, ℕ, ◌+◌, List, map, sum, sym, ap, ◌∙◌}
use Rattle.prv_model.specs.Programs.{stmt_count, node_count}
use Rattle.prv_model.specs.declared.stmt.Stmt.{Stmt, Stmt-F, fold-roll-Stmt}
use Rattle.prv_model.specs.declared.stmt.Stmt.TheVariants.{Block, rolls-Block}
use Rattle.prv_parse.specs.Trees.{stmt_count as tree_count, node_count as tree_node_count}
use Rattle.prv_parse.specs.declared.tree.StmtTree.{StmtTree, StmtTree-F, fold-roll-StmtTree}
use Rattle.prv_parse.specs.declared.tree.StmtTree.TheVariants as tree

pub stmt_count-Block : (body : List Stmt) → stmt_count (Block body) ≡ 1 + sum (map (λ s. stmt_count s) body)
stmt_count-Block body = ap (λ (s : Stmt). stmt_count s) (sym (rolls-Block body)) ∙ fold-roll-Stmt ℕ node_count (Stmt-F.Block body)

pub tree_count-Block : (body : List StmtTree) → tree_count (tree.Block body) ≡ 1 + sum (map (λ s. tree_count s) body)
tree_count-Block body = ap (λ (s : StmtTree). tree_count s) (sym (tree.rolls-Block body)) ∙ fold-roll-StmtTree ℕ tree_node_count (StmtTree-F.Block body)
