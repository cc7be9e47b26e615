-- How large a tree is.
use Rattle.std.specs.Prelude.{ℕ, ◌+◌, ◌<◌, ◌^◌, List, length, Option, Some, None, map, sum}
use Rattle.prv_parse.specs.declared.tree.Ident.{Ident}
use Rattle.prv_parse.specs.declared.tree.StmtTree.{StmtTree}
use Rattle.prv_parse.specs.declared.tree.StmtTree.TheOpen.{StmtTree-F}
use Rattle.prv_parse.specs.declared.tree.StmtTree.TheFolds.{fold-StmtTree}

-- a count that is there
abbrev pub counted : Option ℕ → ℕ
counted None = 0
counted (Some n) = n

-- one node, with the count of statements of each child in its place
abbrev pub node_count : StmtTree-F ℕ → ℕ
node_count (StmtTree-F.If c chosen other) = 1 + (chosen + counted other)
node_count (StmtTree-F.While c body) = 1 + body
node_count (StmtTree-F.Block all) = 1 + sum all
node_count (StmtTree-F.Marked m body) = 1 + body
node_count _ = 1

-- how many statements and declarations a statement is, itself and each one inside it
abbrev pub stmt_count : StmtTree → ℕ
stmt_count = fold-StmtTree ℕ node_count

-- how many statements a body has, each one inside another included
abbrev pub body_count : List StmtTree → ℕ
body_count body = sum (map (λ s. stmt_count s) body)

-- one node, with the count of declarations of each child in its place
abbrev pub node_declarations : StmtTree-F ℕ → ℕ
node_declarations (StmtTree-F.Declare x value) = 1
node_declarations (StmtTree-F.If c chosen other) = chosen + counted other
node_declarations (StmtTree-F.While c body) = body
node_declarations (StmtTree-F.Block all) = sum all
node_declarations (StmtTree-F.Marked m body) = body
node_declarations _ = 0

-- how many declarations a statement has
abbrev pub declaration_count : StmtTree → ℕ
declaration_count = fold-StmtTree ℕ node_declarations

-- how many declarations a body has
abbrev pub body_declarations : List StmtTree → ℕ
body_declarations body = sum (map (λ s. declaration_count s) body)

-- what a tree keeps: it has a parameter, and its parameters, its variables with them, and its statements are each fewer than 2^31
pub record IsTree (params : List Ident) (body : List StmtTree) : Type 0 where
  pub some_params : 0 < length params
  pub few_params : length params < 2 ^ 31
  pub few_variables : length params + body_declarations body < 2 ^ 31
  pub few_statements : body_count body < 2 ^ 31
