-- What a program says of names and blocks, in the order of its text.
use Rattle.std.specs.Prelude.{List, [], ◌∷◌, ◌++◌, Option, Some, None, map}
use Rattle.std.specs.Option.{option_map}
use Rattle.prv_parse.specs.declared.tree.Ident.{Ident}
use Rattle.prv_parse.specs.declared.tree.ExprTree.{ExprTree}
use Rattle.prv_parse.specs.declared.tree.ExprTree.TheOpen.{ExprTree-F}
use Rattle.prv_parse.specs.declared.tree.ExprTree.TheFolds.{fold-ExprTree}
use Rattle.prv_parse.specs.declared.tree.StmtTree.{StmtTree}
use Rattle.prv_parse.specs.declared.tree.StmtTree.TheOpen.{StmtTree-F}
use Rattle.prv_parse.specs.declared.tree.StmtTree.TheFolds.{fold-StmtTree}
use Rattle.prv_names.specs.declared.said.Said.{Said}
use Rattle.prv_names.specs.declared.said.Said.TheVariants.{Opens, Closes, Declares, Enters, Uses}

-- one after another
abbrev pub joined : List (List Said) → List Said
joined [] = []
joined (first ∷ rest) = first ++ joined rest

-- one node of an expression, with what each child says in its place
abbrev pub node_uses : ExprTree-F (List Said) → List Said
node_uses (ExprTree-F.Num n) = []
node_uses (ExprTree-F.Name x) = Uses x ∷ []
node_uses (ExprTree-F.Un op a) = a
node_uses (ExprTree-F.Bin op a b) = a ++ b
node_uses (ExprTree-F.Pick test chosen other) = test ++ chosen ++ other

-- an expression uses its names, from left to right
abbrev pub uses : ExprTree → List Said
uses = fold-ExprTree (List Said) node_uses

-- a declaration names its variable, then says what its value says, and then ends
abbrev pub declared_by : Ident → List Said → List Said
declared_by x value = Declares x ∷ value ++ Enters x.name ∷ []

-- what the branch of an `else` says, if there is one
abbrev pub else_says : Option (List Said) → List Said
else_says None = []
else_says (Some branch) = branch

-- one node of a statement, with what each child says in its place; only a block opens a scope
abbrev pub node_said : StmtTree-F (List Said) → List Said
node_said StmtTree-F.Skip = []
node_said (StmtTree-F.Declare x value) = declared_by x (uses value)
node_said (StmtTree-F.Set x value) = Uses x ∷ uses value
node_said (StmtTree-F.If test chosen other) = uses test ++ chosen ++ else_says other
node_said (StmtTree-F.While test body) = uses test ++ body
node_said (StmtTree-F.Return value) = uses value
node_said (StmtTree-F.Out value) = uses value
node_said (StmtTree-F.Assert value) = uses value
node_said (StmtTree-F.Block all) = Opens ∷ joined all ++ Closes ∷ []
node_said (StmtTree-F.Marked mark body) = body

-- what a statement or a declaration says
abbrev pub said : StmtTree → List Said
said = fold-StmtTree (List Said) node_said

abbrev pub said_else : Option StmtTree → List Said
said_else branch = else_says (option_map (λ s. said s) branch)

-- what a program says: it declares its parameters, which are in scope in the whole body, and then says what its body does
abbrev pub said_of : List Ident → List StmtTree → List Said
said_of params body = joined (map (λ x. declared_by x []) params) ++ joined (map (λ s. said s) body)
