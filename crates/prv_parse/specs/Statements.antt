-- How the calls that read statements answer.
use Rattle.std.specs.Prelude.{◌≡◌, ℕ, Bool, true, false, List, [], ◌∷◌, ◌++◌, Result, Ok, Err}
use Rattle.prv_lex.specs.declared.token.Token.{Token}
use Rattle.prv_parse.specs.Reader.{Out, Done, Bad, Deep, Many, Part, ReadStmt, stmt_with, ReadItems, items_with, Named, ReadParams, params_with, Statement, is_int, declaration}
use Rattle.prv_parse.specs.Cursors.{StopsBy}
use Rattle.prv_rule.specs.declared.skeleton.Skel.{Skel}
use Rattle.prv_parse.specs.declared.stop.Stop.{Stop}
use Rattle.prv_parse.specs.declared.tree.Ident.{Ident}
use Rattle.prv_parse.specs.declared.tree.ExprTree.{ExprTree}
use Rattle.prv_parse.specs.declared.tree.StmtTree.{StmtTree}

-- the skeleton of what a reader comes to
abbrev pub skeleton_in : {A : Type 0} → (A → List Skel) → Out A → List Skel
skeleton_in skeleton (Done a rest) = skeleton a
skeleton_in skeleton (Bad rest) = []
skeleton_in skeleton (Deep rest) = []
skeleton_in skeleton (Many rest) = []

-- a call reads what the reader of the definition reads, leaves what it leaves, and appends its skeleton
abbrev pub Reads : {A V : Type 0} → (V → List Skel → A) → (A → List Skel) → Out A → List Token → List Skel → List Skel → Result V Stop → Type 0
Reads with skeleton out rest old new (Ok v) = (out ≡ Done (with v (skeleton_in skeleton out)) rest) × (new ≡ old ++ skeleton_in skeleton out)
Reads with skeleton out rest old new (Err s) = StopsBy out rest s

abbrev pub part_with : ExprTree → List Skel → Part
part_with e skeleton = record { tree = e; skeleton = skeleton }

abbrev pub named_with : Ident → List Skel → Named
named_with x skeleton = record { name = x; skeleton = skeleton }

abbrev pub ReadsPart : Out Part → List Token → List Skel → List Skel → Result ExprTree Stop → Type 0
ReadsPart = Reads part_with (λ r. r.skeleton)

abbrev pub ReadsStmt : Out ReadStmt → List Token → List Skel → List Skel → Result StmtTree Stop → Type 0
ReadsStmt = Reads stmt_with (λ r. r.skeleton)

abbrev pub ReadsItems : Out ReadItems → List Token → List Skel → List Skel → Result (List StmtTree) Stop → Type 0
ReadsItems = Reads items_with (λ r. r.skeleton)

abbrev pub ReadsName : Out Named → List Token → List Skel → List Skel → Result Ident Stop → Type 0
ReadsName = Reads named_with (λ r. r.skeleton)

abbrev pub ReadsParams : Out ReadParams → List Token → List Skel → List Skel → Result (List Ident) Stop → Type 0
ReadsParams = Reads params_with (λ r. r.skeleton)

-- a fixed token
abbrev pub ReadsFixed : Out (List Skel) → List Token → List Skel → List Skel → Result (Unit {0}) Stop → Type 0
ReadsFixed = Reads (λ u skeleton. skeleton) (λ skeleton. skeleton)

-- what a mark in a block stands before: a declaration, or a statement one construct deeper
abbrev pub body_at : Bool → ℕ → Statement → Token → List Token → Out ReadStmt
body_at true room deeper t rest = declaration room t rest
body_at false room deeper t rest = deeper (t ∷ rest)

abbrev pub body_of : ℕ → Statement → List Token → Out ReadStmt
body_of room deeper [] = Bad []
body_of room deeper (t ∷ rest) = body_at (is_int t.tok) room deeper t rest
