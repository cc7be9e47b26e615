-- A file gives one version at most.
use Rattle.std.proofs.Common.{◌≡◌, ℕ, List, length, map, refl, sym, ap, ◌∙◌, subst}
use Rattle.std.proofs.Props.{props}
use Rattle.prv_model.specs.Programs.{IsProgram}
use Rattle.prv_model.specs.declared.program.Program.{Program}
use Rattle.prv_model.specs.declared.stmt.Stmt.{Stmt}
use Rattle.prv_rule.specs.declared.skeleton.Skel.{Skel}
use Rattle.prv_parse.specs.declared.tree.Ident.{Ident}
use Rattle.prv_parse.specs.declared.tree.StmtTree.{StmtTree}
use Rattle.prv_names.specs.Versions.{variables, numbered, marks_of}
use Rattle.prv_names.specs.declared.version.MarkAt.{MarkAt}
use Rattle.prv_names.specs.declared.version.Version.{Version}
use Rattle.prv_version.specs.Versions.{GivesVersion}
use Rattle.prv_version.proofs.OneAnswer.{one-tree}

abbrev program-of : (params : ℕ) (names : List (List ℕ)) (body : List Stmt) → IsProgram params names body → Program
program-of params names body kept = record { params = params; names = names; body = body; kept = kept }

-- two programs with equal fields are one
same-program : (m n : ℕ) (names others : List (List ℕ)) (body other : List Stmt) (k : IsProgram m names body) (l : IsProgram n others other)
    → m ≡ n → names ≡ others → body ≡ other → program-of m names body k ≡ program-of n others other l
same-program m n names others body other k l a b c =
    let one : IsProp (IsProgram m names body) = Prim.hlevel props in
    subst (λ x. (h : IsProgram x others other) → program-of m names body k ≡ program-of x others other h) a
    (subst (λ y. (h : IsProgram m y other) → program-of m names body k ≡ program-of m y other h) b
    (subst (λ z. (h : IsProgram m names z) → program-of m names body k ≡ program-of m names z h) c
    (λ h. ap (λ j. program-of m names body j) (one k h)))) l

abbrev version-of : Program → List Skel → List MarkAt → Version
version-of program skeleton marks = record { program = program; skeleton = skeleton; marks = marks }

-- two versions with equal fields are one
same-version : (p q : Program) (skeleton others : List Skel) (marks more : List MarkAt) → p ≡ q → skeleton ≡ others → marks ≡ more
    → version-of p skeleton marks ≡ version-of q others more
same-version p q skeleton others marks more a b c =
    ap (λ x. version-of x skeleton marks) a ∙ ap (λ y. version-of q y marks) b ∙ ap (λ z. version-of q others z) c

pub one-version : (file : List ℕ) (a b : Version) → GivesVersion file a → GivesVersion file b → a ≡ b
one-version file a b x y =
    let tree = one-tree file x.tokens y.tokens x.tree y.tree x.has y.has in
    let names : variables x.tree.params x.tree.body ≡ variables y.tree.params y.tree.body =
    ap (λ (p : List Ident). variables p x.tree.body) tree.0 ∙ ap (λ (b : List StmtTree). variables y.tree.params b) tree.1 in
    let body : map (λ s. numbered (variables x.tree.params x.tree.body) s) x.tree.body ≡ map (λ s. numbered (variables y.tree.params y.tree.body) s) y.tree.body =
    ap (λ (all : List (List ℕ)). map (λ s. numbered all s) x.tree.body) names ∙ ap (λ (b : List StmtTree). map (λ s. numbered (variables y.tree.params y.tree.body) s) b) tree.1 in
    let program = same-program a.program.params b.program.params a.program.names b.program.names a.program.body b.program.body a.program.kept b.program.kept
    (x.is.params ∙ ap (λ (p : List Ident). length p) tree.0 ∙ sym y.is.params) (x.is.names ∙ names ∙ sym y.is.names) (x.is.body ∙ body ∙ sym y.is.body) in
    same-version a.program b.program a.skeleton b.skeleton a.marks b.marks program (x.is.skeleton ∙ tree.2 ∙ sym y.is.skeleton) (x.is.marks ∙ ap marks_of tree.1 ∙ sym y.is.marks)
