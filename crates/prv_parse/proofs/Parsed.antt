-- What reading a file by the table comes to, and with it the reader by hand.
use Rattle.std.proofs.Common.{◌≡◌, ℕ, List, [], ◌∷◌, refl, sym, ap, ◌∙◌, subst, ◌⊎◌, inl, inr}
use Rattle.prv_lex.specs.declared.token.Token.{Token}
use Rattle.prv_rule.specs.declared.skeleton.Skel.{Skel}
use Rattle.prv_rule.specs.Rules.{Attributes, attributes, IsWhole, Why, Syntax, Depth, Operators, Out, Done, Stop, whole}
use Rattle.prv_rule.specs.Refusals.{place_of}
use Rattle.prv_rule.proofs.Whole.{IsDone, IsSound, whole-complete, whole-sound, whole-same, whole-loose}
use Rattle.prv_rule.proofs.Exact.{syntax-at, deep-at, deep-some}
use Rattle.prv_rule.proofs.Shown.{shown-within}
use Rattle.prv_rule.proofs.Laws.{tree-syntax, tree-deep, one-kind, one-syntax, one-deep}
use Rattle.prv_parse.specs.Grammar.{table, program}
use Rattle.prv_parse.specs.Refusals.{IsText, HasTree, IsSyntaxAt, IsDeepAt}
use Rattle.prv_parse.specs.Reader as hand
use Rattle.prv_parse.specs.Reader.{ReadProgram}
use Rattle.prv_parse.specs.Cursors.{StopsBy}
use Rattle.prv_parse.specs.MainFunctions.{refusal_of}
use Rattle.prv_parse.specs.declared.tree.Ident.{Ident}
use Rattle.prv_parse.specs.declared.tree.StmtTree.{StmtTree}
use Rattle.prv_parse.specs.declared.stop.Stop as stops
use Rattle.prv_parse.specs.declared.stop.Stop.TheVariants as stop
use Rattle.prv_parse.specs.declared.error.ParseError.TheVariants.{Memory}
use Rattle.prv_parse.specs.declared.error.ParseError.TheVariants as error
use Rattle.prv_parse.proofs.Fit.{later, starts, fit, good-program, flat-program, closed-program}
use Rattle.prv_parse.proofs.Shapes.{shape}
use Rattle.prv_parse.proofs.Programs.{as_program, program-same}

abbrev pub Value : Type 0
Value = List Ident × List StmtTree

abbrev pub read : List Token → Out Value
read tokens = whole table program tokens

-- what was read is a tree of the tokens
read-has : (tokens rest : List Token) (u : Attributes Value) → read tokens ≡ Done u rest → HasTree tokens u.value.0 u.value.1 u.skeleton
read-has tokens rest u e =
    let d : IsDone (IsWhole table program) tokens u rest = subst (IsSound (IsWhole table program) tokens) e (whole-sound table later starts fit program good-program flat-program closed-program tokens) in
    record { text = d.text; reads = (u.before, d.whole); tokens_are = d.tokens_are; within = d.within }

-- a tree of the tokens is read
pub has-read : (tokens : List Token) (params : List Ident) (body : List StmtTree) (skeleton : List Skel) → HasTree tokens params body skeleton → (n : ℕ) × (read tokens ≡ Done (attributes (params, body) n skeleton) [])
has-read tokens params body skeleton t = (
  t.reads.0,
  ap read (sym t.tokens_are) ∙ whole-complete table later starts fit program good-program flat-program closed-program t.text (attributes (params, body) t.reads.0 skeleton) t.reads.1
      ∙ shown-within t.text [] (Done (attributes (params, body) t.reads.0 skeleton) []) t.within,
)

-- a stop for syntax is the first refusal, for syntax
stop-syntax : (tokens rest : List Token) (end : ℕ) → read tokens ≡ Stop Syntax rest → IsSyntaxAt tokens end (place_of rest end)
stop-syntax tokens rest end e =
    syntax-at read (IsWhole table program) (whole-complete table later starts fit program good-program flat-program closed-program) (whole-same table later starts fit program good-program flat-program closed-program)
    (whole-loose table later starts fit program good-program flat-program closed-program) (whole-sound table later starts fit program good-program flat-program closed-program) tokens rest end e

-- a stop for a limit is the first refusal, for a limit; neither is at the end
stop-deep : (tokens rest : List Token) (end : ℕ) (w : Why) → (w ≡ Syntax → ⊥) → read tokens ≡ Stop w rest → IsDeepAt tokens (place_of rest end)
stop-deep tokens [] end w n e =
    absurd (deep-some read (IsWhole table program) (whole-complete table later starts fit program good-program flat-program closed-program) (whole-same table later starts fit program good-program flat-program closed-program)
    (whole-loose table later starts fit program good-program flat-program closed-program) (whole-sound table later starts fit program good-program flat-program closed-program) tokens w n e)
stop-deep tokens (t ∷ s) end w n e =
    deep-at read (IsWhole table program) (whole-complete table later starts fit program good-program flat-program closed-program) (whole-same table later starts fit program good-program flat-program closed-program)
    (whole-loose table later starts fit program good-program flat-program closed-program) (whole-sound table later starts fit program good-program flat-program closed-program) tokens w t s n e

not-depth : Depth ≡ Syntax → ⊥
not-depth e = absurd (cc)

not-operators : Operators ≡ Syntax → ⊥
not-operators e = absurd (cc)

-- the parts of what was read
abbrev params_in : Out Value → List Ident
params_in (Done u r) = u.value.0
params_in (Stop w r) = []

abbrev body_in : Out Value → List StmtTree
body_in (Done u r) = u.value.1
body_in (Stop w r) = []

abbrev skeleton_in : Out Value → List Skel
skeleton_in (Done u r) = u.skeleton
skeleton_in (Stop w r) = []

-- tokens have at most one tree
pub one-tree : (tokens : List Token) (params names : List Ident) (body all : List StmtTree) (skeleton other : List Skel) → HasTree tokens params body skeleton → HasTree tokens names all other → (params ≡ names) × (body ≡ all) × (skeleton ≡ other)
one-tree tokens params names body all skeleton other t s =
    let x = has-read tokens params body skeleton t in let y = has-read tokens names all other s in
    let same : Done (attributes (params, body) x.0 skeleton) [] ≡ Done (attributes (names, all) y.0 other) [] = sym x.1 ∙ y.1 in
    (ap params_in same, ap body_in same, ap skeleton_in same)

-- a tree, or a first refusal
pub tree-or-refusal : (tokens : List Token) (end : ℕ) → ((params : List Ident) × (body : List StmtTree) × (skeleton : List Skel) × HasTree tokens params body skeleton) ⊎ (((place : ℕ) × IsSyntaxAt tokens end place) ⊎ ((place : ℕ) × IsDeepAt tokens place))
tree-or-refusal tokens end = by (read tokens) refl
  where
    by : (o : Out Value) → read tokens ≡ o → ((params : List Ident) × (body : List StmtTree) × (skeleton : List Skel) × HasTree tokens params body skeleton) ⊎ (((place : ℕ) × IsSyntaxAt tokens end place) ⊎ ((place : ℕ) × IsDeepAt tokens place))
    by (Done u rest) e = inl (u.value.0, u.value.1, u.skeleton, read-has tokens rest u e)
    by (Stop Syntax rest) e = inr (inl (place_of rest end, stop-syntax tokens rest end e))
    by (Stop Depth rest) e = inr (inr (place_of rest end, stop-deep tokens rest end Depth not-depth e))
    by (Stop Operators rest) e = inr (inr (place_of rest end, stop-deep tokens rest end Operators not-operators e))

-- a tree is no refusal
pub no-syntax : (tokens : List Token) (params : List Ident) (body : List StmtTree) (skeleton : List Skel) (end place : ℕ) → HasTree tokens params body skeleton → IsSyntaxAt tokens end place → ⊥
no-syntax tokens params body skeleton end place t s = tree-syntax IsText tokens t.text end place (attributes (params, body) t.reads.0 skeleton, t.reads.1) t.tokens_are s

pub no-deep : (tokens : List Token) (params : List Ident) (body : List StmtTree) (skeleton : List Skel) (place : ℕ) → HasTree tokens params body skeleton → IsDeepAt tokens place → ⊥
no-deep tokens params body skeleton place t d = tree-deep IsText tokens t.text place (attributes (params, body) t.reads.0 skeleton, t.reads.1) t.tokens_are t.within d

-- what the outcome of the reader by hand says of that of the table's
abbrev Told : Out Value → hand.Out ReadProgram → Type 0
Told o (hand.Done m r) = (u : Attributes Value) × (o ≡ Done u r) × (as_program u ≡ m)
Told o (hand.Bad r) = o ≡ Stop Syntax r
Told o (hand.Deep r) = o ≡ Stop Depth r
Told o (hand.Many r) = o ≡ Stop Operators r

told : (o : Out Value) → Told o (shape as_program o)
told (Done u r) = (u, refl, refl)
told (Stop Syntax r) = refl
told (Stop Depth r) = refl
told (Stop Operators r) = refl

told-by : (tokens : List Token) (h : hand.Out ReadProgram) → hand.program tokens ≡ h → Told (read tokens) h
told-by tokens h e = subst (Told (read tokens)) (program-same tokens ∙ e) (told (read tokens))

-- what was read by hand is a tree of the tokens
pub read-tree : (tokens rest : List Token) (m : ReadProgram) → hand.program tokens ≡ hand.Done m rest → HasTree tokens m.params m.body m.skeleton
read-tree tokens rest m e = let t = told-by tokens (hand.Done m rest) e in subst (λ (m : ReadProgram). HasTree tokens m.params m.body m.skeleton) t.2 (read-has tokens rest t.0 t.1)

-- and the only one
pub read-one : (tokens rest : List Token) (m : ReadProgram) (params : List Ident) (body : List StmtTree) (skeleton : List Skel)
    → hand.program tokens ≡ hand.Done m rest → HasTree tokens params body skeleton → (m.params ≡ params) × (m.body ≡ body) × (m.skeleton ≡ skeleton)
read-one tokens rest m params body skeleton e has = one-tree tokens m.params params m.body body m.skeleton skeleton (read-tree tokens rest m e) has

-- tokens that were read have no refusal
pub read-no-syntax : (tokens rest : List Token) (m : ReadProgram) (end place : ℕ) → hand.program tokens ≡ hand.Done m rest → IsSyntaxAt tokens end place → ⊥
read-no-syntax tokens rest m end place e s = no-syntax tokens m.params m.body m.skeleton end place (read-tree tokens rest m e) s

pub read-no-deep : (tokens rest : List Token) (m : ReadProgram) (place : ℕ) → hand.program tokens ≡ hand.Done m rest → IsDeepAt tokens place → ⊥
read-no-deep tokens rest m place e d = no-deep tokens m.params m.body m.skeleton place (read-tree tokens rest m e) d

-- a stop for syntax, and one for a limit, by hand
syntax-stop : (tokens rest : List Token) (end : ℕ) → hand.program tokens ≡ hand.Bad rest → IsSyntaxAt tokens end (place_of rest end)
syntax-stop tokens rest end e = stop-syntax tokens rest end (told-by tokens (hand.Bad rest) e)

depth-stop : (tokens rest : List Token) (end : ℕ) → hand.program tokens ≡ hand.Deep rest → IsDeepAt tokens (place_of rest end)
depth-stop tokens rest end e = stop-deep tokens rest end Depth not-depth (told-by tokens (hand.Deep rest) e)

operators-stop : (tokens rest : List Token) (end : ℕ) → hand.program tokens ≡ hand.Many rest → IsDeepAt tokens (place_of rest end)
operators-stop tokens rest end e = stop-deep tokens rest end Operators not-operators (told-by tokens (hand.Many rest) e)

-- a stop that is told as one for syntax is the first refusal
pub stopped-syntax : (tokens rest : List Token) (end place : ℕ) (why : stops.Stop) → StopsBy (hand.program tokens) rest why → refusal_of why (place_of rest end) ≡ error.Syntax place → IsSyntaxAt tokens end place
stopped-syntax tokens rest end place stop.Syntax s told = let same : place_of rest end ≡ place = cc in subst (λ p. IsSyntaxAt tokens end p) same (syntax-stop tokens rest end s)
stopped-syntax tokens rest end place stop.Depth s told = absurd (cc)
stopped-syntax tokens rest end place stop.Operators s told = absurd (cc)
stopped-syntax tokens rest end place stop.Memory s told = absurd (cc)

-- and one that is told as one for a limit
pub stopped-deep : (tokens rest : List Token) (end place : ℕ) (why : stops.Stop) → StopsBy (hand.program tokens) rest why → refusal_of why (place_of rest end) ≡ error.Deep place → IsDeepAt tokens place
stopped-deep tokens rest end place stop.Syntax s told = absurd (cc)
stopped-deep tokens rest end place stop.Depth s told = let same : place_of rest end ≡ place = cc in subst (λ p. IsDeepAt tokens p) same (depth-stop tokens rest end s)
stopped-deep tokens rest end place stop.Operators s told = let same : place_of rest end ≡ place = cc in subst (λ p. IsDeepAt tokens p) same (operators-stop tokens rest end s)
stopped-deep tokens rest end place stop.Memory s told = absurd (cc)

-- tokens with a tree are stopped for want of memory alone
pub stopped-tree : (tokens rest : List Token) (end : ℕ) (params : List Ident) (body : List StmtTree) (skeleton : List Skel) (why : stops.Stop)
    → StopsBy (hand.program tokens) rest why → HasTree tokens params body skeleton → refusal_of why (place_of rest end) ≡ Memory
stopped-tree tokens rest end params body skeleton stop.Syntax s has = absurd (no-syntax tokens params body skeleton end (place_of rest end) has (syntax-stop tokens rest end s))
stopped-tree tokens rest end params body skeleton stop.Depth s has = absurd (no-deep tokens params body skeleton (place_of rest end) has (depth-stop tokens rest end s))
stopped-tree tokens rest end params body skeleton stop.Operators s has = absurd (no-deep tokens params body skeleton (place_of rest end) has (operators-stop tokens rest end s))
stopped-tree tokens rest end params body skeleton stop.Memory s has = refl

-- where the first refusal is for syntax, the stop is told as that
pub told-syntax : (tokens rest : List Token) (end place : ℕ) (why : stops.Stop) → StopsBy (hand.program tokens) rest why → IsSyntaxAt tokens end place
    → (refusal_of why (place_of rest end) ≡ error.Syntax place) ⊎ (refusal_of why (place_of rest end) ≡ Memory)
told-syntax tokens rest end place stop.Syntax s is = inl (ap error.Syntax (one-syntax IsText tokens end (place_of rest end) place (syntax-stop tokens rest end s) is))
told-syntax tokens rest end place stop.Depth s is = absurd (one-kind IsText tokens end place (place_of rest end) is (depth-stop tokens rest end s))
told-syntax tokens rest end place stop.Operators s is = absurd (one-kind IsText tokens end place (place_of rest end) is (operators-stop tokens rest end s))
told-syntax tokens rest end place stop.Memory s is = inr refl

-- and where it is for a limit
pub told-deep : (tokens rest : List Token) (end place : ℕ) (why : stops.Stop) → StopsBy (hand.program tokens) rest why → IsDeepAt tokens place
    → (refusal_of why (place_of rest end) ≡ error.Deep place) ⊎ (refusal_of why (place_of rest end) ≡ Memory)
told-deep tokens rest end place stop.Syntax s is = absurd (one-kind IsText tokens end (place_of rest end) place (syntax-stop tokens rest end s) is)
told-deep tokens rest end place stop.Depth s is = inl (ap error.Deep (one-deep IsText tokens (place_of rest end) place (depth-stop tokens rest end s) is))
told-deep tokens rest end place stop.Operators s is = inl (ap error.Deep (one-deep IsText tokens (place_of rest end) place (operators-stop tokens rest end s) is))
told-deep tokens rest end place stop.Memory s is = inr refl
