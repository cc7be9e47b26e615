-- One step of the reader's recursions.
use Rattle.std.proofs.Common.{◌≡◌, ℕ, zero, suc, ◌-◌, ◌<◌, List, [], ◌∷◌, refl, sym, ap, subst, arith, ◌∙◌, Bool, true, false, Some, None, Result}
use Rattle.prv_lex.specs.declared.token.Token.{Token}
use Rattle.prv_parse.specs.Reader.{Out, Done, Bad, Deep, Many, bind, Read, ReadExpr, readers, precedence_of, tail, tail_at, choice_behind, head_operator, operand_of}
use Rattle.std.specs.Prelude.{nat_le, if◌then◌else◌}
use Rattle.prv_model.specs.declared.op.BinOp.{BinOp}
use Rattle.prv_parse.specs.declared.tree.ExprTree.TheVariants as expr
use Rattle.prv_parse.specs.Cursors.{ReadsExpr, StopsBy, joined, head_joined}
use Rattle.prv_parse.specs.declared.stop.Stop.{Stop}
use Rattle.prv_parse.specs.declared.stop.Stop.TheVariants as stop
use Rattle.prv_parse.specs.declared.expression.ReadExpr.{ReadExpr as Found}

pub expression-step : (room n : ℕ) (ts : List Token) → 0 < room
    → (readers room).expression n ts ≡ bind (precedence_of 10 (readers room).operand n ts) (λ c r. choice_behind (readers (room - 1)).expression c r)
expression-step zero n ts h = absurd (omega arith)
expression-step (suc room) n ts h = let e : suc room - 1 ≡ room = omega arith in rw e

pub operand-step : (room n : ℕ) (ts : List Token) → 0 < room
    → (readers room).operand n ts ≡ operand_of (readers (room - 1)).expression (readers (room - 1)).operand n ts
operand-step zero n ts h = absurd (omega arith)
operand-step (suc room) n ts h = let e : suc room - 1 ≡ room = omega arith in rw e

pub precedence-step : (k : ℕ) (operand : ReadExpr) (n : ℕ) (ts : List Token) → 0 < k
    → precedence_of k operand n ts ≡ bind (precedence_of (k - 1) operand n ts) (λ left rest. tail k (precedence_of (k - 1) operand) 257 left rest)
precedence-step zero operand n ts h = absurd (omega arith)
precedence-step (suc k) operand n ts h = let e : suc k - 1 ≡ k = omega arith in rw e

pub tail-at-joined : (op : BinOp) (first : Read) (next : ReadExpr) (more : Read → List Token → Out Read) (t : Token) (rest : List Token)
    → tail_at (Some op) first next more t rest ≡ bind (joined op first next t rest) more
tail-at-joined op first next more t rest = many (nat_le 256 first.before) (next (suc first.before) rest)
  where
    read : (o : Out Read) → bind o (λ right s. more (record { tree = expr.Bin op first.tree right.tree; before = right.before }) s)
        ≡ bind (bind o (λ second s. Done (record { tree = expr.Bin op first.tree second.tree; before = second.before }) s)) more
    read (Done a r) = refl
    read (Bad r) = refl
    read (Deep r) = refl
    read (Many r) = refl

    many : (b : Bool) (o : Out Read) → (if b then Many (t ∷ rest) else bind o (λ right s. more (record { tree = expr.Bin op first.tree right.tree; before = right.before }) s))
        ≡ bind (if b then Many (t ∷ rest) else bind o (λ second s. Done (record { tree = expr.Bin op first.tree second.tree; before = second.before }) s)) more
    many true o = refl
    many false o = read o

-- what follows a left operand, where an operator of the precedence comes next
pub tail-joined : (k : ℕ) (next : ReadExpr) (fuel : ℕ) (first : Read) (op : BinOp) (ts : List Token) → 0 < fuel → head_operator k ts ≡ Some op
    → tail k next fuel first ts ≡ bind (head_joined op first next ts) (λ left rest. tail k next (fuel - 1) left rest)
tail-joined k next fuel first op [] h e = cc
tail-joined k next zero first op (t ∷ rest) h e = absurd (omega arith)
tail-joined k next (suc fuel) first op (t ∷ rest) h e =
    let less : suc fuel - 1 ≡ fuel = omega arith in
    rw less (ap (λ o. tail_at o first next (tail k next fuel) t rest) e ∙ tail-at-joined op first next (λ left rest. tail k next fuel left rest) t rest)

-- and where none does
pub tail-none : (k : ℕ) (next : ReadExpr) (fuel : ℕ) (first : Read) (ts : List Token) → head_operator k ts ≡ None → tail k next fuel first ts ≡ Done first ts
tail-none k next zero first ts e = refl
tail-none k next (suc fuel) first [] e = refl
tail-none k next (suc fuel) first (t ∷ rest) e = ap (λ o. tail_at o first next (tail k next fuel) t rest) e

-- what a call reads, where its reader comes to the same
pub reads-as : (out out' : Out Read) (rest : List Token) (r : Result Found Stop) → out ≡ out' → ReadsExpr out' rest r → ReadsExpr out rest r
reads-as out out' rest r e h = subst (λ o. ReadsExpr o rest r) (sym e) h

-- a stop of a first reader is one of the reader with what follows
pub stops-first : {A B : Type 0} (out : Out A) (rest : List Token) (next : A → List Token → Out B) (s : Stop) → StopsBy out rest s → StopsBy (bind out next) rest s
stops-first out rest next stop.Syntax h = ap (λ o. bind o next) h
stops-first out rest next stop.Depth h = ap (λ o. bind o next) h
stops-first out rest next stop.Operators h = ap (λ o. bind o next) h
stops-first out rest next stop.Memory h = h
