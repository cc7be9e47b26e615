-- The value of a term on an input, and which inputs a region holds.
use Rattle.std.specs.Prelude.{◌≡◌, ℕ, nat_lt, Bool, true, ◌&&◌, not, List, ℤ, pos, if◌then◌else◌, unwrap_or, slice_get}
use Rattle.std.specs.List.{list_all}
use Rattle.prv_model.specs.Words.{is_zero, is_word, binary}
use Rattle.prv_model.specs.declared.op.BinOp.{BinOp}
use Rattle.prv_model.specs.declared.op.BinOp.TheVariants as b
use Rattle.prv_model.specs.declared.op.TermOp.{TermOp}
use Rattle.prv_model.specs.declared.op.TermOp.TheVariants.{Add, Sub, Mul, Div, Rem, Shl, Shr, And, Or, Xor, Lt, Le, Eq, Ne}
use Rattle.prv_model.specs.declared.term.Term.{Term}
use Rattle.prv_model.specs.declared.term.Term.TheOpen.{Term-F}
use Rattle.prv_model.specs.declared.term.Term.TheFolds.{fold-Term}

-- the program's operator of a term's operator
abbrev pub bin_op : TermOp → BinOp
bin_op Add = b.Add
bin_op Sub = b.Sub
bin_op Mul = b.Mul
bin_op Div = b.Div
bin_op Rem = b.Rem
bin_op Shl = b.Shl
bin_op Shr = b.Shr
bin_op And = b.And
bin_op Or = b.Or
bin_op Xor = b.Xor
bin_op Lt = b.Lt
bin_op Le = b.Le
bin_op Eq = b.Eq
bin_op Ne = b.Ne

-- a term's operator on two words: the program's operator, made total by x / 0 = 0 and x % 0 = 0
abbrev pub total : TermOp → ℤ → ℤ → ℤ
total op x y = unwrap_or (binary (bin_op op) x y) (pos 0)

-- one node, with the value of each child in its place; a parameter past the input's words is 0
abbrev pub node_term_value : Term-F (List ℤ → ℤ) → List ℤ → ℤ
node_term_value (Term-F.Param k) x = unwrap_or (slice_get x k) (pos 0)
node_term_value (Term-F.Op op a b) x = total op (a x) (b x)
node_term_value (Term-F.Pick test chosen other) x = if is_zero (test x) then other x else chosen x
node_term_value (Term-F.Num n) x = n

-- the value of a term on an input
abbrev pub term_value : Term → List ℤ → ℤ
term_value = fold-Term (List ℤ → ℤ) node_term_value

-- one node, with the test of each child in its place
abbrev pub node_is_term : ℕ → Term-F Bool → Bool
node_is_term n (Term-F.Param k) = nat_lt k n
node_is_term n (Term-F.Op op a b) = a && b
node_is_term n (Term-F.Pick test chosen other) = test && (chosen && other)
node_is_term n (Term-F.Num w) = is_word w

-- a term over n parameters: each parameter in it is below n, and each numeral is a word
abbrev pub IsTerm : ℕ → Term → Type 0
IsTerm n t = fold-Term Bool (node_is_term n) t ≡ true

-- a region, which is a list of terms, holds an input where each of the terms is nonzero
abbrev pub holds : List Term → List ℤ → Bool
holds terms x = list_all (λ t. not (is_zero (term_value t x))) terms
