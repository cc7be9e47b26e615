-- Rows on which the definitions were worked out by hand.
use Rattle.std.proofs.Common.{◌≡◌, Bool, true, List, [], ◌∷◌, ℤ, pos, negsuc, int_eq, refl}
use Rattle.std.specs.List.{list_all}
use Rattle.prv_model.specs.declared.op.TermOp.{TermOp}
use Rattle.prv_model.specs.declared.op.TermOp.TheVariants.{Add, Sub, Mul, Div, Rem, Shl, Shr, Lt, Le, Ne}
use Rattle.prv_bits.specs.Numbers.{word, bits_of}
use Rattle.prv_bits.specs.Operators.{operate}

-- an operator, its operands and its value
abbrev row : TermOp → ℤ → ℤ → ℤ → Bool
row op a b c = int_eq (word (operate op (bits_of a) (bits_of b))) c

-- MIN is -2147483648, which is `negsuc 2147483647`
rows : List Bool
rows =
    row Add (pos 2147483647) (pos 1) (negsuc 2147483647) ∷
    row Sub (negsuc 2147483647) (pos 1) (pos 2147483647) ∷
    row Mul (pos 65536) (pos 65536) (pos 0) ∷
    row Mul (negsuc 6) (pos 33) (negsuc 230) ∷
    row Div (negsuc 2147483647) (negsuc 0) (negsuc 2147483647) ∷
    row Rem (negsuc 2147483647) (negsuc 0) (pos 0) ∷
    row Div (negsuc 6) (pos 2) (negsuc 2) ∷
    row Rem (negsuc 6) (pos 2) (negsuc 0) ∷
    row Rem (pos 7) (negsuc 1) (pos 1) ∷
    row Div (pos 31) (pos 0) (pos 0) ∷
    row Rem (pos 31) (pos 0) (pos 0) ∷
    row Shl (pos 1) (pos 33) (pos 2) ∷
    row Shr (negsuc 7) (pos 33) (negsuc 3) ∷
    row Lt (negsuc 2147483647) (pos 2147483647) (pos 1) ∷
    row Le (pos 2) (pos 2) (pos 1) ∷
    row Ne (pos 2) (pos 2) (pos 0) ∷
    []

rows-hold : list_all (λ b. b) rows ≡ true
unfolding rows
rows-hold = refl
