-- Words are the integers from -2147483648 to 2147483647. This says what each operator gives.
-- From ISO/IEC 9899:1999: `/` truncates toward zero and `%` goes with it (6.5.5), and comparisons and logical operators give 0 or 1 (6.5.8, 6.5.9, 6.5.13, 6.5.14). That sums wrap, that MIN / -1 is MIN and that shifts take five bits is this project's own.
use Rattle.std.specs.Prelude.{ℕ, zero, suc, ◌%◌, ◌^◌, nat_lt, Bool, true, false, ◌&&◌, ◌||◌, not, if◌then◌else◌, Option, Some, None, ℤ, pos, negsuc, ◌+ℤ◌, ◌-ℤ◌, ◌*ℤ◌, neg_ℤ, int_lt, int_le, int_div, int_rem, FitsSigned}
use Rattle.std.specs.Ordering.{int_eq}
use Rattle.std.specs.Int.{w32, cast_unsigned, int_wrap, int_shl, int_shr, int_bit_and, int_bit_or, int_bit_xor, int_bit_not}
use Rattle.prv_model.specs.declared.op.UnOp.{UnOp}
use Rattle.prv_model.specs.declared.op.UnOp.TheVariants.{Neg, Not, Flip}
use Rattle.prv_model.specs.declared.op.BinOp.{BinOp}
use Rattle.prv_model.specs.declared.op.BinOp.TheVariants.{Add, Sub, Mul, Div, Rem, Shl, Shr, And, Or, Xor, Lt, Le, Gt, Ge, Eq, Ne, AndAlso, OrElse}

-- a number is a word
abbrev pub IsWord : ℤ → Type 0
IsWord n = FitsSigned w32 n

-- the same as a test
abbrev pub is_word : ℤ → Bool
is_word (pos n) = nat_lt n (2 ^ 31)
is_word (negsuc n) = nat_lt n (2 ^ 31)

-- the word that differs from n by a multiple of 2^32
abbrev pub wrap : ℤ → ℤ
wrap n = int_wrap w32 n

-- a word is 0, which stands for false
abbrev pub is_zero : ℤ → Bool
is_zero (pos zero) = true
is_zero (pos (suc n)) = false
is_zero (negsuc n) = false

-- 1 for true, and 0 for false
abbrev pub flag : Bool → ℤ
flag true = pos 1
flag false = pos 0

-- 1 for a nonzero word, and 0 for 0
abbrev pub truth : ℤ → ℤ
truth n = flag (not (is_zero n))

-- the low five bits of a shift's amount
abbrev pub amount : ℤ → ℕ
amount n = cast_unsigned w32 n % 32

-- an operator on one word
abbrev pub unary : UnOp → ℤ → ℤ
unary Neg a = wrap (neg_ℤ a)
unary Not a = flag (is_zero a)
unary Flip a = int_bit_not w32 a

-- an operator on two words; none for division by 0
abbrev pub binary : BinOp → ℤ → ℤ → Option ℤ
binary Add a b = Some (wrap (a +ℤ b))
binary Sub a b = Some (wrap (a -ℤ b))
binary Mul a b = Some (wrap (a *ℤ b))
binary Div a b = if is_zero b then None else Some (wrap (int_div a b))
binary Rem a b = if is_zero b then None else Some (int_rem a b)
binary Shl a b = Some (int_shl w32 a (amount b))
binary Shr a b = Some (int_shr a (amount b))
binary And a b = Some (int_bit_and w32 a b)
binary Or a b = Some (int_bit_or w32 a b)
binary Xor a b = Some (int_bit_xor w32 a b)
binary Lt a b = Some (flag (int_lt a b))
binary Le a b = Some (flag (int_le a b))
binary Gt a b = Some (flag (int_lt b a))
binary Ge a b = Some (flag (int_le b a))
binary Eq a b = Some (flag (int_eq a b))
binary Ne a b = Some (flag (not (int_eq a b)))
binary AndAlso a b = Some (flag (not (is_zero a) && not (is_zero b)))
binary OrElse a b = Some (flag (not (is_zero a) || not (is_zero b)))
