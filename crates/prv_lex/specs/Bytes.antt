-- Which bytes are blanks, letters and digits. Letters are those of ASCII.
use Rattle.std.specs.Prelude.{ℕ, ◌==◌, Bool, ◌||◌, not}
use Rattle.std.specs.Char.{is_ascii_alphabetic, is_ascii_digit}
use Rattle.prv_lex.specs.declared.class.Class.{Class}
use Rattle.prv_lex.specs.declared.class.Class.TheVariants.{Word, Digit, Line}

-- space, tab, CR and LF
abbrev pub is_blank : ℕ → Bool
is_blank b = (b == 32) || (b == 9) || (b == 13) || (b == 10)

-- a letter or `_`, with which a name begins
abbrev pub is_letter : ℕ → Bool
is_letter b = is_ascii_alphabetic b || (b == 95)

-- a decimal digit
abbrev pub is_digit : ℕ → Bool
is_digit b = is_ascii_digit b

-- letters and digits, of which a word is made
abbrev pub is_word_byte : ℕ → Bool
is_word_byte b = is_letter b || is_digit b

-- every byte but LF, which ends a line
abbrev pub is_line_byte : ℕ → Bool
is_line_byte b = not (b == 10)

-- the bytes of a class
abbrev pub is_in : Class → ℕ → Bool
is_in Word b = is_word_byte b
is_in Digit b = is_digit b
is_in Line b = is_line_byte b
