-- The reserved words.
use Rattle.std.specs.Prelude.{ℕ, List, [], ◌∷◌, Option, codes}
use Rattle.std.specs.List.{find}
use Rattle.std.specs.Str.{bytes_eq}
use Rattle.prv_lex.specs.declared.token.Key.{Key}
use Rattle.prv_lex.specs.declared.token.Key.TheVariants.{Int, Main, If, Else, While, Return, Out, Assert}

-- how a reserved word is spelled
abbrev pub keyword : Key → List ℕ
keyword Int = codes "int"
keyword Main = codes "main"
keyword If = codes "if"
keyword Else = codes "else"
keyword While = codes "while"
keyword Return = codes "return"
keyword Out = codes "out"
keyword Assert = codes "assert"

-- all reserved words
abbrev pub keywords : List Key
keywords = Int ∷ Main ∷ If ∷ Else ∷ While ∷ Return ∷ Out ∷ Assert ∷ []

-- the reserved word that a word is, if it is one
abbrev pub keyword_of : List ℕ → Option Key
keyword_of word = find (λ k. bytes_eq word (keyword k)) keywords
