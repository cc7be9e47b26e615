-- What reading a text comes to: what it gives, or a stop at its first token past a limit.
use Rattle.std.proofs.Common.{◌≡◌, Bool, true, false, not, ◌&&◌, ◌||◌, List, [], ◌∷◌, ◌++◌, refl, sym, ap, ap₂, true≢false}
use Rattle.prv_lex.specs.declared.token.Token.{Token}
use Rattle.prv_rule.specs.Texts.{Laid, tokens_of}
use Rattle.prv_rule.specs.Limits.{is_deep, is_many, is_within}
use Rattle.prv_rule.specs.Rules.{Attributes, Out, Stop, Depth, Operators, bind}
use Rattle.prv_rule.proofs.Tools.{tokens-append}

abbrev pub shown_at : {A : Type 0} → Bool → Bool → List Token → Out A → Out A
shown_at true many ts o = Stop Depth ts
shown_at false true ts o = Stop Operators ts
shown_at false false ts o = o

-- the outcome behind a text, or the stop at its first token past a limit; a rest follows the text
abbrev pub shown : {A : Type 0} → List Laid → List Token → Out A → Out A
shown [] rest o = o
shown (t ∷ text) rest o = shown_at (is_deep t) (is_many t) (tokens_of (t ∷ text) ++ rest) (shown text rest o)

-- a text behind another one
pub shown-append : {A : Type 0} (a b : List Laid) (rest : List Token) (o : Out A) → shown (a ++ b) rest o ≡ shown a (tokens_of b ++ rest) (shown b rest o)
shown-append [] b rest o = refl
shown-append (t ∷ a) b rest o = ap₂ (λ ts o. shown_at (is_deep t) (is_many t) ts o) (ap (λ r. t.token ∷ r) (tokens-append a b rest)) (shown-append a b rest o)

bind-at : {A B : Type 0} (deep many : Bool) (ts : List Token) (o : Out A) (next : Attributes A → List Token → Out B) (o' : Out B) → bind o next ≡ o' → bind (shown_at deep many ts o) next ≡ shown_at deep many ts o'
bind-at true many ts o next o' e = refl
bind-at false true ts o next o' e = refl
bind-at false false ts o next o' e = e

-- a reader behind a text
pub bind-shown : {A B : Type 0} (a : List Laid) (rest : List Token) (o : Out A) (next : Attributes A → List Token → Out B) → bind (shown a rest o) next ≡ shown a rest (bind o next)
bind-shown [] rest o next = refl
bind-shown (t ∷ a) rest o next = bind-at (is_deep t) (is_many t) (tokens_of (t ∷ a) ++ rest) (shown a rest o) next (shown a rest (bind o next)) (bind-shown a rest o next)

within-at : {A : Type 0} (deep many within : Bool) (ts : List Token) (o o' : Out A) → (not (deep || many) && within) ≡ true → (within ≡ true → o ≡ o') → shown_at deep many ts o ≡ o'
within-at true many within ts o o' e f = absurd (true≢false (sym e))
within-at false true within ts o o' e f = absurd (true≢false (sym e))
within-at false false within ts o o' e f = f e

-- a text within the limits
pub shown-within : {A : Type 0} (a : List Laid) (rest : List Token) (o : Out A) → is_within a ≡ true → shown a rest o ≡ o
shown-within [] rest o e = refl
shown-within (t ∷ a) rest o e = within-at (is_deep t) (is_many t) (is_within a) (tokens_of (t ∷ a) ++ rest) (shown a rest o) o e (shown-within a rest o)
