-- The parameters of a tree in which no name is wrong are among its variables, each once.
use Rattle.std.proofs.Common.{◌≡◌, ℕ, ◌+◌, ◌≤◌, Bool, true, false, List, [], ◌∷◌, ◌++◌, nat_le, length, map, fold, Option, Some, None, refl, ◌∙◌, ap, arith, if◌then◌else◌}
use Rattle.prv_parse.specs.declared.tree.Ident.{Ident}
use Rattle.prv_parse.specs.declared.tree.StmtTree.{StmtTree}
use Rattle.prv_names.specs.Sayings.{joined, declared_by, said, said_of}
use Rattle.prv_names.specs.Scopes.{has, Standing, start, leave, after, first_fault}
use Rattle.prv_names.specs.Versions.{variables, above, too_many}
use Rattle.prv_parse.specs.Trees.{body_count}
use Rattle.std.specs.Option.{option_or}
use Rattle.std.proofs.lemmas.List.{length-append}
use Rattle.std.proofs.lemmas.Bool.Decides.{nat_tests}
use Rattle.prv_names.specs.declared.error.What.{What}
use Rattle.prv_names.specs.declared.error.What.TheVariants.{Params, Vars, Stmts}
use Rattle.prv_names.proofs.NestingLemmas.{length-add}
use Rattle.prv_names.specs.declared.said.Said.{Said}
use Rattle.prv_names.specs.declared.said.Said.TheVariants.{Opens, Closes, Declares, Enters, Uses}
use Rattle.prv_names.specs.declared.error.NameError.{NameError}
use Rattle.prv_names.specs.declared.error.NameError.TheVariants.{Twice, TooMany}

leave-declared : (s : Standing) (around : List (List (List ℕ))) → (leave s around).declared ≡ s.declared
leave-declared s [] = refl
leave-declared s (names ∷ outer) = refl

-- what is declared stays declared
declared-after : (s : Standing) (next : Said) → length s.declared ≤ length (after s next).declared
declared-after s Opens = omega arith
declared-after s Closes = rw (leave-declared s s.around) (omega arith)
declared-after s (Declares x) = omega arith
declared-after s (Enters x) = length-add x s.declared
declared-after s (Uses x) = omega arith

declared-all : (s : Standing) (text : List Said) → length s.declared ≤ length (fold after s text).declared
declared-all s [] = omega arith
declared-all s (next ∷ rest) =
    let here : length s.declared ≤ length (after s next).declared = declared-after s next in
    let there : length (after s next).declared ≤ length (fold after (after s next) rest).declared = declared-all (after s next) rest in
    omega arith

-- nothing is wrong with one thing, nor with what follows
no-fault : (b : Bool) (e : NameError) (rest : Option NameError) → option_or (if b then Some e else None) rest ≡ None → (b ≡ false) × (rest ≡ None)
no-fault true e rest h = cc
no-fault false e rest h = (refl, h)

-- each parameter adds one
params-declared : (s : Standing) (params : List Ident) (rest : List Said)
    → first_fault s (joined (map (λ x. declared_by x []) params) ++ rest) ≡ None
    → length params + length s.declared ≤ length (fold after s (joined (map (λ x. declared_by x []) params) ++ rest)).declared
params-declared s [] rest right = let more : length s.declared ≤ length (fold after s rest).declared = declared-all s rest in omega arith
params-declared s (x ∷ params) rest right =
    let next : Standing = after s (Enters x.name) in
    let later : List Said = joined (map (λ y. declared_by y []) params) ++ rest in
    let both : (has x.name s.declared ≡ false) × (first_fault next later ≡ None) = no-fault (has x.name s.declared) (Twice x.place) (first_fault next later) right in
    let grown : length next.declared ≡ length s.declared + 1 = ap (λ (b : Bool). length (if b then s.declared else s.declared ++ x.name ∷ [])) both.0 ∙ length-append s.declared (x.name ∷ []) in
    let deep : length params + length next.declared ≤ length (fold after next later).declared = params-declared next params rest both.1 in
    omega arith

pub params-are-variables : (params : List Ident) (body : List StmtTree) → first_fault start (said_of params body) ≡ None → length params ≤ length (variables params body)
params-are-variables params body right =
    let all : length params + 0 ≤ length (variables params body) = params-declared start params (joined (map (λ s. said s) body)) right in
    omega arith

within : (what : What) (most n : ℕ) (rest : Option NameError) → option_or (above what most n) rest ≡ None → (n ≤ most) × (rest ≡ None)
within what most n rest h = by (nat_le n most) refl h
  where
    by : (b : Bool) → nat_le n most ≡ b → option_or (if b then None else Some (TooMany what n)) rest ≡ None → (n ≤ most) × (rest ≡ None)
    by true e h = (grind (arith, nat_tests), h)
    by false e h = cc

-- a program that passes no limit
pub within-limits : (params : List Ident) (body : List StmtTree) → too_many params body ≡ None
    → (length params ≤ 8) × (length (variables params body) ≤ 64) × (body_count body ≤ 1000)
within-limits params body h =
    let one = within Params 8 (length params) (option_or (above Vars 64 (length (variables params body))) (above Stmts 1000 (body_count body))) h in
    let two = within Vars 64 (length (variables params body)) (above Stmts 1000 (body_count body)) one.1 in
    let three = within Stmts 1000 (body_count body) None (option_or-none _ ∙ two.1) in
    (one.0, two.0, three.0)
  where
    option_or-none : (o : Option NameError) → option_or o None ≡ o
    option_or-none None = refl
    option_or-none (Some e) = refl
