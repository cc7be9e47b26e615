-- One step of the reader's recursion over parameters.
use Rattle.std.proofs.Common.{◌≡◌, ℕ, zero, suc, ◌-◌, ◌<◌, List, [], ◌∷◌, ◌++◌, refl, sym, ap, subst, arith, ◌∙◌, true, false, Ok, append_assoc}
use Rattle.prv_lex.specs.declared.token.Token.{Token}
use Rattle.prv_parse.specs.Reader.{Out, Done, Bad, Deep, Many, bind, Named, ReadParams, params_with, param, params, params_behind, params_at, is_comma}
use Rattle.prv_rule.specs.Skeletons.{kept}
use Rattle.prv_parse.specs.Cursors.{StopsBy}
use Rattle.prv_parse.specs.Fixed.{head_is}
use Rattle.prv_parse.specs.Statements.{ReadsParams, skeleton_in, named_with}
use Rattle.prv_parse.specs.MainFunctions.{behind_params}
use Rattle.prv_rule.specs.declared.skeleton.Skel.{Skel}
use Rattle.prv_parse.specs.declared.tree.Ident.{Ident}
use Rattle.prv_parse.specs.declared.fixed.Fixed.TheVariants.{Comma}
use Rattle.prv_parse.specs.declared.stop.Stop.{Stop}
use Rattle.prv_parse.proofs.Steps.{stops-first}

pub params-step : (fuel : ℕ) (ts : List Token) → 0 < fuel → params fuel ts ≡ bind (param ts) (λ x r. params_behind x (params (fuel - 1)) r)
params-step zero ts h = absurd (omega arith)
params-step (suc fuel) ts h = let e : suc fuel - 1 ≡ fuel = omega arith in rw e

-- parameters behind none
pub params-behind_none : (out : Out ReadParams) → out ≡ behind_params [] [] out
params-behind_none (Done r rest) = refl
params-behind_none (Bad rest) = refl
params-behind_none (Deep rest) = refl
params-behind_none (Many rest) = refl

pub params-first : (count : ℕ) (ts : List Token) (all : List Ident) → all ≡ [] → params count ts ≡ behind_params all [] (params (count - 0) ts)
params-first count ts all none =
    let same : count - 0 ≡ count = omega arith in
    params-behind_none (params count ts) ∙ ap (λ a. behind_params a [] (params count ts)) (sym none) ∙ ap (λ k. behind_params all [] (params k ts)) (sym same)

-- one parameter and a comma in front of the others
pub params-behind_more : (out : Out ReadParams) (all : List Ident) (x : Named) (t : Token) (skeleton : List Skel)
    → behind_params all skeleton (bind out (λ others u. Done (params_with (x.name ∷ others.names) (x.skeleton ++ kept t ∷ others.skeleton)) u))
    ≡ behind_params (all ++ x.name ∷ []) ((skeleton ++ x.skeleton) ++ kept t ∷ []) out
params-behind_more (Done r rest) all x t skeleton =
    rw (append_assoc all (x.name ∷ []) r.names, append_assoc (skeleton ++ x.skeleton) (kept t ∷ []) r.skeleton, append_assoc skeleton x.skeleton (kept t ∷ r.skeleton))
params-behind_more (Bad rest) all x t skeleton = refl
params-behind_more (Deep rest) all x t skeleton = refl
params-behind_more (Many rest) all x t skeleton = refl

pub params-next : (out : Out ReadParams) (fuel : ℕ) (ts mid rest : List Token) (t : Token) (all : List Ident) (x : Ident) (skeleton front : List Skel)
    → out ≡ behind_params all skeleton (params fuel ts) → 0 < fuel → param ts ≡ Done (named_with x front) mid → mid ≡ t ∷ rest → is_comma t.tok ≡ true
    → out ≡ behind_params (all ++ x ∷ []) ((skeleton ++ front) ++ kept t ∷ []) (params (fuel - 1) rest)
params-next out fuel ts mid rest t all x skeleton front so_far more first next comma =
    so_far ∙ ap (behind_params all skeleton) (params-step fuel ts more ∙ ap (λ o. bind o (λ y r. params_behind y (params (fuel - 1)) r)) first
    ∙ ap (params_behind (named_with x front) (params (fuel - 1))) next ∙ ap (λ b. params_at b (named_with x front) (params (fuel - 1)) t rest) comma)
    ∙ params-behind_more (params (fuel - 1) rest) all (named_with x front) t skeleton

-- a parameter behind which no comma comes
pub params-alone : (x : Named) (others : List Token → Out ReadParams) (ts : List Token) → head_is Comma ts ≡ false → params_behind x others ts ≡ Done (params_with (x.name ∷ []) x.skeleton) ts
params-alone x others [] h = refl
params-alone x others (t ∷ rest) h = ap (λ b. params_at b x others t rest) h

pub params-last : (out : Out ReadParams) (fuel : ℕ) (ts mid : List Token) (all : List Ident) (x : Ident) (skeleton front : List Skel)
    → out ≡ behind_params all skeleton (params fuel ts) → 0 < fuel → param ts ≡ Done (named_with x front) mid → head_is Comma mid ≡ false
    → out ≡ Done (params_with (all ++ x ∷ []) (skeleton ++ front)) mid
params-last out fuel ts mid all x skeleton front so_far more first last =
    so_far ∙ ap (behind_params all skeleton) (params-step fuel ts more ∙ ap (λ o. bind o (λ y r. params_behind y (params (fuel - 1)) r)) first
    ∙ params-alone (named_with x front) (params (fuel - 1)) mid last)

pub params-stop : (out : Out ReadParams) (fuel : ℕ) (ts after : List Token) (all : List Ident) (skeleton : List Skel) (why : Stop)
    → out ≡ behind_params all skeleton (params fuel ts) → 0 < fuel → StopsBy (param ts) after why → StopsBy out after why
params-stop out fuel ts after all skeleton why so_far more first =
    subst (λ o. StopsBy o after why) (sym (so_far ∙ ap (behind_params all skeleton) (params-step fuel ts more)))
    (stops-first (bind (param ts) (λ x r. params_behind x (params (fuel - 1)) r)) after _ why (stops-first (param ts) after _ why first))

-- a list of parameters that was read whole
pub params-done : (out : Out ReadParams) (rest : List Token) (old new : List Skel) (all : List Ident) (s : List Skel)
    → out ≡ Done (params_with all s) rest → new ≡ old ++ s → ReadsParams out rest old new (Ok all)
params-done out rest old new all s h n =
    let e = ap (skeleton_in (λ r. r.skeleton)) h in
    (h ∙ ap (λ k. Done (params_with all k) rest) (sym e), n ∙ ap (λ k. old ++ k) (sym e))
