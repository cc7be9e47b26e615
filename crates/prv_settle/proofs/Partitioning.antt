-- Terms without repeats, one after another.
use Rattle.std.proofs.Common.{◌≡◌, Bool, true, false, List, [], ◌∷◌, ◌++◌, if◌then◌else◌, sym, ap, ◌∙◌, append_assoc, append-nil}
use Rattle.prv_model.specs.declared.term.Term.{Term}
use Rattle.prv_pool.specs.Tables.{has_term}
use Rattle.prv_part.specs.Literals.{without_repeats}

-- what a term adds behind some terms: itself, where it stands neither in what was seen nor among them
abbrev pub added : List Term → List Term → Term → List Term
added seen kept t = if has_term (seen ++ kept) t then [] else t ∷ []

pub repeats-push : (seen ts : List Term) (t : Term) → without_repeats seen (ts ++ t ∷ []) ≡ without_repeats seen ts ++ added seen (without_repeats seen ts) t
repeats-push seen [] t = ap (λ (all : List Term). if has_term all t then [] else t ∷ []) (sym (append-nil seen))
repeats-push seen (u ∷ ts) t = by (has_term seen u) (repeats-push seen ts t) (repeats-push (seen ++ u ∷ []) ts t)
  where
    by : (b : Bool) → without_repeats seen (ts ++ t ∷ []) ≡ without_repeats seen ts ++ added seen (without_repeats seen ts) t →
        without_repeats (seen ++ u ∷ []) (ts ++ t ∷ []) ≡ without_repeats (seen ++ u ∷ []) ts ++ added (seen ++ u ∷ []) (without_repeats (seen ++ u ∷ []) ts) t →
        (if b then without_repeats seen (ts ++ t ∷ []) else (u ∷ without_repeats (seen ++ u ∷ []) (ts ++ t ∷ []))) ≡
        (if b then without_repeats seen ts else (u ∷ without_repeats (seen ++ u ∷ []) ts)) ++ added seen (if b then without_repeats seen ts else (u ∷ without_repeats (seen ++ u ∷ []) ts)) t
    by true known new = known
    by false known new =
        ap (λ (all : List Term). u ∷ all) new
        ∙ ap (λ (all : List Term). u ∷ (without_repeats (seen ++ u ∷ []) ts ++ (if has_term all t then [] else t ∷ []))) (append_assoc seen (u ∷ []) (without_repeats (seen ++ u ∷ []) ts))

-- two lists one after another
pub repeats-append : (seen a b : List Term) → without_repeats seen (a ++ b) ≡ without_repeats seen a ++ without_repeats (seen ++ without_repeats seen a) b
repeats-append seen [] b = ap (λ (all : List Term). without_repeats all b) (sym (append-nil seen))
repeats-append seen (u ∷ a) b = by (has_term seen u) (repeats-append seen a b) (repeats-append (seen ++ u ∷ []) a b)
  where
    by : (z : Bool) → without_repeats seen (a ++ b) ≡ without_repeats seen a ++ without_repeats (seen ++ without_repeats seen a) b →
        without_repeats (seen ++ u ∷ []) (a ++ b) ≡ without_repeats (seen ++ u ∷ []) a ++ without_repeats ((seen ++ u ∷ []) ++ without_repeats (seen ++ u ∷ []) a) b →
        (if z then without_repeats seen (a ++ b) else (u ∷ without_repeats (seen ++ u ∷ []) (a ++ b))) ≡
        (if z then without_repeats seen a else (u ∷ without_repeats (seen ++ u ∷ []) a)) ++ without_repeats (seen ++ (if z then without_repeats seen a else (u ∷ without_repeats (seen ++ u ∷ []) a))) b
    by true known new = known
    by false known new =
        ap (λ (all : List Term). u ∷ all) new
        ∙ ap (λ (all : List Term). u ∷ (without_repeats (seen ++ u ∷ []) a ++ without_repeats all b)) (append_assoc seen (u ∷ []) (without_repeats (seen ++ u ∷ []) a))
