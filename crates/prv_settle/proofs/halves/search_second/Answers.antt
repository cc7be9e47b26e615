use Rattle.std.proofs.Common.{ℕ, [], ◌∷◌, ◌++◌, ◌∙◌, List, All, ap, subst, sym}
use Rattle.prv_model.specs.Terms.{IsTerm}
use Rattle.prv_model.specs.declared.term.Term.{Term}
use Rattle.prv_settle.specs.Answers.{IsSearched}
use Rattle.prv_settle.proofs.Halving.{cond-in, cond-is, cond-few}
use Rattle.prv_settle.proofs.halves.search_second.Goals as goal

pub search-requires : goal.search-requires
search-requires c =
    let is = c.in_ok-cond.ensures ∙ ap (λ (ns : List ℕ). ns ++ c.args.halves.now.second ∷ []) c.as_slice.ensures.value in
    record {
      within = cond-in _ _ _ c.args.halves.now _ c.requires.halves.3 is;
      few = cond-few _ _ _ c.args.halves.now _ c.requires.halves.3 is c.requires.halves.5;
      words = c.requires.words;
      params = subst (All (IsTerm c.args.params)) (sym (cond-is _ _ _ c.args.halves.now _ c.requires.halves.3 is)) c.requires.halves.4;
    }

pub returns : goal.returns
returns c = λ pair region t h.
    let P : List Term → Type 0 = λ ts. IsSearched c.args.params c.args.options.lines ts c.in_ok-answer.answer in
    subst P (cond-is pair region t c.args.halves.now _ h (c.in_ok-cond.ensures ∙ ap (λ (ns : List ℕ). ns ++ c.args.halves.now.second ∷ []) c.as_slice.ensures.value)) c.in_ok-answer.ensures
