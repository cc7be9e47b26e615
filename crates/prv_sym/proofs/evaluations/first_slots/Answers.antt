use Rattle.std.proofs.Common.{◌≡◌, ℕ, List, [], ◌∷◌, ◌++◌, pos, arith, sym, ap, ◌∙◌, subst, append_assoc}
use Rattle.std.proofs.lemmas.List.{append-nil}
use lib.ListN.{replicate, replicate-append-replicate}
use Rattle.prv_model.specs.declared.term.Term.{Term}
use Rattle.prv_model.specs.declared.term.Term.TheVariants.{Param, Num}
use Rattle.prv_sym.specs.declared.symbol_nodes.Slot.{Slot}
use Rattle.prv_sym.specs.Calls.{AreSlots, terms_of}
use Rattle.prv_sym.specs.Symbols.{params_from}
use Rattle.prv_sym.proofs.Along.{slots-more, terms-more, params-next}
use Rattle.prv_sym.proofs.evaluations.first_slots.Goals as goal

pub loop-k-init : goal.loop-k-init
loop-k-init c = record {
  slots = λ terms. subst (λ (xs : List Slot). AreSlots terms xs) (sym c.new-slots.ensures) tt;
  made = λ terms. ap (λ (xs : List Slot). terms_of terms xs) c.new-slots.ensures;
}

pub loop-k-preserved : goal.loop-k-preserved
loop-k-preserved c = record {
  slots = λ terms. subst (λ (xs : List Slot). AreSlots terms xs) (sym c.in_ok-push.ensures.ok) (slots-more terms c.loop-k.slots (Slot.Param c.loop-k.k) (c.loop-k.invariant.slots terms) tt);
  made = λ terms.
      ap (λ (xs : List Slot). terms_of terms xs) c.in_ok-push.ensures.ok ∙ terms-more terms c.loop-k.slots (Slot.Param c.loop-k.k)
      ∙ ap (λ (ts : List Term). ts ++ Param c.loop-k.k ∷ []) (c.loop-k.invariant.made terms) ∙ sym (params-next c.loop-k.k);
}

pub loop-init : goal.loop-init
loop-init c = record {
  slots = c.loop-k.invariant.slots;
  made = λ terms.
      let all : c.loop-k.k ≡ c.args.program.now.params = omega (arith, c.loop-k-test.false, c.loop-k.auto.k-end) in
      c.loop-k.invariant.made terms ∙ ap (λ (n : ℕ). params_from 0 n) all ∙ sym (append-nil (params_from 0 c.args.program.now.params));
}

pub loop-preserved : goal.loop-preserved
loop-preserved c =
    let front = params_from 0 c.args.program.now.params in
    record {
      slots = λ terms. subst (λ (xs : List Slot). AreSlots terms xs) (sym c.in_ok-push-2.ensures.ok) (slots-more terms c.loop.slots Slot.Zero (c.loop.invariant.slots terms) tt);
      made = λ terms.
          ap (λ (xs : List Slot). terms_of terms xs) c.in_ok-push-2.ensures.ok ∙ terms-more terms c.loop.slots Slot.Zero
          ∙ ap (λ (ts : List Term). ts ++ Num (pos 0) ∷ []) (c.loop.invariant.made terms) ∙ append_assoc front (replicate c.loop.counter (Num (pos 0))) (Num (pos 0) ∷ [])
          ∙ ap (λ (ts : List Term). front ++ ts) (replicate-append-replicate c.loop.counter 1 (Num (pos 0)));
    }
