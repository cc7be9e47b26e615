-- What variables have, in a table that has grown, and where one of them is set.
use Rattle.std.proofs.Common.{◌≡◌, ℕ, zero, suc, ◌<◌, List, [], ◌∷◌, length, Ok, refl, sym, ap, ◌∙◌, subst, slice_get, slice_set, unwrap_or}
use Rattle.prv_model.specs.declared.term.Term.{Term}
use Rattle.prv_pool.specs.Tables.{Table, term_at}
use Rattle.prv_pool.proofs.TableLemmas.{add-there, has-term_at}
use Rattle.prv_sym.specs.declared.symbol_nodes.Slot.{Slot}
use Rattle.prv_sym.specs.Calls.{Names, StandsFor, IsSlot, AreSlots, slot_term, terms_of, variable_term}
use Rattle.prv_sym.proofs.Naming.{Grows, grows-none, only-all, term-kept, still-in, there}

-- slots and nodes in a table that has grown
pub slots-kept : (old new : List Term) → Grows old new → (slots : List Slot) → AreSlots old slots → AreSlots new slots
slots-kept old new h [] s = tt
slots-kept old new h (slot ∷ slots) s = (by slot s.0, slots-kept old new h slots s.1)
  where
    by : (x : Slot) → IsSlot old x → IsSlot new x
    by (Slot.Param k) d = tt
    by Slot.Zero d = tt
    by (Slot.Node n) d = still-in old new n h d

pub terms-kept : (old new : List Term) → Grows old new → (slots : List Slot) → AreSlots old slots → terms_of new slots ≡ terms_of old slots
terms-kept old new h [] s = refl
terms-kept old new h (slot ∷ slots) s = λ i. by slot s.0 i ∷ terms-kept old new h slots s.1 i
  where
    by : (x : Slot) → IsSlot old x → slot_term new x ≡ slot_term old x
    by (Slot.Param k) d = refl
    by Slot.Zero d = refl
    by (Slot.Node n) d = term-kept old new n h d

pub slots-set : (terms : List Term) (n : ℕ) → n < length terms → (slots : List Slot) (v : ℕ) → AreSlots terms slots → AreSlots terms (slice_set slots v (Slot.Node n))
slots-set terms n h [] v s = tt
slots-set terms n h (slot ∷ slots) zero s = (h, s.1)
slots-set terms n h (slot ∷ slots) (suc v) s = (s.0, slots-set terms n h slots v s.1)

pub terms-set : (terms : List Term) (n : ℕ) (slots : List Slot) (v : ℕ) → terms_of terms (slice_set slots v (Slot.Node n)) ≡ slice_set (terms_of terms slots) v (term_at terms n)
terms-set terms n [] v = refl
terms-set terms n (slot ∷ slots) zero = refl
terms-set terms n (slot ∷ slots) (suc v) = ap (λ (ts : List Term). slot_term terms slot ∷ ts) (terms-set terms n slots v)

-- what one variable has
pub slot-term : (terms : List Term) (slots : List Slot) (v : ℕ) → variable_term (terms_of terms slots) v ≡ slot_term terms (unwrap_or (slice_get slots v) Slot.Zero)
slot-term terms [] v = refl
slot-term terms (slot ∷ slots) zero = refl
slot-term terms (slot ∷ slots) (suc v) = slot-term terms slots v

pub slot-in : (terms : List Term) (slots : List Slot) (v : ℕ) → AreSlots terms slots → IsSlot terms (unwrap_or (slice_get slots v) Slot.Zero)
slot-in terms [] v s = tt
slot-in terms (slot ∷ slots) zero s = s.0
slot-in terms (slot ∷ slots) (suc v) s = slot-in terms slots v s.1

-- a node that is there
pub names-known : (table : Table) (n : ℕ) (t : Term) → n < length table.terms → term_at table.terms n ≡ t → Names (t ∷ []) table table (Ok n)
names-known table n t below is = subst (λ (u : Term). Names (u ∷ []) table table (Ok n)) is (record {
  grows = sym (add-there (term_at table.terms n) table.terms (has-term_at table.terms n below));
  kept = grows-none table.terms;
  only = only-all (term_at table.terms n ∷ []) table.terms table.terms (sym (add-there (term_at table.terms n) table.terms (has-term_at table.terms n below)));
  limit = refl;
  wide = λ e. absurd (cc);
})

pub node-term : (terms : List Term) (slots : List Slot) (v n : ℕ) → Slot.Node n ≡ unwrap_or (slice_get slots v) Slot.Zero → term_at terms n ≡ variable_term (terms_of terms slots) v
node-term terms slots v n is = ap (λ (s : Slot). slot_term terms s) is ∙ sym (slot-term terms slots v)

pub node-in : (terms : List Term) (slots : List Slot) (v n : ℕ) → AreSlots terms slots → Slot.Node n ≡ unwrap_or (slice_get slots v) Slot.Zero → n < length terms
node-in terms slots v n s is = subst (λ (x : Slot). IsSlot terms x) (sym is) (slot-in terms slots v s)

pub node-stands : (terms : List Term) (slots : List Slot) (v n : ℕ) → AreSlots terms slots → Slot.Node n ≡ unwrap_or (slice_get slots v) Slot.Zero → StandsFor terms n (variable_term (terms_of terms slots) v)
node-stands terms slots v n s is = subst (λ (t : Term). StandsFor terms n t) (node-term terms slots v n is) (there terms n (node-in terms slots v n s is))

pub param-term : (terms : List Term) (slots : List Slot) (v : ℕ) (s : Slot) → s ≡ unwrap_or (slice_get slots v) Slot.Zero → slot_term terms s ≡ variable_term (terms_of terms slots) v
param-term terms slots v s is = ap (λ (x : Slot). slot_term terms x) is ∙ sym (slot-term terms slots v)
