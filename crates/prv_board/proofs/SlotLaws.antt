-- What a settlement does to the live entries: whatever is added up over them loses the entry's own and gains that of the parts.
use Rattle.std.proofs.Common.{◌≡◌, ℕ, zero, suc, ◌+◌, List, [], ◌∷◌, ◌++◌, length, map, Option, Some, None, option_to_list, refl, sym, ap, ◌∙◌, subst, arith, append_assoc, add_assoc, zero-add, length-append}
use Rattle.std.proofs.lemmas.Option.{none-some, same_Some}
use Rattle.std.specs.Option.{option_map}
use Rattle.std.specs.List.{AllByRecursion}
use Rattle.prv_part.specs.declared.part.Part.{Part}
use Rattle.prv_part.specs.Settlements.{Finding}
use Rattle.prv_board.specs.Slots.{Slot, live_slot, retire, after, after_all, live_part, live_parts, part_at}
use Rattle.prv_board.specs.Replays.{add_up}

pub live_parts-append : (a b : List Slot) → live_parts (a ++ b) ≡ live_parts a ++ live_parts b
live_parts-append [] b = refl
live_parts-append (x ∷ a) b =
    ap (λ (ps : List Part). option_to_list (live_part x) ++ ps) (live_parts-append a b)
    ∙ sym (append_assoc (option_to_list (live_part x)) (live_parts a) (live_parts b))

pub live_parts-live : (ps : List Part) → live_parts (map live_slot ps) ≡ ps
live_parts-live [] = refl
live_parts-live (p ∷ ps) = ap (λ (qs : List Part). p ∷ qs) (live_parts-live ps)

pub add_up-append : (number : Part → ℕ) (a b : List Part) → add_up number (a ++ b) ≡ add_up number a + add_up number b
add_up-append number [] b = sym (zero-add (add_up number b))
add_up-append number (p ∷ a) b = ap (λ (k : ℕ). number p + k) (add_up-append number a b) ∙ sym (add_assoc (number p) (add_up number a) (add_up number b))

pub add_up-retire : (number : Part → ℕ) (slots : List Slot) (n : ℕ) (p : Part) → part_at slots n ≡ Some p → add_up number (live_parts (retire slots n)) + number p ≡ add_up number (live_parts slots)
add_up-retire number [] n p is = absurd (none-some p is)
add_up-retire number (slot ∷ slots) zero p is =
    let e : add_up number (live_parts (slot ∷ slots)) ≡ number p + add_up number (live_parts slots) = ap (λ (o : Option Part). add_up number (option_to_list o ++ live_parts slots)) is in
    omega arith
add_up-retire number (slot ∷ slots) (suc n) p is =
    let own = option_to_list (live_part slot) in
    omega (arith, add_up-append number own (live_parts (retire slots n)), add_up-append number own (live_parts slots), add_up-retire number slots n p is)

-- over the entries after a settlement
pub add_up-after : (number : Part → ℕ) (slots : List Slot) (s : Finding) (p : Part) → part_at slots s.entry ≡ Some p → add_up number (live_parts (after slots s)) + number p ≡ add_up number (live_parts slots) + add_up number s.parts
add_up-after number slots s p is =
    let split : add_up number (live_parts (after slots s)) ≡ add_up number (live_parts (retire slots s.entry)) + add_up number s.parts =
    ap (λ (ps : List Part). add_up number ps) (live_parts-append (retire slots s.entry) (map live_slot s.parts) ∙ ap (λ (ps : List Part). live_parts (retire slots s.entry) ++ ps) (live_parts-live s.parts))
    ∙ add_up-append number (live_parts (retire slots s.entry)) s.parts in
    omega (arith, split, add_up-retire number slots s.entry p is)

pub length-add_up : (ps : List Part) → length ps ≡ add_up (λ p. 1) ps
length-add_up [] = refl
length-add_up (p ∷ ps) = omega (arith, length-add_up ps)

-- how many entries are live after a settlement
pub length-after : (slots : List Slot) (s : Finding) (p : Part) → part_at slots s.entry ≡ Some p → length (live_parts (after slots s)) + 1 ≡ length (live_parts slots) + length s.parts
length-after slots s p is =
    omega (arith, add_up-after (λ p. 1) slots s p is, length-add_up (live_parts (after slots s)), length-add_up (live_parts slots), length-add_up s.parts)

pub all-append : {X : Type 0} (P : X → Type 0) (a b : List X) → AllByRecursion P a → AllByRecursion P b → AllByRecursion P (a ++ b)
all-append P [] b here there = there
all-append P (x ∷ a) b here there = (here.0, all-append P a b here.1 there)

pub all-front : {X : Type 0} (P : X → Type 0) (a b : List X) → AllByRecursion P (a ++ b) → AllByRecursion P a
all-front P [] b all = tt
all-front P (x ∷ a) b all = (all.0, all-front P a b all.1)

pub all-back : {X : Type 0} (P : X → Type 0) (a b : List X) → AllByRecursion P (a ++ b) → AllByRecursion P b
all-back P [] b all = all
all-back P (x ∷ a) b all = all-back P a b all.1

pub all-retire : (P : Part → Type 0) (slots : List Slot) (n : ℕ) → AllByRecursion P (live_parts slots) → AllByRecursion P (live_parts (retire slots n))
all-retire P [] n all = tt
all-retire P (slot ∷ slots) zero all = all-back P (option_to_list (live_part slot)) (live_parts slots) all
all-retire P (slot ∷ slots) (suc n) all =
    let own = option_to_list (live_part slot) in
    all-append P own (live_parts (retire slots n)) (all-front P own (live_parts slots) all) (all-retire P slots n (all-back P own (live_parts slots) all))

-- what holds of the live entries and of the parts holds of the live entries after the settlement
pub all-after : (P : Part → Type 0) (slots : List Slot) (s : Finding) → AllByRecursion P (live_parts slots) → AllByRecursion P s.parts → AllByRecursion P (live_parts (after slots s))
all-after P slots s all parts =
    let Q : List Part → Type 0 = λ ps. AllByRecursion P ps in
    let e : live_parts (retire slots s.entry) ++ s.parts ≡ live_parts (after slots s) =
    ap (λ (ps : List Part). live_parts (retire slots s.entry) ++ ps) (sym (live_parts-live s.parts)) ∙ sym (live_parts-append (retire slots s.entry) (map live_slot s.parts)) in
    subst Q e (all-append P (live_parts (retire slots s.entry)) s.parts (all-retire P slots s.entry all) parts)

-- the value that a mapped option comes from
pub mapped-some : {A B : Type 0} (f : A → B) (o : Option A) (y : B) → option_map f o ≡ Some y → (x : A) × (o ≡ Some x) × (f x ≡ y)
mapped-some f None y is = absurd (none-some y is)
mapped-some f (Some x) y is = (x, refl, same_Some (f x) y is)

pub length-retire : (slots : List Slot) (n : ℕ) → length (retire slots n) ≡ length slots
length-retire [] n = refl
length-retire (slot ∷ slots) zero = refl
length-retire (slot ∷ slots) (suc n) = ap suc (length-retire slots n)

pub length-map : {A B : Type 0} (f : A → B) (xs : List A) → length (map f xs) ≡ length xs
length-map f [] = refl
length-map f (x ∷ xs) = ap suc (length-map f xs)

-- how many entries there were ever, after a settlement
pub length-slots-after : (slots : List Slot) (s : Finding) → length (after slots s) ≡ length slots + length s.parts
length-slots-after slots s =
    omega (arith, length-append (retire slots s.entry) (map live_slot s.parts), length-retire slots s.entry, length-map live_slot s.parts)

pub after_all-push : (slots : List Slot) (history : List Finding) (s : Finding) → after_all slots (history ++ s ∷ []) ≡ after (after_all slots history) s
after_all-push slots [] s = refl
after_all-push slots (x ∷ history) s = after_all-push (after slots x) history s
