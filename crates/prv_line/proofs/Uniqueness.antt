-- Words read as one command at most, and are refused at one word at most.
use Rattle.std.proofs.Common.{◌≡◌, ℕ, ◌+◌, ◌<◌, List, [], ◌∷◌, ◌++◌, length, take, drop, ℤ, refl, sym, ◌∙◌, ap, subst, arith, ⊎_elim, append_assoc}
use Rattle.std.proofs.lemmas.List.{take-take, take-append-drop}
use Rattle.std.proofs.lemmas.Bool.{cases_lt}
use Rattle.prv_line.specs.Commands.{Settings, defaults, Command, Run, Point, Slice, Explore, Live, Resume, Check, Gen}
use Rattle.prv_line.specs.Options.{Options, all_options, resume_options}
use Rattle.prv_line.specs.Readings.{Named, Inputs, End, Reads}
use Rattle.prv_line.specs.Usages.{Begins, IsRefused}
use Rattle.prv_line.proofs.TextLemmas.{apart}
use Rattle.prv_line.proofs.OptionLemmas.{same_settings}

-- what is begun by more words is begun by fewer
begins-fewer : {V : Type 0} (R : V → List (List ℕ) → Type 0) (ws : List (List ℕ)) (i : ℕ) → Begins R ws → Begins R (take i ws)
begins-fewer R ws i b =
    let F : List (List ℕ) → Type 0 = λ front. R b.1 (front ++ b.0) in
    let G : List (List ℕ) → Type 0 = λ all. R b.1 all in
    (drop i ws ++ b.0, b.1, subst G (append_assoc (take i ws) (drop i ws) b.0) (subst F (sym (take-append-drop i ws)) b.2))

earlier : {V : Type 0} (R : V → List (List ℕ) → Type 0) (ws : List (List ℕ)) (j k : ℕ) → IsRefused R ws j → IsRefused R ws k → j < k → ⊥
earlier R ws j k x y h =
    let F : List (List ℕ) → Type 0 = λ front. Begins R front in
    let within = y.within in
    x.refused (omega arith) (subst F (take-take (j + 1) k ws (omega arith)) (begins-fewer R (take k ws) (j + 1) y.begins))

pub one_refusal : {V : Type 0} (R : V → List (List ℕ) → Type 0) (ws : List (List ℕ)) (j k : ℕ) → IsRefused R ws j → IsRefused R ws k → j ≡ k
one_refusal R ws j k x y = ⊎_elim (λ h. absurd (earlier R ws j k x y h)) (λ h. ⊎_elim (λ g. absurd (earlier R ws k j y x g)) (λ g. omega arith) (cases_lt k j)) (cases_lt j k)

pub refused_or_read : {V : Type 0} (R : V → List (List ℕ) → Type 0) (ws : List (List ℕ)) (k : ℕ) (v : V) → IsRefused R ws k → R v ws → ⊥
refused_or_read R ws k v x r =
    let F : List (List ℕ) → Type 0 = λ all. R v all in
    let begun : Begins R (take (k + 1) ws) = (drop (k + 1) ws, v, subst F (sym (take-append-drop (k + 1) ws)) r) in
    let within = x.within in
    ⊎_elim (λ h. x.refused h begun) (λ h. x.short (omega arith) v r) (cases_lt k (length ws))

-- one name, and one value behind it
same_named : {U : Type 0} (L : U → List (List ℕ) → Type 0) → ((u v : U) (ws : List (List ℕ)) → L u ws → L v ws → u ≡ v)
    → (n m : List ℕ) (u v : U) (ws : List (List ℕ)) → Named n (L u) ws → Named m (L v) ws → (n ≡ m) × (u ≡ v)
same_named L same n m u v [] x y = absurd x.1
same_named L same n m u v (w ∷ ws) x y = (sym x.1.0 ∙ y.1.0, same u v ws x.1.1 y.1.1)

same_input : (a b : List ℤ) (ws : List (List ℕ)) → Inputs a ws → Inputs b ws → a ≡ b
same_input a b ws x y = x.input_is ∙ sym y.input_is

no_words : (c : Command) → Reads c [] → ⊥
no_words (Run file input) x = x
no_words (Point before after input) x = x
no_words (Slice file input) x = x
no_words (Explore before after s) x = x
no_words (Live before after s) x = x
no_words (Resume journal l s w) x = x
no_words (Check journal) x = x
no_words (Gen number size) x = x

same_pair : {U : Type 0} (L : U → List (List ℕ) → Type 0) → ((u v : U) (ws : List (List ℕ)) → L u ws → L v ws → u ≡ v)
    → (n m a b : List ℕ) (u v : U) (ws : List (List ℕ)) → Named n (Named a (L u)) ws → Named m (Named b (L v)) ws → (n ≡ m) × (a ≡ b) × (u ≡ v)
same_pair L same n m a b u v [] x y = absurd x.1
same_pair L same n m a b u v (w ∷ ws) x y =
    let h = same_named L same a b u v ws x.1.1 y.1.1 in
    (sym x.1.0 ∙ y.1.0, h.0, h.1)

same_journal : (j k : List ℕ) (ws : List (List ℕ)) → Named j End ws → Named k End ws → j ≡ k
same_journal j k [] x y = absurd x.1
same_journal j k (v ∷ vs) x y = sym x.1.0 ∙ y.1.0

same_gen : (n m s t : ℕ) (w : List ℕ) (ws : List (List ℕ)) → Reads (Gen n s) (w ∷ ws) → Reads (Gen m t) (w ∷ ws) → (n ≡ m) × (s ≡ t)
same_gen n m s t w [] x y = absurd x.1
same_gen n m s t w (a ∷ []) x y = absurd x.1.2
same_gen n m s t w (a ∷ b ∷ ws) x y = (x.1.1 ∙ sym y.1.1, x.1.2.1 ∙ sym y.1.2.1)

abbrev all_settings : Settings → List (List ℕ) → Type 0
all_settings made = Options all_options defaults made

same_all : (a b : Settings) (ws : List (List ℕ)) → all_settings a ws → all_settings b ws → a ≡ b
same_all a b ws x y = same_settings all_options defaults a b ws x y

abbrev resume_settings : Settings → List (List ℕ) → Type 0
resume_settings made = Options resume_options defaults made

same_resume : (a b : Settings) (ws : List (List ℕ)) → resume_settings a ws → resume_settings b ws → a ≡ b
same_resume a b ws x y = same_settings resume_options defaults a b ws x y

abbrev changed : ℕ → ℕ → ℕ → Settings
changed l s w = record defaults { lines = l; settlements = s; workers = w }

resumed : (j k : List ℕ) (l s w l' s' w' : ℕ) → (j ≡ k) → changed l s w ≡ changed l' s' w' → Resume j l s w ≡ Resume k l' s' w'
resumed j k l s w l' s' w' e h =
    let lines : l ≡ l' = ap (λ (x : Settings). x.lines) h in
    let settlements : s ≡ s' = ap (λ (x : Settings). x.settlements) h in
    let workers : w ≡ w' = ap (λ (x : Settings). x.workers) h in
    cc

pub one_reading : (ws : List (List ℕ)) (a b : Command) → Reads a ws → Reads b ws → a ≡ b
one_reading [] a b x y = absurd (no_words a x)
one_reading (w ∷ ws) (Run f i) (Run g j) x y = let h = same_named Inputs same_input f g i j ws x.1 y.1 in cc
one_reading (w ∷ ws) (Run f i) _ x y = let e = sym x.0 ∙ y.0 in absurd (apart e refl)
one_reading (w ∷ ws) (Point b a i) (Point c d j) x y = let h = same_pair Inputs same_input b c a d i j ws x.1 y.1 in cc
one_reading (w ∷ ws) (Point b a i) _ x y = let e = sym x.0 ∙ y.0 in absurd (apart e refl)
one_reading (w ∷ ws) (Slice f i) (Slice g j) x y = let h = same_named Inputs same_input f g i j ws x.1 y.1 in cc
one_reading (w ∷ ws) (Slice f i) _ x y = let e = sym x.0 ∙ y.0 in absurd (apart e refl)
one_reading (w ∷ ws) (Explore b a s) (Explore c d t) x y = let h = same_pair all_settings same_all b c a d s t ws x.1 y.1 in cc
one_reading (w ∷ ws) (Explore b a s) _ x y = let e = sym x.0 ∙ y.0 in absurd (apart e refl)
one_reading (w ∷ ws) (Live b a s) (Live c d t) x y = let h = same_pair all_settings same_all b c a d s t ws x.1 y.1 in cc
one_reading (w ∷ ws) (Live b a s) _ x y = let e = sym x.0 ∙ y.0 in absurd (apart e refl)
one_reading (w ∷ ws) (Resume j l s p) (Resume k l' s' p') x y =
    let h = same_named resume_settings same_resume j k (changed l s p) (changed l' s' p') ws x.1 y.1 in resumed j k l s p l' s' p' h.0 h.1
one_reading (w ∷ ws) (Resume j l s p) _ x y = let e = sym x.0 ∙ y.0 in absurd (apart e refl)
one_reading (w ∷ ws) (Check j) (Check k) x y = let h = same_journal j k ws x.1 y.1 in cc
one_reading (w ∷ ws) (Check j) _ x y = let e = sym x.0 ∙ y.0 in absurd (apart e refl)
one_reading (w ∷ ws) (Gen n s) (Gen m t) x y = let h = same_gen n m s t w ws x y in cc
one_reading (w ∷ ws) (Gen n s) _ x y = let e = sym x.0 ∙ y.0 in absurd (apart e refl)
