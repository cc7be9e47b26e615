-- What is refused behind the word of a command.
use Rattle.std.proofs.Common.{◌≡◌, ℕ, suc, List, [], ◌∷◌, refl, sym, subst, arith, rules, codes, Err}
use Rattle.prv_line.specs.Texts.{IsName}
use Rattle.prv_line.specs.Commands.{Command}
use Rattle.prv_line.specs.Readings.{Named, Reads}
use Rattle.prv_line.specs.Usages.{Begins, IsRefused, IsUsage}
use Rattle.prv_line.specs.Steps.{Tells, IsAnswer}
use Rattle.prv_line.specs.declared.error.LineError.{LineError}
use Rattle.prv_line.specs.declared.error.LineError.TheVariants.{Usage, Memory}
use Rattle.prv_line.proofs.Refusals.{BeginsWith, begins-with, refused_behind, refused_word, refused_rest}

-- the commands with this word, as readings of the words behind it
abbrev pub after : List ℕ → Command → List (List ℕ) → Type 0
after word c rest = Reads c (word ∷ rest)

-- no name stands first
abbrev pub NoName : List (List ℕ) → Type 0
NoName ws = (word : List ℕ) (rest : List (List ℕ)) → ws ≡ word ∷ rest → IsName word → ⊥

pub refused_after : (word : List ℕ) (ws : List (List ℕ)) (k : ℕ) → IsRefused (after word) ws k → IsUsage (word ∷ ws) (suc k)
refused_after word ws k h = refused_behind (after word) Reads word (λ c rest r. (c, r)) (λ c rest r. (c, r)) ws k h

-- a name, and then what L reads
abbrev pub named : {U : Type 0} → (U → List (List ℕ) → Type 0) → List ℕ × U → List (List ℕ) → Type 0
named L p ws = Named p.0 (L p.1) ws

passes : (name word : List ℕ) (P : List (List ℕ) → Type 0) (ws : List (List ℕ)) → Named name P (word ∷ ws) → IsName word
passes name word P ws h = subst IsName (sym h.1.0) h.0

pub named_slot : {U : Type 0} (L : U → List (List ℕ) → Type 0) → Begins L [] → BeginsWith IsName L (named L)
named_slot L b = record {
  into = λ word u ws p l. ((word, u), (p, (refl, l)));
  passes = λ p word ws m. passes p.0 word (L p.1) ws m;
  out = λ p word ws m. (p.1, m.1.1);
  none = λ p m. m.1;
  word = codes "F";
  word_passes = search rules;
  begins = b;
}

pub begins_named : {U : Type 0} (L : U → List (List ℕ) → Type 0) → Begins L [] → Begins (named L) []
begins_named L b = begins-with IsName L (named L) (named_slot L b)

-- a command whose word is followed by a name and by what L reads
pub record IsNamedCommand {U : Type 0} (L : U → List (List ℕ) → Type 0) (word : List ℕ) : Type 0 where
  pub begins : Begins L []
  pub reads : (p : List ℕ × U) (ws : List (List ℕ)) → named L p ws → (c : Command) × Reads c (word ∷ ws)
  pub is : (c : Command) (ws : List (List ℕ)) → Reads c (word ∷ ws) → (p : List ℕ × U) × named L p ws

pub command_slot : {U : Type 0} (L : U → List (List ℕ) → Type 0) (word : List ℕ) → IsNamedCommand L word → BeginsWith IsName L (after word)
command_slot L word n = record {
  into = λ name u ws p l. n.reads (name, u) (name ∷ ws) (p, (refl, l));
  passes = λ c name ws r. let q = n.is c (name ∷ ws) r in passes q.0.0 name (L q.0.1) ws q.1;
  out = λ c name ws r. let q = n.is c (name ∷ ws) r in (q.0.1, q.1.1.1);
  none = λ c r. (n.is c [] r).1.1;
  word = codes "F";
  word_passes = search rules;
  begins = n.begins;
}

-- no name stands behind the command's word
pub refused_at_name : {U : Type 0} (L : U → List (List ℕ) → Type 0) (word : List ℕ) → IsNamedCommand L word → (ws : List (List ℕ)) → NoName ws → IsUsage (word ∷ ws) 1
refused_at_name L word n ws missing = refused_after word ws 0 (refused_word IsName L (after word) (command_slot L word n) ws missing)

-- a name does, and the rest is refused
pub refused_past_name : {U : Type 0} (L : U → List (List ℕ) → Type 0) (word : List ℕ) → IsNamedCommand L word → (ws rest : List (List ℕ)) (name : List ℕ) → ws ≡ name ∷ rest → IsName name
    → (k : ℕ) → IsRefused L rest k → IsUsage (word ∷ ws) (suc (suc k))
refused_past_name L word n ws rest name e p k h =
    let F : List (List ℕ) → Type 0 = λ x. IsUsage (word ∷ x) (suc (suc k)) in
    subst F (sym e) (refused_after word (name ∷ rest) (suc k) (refused_rest IsName L (after word) (command_slot L word n) name rest k p h))

pub told_past_name : {U : Type 0} (L : U → List (List ℕ) → Type 0) (word : List ℕ) → IsNamedCommand L word → (ws rest : List (List ℕ)) (name : List ℕ) → ws ≡ name ∷ rest → IsName name
    → (e : LineError) → Tells L rest 2 e → IsAnswer (word ∷ ws) (Err e)
told_past_name L word n ws rest name e p (Usage at) told =
    let F : ℕ → Type 0 = λ x. IsUsage (word ∷ ws) x in
    let at_is = told.1 in
    let same : suc (suc told.0) ≡ at = omega arith in
    subst F same (refused_past_name L word n ws rest name e p told.0 told.2)
told_past_name L word n ws rest name e p Memory told = tt

-- a name does, and then no second one
pub refused_at_second : {U : Type 0} (L : U → List (List ℕ) → Type 0) (word : List ℕ) → IsNamedCommand (named L) word → Begins L [] → (ws rest : List (List ℕ)) (name : List ℕ)
    → ws ≡ name ∷ rest → IsName name → NoName rest → IsUsage (word ∷ ws) 2
refused_at_second L word n b ws rest name e p missing =
    refused_past_name (named L) word n ws rest name e p 0 (refused_word IsName L (named L) (named_slot L b) rest missing)

-- two names do, and the rest is refused
pub told_past_names : {U : Type 0} (L : U → List (List ℕ) → Type 0) (word : List ℕ) → IsNamedCommand (named L) word → Begins L [] → (ws rest more : List (List ℕ)) (a b : List ℕ)
    → ws ≡ a ∷ rest → IsName a → rest ≡ b ∷ more → IsName b → (e : LineError) → Tells L more 3 e → IsAnswer (word ∷ ws) (Err e)
told_past_names L word n begins ws rest more a b e p f q (Usage at) told =
    let F : List (List ℕ) → Type 0 = λ x. IsRefused (named L) x (suc told.0) in
    let behind : IsRefused (named L) rest (suc told.0) = subst F (sym f) (refused_rest IsName L (named L) (named_slot L begins) b more told.0 q told.2) in
    let at_is = told.1 in
    told_past_name (named L) word n ws rest a e p (Usage at) (suc told.0, omega arith, behind)
told_past_names L word n begins ws rest more a b e p f q Memory told = tt
