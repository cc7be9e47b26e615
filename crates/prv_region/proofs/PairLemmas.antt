-- Nodes of two tables that are paired. Where two lists of nodes are of the same terms, so are all pairs that follow from them; and where all that follows from pairs is paired, they are of the same terms.
use Rattle.std.proofs.Common.{◌≡◌, ◌≢◌, ◌↔◌, ◌⊎◌, inl, inr, ℕ, zero, suc, ◌+◌, ◌<◌, ◌≤◌, ◌==◌, Bool, true, false, IsTrue, ℤ, List, [], ◌∷◌, length, pos, below_more, set, get_or, map, All, replicate, Option, Some, None, slice_get, refl, sym, ap, ◌∙◌, subst, arith}
use Rattle.std.specs.List.{AllByRecursion}
use Rattle.std.proofs.lemmas.Bool.{cases_eq, eqb-true, eqb-false}
use Rattle.std.proofs.lemmas.List.{length-set, length-map, get_or-map}
use Rattle.std.proofs.lemmas.Option.{unwrap_or-slice_get}
use Rattle.prv_model.specs.declared.op.TermOp.{TermOp}
use Rattle.prv_model.specs.declared.term.Term.{Term, out-Term}
use Rattle.prv_model.specs.declared.term.Term.TheVariants.{Param, Num, Op, Pick}
use Rattle.prv_pool.specs.Tables.{Table, IsTable, term_at}
use Rattle.prv_pool.specs.Nodes.{node_term, AreBelow}
use Rattle.prv_region.specs.Numbers.{number_at}
use Rattle.prv_region.specs.Pairs.{AreApart, AreIn, AreSame, GoesOn, Pairs, HavePartners, AreOf, PairsEach, ArePaired, PairsNodes, AreMatched, PairsOperands, PairsAll}
use Rattle.prv_pool.specs.declared.node.Node.{Node}
use Rattle.prv_pool.specs.declared.node.Node.TheVariants as node
use Rattle.prv_pool.proofs.Shapes.{out-Param, out-Op, out-Pick, out-Num}
use Rattle.prv_pool.proofs.NodeLemmas.{below-more, get-within, term_at-some}
use Rattle.prv_pool.proofs.KeyLemmas.{same_node, same_node-true, same_node-itself}
use Rattle.prv_region.proofs.CopyLemmas.{number-set_other, number-set_same}

pub goes-nowhere : (old : List (Option ℕ)) → GoesOn old old
goes-nowhere old = record { sized = refl; kept = λ n m e. e }

pub goes-further : (old mid new : List (Option ℕ)) → GoesOn old mid → GoesOn mid new → GoesOn old new
goes-further old mid new f g = record { sized = g.sized ∙ f.sized; kept = λ n m e. g.kept n m (f.kept n m e) }

-- the partner at a number, as code reads it
pub partner-at : (partners : List (Option ℕ)) (n : ℕ) (o : Option ℕ) → get_or partners n None ≡ o → number_at partners n ≡ o
partner-at partners n o e = unwrap_or-slice_get partners n None ∙ e

-- ---- one pair

-- a node that has no partner yet
module _ (old : List (Option ℕ)) (n m : ℕ) (here : n < length old) (free : number_at old n ≡ None) where
  -- a partner is the new one, or was there
  by-place : (P : ℕ → ℕ → Type 0) → P n m → ((j k : ℕ) → number_at old j ≡ Some k → P j k) → (j k : ℕ) → number_at (set old n (Some m)) j ≡ Some k → P j k
  by-place P one rest j k e = by (cases_eq j n)
    where
      by : (j ≡ n) ⊎ (j ≢ n) → P j k
      by (inl same) =
          let is : Some m ≡ Some k = sym (number-set_same old n (Some m) here) ∙ ap (number_at (set old n (Some m))) (sym same) ∙ e in
          let second : m ≡ k = cc in
          subst (λ (i : ℕ). P i k) (sym same) (subst (P n) second one)
      by (inr other) = rest j k (sym (number-set_other old n j (Some m) other) ∙ e)

  keeps : (j k : ℕ) → number_at old j ≡ Some k → number_at (set old n (Some m)) j ≡ Some k
  keeps j k e = by (cases_eq j n)
    where
      by : (j ≡ n) ⊎ (j ≢ n) → number_at (set old n (Some m)) j ≡ Some k
      by (inl same) = let f : None ≡ Some k = sym free ∙ ap (number_at old) (sym same) ∙ e in cc
      by (inr other) = number-set_other old n j (Some m) other ∙ e

  pub pairs-new : Pairs old (set old n (Some m)) n m true
  pairs-new = record {
    goes_on = record { sized = length-set old n (Some m); kept = keeps };
    others = λ j k h e. sym (number-set_other old n j (Some m) h) ∙ e;
    done = λ e. number-set_same old n (Some m) here;
    within = λ count inside less. record { at = by-place (λ j k. k < count) less inside.at };
    same = λ into from apart inside are less is. (refl, record { at = by-place (λ j k. term_at into k ≡ term_at from j) is are.at });
  }

equal-itself : (m : ℕ) → (m == m) ≡ true
equal-itself m = by (m == m) refl
  where
    by : (b : Bool) → (m == m) ≡ b → (m == m) ≡ true
    by true e = e
    by false e = absurd (eqb-false m m e refl)

-- a node that has one
pub pairs-old : (old : List (Option ℕ)) (n m k : ℕ) → number_at old n ≡ Some k → Pairs old old n m (k == m)
pairs-old old n m k e = record {
  goes_on = goes-nowhere old;
  others = λ j i h d. d;
  done = λ yes. let same : k ≡ m = eqb-true k m yes in e ∙ ap (λ (i : ℕ). Some i) same;
  within = λ count inside less. inside;
  same = λ into from apart inside are less is. (ap (λ (i : ℕ). k == i) (sym (apart k m (inside.at n k e) less (are.at n k e ∙ sym is))) ∙ equal-itself k, are);
}

-- ---- some pairs, one after the other

first-above : (old new : List (Option ℕ)) (n m : ℕ) (paired : Bool) → Pairs old new n m paired → (bound : ℕ) → n < bound → (j k : ℕ) → bound ≤ j → number_at new j ≡ Some k → number_at old j ≡ Some k
first-above old new n m paired f bound low j k h e = let other : j ≢ n = omega arith in f.others j k other e

pub each-none : (old : List (Option ℕ)) → PairsEach old old [] true
each-none old = record {
  goes_on = goes-nowhere old;
  above = λ bound w j k h e. e;
  done = λ e. tt;
  within = λ count inside w. inside;
  same = λ into from apart inside are w. (refl, are);
}

pub each-then : (old mid new : List (Option ℕ)) (n m : ℕ) (wanted : List (ℕ × ℕ)) (paired : Bool) → Pairs old mid n m true → PairsEach mid new wanted paired → PairsEach old new ((n, m) ∷ wanted) paired
each-then old mid new n m wanted paired f g = record {
  goes_on = goes-further old mid new f.goes_on g.goes_on;
  above = λ bound w j k h e. first-above old mid n m true f bound w.0 j k h (g.above bound w.1 j k h e);
  done = λ e. (g.goes_on.kept n m (f.done refl), g.done e);
  within = λ count inside w. g.within count (f.within count inside w.0) w.1;
  same = λ into from apart inside are w. g.same into from apart (f.within (length into) inside w.0.0) (f.same into from apart inside are w.0.0 w.0.1).1 w.1;
}

-- the first of them can't be
pub each-stop : (old new : List (Option ℕ)) (n m : ℕ) (wanted : List (ℕ × ℕ)) → Pairs old new n m false → PairsEach old new ((n, m) ∷ wanted) false
each-stop old new n m wanted f = record {
  goes_on = f.goes_on;
  above = λ bound w j k h e. first-above old new n m false f bound w.0 j k h e;
  done = λ e. cc;
  within = λ count inside w. f.within count inside w.0;
  same = λ into from apart inside are w. let f : false ≡ true = (f.same into from apart inside are w.0.0 w.0.1).0 in cc;
}

-- two of them
pub two-then : (old mid new : List (Option ℕ)) (a x b y : ℕ) (first second : Bool) → first ≡ true → Pairs old mid a x first → Pairs mid new b y second → PairsEach old new ((a, x) ∷ (b, y) ∷ []) second
two-then old mid new a x b y first second e f g = each-then old mid new a x _ second (subst (Pairs old mid a x) e f) (each-one second g)
  where
    each-one : (c : Bool) → Pairs mid new b y c → PairsEach mid new ((b, y) ∷ []) c
    each-one true h = each-then mid new new b y [] true h (each-none new)
    each-one false h = each-stop mid new b y [] h

pub two-stop : (old new : List (Option ℕ)) (a x b y : ℕ) (first : Bool) → first ≡ false → Pairs old new a x first → PairsEach old new ((a, x) ∷ (b, y) ∷ []) first
two-stop old new a x b y first e f = subst (PairsEach old new ((a, x) ∷ (b, y) ∷ [])) (sym e) (each-stop old new a x _ (subst (Pairs old new a x) e f))

-- ---- the operands of two nodes

-- a node without operands
param-is : (into : List Term) (m : Node) (j : ℕ) → node_term into m ≡ Param j → m ≡ node.Param j
param-is into (node.Param k) j e = let f = sym (out-Param k) ∙ ap out-Term e ∙ out-Param j in cc
param-is into (node.Num k) j e = let f = sym (out-Num k) ∙ ap out-Term e ∙ out-Param j in cc
param-is into (node.Op o a b) j e = let f = sym (out-Op o _ _) ∙ ap out-Term e ∙ out-Param j in cc
param-is into (node.Pick c a b) j e = let f = sym (out-Pick _ _ _) ∙ ap out-Term e ∙ out-Param j in cc

num-is : (into : List Term) (m : Node) (j : ℤ) → node_term into m ≡ Num j → m ≡ node.Num j
num-is into (node.Param k) j e = let f = sym (out-Param k) ∙ ap out-Term e ∙ out-Num j in cc
num-is into (node.Num k) j e = let f = sym (out-Num k) ∙ ap out-Term e ∙ out-Num j in cc
num-is into (node.Op o a b) j e = let f = sym (out-Op o _ _) ∙ ap out-Term e ∙ out-Num j in cc
num-is into (node.Pick c a b) j e = let f = sym (out-Pick _ _ _) ∙ ap out-Term e ∙ out-Num j in cc

equal-nodes : (m n : Node) → m ≡ n → same_node m n ≡ true
equal-nodes m n e = ap (same_node m) (sym e) ∙ same_node-itself m

pub nodes-Param : (old : List (Option ℕ)) (j : ℕ) (m : Node) → PairsNodes old old (node.Param j) m (same_node m (node.Param j))
nodes-Param old j m = record {
  goes_on = goes-nowhere old;
  above = λ bound low i k h e. e;
  done = λ e. subst (ArePaired old (node.Param j)) (sym (same_node-true m (node.Param j) e)) refl;
  within = λ count inside low. inside;
  same = λ into from apart inside are low is. (equal-nodes m (node.Param j) (param-is into m j is), are);
}

pub nodes-Num : (old : List (Option ℕ)) (j : ℤ) (m : Node) → PairsNodes old old (node.Num j) m (same_node m (node.Num j))
nodes-Num old j m = record {
  goes_on = goes-nowhere old;
  above = λ bound low i k h e. e;
  done = λ e. subst (ArePaired old (node.Num j)) (sym (same_node-true m (node.Num j) e)) refl;
  within = λ count inside low. inside;
  same = λ into from apart inside are low is. (equal-nodes m (node.Num j) (num-is into m j is), are);
}

-- two operators that are one
pub nodes-Op : (old new : List (Option ℕ)) (p o : TermOp) (a b x y : ℕ) (paired : Bool) → p ≡ o → PairsEach old new ((a, x) ∷ (b, y) ∷ []) paired → PairsNodes old new (node.Op o a b) (node.Op p x y) paired
nodes-Op old new p o a b x y paired q e = record {
  goes_on = e.goes_on;
  above = λ bound low. e.above bound (low.0, (low.1, tt));
  done = λ yes. (sym q, (e.done yes).0, (e.done yes).1.0);
  within = λ count inside low. e.within count inside (low.0, (low.1, tt));
  same = λ into from apart inside are low is.
      let f = sym (out-Op p (term_at into x) (term_at into y)) ∙ ap out-Term is ∙ out-Op o (term_at from a) (term_at from b) in
      let first : term_at into x ≡ term_at from a = cc in
      let second : term_at into y ≡ term_at from b = cc in
      e.same into from apart inside are ((low.0, first), ((low.1, second), tt));
}

-- two operators that differ
pub nodes-differ : (old : List (Option ℕ)) (p o : TermOp) (a b x y : ℕ) → p ≢ o → PairsNodes old old (node.Op o a b) (node.Op p x y) false
nodes-differ old p o a b x y q = record {
  goes_on = goes-nowhere old;
  above = λ bound low i k h e. e;
  done = λ yes. cc;
  within = λ count inside low. inside;
  same = λ into from apart inside are low is.
      let f = sym (out-Op p (term_at into x) (term_at into y)) ∙ ap out-Term is ∙ out-Op o (term_at from a) (term_at from b) in
      let one : p ≡ o = cc in
      absurd (q one);
}

pub nodes-Pick : (old new : List (Option ℕ)) (t a b u x y : ℕ) (paired : Bool) → PairsEach old new ((t, u) ∷ (a, x) ∷ (b, y) ∷ []) paired → PairsNodes old new (node.Pick t a b) (node.Pick u x y) paired
nodes-Pick old new t a b u x y paired e = record {
  goes_on = e.goes_on;
  above = λ bound low. e.above bound (low.0, (low.1, (low.2, tt)));
  done = λ yes. ((e.done yes).0, (e.done yes).1.0, (e.done yes).1.1.0);
  within = λ count inside low. e.within count inside (low.0, (low.1, (low.2, tt)));
  same = λ into from apart inside are low is.
      let f = sym (out-Pick (term_at into u) (term_at into x) (term_at into y)) ∙ ap out-Term is ∙ out-Pick (term_at from t) (term_at from a) (term_at from b) in
      let test : term_at into u ≡ term_at from t = cc in
      let first : term_at into x ≡ term_at from a = cc in
      let second : term_at into y ≡ term_at from b = cc in
      e.same into from apart inside are ((low.0, test), ((low.1, first), ((low.2, second), tt)));
}

-- the same of nodes that are those
pub op-nodes : (old new : List (Option ℕ)) (n m : Node) (o p : TermOp) (a b x y : ℕ) (paired : Bool) → n ≡ node.Op o a b → m ≡ node.Op p x y → p ≡ o → PairsEach old new ((a, x) ∷ (b, y) ∷ []) paired → PairsNodes old new n m paired
op-nodes old new n m o p a b x y paired ne me q e =
    subst (λ (k : Node). PairsNodes old new k m paired) (sym ne) (subst (λ (l : Node). PairsNodes old new (node.Op o a b) l paired) (sym me) (nodes-Op old new p o a b x y paired q e))

pub pick-nodes : (old new : List (Option ℕ)) (n m : Node) (t a b u x y : ℕ) (paired : Bool) → n ≡ node.Pick t a b → m ≡ node.Pick u x y → PairsEach old new ((t, u) ∷ (a, x) ∷ (b, y) ∷ []) paired → PairsNodes old new n m paired
pick-nodes old new n m t a b u x y paired ne me e =
    subst (λ (k : Node). PairsNodes old new k m paired) (sym ne) (subst (λ (l : Node). PairsNodes old new (node.Pick t a b) l paired) (sym me) (nodes-Pick old new t a b u x y paired e))

-- ---- the operands of a node and of its partner

-- a node that has no partner
pub operands-none : (into from : List Term) (old : List (Option ℕ)) (n : ℕ) → number_at old n ≡ None → AreIn (length into) old → PairsOperands into from n old old true
operands-none into from old n free inside = record {
  goes_on = goes-nowhere old;
  above = λ j k h e. e;
  done = λ yes m e. let f : None ≡ Some m = sym free ∙ e in cc;
  within = inside;
  same = λ apart are. (refl, are);
}

pub operands-some : (into from : List Term) (old new : List (Option ℕ)) (n m : ℕ) (k l : Node) (paired : Bool) → number_at old n ≡ Some m → slice_get from n ≡ Some (node_term from k) → AreBelow n k
    → slice_get into m ≡ Some (node_term into l) → AreBelow m l → AreIn (length into) old → PairsNodes old new k l paired → PairsOperands into from n old new paired
operands-some into from old new n m k l paired e at low at' low' inside p =
    let here : m < length into = inside.at n m e in
    let low'' = below-more m (length into) l (omega arith) low' in
    record {
      goes_on = p.goes_on;
      above = p.above n low;
      done = λ yes j d.
          let same : Some m ≡ Some j = sym (p.goes_on.kept n m e) ∙ d in
          let is : m ≡ j = cc in
          subst (AreMatched into from new n) is (record { node = k; other = l; is_node = at; is_other = at'; below = low; paired = p.done yes });
      within = p.within (length into) inside low'';
      same = λ apart are. p.same into from apart inside are low'' (sym (term_at-some into m _ at') ∙ are.at n m e ∙ term_at-some from n _ at);
    }

-- ---- all that are paired

-- partners are kept, and so is what they are made of
paired-kept : (old new : List (Option ℕ)) (n m : Node) → GoesOn old new → ArePaired old n m → ArePaired new n m
paired-kept old new (node.Param j) (node.Param k) g p = p
paired-kept old new (node.Num j) (node.Num k) g p = p
paired-kept old new (node.Op o a b) (node.Op q x y) g p = (p.0, g.kept _ _ p.1, g.kept _ _ p.2)
paired-kept old new (node.Pick t a b) (node.Pick u x y) g p = (g.kept _ _ p.0, g.kept _ _ p.1, g.kept _ _ p.2)
paired-kept old new n m g p = absurd p

matched-kept : (into from : List Term) (old new : List (Option ℕ)) (n m : ℕ) → GoesOn old new → AreMatched into from old n m → AreMatched into from new n m
matched-kept into from old new n m g p = record {
  node = p.node;
  other = p.other;
  is_node = p.is_node;
  is_other = p.is_other;
  below = p.below;
  paired = paired-kept old new p.node p.other g p.paired;
}

-- what stands from a node on is matched, of these partners and of the first ones
pub record AreFrom (into from : List Term) (first partners : List (Option ℕ)) (n : ℕ) : Type 0 where
  pub goes_on : GoesOn first partners
  pub within : AreIn (length into) partners
  pub same : AreApart into → AreSame into from first → AreSame into from partners
  pub matched : (j m : ℕ) → n ≤ j → number_at partners j ≡ Some m → AreMatched into from partners j m

past-none : (partners : List (Option ℕ)) (n m : ℕ) → length partners ≤ n → number_at partners n ≡ Some m → ⊥
past-none [] n m h e = cc
past-none (o ∷ partners) zero m h e = absurd (omega arith)
past-none (o ∷ partners) (suc n) m h e = past-none partners n m (omega arith) e

pub from-end : (into from : List Term) (first : List (Option ℕ)) → AreIn (length into) first → AreFrom into from first first (length first)
from-end into from first inside = record {
  goes_on = goes-nowhere first;
  within = inside;
  same = λ apart are. are;
  matched = λ j m h e. absurd (past-none first j m h e);
}

-- one node more
pub from-more : (into from : List Term) (first old new : List (Option ℕ)) (n k : ℕ) → n ≡ k + 1 → AreFrom into from first old n → PairsOperands into from k old new true → AreFrom into from first new k
from-more into from first old new n k next f p = record {
  goes_on = goes-further first old new f.goes_on p.goes_on;
  within = p.within;
  same = λ apart are. (p.same apart (f.same apart are)).1;
  matched = λ j m h e. by j m h e (cases_eq j k);
}
  where
    -- a partner of a node above is an old one, since each node's operands stand before it
    by : (j m : ℕ) → k ≤ j → number_at new j ≡ Some m → (j ≡ k) ⊎ (j ≢ k) → AreMatched into from new j m
    by j m h e (inl same) = subst (λ (i : ℕ). AreMatched into from new i m) (sym same) (p.done refl m (ap (number_at new) (sym same) ∙ e))
    by j m h e (inr other) = matched-kept into from old new j m p.goes_on (f.matched j m (omega arith) (p.above j m h e))

-- a node and its partner whose operands are paired are of one term, if these are
paired-same : (into from : List Term) (partners : List (Option ℕ)) (bound : ℕ) → ((n m : ℕ) → n < bound → number_at partners n ≡ Some m → term_at into m ≡ term_at from n)
    → (n m : Node) → AreBelow bound n → ArePaired partners n m → node_term into m ≡ node_term from n
paired-same into from partners bound each (node.Param j) (node.Param k) low p = ap Param (sym p)
paired-same into from partners bound each (node.Num j) (node.Num k) low p = ap Num (sym p)
paired-same into from partners bound each (node.Op o a b) (node.Op q x y) low p = λ i. Op (sym p.0 i) (each a x low.0 p.1 i) (each b y low.1 p.2 i)
paired-same into from partners bound each (node.Pick t a b) (node.Pick u x y) low p = λ i. Pick (each t u low.0 p.0 i) (each a x low.1 p.1 i) (each b y low.2 p.2 i)
paired-same into from partners bound each n m low p = absurd p

matched-same : (into from : List Term) (partners : List (Option ℕ)) → ((n m : ℕ) → number_at partners n ≡ Some m → AreMatched into from partners n m)
    → (bound : ℕ) (n m : ℕ) → n < bound → number_at partners n ≡ Some m → term_at into m ≡ term_at from n
matched-same into from partners each zero n m h e = absurd (omega arith)
matched-same into from partners each (suc bound) n m h e =
    let p = each n m e in
    let low = below-more n bound p.node (omega arith) p.below in
    term_at-some into m _ p.is_other ∙ paired-same into from partners bound (matched-same into from partners each bound) p.node p.other low p.paired ∙ sym (term_at-some from n _ p.is_node)

-- all that is paired is matched: the first partners are of the terms of their nodes
pub from-start : (into from : List Term) (first partners : List (Option ℕ)) (n : ℕ) → n ≡ 0 → AreFrom into from first partners n → IsTrue true ↔ AreSame into from first
from-start into from first partners n none f = (λ yes. record { at = λ j m e. all j m (f.goes_on.kept j m e) }, λ are. refl)
  where
    all : (j m : ℕ) → number_at partners j ≡ Some m → term_at into m ≡ term_at from j
    all j m e = matched-same into from partners (λ i k d. f.matched i k (omega arith) d) (suc j) j m (omega arith) e

-- a pair whose operands can't be paired
pub from-stop : (into from : Table) (first old new : List (Option ℕ)) (n k : ℕ) → IsTable into → AreFrom into.terms from.terms first old n → PairsOperands into.terms from.terms k old new false → IsTrue false ↔ AreSame into.terms from.terms first
from-stop into from first old new n k table f p = (λ t. absurd (impossible t), λ are. let f : false ≡ true = (p.same table.distinct (f.same table.distinct are)).0 in f)
  where
    impossible : IsTrue false → ⊥
    impossible t = cc

-- ---- the nodes of two lists, one for one

-- what the first pairs of two lists keep
pub record AreSoFar (first partners : List (Option ℕ)) (nodes others : List ℕ) (count : ℕ) : Type 0 where
  pub goes_on : GoesOn first partners
  pub done : (i : ℕ) → i < count → number_at partners (get_or nodes i 0) ≡ Some (get_or others i 0)
  pub within : (size : ℕ) → AreIn size first → All (λ m. m < size) others → AreIn size partners
  pub same : (into from : List Term) → AreApart into → AreIn (length into) first → AreSame into from first → All (λ m. m < length into) others
      → map (term_at into) others ≡ map (term_at from) nodes → AreSame into from partners

pub far-none : (first : List (Option ℕ)) (nodes others : List ℕ) → AreSoFar first first nodes others 0
far-none first nodes others = record {
  goes_on = goes-nowhere first;
  done = λ i h. absurd (omega arith);
  within = λ size inside w. inside;
  same = λ into from apart inside are w is. are;
}

-- two terms at one place of two equal lists
terms-at : (into from : List Term) (nodes others : List ℕ) (i : ℕ) → i < length nodes → length nodes ≡ length others → map (term_at into) others ≡ map (term_at from) nodes → term_at into (get_or others i 0) ≡ term_at from (get_or nodes i 0)
terms-at into from nodes others i h lengths is =
    sym (get_or-map (term_at into) others i 0 (Num (pos 0)) (omega arith)) ∙ ap (λ (ts : List Term). get_or ts i (Num (pos 0))) is ∙ get_or-map (term_at from) nodes i 0 (Num (pos 0)) h

module _ (first old new : List (Option ℕ)) (nodes others : List ℕ) (i n m : ℕ) (here : i < length nodes) (lengths : length nodes ≡ length others) (n-is : n ≡ get_or nodes i 0) (m-is : m ≡ get_or others i 0) (far : AreSoFar first old nodes others i) where
  bounded : (size : ℕ) → All (λ k. k < size) others → m < size
  bounded size w = subst (λ (k : ℕ). k < size) (sym m-is) (w i 0 (omega arith))

  terms-are : (into from : List Term) → map (term_at into) others ≡ map (term_at from) nodes → term_at into m ≡ term_at from n
  terms-are into from is = ap (term_at into) m-is ∙ terms-at into from nodes others i here lengths is ∙ ap (term_at from) (sym n-is)

  pub far-more : Pairs old new n m true → AreSoFar first new nodes others (i + 1)
  far-more p = record {
    goes_on = goes-further first old new far.goes_on p.goes_on;
    done = below_more (λ k. number_at new (get_or nodes k 0) ≡ Some (get_or others k 0)) i
        (λ k h. p.goes_on.kept _ _ (far.done k h))
        (ap (number_at new) (sym n-is) ∙ p.done refl ∙ ap (λ (k : ℕ). Some k) m-is);
    within = λ size inside w. p.within size (far.within size inside w) (bounded size w);
    same = λ into from apart inside are w is.
        (p.same into from apart (far.within (length into) inside w) (far.same into from apart inside are w is) (bounded (length into) w) (terms-are into from is)).1;
  }

  pub far-stop : Pairs old new n m false → PairsAll first new nodes others false
  far-stop p = record {
    goes_on = goes-further first old new far.goes_on p.goes_on;
    done = λ e. cc;
    within = λ size inside w. p.within size (far.within size inside w) (bounded size w);
    same = λ into from apart inside are w is.
        let f : false ≡ true = (p.same into from apart (far.within (length into) inside w) (far.same into from apart inside are w is) (bounded (length into) w) (terms-are into from is)).0 in cc;
  }

maps-are : (partners : List (Option ℕ)) (nodes others : List ℕ) → length nodes ≡ length others → ((i : ℕ) → i < length nodes → number_at partners (get_or nodes i 0) ≡ Some (get_or others i 0)) → map (number_at partners) nodes ≡ map Some others
maps-are partners [] [] lengths each = refl
maps-are partners [] (m ∷ others) lengths each = absurd (omega arith)
maps-are partners (n ∷ nodes) [] lengths each = absurd (omega arith)
maps-are partners (n ∷ nodes) (m ∷ others) lengths each =
    let one : number_at partners n ≡ Some m = each 0 (omega arith) in
    let rest = maps-are partners nodes others (omega arith) (λ i h. each (suc i) (omega arith)) in
    λ i. one i ∷ rest i

pub far-done : (first partners : List (Option ℕ)) (nodes others : List ℕ) (count : ℕ) → length nodes ≡ length others → length nodes ≤ count → AreSoFar first partners nodes others count → PairsAll first partners nodes others true
far-done first partners nodes others count lengths end far = record {
  goes_on = far.goes_on;
  done = λ e. maps-are partners nodes others lengths (λ i h. far.done i (omega arith));
  within = far.within;
  same = λ into from apart inside are w is. (refl, far.same into from apart inside are w is);
}

-- ---- two regions

none-paired : (n j m : ℕ) → number_at (replicate n None) j ≡ Some m → ⊥
none-paired zero j m e = cc
none-paired (suc n) zero m e = cc
none-paired (suc n) (suc j) m e = none-paired n j m e

-- partners of the same terms, node by node
lists-same : (into from : List Term) (partners : List (Option ℕ)) → AreSame into from partners → (ns ms : List ℕ) → map (number_at partners) ns ≡ map Some ms → map (term_at into) ms ≡ map (term_at from) ns
lists-same into from partners are [] [] e = refl
lists-same into from partners are [] (m ∷ ms) e = cc
lists-same into from partners are (n ∷ ns) [] e = cc
lists-same into from partners are (n ∷ ns) (m ∷ ms) e =
    let one : number_at partners n ≡ Some m = cc in
    let rest : map (number_at partners) ns ≡ map Some ms = cc in
    let t = are.at n m one in
    let more = lists-same into from partners are ns ms rest in
    λ i. t i ∷ more i

module _ (into from : List Term) (first : List (Option ℕ)) (nodes others : List ℕ) (blank : first ≡ replicate (length first) None) (apart : AreApart into) (w : All (λ m. m < length into) others) where
  no-partners : (j m : ℕ) → number_at first j ≡ Some m → ⊥
  no-partners j m e = none-paired (length first) j m (ap (λ (xs : List (Option ℕ)). number_at xs j) (sym blank) ∙ e)

  first-in : AreIn (length into) first
  first-in = record { at = λ j m e. absurd (no-partners j m e) }

  first-same : AreSame into from first
  first-same = record { at = λ j m e. absurd (no-partners j m e) }

  pub lists-in : (new : List (Option ℕ)) (b : Bool) → PairsAll first new nodes others b → AreIn (length into) new
  lists-in new b p = p.within (length into) first-in w

  pub lists-stop : (new : List (Option ℕ)) (b : Bool) → b ≡ false → PairsAll first new nodes others b → IsTrue b ↔ (map (term_at into) others ≡ map (term_at from) nodes)
  lists-stop new b e p = (λ t. absurd (let f : true ≡ false = sym t ∙ e in cc), λ is. (p.same into from apart first-in first-same w is).0)

  pub lists-go-on : (mid : List (Option ℕ)) (b r : Bool) → b ≡ true → PairsAll first mid nodes others b → IsTrue r ↔ AreSame into from mid → IsTrue r ↔ (map (term_at into) others ≡ map (term_at from) nodes)
  lists-go-on mid b r t p e = (
    λ h. lists-same into from mid (e.0 h) nodes others (p.done t),
    λ is. e.1 (p.same into from apart first-in first-same w is).1,
  )

pub regions-are : (r : Bool) (us vs ts rs : List Term) → us ≡ ts → vs ≡ rs → IsTrue r ↔ (ts ≡ rs) → IsTrue r ↔ (us ≡ vs)
regions-are r us vs ts rs u v e = (λ h. u ∙ e.0 h ∙ sym v, λ is. e.1 (sym u ∙ is ∙ v))

pub regions-longer : (into from : List Term) (nodes others : List ℕ) (us vs : List Term) → us ≡ map (term_at into) others → vs ≡ map (term_at from) nodes → length others ≢ length nodes → IsTrue false ↔ (us ≡ vs)
regions-longer into from nodes others us vs u v differ = (λ t. absurd (impossible t), λ is. absurd (differ (lengths is)))
  where
    impossible : IsTrue false → ⊥
    impossible t = cc

    lengths : us ≡ vs → length others ≡ length nodes
    lengths is = sym (length-map others (term_at into)) ∙ ap (λ (ts : List Term). length ts) (sym u ∙ is ∙ v) ∙ length-map nodes (term_at from)
