-- The bits of a mask are the variables of its list.
use Rattle.std.proofs.Common.{◌≡◌, ℕ, zero, suc, ◌<◌, ◌==◌, nat_lt, nat_eq, Bool, true, false, ◌||◌, List, [], ◌∷◌, ◌++◌, max, refl, sym, ap, ◌∙◌, bit_or, arith}
use Rattle.std.specs.Int.{bit_at}
use Rattle.std.proofs.lemmas.Nat.Bits.{bit_at_or, bit_at-pow_same, bit_at-pow_other, bit_at-zero, same_from_bits, bit_at-lt}
use Rattle.std.proofs.lemmas.Bool.Decides.{nat_tests}
use Rattle.prv_model.specs.declared.op.BinOp.{BinOp}
use Rattle.prv_model.specs.declared.expr.Expr.{Expr}
use Rattle.prv_model.specs.declared.expr.Expr.TheOpen.{Expr-F}
use Rattle.prv_model.specs.declared.expr.Expr.TheFolds.{fold-roll-Expr}
use Rattle.prv_model.specs.declared.expr.Expr.TheVariants.{Var, Bin, Pick, rolls-Var, rolls-Bin, rolls-Pick}
use Rattle.prv_dep.specs.Dependences.{has, vars, node_vars}
use Rattle.prv_dep.specs.Tables.{bit, mask, has_bit}

max_assoc : (a b c : ℕ) → max a (max b c) ≡ max (max a b) c
max_assoc a b c = omega arith

or-assoc : (a b c : ℕ) → bit_or a (bit_or b c) ≡ bit_or (bit_or a b) c
or-assoc a b c = same_from_bits _ _ (λ i. bit_at_or a (bit_or b c) i ∙ ap (λ (n : ℕ). max (bit_at a i) n) (bit_at_or b c i) ∙ max_assoc (bit_at a i) (bit_at b i) (bit_at c i)
    ∙ sym (bit_at_or (bit_or a b) c i ∙ ap (λ (n : ℕ). max n (bit_at c i)) (bit_at_or a b i)))

or-zero : (a : ℕ) → bit_or 0 a ≡ a
or-zero a = same_from_bits _ _ (λ i. bit_at_or 0 a i ∙ ap (λ (n : ℕ). max n (bit_at a i)) (bit_at-zero i) ∙ omega arith)

pub or-none : (a : ℕ) → bit_or a 0 ≡ a
or-none a = same_from_bits _ _ (λ i. bit_at_or a 0 i ∙ ap (λ (n : ℕ). max (bit_at a i) n) (bit_at-zero i) ∙ omega arith)

pub mask-append : (a b : List ℕ) → mask (a ++ b) ≡ bit_or (mask a) (mask b)
mask-append [] b = sym (or-zero (mask b))
mask-append (v ∷ a) b = ap (λ (n : ℕ). bit_or (bit v) n) (mask-append a b) ∙ or-assoc (bit v) (mask a) (mask b)

pub mask-one : (v : ℕ) → mask (v ∷ []) ≡ bit v
mask-one v = or-none (bit v)

-- the variables of an expression, node by node
pub mask-Var : (e : Expr) (v m : ℕ) → e ≡ Var v → m ≡ bit v → m ≡ mask (vars e)
mask-Var e v m is so =
    so ∙ sym (mask-one v) ∙ ap (λ (vs : List ℕ). mask vs) (sym (ap (λ (x : Expr). vars x) (sym (rolls-Var v)) ∙ fold-roll-Expr (List ℕ) node_vars (Expr-F.Var v))) ∙ ap (λ (x : Expr). mask (vars x)) (sym is)

pub mask-Bin : (e : Expr) (op : BinOp) (a b : Expr) (m n : ℕ) → e ≡ Bin op a b → m ≡ mask (vars a) → n ≡ mask (vars b) → bit_or m n ≡ mask (vars e)
mask-Bin e op a b m n is first second =
    ap (λ (k : ℕ). bit_or k n) first ∙ ap (λ (k : ℕ). bit_or (mask (vars a)) k) second ∙ sym (mask-append (vars a) (vars b))
    ∙ ap (λ (vs : List ℕ). mask vs) (sym (ap (λ (x : Expr). vars x) (sym (rolls-Bin op a b)) ∙ fold-roll-Expr (List ℕ) node_vars (Expr-F.Bin op a b))) ∙ ap (λ (x : Expr). mask (vars x)) (sym is)

pub mask-Pick : (e a b d : Expr) (k m n : ℕ) → e ≡ Pick a b d → k ≡ mask (vars a) → m ≡ mask (vars b) → n ≡ mask (vars d) → bit_or k (bit_or m n) ≡ mask (vars e)
mask-Pick e a b d k m n is first second third =
    ap (λ (i : ℕ). bit_or i (bit_or m n)) first ∙ ap (λ (i : ℕ). bit_or (mask (vars a)) (bit_or i n)) second ∙ ap (λ (i : ℕ). bit_or (mask (vars a)) (bit_or (mask (vars b)) i)) third
    ∙ ap (λ (i : ℕ). bit_or (mask (vars a)) i) (sym (mask-append (vars b) (vars d))) ∙ sym (mask-append (vars a) (vars b ++ vars d))
    ∙ ap (λ (vs : List ℕ). mask vs) (sym (ap (λ (x : Expr). vars x) (sym (rolls-Pick a b d)) ∙ fold-roll-Expr (List ℕ) node_vars (Expr-F.Pick a b d))) ∙ ap (λ (x : Expr). mask (vars x)) (sym is)

-- ---- a bit of a mask

bit-same : (v : ℕ) → v < 64 → bit_at (bit v) v ≡ 1
bit-same v low = let small : nat_lt v 64 ≡ true = grind (arith, nat_tests) in rw small (bit_at-pow_same v)

bit-other : (u v : ℕ) → (v ≡ u → ⊥) → bit_at (bit u) v ≡ 0
bit-other u v differ = by (nat_lt u 64) refl
  where
    by : (b : Bool) → nat_lt u 64 ≡ b → bit_at (bit u) v ≡ 0
    by true e = rw e (bit_at-pow_other u v differ)
    by false e = rw e (bit_at-zero v)

bit-is : (u v : ℕ) → v < 64 → (bit_at (bit u) v == 1) ≡ nat_eq v u
bit-is u v low = by (nat_eq v u) refl
  where
    by : (b : Bool) → nat_eq v u ≡ b → (bit_at (bit u) v == 1) ≡ nat_eq v u
    by true e =
        let same : v ≡ u = grind (arith, nat_tests) in
        ap (λ (n : ℕ). n == 1) (ap (λ (k : ℕ). bit_at (bit u) k) same ∙ bit-same u (omega arith)) ∙ sym e
    by false e = ap (λ (n : ℕ). n == 1) (bit-other u v (grind (arith, nat_tests))) ∙ sym e

max-one : (a b : ℕ) → a < 2 → b < 2 → (max a b == 1) ≡ ((a == 1) || (b == 1))
max-one zero b low small = let same : max 0 b ≡ b = omega arith in ap (λ (n : ℕ). n == 1) same
max-one (suc zero) b low small = let same : max 1 b ≡ 1 = omega arith in ap (λ (n : ℕ). n == 1) same
max-one (suc (suc a)) b low small = absurd (omega arith)

pub mask-has : (vs : List ℕ) (v : ℕ) → v < 64 → has_bit (mask vs) v ≡ has vs v
mask-has [] v low = ap (λ (n : ℕ). n == 1) (bit_at-zero v)
mask-has (u ∷ vs) v low =
    ap (λ (n : ℕ). n == 1) (bit_at_or (bit u) (mask vs) v)
    ∙ max-one _ _ (bit_at-lt (bit u) v) (bit_at-lt (mask vs) v)
    ∙ ap (λ (b : Bool). b || (bit_at (mask vs) v == 1)) (bit-is u v low) ∙ ap (λ (b : Bool). nat_eq v u || b) (mask-has vs v low)
