use Rattle.std.proofs.Common.{◌≡◌, ℕ, suc, ◌+◌, ◌-◌, ◌++◌, List, sym, ap, ◌∙◌, arith, append_assoc}
use Rattle.prv_gen.specs.Generated.{test_line, test_lines, drawn, next_state}
use Rattle.prv_gen.proofs.pairs.push_tests.Goals as goal

-- the line that comes next, and the others
more : (out first : List ℕ) (state k left fewer next : ℕ) → left ≡ suc fewer → next ≡ next_state state → first ≡ test_line (drawn next) (k + 1) →
    (out ++ first) ++ test_lines next (k + 1 + 1) fewer ≡ out ++ test_lines state (k + 1) left
more out first state k left fewer next e s f =
    append_assoc out first (test_lines next (k + 1 + 1) fewer)
    ∙ (λ i. out ++ (f i ++ test_lines next (k + 1 + 1) fewer))
    ∙ (λ i. out ++ (test_line (drawn (s i)) (k + 1) ++ test_lines (s i) (k + 1 + 1) fewer))
    ∙ (λ i. out ++ (test_line (drawn (next_state state)) (k + 1) ++ test_lines (next_state state) (step i) fewer))
    ∙ (λ i. out ++ test_lines state (k + 1) (sym e i))
  where
    step : k + 1 + 1 ≡ suc (k + 1)
    step = omega arith

pub loop-k-preserved : goal.loop-k-preserved
loop-k-preserved c =
    let out = c.loop-k.out.items in
    let state = c.loop-k.draws.state in
    let next = c.draw-bound.new.self.state in
    ap (λ (l : List ℕ). l ++ test_lines next (c.loop-k.k + 1 + 1) (c.args.size - (c.loop-k.k + 1))) c.in_ok-push_test.ensures
    ∙ more out (test_line c.draw-bound.result (c.loop-k.k + 1)) state c.loop-k.k (c.args.size - c.loop-k.k) (c.args.size - (c.loop-k.k + 1)) next
    (omega arith) c.draw-bound.ensures.state (ap (λ (b : ℕ). test_line b (c.loop-k.k + 1)) c.draw-bound.ensures.value)
    ∙ c.loop-k.invariant
