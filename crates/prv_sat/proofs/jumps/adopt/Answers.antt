use Rattle.std.proofs.Common.{◌≡◌, ◌++◌, ◌∷◌, [], length, ap, ◌∙◌, arith}
use Rattle.std.proofs.lemmas.List.{length-take-le}
use Rattle.prv_check.specs.Lines.{known}
use Rattle.prv_propagate.specs.Trails.{Trailing}
use Rattle.prv_propagate.specs.Soundness.{IsSound, ArePropagated}
use Rattle.prv_sat.proofs.Searching.{addable, IsAddable}
use Rattle.prv_sat.proofs.jumps.adopt.Goals as goal

pub add_line-requires : goal.add_line-requires
add_line-requires c =
    let f = c.args.cnf.now in
    let old = c.args.state.now in
    let lines : c.as_slice.result.now ≡ old.lines.items = rw c.in_ok-end.ensures.lines at c.as_slice.ensures.value in
    let a : IsAddable f c.as_slice.result.now c.cut_back.new.state.trail c.cut_back.new.state.watches c.args.line.clause c.args.lit c.args.keep = rw (lines, c.in_ok-end.ensures.trail, c.in_ok-end.ensures.watches) (addable f old.lines.items old.trail old.watches c.args.line c.args.lit c.args.keep c.in_ok-end.end c.requires.state c.steps.ensures.assigned c.requires.clause c.in_ok-end.ensures.cut) in
    record {
      sound = a.sound;
      propagated = a.propagated;
      few = rw lines c.requires.few;
      within = a.within;
      not_true = a.not_true;
      not_false = a.not_false;
      asserting = a.asserting;
    }

pub returns-clause-ready : goal.returns-clause-ready
returns-clause-ready c =
    let f = c.args.cnf.now in
    let old = c.args.state.now in
    let end = c.in_ok-end.end in
    let lines : c.as_slice.result.now ≡ old.lines.items = rw c.in_ok-end.ensures.lines at c.as_slice.ensures.value in
    let new : c.push.new.self.items ≡ old.lines.items ++ c.args.line ∷ [] = rw c.in_ok-end.ensures.lines at c.in_ok-push.ensures.items in
    let len : length c.cut_back.new.state.trail.steps ≡ end = rw c.in_ok-end.ensures.trail (length-take-le end old.trail.steps c.in_ok-end.ensures.cut.inside) in
    let sound : IsSound (known f (old.lines.items ++ c.args.line ∷ [])) c.add_line.new.trail c.add_line.new.watches = rw lines at c.in_ok-add_line.ensures.sound in
    let propagated : ArePropagated (known f (old.lines.items ++ c.args.line ∷ [])) c.add_line.new.watches.pairs c.add_line.new.trail.steps end = rw (lines, len) at c.in_ok-add_line.ensures.propagated in
    rw new (
    record {
      state = record {
        sound = sound;
        vars = c.in_ok-add_line.ensures.vars ∙ ap (λ (t : Trailing). t.vars) c.in_ok-end.ensures.trail ∙ c.requires.state.vars;
      };
      inside = omega (arith, c.in_ok-add_line.ensures.longer, len);
      propagated = propagated;
    })
