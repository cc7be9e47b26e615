use Rattle.std.proofs.Common.{rules, ◌≡◌, ◌+◌, [], ◌∷◌, ◌++◌, take, get_or, pos, ap, ◌∙◌, FitsSigned}
use Rattle.std.proofs.lemmas.List.{drop_all}
use Rattle.std.proofs.lemmas.Int.{to_z-of_z}
use Rattle.std.specs.Int.{w32}
use Rattle.prv_run.specs.Points.{differs, open_entry, literals, rests}
use Rattle.prv_run.proofs.PointLists.{rests-drop, one-more, all-made}
use Rattle.prv_run.proofs.points.push_rests.Goals as goal

pub loop-k-preserved : goal.loop-k-preserved
loop-k-preserved c =
    let x = c.args.words.now in
    let k = c.loop-k.k in
    let front = literals 0 (take k x) in
    let fits : FitsSigned w32 (get_or x k (pos 0)) = search rules in
    let term : c.in_ok-differs.field-0 ≡ differs k (get_or x k (pos 0)) = c.in_ok-differs.ensures ∙ ap (differs k) (to_z-of_z w32 _ fits) in
    let terms : c.push.new.self ≡ front ++ differs k (get_or x k (pos 0)) ∷ [] = cc (term, c.in_ok-terms.ensures, c.in_ok-push.ensures.ok) in
    let pushed : c.push-in-loop-k.new.self.items ≡ c.loop-k.entries.items ++ open_entry (2 + k) (front ++ differs k (get_or x k (pos 0)) ∷ []) ∷ [] = cc (terms, c.in_ok-push-2.ensures.items, c.new.ensures) in
    one-more c.loop-k.entries.items _ _ _ _ _ pushed (rests-drop x k c.loop-k-test.true) c.loop-k.invariant

pub returns : goal.returns
returns c = all-made _ _ _ (ap (rests (2 + c.loop-k.k) (literals 0 (take c.loop-k.k c.args.words.now)) c.loop-k.k) (drop_all c.loop-k.k c.args.words.now c.loop-k-test.false)) c.loop-k.invariant
