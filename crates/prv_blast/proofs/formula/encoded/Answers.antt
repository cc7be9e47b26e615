use Rattle.std.proofs.Common.{◌≡◌, List, ◌∙◌, length, get_or, ap, arith}
use Rattle.std.proofs.lemmas.Option.{slice_get-get_or}
use Rattle.prv_arith.specs.declared.words.Word.{Word}
use Rattle.prv_blast.specs.Encoders.{encoding_at}
use Rattle.prv_blast.proofs.Conditions.{root-can, root-more, starts-empty, formula-is}
use Rattle.prv_blast.proofs.formula.encoded.Goals as goal

pub literal-requires-clause-can : goal.literal-requires-clause-can
literal-requires-clause-can c = λ open-yet.
    let i = c.loop-root.root-index in
    root-can c.args.pool.now c.len.ensures.table c.args.roots.now c.args.order.now c.requires.known c.requires.cheap c.requires.roots c.requires.within c.requires.order i (get_or c.args.roots.now i 0) (slice_get-get_or c.args.roots.now i 0 (omega arith))
    (encoding_at c.args.pool.now.terms c.args.order.now c.loop-root.encoder.words.items c.loop-root.encoder.builder) c.loop-root.invariant.made open-yet

pub loop-root-preserved : goal.loop-root-preserved
loop-root-preserved c =
    let i = c.loop-root.root-index in
    record {
      made = root-more c.args.pool.now.terms c.args.roots.now i (get_or c.args.roots.now i 0) (slice_get-get_or c.args.roots.now i 0 (omega arith))
          (encoding_at c.args.pool.now.terms c.args.order.now c.loop-root.encoder.words.items c.loop-root.encoder.builder) (encoding_at c.args.pool.now.terms c.args.order.now c.literal.new.self.words.items c.literal.new.self.builder) c.in_ok-literal.ensures.encodes c.loop-root.invariant.made;
      fits = c.in_ok-literal.ensures.fits;
    }

pub loop-root-init : goal.loop-root-init
loop-root-init c =
    let none : length c.new-encoder.result.words.items ≡ 0 = ap (λ (ws : List Word). length ws) c.new-encoder.ensures.words in
    record {
      made = starts-empty c.args.pool.now.terms c.args.order.now c.new-encoder.result.words.items c.new-encoder.result.builder c.args.params _ c.new-encoder.ensures.words c.new-encoder.ensures.circuit c.requires.params;
      fits = omega arith;
    }

pub returns : goal.returns
returns c =
    c.into_cnf.ensures ∙ formula-is c.args.pool.now.terms c.args.roots.now c.args.order.now c.loop-root.encoder.words.items c.loop-root.encoder.builder c.loop-root.root-index (omega arith) c.loop-root.invariant.made
