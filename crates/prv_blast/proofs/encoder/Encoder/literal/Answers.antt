use Rattle.std.proofs.Common.{Bool, ◌∙◌, sym, ap, if◌then◌else◌}
use Rattle.prv_pool.specs.Tables.{term_at}
use Rattle.prv_blast.specs.Encodings.{with_terms, with_assertion}
use Rattle.prv_blast.specs.Encoders.{encoding_at}
use Rattle.prv_blast.proofs.Roots.{asserts-literal}
use Rattle.prv_blast.proofs.encoder.Encoder.literal.Goals as goal

pub encode-requires-clause-can : goal.encode-requires-clause-can
encode-requires-clause-can c = c.requires.can (sym c.is_ended.ensures.value ∙ c.if-is_ended.false)

pub returns-then-is_ended-clause-encodes : goal.returns-then-is_ended-clause-encodes
returns-then-is_ended-clause-encodes c =
    let t = term_at c.args.pool.now.terms c.args.root in
    let e = encoding_at c.args.pool.now.terms c.args.order.now c.args.self.now.words.items c.args.self.now.builder in
    sym (ap (λ (b : Bool). if b then e else with_assertion (with_terms e t) t) (sym c.is_ended.ensures.value ∙ c.if-is_ended.true))

pub returns-clause-encodes : goal.returns-clause-encodes
returns-clause-encodes c =
    asserts-literal c.args.pool.now.terms c.args.order.now c.encode.new.self.words.items c.assert.new.self.words.items c.encode.new.self.builder c.assert.new.self.builder c.args.root
    (encoding_at c.args.pool.now.terms c.args.order.now c.args.self.now.words.items c.args.self.now.builder) (sym c.is_ended.ensures.value ∙ c.if-is_ended.false)
    c.in_ok-encode.ensures.encodes c.in_ok-encode.ensures.bits c.in_ok-assert.ensures.asserts c.in_ok-assert.ensures.words
