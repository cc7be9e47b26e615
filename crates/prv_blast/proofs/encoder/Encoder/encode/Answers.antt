use Rattle.std.proofs.Common.{◌≡◌, ℕ, List, ◌<◌, ◌≤◌, ◌∙◌, ◌+◌, length, sym, arith, length-append, [], ◌∷◌, ◌++◌, ap}
use Rattle.prv_arith.specs.declared.words.Word.{Word}
use Rattle.prv_blast.specs.Encoders.{encoding_at}
use Rattle.prv_blast.proofs.Roots.{length-encoded, place-found, place-within, starts-way, operands-have, can-run, goes-on-by, ends-way}
use Rattle.prv_blast.proofs.Encoders.{within-get}
use Rattle.prv_blast.proofs.encoder.Encoder.encode.Goals as goal

pub overflow_add-end : goal.overflow_add-end
overflow_add-end c =
    let nodes = c.args.order.now in
    let e = encoding_at c.args.pool.now.terms nodes c.args.self.now.words.items c.args.self.now.builder in
    let root-at = place-found c.args.pool.now nodes c.args.root e c.requires.can c.place.result c.len.result c.unwrap_or-place.result c.place.ensures c.unwrap_or-place.ensures in
    let inside = place-within c.args.pool.now nodes c.args.root e c.requires.can c.unwrap_or-place.result root-at in
    omega arith

pub loop-at-init : goal.loop-at-init
loop-at-init c =
    let nodes = c.args.order.now in
    let e = encoding_at c.args.pool.now.terms nodes c.args.self.now.words.items c.args.self.now.builder in
    let long : length c.args.self.now.words.items ≡ c.len-first.result = omega arith in
    record {
      way = starts-way c.args.pool.now nodes c.args.root e c.requires.can c.len-first.result (sym (length-encoded c.args.pool.now.terms nodes c.args.self.now.words.items c.args.self.now.builder c.requires.fits ∙ long));
      long = long;
    }

pub node-number-requires : goal.node-number-requires
node-number-requires c =
    let nodes = c.args.order.now in
    let e = encoding_at c.args.pool.now.terms nodes c.args.self.now.words.items c.args.self.now.builder in
    let root-at = place-found c.args.pool.now nodes c.args.root e c.requires.can c.place.result c.len.result c.unwrap_or-place.result c.place.ensures c.unwrap_or-place.ensures in
    let inside = place-within c.args.pool.now nodes c.args.root e c.requires.can c.unwrap_or-place.result root-at in
    omega arith

pub node-node-requires : goal.node-node-requires
node-node-requires c =
    let nodes = c.args.order.now in
    let e = encoding_at c.args.pool.now.terms nodes c.args.self.now.words.items c.args.self.now.builder in
    within-get (length c.args.pool.now.terms) nodes c.requires.can.within c.loop-at.at c.node-number.result c.node-number.ensures

pub node_word-requires : goal.node_word-requires
node_word-requires c =
    let nodes = c.args.order.now in
    let e = encoding_at c.args.pool.now.terms nodes c.args.self.now.words.items c.args.self.now.builder in
    let root-at = place-found c.args.pool.now nodes c.args.root e c.requires.can c.place.result c.len.result c.unwrap_or-place.result c.place.ensures c.unwrap_or-place.ensures in
    let inside = place-within c.args.pool.now nodes c.args.root e c.requires.can c.unwrap_or-place.result root-at in
    let words = c.loop-at.self.words.items in
    let place = c.loop-at.at in
    let end = c.unwrap_or-place.result in
    let way = c.loop-at.invariant.way in
    let long = c.loop-at.invariant.long in
    let before : place ≤ end = omega arith in
    record {
      words = operands-have c.args.pool.now nodes c.args.root e c.requires.can words c.loop-at.self.builder place end c.node-number.result c.node-node.result way long root-at before c.node-number.ensures c.node-node.ensures.value c.node-node.ensures.before;
      ready = can-run c.args.pool.now nodes c.args.root e c.requires.can words c.loop-at.self.builder place end c.node-number.result c.node-node.result way long root-at before c.node-number.ensures c.node-node.ensures.value c.node-node.ensures.before;
    }

pub loop-at-preserved : goal.loop-at-preserved
loop-at-preserved c =
    let nodes = c.args.order.now in
    let e = encoding_at c.args.pool.now.terms nodes c.args.self.now.words.items c.args.self.now.builder in
    let root-at = place-found c.args.pool.now nodes c.args.root e c.requires.can c.place.result c.len.result c.unwrap_or-place.result c.place.ensures c.unwrap_or-place.ensures in
    let inside = place-within c.args.pool.now nodes c.args.root e c.requires.can c.unwrap_or-place.result root-at in
    let words = c.loop-at.self.words.items in
    let place = c.loop-at.at in
    let end = c.unwrap_or-place.result in
    let way = c.loop-at.invariant.way in
    let long = c.loop-at.invariant.long in
    let before : place ≤ end = omega arith in
    let pushed = c.in_ok-push.ensures.items in
    let same : c.node_word.new.self.words.items ≡ words = cc c.in_ok-word.ensures.words in
    let more : length c.push.new.self.items ≡ place + 1 =
    ap (λ (ws : List Word). length ws) (pushed ∙ ap (λ (ws : List Word). ws ++ c.in_ok-word.word ∷ []) same) ∙ length-append words (c.in_ok-word.word ∷ []) ∙ ap (λ (k : ℕ). k + 1) long in
    record {
      way = goes-on-by c.args.pool.now nodes c.args.root e c.requires.can words c.push.new.self.items c.node_word.new.self.words.items c.loop-at.self.builder c.node_word.new.self.builder place end c.node-number.result c.node-node.result c.in_ok-word.word
          way long root-at before c.node-number.ensures c.node-node.ensures.value c.node-node.ensures.before c.in_ok-word.ensures.run same pushed;
      long = more;
    }

pub returns : goal.returns
returns c =
    let nodes = c.args.order.now in
    let e = encoding_at c.args.pool.now.terms nodes c.args.self.now.words.items c.args.self.now.builder in
    let root-at = place-found c.args.pool.now nodes c.args.root e c.requires.can c.place.result c.len.result c.unwrap_or-place.result c.place.ensures c.unwrap_or-place.ensures in
    let inside = place-within c.args.pool.now nodes c.args.root e c.requires.can c.unwrap_or-place.result root-at in
    let behind : c.unwrap_or-place.result < c.loop-at.at = omega arith in
    let done = ends-way c.args.pool.now nodes c.args.root e c.requires.can c.loop-at.self.words.items c.loop-at.self.builder c.loop-at.at c.unwrap_or-place.result c.loop-at.invariant.way c.loop-at.invariant.long c.len.ensures.distinct root-at behind in
    record { encodes = done.encodes; fits = done.fits; has = done.has; bits = done.bits; inside = done.inside }
