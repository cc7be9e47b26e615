use Rattle.std.proofs.Common.{arith, ap, refl, map}
use Rattle.std.specs.Arc.{arc_value}
use Rattle.prv_board.specs.Kept.{replay_of}
use Rattle.prv_board.proofs.KeptLaws.{tree-same}
use Rattle.prv_board.proofs.board.Board.make_room.Goals as goal

pub invariant_of-self : goal.invariant_of-self
invariant_of-self c =
    let i = c.self.inside in
    let k = c.self.invariant in
    record {
      tree = tree-same (arc_value i.pair) i.whole.region i.caps (replay_of i).history _ i.whole i.origins.items c.reserve.new.self.items i.retired.items i.retired.items i.counts i.totals k.tree refl c.reserve.ensures.items refl;
      room_in_origins = omega (arith, k.room_in_origins, c.reserve.ensures.len, c.reserve.ensures.capacity);
      room_in_retired = k.room_in_retired;
      room_for_one = k.room_for_one;
    }

pub invariant_of-self-in_err-reserve-2 : goal.invariant_of-self-in_err-reserve-2
invariant_of-self-in_err-reserve-2 c =
    let i = c.self.inside in
    let k = c.self.invariant in
    record {
      tree = tree-same (arc_value i.pair) i.whole.region i.caps (replay_of i).history _ i.whole i.origins.items c.reserve.new.self.items i.retired.items c.reserve-2.new.self.items i.counts i.totals k.tree refl c.reserve.ensures.items c.reserve-2.ensures.items;
      room_in_origins = omega (arith, k.room_in_origins, c.reserve.ensures.len, c.reserve.ensures.capacity);
      room_in_retired = omega (arith, k.room_in_retired, c.reserve-2.ensures.len, c.reserve-2.ensures.capacity);
      room_for_one = k.room_for_one;
    }

pub invariant_of-self-in_err-reserve-3 : goal.invariant_of-self-in_err-reserve-3
invariant_of-self-in_err-reserve-3 c =
    let i = c.self.inside in
    let k = c.self.invariant in
    record {
      tree = tree-same (arc_value i.pair) i.whole.region i.caps (replay_of i).history _ i.whole i.origins.items c.reserve.new.self.items i.retired.items c.reserve-2.new.self.items i.counts i.totals k.tree (ap (λ ss. map (λ s. arc_value s) ss) c.reserve-3.ensures.items) c.reserve.ensures.items c.reserve-2.ensures.items;
      room_in_origins = omega (arith, k.room_in_origins, c.reserve.ensures.len, c.reserve.ensures.capacity);
      room_in_retired = omega (arith, k.room_in_retired, c.reserve-2.ensures.len, c.reserve-2.ensures.capacity);
      room_for_one = λ some. omega (arith, k.room_for_one some, c.reserve-3.ensures.len, c.reserve-3.ensures.capacity);
    }

pub invariant_of-self-2 : goal.invariant_of-self-2
invariant_of-self-2 c =
    let i = c.self.inside in
    let k = c.self.invariant in
    record {
      tree = tree-same (arc_value i.pair) i.whole.region i.caps (replay_of i).history _ i.whole i.origins.items c.reserve.new.self.items i.retired.items c.reserve-2.new.self.items i.counts i.totals k.tree (ap (λ ss. map (λ s. arc_value s) ss) c.reserve-3.ensures.items) c.reserve.ensures.items c.reserve-2.ensures.items;
      room_in_origins = omega (arith, c.in_ok-reserve.ensures.ok, c.reserve.ensures.len, c.reserve.ensures.capacity);
      room_in_retired = omega (arith, c.in_ok-reserve-2.ensures.ok, c.reserve-2.ensures.len, c.reserve-2.ensures.capacity);
      room_for_one = λ some. omega (arith, c.in_ok-reserve-3.ensures.ok, c.reserve-3.ensures.len, c.reserve-3.ensures.capacity);
    }
