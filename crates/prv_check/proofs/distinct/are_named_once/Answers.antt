use Rattle.std.proofs.Common.{rules, ◌≡◌, true, nat_lt, length}
use Rattle.std.specs.List.{list_all}
use Rattle.prv_check.proofs.Judging.{all_below_more}
use Rattle.prv_check.proofs.distinct.are_named_once.Goals as goal

pub are_repeated-requires : goal.are_repeated-requires
are_repeated-requires c =
    let below : list_all (λ n. nat_lt n c.args.count) c.args.hints.now ≡ true = search rules in
    all_below_more c.args.count (length c.args.named.now) c.args.hints.now c.requires below
