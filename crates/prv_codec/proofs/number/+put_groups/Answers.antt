use Rattle.std.proofs.Common.{◌≡◌, ◌-◌, ◌/◌, ◌++◌}
use Rattle.prv_codec.specs.Forms.{groups}
use Rattle.prv_codec.proofs.Bounds.{on_ok, step_written}
use Rattle.prv_codec.proofs.number.+put_groups.Goals as goal

pub returns : goal.returns
returns t c = on_ok c.put_groups.result
    (c.put_groups.new.out.items ≡ c.push-2.new.self.items ++ groups (c.args.more - 1) (c.args.n / 128))
    (c.put_groups.new.out.items ≡ c.args.out.now.items ++ groups c.args.more c.args.n)
    (λ e. step_written c.args.out.now.items c.push-2.new.self.items c.put_groups.new.out.items c.args.more c.args.n c.if-n-lt128.false c.requires c.in_ok-push-2.ensures.items e)
    c.put_groups.ensures
