use Rattle.std.proofs.Common.{◌∙◌}
use Rattle.scald_base.proofs.Device.{takes_more, takes_within}
use Rattle.scald_base.proofs.transfer.write_all.Goals as goal

pub more-preserved : goal.more-preserved
more-preserved g c =
    let took = c.in_ok-written.ensures.takes in
    let bytes = c.args.bytes.now in
    record {
      moved = takes_more _ _ _ c.more.written c.in_ok-written.field-0 bytes c.more.invariant.moved took;
      within = takes_within _ _ c.more.written c.in_ok-written.field-0 bytes c.more.invariant.within took;
      steady = c.in_ok-written.ensures.faults.steady ∙ c.more.invariant.steady;
    }
