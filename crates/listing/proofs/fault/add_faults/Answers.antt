use Rattle.scald_base.proofs.Device.{at_err}
use Rattle.listing.specs.Fault.{fault_line}
use Rattle.listing.proofs.Parts.{part_of_item}
use Rattle.listing.proofs.fault.add_faults.Goals as goal

pub returns-in_err-add_fault-clause-err : goal.returns-in_err-add_fault-clause-err
returns-in_err-add_fault-clause-err c =
    at_err c.from_residual.result
    (part_of_item (fault_line c.args.c.now) c.args.faults.now c.loop-fault.fault-index _ c.args.out.now
    c.loop-fault.out c.add_fault.new.out c.loop-fault-test.true c.loop-fault.invariant c.in_err-add_fault.ensures.err)
