use Rattle.std.proofs.Common.{◌++◌, ◌∷◌, [], codes, refl}
use Rattle.scald_base.proofs.Device.{at_err}
use Rattle.listing.specs.Fault.{fault_line, fault_text}
use Rattle.listing.proofs.Parts.{both, err_none, three_ok, three_second}
use Rattle.listing.proofs.fault.add_fault.Goals as goal

pub returns-in_err-write_fault-clause-err : goal.returns-in_err-write_fault-clause-err
returns-in_err-write_fault-clause-err c =
    let d = c.args.c.now in
    at_err c.from_residual-in_err-write_fault.result
    (three_second c.args.out.now c.extend.new.self c.write_fault.new.out (codes "FAULT ") (fault_text d c.args.fault) (10 ∷ [])
    (fault_line d c.args.fault) refl c.in_ok-extend.ensures.ok c.in_err-write_fault.ensures.err)

pub returns-clause-ok : goal.returns-clause-ok
returns-clause-ok c =
    let d = c.args.c.now in
    three_ok c.push.result c.args.out.now c.extend.new.self c.write_fault.new.out c.push.new.self (codes "FAULT ") (fault_text d c.args.fault) (10 ∷ [])
    (fault_line d c.args.fault) refl c.in_ok-extend.ensures.ok c.in_ok-write_fault.ensures.ok c.push.ensures.ok

pub returns-clause-err : goal.returns-clause-err
returns-clause-err c =
    let d = c.args.c.now in
    let text = fault_text d c.args.fault in
    err_none c.push.result c.args.out.now c.write_fault.new.out c.push.new.self (codes "FAULT " ++ text) (10 ∷ [])
    (both c.args.out.now c.extend.new.self c.write_fault.new.out (codes "FAULT ") text c.in_ok-extend.ensures.ok c.in_ok-write_fault.ensures.ok)
    c.push.ensures.err
