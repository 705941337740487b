use Rattle.std.proofs.Common.{inr}
use Rattle.std.proofs.lemmas.Result.{err_from_is_err_and}
use Rattle.flat_circuit.proofs.Ends.{none_taken}
use Rattle.flat_circuit.proofs.finish.checked_nets.Goals as goal

pub returns-in_err-no_loop : goal.returns-in_err-no_loop
returns-in_err-no_loop c =
    let p = err_from_is_err_and c.from_residual-in_err-no_loop.result c.from_residual-in_err-no_loop.ensures.1 in
    rw (p.1, p.2) (inr (
      none_taken c.args.instances.now c.len.result c.in_ok-drivers.drivers.items c.in_ok-drivers.ensures,
      c.in_err-no_loop.ensures,
    ))
