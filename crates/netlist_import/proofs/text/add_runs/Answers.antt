use Rattle.std.proofs.Common.{◌<◌, ◌++◌, length, arith}
use Rattle.std.proofs.lemmas.Result.{on_ok_weaker}
use Rattle.netlist_import.specs.Body.{runs_from, runs_text}
use Rattle.netlist_import.proofs.Runs.{runs_stop}
use Rattle.netlist_import.proofs.text.add_runs.Goals as goal

pub returns : goal.returns
returns c =
    let few = c.in_default.len_below in
    let none : length c.bits.left.now < 1 = omega arith in
    on_ok_weaker c.add_run.result
    (λ e. runs_stop c.args.nets.now c.bits.run c.bits.left.now
    (c.args.out.now ++ runs_text c.args.nets.now (runs_from c.args.first c.args.rest.now))
    c.bits.out c.add_run.new.out none e c.bits.invariant)
    c.add_run.ensures
