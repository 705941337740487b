use Rattle.netlist_import.proofs.Runs.{goes_anew, goes_on}
use Rattle.netlist_import.proofs.text.next_run.Goals as goal

pub returns-in-Some : goal.returns-in-Some
returns-in-Some c =
    goes_on c.args.nets.now c.args.run c.args.wired c.in-Some.longer c.args.out.now (cc)

pub returns : goal.returns
returns c =
    goes_anew c.args.nets.now c.args.run c.args.wired c.run_of.result c.args.out.now
    c.add_run.new.out c.extend.new.self (cc) c.in_ok-add_run.ensures c.in_ok-extend.ensures.ok
    c.run_of.ensures
