use Rattle.std.proofs.Common.{arith, drop}
use Rattle.run_wave.specs.Run.{cells_of}
use Rattle.run_wave.proofs.Runs.{some_width, replicate_parts}
use Rattle.run_wave.proofs.run_list.RunList.after.Goals as goal

pub returns-then-rest-len-clause-some : goal.returns-then-rest-len-clause-some
returns-then-rest-len-clause-some g c =
    λ more. some_width c.args.self.now.runs.items c.args.rest.now.next c.index.result.now (omega arith) c.index.ensures c.args.self.now.is_runs

pub returns-clause-cells : goal.returns-clause-cells
returns-clause-cells g c =
    replicate_parts c.args.rest.now.run.width c.args.width c.args.rest.now.run.cell (cells_of (drop c.args.rest.now.next c.args.self.now.runs.items)) c.requires
