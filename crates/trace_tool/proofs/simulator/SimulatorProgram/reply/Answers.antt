use Rattle.std.proofs.Common.{subst, sym}
use Rattle.trace_tool.specs.declared.words.Command.{Command}
use Rattle.trace_tool.specs.Simulator.{Replied}
use Rattle.trace_tool.proofs.Made.{Gives}
use Rattle.trace_tool.proofs.simulator.SimulatorProgram.reply.Goals as goal

pub returns-in-Run-clause-is : goal.returns-in-Run-clause-is
returns-in-Run-clause-is c =
    subst (λ (command : Command). Gives c.run.result (Replied command c.args.text.now)) (sym c.in-Run.is) c.run.ensures

pub returns-in-Judge-clause-is : goal.returns-in-Judge-clause-is
returns-in-Judge-clause-is c =
    subst (λ (command : Command). Gives c.judge.result (Replied command c.args.text.now)) (sym c.in-Judge.is) c.judge.ensures
