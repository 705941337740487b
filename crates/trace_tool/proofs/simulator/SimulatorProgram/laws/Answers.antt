use Rattle.trace_tool.proofs.Lawful.{simulator_is_lawful}
use Rattle.trace_tool.proofs.simulator.SimulatorProgram.laws.Goals as goal

pub returns : goal.returns
returns c = simulator_is_lawful
