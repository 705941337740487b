-- The run that a search finds.
use Rattle.flat_circuit.specs.Run.{Run}
use Rattle.trace_sim.specs.Choice.{choices_of}
use Rattle.trace_sim.specs.Simulated.{run_of}
use Rattle.run_search.specs.declared.search.Found.{Found}

abbrev pub run_found : Found → Run
run_found found = run_of found.ticks (choices_of found.choice) found.bits
