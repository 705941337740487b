use Rattle.scald_tool.proofs.bench.NumbersReporter.end.Goals as goal

pub tick-tick-requires-clause-base : goal.tick-tick-requires-clause-base
tick-tick-requires-clause-base c = c.requires.1.1
