use Rattle.std.proofs.Common.{◌≡◌, ◌-◌, ◌++◌, length, take, drop}
use Rattle.run_wave.specs.Run.{cells_of}
use Rattle.run_wave.proofs.run_list.RunList.push_from.Given as goal

abbrev pub invariant-loop-run : goal.invariant-loop-run
invariant-loop-run g l = record {
  so_far : cells_of l.self.runs.items ≡ cells_of l.fn.self.runs.items ++ drop l.start (cells_of (take l.run-index l.other.runs.items));
  left : l.skipped ≡ l.start - length (cells_of (take l.run-index l.other.runs.items));
}
