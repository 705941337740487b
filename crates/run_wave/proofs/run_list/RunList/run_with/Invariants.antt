use Rattle.std.proofs.Common.{◌≡◌, ◌≤◌, length, take}
use Rattle.run_wave.specs.Run.{cells_of}
use Rattle.run_wave.proofs.run_list.RunList.run_with.Given as goal

abbrev pub invariant-loop-place : goal.invariant-loop-place
invariant-loop-place g l = record {
  before : l.end ≡ length (cells_of (take l.place l.self.runs.items));
  reached : l.end ≤ l.slot;
}
