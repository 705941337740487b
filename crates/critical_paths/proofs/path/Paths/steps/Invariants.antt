use Rattle.std.proofs.Common.{◌≡◌, ◌+◌, ◌*◌, ◌^◌, ◌++◌, drop}
use Rattle.critical_paths.specs.Known.{IsNear, steps_from}
use Rattle.critical_paths.proofs.path.Paths.steps.Given as goal

abbrev pub invariant-loop-place : goal.invariant-loop-place
invariant-loop-place l =
    record {
      steps : l.steps ++ steps_from l.tick (drop l.place l.nodes) ≡ steps_from l.fn.at.tick l.nodes;
      near : IsNear (2 ^ 60 + 131072 * l.place) l.tick;
    }
