use Rattle.critical_paths.specs.Reached.{ArePassed}
use Rattle.critical_paths.proofs.path.Paths.open_from.Given as goal

abbrev pub invariant-loop-number : goal.invariant-loop-number
invariant-loop-number l =
    ArePassed l.circuit l.self.known.entries l.frame.place l.frame.pin l.number
