use Rattle.std.proofs.Common.{◌≡◌, ◌++◌, length, take}
use Rattle.critical_paths.specs.Known.{Grows}
use Rattle.critical_paths.specs.Reached.{Extends, gathered, times}
use Rattle.critical_paths.proofs.Exact.{StandUpTo}
use Rattle.critical_paths.proofs.path.Paths.append_all.Given as goal

abbrev pub invariant-loop-number : goal.invariant-loop-number
invariant-loop-number l = record {
  grows : Grows l.fn.self.nodes l.self.nodes;
  met : l.self.met.entries ≡ l.fn.self.met.entries;
  known : l.self.known.entries ≡ l.fn.self.known.entries;
  arrivals : times l.self.arrivals ≡ times l.fn.self.arrivals ++ gathered (take l.number l.found);
  more : Extends l.fn.self.arrivals l.self.arrivals;
  stand : StandUpTo l.self (length l.fn.self.arrivals) l.number l.found;
}
