use Rattle.std.proofs.Common.{◌≡◌}
use Rattle.critical_paths.specs.Known.{IsNumbered}
use Rattle.critical_paths.proofs.path.Paths.number_round.Given as goal

abbrev pub invariant-loop-place : goal.invariant-loop-place
invariant-loop-place l =
    record {
      nodes : l.self.nodes ≡ l.fn.self.nodes;
      met : IsNumbered l.fn.self.met.entries l.chain.entries l.first l.base l.place
          l.self.met.entries;
      known : l.self.known.entries ≡ l.fn.self.known.entries;
      arrivals : l.self.arrivals ≡ l.fn.self.arrivals;
    }
