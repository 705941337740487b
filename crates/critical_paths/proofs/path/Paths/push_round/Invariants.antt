use Rattle.std.proofs.Common.{◌≡◌}
use Rattle.critical_paths.specs.Known.{IsRound}
use Rattle.critical_paths.proofs.path.Paths.push_round.Given as goal

abbrev pub invariant-loop-place : goal.invariant-loop-place
invariant-loop-place l =
    record {
      nodes : IsRound l.fn.self.nodes l.chain.entries l.first l.place l.ticks l.self.nodes;
      met : l.self.met ≡ l.fn.self.met;
      known : l.self.known.entries ≡ l.fn.self.known.entries;
      arrivals : l.self.arrivals ≡ l.fn.self.arrivals;
    }
