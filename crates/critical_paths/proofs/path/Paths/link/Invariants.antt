use Rattle.std.proofs.Common.{◌≡◌, ◌-◌}
use Rattle.fixpoint_engine.specs.Waves.{waves_of}
use Rattle.critical_paths.specs.Known.{Grows, IsBegun}
use Rattle.critical_paths.proofs.path.Paths.link.Given as goal

abbrev pub invariant-loop-back : goal.invariant-loop-back
invariant-loop-back g l =
    record {
      begun : IsBegun l.view.circuit.now (waves_of l.view.waves.now) l.self.nodes l.self.met.entries
          l.chain.entries l.fn.stop
          (l.number, l.past - l.back);
      grows : Grows l.fn.self.nodes l.self.nodes;
      known : l.self.known.entries ≡ l.fn.self.known.entries;
      arrivals : l.self.arrivals ≡ l.fn.self.arrivals;
    }
