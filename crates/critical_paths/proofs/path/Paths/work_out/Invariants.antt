use Rattle.std.proofs.Common.{◌≡◌, true}
use Rattle.std.specs.Prelude.{is_some}
use Rattle.fixpoint_engine.specs.Waves.{waves_of}
use Rattle.critical_paths.specs.Known.{Grows}
use Rattle.critical_paths.specs.Reached.{AreExact, Extends, IsFresh, IsSearch, KnowsArrivals, StaysKnown, known_of, left_to_do}
use Rattle.critical_paths.proofs.path.Paths.work_out.Given as goal

abbrev pub invariant-places : goal.invariant-places
invariant-places g l = record {
  grows : Grows l.fn.self.nodes l.self.nodes;
  met : l.self.met.entries ≡ l.fn.self.met.entries;
  known : is_some (known_of l.self.known.entries l.fn.place) ≡ true;
  stays : StaysKnown l.fn.self.known.entries l.self.known.entries;
  exact : AreExact l.view.circuit.now (waves_of l.view.waves.now) l.fn.self →
      AreExact l.view.circuit.now (waves_of l.view.waves.now) l.self;
  search : KnowsArrivals l.view.circuit.now (waves_of l.view.waves.now) l.fn.self →
      IsSearch l.view.circuit.now (waves_of l.view.waves.now) l.self.known.entries l.frames.items;
  fresh : IsFresh l.fn.self.known.entries l.self.known.entries l.frames.items;
  more : Extends l.fn.self.arrivals l.self.arrivals;
}

abbrev pub decreases-places : goal.decreases-places
decreases-places g l = left_to_do l.self.known.entries l.frames.items
