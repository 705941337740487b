use Rattle.std.proofs.Common.{◌≡◌, map, take}
use Rattle.trace_sim.specs.Draw.{draw_each}
use Rattle.trace_sim.specs.Drawn.{ArePicks, delays_of, draw_pick, wires_of}
use Rattle.trace_sim.proofs.picks.draw_picks.Given as goal

abbrev pub invariant-loop-k : goal.invariant-loop-k
invariant-loop-k g l = record {
  delays : l.delays ≡ map delays_of (draw_each (draw_pick l.c.nets) (take l.k l.c.instances) (g.R.Rng.stream l.fn.rng)).0;
  wires : l.wires ≡ map wires_of (draw_each (draw_pick l.c.nets) (take l.k l.c.instances) (g.R.Rng.stream l.fn.rng)).0;
  rest : g.R.Rng.stream l.rng ≡ (draw_each (draw_pick l.c.nets) (take l.k l.c.instances) (g.R.Rng.stream l.fn.rng)).1;
  fit : ArePicks l.c l.k l.delays l.wires;
}
