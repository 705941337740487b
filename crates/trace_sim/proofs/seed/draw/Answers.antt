use Rattle.std.proofs.Common.{◌≡◌, ◌∙◌, List, ℕ, ap, map, subst}
use Rattle.rand_core.specs.Steps.{steps_u64_low, stream_of}
use Rattle.rand_core.specs.Stream.{Stream}
use Rattle.rand_pcg.specs.Lcg.{Lcg}
use Rattle.rand_pcg.specs.Pcg.{pcg64}
use Rattle.trace_sim.specs.Choice.{Bits}
use Rattle.trace_sim.specs.Draw.{draw_each, seeded}
use Rattle.trace_sim.specs.Drawn.{delays_of, draw_pick, draw_run, wires_of}
use Rattle.trace_sim.specs.Input.{AreGiven}
use Rattle.trace_sim.proofs.DrawPlaces.{are_drawn, drawn_fits}
use Rattle.trace_sim.proofs.seed.draw.Goals as goal

abbrev stream : Lcg → Stream
stream s = stream_of (steps_u64_low pcg64) s

pub returns-clause-is : goal.returns-clause-is
returns-clause-is c =
    let circuit = c.args.c.now in
    let values = c.args.case.now in
    let ticks = c.args.ticks in
    let run = (draw_run circuit ticks (seeded c.args.seed)).0 in
    let start : stream c.seed_from_u64-rng.result ≡ seeded c.args.seed = ap stream c.seed_from_u64-rng.ensures in
    let first = c.in_ok-delays.ensures.rest ∙ ap (λ (s : Stream). (draw_each (draw_pick circuit.nets) circuit.instances s).1) start in
    let parts = are_drawn circuit ticks c.args.seed (stream c.draw_picks.new.rng) (stream c.draw_offsets.new.rng) (stream c.draw_rows.new.rng)
    c.in_ok-shifts.shifts c.in_ok-rows.rows first c.in_ok-shifts.ensures c.in_ok-rows.ensures in
    let by = λ (shifts : List ℕ) (free rows : Bits) (same : shifts ≡ c.in_ok-shifts.shifts) (alike : free ≡ c.in_ok-rows.rows)
    (given : AreGiven circuit values ticks shifts free rows).
    subst (λ (s : List ℕ). AreGiven circuit values ticks s run.free rows) (same ∙ parts.shifts_are)
    (subst (λ (f : Bits). AreGiven circuit values ticks shifts f rows) (alike ∙ parts.free_are) given) in
    record {
      delays =
          c.in_ok-delays.ensures.delays
          ∙ ap (λ (s : Stream). map delays_of (draw_each (draw_pick circuit.nets) circuit.instances s).0) start;
      wires =
          c.in_ok-delays.ensures.wires
          ∙ ap (λ (s : Stream). map wires_of (draw_each (draw_pick circuit.nets) circuit.instances s).0) start;
      inputs = by c.as_slice.result.now c.as_slice-2.result.now c.in_ok-inputs.inputs c.as_slice.ensures c.as_slice-2.ensures c.in_ok-inputs.ensures;
      free = by c.as_slice-3.result.now c.as_slice-4.result.now c.in_ok-free.free c.as_slice-3.ensures c.as_slice-4.ensures c.in_ok-free.ensures;
    }

pub returns-clause-fits : goal.returns-clause-fits
returns-clause-fits c =
    drawn_fits c.args.c.now c.known.ensures c.args.case.now c.args.ticks c.args.seed
    (record { delays = c.in_ok-delays.delays; wires = c.in_ok-delays.wires; inputs = c.in_ok-inputs.inputs; free = c.in_ok-free.free })
    c.in_ok-delays.ensures.fit (returns-clause-is c)
