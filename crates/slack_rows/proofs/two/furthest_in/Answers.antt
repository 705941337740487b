use Rattle.std.proofs.Common.{◌∙◌, ap, arith, subst, sym, Option, None, to_z, of_z, w64}
use Rattle.std.specs.Prelude.{◌≤ℤ◌, IfSome, map}
use Rattle.std.proofs.lemmas.Option.{slice_get-map}
use Rattle.scald_base.specs.Time.{period}
use Rattle.fixpoint_engine.specs.Waves.{target_wire}
use Rattle.critical_paths.specs.declared.arrival.Arrival.{Arrival}
use Rattle.critical_paths.specs.Path.{bound}
use Rattle.critical_paths.specs.Reached.{arrivals_in, arrived}
use Rattle.critical_paths.specs.Tick.{IsWithin, most_tick}
use Rattle.critical_paths.proofs.Arriving.{taken_more, taken_none}
use Rattle.slack_rows.specs.Arrived.{behind_wire, furthest_in, further_of, moved_into}
use Rattle.slack_rows.proofs.Alike.{further_so}
use Rattle.slack_rows.proofs.two.furthest_in.Goals as goal

pub loop-number-init : goal.loop-number-init
loop-number-init g c =
    let all = map arrived c.args.paths.now.arrivals in
    let from = c.args.numbers.0 in
    let p = period c.args.view.now.circuit.now.header in
    let wire = bound c.args.corner (target_wire c.args.view.now.circuit.now.nets c.args.held.pin.target) in
    record {
      from = omega arith;
      to = c.requires.ordered;
      is = ap (furthest_in p wire c.args.region c.args.corner (to_z w64 (of_z w64 c.args.edge)))
          (sym (taken_none all from));
      near = tt;
      within = tt;
    }

pub loop-number-preserved : goal.loop-number-preserved
loop-number-preserved g c =
    let so = c.loop-number.invariant in
    let counted = c.arrival_at-counted.result in
    let region = c.args.region in
    let corner = c.args.corner in
    let edge = to_z w64 (of_z w64 c.args.edge) in
    let all = map arrived c.args.paths.now.arrivals in
    let p = period c.args.view.now.circuit.now.header in
    let wire = bound corner (target_wire c.args.view.now.circuit.now.nets c.args.held.pin.target) in
    let from = so.from in
    let below = c.loop-number-test.true in
    record {
      from = omega (arith, from);
      to = omega (arith, below);
      is = c.further-best.ensures
          ∙ ap (λ (o : Option Arrival). further_of corner o counted) so.is
          ∙ ap (further_of corner (furthest_in p wire region corner edge (arrivals_in c.args.paths.now.arrivals (c.args.numbers.0, c.loop-number.number))))
          (c.arrival_at-counted.ensures.is
          ∙ (λ i. moved_into (c.period-period.ensures.is i) region corner edge c.at_pin-found.result)
          ∙ ap (moved_into p region corner edge) c.at_pin-found.ensures.is)
          ∙ sym (taken_more (λ best a. further_of corner best (moved_into p region corner edge (behind_wire wire a))) None all
          c.args.numbers.0 c.loop-number.number c.arrival.result from
          (slice_get-map arrived c.args.paths.now.arrivals c.loop-number.number ∙ c.arrival.ensures.is));
      near = subst (λ (o : Option Arrival). IfSome o (λ a. IsWithin most_tick a.tick))
          (sym c.further-best.ensures)
          (further_so (λ a. IsWithin most_tick a.tick) corner c.loop-number.best counted
          so.near c.arrival_at-counted.ensures.near);
      within = subst (λ (o : Option Arrival). IfSome o
          (λ a. (region.first ≤ℤ a.tick) × (a.tick ≤ℤ region.last)))
          (sym c.further-best.ensures)
          (further_so (λ a. (region.first ≤ℤ a.tick) × (a.tick ≤ℤ region.last)) corner
          c.loop-number.best counted so.within c.arrival_at-counted.ensures.within);
    }
