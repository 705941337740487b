use Rattle.std.proofs.Common.{◌≡◌, Some, sym, ap, slice_get, ◌∙◌}
use Rattle.std.specs.Option.{option_map}
use Rattle.scald_base.specs.Time.{period}
use Rattle.flat_circuit.specs.Circuit.{driver_at}
use Rattle.fixpoint_engine.specs.Waves.{waves_of}
use Rattle.critical_paths.specs.declared.path.Origin.TheVariants.{Earlier}
use Rattle.critical_paths.specs.Views.{read_of}
use Rattle.critical_paths.proofs.Origins.{from_earlier, leads}
use Rattle.critical_paths.proofs.view.View.origin.Goals as goal

pub returns-clause-within : goal.returns-clause-within
returns-clause-within g c =
    let circuit = c.args.self.now.circuit.now in
    let ws = waves_of c.args.self.now.waves.now in
    let stop = c.args.stop in
    let number = c.in-Some.number in
    let element = c.in-Some.element.now in
    let back = c.in-Some-2.back in
    let at : driver_at circuit.nets stop.net ≡ Some number = cc c.in-Some.ensures.number in
    let there : slice_get circuit.instances number ≡ Some element = cc c.in-Some.ensures.found in
    leads circuit ws stop c.requires.sees.circuit c.requires.stop.net c.requires.stop.slot
    (Earlier back.passage c.stop_at-earlier.result)
    (from_earlier circuit ws stop number element at there back c.stop_at-earlier.result
    (sym (ap (option_map (read_of (period circuit.header))) c.in-Some-2.is) ∙ c.in_ok-back.ensures)
    c.stop_at-earlier.ensures.is)
