use Rattle.std.proofs.Common.{◌≡◌, ◌^◌, ◌<◌, sym, ap, subst, ◌∙◌, arith, to_z, of_z, w64, Some}
use Rattle.std.proofs.lemmas.Int.{ints}
use Rattle.scald_base.specs.Time.{period}
use Rattle.fixpoint_engine.specs.Waves.{waves_of}
use Rattle.critical_paths.specs.declared.event.Stop.{Stop}
use Rattle.critical_paths.specs.declared.path.At.{At}
use Rattle.critical_paths.specs.Known.{IsNear, IsStop, corner_known}
use Rattle.critical_paths.specs.Views.{event_of}
use Rattle.critical_paths.proofs.MadePaths.{known_edge, known_short, reads_folds}
use Rattle.critical_paths.proofs.Settles.{small_circuit}
use Rattle.critical_paths.proofs.Staying.{stop_there}
use Rattle.critical_paths.proofs.view.View.net_path.Goals as goal

pub trace-requires-clause-stop : goal.trace-requires-clause-stop
trace-requires-clause-stop g c =
    let circuit = c.args.self.now.circuit.now in
    let event = c.args.event in
    let within = c.stop_at.ensures.within in
    let some : 0 < period circuit.header = omega (arith, within) in
    subst (λ (s : Stop). IsStop circuit s.corner s) (sym c.stop_at.ensures.is)
    (stop_there circuit (waves_of c.args.self.now.waves.now) some event.corner event.reading
    (event_of (period circuit.header) event)
    c.requires.net (subst (λ (s : Stop). s.slot < period circuit.header) c.stop_at.ensures.is
    within))

pub returns-clause-short : goal.returns-clause-short
returns-clause-short g c =
    let circuit = c.args.self.now.circuit.now in
    let tick = c.args.event.tick in
    let p = c.period-period in
    let at : At = record {
      node = c.in_ok-trace.field-0;
      tick = to_z w64 (of_z w64 tick);
      wire = 0;
    } in
    let same : to_z w64 (of_z w64 tick) ≡ tick = omega (arith, ints) in
    λ near. known_short circuit (waves_of c.args.self.now.waves.now) c.trace.new.self.nodes
    c.trace.new.self.met.entries c.stop_at.result at
    (small_circuit circuit p.result p.ensures.is p.ensures.shortest p.ensures.longest
    c.requires.sees.circuit.few_nets)
    c.in_ok-trace.ensures.knows c.in_ok-trace.ensures.has (subst (IsNear (2 ^ 60)) (sym same) near)

pub returns-clause-edge : goal.returns-clause-edge
returns-clause-edge g c =
    let circuit = c.args.self.now.circuit.now in
    let ws = waves_of c.args.self.now.waves.now in
    let event = c.args.event in
    let at : At = record {
      node = c.in_ok-trace.field-0;
      tick = to_z w64 (of_z w64 event.tick);
      wire = 0;
    } in
    let within = c.stop_at.ensures.within in
    let some : 0 < period circuit.header = omega (arith, within) in
    let own = event_of (period circuit.header) event in
    let stop : IsStop circuit event.corner c.stop_at.result =
    subst (IsStop circuit event.corner) (sym c.stop_at.ensures.is)
    (stop_there circuit ws some event.corner event.reading own c.requires.net
    (subst (λ (s : Stop). s.slot < period circuit.header) c.stop_at.ensures.is within)) in
    let is = c.requires.sees.circuit in
    λ folded. known_edge circuit ws is some event.corner c.trace.new.self.nodes
    c.trace.new.self.met.entries c.stop_at.result at
    c.in_ok-trace.ensures.knows c.in_ok-trace.ensures.has stop
    (ap (λ (s : Stop). s.reading) c.stop_at.ensures.is ∙ reads_folds circuit ws is some event.corner
    event.reading own folded)

pub returns-clause-corner : goal.returns-clause-corner
returns-clause-corner g c =
    let known = c.in_ok-trace.ensures.knows.each c.stop_at.result c.in_ok-trace.field-0
    c.in_ok-trace.ensures.has in
    ap corner_known known.is
    ∙ ap (λ (s : Stop). Some s.corner) (known.tells.of ∙ c.stop_at.ensures.is)
