use Rattle.std.proofs.Common.{◌≡◌, ◌∙◌, ◌<◌, ◌++◌, ap, sym, subst, arith, eqb-true, List, ℤ, Some, length}
use Rattle.scald_base.specs.Time.{period}
use Rattle.flat_circuit.specs.Circuit.{driver, instance_in}
use Rattle.fixpoint_engine.specs.Waves.{waves_of}
use Rattle.critical_paths.specs.Arrival.{source_arrivals}
use Rattle.critical_paths.specs.Reached.{AreThrough, gathered, of_clock}
use Rattle.critical_paths.proofs.Arriving.{driven_within}
use Rattle.critical_paths.proofs.Arrivals.{all_pins, not_own, own_arrivals}
use Rattle.critical_paths.proofs.Pins.{fits_at}
use Rattle.critical_paths.proofs.Ways.{no_ways}
use Rattle.critical_paths.proofs.path.Paths.add_all.Goals as goal

pub add_pins-requires-clause-net : goal.add_pins-requires-clause-net
add_pins-requires-clause-net g c = driven_within c.args.view.now.circuit.now.nets c.args.place.net _
    c.in-Some.ensures.number

pub add_pins-requires-clause-fits : goal.add_pins-requires-clause-fits
add_pins-requires-clause-fits g c =
    fits_at c.args.view.now.circuit.now _ _ c.requires.circuit c.in-Some.ensures.found

pub add_pins-requires-clause-driven : goal.add_pins-requires-clause-driven
add_pins-requires-clause-driven g c =
    ap (instance_in c.args.view.now.circuit.now) c.in-Some.ensures.number ∙ c.in-Some.ensures.found

pub returns-then-not-is_at_clock-clause-are : goal.returns-then-not-is_at_clock-clause-are
returns-then-not-is_at_clock-clause-are g c = λ exact none fits.
    let circuit = c.args.view.now.circuit.now in
    let ws = waves_of c.args.view.now.waves.now in
    let place = c.args.place in
    let least = c.period-period.ensures.shortest in
    let below : 0 < period circuit.header = omega (arith, least, c.period-period.ensures.is) in
    own_arrivals circuit ws place below (gathered c.args.out.now) c.in-None.ensures.none
    (ap gathered none ∙ sym (not_own circuit ws place below (sym c.is_at_clock.ensures ∙ c.if-not-is_at_clock.true)))

pub returns-in_ok-add_edges-in-None-clause-are : goal.returns-in_ok-add_edges-in-None-clause-are
returns-in_ok-add_edges-in-None-clause-are g c = λ exact none fits.
    let circuit = c.args.view.now.circuit.now in
    let ws = waves_of c.args.view.now.waves.now in
    let place = c.args.place in
    let least = c.period-period.ensures.shortest in
    let below : 0 < period circuit.header = omega (arith, least, c.period-period.ensures.is) in
    own_arrivals circuit ws place below (gathered c.add_edges.new.out) c.in-None.ensures.none
    (c.in_ok-add_edges-in-None.ensures.gathered
    (eqb-true place.net place.clock (sym c.is_at_clock.ensures ∙ c.if-not-is_at_clock.false))
    ∙ ap (λ (l : List (ℤ × ℤ)). l ++ of_clock place.clock
    (source_arrivals circuit ws place.corner place.direction place.net)) (ap gathered none))

pub returns-in_ok-fits-in-Some-clause-are : goal.returns-in_ok-fits-in-Some-clause-are
returns-in_ok-fits-in-Some-clause-are g c = λ exact none fits.
    let circuit = c.args.view.now.circuit.now in
    let ws = waves_of c.args.view.now.waves.now in
    let place = c.args.place in
    let j = c.in-Some.element.now in
    let least = c.period-period.ensures.shortest in
    let below : 0 < period circuit.header = omega (arith, least, c.period-period.ensures.is) in
    let driven : driver circuit place.net ≡ Some j =
    ap (instance_in circuit) c.in-Some.ensures.number ∙ c.in-Some.ensures.found in
    all_pins circuit ws j place (gathered c.add_pins.new.out) below driven
    (subst (λ (l : List (ℤ × ℤ)). AreThrough circuit ws j place (length j.pins) l (gathered c.add_pins.new.out)) (ap gathered none)
    (c.in_ok-fits-in-Some.ensures.gathered exact fits))

pub returns-in_ok-fits-in-Some-clause-ways : goal.returns-in_ok-fits-in-Some-clause-ways
returns-in_ok-fits-in-Some-clause-ways g c = λ exact none.
    c.in_ok-fits-in-Some.ensures.ways exact (no_ways c.args.view.now.circuit.now (waves_of c.args.view.now.waves.now)
    c.args.self.now.nodes c.args.place c.args.out.now none)

pub returns-in_ok-add_edges-in-None-clause-ways : goal.returns-in_ok-add_edges-in-None-clause-ways
returns-in_ok-add_edges-in-None-clause-ways g c = λ exact none.
    c.in_ok-add_edges-in-None.ensures.ways c.args.self.now.nodes
    (eqb-true c.args.place.net c.args.place.clock (sym c.is_at_clock.ensures ∙ c.if-not-is_at_clock.false))
    (no_ways c.args.view.now.circuit.now (waves_of c.args.view.now.waves.now)
    c.args.self.now.nodes c.args.place c.args.out.now none)

pub returns-then-not-is_at_clock-clause-ways : goal.returns-then-not-is_at_clock-clause-ways
returns-then-not-is_at_clock-clause-ways g c = λ exact none.
    no_ways c.args.view.now.circuit.now (waves_of c.args.view.now.waves.now)
    c.args.self.now.nodes c.args.place c.args.out.now none

pub returns-then-not-is_net-clause-ways : goal.returns-then-not-is_net-clause-ways
returns-then-not-is_net-clause-ways g c = λ exact none.
    no_ways c.args.view.now.circuit.now (waves_of c.args.view.now.waves.now)
    c.args.self.now.nodes c.args.place c.args.out.now none

pub returns-then-not-is_net-clause-fits : goal.returns-then-not-is_net-clause-fits
returns-then-not-is_net-clause-fits g c = λ exact few done.
    sym c.if-not-is_net.true ∙ c.is_net.ensures.net few.net

pub returns-in_ok-fits-in-Some-clause-fits : goal.returns-in_ok-fits-in-Some-clause-fits
returns-in_ok-fits-in-Some-clause-fits g c = c.in_ok-fits-in-Some.ensures.fits
