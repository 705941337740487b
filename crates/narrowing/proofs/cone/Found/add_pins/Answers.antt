use Rattle.std.proofs.Common.{◌+◌, ap, arith, take}
use Rattle.std.proofs.lemmas.List.{take_all}
use Rattle.case_analysis.proofs.Coning.{set_same}
use Rattle.narrowing.specs.Cone.{any_leads}
use Rattle.narrowing.proofs.Behind.{extends_more, extends_none, leads_more}
use Rattle.narrowing.proofs.cone.Found.add_pins.Goals as goal

pub loop-place-init : goal.loop-place-init
loop-place-init c = extends_none c.args.self.now

pub loop-place-preserved : goal.loop-place-preserved
loop-place-preserved c =
    let place = c.loop-place.place in
    let pins = c.args.pins.now in
    extends_more (λ i. any_leads c.args.through c.args.kind i 0 (take place pins)) _
    (λ i. any_leads c.args.through c.args.kind i 0 (take (place + 1) pins)) c.args.self.now c.loop-place.self
    c.add_pin.new.self c.loop-place.invariant c.in_ok-add_pin.ensures
    (λ i. leads_more c.args.through c.args.kind i place pins _ c.leads.result (omega arith) c.leads.ensures)

pub returns : goal.returns
returns c =
    let pins = c.args.pins.now in
    set_same (λ i. any_leads c.args.through c.args.kind i 0 (take c.loop-place.place pins))
    (λ i. any_leads c.args.through c.args.kind i 0 pins) c.args.self.now c.loop-place.self c.loop-place.invariant
    (λ i. ap (any_leads c.args.through c.args.kind i 0) (take_all c.loop-place.place pins (omega arith)))
