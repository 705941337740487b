use Rattle.std.proofs.Common.{◌≡◌, ◌∙◌, ◌&&◌, length, take, ap, arith, slice_get}
use Rattle.std.specs.List.{list_any}
use Rattle.std.proofs.lemmas.List.{take_all}
use Rattle.flat_circuit.specs.Instances.{readers_of}
use Rattle.fixpoint_engine.specs.Settled.{marked_in}
use Rattle.fixpoint_engine.specs.Waves.{waves_of}
use Rattle.case_analysis.proofs.Coning.{set_same}
use Rattle.drawing_notes.specs.Paths.{leads_in}
use Rattle.drawing_notes.specs.Search.{opens_to}
use Rattle.drawing_notes.proofs.Heeding.{opened_by_readers}
use Rattle.drawing_notes.proofs.found.Found.add_open.Goals as goal

pub returns : goal.returns
returns g c =
    let v = c.args.view.now in
    let circuit = v.circuit.now in
    let ws = waves_of v.waves.now in
    let readers = readers_of circuit.instances c.args.net in
    let long : length c.readers_of-reader-items.result.now ≡ length readers = ap length c.readers_of-reader-items.ensures in
    let all = take_all c.loop-reader.reader-index readers (omega (arith, long, c.loop-reader-test.false)) in
    set_same
    (λ i. marked_in v.within.now i && list_any (λ k. opens_to circuit ws c.args.net (slice_get circuit.instances k) i) (take c.loop-reader.reader-index readers))
    (λ i. marked_in v.within.now i && leads_in circuit ws c.args.net i)
    c.args.self.now c.loop-reader.self c.loop-reader.invariant
    (λ i. ap (λ b. marked_in v.within.now i && b)
    (ap (list_any (λ k. opens_to circuit ws c.args.net (slice_get circuit.instances k) i)) all ∙ opened_by_readers circuit ws c.args.net i c.known.ensures))
