use Rattle.std.proofs.Common.{◌≡◌, ◌∙◌, ◌&&◌, length, take, ap, arith, slice_get}
use Rattle.std.specs.List.{list_any}
use Rattle.std.proofs.lemmas.List.{take_all}
use Rattle.flat_circuit.specs.Instances.{readers_of}
use Rattle.fixpoint_engine.specs.Settled.{marked_in}
use Rattle.case_analysis.proofs.Coning.{set_same}
use Rattle.drawing_notes.specs.Paths.{leads}
use Rattle.drawing_notes.specs.Search.{passes_to}
use Rattle.drawing_notes.proofs.Stepping.{led_by_readers}
use Rattle.drawing_notes.proofs.found.Found.add_after.Goals as goal

pub returns : goal.returns
returns c =
    let readers = readers_of c.args.c.now.instances c.args.net in
    let long : length c.readers_of-reader-items.result.now ≡ length readers = ap length c.readers_of-reader-items.ensures in
    let all = take_all c.loop-reader.reader-index readers (omega (arith, long, c.loop-reader-test.false)) in
    set_same
    (λ i. marked_in c.args.within.now i && list_any (λ k. passes_to (slice_get c.args.c.now.instances k) i) (take c.loop-reader.reader-index readers))
    (λ i. marked_in c.args.within.now i && leads c.args.c.now c.args.net i)
    c.args.self.now c.loop-reader.self c.loop-reader.invariant
    (λ i. ap (λ b. marked_in c.args.within.now i && b)
    (ap (list_any (λ k. passes_to (slice_get c.args.c.now.instances k) i)) all ∙ led_by_readers c.args.c.now c.args.net i c.known.ensures))
