use Rattle.std.proofs.Common.{◌≡◌, ◌∙◌, ◌==◌, length, take, ap, arith}
use Rattle.std.specs.List.{list_any}
use Rattle.std.proofs.lemmas.List.{take_all}
use Rattle.flat_circuit.specs.Instances.{out_at, readers_of}
use Rattle.flat_circuit.specs.Circuit.{driver}
use Rattle.fixpoint_engine.specs.Work.{hears_in}
use Rattle.fixpoint_engine.specs.Worklist.{drives_in}
use Rattle.fixpoint_engine.proofs.Listening.{heard_by_reader}
use Rattle.case_analysis.proofs.Coning.{set_same}
use Rattle.case_analysis.proofs.cones.Found.add_hearers.Goals as goal

pub returns : goal.returns
returns c =
    let long : length c.readers_of-reader-items.result.now ≡ length (readers_of c.args.c.now.instances c.args.net) = ap length c.readers_of-reader-items.ensures in
    let all = take_all c.loop-reader.reader-index (readers_of c.args.c.now.instances c.args.net) (omega (arith, long, c.loop-reader-test.false)) in
    set_same
    (λ i. list_any (λ k. drives_in (out_at c.args.c.now.instances k) i) (take c.loop-reader.reader-index (readers_of c.args.c.now.instances c.args.net)))
    (λ i. hears_in (λ j. c.args.net == j) (driver c.args.c.now i))
    c.args.self.now c.loop-reader.self c.loop-reader.invariant
    (λ i. ap (list_any (λ k. drives_in (out_at c.args.c.now.instances k) i)) all ∙ heard_by_reader c.args.c.now c.args.net i c.known.ensures)
