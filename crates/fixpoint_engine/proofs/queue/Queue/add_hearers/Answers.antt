use Rattle.std.proofs.Common.{◌≡◌, ◌∙◌, ◌&&◌, ◌==◌, length, take, ap, arith}
use Rattle.std.specs.List.{list_any}
use Rattle.std.proofs.lemmas.List.{take_all}
use Rattle.flat_circuit.specs.Instances.{out_at, readers_of}
use Rattle.flat_circuit.specs.Circuit.{driver}
use Rattle.fixpoint_engine.specs.Members.{is_evaluated}
use Rattle.fixpoint_engine.specs.Work.{hears_in}
use Rattle.fixpoint_engine.specs.Worklist.{drives_in}
use Rattle.fixpoint_engine.proofs.Listening.{adds_same, heard_by_reader}
use Rattle.fixpoint_engine.proofs.queue.Queue.add_hearers.Goals as goal

pub returns : goal.returns
returns c =
    let long : length c.readers_of-reader-items.result.now ≡ length (readers_of c.args.c.now.instances c.args.net) = ap length c.readers_of-reader-items.ensures in
    let all = take_all c.loop-reader.reader-index (readers_of c.args.c.now.instances c.args.net) (omega (arith, long, c.loop-reader-test.false)) in
    adds_same
    (λ i. is_evaluated c.args.active.now c.args.classes.now i && list_any (λ k. drives_in (out_at c.args.c.now.instances k) i)
    (take c.loop-reader.reader-index (readers_of c.args.c.now.instances c.args.net)))
    (λ i. is_evaluated c.args.active.now c.args.classes.now i && hears_in (λ j. c.args.net == j) (driver c.args.c.now i))
    c.args.self.now c.loop-reader.self c.loop-reader.invariant
    (λ i. ap (λ b. is_evaluated c.args.active.now c.args.classes.now i
    && b) (ap (list_any (λ k. drives_in (out_at c.args.c.now.instances k) i)) all ∙ heard_by_reader c.args.c.now c.args.net i c.known.ensures))
