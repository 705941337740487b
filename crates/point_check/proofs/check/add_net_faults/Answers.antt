use Rattle.std.proofs.Common.{◌≡◌, ◌++◌, ℕ, List, length, take, ap, ◌∙◌, arith}
use Rattle.std.specs.Prelude.{filter_map}
use Rattle.std.proofs.Math.Seq.{take-length}
use Rattle.fixpoint_engine.specs.Waves.{waves_of}
use Rattle.flat_circuit.proofs.Numbered.{order_long}
use Rattle.point_check.specs.Faults.{net_fault}
use Rattle.point_check.proofs.Gathered.{order_found}
use Rattle.point_check.proofs.check.add_net_faults.Goals as goal

pub loop-place-preserved : goal.loop-place-preserved
loop-place-preserved g c =
    let long = order_long c.args.c.now.nets c.args.c.now.order c.known.ensures.by_name in
    let count = c.net_count-place-end.ensures in
    order_found (net_fault c.args.c.now (waves_of c.args.waves.now)) c.args.c.now.order c.loop-place.place c.net_at.result c.args.faults.now c.loop-place.faults c.add.new.faults c.in_ok-found.found
    (omega (arith, long, count)) c.net_at.ensures c.loop-place.invariant c.in_ok-found.ensures c.in_ok-add.ensures

pub returns : goal.returns
returns g c =
    let long = order_long c.args.c.now.nets c.args.c.now.order c.known.ensures.by_name in
    let count = c.net_count-place-end.ensures in
    let all : c.loop-place.place ≡ length c.args.c.now.order = omega (arith, long, count) in
    c.loop-place.invariant
    ∙ ap (λ (l : List ℕ). c.args.faults.now ++ filter_map (net_fault c.args.c.now (waves_of c.args.waves.now)) l) (ap (λ (n : ℕ). take n c.args.c.now.order) all ∙ take-length c.args.c.now.order)
