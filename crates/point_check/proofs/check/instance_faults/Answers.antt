use Rattle.std.proofs.Common.{◌≡◌, ℕ, length, ap, ◌∙◌, arith}
use Rattle.std.specs.Prelude.{filter_map}
use Rattle.std.specs.List.{range_with_len}
use Rattle.fixpoint_engine.specs.Waves.{waves_of}
use Rattle.point_check.specs.Faults.{instance_fault}
use Rattle.point_check.proofs.Gathered.{range_found}
use Rattle.point_check.proofs.check.instance_faults.Goals as goal

pub loop-number-preserved : goal.loop-number-preserved
loop-number-preserved g c =
    range_found (instance_fault c.args.c.now (waves_of c.args.waves.now)) c.loop-number.number
    c.loop-number.faults c.add.new.faults c.in_ok-found.found c.loop-number.invariant c.in_ok-found.ensures c.in_ok-add.ensures

pub returns : goal.returns
returns g c =
    let count = c.instance_count-number-end.ensures in
    let all : c.loop-number.number ≡ length c.args.c.now.instances = omega (arith, count) in
    c.loop-number.invariant ∙ ap (λ (n : ℕ). filter_map (instance_fault c.args.c.now (waves_of c.args.waves.now)) (range_with_len 0 n)) all
