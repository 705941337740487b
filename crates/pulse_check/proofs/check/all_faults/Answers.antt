use Rattle.std.proofs.Common.{◌≡◌, ◌<◌, ℕ, length, ap, subst, ◌∙◌, arith}
use Rattle.std.specs.List.{flat_map, range_with_len}
use Rattle.scald_base.specs.Time.{Header, period}
use Rattle.fixpoint_engine.specs.Waves.{waves_of}
use Rattle.pulse_check.specs.Faults.{instance_faults}
use Rattle.pulse_check.proofs.Gathered.{flat_more}
use Rattle.pulse_check.proofs.Kept.{keeps_widths}
use Rattle.pulse_check.proofs.check.all_faults.Goals as goal

pub loop-number-preserved : goal.loop-number-preserved
loop-number-preserved g c =
    flat_more (instance_faults c.args.c.now (waves_of c.args.waves.now)) c.loop-number.number c.loop-number.faults c.add_faults.new.faults
    c.loop-number.invariant c.in_ok-add_faults.ensures

pub returns-clause-sound : goal.returns-clause-sound
returns-clause-sound g c =
    let ws = waves_of c.args.waves.now in
    let count = c.instance_count-number-end.ensures in
    let all : c.loop-number.number ≡ length c.args.c.now.instances = omega (arith, count) in
    keeps_widths c.args.c.now ws c.loop-number.faults
    (subst (λ (h : Header). 0 < period h) c.header.ensures (let two = c.known-2.ensures.shortest in omega (arith, two)))
    c.known.ensures c.requires.fit.each_slot
    (c.loop-number.invariant ∙ ap (λ (n : ℕ). flat_map (instance_faults c.args.c.now ws) (range_with_len 0 n)) all)
