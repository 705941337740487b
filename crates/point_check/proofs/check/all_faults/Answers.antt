use Rattle.std.proofs.Common.{◌<◌, ◌++◌, List, ap, subst, ◌∙◌, arith}
use Rattle.std.specs.Prelude.{filter_map}
use Rattle.scald_base.specs.Time.{Header, period}
use Rattle.flat_circuit.specs.declared.fault.Fault.{Fault}
use Rattle.fixpoint_engine.specs.Waves.{waves_of}
use Rattle.point_check.specs.Faults.{net_fault}
use Rattle.point_check.proofs.Kept.{keeps_constraints}
use Rattle.point_check.proofs.check.all_faults.Goals as goal

pub returns-clause-faults : goal.returns-clause-faults
returns-clause-faults g c =
    c.in_ok-add_net_faults.ensures
    ∙ ap (λ (l : List Fault). l ++ filter_map (net_fault c.args.c.now (waves_of c.args.waves.now)) c.args.c.now.order) c.in_ok-faults.ensures

pub returns-clause-sound : goal.returns-clause-sound
returns-clause-sound g c =
    keeps_constraints c.args.c.now (waves_of c.args.waves.now) c.add_net_faults.new.faults
    (subst (λ (h : Header). 0 < period h) c.header.ensures (let two = c.known-2.ensures.shortest in omega (arith, two)))
    c.known.ensures c.requires.fit.each_slot
    (c.in_ok-add_net_faults.ensures
    ∙ ap (λ (l : List Fault). l ++ filter_map (net_fault c.args.c.now (waves_of c.args.waves.now)) c.args.c.now.order) c.in_ok-faults.ensures)
