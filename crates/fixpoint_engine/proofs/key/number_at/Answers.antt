use Rattle.std.proofs.Common.{◌<◌, ◌∙◌, length, sym, ap, subst}
use Rattle.flat_circuit.specs.Instances.{TargetExists}
use Rattle.pin_waves.specs.Interface.{constant_wave}
use Rattle.fixpoint_engine.specs.Table.{waves_at}
use Rattle.fixpoint_engine.proofs.TableByNumber.{number_below, number_reads}
use Rattle.fixpoint_engine.specs.Waves.{target_wave, waves_of}
use Rattle.fixpoint_engine.proofs.Added.{known_number, read_number}
use Rattle.fixpoint_engine.proofs.KeyPins.{constant_number}
use Rattle.fixpoint_engine.proofs.key.number_at.Goals as goal

pub returns-in-Net-clause-known : goal.returns-in-Net-clause-known
returns-in-Net-clause-known c h table are known =
    known_number (λ m. m < length table) c.args.numbers.now c.in-Net.net known (subst (TargetExists (length c.args.numbers.now)) c.in-Net.is c.requires)

pub returns-in-Net-clause-is : goal.returns-in-Net-clause-is
returns-in-Net-clause-is c h table are =
    sym (read_number table c.args.numbers.now c.in-Net.net (subst (TargetExists (length c.args.numbers.now)) c.in-Net.is c.requires))
    ∙ ap (target_wave h (waves_of (waves_at table c.args.numbers.now))) (sym c.in-Net.is)

pub returns-in-Constant-clause-known : goal.returns-in-Constant-clause-known
returns-in-Constant-clause-known c h table are known =
    number_below table (constant_wave h c.in-Constant.one) c.of.result (constant_number h table c.args.constants c.in-Constant.one c.of.result are c.of.ensures)

pub returns-in-Constant-clause-is : goal.returns-in-Constant-clause-is
returns-in-Constant-clause-is c h table are =
    number_reads table (constant_wave h c.in-Constant.one) c.of.result (constant_number h table c.args.constants c.in-Constant.one c.of.result are c.of.ensures)
    ∙ ap (target_wave h (waves_of (waves_at table c.args.numbers.now))) (sym c.in-Constant.is)
