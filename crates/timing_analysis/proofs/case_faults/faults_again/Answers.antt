use Rattle.timing_analysis.proofs.Counts.{few_both}
use Rattle.timing_analysis.proofs.Headline.{keeps_faultless, some_period}
use Rattle.timing_analysis.proofs.case_faults.faults_again.Goals as goal

pub returns-clause-few : goal.returns-clause-few
returns-clause-few g c =
    few_both c.args.circuit.now _ c.in_ok-faults.faults c.in_ok-pulses.pulses _ c.in_ok-faults.ensures.faults c.in_ok-pulses.ensures.faults c.in_ok-append_faults.ensures c.known.ensures

pub returns-clause-keep : goal.returns-clause-keep
returns-clause-keep g c values base rounds permits =
    keeps_faultless c.args.circuit.now _ c.in_ok-faults.faults c.in_ok-pulses.pulses _ (some_period _ _ c.header.ensures c.known-2.ensures.shortest) c.known.ensures c.requires.fit.each_slot
    c.in_ok-faults.ensures.sound c.in_ok-pulses.ensures.sound c.in_ok-append_faults.ensures values base rounds permits
