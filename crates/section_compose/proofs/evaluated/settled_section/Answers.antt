use Rattle.std.proofs.Common.{◌≡◌, ◌∙◌, ap}
use Rattle.fixpoint_engine.specs.Table.{waves_at}
use Rattle.fixpoint_engine.specs.Waves.{waves_of}
use Rattle.timing_analysis.specs.Case.{faults_of}
use Rattle.section_compose.specs.Rules.{circuits}
use Rattle.section_compose.specs.Settled.{settling_in}
use Rattle.section_compose.proofs.Begun.{ends, is_settled}
use Rattle.section_compose.proofs.evaluated.settled_section.Goals as goal

pub returns-in-Err-clause-unsettled : goal.returns-in-Err-clause-unsettled
returns-in-Err-clause-unsettled g c =
    ends (circuits c.args.sections.now) c.args.c.now c.in_ok-case.case c.in_ok-case.ensures c.in-Err.end c.in-Err.ensures.unsettled

pub returns-clause-settled : goal.returns-clause-settled
returns-clause-settled g c =
    let s = c.in-Ok.settled in
    is_settled (circuits c.args.sections.now) c.args.c.now c.in_ok-case.case c.in_ok-case.ensures
    (settling_in s.rounds c.settled.new.store s.numbers) c.in-Ok.ensures.settled

pub returns-clause-faults : goal.returns-clause-faults
returns-clause-faults g c =
    let s = c.in-Ok.settled in
    let same : c.new-waves.result ≡ waves_at c.settled.new.store s.numbers =
    c.new-waves.ensures ∙ ap (λ t. waves_at t c.as_slice.result.now) c.waves.ensures ∙ ap (waves_at c.settled.new.store) c.as_slice.ensures in
    c.in_ok-found.ensures.are ∙ ap (λ ws. faults_of c.args.c.now (waves_of ws)) same
