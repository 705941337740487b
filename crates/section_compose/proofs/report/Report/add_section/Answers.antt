use Rattle.std.proofs.Common.{◌≡◌, ◌∙◌, ◌++◌, ap}
use Rattle.fixpoint_engine.specs.Table.{waves_at}
use Rattle.fixpoint_engine.specs.Waves.{waves_of}
use Rattle.listing.specs.declared.case.Mode.TheVariants.{Faults}
use Rattle.listing.specs.Case.{case_lines}
use Rattle.listing.specs.Head.{head}
use Rattle.section_compose.specs.Lines.{section_line}
use Rattle.section_compose.proofs.Fronts.{lines_joined}
use Rattle.section_compose.proofs.report.Report.add_section.Goals as goal

pub returns-clause-lines : goal.returns-clause-lines
returns-clause-lines g c =
    let circuit = c.args.section.now.circuit in
    let settling = c.args.settling.now in
    let numbers = settling.settled.numbers in
    let same : c.new-waves.result ≡ waves_at settling.store numbers =
    c.new-waves.ensures ∙ ap (λ t. waves_at t c.as_slice.result.now) c.waves.ensures ∙ ap (waves_at settling.store) c.as_slice.ensures in
    lines_joined c.args.self.now.bytes c.add_section.new.out c.begin_report.new.out c.write_case.new.out
    (section_line c.args.number) (head c.args.section.now.version circuit)
    (case_lines circuit Faults 0 settling.settled.rounds 0 settling.tick (waves_of c.new-waves.result) settling.faults)
    c.in_ok-add_section.ensures c.in_ok-begin_report.ensures.ok c.in_ok-write_case.ensures.ok
    ∙ (λ k. c.args.self.now.bytes ++ (section_line c.args.number ++ (head c.args.section.now.version circuit
    ++ case_lines circuit Faults 0 settling.settled.rounds 0 (c.requires.tick k) (waves_of (same k)) (c.requires.found k))))
