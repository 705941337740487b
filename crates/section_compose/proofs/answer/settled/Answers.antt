use Rattle.std.proofs.Common.{◌∙◌, ◌++◌, ◌+◌, ◌≤◌, max, length, refl, ap, subst, arith}
use Rattle.fixpoint_engine.specs.End.{EndsFor}
use Rattle.fixpoint_engine.specs.Start.{default_limit}
use Rattle.listing.specs.Answer.{unsettled_line}
use Rattle.listing.specs.End.{last_line}
use Rattle.section_compose.specs.Rules.{circuits}
use Rattle.section_compose.specs.Answer.{Concluded}
use Rattle.section_compose.specs.Evaluated.{section_round}
use Rattle.section_compose.specs.Lines.{section_line, sections_line}
use Rattle.section_compose.specs.Outcome.{verdict_of}
use Rattle.section_compose.specs.Settled.{settling_in}
use Rattle.section_compose.proofs.Answered.{replied_so, unsettled_so}
use Rattle.section_compose.proofs.Fronts.{front_more, front_none, front_stops, front_whole, stops_so}
use Rattle.section_compose.proofs.answer.settled.Goals as goal

pub loop-s-init : goal.loop-s-init
loop-s-init c =
    front_none c.args.sections.now c.new-report.result.bytes c.new-report.result.tick c.new-report.result.total
    c.new-report.ensures.bytes c.new-report.ensures.tick c.new-report.ensures.none

pub loop-s-preserved : goal.loop-s-preserved
loop-s-preserved c =
    let sections = c.args.sections.now in
    let settling = c.in-Ok.settling in
    let here = settling_in settling.settled.rounds settling.store settling.settled.numbers in
    let faults = c.in-Ok.ensures.faults in
    let before = c.loop-s.report in
    let after = c.add_section.new.self in
    front_more sections c.loop-s.s before.bytes before.tick before.total c.loop-s.invariant c.index-sections-s.result c.loop-s-test.true c.index-sections-s.is
    here after.bytes after.tick after.total (c.loop-s.s + 1) c.in-Ok.ensures.settled refl
    c.in_ok-add_section-in-Ok.ensures.lines
    (c.in_ok-add_section-in-Ok.ensures.tick ∙ ap (max before.tick) c.in-Ok.ensures.tick)
    (c.in_ok-add_section-in-Ok.ensures.counted ∙ ap (λ fs. before.total + length fs) faults)
    (subst (λ fs. length fs ≤ 458752) faults c.in-Ok.ensures.few)

pub returns-in-Err-Unsettled : goal.returns-in-Err-Unsettled
returns-in-Err-Unsettled c =
    let sections = c.args.sections.now in
    let x = c.index-sections-s.result in
    let end = c.in-Err-Unsettled in
    let stopped = subst (EndsFor x.circuit.order (section_round (circuits sections) x.circuit) (default_limit x.circuit)) end.field-0-is end.ensures.unsettled in
    unsettled_so c.unsettled.result (λ reply. reply.outcome) (λ reply. reply.bytes) (c.loop-s.s + 1) end.net end.round _ _
    (λ net round. section_line (c.loop-s.s + 1) ++ unsettled_line x.circuit net round) (Concluded sections) end.net-is end.round-is
    c.unsettled.ensures.outcome c.unsettled.ensures.bytes
    (stops_so sections c.loop-s.s end.net end.round (c.loop-s.s + 1) x.circuit c.requires.kept
    (front_stops sections c.loop-s.s c.loop-s.report.bytes c.loop-s.report.tick c.loop-s.report.total c.loop-s.invariant x c.loop-s-test.true
    c.index-sections-s.is end.net stopped.0)
    refl stopped.1 _ _ refl refl)

pub returns : goal.returns
returns c =
    let sections = c.args.sections.now in
    let report = c.loop-s.report in
    let past : length sections ≤ c.loop-s.s = omega arith in
    replied_so c.end.result (λ reply. reply.outcome) (λ reply. reply.bytes)
    (verdict_of report.total) (report.bytes ++ (sections_line (length sections) report.tick ++ last_line report.total)) (Concluded sections)
    c.end.ensures.outcome c.end.ensures.bytes
    (front_whole sections c.loop-s.s report.bytes report.tick report.total c.loop-s.invariant past c.requires.kept _ _ refl refl)
