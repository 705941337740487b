use Rattle.std.proofs.Common.{sym}
use Rattle.section_compose.specs.Rule.{number_of}
use Rattle.section_compose.proofs.Within.{first_within}
use Rattle.section_compose.specs.declared.outcome.SectionsOutcome.TheVariants.{BadSection}
use Rattle.section_compose.specs.Answer as answer
use Rattle.section_compose.specs.Answer.{Concluded}
use Rattle.section_compose.specs.Lines.{broken_line}
use Rattle.section_compose.proofs.Answered.{replied_so}
use Rattle.section_compose.proofs.answer.joined.Goals as goal

pub broken_in-requires : goal.broken_in-requires
broken_in-requires c = first_within c.args.sections.now c.in-Some.broken (sym c.in-Some.ensures)

pub returns-in-Some : goal.returns-in-Some
returns-in-Some c =
    let b = c.in-Some.broken in
    let circuit = c.broken_in.result.now in
    replied_so c.bad_section.result (λ reply. reply.outcome) (λ reply. reply.bytes)
    (BadSection b.section (number_of b.rule) b.net) (broken_line b.rule b.section circuit b.net) (Concluded c.args.sections.now)
    c.bad_section.ensures.outcome c.bad_section.ensures.bytes
    (answer.broken b circuit (sym c.in-Some.ensures) c.broken_in.ensures.section)
