use Rattle.std.proofs.Common.{◌<◌, length, subst}
use Rattle.section_compose.specs.declared.section.Section.{Section}
use Rattle.section_compose.proofs.Answered.{broken_place}
use Rattle.section_compose.proofs.answer.broken_in.Goals as goal

pub returns-clause-place : goal.returns-clause-place
returns-clause-place c of_net =
    let x = c.index-sections-broken.result in
    let is = c.index-sections-broken.is in
    subst (λ (s : Section). c.args.broken.net < length s.circuit.order) is
    (broken_place c.args.sections.now c.args.broken c.requires x is of_net)
