use Rattle.std.proofs.Common.{◌≤◌, ℤ, sym, ap, subst, ◌∙◌, arith}
use Rattle.std.proofs.lemmas.Int.{ints}
use Rattle.scald_base.specs.Time.{period}
use Rattle.critical_paths.specs.declared.region.Region.{Region}
use Rattle.critical_paths.specs.Views.{later_by}
use Rattle.slack_rows.specs.Held.{IsClose}
use Rattle.slack_rows.proofs.Gathering.{moved_close}
use Rattle.slack_rows.proofs.sides.moved_to.Goals as goal

pub returns-clause-is : goal.returns-clause-is
returns-clause-is g c =
    let is = c.period.ensures.is in
    let longest = c.period.ensures.longest in
    let small = c.requires.begin in
    c.later.ensures ∙ ap (λ (t : ℤ). later_by t c.args.region) (omega (arith, ints, is, longest, small))

pub returns-clause-close : goal.returns-clause-close
returns-clause-close g c =
    let is = c.period.ensures.is in
    let longest = c.period.ensures.longest in
    let small = c.requires.begin in
    let short : period c.args.view.now.circuit.now.header ≤ 4096 = omega (arith, is, longest) in
    subst (λ (r : Region). IsClose (period c.args.view.now.circuit.now.header) r) (sym c.later.ensures)
    (moved_close (period c.args.view.now.circuit.now.header) c.args.begin c.args.region _ small short c.requires.region
    (omega (arith, ints, is, longest, small)))
