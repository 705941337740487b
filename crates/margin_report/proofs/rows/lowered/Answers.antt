use Rattle.std.proofs.Common.{◌≡◌, ◌+◌, ℕ, sym, ap, subst, ◌∙◌, arith, None}
use Rattle.std.proofs.lemmas.Option.{none-some, same_Some}
use Rattle.scald_base.specs.Time.{period}
use Rattle.fixpoint_engine.specs.Waves.{waves_of}
use Rattle.margin_report.specs.declared.margin.Margin.TheVariants.{Next}
use Rattle.margin_report.specs.Margin.{fault_with, written}
use Rattle.margin_report.proofs.Lowered.{fails, lessens, stays}
use Rattle.margin_report.proofs.rows.lowered.Goals as goal

pub returns-in_default-clause-is : goal.returns-in_default-clause-is
returns-in_default-clause-is g c = λ cases one numbered here is.
    let shortest = c.known.ensures.shortest in
    let same = ap period c.header.ensures in
    stays c.args.c.now cases one c.args.row.instance c.args.checker.now c.args.row.parameter (waves_of c.args.waves.now) here
    (omega (arith, shortest, same)) c.args.row.margin is (λ more has. absurd (none-some more (c.in_default.ensures ∙ has)))

pub returns-in_default-2-clause-is : goal.returns-in_default-2-clause-is
returns-in_default-2-clause-is g c = λ cases one numbered here is.
    let d = c.args.c.now in
    let k = c.args.row.instance in
    let j = c.args.checker.now in
    let p = c.args.row.parameter in
    let ws = waves_of c.args.waves.now in
    let shortest = c.known.ensures.shortest in
    let same = ap period c.header.ensures in
    stays d cases one k j p ws here (omega (arith, shortest, same)) c.args.row.margin is
    (λ more has. subst (λ (m : ℕ). fault_with d ws k j p (written j.limits p + m) ≡ None)
    (same_Some c.in-Some.more more (c.in-Some.ensures ∙ has)) (sym c.in_ok-found.ensures ∙ c.in_default-2.is))

pub returns-then-is_some-clause-is : goal.returns-then-is_some-clause-is
returns-then-is_some-clause-is g c = λ cases one numbered here is.
    let shortest = c.known.ensures.shortest in
    let same = ap period c.header.ensures in
    fails c.args.c.now cases one c.args.row.instance c.args.checker.now c.args.row.parameter (waves_of c.args.waves.now) here
    (omega (arith, shortest, same)) c.in_ok-fault_with.field-0 c.in_ok-fault_with.ensures (sym c.is_some.ensures ∙ c.if-is_some.true)

pub returns-clause-is : goal.returns-clause-is
returns-clause-is g c = λ cases one numbered here is.
    let shortest = c.known.ensures.shortest in
    let same = ap period c.header.ensures in
    ap (λ (number : ℕ). Next c.in_ok-more.more number c.in_ok-more.fault) (sym numbered)
    ∙ lessens c.args.c.now cases one c.args.row.instance c.args.checker.now c.args.row.parameter (waves_of c.args.waves.now) here
    (omega (arith, shortest, same)) c.args.row.margin c.in-Some.more c.in_ok-more.more c.in_ok-more.fault is (sym c.in-Some.ensures)
    c.in_ok-more.ensures.sooner c.in_ok-more.ensures.stops
