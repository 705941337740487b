use Rattle.std.proofs.Common.{◌≡◌, ◌∙◌, ◌<◌, ℕ, List, length, refl, sym, subst, take, arith}
use Rattle.std.proofs.lemmas.List.{take_all}
use Rattle.std.proofs.lemmas.Result.{err_from_is_err_and}
use Rattle.flat_circuit.specs.declared.case.CaseValue.{CaseValue}
use Rattle.timing_analysis.specs.Case.{Case, Listed, numbered}
use Rattle.timing_analysis.specs.Settled.{IsSettledCase}
use Rattle.timing_analysis.proofs.Ends.{base_early}
use Rattle.timing_analysis.proofs.Stored.{ends_from}
use Rattle.fixpoint_engine.specs.Table.{waves_at}
use Rattle.program_call.specs.Reporter.{OfCases}
use Rattle.program_call.proofs.Reporting.{ends_early, here, next_listed, of_none}
use Rattle.draw_report.specs.declared.sought.Found.TheVariants.{Nothing}
use Rattle.draw_report.specs.declared.sought.Sought.{Sought}
use Rattle.draw_report.specs.Case.{IsSought}
use Rattle.draw_report.proofs.Seeking.{none_sought, of_sought}
use Rattle.draw_report.proofs.sought.seek.Goals as goal

pub returns-in_err-base-clause-ended : goal.returns-in_err-base-clause-ended
returns-in_err-base-clause-ended g c =
    let p = err_from_is_err_and c.from_residual.result c.from_residual.ensures.1 in
    rw (p.1, p.2) (base_early c.args.subject.now.circuit c.args.subject.now.cases c.args.limit
    c.in_err-base.field-0.0 c.in_err-base.ensures.unsettled)

pub loop-place-init : goal.loop-place-init
loop-place-init g c =
    let base = c.in_ok-base.base.base.rounds in
    let circuit = c.args.subject.now.circuit in
    let none : Sought = record { found = Nothing; faults = 0 } in
    record {
      so_far = of_none circuit c.args.limit base
          (λ (some : List Case). IsSought none c.args.asked circuit base some)
          (none_sought circuit base c.args.asked none refl refl);
      few = omega arith;
      settled = c.in_ok-base.ensures.settled;
      same = refl;
    }

pub add_case-requires-clause-known : goal.add_case-requires-clause-known
add_case-requires-clause-known g c = c.in_ok-case.ensures.settled.are

pub add_case-requires-clause-fit : goal.add_case-requires-clause-fit
add_case-requires-clause-fit g c = c.in_ok-case.ensures.settled.settled.fit

pub add_case-requires-clause-room : goal.add_case-requires-clause-room
add_case-requires-clause-room g c =
    let few = c.loop-place.invariant.few in
    let one = c.in_ok-case.ensures.settled.settled.few in
    let len = c.len-place-end.ensures in
    let test = c.loop-place-test.true in
    let cases = c.requires.is.few in
    omega (arith, few, one, len, test, cases)

pub returns-in_err-case-clause-ended : goal.returns-in_err-case-clause-ended
returns-in_err-case-clause-ended g c =
    let p = err_from_is_err_and c.from_residual-in_err-case.result
    c.from_residual-in_err-case.ensures.1 in
    let len = c.len-place-end.ensures in
    let test = c.loop-place-test.true in
    let cases = c.args.subject.now.cases in
    let place = c.loop-place.place in
    let inside : place < length cases = omega (arith, len, test) in
    let circuit = c.args.subject.now.circuit in
    let base = c.in_ok-base.base.base.rounds in
    let invariant = c.loop-place.invariant in
    rw (p.1, p.2) (ends_early cases place inside circuit c.args.limit base _ c.in_err-case.field-0.0
    c.in_ok-base.ensures.settled.settled.settled.settles invariant.so_far
    (ends_from circuit c.args.limit base c.loop-place.base.base.rounds (here cases place inside)
    c.in_err-case.field-0.0 invariant.same
    c.in_err-case.ensures.unsettled))

pub loop-place-preserved : goal.loop-place-preserved
loop-place-preserved g c =
    let len = c.len-place-end.ensures in
    let test = c.loop-place-test.true in
    let cases = c.args.subject.now.cases in
    let place = c.loop-place.place in
    let inside : place < length cases = omega (arith, len, test) in
    let circuit = c.args.subject.now.circuit in
    let limit = c.args.limit in
    let base = c.in_ok-base.base.base.rounds in
    let invariant = c.loop-place.invariant in
    let case = c.in_ok-case.case in
    let few = invariant.few in
    let count = c.in_ok-add_case.ensures.count in
    let settled =
    subst (λ (b : ℕ). IsSettledCase circuit limit b (here cases place inside) case.number
    case.settled.rounds case.tick (waves_at c.case.new.settled_base.store case.settled.numbers)
    case.faults) invariant.same
    c.in_ok-case.ensures.settled.settled in
    let one = settled.few in
    record {
      so_far =
          subst (λ (ls : List Listed). OfCases circuit limit base ls
          (λ (some : List Case). IsSought c.add_case.new.sought c.args.asked circuit base some))
          (sym (next_listed cases place inside))
          (of_sought circuit base limit c.args.asked (numbered 1 (take place cases))
          (here cases place inside) case.number case.settled.rounds case.tick
          (waves_at c.case.new.settled_base.store case.settled.numbers) case.faults _ _
          settled count c.in_ok-add_case.ensures.found invariant.so_far);
      few = omega (arith, few, count, one);
      settled = c.in_ok-case.ensures.kept;
      same = c.in_ok-case.ensures.round ∙ invariant.same;
    }

pub returns-in_err-add_case-clause-ended : goal.returns-in_err-add_case-clause-ended
returns-in_err-add_case-clause-ended g c =
    let p = err_from_is_err_and c.from_residual-in_err-add_case.result
    c.from_residual-in_err-add_case.ensures.1 in
    rw (p.1, p.2) tt

pub returns-in_err-add_only_case-clause-ended : goal.returns-in_err-add_only_case-clause-ended
returns-in_err-add_only_case-clause-ended g c =
    let p = err_from_is_err_and c.from_residual-in_err-add_only_case.result
    c.from_residual-in_err-add_only_case.ensures.1 in
    rw (p.1, p.2) tt

pub add_only_case-requires-clause-room : goal.add_only_case-requires-clause-room
add_only_case-requires-clause-room g c =
    let few = c.loop-place.invariant.few in
    let len = c.len-place-end.ensures in
    let past = c.loop-place-test.false in
    let most = c.loop-place.auto.place-end in
    omega (arith, few, len, past, most)

pub returns-clause-found : goal.returns-clause-found
returns-clause-found g c =
    let len = c.len-place-end.ensures in
    let past = c.loop-place-test.false in
    let cases = c.args.subject.now.cases in
    let circuit = c.args.subject.now.circuit in
    let limit = c.args.limit in
    let asked = c.args.asked in
    let base = c.loop-place.base.base.rounds in
    let invariant = c.loop-place.invariant in
    let whole : take c.loop-place.place cases ≡ cases =
    take_all c.loop-place.place cases (omega (arith, len, past)) in
    let sought = c.loop-place.sought in
    let so_far =
    subst (λ (xs : List (List CaseValue)). OfCases circuit limit base (numbered 1 xs)
    (λ (some : List Case). IsSought sought asked circuit base some)) whole
    (subst (λ (b : ℕ). OfCases circuit limit b (numbered 1 (take c.loop-place.place cases))
    (λ (some : List Case). IsSought sought asked circuit b some))
    (sym invariant.same) invariant.so_far) in
    record {
      base = base;
      settles = invariant.settled.settled.settled.settles;
      of_cases = c.in_ok-add_only_case.ensures so_far;
    }
